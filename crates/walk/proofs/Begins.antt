-- Levels begin at the start's size: below it no step is taken, so the plan is that of the levels from there on. Assumes nothing.
use mathlib.Core.Path.{◌≡◌, ap, ◌∙◌}
use mathlib.Core.List.{List}
use Prim.Native.Nat.{ℕ, zero, suc, ◌+◌, ◌-◌, ◌<◌, ◌≤◌}
use native.Mathlib.Omega.{arith}
use lib.ListN.{length}
use Rattle.monomial.specs.Monomial.{Mono}
use Rattle.wiring.specs.Poly.{Poly}
use Rattle.walk.specs.Walk.{Rules, run}
use Rattle.walk.specs.Plan.{settled, levels, plan}
use Rattle.walk.proofs.Steps.{level_shut}

module _ (r : Rules) (n : ℕ) (fs : List (Poly Mono)) (limit room : ℕ) where
  -- a level below the size is skipped
  level_skipped : (left k taken : ℕ) → k < length r.start → levels r n fs limit room (suc left) k taken ≡ levels r n fs limit room left (suc k) taken
  unfolding levels settled run
  level_skipped left k taken h = rw (level_shut r n fs k h)

  levels_skipped : (d left k taken : ℕ) → k + d ≤ length r.start → levels r n fs limit room (d + left) k taken ≡ levels r n fs limit room left (k + d) taken
  levels_skipped zero left k taken h =
      let e : 0 + left ≡ left = omega arith in
      let f : k + 0 ≡ k = omega arith in
      rw (e, f)
  levels_skipped (suc d) left k taken h =
      let e : suc d + left ≡ suc (d + left) = omega arith in
      let f : k + suc d ≡ suc k + d = omega arith in
      let low : suc k + d ≤ length r.start = omega arith in
      rw (e, f) (level_skipped (d + left) k taken (omega arith) ∙ levels_skipped d left (suc k) taken low)

  pub plan_begins : (cap : ℕ) → length r.start ≤ suc cap
      → plan r n fs limit room cap ≡ levels r n fs limit room (suc cap - length r.start) (length r.start) 0
  unfolding plan
  plan_begins cap h =
      let size : ℕ = length r.start in
      let e : suc cap ≡ size + (suc cap - size) = omega arith in
      let f : 0 + size ≡ size = omega arith in
      let skip : levels r n fs limit room (size + (suc cap - size)) 0 0 ≡ levels r n fs limit room (suc cap - size) (0 + size) 0 = levels_skipped size (suc cap - size) 0 0 (omega arith) in
      ap (λ (i : ℕ). levels r n fs limit room i 0 0) e ∙ skip ∙ ap (λ (i : ℕ). levels r n fs limit room (suc cap - size) i 0) f
