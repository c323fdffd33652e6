-- Where the monomials of a derivative come from, for any kind of monomials: each is z divided by a variable that z has, times a monomial of
-- that variable's equation. Assumes nothing.
use mathlib.Core.Path.{◌≡◌, subst}
use mathlib.Core.Logic.{⊎_elim}
use mathlib.Core.List.Memᴰ
use mathlib.Core.List.{List, [], ◌∷◌}
use Prim.Native.Nat.{ℕ, suc, ◌+◌}
use native.Mathlib.Omega.{arith}
use lib.IntN.{pos}
use lib.ListN.{get_or}
use Rattle.monomial.specs.Claims.{◌∈◌}
use Rattle.wiring.specs.Poly.{Kind, Term, Poly, monos}
use Rattle.wiring.specs.Derivative.{part, parts_from, derivative}
use Rattle.wiring.proofs.Poly.{monos_append, times_out}
use Rattle.wiring.proofs.derivative.Rules.{Parted, absent, present, parted}

-- m comes from a term of the equation of variable number i
pub record Yields {M : Type 0} (k : Kind M) (z : M) (i : ℕ) (f : Poly M) (m : M) : Type 0 where
  pub term : Term M
  pub listed : term ∈ f
  pub raised : k.power z i ≡ pos 0 → ⊥
  pub is : k.mul (k.over z i) term.1 ≡ m

pub record Derives {M : Type 0} (k : Kind M) (fs : List (Poly M)) (z m : M) : Type 0 where
  pub number : ℕ
  pub by : Yields k z number (get_or fs number []) m

module _ {M : Type 0} (k : Kind M) where
  pub part_yields : (i : ℕ) (z : M) (f : Poly M) (m : M) → m ∈ monos (part k i z f) → Yields k z i f m
  part_yields i z f m h = go (parted k i z f)
    where
      go : Parted k i z f → Yields k z i f m
      go (absent e p) = absurd (Memᴰ.not-nil (subst (λ (q : Poly M). m ∈ monos q) p h))
      go (present n p) =
          let s = times_out k (k.power z i) (k.over z i) f m (subst (λ (q : Poly M). m ∈ monos q) p h) in
          record { term = s.term; listed = s.listed; raised = n; is = s.is }

  -- the summands from number i on: equation j of those is number i + j
  record Later (i : ℕ) (fs : List (Poly M)) (z m : M) : Type 0 where
    step : ℕ
    by : Yields k z (i + step) (get_or fs step []) m

  parts_yield : (i : ℕ) (fs : List (Poly M)) (z m : M) → m ∈ monos (parts_from k i z fs) → Later i fs z m
  unfolding parts_from
  parts_yield i [] z m h = absurd (Memᴰ.not-nil h)
  parts_yield i (f ∷ fs) z m h = ⊎_elim own (λ n. later (parts_yield (suc i) fs z m n)) (monos_append (part k i z f) (parts_from k (suc i) z fs) m h)
    where
      own : m ∈ monos (part k i z f) → Later i (f ∷ fs) z m
      own n = let e : i ≡ i + 0 = omega arith in record { step = 0; by = subst (λ (j : ℕ). Yields k z j f m) e (part_yields i z f m n) }

      later : Later (suc i) fs z m → Later i (f ∷ fs) z m
      later q =
          let e : suc i + q.step ≡ i + suc q.step = omega arith in
          record { step = suc q.step; by = subst (λ (j : ℕ). Yields k z j (get_or fs q.step []) m) e q.by }

  pub derives : (fs : List (Poly M)) (z m : M) → m ∈ monos (derivative k fs z) → Derives k fs z m
  unfolding derivative
  derives fs z m h =
      let q = parts_yield 0 fs z m h in
      let e : 0 + q.step ≡ q.step = omega arith in
      record { number = q.step; by = subst (λ (j : ℕ). Yields k z j (get_or fs q.step []) m) e q.by }
