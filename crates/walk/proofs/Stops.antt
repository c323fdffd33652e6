-- Exactly where a plan ends, said of the lists of steps alone: done, none, full and spent each under its condition, and under no other. A plan
-- with enough steps ends after so many; a lower limit spends, any other changes nothing. Assumes nothing.
use mathlib.Core.Path.{◌≡◌, refl, sym, ap, ◌∙◌, subst}
use mathlib.Core.Logic.{◌↔◌}
use mathlib.Core.List.{List, [], ◌∷◌}
use Prim.Native.Nat.{ℕ, zero, suc, ◌+◌, ◌-◌, ◌<◌, ◌≤◌}
use native.Mathlib.Omega.{arith}
use borrow.Author.Tests.{leb-true, leb-false}
use lib.Dec.{leb}
use lib.ListN.{length}
use Rattle.monomial.specs.Monomial.{Mono}
use Rattle.monomial.proofs.Tests.{Tested, passed, failed, test}
use Rattle.wiring.specs.Poly.{Poly}
use Rattle.walk.specs.Walk.{Finds, Rules, Step, level, walked, Run, ended, spent, full, run}
use Rattle.walk.specs.Plan.{Ending, done, none, full_at, spent_at, settled, levels, plan}
use Rattle.walk.specs.Claims.{distinct, RunEnds, RunStops, RunFills, RunFate, Barren, Ends, Lacks, Fills, Spends, Fate, steps_of, endless, SpentBy}
use Rattle.walk.proofs.Runs.{run_exact}

-- ---- the levels
module _ (r : Rules) (n : ℕ) (fs : List (Poly Mono)) where
  walked_next : (k : ℕ) → walked r n fs (suc k) ≡ walked r n fs k + length (level r n fs k)
  unfolding walked
  walked_next k = refl

  walked_grows : (a d : ℕ) → walked r n fs a ≤ walked r n fs (a + d)
  walked_grows a zero = let e : a + 0 ≡ a = omega arith in rw e (omega arith)
  walked_grows a (suc d) =
      let e : a + suc d ≡ suc (a + d) = omega arith in
      let ih : walked r n fs a ≤ walked r n fs (a + d) = walked_grows a d in
      let next : walked r n fs (suc (a + d)) ≡ walked r n fs (a + d) + length (level r n fs (a + d)) = walked_next (a + d) in
      rw e (omega arith)

  pub walked_more : (a b : ℕ) → a ≤ b → walked r n fs a ≤ walked r n fs b
  walked_more a b h = let e : a + (b - a) ≡ b = omega arith in subst (λ (x : ℕ). walked r n fs a ≤ walked r n fs x) e (walked_grows a (b - a))

  barren_next : (k : ℕ) → Barren r n fs k → distinct (level r n fs k) ≡ [] → Barren r n fs (suc k)
  barren_next k b e i h = go (test (leb k i))
    where
      go : Tested (leb k i) → distinct (level r n fs i) ≡ []
      go (passed p) = let j : k ≤ i = leb-true k i p in let q : i ≡ k = omega arith in rw q e
      go (failed p) = b i (leb-false k i p)

module _ (r : Rules) (n : ℕ) (fs : List (Poly Mono)) (limit room cap : ℕ) where
  abbrev level_of : Ending → ℕ
  level_of (done j u l) = j
  level_of (none j u) = j
  level_of (full_at j u) = j
  level_of (spent_at j u) = j

  -- ---- what the levels come to has its fate
  levels_fate : (left k : ℕ) → k + left ≡ suc cap → Barren r n fs k → walked r n fs k ≤ limit → Fate r n fs limit room cap (levels r n fs limit room left k (walked r n fs k))
  unfolding levels settled
  levels_fate zero k c b h = record { last = omega arith; barren = b; steps = refl; within = h }
  levels_fate (suc left) k c b h =
      go (run limit room steps (walked r n fs k) []) ((run_exact limit room steps (walked r n fs k) [] _ h (omega arith)).0 refl) (levels_fate left (suc k) (omega arith))
    where
      steps : List Step
      steps = level r n fs k

      go : (y : Run) → RunFate limit room (level r n fs k) (walked r n fs k) [] y
          → (Barren r n fs (suc k) → walked r n fs (suc k) ≤ limit → Fate r n fs limit room cap (levels r n fs limit room left (suc k) (walked r n fs (suc k))))
          → Fate r n fs limit room cap (settled limit k (levels r n fs limit room left (suc k)) y)
      go (ended t []) f ih =
          let e : walked r n fs (suc k) ≡ t = walked_next r n fs k ∙ sym f.steps in
          let w : walked r n fs (suc k) ≤ limit = subst (λ (x : ℕ). x ≤ limit) (sym e) f.within in
          subst (λ (x : ℕ). Fate r n fs limit room cap (levels r n fs limit room left (suc k) x)) e (ih (barren_next r n fs k b (sym f.sets)) w)
      go (ended t (s ∷ l)) f ih = record {
        low = omega arith;
        barren = b;
        steps = f.steps ∙ sym (walked_next r n fs k);
        within = f.within;
        sets = f.sets;
        some = λ e. let z : ◌≡◌ {A = ℕ} 0 1 = cc in omega arith;
        roomy = f.roomy;
      }
      go spent f ih =
          let o : limit < walked r n fs k + length (level r n fs k) = f.over in
          record { low = omega arith; barren = b; steps = refl; reached = h; over = omega (arith, walked_next r n fs k); roomy = f.roomy }
      go (full t) f ih = record {
        low = omega arith;
        barren = b;
        at = f.at;
        inside = f.inside;
        steps = f.steps;
        within = f.within;
        filled = f.filled;
        more = f.more;
      }

  pub fate : Fate r n fs limit room cap (plan r n fs limit room cap)
  unfolding plan walked
  fate = levels_fate (suc cap) 0 (omega arith) (λ i h. let z : ⊥ = omega arith in absurd z) (omega arith)

  -- ---- and a fate is that of one ending
  reached_of : (e : Ending) → Fate r n fs limit room cap e → walked r n fs (level_of e) ≤ limit
  reached_of (done j u l) f =
      let w : u ≤ limit = f.within in
      let s : u ≡ walked r n fs (suc j) = f.steps in
      omega (arith, walked_more r n fs j (suc j) (omega arith))
  reached_of (none j u) f = let w : u ≤ limit = f.within in let s : u ≡ walked r n fs j = f.steps in omega arith
  reached_of (full_at j u) f = let w : u ≤ limit = f.within in let s : u ≡ walked r n fs j + suc f.at = f.steps in omega arith
  reached_of (spent_at j u) f = f.reached

  barren_of : (e : Ending) → Fate r n fs limit room cap e → Barren r n fs (level_of e)
  barren_of (done j u l) f = f.barren
  barren_of (none j u) f = f.barren
  barren_of (full_at j u) f = f.barren
  barren_of (spent_at j u) f = f.barren

  abbrev run_of : ℕ → Run
  run_of k = run limit room (level r n fs k) (walked r n fs k) []

  run_is : (k : ℕ) (y : Run) → walked r n fs k ≤ limit → RunFate limit room (level r n fs k) (walked r n fs k) [] y → run_of k ≡ y
  run_is k y h f = (run_exact limit room (level r n fs k) (walked r n fs k) [] y h (omega arith)).1 f

  -- a level without a find is passed
  level_passed : (k : ℕ) → walked r n fs (suc k) ≤ limit → distinct (level r n fs k) ≡ [] → run_of k ≡ ended (walked r n fs (suc k)) []
  level_passed k h e =
      run_is k (ended (walked r n fs (suc k)) []) (omega (arith, walked_more r n fs k (suc k) (omega arith)))
      (record { steps = walked_next r n fs k; within = h; sets = sym e; roomy = omega arith })

  -- at its own level an ending is what the run comes to
  abbrev here : ℕ → (ℕ → Ending) → Ending
  here k next = settled limit k next (run_of k)

  here_done : (k u : ℕ) (l : Finds) (next : ℕ → Ending) → Ends r n fs limit room cap k u l → here k next ≡ done k u l
  unfolding settled
  here_done k u [] next f = absurd (f.some refl)
  here_done k u (s ∷ l) next f =
      let y : RunEnds limit room (level r n fs k) (walked r n fs k) [] u (s ∷ l) =
      record { steps = f.steps ∙ walked_next r n fs k; within = f.within; sets = f.sets; roomy = f.roomy } in
      ap (settled limit k next) (run_is k (ended u (s ∷ l)) (reached_of (done k u (s ∷ l)) f) y)

  here_full : (k u : ℕ) (next : ℕ → Ending) → Fills r n fs limit room cap k u → here k next ≡ full_at k u
  unfolding settled
  here_full k u next f =
      let y : RunFills limit room (level r n fs k) (walked r n fs k) [] u =
      record { at = f.at; inside = f.inside; steps = f.steps; within = f.within; filled = f.filled; more = f.more } in
      ap (settled limit k next) (run_is k (full u) (reached_of (full_at k u) f) y)

  here_spent : (k u : ℕ) (next : ℕ → Ending) → Spends r n fs limit room cap k u → here k next ≡ spent_at k u
  unfolding settled
  here_spent k u next f =
      let o : limit < walked r n fs (suc k) = f.over in
      let y : RunStops limit room (level r n fs k) (walked r n fs k) [] = record { over = omega (arith, walked_next r n fs k); roomy = f.roomy } in
      ap (settled limit k next) (run_is k spent f.reached y) ∙ ap (spent_at k) (sym f.steps)

  here_is : (k : ℕ) (next : ℕ → Ending) (e : Ending) → k ≤ cap → level_of e ≡ k → Fate r n fs limit room cap e → here k next ≡ e
  here_is k next (done j u l) h q f = rw (sym q) (here_done j u l next f)
  here_is k next (none j u) h q f = let s : j ≡ suc cap = f.last in let z : ⊥ = omega arith in absurd z
  here_is k next (full_at j u) h q f = rw (sym q) (here_full j u next f)
  here_is k next (spent_at j u) h q f = rw (sym q) (here_spent j u next f)

  -- beyond the cap there is none
  beyond_is : (k : ℕ) (e : Ending) → k ≡ suc cap → k ≤ level_of e → Fate r n fs limit room cap e → none k (walked r n fs k) ≡ e
  beyond_is k (done j u l) c h f = let s : j ≤ cap = f.low in let z : ⊥ = omega arith in absurd z
  beyond_is k (none j u) c h f = let q : k ≡ j = c ∙ sym f.last in rw q (ap (none j) (sym f.steps))
  beyond_is k (full_at j u) c h f = let s : j ≤ cap = f.low in let z : ⊥ = omega arith in absurd z
  beyond_is k (spent_at j u) c h f = let s : j ≤ cap = f.low in let z : ⊥ = omega arith in absurd z

  levels_is : (left k : ℕ) (e : Ending) → k + left ≡ suc cap → k ≤ level_of e → Fate r n fs limit room cap e → levels r n fs limit room left k (walked r n fs k) ≡ e
  unfolding levels settled
  levels_is zero k e c h f = beyond_is k e (omega arith) h f
  levels_is (suc left) k e c h f = go (test (leb (suc k) (level_of e))) (levels_is left (suc k) e (omega arith))
    where
      go : Tested (leb (suc k) (level_of e)) → (suc k ≤ level_of e → Fate r n fs limit room cap e → levels r n fs limit room left (suc k) (walked r n fs (suc k)) ≡ e)
          → here k (levels r n fs limit room left (suc k)) ≡ e
      go (passed p) ih =
          let above : suc k ≤ level_of e = leb-true (suc k) (level_of e) p in
          let y : walked r n fs (level_of e) ≤ limit = reached_of e f in
          let m : walked r n fs (suc k) ≤ walked r n fs (level_of e) = walked_more r n fs (suc k) (level_of e) above in
          ap (settled limit k (levels r n fs limit room left (suc k))) (level_passed k (omega arith) (barren_of e f k above)) ∙ ih above f
      go (failed p) ih = let w : level_of e < suc k = leb-false (suc k) (level_of e) p in here_is k (levels r n fs limit room left (suc k)) e (omega arith) (omega arith) f

  -- each ending comes exactly under its condition
  pub fate_exact : (e : Ending) → (plan r n fs limit room cap ≡ e) ↔ Fate r n fs limit room cap e
  unfolding plan walked
  fate_exact e = ((λ p. subst (Fate r n fs limit room cap) p fate), (λ f. levels_is (suc cap) 0 e (omega arith) (omega arith) f))

  pub done_exact : (j u : ℕ) (l : Finds) → (plan r n fs limit room cap ≡ done j u l) ↔ Ends r n fs limit room cap j u l
  done_exact j u l = fate_exact (done j u l)

  pub none_exact : (j u : ℕ) → (plan r n fs limit room cap ≡ none j u) ↔ Lacks r n fs limit room cap j u
  none_exact j u = fate_exact (none j u)

  pub full_exact : (j u : ℕ) → (plan r n fs limit room cap ≡ full_at j u) ↔ Fills r n fs limit room cap j u
  full_exact j u = fate_exact (full_at j u)

  pub spent_exact : (j u : ℕ) → (plan r n fs limit room cap ≡ spent_at j u) ↔ Spends r n fs limit room cap j u
  spent_exact j u = fate_exact (spent_at j u)

-- ---- what the limit does
module _ (r : Rules) (n : ℕ) (fs : List (Poly Mono)) (room cap : ℕ) where
  abbrev Lasting : Ending → Type 0
  Lasting (done j u l) = Unit {0}
  Lasting (none j u) = Unit {0}
  Lasting (full_at j u) = Unit {0}
  Lasting (spent_at j u) = ⊥

  -- under another limit that allows its steps an ending is the same, unless it is spent
  relimit : (a b : ℕ) (e : Ending) → Lasting e → steps_of e ≤ b → Fate r n fs a room cap e → Fate r n fs b room cap e
  relimit a b (done j u l) t h f = record { low = f.low; barren = f.barren; steps = f.steps; within = h; sets = f.sets; some = f.some; roomy = f.roomy }
  relimit a b (none j u) t h f = record { last = f.last; barren = f.barren; steps = f.steps; within = h }
  relimit a b (full_at j u) t h f = record {
    low = f.low;
    barren = f.barren;
    at = f.at;
    inside = f.inside;
    steps = f.steps;
    within = h;
    filled = f.filled;
    more = f.more;
  }
  relimit a b (spent_at j u) t h f = absurd t

  steps_bound : (a : ℕ) (e : Ending) → Lasting e → Fate r n fs a room cap e → steps_of e ≤ walked r n fs (suc cap)
  steps_bound a (done j u l) t f =
      let s : u ≡ walked r n fs (suc j) = f.steps in
      let low : j ≤ cap = f.low in
      omega (arith, walked_more r n fs (suc j) (suc cap) (omega arith))
  steps_bound a (none j u) t f = let e : u ≡ walked r n fs (suc cap) = f.steps ∙ ap (walked r n fs) f.last in omega arith
  steps_bound a (full_at j u) t f =
      let s : u ≡ walked r n fs j + suc f.at = f.steps in
      let i : f.at < length (level r n fs j) = f.inside in
      let low : j ≤ cap = f.low in
      omega (arith, walked_next r n fs j, walked_more r n fs (suc j) (suc cap) (omega arith))
  steps_bound a (spent_at j u) t f = absurd t

  endless_lasts : (e : Ending) → Fate r n fs (walked r n fs (suc cap)) room cap e → Lasting e
  endless_lasts (done j u l) f = tt
  endless_lasts (none j u) f = tt
  endless_lasts (full_at j u) f = tt
  endless_lasts (spent_at j u) f =
      let o : walked r n fs (suc cap) < walked r n fs (suc j) = f.over in
      let low : j ≤ cap = f.low in
      omega (arith, walked_more r n fs (suc j) (suc cap) (omega arith))

  -- a limit that allows the steps of the endless plan changes nothing
  pub limit_allows : (limit : ℕ) → steps_of (endless r n fs room cap) ≤ limit → plan r n fs limit room cap ≡ endless r n fs room cap
  limit_allows limit h =
      let own : Fate r n fs (walked r n fs (suc cap)) room cap (endless r n fs room cap) = fate r n fs (walked r n fs (suc cap)) room cap in
      (fate_exact r n fs limit room cap (endless r n fs room cap)).1 (relimit (walked r n fs (suc cap)) limit (endless r n fs room cap) (endless_lasts (endless r n fs room cap) own) h own)

  -- and any lower limit is spent
  pub limit_spends : (limit : ℕ) → limit < steps_of (endless r n fs room cap) → SpentBy r n fs room cap limit
  limit_spends limit h = go (plan r n fs limit room cap) refl
    where
      lasting : (e : Ending) → plan r n fs limit room cap ≡ e → Lasting e → steps_of e ≤ limit → SpentBy r n fs room cap limit
      lasting e p t w =
          let f : Fate r n fs limit room cap e = (fate_exact r n fs limit room cap e).0 p in
          let all : ℕ = walked r n fs (suc cap) in
          let same : endless r n fs room cap ≡ e = (fate_exact r n fs all room cap e).1 (relimit limit all e t (steps_bound limit e t f) f) in
          let steps : steps_of (endless r n fs room cap) ≡ steps_of e = ap steps_of same in
          let z : ⊥ = omega arith in
          absurd z

      go : (e : Ending) → plan r n fs limit room cap ≡ e → SpentBy r n fs room cap limit
      go (done j u l) p = lasting (done j u l) p tt ((done_exact r n fs limit room cap j u l).0 p).within
      go (none j u) p = lasting (none j u) p tt ((none_exact r n fs limit room cap j u).0 p).within
      go (full_at j u) p = lasting (full_at j u) p tt ((full_exact r n fs limit room cap j u).0 p).within
      go (spent_at j u) p = record { level = j; is = p ∙ ap (spent_at j) ((spent_exact r n fs limit room cap j u).0 p).steps }
