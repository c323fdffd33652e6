-- Two walks, of which the second leaves out some steps that find nothing: its levels find the same sets in no more steps, and its plan ends as the
-- other's does, in no more steps. Assumes nothing.
use mathlib.Core.Path.{◌≡◌, refl, sym, ◌∙◌}
use mathlib.Core.Bool.{Bool, true, false, cond}
use mathlib.Core.List.{List, [], ◌∷◌, ◌++◌}
use Prim.Native.Nat.{ℕ, zero, suc, ◌+◌, ◌<◌, ◌≤◌}
use native.Mathlib.Omega.{arith}
use borrow.Author.Tests.{leb-true, leb-false}
use lib.Dec.{leb}
use lib.ListN.{length}
use Rattle.monomial.specs.Lists.{any, gather, insert_by}
use Rattle.monomial.specs.Monomial.{Mono}
use Rattle.monomial.specs.Order.{same_set, before_set}
use Rattle.monomial.specs.Claims.{◌∈◌}
use Rattle.monomial.proofs.Tests.{Tested, passed, failed, test}
use Rattle.monomial.proofs.Members.{here, there}
use Rattle.wiring.specs.Poly.{Poly}
use Rattle.walk.specs.Walk.{Finds, Rules, Step, found, other, level, walked, Run, ended, spent, full, kept, onward, run}
use Rattle.walk.specs.Plan.{Ending, done, none, full_at, spent_at, settled, levels, plan}
use Rattle.walk.specs.Claims.{noted, listed, Barren, Ends, Lacks, steps_of, Fate, Pruned, no_steps, same_step, left_out, Alike, NoMore}
use Rattle.walk.proofs.Steps.{run_stops, run_other, run_found}
use Rattle.walk.proofs.Stops.{fate, done_exact, none_exact, spent_exact}

-- ---- steps of which some are left out
pub pruned_self : (es : List Step) → Pruned es es
pruned_self [] = no_steps
pruned_self (e ∷ es) = same_step e (pruned_self es)

-- all of them may be, where none finds a set
pub pruned_all : (es : List Step) → ((t : List Mono) → found t ∈ es → ⊥) → Pruned [] es
pruned_all [] f = no_steps
pruned_all (other t ∷ es) f = left_out t (pruned_all es (λ s h. f s (there h)))
pruned_all (found s ∷ es) f = absurd (f s here)

pruned_append : {a b c d : List Step} → Pruned a b → Pruned c d → Pruned (a ++ c) (b ++ d)
pruned_append no_steps q = q
pruned_append (same_step e p) q = same_step e (pruned_append p q)
pruned_append (left_out t p) q = left_out t (pruned_append p q)

pub pruned_gather : {A : Type 0} (f g : A → List Step) (l : List A) → ((x : A) → x ∈ l → Pruned (f x) (g x)) → Pruned (gather f l) (gather g l)
unfolding gather
pruned_gather f g [] h = no_steps
pruned_gather f g (x ∷ l) h = pruned_append (h x here) (pruned_gather f g l (λ y m. h y (there m)))

-- no more steps, and the same finds
pruned_length : {es fs : List Step} → Pruned es fs → length es ≤ length fs
pruned_length no_steps = omega arith
pruned_length (same_step e {es} {fs} p) = let ih : length es ≤ length fs = pruned_length p in omega arith
pruned_length {es} (left_out t {fs = fs} p) = let ih : length es ≤ length fs = pruned_length p in omega arith

pruned_listed : {es fs : List Step} → Pruned es fs → (finds : Finds) → listed finds es ≡ listed finds fs
unfolding listed noted
pruned_listed no_steps finds = refl
pruned_listed (same_step e p) finds = pruned_listed p (noted e finds)
pruned_listed (left_out t p) finds = pruned_listed p finds

-- where all levels of a walk are so
pub alike_of : (r r' : Rules) (n : ℕ) (fs : List (Poly Mono)) (cap : ℕ) → ((k : ℕ) → k ≤ cap → Pruned (level r' n fs k) (level r n fs k)) → Alike r r' n fs cap
alike_of r r' n fs cap p = record {
  sets = λ k h. pruned_listed (p k h) [];
  steps = λ k h. pruned_length (p k h);
  pruned = p;
}

-- ---- a run of them, with no more steps before it
-- what a run x has of another: it ends with the same finds, or at the same find for which there is no room, after no more steps
abbrev RunNoMore : Run → Run → Type 0
RunNoMore x (ended t l) = (k : ℕ) × (k ≤ t) × (x ≡ ended k l)
RunNoMore x (full t) = (k : ℕ) × (k ≤ t) × (x ≡ full k)
RunNoMore x spent = Unit {0}

-- the runs that go on from there
abbrev Onwards : (ℕ → Finds → Run) → (ℕ → Finds → Run) → Type 0
Onwards f g = (a b : ℕ) → a ≤ b → (finds : Finds) → RunNoMore (f a finds) (g b finds)

kept_no_more : (room : ℕ) (s : List Mono) (f g : ℕ → Finds → Run) → Onwards f g → (a b : ℕ) → a ≤ b → (finds : Finds)
    → RunNoMore (onward (kept room s a finds) f) (onward (kept room s b finds) g)
unfolding kept onward
kept_no_more room s f g next a b h finds = go (any (same_set s) finds) (leb room (length finds))
  where
    more : Finds
    more = insert_by same_set before_set s finds

    go : (x y : Bool) → RunNoMore (onward (cond x (ended a finds) (cond y (full a) (ended a more))) f) (onward (cond x (ended b finds) (cond y (full b) (ended b more))) g)
    go true y = next a b h finds
    go false true = (a, h, refl)
    go false false = next a b h more

module _ (limit room : ℕ) where
  abbrev runs : List Step → ℕ → Finds → Run
  runs es = run limit room es

  run_no_more : {es fs : List Step} → Pruned es fs → Onwards (runs es) (runs fs)
  unfolding run
  run_no_more no_steps a b h finds = (a, h, refl)
  run_no_more (same_step e {es} {fs} p) a b h finds = step e (test (leb limit b)) (run_no_more p)
    where
      step : (e : Step) → Tested (leb limit b) → Onwards (runs es) (runs fs) → RunNoMore (runs (e ∷ es) a finds) (runs (e ∷ fs) b finds)
      step e (passed q) ih = rw (run_stops limit room fs b finds e (leb-true limit b q)) tt
      step (other t) (failed q) ih =
          let low : b < limit = leb-false limit b q in
          rw (run_other limit room es a finds t (omega arith), run_other limit room fs b finds t low) (ih (suc a) (suc b) (omega arith) finds)
      step (found s) (failed q) ih =
          let low : b < limit = leb-false limit b q in
          rw (run_found limit room es a finds s (omega arith), run_found limit room fs b finds s low)
          (kept_no_more room s (runs es) (runs fs) ih (suc a) (suc b) (omega arith) finds)
  run_no_more {es} (left_out t {fs = fs} p) a b h finds = step (test (leb limit b)) (run_no_more p)
    where
      step : Tested (leb limit b) → Onwards (runs es) (runs fs) → RunNoMore (runs es a finds) (runs (other t ∷ fs) b finds)
      step (passed q) ih = rw (run_stops limit room fs b finds (other t) (leb-true limit b q)) tt
      step (failed q) ih = rw (run_other limit room fs b finds t (leb-false limit b q)) (ih a (suc b) (omega arith) finds)

-- ---- plans
-- as `NoMore`, and nothing at all is said beside a spent one
abbrev EndNoMore : Ending → Ending → Type 0
EndNoMore e (done j u l) = NoMore e (done j u l)
EndNoMore e (none j u) = NoMore e (none j u)
EndNoMore e (full_at j u) = NoMore e (full_at j u)
EndNoMore e (spent_at j u) = Unit {0}

settled_no_more : (limit k : ℕ) (f g : ℕ → Ending) → ((a b : ℕ) → a ≤ b → EndNoMore (f a) (g b)) → (x y : Run) → RunNoMore x y
    → EndNoMore (settled limit k f x) (settled limit k g y)
unfolding settled
settled_no_more limit k f g next x (ended t []) q = rw q.2 (next q.0 t q.1)
settled_no_more limit k f g next x (ended t (s ∷ l)) q = rw q.2 (q.0, q.1, refl)
settled_no_more limit k f g next x spent q = tt
settled_no_more limit k f g next x (full t) q = rw q.2 (q.0, q.1, refl)

module _ (r r' : Rules) (n : ℕ) (fs : List (Poly Mono)) (cap : ℕ) (like : Alike r r' n fs cap) where
  module _ (limit room : ℕ) where
    levels_no_more : (left k : ℕ) → k + left ≤ suc cap → (a b : ℕ) → a ≤ b → EndNoMore (levels r' n fs limit room left k a) (levels r n fs limit room left k b)
    unfolding levels
    levels_no_more zero k h a b i = (a, i, refl)
    levels_no_more (suc left) k h a b i =
        settled_no_more limit k (levels r' n fs limit room left (suc k)) (levels r n fs limit room left (suc k)) (levels_no_more left (suc k) (omega arith))
        (run limit room (level r' n fs k) a []) (run limit room (level r n fs k) b []) (run_no_more limit room (like.pruned k (omega arith)) a b i [])

    within : (e : Ending) → Fate r' n fs limit room cap e → steps_of e ≤ limit
    within (done j u l) f = f.within
    within (none j u) f = f.within
    within (full_at j u) f = f.within
    within (spent_at j u) f = omega (arith, f.steps)

    -- the plan by r' ends as the plan by r, in no more steps
    pub plan_alike : NoMore (plan r' n fs limit room cap) (plan r n fs limit room cap)
    unfolding plan
    plan_alike = go (plan r n fs limit room cap) refl (levels_no_more (suc cap) 0 (omega arith) 0 0 (omega arith))
      where
        go : (e : Ending) → plan r n fs limit room cap ≡ e → EndNoMore (plan r' n fs limit room cap) e → NoMore (plan r' n fs limit room cap) e
        go (done j u l) q f = f
        go (none j u) q f = f
        go (full_at j u) q f = f
        go (spent_at j u) q f =
            let own : steps_of (plan r' n fs limit room cap) ≤ limit = within (plan r' n fs limit room cap) (fate r' n fs limit room cap) in
            omega (arith, ((spent_exact r n fs limit room cap j u).0 q).steps)

    -- and where the plan by r' is done, or none, the plan by r is so too, with the same sets, under any limit that allows its own steps
    barren_back : (j : ℕ) → j ≤ suc cap → Barren r' n fs j → Barren r n fs j
    barren_back j h b i k = sym (like.sets i (omega arith)) ∙ b i k

    pub done_back : (j u : ℕ) (l : Finds) → plan r' n fs limit room cap ≡ done j u l → (enough : ℕ) → walked r n fs (suc j) ≤ enough
        → plan r n fs enough room cap ≡ done j (walked r n fs (suc j)) l
    done_back j u l e enough h =
        let f : Ends r' n fs limit room cap j u l = (done_exact r' n fs limit room cap j u l).0 e in
        let low : j ≤ cap = f.low in
        (done_exact r n fs enough room cap j (walked r n fs (suc j)) l).1 (record {
          low = low;
          barren = barren_back j (omega arith) f.barren;
          steps = refl;
          within = h;
          sets = f.sets ∙ like.sets j low;
          some = f.some;
          roomy = f.roomy;
        })

    pub none_back : (j u : ℕ) → plan r' n fs limit room cap ≡ none j u → (enough : ℕ) → walked r n fs j ≤ enough
        → plan r n fs enough room cap ≡ none j (walked r n fs j)
    none_back j u e enough h =
        let f : Lacks r' n fs limit room cap j u = (none_exact r' n fs limit room cap j u).0 e in
        let last : j ≡ suc cap = f.last in
        (none_exact r n fs enough room cap j (walked r n fs j)).1
        (record { last = last; barren = barren_back j (omega arith) f.barren; steps = refl; within = h })
