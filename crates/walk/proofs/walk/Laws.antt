-- The opener and the pair runner, held to the run of the whole list of steps: at each place the run of what is left from there is the run of
-- the whole, by any rules and in any order of the pairs. No law here knows what nonsquares or children are. Assumes nothing.
use mathlib.Core.Path.{◌≡◌, refl, sym, ap, ◌∙◌, subst}
use mathlib.Core.Bool.{Bool, true, false, cond}
use mathlib.Core.List.{List, [], ◌∷◌, ◌++◌}
use Prim.Native.Nat.{ℕ, zero, suc, ◌+◌, ◌-◌, ◌/◌, ◌<◌, ◌≤◌}
use native.Mathlib.Omega.{arith}
use native.Mathlib.Numerals.{add-one}
use borrow.Author.Tests.{leb-true, leb-false}
use lib.Dec.{T, leb}
use lib.ListN.{length}
use Rattle.monomial.specs.Lists.{some, gather}
use Rattle.monomial.specs.Monomial.{Mono, width}
use Rattle.monomial.specs.declared.Monomial.{Monomial}
use Rattle.monomial.specs.Claims.{◌∈◌, Pair}
use Rattle.monomial.proofs.Tests.{Tested, passed, failed, test, is→T, is→n_t}
use Rattle.monomial.proofs.Members.{here, there, some_none}
use Rattle.wiring.specs.Panel.{set_bytes, set_exponent}
use Rattle.wiring.specs.Poly.{Poly, plain}
use Rattle.wiring.specs.Derivative.{derivative}
use Rattle.wiring.specs.Quadratic.{nonsquares}
use Rattle.wiring.specs.Signals.{signals, tabled, signals_at, Fitting}
use Rattle.wiring.specs.Choice.{chosen}
use Rattle.wiring.specs.Terms.{records, system}
use Rattle.wiring.proofs.choice.Laws.{chosen_best}
use Rattle.wiring.proofs.signals.Laws.{signals_fitting}
use Rattle.std.specs.Prelude.{Option, Some, Ok, Err}
use Rattle.walk.specs.declared.walk.State.{State}
use Rattle.walk.specs.declared.walk.Opened.{Opened}
use Rattle.walk.specs.declared.walk.Stop.{Stop}
use Rattle.walk.specs.declared.walk.Stop.TheVariants.{Spent, Full}
use Rattle.walk.specs.Walk.{Finds, Rules, child, Taken, pair, opening, Step, found, other, opens, ends, tried, tried_all, after, opened, Run, ended, spent, full, kept, onward, run}
use Rattle.walk.specs.Listing.{Shown}
use Rattle.walk.specs.Turns.{Walked, Ended, Turn, Tells, Showing, PairsFollow, SteppedBy, PassedBy}
use Rattle.walk.proofs.children.Laws.{walked_fits}
use Rattle.walk.proofs.Steps.{run_append, run_stops, run_other, run_last, opened_found, opened_ends, opened_split}

-- ---- a step without a find, by the code's count
other_on : (x : Taken) (limit room : ℕ) (es : List Step) (taken : ℕ) (finds : Finds) → taken < limit → run limit room (other x ∷ es) taken finds ≡ run limit room es (taken + 1) finds
other_on x limit room es taken finds h = rw (add-one taken) (run_other limit room es taken finds x h)

-- ---- a set is opened, at any bound on the depth that is large enough
module _ (r : Rules) (n : ℕ) (fs : List (Poly Mono)) (k limit room taken : ℕ) (finds : Finds) (s : List Mono) where
  abbrev gaps : List Mono
  gaps = nonsquares plain (signals width n s) (derivative plain fs)

  abbrev ran : List Step → Run
  ran es = run limit room es taken finds

  after_spent : (below : List Mono → List Step) (l : List Mono) → limit ≤ taken → run limit room (after r n fs k below s l) taken finds ≡ spent
  unfolding after
  after_spent below [] h = run_stops limit room [] taken finds (found s) h
  after_spent below (m ∷ l) h = run_stops limit room _ taken finds (other (opening s)) h

  pub open_spent : (d : ℕ) → 0 < d → limit ≤ taken → run limit room (opened r n fs k d s) taken finds ≡ spent
  unfolding opened
  open_spent zero p h = absurd (omega arith)
  open_spent (suc d) p h = after_spent (opened r n fs k d) gaps h

  open_found : (d : ℕ) → 0 < d → taken < limit → gaps ≡ [] → run limit room (opened r n fs k d s) taken finds ≡ kept room s (taken + 1) finds
  open_found zero p h e = absurd (omega arith)
  open_found (suc d) p h e = rw (add-one taken) (ap ran (opened_found r n fs k d s e) ∙ run_last limit room s taken finds h)

  open_leaf : (d : ℕ) (m : Mono) (l : List Mono) → 0 < d → taken < limit → gaps ≡ m ∷ l → ends r n k s (m ∷ l) ≡ true
      → run limit room (opened r n fs k d s) taken finds ≡ ended (taken + 1) finds
  unfolding run
  open_leaf zero m l p h e g = absurd (omega arith)
  open_leaf (suc d) m l p h e g = ap ran (opened_ends r n fs k d s m l e g) ∙ other_on (opening s) limit room [] taken finds h

  -- the same, by the word of the loop that asks for a nonsquare
  pub open_none : (d : ℕ) → 0 < d → taken < limit → some gaps ≡ false → run limit room (opened r n fs k d s) taken finds ≡ kept room s (taken + 1) finds
  open_none d p h e = open_found d p h (some_none gaps (is→n_t (some gaps) e))

  pub open_stops : (d : ℕ) → 0 < d → taken < limit → some gaps ≡ true → ends r n k s gaps ≡ true
      → run limit room (opened r n fs k d s) taken finds ≡ ended (taken + 1) finds
  unfolding some
  open_stops d p h e g = go gaps refl (is→T (some gaps) e)
    where
      go : (l : List Mono) → gaps ≡ l → T (some l) → run limit room (opened r n fs k d s) taken finds ≡ ended (taken + 1) finds
      go [] i t = absurd t
      go (m ∷ l) i t = open_leaf d m l p h i (subst (λ (x : List Mono). ends r n k s x ≡ true) i g)

  open_split : (d : ℕ) (m : Mono) (l : List Mono) → taken < limit → gaps ≡ m ∷ l → ends r n k s (m ∷ l) ≡ false
      → run limit room (opened r n fs k (suc d) s) taken finds
      ≡ run limit room (tried_all r n fs k (opened r n fs k d) s (chosen m l)) (taken + 1) finds
  open_split d m l h e g =
      ap ran (opened_split r n fs k d s m l e g) ∙ other_on (opening s) limit room (tried_all r n fs k (opened r n fs k d) s (chosen m l)) taken finds h

-- ---- pairs of s, one after the other
module _ (r : Rules) (n : ℕ) (fs : List (Poly Mono)) (k limit room : ℕ) (s : List Mono) where
  -- their steps, at a bound on the depth
  abbrev pub left : ℕ → List Pair → List Step
  left d ps = gather (tried r n fs k (opened r n fs k d) s) ps

  -- the run of the pairs that are left, in this state and buffer, is w
  pub record Stands (d : ℕ) (w : Run) (ps : List Pair) (steps count : ℕ) (out : List ℕ) : Type 0 where
    pub finds : Finds
    pub shown : Shown finds count out
    pub on : run limit room (left d ps) steps finds ≡ w

  -- no pair is left
  pub stands_end : {d : ℕ} {w : Run} {steps count : ℕ} {out : List ℕ} (st : Stands d w [] steps count out) → w ≡ ended steps st.finds
  unfolding run gather
  stands_end st = sym st.on

  -- the next of them
  module _ {d : ℕ} {w : Run} {p : Pair} {ps : List Pair} {steps count : ℕ} {out : List ℕ} (st : Stands d w (p ∷ ps) steps count out) where
    abbrev c : List Mono
    c = child n s p

    abbrev go : Bool
    go = opens r n k s p

    abbrev rest : List Step
    rest = left d ps

    -- its step, whether its child is opened or not
    pair_step : (more : List Step) → cond go (opened r n fs k d c) [] ≡ more → run limit room (other pair ∷ (more ++ rest)) steps st.finds ≡ w
    unfolding tried gather
    pair_step more e = sym (ap (λ (es : List Step). run limit room ((other pair ∷ es) ++ rest) steps st.finds) e) ∙ st.on

    pub stands_spent : limit ≤ steps → w ≡ spent
    stands_spent h = sym (pair_step (cond go (opened r n fs k d c) []) refl) ∙ run_stops limit room
        (cond go (opened r n fs k d c) [] ++ rest) steps st.finds (other pair) h

    -- the child is not opened
    pub stands_shut : steps < limit → go ≡ false → Stands d w ps (steps + 1) count out
    stands_shut h e = record {
      finds = st.finds;
      shown = st.shown;
      on = sym (other_on pair limit room rest steps st.finds h) ∙ pair_step [] (rw e);
    }

    -- the child was opened
    module _ (h : steps < limit) (e : go ≡ true) where
      child_run : onward (run limit room (opened r n fs k d c) (steps + 1) st.finds) (run limit room rest) ≡ w
      child_run =
          sym (run_append limit room (opened r n fs k d c) rest (steps + 1) st.finds)
          ∙ sym (other_on pair limit room (opened r n fs k d c ++ rest) steps st.finds h) ∙ pair_step (opened r n fs k d c) (rw e)

      pub stands_going : (next' : State) (out' : List ℕ) → Ended next' out' (run limit room (opened r n fs k d c) (steps + 1) st.finds) → Stands d
          w ps next'.steps next'.count out'
      unfolding onward
      stands_going next' out' en = record {
        finds = en.finds;
        shown = en.shown;
        on = sym (ap (λ (r : Run). onward r (run limit room rest)) en.is) ∙ child_run;
      }

      pub stands_child_spent : run limit room (opened r n fs k d c) (steps + 1) st.finds ≡ spent → w ≡ spent
      unfolding onward
      stands_child_spent q = sym child_run ∙ ap (λ (r : Run). onward r (run limit room rest)) q

      pub stands_child_full : (u : ℕ) → run limit room (opened r n fs k d c) (steps + 1) st.finds ≡ full u → w ≡ full u
      unfolding onward
      stands_child_full u q = sym child_run ∙ ap (λ (r : Run). onward r (run limit room rest)) q

  -- pairs of which none opens its child: each costs its step, and nothing else
  pub stands_by : {d : ℕ} {w : Run} {steps count : ℕ} {out : List ℕ} (ps : List Pair) → ((p : Pair) → p ∈ ps → opens r n k s p ≡ false)
      → steps + length ps ≤ limit → Stands d w ps steps count out → Stands d w [] (steps + length ps) count out
  stands_by {d} {w} {steps} {count} {out} [] shut h st = subst (λ (t : ℕ). Stands d w [] t count out) (omega arith) st
  stands_by {d} {w} {steps} {count} {out} (p ∷ ps) shut h st =
      let next : Stands d w [] (steps + 1 + length ps) count out =
      stands_by {steps = steps + 1} ps (λ q i. shut q (there i)) (omega arith) (stands_shut st (omega arith) (shut p here)) in
      subst (λ (t : ℕ). Stands d w [] t count out) (omega arith) next

  pub stands_over : {d : ℕ} {w : Run} {steps count : ℕ} {out : List ℕ} (ps : List Pair) → ((p : Pair) → p ∈ ps → opens r n k s p ≡ false)
      → 0 < length ps → limit < steps + length ps → Stands d w ps steps count out → w ≡ spent
  stands_over [] shut some h st = let z : ⊥ = omega arith in absurd z
  stands_over {d} {w} {steps} {count} {out} (p ∷ ps) shut some h st =
      go (test (leb limit steps)) (λ more over. stands_over {steps = steps + 1} ps (λ q i. shut q (there i)) more over)
    where
      go : Tested (leb limit steps) → (0 < length ps → limit < steps + 1 + length ps → Stands d w ps (steps + 1) count out → w ≡ spent) → w ≡ spent
      go (passed e) ih = stands_spent st (leb-true limit steps e)
      go (failed e) ih = let low : steps < limit = leb-false limit steps e in ih (omega arith) (omega arith) (stands_shut st low (shut p here))

-- ---- what opening tells of the pairs that follow
pub open_tells : (r : Rules) (n : ℕ) (fs : List (Poly Mono)) (k limit room taken : ℕ) (finds : Finds) (s : List Mono) (d size : ℕ) (m : Mono) (l : List Mono) (turn : Turn) (out : List ℕ)
    → k - size < d → taken < limit → nonsquares plain (signals width n s) (derivative plain fs) ≡ m ∷ l → ends r n k s (m ∷ l) ≡ false
    → ((g : ℕ) → k - size ≤ g → Tells turn out (run limit room (tried_all r n fs k (opened r n fs k g) s (chosen m l)) (taken + 1) finds))
    → Tells turn out (run limit room (opened r n fs k d s) taken finds)
open_tells r n fs k limit room taken finds s zero size m l turn out h t e g f = absurd (omega arith)
open_tells r n fs k limit room taken finds s (suc d) size m l turn out h t e g f = subst (Tells turn out)
    (sym (open_split r n fs k limit room taken finds s d m l t e g)) (f d (omega arith))

-- ---- the nonsquare that was picked
pub choice_member : (ns : List Mono) (m first : Mono) (others : List Mono) → ns ≡ first ∷ others → m ≡ chosen first others → m ∈ ns
choice_member ns m first others e i =
    subst (λ (l : List Mono). m ∈ l) (sym e) (subst (λ (x : Mono). x ∈ (first ∷ others)) (sym i) (chosen_best first others).0)

-- ---- the pairs of the nonsquare that an opening gives follow
pub pairs_follow : (r : Rules) (n : ℕ) (terms : List ℕ) (level limit : ℕ) (set : List ℕ) (st : State) (out₀ : List ℕ) (o : Opened) (m : Monomial) (out : List ℕ)
    → o.split ≡ Some m → SteppedBy r n terms level limit set st out₀ o.split o.state out → PairsFollow r n terms level limit set st out₀ m.e o.state out
pairs_follow r n terms level limit set st out₀ o m out e j = subst (λ (x : Option Monomial). SteppedBy r n terms level limit set st out₀ x o.state out) e j

-- ---- the loop of the pair runner: the run of what is left is that of all pairs of m, for every depth and every list of finds that the buffer showed
module _ (r : Rules) (n : ℕ) (terms : List ℕ) (level limit : ℕ) (set : List ℕ) (m : Mono) (st₀ : State) (out₀ : List ℕ) where
  abbrev fs : List (Poly Mono)
  fs = system (records terms)

  abbrev room : ℕ
  room = length out₀ / set_bytes

  abbrev pub whole : ℕ → Finds → Run
  whole d finds = run limit room (tried_all r n fs level (opened r n fs level d) (tabled set) m) st₀.steps finds

  pub record Running (ps : List Pair) (cur : State) (out : List ℕ) : Type 0 where
    pub long : length out ≡ length out₀
    pub stands : (d : ℕ) (finds : Finds) → level - length (tabled set) ≤ d → Shown finds st₀.count out₀
        → Stands r n fs level limit (length out₀ / set_bytes) (tabled set) d (whole d finds) ps cur.steps cur.count out

  -- what is told of all pairs
  abbrev pub Ran : Turn → List ℕ → Type 0
  Ran turn out = (d : ℕ) (finds : Finds) → level - length (tabled set) ≤ d → Shown finds st₀.count out₀ → Tells turn out (whole d finds)

  pub running_start : (ps : List Pair) → ps ≡ r.tries (signals width n (tabled set)) m → Running ps st₀ out₀
  running_start ps e = record {
    long = refl;
    stands = λ d finds h sh. record {
      finds = finds;
      shown = sh;
      on = ap (λ (l : List Pair). run limit room (left r n fs level limit room (tabled set) d l) st₀.steps finds) e;
    };
  }

  -- the buffer still shows some finds
  pub running_showing : (ps : List Pair) (cur : State) (out : List ℕ) → Running ps cur out → Showing st₀.count out₀ → Showing cur.count out
  running_showing ps cur out u s =
      let x = u.stands (level - length (tabled set)) s.finds (omega arith) s.shown in
      record { finds = x.finds; shown = x.shown }

  pub running_end : {cur : State} {out : List ℕ} → Running [] cur out → Ran (Ok cur) out
  running_end u d finds h sh =
      let x = u.stands d finds h sh in
      record { finds = x.finds; shown = x.shown; is = stands_end r n fs level limit room (tabled set) x }

  module _ {p : Pair} {ps : List Pair} {cur : State} {out : List ℕ} (u : Running (p ∷ ps) cur out) where
    pub running_spent : limit ≤ cur.steps → Ran (Err Spent) out
    running_spent k d finds h sh = stands_spent r n fs level limit room (tabled set) (u.stands d finds h sh) k

    pub running_shut : (cur' : State) → cur'.steps ≡ cur.steps + 1 → cur'.count ≡ cur.count → cur.steps < limit
        → opens r n level (tabled set) p ≡ false → Running ps cur' out
    running_shut cur' e c k b = record {
      long = u.long;
      stands = λ d finds h sh. rw (e, c) (stands_shut r n fs level limit room (tabled set) (u.stands d finds h sh) k b);
    }

    -- the child was opened, and its turn was told for every depth and finds
    module _ (size : ℕ) (few : length (tabled set) < size) (low : length (tabled set) < level) (k : cur.steps < limit) (b : opens r n level (tabled set) p ≡ true) where
      abbrev opened_child : ℕ → Finds → Run
      opened_child d finds = run limit room (opened r n fs level d (child n (tabled set) p)) (cur.steps + 1) finds

      abbrev pub Told : Turn → List ℕ → Type 0
      Told turn out' = (d : ℕ) (finds : Finds) → level - size < d → Shown finds cur.count out → Tells turn out' (opened_child d finds)

      pub running_going : (cur' : State) (out' : List ℕ) → length out' ≡ length out → Told (Ok cur') out' → Running ps cur' out'
      running_going cur' out' e f = record {
        long = e ∙ u.long;
        stands = λ d finds h sh.
            let x = u.stands d finds h sh in
            stands_going r n fs level limit room (tabled set) x k b cur' out' (f d x.finds (omega arith) x.shown);
      }

      pub running_child_stops : (stop : Stop) (out' : List ℕ) → Told (Err stop) out' → Ran (Err stop) out'
      running_child_stops Spent out' f d finds h sh =
          let x = u.stands d finds h sh in
          stands_child_spent r n fs level limit room (tabled set) x k b (f d x.finds (omega arith) x.shown)
      running_child_stops (Full t) out' f d finds h sh =
          let x = u.stands d finds h sh in
          stands_child_full r n fs level limit room (tabled set) x k b t (f d x.finds (omega arith) x.shown)

  -- the pairs that are left open nothing, and were passed by
  pub running_by : (ps : List Pair) (cur : State) (out : List ℕ) → Running ps cur out → ((p : Pair) → p ∈ ps → opens r n level (tabled set) p ≡ false)
      → (turn : Turn) → PassedBy limit cur (length ps) turn → Ran turn out
  running_by [] cur out u shut (Ok next) q d finds h sh =
      let x = running_end u d finds h sh in
      record { finds = x.finds; shown = rw q.1 x.shown; is = x.is ∙ ap (λ (t : ℕ). ended t x.finds) (omega (arith, q.0)) }
  running_by (p ∷ ps) cur out u shut (Ok next) q d finds h sh =
      let x = stands_by r n fs level limit room (tabled set) (p ∷ ps) shut (q.2 (omega arith)) (u.stands d finds h sh) in
      record { finds = x.finds; shown = rw q.1 x.shown; is = stands_end r n fs level limit room (tabled set) x ∙ ap (λ (t : ℕ). ended t x.finds) (sym q.0) }
  running_by ps cur out u shut (Err Spent) q d finds h sh = stands_over r n fs level limit room (tabled set) ps shut q.0 q.1 (u.stands d finds h sh)
  running_by ps cur out u shut (Err (Full t)) q d finds h sh = absurd q

-- ---- the exponents of a set of the walk are those that a set may have
pub walked_fitting : (s : List Mono) → Walked s → Fitting set_exponent s
walked_fitting s w m h = (w.recorded.wide m h, walked_fits s w m h)

-- and so does V
pub signals_fit : (n : ℕ) (set : List ℕ) → Walked (tabled set) → Fitting set_exponent (signals_at n set)
signals_fit n set w = signals_fitting set_exponent n (tabled set) (omega arith) (walked_fitting (tabled set) w)
