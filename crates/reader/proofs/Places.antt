-- A text is the beginning of a readable one exactly when the machine is alive behind it; so the place where the machine dies is
-- the first byte where no readable text goes on. For every machine that is `Lively`. Assumes nothing.
use mathlib.Core.Path.{◌≡◌, refl, sym, ap, ◌∙◌}
use mathlib.Core.Logic.{◌↔◌}
use mathlib.Core.Bool.{Bool, true, false, cond}
use mathlib.Core.List.{List, [], ◌∷◌, ◌++◌}
use Prim.Native.Nat.{ℕ, zero, suc, ◌≤◌, ◌<◌}
use native.Mathlib.Omega.{arith}
use lib.Dec.{ltb}
use lib.ListN.{length, take}
use borrow.Author.Tests.{ltb-true, ltb-false}
use Rattle.reader.specs.Reader.{Reader, run, lasts, place, GoesOn, Placed, Lively}
use Rattle.monomial.proofs.Tests.{Tested, passed, failed, test, is_not}

module _ (m : Reader) where
  pub run_append : (g : m.State) (a b : List ℕ) → run m g (a ++ b) ≡ run m (run m g a) b
  unfolding run
  run_append g [] b = refl
  run_append g (x ∷ a) b = run_append (m.eat g x) a b

  -- ---- how long the machine lasts
  pub lasts_on : (g : m.State) (x : ℕ) (text : List ℕ) (b : Bool) → m.alive (m.eat g x) ≡ b → lasts m g (x ∷ text) ≡ cond b (suc (lasts m (m.eat g x) text)) 0
  unfolding lasts
  lasts_on g x text b e = rw e

  lasts_within : (g : m.State) (text : List ℕ) → lasts m g text ≤ length text
  unfolding lasts
  lasts_within g [] = omega arith
  lasts_within g (x ∷ text) = go (test (m.alive (m.eat g x))) (lasts_within (m.eat g x) text)
    where
      go : Tested (m.alive (m.eat g x)) → lasts m (m.eat g x) text ≤ length text → lasts m g (x ∷ text) ≤ suc (length text)
      go (passed e) ih = rw (lasts_on g x text true e) (omega arith)
      go (failed e) ih = rw (lasts_on g x text false e) (omega arith)

  lasts_before : (g : m.State) (text : List ℕ) (k : ℕ) → m.alive g ≡ true → k ≤ lasts m g text → m.alive (run m g (take k text)) ≡ true
  unfolding run lasts
  lasts_before g [] zero a h = a
  lasts_before g [] (suc k) a h = absurd (omega arith)
  lasts_before g (x ∷ text) zero a h = a
  lasts_before g (x ∷ text) (suc k) a h = go (test (m.alive (m.eat g x))) (λ e i. lasts_before (m.eat g x) text k e i)
    where
      go : Tested (m.alive (m.eat g x)) → (m.alive (m.eat g x) ≡ true → k ≤ lasts m (m.eat g x) text → m.alive (run m (m.eat g x) (take k text)) ≡ true)
          → m.alive (run m (m.eat g x) (take k text)) ≡ true
      go (passed e) ih = ih e (let j : suc k ≤ suc (lasts m (m.eat g x) text) = rw (lasts_on g x text true e) at h in omega arith)
      go (failed e) ih = absurd (let j : suc k ≤ 0 = rw (lasts_on g x text false e) at h in omega arith)

  lasts_here : (g : m.State) (text : List ℕ) → lasts m g text < length text → m.alive (run m g (take (suc (lasts m g text)) text)) ≡ false
  unfolding run lasts
  lasts_here g [] h = absurd (omega arith)
  lasts_here g (x ∷ text) h = go (test (m.alive (m.eat g x))) (lasts_here (m.eat g x) text)
    where
      go : Tested (m.alive (m.eat g x)) → (lasts m (m.eat g x) text < length text → m.alive (run m (m.eat g x) (take (suc (lasts m (m.eat g x) text)) text)) ≡ false)
          → m.alive (run m (m.eat g x) (take (lasts m g (x ∷ text)) text)) ≡ false
      go (passed e) ih = rw (lasts_on g x text true e) (ih (let j : suc (lasts m (m.eat g x) text) < suc (length text) = rw (lasts_on g x text true e) at h in omega arith))
      go (failed e) ih = rw (lasts_on g x text false e) e

  -- a place of that kind is the only one
  pub placed_once : (text : List ℕ) (p q : ℕ) → Placed m text p → Placed m text q → p ≡ q
  placed_once text p q a b = go (test (ltb p q)) (test (ltb q p))
    where
      less : (u v : ℕ) → Placed m text u → Placed m text v → u < v → ⊥
      less u v c d h = c.here (omega (arith, d.within)) (d.before u h)

      go : Tested (ltb p q) → Tested (ltb q p) → p ≡ q
      go (passed e) f = absurd (less p q a b (ltb-true p q e))
      go (failed e) (passed f) = absurd (less q p b a (ltb-true q p f))
      go (failed e) (failed f) = omega (arith, ltb-false p q e, ltb-false q p f)

module _ (m : Reader) (l : Lively m) where
  pub run_keeps : (g : m.State) (text : List ℕ) → l.Held g → l.Held (run m g text)
  unfolding run
  run_keeps g [] h = h
  run_keeps g (x ∷ text) h = run_keeps (m.eat g x) text (l.keeps g x h)

  pub run_dead : (g : m.State) (text : List ℕ) → m.alive g ≡ false → m.alive (run m g text) ≡ false
  unfolding run
  run_dead g [] e = e
  run_dead g (x ∷ text) e = run_dead (m.eat g x) text (l.stays g x e)

  live_from : (g : m.State) (rest : List ℕ) → m.ends (run m g rest) ≡ true → Tested (m.alive g) → m.alive g ≡ true
  live_from g rest e (passed a) = a
  live_from g rest e (failed d) = absurd (is_not _ refl (sym e ∙ l.never (run m g rest) (run_dead g rest d)))

  -- the machine is alive behind these bytes exactly when some readable text goes on behind them
  pub goes_on : (front : List ℕ) → (m.alive (run m m.start front) ≡ true) ↔ GoesOn m front
  goes_on front = (there, back)
    where
      there : m.alive (run m m.start front) ≡ true → GoesOn m front
      there e =
          let f = l.finishes (run m m.start front) (run_keeps m.start front l.begins) e in
          record { rest = f.rest; bytes = f.bytes; reads = ap m.ends (run_append m m.start front f.rest) ∙ f.reads }

      back : GoesOn m front → m.alive (run m m.start front) ≡ true
      back g = live_from (run m m.start front) g.rest (sym (ap m.ends (run_append m m.start front g.rest)) ∙ g.reads) (test (m.alive (run m m.start front)))

  -- the place where the machine dies is the first byte where no readable text goes on, or one past the end
  pub placed : (text : List ℕ) → Placed m text (place m text)
  placed text = record {
    within = omega (arith, lasts_within m m.start text);
    before = λ k j. (goes_on (take k text)).0 (lasts_before m m.start text k l.awake (omega arith));
    here = λ j g. is_not _ refl (sym ((goes_on (take (place m text) text)).1 g) ∙ lasts_here m m.start text (omega arith));
  }
