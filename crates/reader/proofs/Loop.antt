-- A loop that runs a machine over a text, and has come to byte i. Assumes nothing.
use mathlib.Core.Path.{◌≡◌, refl, sym, ap, ◌∙◌}
use mathlib.Core.Bool.{Bool, true, false, cond}
use mathlib.Core.List.{List}
use Prim.Native.Nat.{ℕ, suc, ◌+◌, ◌≤◌, ◌<◌}
use native.Mathlib.Omega.{arith}
use native.Mathlib.Numerals.{add-one}
use lib.ListN.{length, get_or, drop, drop_of_length-le}
use lib.Seq.{drop-cons}
use Rattle.reader.specs.Reader.{Reader, run, readable, lasts, place, Lively, heard, noted}
use Rattle.reader.proofs.Places.{lasts_on, run_dead}

-- what is left, behind the state so far, says what the whole says
pub record Running (m : Reader) (text : List ℕ) (g : m.State) (i : ℕ) : Type 0 where
  pub within : i ≤ length text
  pub ran : run m g (drop i text) ≡ run m m.start text
  pub lasted : i + lasts m g (drop i text) ≡ lasts m m.start text

pub running_start : (m : Reader) (text : List ℕ) → Running m text m.start 0
running_start m text = record { within = omega arith; ran = refl; lasted = omega arith }

module _ (m : Reader) {text : List ℕ} {g : m.State} {i : ℕ} (a : Running m text g i) where
  module _ (h : i < length text) where
    step : run m (m.eat g (get_or text i 0)) (drop (i + 1) text) ≡ run m m.start text
    unfolding run
    step = rw (add-one i) (rw (drop-cons text i 0 h) at a.ran)

    last : (b : Bool) → m.alive (m.eat g (get_or text i 0)) ≡ b → i + cond b (suc (lasts m (m.eat g (get_or text i 0)) (drop (i + 1) text))) 0 ≡ lasts m m.start text
    last b e = rw (add-one i, ← lasts_on m g (get_or text i 0) (drop (suc i) text) b e, ← drop-cons text i 0 h) a.lasted

    pub running_next : m.alive (m.eat g (get_or text i 0)) ≡ true → Running m text (m.eat g (get_or text i 0)) (i + 1)
    running_next e = record { within = omega arith; ran = step; lasted = omega (arith, last true e) }

    -- the machine dies: the text is not readable, and this is the place
    pub running_dies : Lively m → m.alive (m.eat g (get_or text i 0)) ≡ false → (readable m text ≡ false) × (place m text ≡ i + 1)
    running_dies l e =
        (sym (ap m.ends step) ∙ l.never _ (run_dead m l (m.eat g (get_or text i 0)) (drop (i + 1) text) e), omega (arith, last false e))

  -- the text is read to its end
  module _ (h : length text ≤ i) where
    pub running_reads : m.ends g ≡ readable m text
    unfolding run
    running_reads = ap m.ends (rw (drop_of_length-le text h) at a.ran)

    pub running_place : place m text ≡ i + 1
    unfolding lasts
    running_place = let k : i + 0 ≡ lasts m m.start text = rw (drop_of_length-le text h) at a.lasted in omega arith

-- ---- what is made of what a text says: the rest, from the notes so far, comes to what the whole comes to
module _ (m : Reader) {S N : Type 0} (say : m.State → ℕ → S) (note : S → N → N) where
  pub record Noting (text : List ℕ) (start : N) (g : m.State) (k : N) (i : ℕ) : Type 0 where
    pub comes : noted note k (heard m say g (drop i text)) ≡ noted note start (heard m say m.start text)

  pub noting_start : (text : List ℕ) (start : N) → Noting text start m.start start 0
  noting_start text start = record { comes = refl }

  module _ {text : List ℕ} {start : N} {g : m.State} {k : N} {i : ℕ} (a : Noting text start g k i) where
    pub noting_next : i < length text → Noting text start (m.eat g (get_or text i 0)) (note (say g (get_or text i 0)) k) (i + 1)
    unfolding heard noted
    noting_next h = record { comes = rw (add-one i) (rw (drop-cons text i 0 h) at a.comes) }

    pub noting_ends : length text ≤ i → k ≡ noted note start (heard m say m.start text)
    unfolding heard noted
    noting_ends h = rw (drop_of_length-le text h) at a.comes
