-- The machine of a listing with its notes beside it: what a piece of text leads to, and what it adds to the notes. Assumes nothing.
use mathlib.Core.Path.{◌≡◌, refl, ap, ◌∙◌}
use mathlib.Core.List.{List, [], ◌∷◌, ◌++◌}
use Prim.Native.Nat.{ℕ}
use Rattle.reader.specs.Reader.{Reader, run, heard, noted}
use Rattle.reader.proofs.Places.{run_append}
use Rattle.listing.specs.Machine.{state, eat, start}
use Rattle.listing.specs.Readable.{listing, ends, alive}
use Rattle.listing.specs.Saying.{saying}
use Rattle.listing.specs.Meaning.{Naming, Telling, named, told, unnamed, untold}
use Rattle.listing.specs.declared.known.Known.{Known}
use Rattle.listing.specs.declared.machine.Place.{Place}
use Rattle.listing.specs.declared.machine.Reading.{Reading}
use Rattle.listing.specs.declared.machine.Reading.TheVariants.{At}
use Rattle.listing.specs.declared.saying.Saying.{Saying}

-- what the machine has come to, and what it has noted of names and of lines
pub record Notes : Type 0 where
  pub reading : Reading
  pub naming : Naming
  pub telling : Telling

abbrev pub with : Reading → Naming → Telling → Notes
with g n t = record { reading = g; naming = n; telling = t }

abbrev pub at : Place → ℕ → ℕ → ℕ → Naming → Telling → Notes
at p names line number n t = with (At (state p names line number)) n t

module _ (k : Known) where
  abbrev pub noting : Reader
  noting = record {
    State = Notes;
    start = with start unnamed untold;
    eat = λ q x. with (eat k q.reading x) (named (saying k q.reading x) q.naming) (told (saying k q.reading x) q.telling);
    ends = λ q. ends q.reading;
    alive = λ q. alive q.reading;
  }

  -- the piece leads from a to b
  pub record Eats (a : Notes) (piece : List ℕ) (b : Notes) : Type 0 where
    pub is : run noting a piece ≡ b

  pub nothing : {a : Notes} → Eats a [] a
  unfolding run
  nothing = record { is = refl }

  -- one piece behind the other
  pub then : {a b c : Notes} {p q : List ℕ} → Eats a p b → Eats b q c → Eats a (p ++ q) c
  then {a} {b} {c} {p} {q} e f = record { is = run_append noting a p q ∙ ap (λ x. run noting x q) e.is ∙ f.is }

  -- a byte, by what it leads to and what it says
  pub byte : {g h : Reading} {s : Saying} {n : Naming} {t : Telling} (x : ℕ) → eat k g x ≡ h → saying k g x ≡ s → Eats (with g n t) (x ∷ []) (with h (named s n) (told s t))
  unfolding run
  byte x e f = record { is = rw (e, f) }

  -- the machine with notes goes as the machine does, and notes what is noted of what is heard
  pub noting_is : (g : Reading) (n : Naming) (t : Telling) (text : List ℕ)
      → run noting (with g n t) text
      ≡ with (run (listing k) g text) (noted named n (heard (listing k) (saying k) g text)) (noted told t (heard (listing k) (saying k) g text))
  unfolding run heard noted
  noting_is g n t [] = refl
  noting_is g n t (x ∷ text) = noting_is (eat k g x) (named (saying k g x) n) (told (saying k g x) t) text
