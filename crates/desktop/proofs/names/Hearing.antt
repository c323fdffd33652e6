-- A loop over a text that notes its new names. Assumes nothing.
use mathlib.Core.Path.{◌≡◌, refl, ap, ◌∙◌}
use mathlib.Core.Logic.{◌⊎◌, inl, inr}
use mathlib.Core.List.{List, map}
use Prim.Native.Nat.{ℕ, ◌+◌, ◌≤◌, ◌<◌}
use native.Mathlib.Omega.{arith}
use lib.ListN.{length, get_or}
use Rattle.monomial.specs.Monomial.{width}
use Rattle.wiring.specs.Panel.{cards}
use Rattle.wiring.specs.Sets.{monomials_of}
use Rattle.listing.specs.Counted.{name_ends}
use Rattle.listing.specs.Machine.{eat, start}
use Rattle.listing.specs.Meaning.{Telling, named, names, told, unnamed, untold}
use Rattle.listing.specs.Readable.{listing}
use Rattle.listing.specs.Saying.{saying}
use Rattle.listing.specs.declared.known.Known.{Known}
use Rattle.listing.specs.declared.machine.Reading.{Reading}
use Rattle.listing.specs.declared.saying.Saying.{Saying}
use Rattle.listing.specs.declared.saying.Saying.TheVariants.{Silence, Variable, Raised, Digit, NameEnds, Minus, Number, Name, Again, TermEnds, LineEnds, ZeroLine}
use Rattle.listing.proofs.Following.{Following, following_start, following_next}
use Rattle.listing.proofs.Sounds.{small, carded, speaks}
use Rattle.reader.proofs.Loop.{noting_ends}
use Rattle.desktop.specs.Names.{capped, Notes, Holds, Closing, Ready}
use Rattle.desktop.specs.declared.names.Naming.{Naming}
use Rattle.desktop.proofs.names.Laws.{cap_most}

closing_of : (k : Naming) (σ : Saying) → k.variable < width → (k.names.len + name_ends σ ≤ cards) ⊎ (name_ends σ ≡ 0) → Closing k σ
closing_of k Silence h r = tt
closing_of k (Variable v) h r = h
closing_of k Raised h r = tt
closing_of k (Digit d) h r = tt
closing_of k NameEnds h (inl r) = (h, omega arith)
closing_of k NameEnds h (inr e) = absurd (omega arith)
closing_of k Minus h r = tt
closing_of k (Number v) h r = tt
closing_of k (Name s) h r = tt
closing_of k Again h r = tt
closing_of k TermEnds h r = tt
closing_of k LineEnds h r = tt
closing_of k ZeroLine h r = tt

module _ (r : Known) (text : List ℕ) where
  pub record Hearing (g : Reading) (i : ℕ) (k : Naming) : Type 0 where
    pub notes : Notes
    pub lines : Telling
    pub follows : Following r text g i notes lines
    pub holds : Holds notes k

  pub hearing_start : (k : Naming) → Holds unnamed k → Hearing start 0 k
  hearing_start k h = record { notes = unnamed; lines = untold; follows = following_start r text; holds = h }

  module _ {g : Reading} {i : ℕ} {k : Naming} (h : Hearing g i k) where
    pub hearing_ready : r.cards ≡ cards → (x : ℕ) → x < 256 → Ready k (saying r g x)
    hearing_ready six x b = record {
      power = rw (← h.holds.power) at (cap_most h.notes.power);
      small = small r g x b;
      closing = speaks r (Closing k) g x tt (λ a. closing_of k (saying r g x) (rw (← h.holds.variable) at (h.follows.live a).variable) room);
    }
      where
        room : (k.names.len + name_ends (saying r g x) ≤ cards) ⊎ (name_ends (saying r g x) ≡ 0)
        room = rw (h.holds.size, ← six) (carded r _ _ g x h.follows.stands h.follows.counts)

    pub hearing_next : r.n ≤ width → i < length text → (k' : Naming) → ((q : Notes) → Holds q k → Holds (named (saying r g (get_or text i 0)) q) k') → Hearing (eat r g (get_or text i 0)) (i + 1) k'
    hearing_next few o k' f = let x = get_or text i 0 in record {
      notes = named (saying r g x) h.notes;
      lines = told (saying r g x) h.lines;
      follows = following_next r text h.follows few o x refl;
      holds = f h.notes h.holds;
    }

    pub hearing_ends : length text ≤ i → monomials_of k.names ≡ map capped (names r text)
    hearing_ends o = h.holds.whole ∙ ap (λ (q : Notes). map capped q.whole) (noting_ends (listing r) (saying r) named h.follows.naming o)

    pub hearing_few : length text ≤ i → k.names.len ≡ length (names r text)
    hearing_few o = h.holds.size ∙ ap (λ (q : Notes). length q.whole) (noting_ends (listing r) (saying r) named h.follows.naming o)
