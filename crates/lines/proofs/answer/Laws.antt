-- The entries of a list one by one, and the pieces of a set's line; and that no line is empty. Assumes nothing.
use Rattle.std.proofs.Common.{◌≡◌, ℕ, zero, suc, ◌+◌, ◌*◌, ◌<◌, ◌≤◌, min, List, [], ◌∷◌, ◌++◌, map, length, get_or, take, drop, sym, refl, ap, ◌∙◌, arith, lit<, length-append, length-take, drop-cons, get_or-take}
use lib.ListN.{length-map, get_or-map}
use Rattle.monomial.specs.Monomial.{width}
use Rattle.wiring.specs.Panel.{cards}
use Rattle.wiring.specs.Coefficient.{word, signed}
use Rattle.wiring.specs.Sets.{places}
use Rattle.wiring.proofs.sets.Laws.{places_length, places_at}
use Rattle.lines.specs.Text.{space, decimal, signed_text, joined}
use Rattle.lines.specs.Answer.{line_of, spaced, reply_line, exponents, set_text, set_line, wire_line}
use Rattle.lines.proofs.text.Laws.{joined_next}

-- k entries from place i on
abbrev pub entries : ℕ → ℕ → List ℕ → List ℕ
entries zero i l = []
entries (suc k) i l = get_or l i 0 ∷ entries k (suc i) l

pub entries_are : (k i : ℕ) (l : List ℕ) → i + k ≤ length l → entries k i l ≡ take k (drop i l)
entries_are zero i l h = refl
entries_are (suc k) i l h = rw (drop-cons l i 0 (omega arith)) (ap (λ r. get_or l i 0 ∷ r) (entries_are k (suc i) l (omega arith)))

-- the coefficient behind three numbers
pub fourth : (bytes text : List ℕ) → 3 ≤ length bytes
    → joined space (map decimal (entries 3 0 bytes)) ++ (space ∷ text) ≡ joined space (map decimal (take 3 bytes) ++ (text ∷ []))
fourth bytes text h = rw (← entries_are 3 0 bytes h) (joined_next space (map decimal (entries 3 0 bytes) ++ (text ∷ [])) [] 3 (lit< tt))

-- ---- the pieces of a set's line
module _ (bytes : List ℕ) (size : ℕ) where
  abbrev pub pieces : List (List ℕ)
  pieces = map exponents (take size (places bytes))

  pub pieces_length : length pieces ≡ min size cards
  pieces_length = length-map (take size (places bytes)) exponents ∙ length-take size (places bytes) ∙ ap (min size) (places_length bytes)

  pub piece_at : (i : ℕ) → i < min size cards → exponents (take width (drop (width * i) bytes)) ≡ get_or pieces i (exponents [])
  piece_at i h =
      let at : get_or (take size (places bytes)) i [] ≡ take width (drop (width * i) bytes) =
      get_or-take size (places bytes) i [] (omega arith) ∙ places_at bytes i [] (omega arith) in
      sym (get_or-map exponents (take size (places bytes)) i [] ∙ ap exponents at)

-- ---- no line is empty: each has its newline
line_some : (text : List ℕ) → 0 < length (line_of text)
line_some text = simp length-append (omega arith)

pub reply_some : (five : List ℕ) → 0 < length (reply_line five)
unfolding reply_line
reply_some five = line_some (spaced five)

pub set_some : (bytes : List ℕ) (size : ℕ) → 0 < length (set_line bytes size)
set_some bytes size = line_some (set_text bytes size)

pub wire_some : (bytes : List ℕ) → 0 < length (wire_line bytes)
unfolding wire_line
wire_some bytes = line_some (joined space (map decimal (take 3 bytes) ++ (signed_text (signed (word bytes 4)) ∷ [])))
