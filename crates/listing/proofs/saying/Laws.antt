-- The sayings that are of no name or of no term. Assumes nothing.
use mathlib.Core.Path.{◌≡◌, refl}
use mathlib.Core.List.{List, [], ◌∷◌}
use Prim.Native.Nat.{ℕ}
use denote.Enum.Declared.{tag_of}
use types.Run.{OneOf, miss}
use Rattle.listing.specs.declared.saying.Saying.{Saying}
use Rattle.listing.specs.declared.saying.Saying.TheVariants.{Silence, Variable, Raised, Digit, NameEnds, Minus, Number, Name, Again, TermEnds, LineEnds, ZeroLine}
use Rattle.listing.specs.Meaning.{Naming, named, Telling, told}
use Rattle.listing.specs.contracts.saying.Saying as kinds

-- the tags of the sayings that are of no name
abbrev nameless : List ℕ
nameless = 0 ∷ 5 ∷ 6 ∷ 7 ∷ 8 ∷ 9 ∷ 10 ∷ 11 ∷ []

pub named_none : (σ : Saying) (k : Naming) → OneOf nameless (tag_of kinds.the_type σ) → named σ k ≡ k
unfolding named
named_none Silence k h = refl
named_none (Variable v) k h = absurd (miss nameless 1 tt h)
named_none Raised k h = absurd (miss nameless 2 tt h)
named_none (Digit d) k h = absurd (miss nameless 3 tt h)
named_none NameEnds k h = absurd (miss nameless 4 tt h)
named_none Minus k h = refl
named_none (Number v) k h = refl
named_none (Name s) k h = refl
named_none Again k h = refl
named_none TermEnds k h = refl
named_none LineEnds k h = refl
named_none ZeroLine k h = refl

-- the tags of the sayings that are of no term
abbrev termless : List ℕ
termless = 0 ∷ 1 ∷ 2 ∷ 3 ∷ 4 ∷ []

pub told_none : (σ : Saying) (t : Telling) → OneOf termless (tag_of kinds.the_type σ) → told σ t ≡ t
unfolding told
told_none Silence t h = refl
told_none (Variable v) t h = refl
told_none Raised t h = refl
told_none (Digit d) t h = refl
told_none NameEnds t h = refl
told_none Minus t h = absurd (miss termless 5 tt h)
told_none (Number v) t h = absurd (miss termless 6 tt h)
told_none (Name s) t h = absurd (miss termless 7 tt h)
told_none Again t h = absurd (miss termless 8 tt h)
told_none TermEnds t h = absurd (miss termless 9 tt h)
told_none LineEnds t h = absurd (miss termless 10 tt h)
told_none ZeroLine t h = absurd (miss termless 11 tt h)
