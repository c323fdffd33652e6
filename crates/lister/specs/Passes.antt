-- What the lister has in hand, and what is left to list. Assumes nothing.
use Rattle.std.specs.Prelude.{◌≡◌, Bool, true, false, cond, List, [], ◌∷◌, ◌++◌, ℕ, ◌+◌, T, length, IfSome, OnSome, IfNone}
use Rattle.monomial.specs.Lists.{keep}
use Rattle.monomial.specs.Monomial.{Mono, one, width}
use Rattle.monomial.specs.Quotient.{divides}
use Rattle.monomial.specs.Divisors.{leads, pairs, next}
use Rattle.monomial.specs.Claims.{Pair, split, pairs_from}
use Rattle.lister.specs.declared.cheap.Held.{Held}
use Rattle.lister.specs.declared.passes.Place.{Place}
use Rattle.lister.specs.declared.passes.Hand.{Hand}
use Rattle.lister.specs.Cheap.{of_kind, Holds}

-- not 1, behind which no divisor follows
abbrev pub Proper : Mono → Type 0
Proper m = m ≡ one (length m) → ⊥

-- the place before the first pair
pub record Starting (at : Place) : Type 0 where
  pub cheap : at.rest ≡ false
  pub first : at.a.e ≡ one width
  pub none : at.listed ≡ 0

module _ (v : List Mono) (m : Mono) where
  -- the pairs of one kind: from a first factor on, and all of them
  abbrev pub kind_from : Bool → Mono → List Pair
  kind_from rest a = keep (of_kind v rest) (pairs_from m a)

  abbrev pub kind : Bool → List Pair
  kind rest = keep (of_kind v rest) (pairs m)

  -- a place on the way: those that are listed and those to come are all of their kind
  pub record Standing (rest : Bool) (a : Mono) (listed : ℕ) : Type 0 where
    pub divisor : T (divides a m)
    pub counted : listed + length (kind_from rest a) ≡ length (kind rest)

  -- a pair is in hand, with what V holds of it and the place behind it
  pub record Picked (at : Place) (h : Held) : Type 0 where
    pub divisor : T (divides at.a.e m)
    pub leading : T (leads m at.a.e)
    pub held : Holds v (split m at.a.e) h
    pub behind : Standing at.rest (next m at.a.e) at.listed

  -- a pair of the place's kind was sought from it on, and picked; or there is none, and all of them are listed
  pub record Sought (from : Place) (h : Hand) : Type 0 where
    pub kept : h.at.rest ≡ from.rest
    pub picked : IfSome h.held (Picked h.at)
    pub lists : OnSome h.held (kind_from from.rest from.a.e ≡ split m h.at.a.e ∷ kind_from from.rest (next m h.at.a.e))
    pub none : IfNone h.held (kind_from from.rest from.a.e ≡ [])
    pub over : IfNone h.held (h.at.listed ≡ length (kind from.rest))

  -- what is listed from a place on: its kind from there, and behind the cheap pairs the rest, where all are asked for
  abbrev pub list_from : Bool → Bool → Mono → List Pair
  list_from all true a = kind_from true a
  list_from all false a = kind_from false a ++ cond all (kind true) []

  -- what is not listed
  abbrev pub put_off : Bool → List Pair
  put_off all = cond all [] (kind true)

  -- the pair in hand is the first that is listed from a place on; or none is
  pub record Found (all rest : Bool) (a : Mono) (h : Hand) : Type 0 where
    pub picked : IfSome h.held (Picked h.at)
    pub lists : OnSome h.held (list_from all rest a ≡ split m h.at.a.e ∷ list_from all h.at.rest (next m h.at.a.e))
    pub none : IfNone h.held (list_from all rest a ≡ [])
    -- where not all are asked for, no pair of the rest is listed, and at the end all cheap ones are
    pub cheap_only : all ≡ false → h.at.rest ≡ false
    pub over : all ≡ false → IfNone h.held (h.at.listed ≡ length (kind false))
