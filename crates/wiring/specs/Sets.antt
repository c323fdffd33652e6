-- Set records: a monomial for each card, strictly ascending, then all-zero ones for unused places. Assumes nothing.
use Rattle.std.specs.Prelude.{◌≡◌, Bool, true, not, ◌&&◌, List, [], ◌∷◌, ◌++◌, map, ℕ, ◌*◌, ◌-◌, eqb, length, take, drop, replicate, Option, is_some, IfSome}
use Rattle.monomial.specs.Lists.{any, all, place, below}
use Rattle.monomial.specs.Monomial.{Mono, one, constants, width}
use Rattle.monomial.specs.Order.{same, before}
use Rattle.wiring.specs.Panel.{cards, set_bytes, set_exponent}
use Rattle.wiring.specs.Sockets.{may_be}
use Rattle.wiring.specs.Signals.{front, flat}
use Rattle.wiring.specs.Terms.{exponents_right}
use Rattle.wiring.specs.declared.panel.Panel.{Panel}
use Rattle.wiring.specs.declared.held.Set.{Set}

-- the monomials at the places of a record
unfoldable pub places : List ℕ → List Mono
places bytes = map (λ i. take width (drop (width * i) bytes)) (below cards)

-- how many places are used: up to the first that is all zero; and the set
unfoldable pub size_of : List ℕ → ℕ
size_of bytes = place (same (one width)) (places bytes)

unfoldable pub set_of : List ℕ → List Mono
set_of bytes = take (size_of bytes) (places bytes)

-- each stands before the next
unfoldable pub ascending : List Mono → Bool
ascending [] = true
ascending (m ∷ l) = let r = ascending l in all (before m) l && r

-- neither 1 nor a single variable, exponents that a set may have, zero beyond xn, and what a new monomial may be
unfoldable pub monomial_right : Panel → Mono → Bool
monomial_right panel m = not (any (same m) (constants width)) && exponents_right set_exponent panel.n m && may_be panel m

unfoldable pub set_right : Panel → List ℕ → Bool
set_right panel bytes = all (eqb 0) (drop (width * size_of bytes) bytes) && ascending (set_of bytes) && all (monomial_right panel) (set_of bytes)

-- the record of a set
unfoldable pub set_record : List Mono → List ℕ
set_record s = flat s ++ replicate (set_bytes - width * length s) 0

-- the monomials of a set held by value
abbrev pub monomials_of : Set → List Mono
monomials_of s = front s.len s.m

-- the set of a record
pub record IsSetOf (bytes : List ℕ) (s : Set) : Type 0 where
  pub holds : monomials_of s ≡ set_of bytes
  pub size : s.len ≡ length (set_of bytes)

-- reading a record: whether it keeps its rule, and then its set
pub record SetReads (panel : Panel) (bytes : List ℕ) (r : Option Set) : Type 0 where
  pub right : is_some r ≡ set_right panel bytes
  pub set : IfSome r (IsSetOf bytes)
