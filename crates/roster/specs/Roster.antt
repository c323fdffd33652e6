-- New names in the order of a listing, and the set that they form. Assumes nothing.
use Rattle.std.specs.Prelude.{◌≡◌, Bool, true, false, not, ◌&&◌, List, [], ◌∷◌, ℕ, ◌+◌, ◌<◌, length, Option, Some, None}
use Rattle.monomial.specs.Lists.{any, all, insert_by, arrange_by}
use Rattle.monomial.specs.Monomial.{Mono, width}
use Rattle.monomial.specs.Order.{same, before}
use Rattle.monomial.specs.Claims.{Ascending}
use Rattle.wiring.specs.Panel.{cards}
use Rattle.wiring.specs.Sets.{monomial_right, monomials_of, set_record}
use Rattle.wiring.specs.declared.panel.Panel.{Panel}
use Rattle.wiring.specs.declared.held.Set.{Set}

-- no monomial stands twice
unfoldable pub distinct : List Mono → Bool
distinct [] = true
distinct (m ∷ l) = let r = distinct l in not (any (same m) l) && r

-- the names form a set: each is what a set may hold, and none stands twice
unfoldable pub forms_set : Panel → List Mono → Bool
forms_set panel names = all (monomial_right panel) names && distinct names

-- and this is it
abbrev pub arranged : List Mono → List Mono
arranged = arrange_by same before

-- what is said of names: the record of the set that they form, or that they form none
abbrev pub Forms : Panel → List Mono → Option (List ℕ) → Type 0
Forms panel names (Some bytes) = (forms_set panel names ≡ true) × (bytes ≡ set_record (arranged names))
Forms panel names None = forms_set panel names ≡ false

-- m may be entered in a set: there is a card for it, the set ascends, and m is new there
pub record Entering (set : Set) (m : Mono) : Type 0 where
  pub room : set.len < cards
  pub ascends : Ascending before (monomials_of set)
  pub new : any (same m) (monomials_of set) ≡ false

-- r is the set with m in it; and m, held by value, has the panel's width
pub record Entered (set : Set) (m : Mono) (r : Set) : Type 0 where
  pub holds : monomials_of r ≡ insert_by same before m (monomials_of set)
  pub size : r.len ≡ set.len + 1
  pub wide : length m ≡ width
