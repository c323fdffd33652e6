-- The derivative of a monomial of any kind: the sum over i of the exponent of xi, times the monomial divided by xi, times equation i.
-- Assumes nothing.
use Rattle.std.specs.Prelude.{◌≡◌, Bool, true, false, not, cond, ◌&&◌, List, [], ◌∷◌, ◌++◌, map, ℕ, suc, ◌-◌, ◌/◌, ◌<◌, eqb, leb, length, get_or}
use Rattle.monomial.specs.Lists.{keep, arrange_by}
use Rattle.monomial.specs.Monomial.{Mono, one, constants, width}
use Rattle.monomial.specs.Order.{same, before}
use Rattle.monomial.specs.Product.{mul}
use Rattle.wiring.specs.Coefficient.{is_zero}
use Rattle.wiring.specs.Poly.{Kind, Poly, plain, coeff, times}
use Rattle.wiring.specs.Panel.{term_bytes}
use Rattle.wiring.specs.Terms.{Record, record_at, records, system}

module _ {M : Type 0} (k : Kind M) where
  -- the summand of variable number i, from 0, whose equation is f: nothing where its exponent in z is 0
  abbrev pub part : ℕ → M → Poly M → Poly M
  part i z f = cond (is_zero (k.power z i)) [] (times k (k.power z i) (k.over z i) f)

  -- the summands of the variables from number i on
  unfoldable pub parts_from : ℕ → M → List (Poly M) → Poly M
  parts_from i z [] = []
  parts_from i z (f ∷ fs) = part i z f ++ parts_from (suc i) z fs

  -- fs has the equation of each variable
  unfoldable pub derivative : List (Poly M) → M → Poly M
  derivative fs z = parts_from 0 z fs

-- ---- what one record adds to the derivative of z: the exponent of its variable, and its monomial times z divided by that variable
abbrev pub power : Record → Mono → ℕ
power r z = get_or z (r.equation - 1) 0

abbrev pub image : Record → Mono → Mono
image r z = mul (plain.over z (r.equation - 1)) r.monomial

-- a record gives a monomial that passes the test, and one with a coefficient
unfoldable pub gives : (Mono → Bool) → Mono → Record → Bool
gives test z r = leb 1 (power r z) && test (image r z)

unfoldable pub offers : (Mono → Bool) → List (Poly Mono) → Mono → Record → Bool
offers test fs z r = gives test z r && not (is_zero (coeff plain (derivative plain fs z) (image r z)))

-- all monomials that records give, ascending, each once, those whose total is 0 among them
unfoldable pub images : List Record → Mono → List Mono
images rs z = arrange_by same before (map (λ r. image r z) (keep (gives (λ m. true) z) rs))

-- two records of two equations give one monomial wherever both give one
unfoldable pub crosses : Record → Record → Bool
crosses r q =
    let variable : ℕ → Mono = λ i. get_or (constants width) i (one width) in
    not (eqb r.equation q.equation) && same (mul r.monomial (variable q.equation)) (mul q.monomial (variable r.equation))

-- no total is 0: each monomial that a record gives to a derivative has a coefficient there
abbrev pub Uncancelled : List ℕ → Type 0
Uncancelled bytes = (z : Mono) (t : ℕ) → length z ≡ width → t < length bytes / term_bytes → 0 < power (record_at bytes t) z
    → is_zero (coeff plain (derivative plain (system (records bytes)) z) (image (record_at bytes t) z)) ≡ false
