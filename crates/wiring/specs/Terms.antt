-- Term records: what stands in the bytes, the rule of each field, and the system that they hold. Assumes nothing.
use Rattle.std.specs.Prelude.{◌≡◌, Bool, not, cond, ◌&&◌, List, [], ◌∷◌, ◌++◌, map, ℕ, suc, ◌+◌, ◌*◌, ◌-◌, ◌/◌, ◌%◌, eqb, leb, ℤ, nat_abs, length, get_or, take, drop, ⊤, Result, Ok, Err}
use Rattle.monomial.specs.Lists.{any, all, keep, below}
use Rattle.monomial.specs.Monomial.{Mono, width}
use Rattle.monomial.specs.Order.{same}
use Rattle.monomial.specs.Degree.{within}
use Rattle.wiring.specs.Panel.{term_bytes, most_terms, term_exponent, most_coefficient, coefficient_at, monomial_at}
use Rattle.wiring.specs.Sockets.{full_panel, marked}
use Rattle.wiring.specs.Coefficient.{word, signed, is_zero}
use Rattle.wiring.specs.Poly.{Poly}
use Rattle.wiring.specs.declared.panel.Panel.{Panel}
use Rattle.wiring.specs.declared.terms.Fault.{Fault}
use Rattle.wiring.specs.declared.terms.Fault.TheVariants.{Wrong, Repeated}

pub record Record : Type 0 where
  pub equation : ℕ
  pub blank : ℕ
  pub monomial : Mono
  pub coefficient : ℤ

-- record number i, from 0
abbrev pub record_at : List ℕ → ℕ → Record
record_at bytes i = record {
  equation = get_or bytes (term_bytes * i) 0;
  blank = get_or bytes (term_bytes * i + 1) 0;
  monomial = take width (drop (term_bytes * i + monomial_at) bytes);
  coefficient = signed (word bytes (term_bytes * i + coefficient_at));
}

unfoldable pub records : List ℕ → List Record
records bytes = map (record_at bytes) (below (length bytes / term_bytes))

-- whole records, and not too many
unfoldable pub length_right : List ℕ → Bool
length_right bytes = eqb (length bytes % term_bytes) 0 && leb (length bytes) (term_bytes * most_terms)

-- exponents up to most, zero beyond xn
unfoldable pub exponents_right : ℕ → ℕ → Mono → Bool
exponents_right most n m = all (λ e. leb e most) m && within n m

-- nonzero, from -1,000,000 to 1,000,000
unfoldable pub coefficient_right : ℤ → Bool
coefficient_right c = not (is_zero c) && leb (nat_abs c) most_coefficient

-- every field keeps its rule; the equation is that of a variable that has one
unfoldable pub term_right : Panel → Record → Bool
term_right panel r =
    leb 1 r.equation && leb r.equation panel.n && not (marked panel.marks (r.equation - 1)) && eqb r.blank 0
    && exponents_right term_exponent panel.n r.monomial && coefficient_right r.coefficient

-- the same equation and exponents
abbrev pub alike : Record → Record → Bool
alike r q = eqb r.equation q.equation && same r.monomial q.monomial

-- the first record that is wrong, or repeats an earlier one, decides: 3 before 4 within a record. Places count from 1
unfoldable pub fault_from : Panel → List Record → List Record → Result ⊤ Fault
fault_from panel seen [] = Ok tt
fault_from panel seen (r ∷ rs) =
    let rest = fault_from panel (seen ++ (r ∷ [])) rs in
    cond (term_right panel r) (cond (any (alike r) seen) (Err (Repeated (suc (length seen)))) rest) (Err (Wrong (suc (length seen))))

abbrev pub fault : Panel → List Record → Result ⊤ Fault
fault panel rs = fault_from panel [] rs

-- records that some panel of n variables takes: what is clean for any of them is clean for one without marks
abbrev pub CleanFor : ℕ → List ℕ → Type 0
CleanFor n bytes = fault (full_panel n) (records bytes) ≡ Ok tt

-- records that some panel takes
abbrev pub CleanTerms : List ℕ → Type 0
CleanTerms = CleanFor width

-- the terms of equation number i, from 0, in the records' order; an equation without records is zero. A signal has no records, and no reply
-- depends on the zero that stands for its derivative here (`slope_is`, `verdict_driven`)
unfoldable pub equation : List Record → ℕ → Poly Mono
equation rs i = map (λ r. (r.coefficient, r.monomial)) (keep (λ r. eqb r.equation (suc i)) rs)

unfoldable pub system : List Record → List (Poly Mono)
system rs = map (equation rs) (below width)
