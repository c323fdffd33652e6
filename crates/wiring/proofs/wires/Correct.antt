-- What a wiring list says as a whole, and that the bytes of its records say the same: the rows of all left variables by their numbers, each of
-- them its derivative. One list does so. Assumes nothing.
use mathlib.Core.Path.{◌≡◌, refl, sym, subst, ◌∙◌}
use mathlib.Core.List.{List, ◌++◌}
use Prim.Native.Nat.{ℕ, ◌+◌, ◌*◌, ◌-◌, ◌≤◌, ◌<◌}
use native.Mathlib.Omega.{arith}
use lib.IntN.{nat_abs}
use lib.ListN.{length, get_or, take, drop, replicate}
use lib.Seq.{get_or-append-add}
use Rattle.monomial.specs.Lists.{gather, below}
use Rattle.monomial.specs.Product.{AtMost}
use Rattle.monomial.specs.Claims.{◌∈◌}
use Rattle.monomial.proofs.Members.{gather_same, fill_at}
use Rattle.monomial.proofs.Counting.{below_out, at_in}
use Rattle.monomial.proofs.product.Laws.{at_most_at}
use Rattle.monomial.proofs.Strips.{strip_at}
use Rattle.wiring.specs.Panel.{wire_bytes}
use Rattle.wiring.specs.Poly.{Kind, Poly}
use Rattle.wiring.specs.Wires.{Wire, signal, row, wiring, wire_record, wire_list, Met}
use Rattle.wiring.specs.Kinds.{Lawful}
use Rattle.wiring.specs.Claims.{row_of, Row, Correct, Decodes}
use Rattle.wiring.proofs.coefficient.Laws.{decode_bytes}
use Rattle.wiring.proofs.wires.Laws.{wiring_rows, wiring_row, wiring_is, row_one}
use Rattle.wiring.proofs.wires.Sheets.{record_length, list_length}

-- ---- the list
module _ {M : Type 0} (k : Kind M) (v : List M) (d : M → Poly M) where
  abbrev own : ℕ → List Wire
  own i = row k v i (d (signal k v i))

  -- the rows of any list that are the rows of the wiring list make that list
  rows_alike : (l : List Wire) → ((i : ℕ) → i < length v → row_of i l ≡ own i) → gather (λ i. row_of i l) (below (length v)) ≡ wiring k v d
  rows_alike l h = gather_same (λ i. row_of i l) own (below (length v)) (λ i k. h i (below_out (length v) i k)) ∙ sym (wiring_rows k v d)

  pub wiring_correct : Lawful k → Met k v d → Correct k v d (wiring k v d)
  wiring_correct law met = record { rows = wiring_is k v d law met; ordered = sym (rows_alike (wiring k v d) (wiring_row k v d)) }

  pub correct_one : Lawful k → (l : List Wire) → Correct k v d l → l ≡ wiring k v d
  correct_one law l c = c.ordered ∙ rows_alike l (λ i h. row_one k law v i (d (signal k v i)) (row_of i l) (c.rows i h))

-- a list that is correct by one derivation is so by another that agrees with it on the members of v
pub correct_same : {M : Type 0} (k : Kind M) (v : List M) (d e : M → Poly M) → ((z : M) → z ∈ v → d z ≡ e z) → (l : List Wire) → Correct k v d l → Correct k v e l
correct_same k v d e same l c = record {
  rows = λ i h. subst (λ p. Row k v i p (row_of i l)) (same (signal k v i) (at_in v i (k.one 0) h)) (c.rows i h);
  ordered = c.ordered;
}

-- ---- the bytes of a record
pub wire_decodes : (x : Wire) → x.left < 256 → x.a < 256 → x.b < 256 → nat_abs x.coefficient < 2147483648 → Decodes x (wire_record x)
unfolding wire_record
wire_decodes x l a b c = record {
  long = refl;
  each = λ k. let h = at_most_at 255 (wire_record x) k small in omega arith;
  left_is = refl;
  a_is = refl;
  b_is = refl;
  blank = refl;
  coefficient_is = decode_bytes x.coefficient c;
}
  where
    small : AtMost 255 (wire_record x)
    small = (omega arith, (omega arith, (omega arith, (omega arith, (omega arith, (omega arith, (omega arith, (omega arith, tt))))))))

-- ---- a buffer that begins with the list
pub list_at : (list : List Wire) (tail : List ℕ) (j : ℕ) (none : Wire) → j < length list
    → take wire_bytes (drop (wire_bytes * j) (wire_list list ++ tail)) ≡ wire_record (get_or list j none)
list_at list tail j none h = strip_at wire_record wire_bytes list (λ w k. record_length w) tail j none h

pub list_rest : (list : List Wire) (m k : ℕ) → wire_bytes * length list ≤ k → get_or (wire_list list ++ replicate m 0) k 0 ≡ 0
list_rest list m k h =
    let front : length (wire_list list) ≡ wire_bytes * length list = list_length list in
    let e : length (wire_list list) + (k - length (wire_list list)) ≡ k = omega arith in
    rw (sym e) (get_or-append-add (wire_list list) (replicate m 0) (k - length (wire_list list)) 0 ∙ fill_at 0 m (k - length (wire_list list)))
