-- What is read of a head, and that the lengths of one that is answered are within the buffers. Assumes nothing.
use mathlib.Core.Path.{◌≡◌, sym, ap, ◌∙◌}
use mathlib.Core.List.{List}
use mathlib.Core.Bool.{true, ◌&&◌}
use Prim.Native.Nat.{ℕ, ◌+◌, ◌<◌, ◌≤◌}
use borrow.Author.Tests.{leb-true}
use lib.Dec.{leb}
use lib.ListN.{get_or, take, drop}
use Rattle.std.proofs.Common.{arith}
use Rattle.std.proofs.lemmas.List.{get_or-take, get_or-drop}
use Rattle.std.specs.Int.{w16, w32, w64, byte_worth, from_le_bytes}
use Rattle.std.specs.Prelude.{option_map, Result, Ok, Err, slice_index}
use Rattle.std.specs.Result.{result_ok}
use Rattle.monomial.proofs.Tests.{T→is, is→T, and_l, and_r}
use Rattle.compare.specs.Head.{operation_of, Numbered, head_with, head_of, two, four, eight, longest_terms, longest_given, longest_buffer, right}
use Rattle.compare.specs.declared.head.Head.{Head}
use Rattle.compare.specs.declared.head.Operation.{Operation}
use Rattle.compare.specs.declared.head.UnknownOperation.{UnknownOperation}

-- byte number i of those from a place on
from_place : (n at : ℕ) (l : List ℕ) (i k : ℕ) → i < n → at + i ≡ k → get_or (take n (drop at l)) i 0 ≡ get_or l k 0
from_place n at l i k h e = get_or-take n (drop at l) i 0 h ∙ get_or-drop at l i 0 ∙ ap (λ j. get_or l j 0) e

first_place : (n at : ℕ) (l : List ℕ) → 0 < n → byte_worth 0 (slice_index (take n (drop at l)) 0) ≡ get_or l at 0
first_place n at l h = from_place n at l 0 at h (omega arith)

module _ (l : List ℕ) (at : ℕ) where
  pub two_read : {b : List ℕ} → b ≡ take 2 (drop at l) → from_le_bytes w16 b ≡ two l at
  two_read e =
      ap (from_le_bytes w16) e ∙ omega (
        arith,
        first_place 2 at l (omega arith),
        from_place 2 at l 1 (at + 1) (omega arith) (omega arith),
      )

  pub four_read : {b : List ℕ} → b ≡ take 4 (drop at l) → from_le_bytes w32 b ≡ four l at
  four_read e =
      ap (from_le_bytes w32) e ∙ omega (
        arith,
        first_place 4 at l (omega arith),
        from_place 4 at l 1 (at + 1) (omega arith) (omega arith),
        from_place 4 at l 2 (at + 2) (omega arith) (omega arith),
        from_place 4 at l 3 (at + 2 + 1) (omega arith) (omega arith),
      )

  pub eight_read : {b : List ℕ} → b ≡ take 8 (drop at l) → from_le_bytes w64 b ≡ eight l at
  eight_read e =
      ap (from_le_bytes w64) e ∙ omega (
        arith,
        first_place 8 at l (omega arith),
        from_place 8 at l 1 (at + 1) (omega arith) (omega arith),
        from_place 8 at l 2 (at + 2) (omega arith) (omega arith),
        from_place 8 at l 3 (at + 2 + 1) (omega arith) (omega arith),
        from_place 8 at l 4 (at + 4) (omega arith) (omega arith),
        from_place 8 at l 5 (at + 4 + 1) (omega arith) (omega arith),
        from_place 8 at l 6 (at + 4 + 2) (omega arith) (omega arith),
        from_place 8 at l 7 (at + 4 + 2 + 1) (omega arith) (omega arith),
      )

-- a head is read where its operation is
pub known_read : (bytes : List ℕ) (number : ℕ) (r : Result Operation UnknownOperation) → Numbered number r → number ≡ two bytes 0
    → option_map (head_with bytes) (result_ok r) ≡ head_of bytes
unfolding head_of
known_read bytes number (Ok o) h e = ap (option_map (head_with bytes)) (sym h ∙ ap operation_of e)
known_read bytes number (Err x) h e = ap (option_map (head_with bytes)) (sym h.1 ∙ ap operation_of e)

pub record Answerable (h : Head) : Type 0 where
  pub terms : h.terms ≤ longest_terms
  pub given : h.given ≤ longest_given
  pub size : h.size ≤ longest_buffer

pub right_within : (h : Head) → right h ≡ true → Answerable h
right_within h e =
    let all = is→T (right h) e in
    let to_terms = leb h.terms longest_terms in
    let to_given = to_terms && leb h.given longest_given in
    let most = and_l to_given _ all in
    record {
      terms = leb-true _ _ (T→is _ (and_l to_terms _ most));
      given = leb-true _ _ (T→is _ (and_r to_terms _ most));
      size = leb-true _ _ (T→is _ (and_r to_given _ all));
    }
