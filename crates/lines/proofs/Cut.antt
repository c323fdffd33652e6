-- A list that is cut in two: its first entries, or all where there are fewer, and what stands behind them. Assumes nothing.
use Rattle.std.proofs.Common.{◌≡◌, ℕ, ◌-◌, ◌<◌, ◌≤◌, min, leb, List, length, take, drop, sym, ◌∙◌, arith, length-drop, drop_of_length-le, take_all, leb-false, leb-true}
use Rattle.monomial.proofs.Tests.{Tested, passed, failed, test}

module _ {A : Type 0} (l : List A) (n at : ℕ) (e : at ≡ min n (length l)) where
  pub front_within : take at l ≡ take n l
  front_within = go (test (leb n (length l)))
    where
      go : Tested (leb n (length l)) → take at l ≡ take n l
      go (passed t) = let h : n ≤ length l = leb-true n (length l) t in let m : at ≡ n = omega arith in rw m
      go (failed t) =
          let h : length l < n = leb-false n (length l) t in
          take_all at l (omega arith) ∙ sym (take_all n l (omega arith))

  pub rest_within : take (length l - at) (drop at l) ≡ drop n l
  rest_within =
      let all : length (drop at l) ≤ length l - at = simp length-drop (omega arith) in
      take_all (length l - at) (drop at l) all ∙ go (test (leb n (length l)))
    where
      go : Tested (leb n (length l)) → drop at l ≡ drop n l
      go (passed t) = let h : n ≤ length l = leb-true n (length l) t in let m : at ≡ n = omega arith in rw m
      go (failed t) =
          let h : length l < n = leb-false n (length l) t in
          let over : length l ≤ at = omega arith in
          let far : length l ≤ n = omega arith in
          drop_of_length-le l over ∙ sym (drop_of_length-le l far)
