-- The sums of a line decide its truth: they agree with the derivative at every product of two signals, and the derivative has no other monomial.
-- Assumes nothing.
use mathlib.Core.Path.{◌≡◌, refl, sym, ap, ◌∙◌, subst}
use mathlib.Core.Bool.{Bool, true, false, not, ◌&&◌}
use mathlib.Core.List.Memᴰ
use mathlib.Core.List.{List, [], ◌∷◌}
use mathlib.Core.Logic.{⊎_elim}
use Prim.Native.Nat.{ℕ, zero, suc, ◌≤◌, ◌<◌}
use native.Mathlib.Omega.{arith}
use lib.Dec.{T, T_not, not_T}
use lib.IntN.{pos}
use lib.ListN.{length, get_or, drop}
use Rattle.std.specs.List.{list_all, range_with_len}
use Rattle.monomial.specs.Lists.{below}
use Rattle.monomial.specs.Monomial.{Mono}
use Rattle.monomial.specs.Product.{mul}
use Rattle.monomial.specs.Claims.{◌∈◌}
use Rattle.monomial.proofs.Tests.{Tested, passed, failed, test, is→T, is→n_t, and_l, and_r, and_i, same_test}
use Rattle.monomial.proofs.Members.{here, there, map_at, drop_in, all_in, all_out, some_in, some_out}
use Rattle.monomial.proofs.Counting.{at_in, below_in, below_out, below_length}
use Rattle.monomial.proofs.order.Laws.{mono_order}
use Rattle.wiring.specs.Coefficient.{is_zero}
use Rattle.wiring.specs.Poly.{Poly, plain, monos, coeff, Same}
use Rattle.wiring.specs.Derivative.{derivative}
use Rattle.wiring.specs.Quadratic.{multiplied, in_v2, unmet, lacking}
use Rattle.wiring.specs.Wires.{signal, first_of, second_of}
use Rattle.wiring.proofs.Poly.{zero_is, is-zero, coeff_absent, support_in, support_out}
use Rattle.wiring.proofs.kinds.Plain.{plain_lawful}
use Rattle.wiring.proofs.quadratic.Laws.{unmet_in, unmet_out}
use Rattle.wiring.proofs.wires.Laws.{first_lt, second_lt, pair_is, first_le_second}
use Rattle.listing.specs.Meaning.{Product}
use Rattle.truth.specs.Truth.{spoken, line_true}
use Rattle.truth.specs.Sums.{cell, held, Summed, Told, agrees, row_agrees, all_agree}
use Rattle.truth.specs.declared.truth.Sums.{Sums}
use Rattle.truth.proofs.truth.Laws.{zero_apart, apart_zero, line_same}
use Rattle.truth.proofs.truth.Cells.{product_in, signals-in}
use Rattle.truth.proofs.truth.Ranges.{all_from}

-- a number below n, at its own place
pub below_self : (n i d : ℕ) → i < n → get_or (below n) i d ≡ i
unfolding below
below_self zero i d h = let z : ⊥ = omega arith in absurd z
below_self (suc n) zero d h = refl
below_self (suc n) (suc i) d h = map_at suc (below n) i 0 d (omega (arith, below_length n)) ∙ ap suc (below_self n i 0 (omega arith))

-- an entry from number a on
behind : {A : Type 0} (l : List A) (a b : ℕ) (d : A) → a ≤ b → b < length l → get_or l b d ∈ drop a l
behind [] a b d h k = let z : ⊥ = omega arith in absurd z
behind (x ∷ l) zero b d h k = at_in (x ∷ l) b d k
behind (x ∷ l) (suc a) zero d h k = let z : ⊥ = omega arith in absurd z
behind (x ∷ l) (suc a) (suc b) d h k = behind l a b d (omega arith) (omega arith)

-- the monomials of a line are products of two signals
spoken_in : (v : List Mono) (line : List Product) → Told v line → (m : Mono) → m ∈ monos (spoken v line) → T (in_v2 plain v m)
unfolding spoken multiplied
spoken_in v [] told m h = absurd (Memᴰ.not-nil h)
spoken_in v (p ∷ line) told m h =
    ⊎_elim
    (λ e. subst (λ (x : Mono). T (in_v2 plain v x)) (sym e) (signals-in v p.a p.b (told p here).0 (told p here).1))
    (λ k. spoken_in v line (λ q n. told q (there n)) m k)
    (Memᴰ.cases_cons h)

module _ (v : List Mono) (line : List Product) (sums : Sums) (told : Told v line) (s : Summed v line sums) (p : Poly Mono) where
  -- they agree at m exactly where its coefficients do
  agrees_out : (m : Mono) → T (in_v2 plain v m) → T (agrees v sums p m) → coeff plain (spoken v line) m ≡ coeff plain p m
  unfolding agrees
  agrees_out m t a = sym (s.totals m t) ∙ zero_apart (held sums (cell v m)) (coeff plain p m) a

  agrees_in : Same plain (spoken v line) p → (m : Mono) → T (in_v2 plain v m) → T (agrees v sums p m)
  unfolding agrees
  agrees_in e m t = apart_zero (held sums (cell v m)) (coeff plain p m) (s.totals m t ∙ e m)

  -- each monomial of V2 is met at its first pair
  all_out_at : T (all_agree v sums p) → (m : Mono) → T (in_v2 plain v m) → T (agrees v sums p m)
  unfolding all_agree row_agrees
  all_out_at t m i =
      let a : ℕ = first_of plain v m in
      let b : ℕ = second_of plain v m in
      let row : T (row_agrees v sums p a) = all_out (row_agrees v sums p) t (below_in (length v) a (first_lt plain plain_lawful v m i)) in
      let in_row : signal plain v b ∈ drop a v = behind v a b (plain.one 0) (first_le_second plain plain_lawful v m i) (second_lt plain plain_lawful v m i) in
      subst (λ (x : Mono). T (agrees v sums p x)) (pair_is plain plain_lawful v m i) (all_out (λ y. agrees v sums p (mul (signal plain v a) y)) row in_row)

  all_in_at : ((m : Mono) → T (in_v2 plain v m) → T (agrees v sums p m)) → T (all_agree v sums p)
  unfolding all_agree row_agrees
  all_in_at h =
      all_in (row_agrees v sums p) (below (length v))
      (λ a n.
      let x : Mono = signal plain v a in
      let in_v : x ∈ v = at_in v a (plain.one 0) (below_out (length v) a n) in
      all_in (λ y. agrees v sums p (mul x y)) (drop a v) (λ y k. h (mul x y) (product_in v x y in_v (drop_in a v k))))

  -- outside V2 the line has nothing
  outside : (m : Mono) → (T (in_v2 plain v m) → ⊥) → coeff plain (spoken v line) m ≡ pos 0
  outside m n = coeff_absent plain mono_order (spoken v line) m (λ h. n (spoken_in v line told m h))

  -- and where p lacks no product, p has nothing either
  same_from : T (all_agree v sums p) → (T (lacking plain v p) → ⊥) → Same plain (spoken v line) p
  same_from t n m = go (test (in_v2 plain v m))
    where
      go : Tested (in_v2 plain v m) → coeff plain (spoken v line) m ≡ coeff plain p m
      go (passed e) = let i : T (in_v2 plain v m) = is→T (in_v2 plain v m) e in agrees_out m i (all_out_at t m i)
      go (failed e) = outside m (is→n_t (in_v2 plain v m) e) ∙ sym (none (test (is_zero (coeff plain p m))))
        where
          none : Tested (is_zero (coeff plain p m)) → coeff plain p m ≡ pos 0
          none (passed z) = zero_is (coeff plain p m) (is→T (is_zero (coeff plain p m)) z)
          none (failed z) =
              let counts : coeff plain p m ≡ pos 0 → ⊥ = λ q. is→n_t (is_zero (coeff plain p m)) z (is-zero (coeff plain p m) q) in
              absurd (n (some_in (unmet_in plain mono_order v p m (support_in plain mono_order p m counts) (is→n_t (in_v2 plain v m) e))))

  same_met : Same plain (spoken v line) p → T (lacking plain v p) → ⊥
  same_met e t =
      let x : (m : Mono) × (m ∈ unmet plain v p) = some_out (unmet plain v p) t in
      let f = unmet_out plain mono_order v p x.0 x.1 in
      let nonzero : coeff plain p x.0 ≡ pos 0 → ⊥ = (support_out plain mono_order p x.0 f.0).1 in
      nonzero (sym (e x.0) ∙ outside x.0 f.1)

-- the sums decide
module _ (v : List Mono) (fs : List (Poly Mono)) (left : ℕ) (line : List Product) (sums : Sums) (told : Told v line) (s : Summed v line sums) where
  abbrev own : Poly Mono
  own = derivative plain fs (signal plain v left)

  pub decided : line_true v fs left line ≡ (all_agree v sums own && not (lacking plain v own))
  decided = same_test (line_true v fs left line) (all_agree v sums own && not (lacking plain v own)) there_is one_is
    where
      there_is : T (line_true v fs left line) → T (all_agree v sums own && not (lacking plain v own))
      there_is t =
          let e : Same plain (spoken v line) own = (line_same v fs left line).0 t in
          and_i (all_agree v sums own) (not (lacking plain v own)) (all_in_at v line sums told s own (agrees_in v line sums told s own e))
          (not_T (lacking plain v own) (same_met v line sums told s own e))

      one_is : T (all_agree v sums own && not (lacking plain v own)) → T (line_true v fs left line)
      one_is t =
          let all : T (all_agree v sums own) = and_l (all_agree v sums own) (not (lacking plain v own)) t in
          let met : T (lacking plain v own) → ⊥ = T_not (lacking plain v own) (and_r (all_agree v sums own) (not (lacking plain v own)) t) in
          (line_same v fs left line).1 (same_from v line sums told s own all met)

  -- as the code finds it, with the monomial z of its signal
  module _ (z : Mono) (z_is : signal plain v left ≡ z) where
    abbrev found : Poly Mono
    found = derivative plain fs z

    decided_at : line_true v fs left line ≡ (all_agree v sums found && not (lacking plain v found))
    decided_at = decided ∙ ap (λ (y : Mono). all_agree v sums (derivative plain fs y) && not (lacking plain v (derivative plain fs y))) z_is

    pub decided_no : false ≡ all_agree v sums found → false ≡ line_true v fs left line
    decided_no e = ap (λ (b : Bool). b && not (lacking plain v found)) e ∙ sym decided_at

    pub decided_end : true ≡ all_agree v sums found → (b : Bool) → b ≡ lacking plain v found → not b ≡ line_true v fs left line
    decided_end e b f = ap not f ∙ ap (λ (a : Bool). a && not (lacking plain v found)) e ∙ sym decided_at

-- the rows are asked by their numbers
pub rows_asked : (v : List Mono) (sums : Sums) (p : Poly Mono) (n : ℕ) → n ≡ length v → list_all (row_agrees v sums p) (range_with_len 0 n) ≡ all_agree v sums p
unfolding all_agree
rows_asked v sums p n e =
    all_from 0 (row_agrees v sums p) (row_agrees v sums p) (below (length v)) 0 n (omega (arith, below_length (length v)))
    (λ a low high. ap (row_agrees v sums p) (sym (below_self (length v) a 0 (omega (arith, below_length (length v))))))
