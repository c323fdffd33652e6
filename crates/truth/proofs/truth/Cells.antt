-- The cells of a line's sums: each product of two signals has its own, and one term more changes that of its product alone. Assumes nothing.
use mathlib.Core.Path.{◌≡◌, refl, sym, ap, ap₂, ◌∙◌, subst}
use mathlib.Core.Logic.{⊎_elim}
use mathlib.Core.List.Memᴰ
use mathlib.Core.List.{List, [], ◌∷◌, ◌++◌}
use Prim.Native.Nat.{ℕ, ◌+◌, ◌*◌, ◌≤◌, ◌<◌}
use native.Mathlib.Omega.{arith}
use borrow.Author.Tests.{eqb-true, eqb-false}
use lib.Dec.{T, eqb}
use lib.IntN.{ℤ, pos, nat_abs, ◌+ℤ◌, +ℤ_idr}
use lib.ListN.{length, get_or, set, replicate, length-append}
use lib.Seq.{get_or-set_same, get_or-set_other}
use Rattle.monomial.specs.Monomial.{Mono}
use Rattle.monomial.specs.Order.{same}
use Rattle.monomial.specs.Product.{mul}
use Rattle.monomial.specs.Claims.{◌∈◌}
use Rattle.monomial.proofs.Tests.{Tested, passed, failed, test, is→T, is→n_t}
use Rattle.monomial.proofs.Members.{fill_at}
use Rattle.monomial.proofs.Counting.{at_in}
use Rattle.monomial.proofs.order.Laws.{mono_order}
use Rattle.wiring.specs.Panel.{most_signals}
use Rattle.wiring.specs.Poly.{Poly, plain, coeff}
use Rattle.wiring.specs.Quadratic.{multiplied, in_v2}
use Rattle.wiring.specs.Wires.{signal, first_of, second_of}
use Rattle.wiring.proofs.Ints.{abs_sum}
use Rattle.wiring.proofs.Poly.{coeff_hit, coeff_miss, coeff_append}
use Rattle.wiring.proofs.kinds.Plain.{plain_lawful}
use Rattle.wiring.proofs.quadratic.Laws.{in_v2_in}
use Rattle.wiring.proofs.wires.Laws.{second_lt, pair_is}
use Rattle.listing.specs.Meaning.{Product}
use Rattle.truth.specs.Truth.{spoken}
use Rattle.truth.specs.Sums.{most_number, most_products, most_sum, pair_cells, cell, held, Bounded, Summed, Told}
use Rattle.truth.specs.declared.truth.Sums.{Sums}

-- the product of two signals is in V2
pub product_in : (v : List Mono) (x y : Mono) → x ∈ v → y ∈ v → T (in_v2 plain v (mul x y))
product_in v x y hx hy = in_v2_in plain mono_order v (mul x y) (record { a = x; b = y; a_in = hx; b_in = hy; is = refl })

pub signals-in : (v : List Mono) (a b : ℕ) → a < length v → b < length v → T (in_v2 plain v (mul (signal plain v a) (signal plain v b)))
signals-in v a b ha hb = product_in v (signal plain v a) (signal plain v b) (at_in v a (plain.one 0) ha) (at_in v b (plain.one 0) hb)

module _ (v : List Mono) (few : length v ≤ most_signals) where
  -- two numbers in base 13
  digits : (a b c d : ℕ) → b < most_signals → d < most_signals → most_signals * a + b ≡ most_signals * c + d → (a ≡ c) × (b ≡ d)
  digits a b c d hb hd e = (omega arith, omega arith)

  -- a cell has one monomial
  pub cell_apart : (m n : Mono) → T (in_v2 plain v m) → T (in_v2 plain v n) → cell v m ≡ cell v n → m ≡ n
  unfolding cell
  cell_apart m n s t e =
      let hm : second_of plain v m < length v = second_lt plain plain_lawful v m s in
      let hn : second_of plain v n < length v = second_lt plain plain_lawful v n t in
      let d = digits (first_of plain v m) (second_of plain v m) (first_of plain v n) (second_of plain v n) (omega arith) (omega arith) e in
      sym (pair_is plain plain_lawful v m s)
      ∙ ap₂ (λ (a b : ℕ). mul (signal plain v a) (signal plain v b)) d.0 d.1
      ∙ pair_is plain plain_lawful v n t

-- ---- a line without terms
pub summed_start : (v : List Mono) (sums : Sums) → sums.cells ≡ replicate pair_cells (pos 0) → Summed v [] sums
unfolding spoken multiplied coeff
summed_start v sums e = record { totals = λ m t. nothing (cell v m); bounded = λ i. rw (nothing i) (omega arith) }
  where
    nothing : (i : ℕ) → held sums i ≡ pos 0
    nothing i = ap (λ (l : List ℤ). get_or l i (pos 0)) e ∙ fill_at (pos 0) pair_cells i

-- ---- one term more
spoken_append : (v : List Mono) (line more : List Product) → spoken v (line ++ more) ≡ spoken v line ++ spoken v more
unfolding spoken multiplied
spoken_append v [] more = refl
spoken_append v (p ∷ line) more = ap (◌∷◌ (p.coefficient, mul (signal plain v p.a) (signal plain v p.b))) (spoken_append v line more)

module _ (v : List Mono) (few : length v ≤ most_signals) (line : List Product) (p : Product) (a_in : p.a < length v) (b_in : p.b < length v) where
  abbrev product : Mono
  product = mul (signal plain v p.a) (signal plain v p.b)

  abbrev longer : List Product
  longer = line ++ (p ∷ [])

  last_hit : (m : Mono) → product ≡ m → coeff plain (spoken v longer) m ≡ coeff plain (spoken v line) m +ℤ p.coefficient
  unfolding spoken multiplied coeff
  last_hit m e =
      ap (λ (q : Poly Mono). coeff plain q m) (spoken_append v line (p ∷ []))
      ∙ coeff_append plain mono_order (spoken v line) ((p.coefficient, product) ∷ []) m
      ∙ ap (λ (c : ℤ). coeff plain (spoken v line) m +ℤ c) (coeff_hit plain mono_order (p.coefficient, product) [] m e ∙ +ℤ_idr p.coefficient)

  last_miss : (m : Mono) → (product ≡ m → ⊥) → coeff plain (spoken v longer) m ≡ coeff plain (spoken v line) m
  unfolding spoken multiplied coeff
  last_miss m n =
      ap (λ (q : Poly Mono). coeff plain q m) (spoken_append v line (p ∷ []))
      ∙ coeff_append plain mono_order (spoken v line) ((p.coefficient, product) ∷ []) m
      ∙ ap (λ (c : ℤ). coeff plain (spoken v line) m +ℤ c) (coeff_miss plain mono_order (p.coefficient, product) [] m n)
      ∙ +ℤ_idr (coeff plain (spoken v line) m)

  module _ (sums next : Sums) (at : ℕ) (at_is : at ≡ cell v product) (room : at < length sums.cells)
      (is : next.cells ≡ set sums.cells at (held sums at +ℤ p.coefficient)) (small : nat_abs p.coefficient ≤ most_number) (s : Summed v line sums) where
    here : held next at ≡ held sums at +ℤ p.coefficient
    here = ap (λ (l : List ℤ). get_or l at (pos 0)) is ∙ get_or-set_same sums.cells at (held sums at +ℤ p.coefficient) (pos 0) room

    elsewhere : (i : ℕ) → (i ≡ at → ⊥) → held next i ≡ held sums i
    elsewhere i n = ap (λ (l : List ℤ). get_or l i (pos 0)) is ∙ get_or-set_other sums.cells at i (held sums at +ℤ p.coefficient) (pos 0) n

    total_next : (m : Mono) → T (in_v2 plain v m) → held next (cell v m) ≡ coeff plain (spoken v longer) m
    total_next m t = go (test (same product m))
      where
        go : Tested (same product m) → held next (cell v m) ≡ coeff plain (spoken v longer) m
        go (passed e) =
            let q : product ≡ m = mono_order.same_eq product m (is→T (same product m) e) in
            let place : at ≡ cell v m = at_is ∙ ap (cell v) q in
            ap (held next) (sym place) ∙ here ∙ ap (λ (c : ℤ). c +ℤ p.coefficient) (ap (held sums) place ∙ s.totals m t) ∙ sym (last_hit m q)
        go (failed e) =
            let n : product ≡ m → ⊥ = λ q. is→n_t (same product m) e (subst (λ (x : Mono). T (same product x)) q (mono_order.same_refl product)) in
            let other : cell v m ≡ at → ⊥ = λ q. n (cell_apart v few product m (signals-in v p.a p.b a_in b_in) t (sym at_is ∙ sym q)) in
            elsewhere (cell v m) other ∙ s.totals m t ∙ sym (last_miss m n)

    bound_next : Bounded (most_number * length longer) next
    bound_next i = go (test (eqb i at))
      where
        long : length longer ≡ length line + 1
        long = length-append line (p ∷ [])

        go : Tested (eqb i at) → nat_abs (held next i) ≤ most_number * length longer
        go (passed e) =
            let q : i ≡ at = eqb-true i at e in
            let old : nat_abs (held sums at) ≤ most_number * length line = s.bounded at in
            let sum : nat_abs (held sums at +ℤ p.coefficient) ≤ nat_abs (held sums at) + nat_abs p.coefficient = abs_sum (held sums at) p.coefficient in
            rw (q, here) (omega (arith, long))
        go (failed e) =
            let old : nat_abs (held sums i) ≤ most_number * length line = s.bounded i in
            rw (elsewhere i (eqb-false i at e)) (omega (arith, long))

    pub summed_next : Summed v longer next
    summed_next = record { totals = total_next; bounded = bound_next }

-- a line has been told as far as its terms have
pub told_start : (v : List Mono) → Told v []
told_start v p h = absurd (Memᴰ.not-nil h)

pub told_next : (v : List Mono) (line : List Product) (p : Product) → p.a < length v → p.b < length v → Told v line → Told v (line ++ (p ∷ []))
told_next v line p a_in b_in told q h =
    ⊎_elim
    (λ k. told q k)
    (λ k. ⊎_elim (λ e. subst (λ (x : Product). (x.a < length v) × (x.b < length v)) (sym e) (a_in, b_in)) (λ n. absurd (Memᴰ.not-nil n)) (Memᴰ.cases_cons k))
    (Memᴰ.append_cases line h)

-- what a line of so many products has leaves room for one more
pub summed_bound : (v : List Mono) (line : List Product) (sums : Sums) → length line ≤ most_products → Summed v line sums → Bounded most_sum sums
summed_bound v line sums h s i = let b : nat_abs (held sums i) ≤ most_number * length line = s.bounded i in omega arith
