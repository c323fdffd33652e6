-- The divisors of a monomial of any width: all of them, ascending, as many as the score. Assumes nothing.
use mathlib.Core.Path.{◌≡◌, refl, sym, ap, ap₂, ◌∙◌, subst}
use mathlib.Core.Logic.{⊎_elim}
use mathlib.Core.List.Memᴰ
use mathlib.Core.List.{List, [], ◌∷◌, map}
use Prim.Native.Nat.{ℕ, suc, ◌+◌, ◌*◌, ◌^◌, ◌≤◌, ◌<◌}
use native.Mathlib.Nat.{mul-le-mul, mul_comm, mul_assoc, le-mul_of_pos_right, pow-zero, pow-succ'}
use native.Mathlib.Omega.{arith}
use native.Mathlib.Numerals.{add-one}
use lib.Dec.{T, ltb, eqb_refl}
use lib.ListN.{length, drop, get_or, length-append, length-map, drop_of_length-le}
use lib.Seq.{drop-cons}
use mir.Val.{Fits}
use mir.Syntax.{w8}
use Rattle.monomial.specs.Lists.{gather, pairwise, below}
use Rattle.monomial.specs.Monomial.{Mono}
use Rattle.monomial.specs.Order.{before}
use Rattle.monomial.specs.Product.{AtMost}
use Rattle.monomial.specs.Quotient.{divides}
use Rattle.monomial.specs.Divisors.{score, divisors}
use Rattle.monomial.specs.Claims.{◌∈◌, Ascending, empty, first}
use Rattle.monomial.proofs.product.Laws.{at_most_all}
use Rattle.monomial.proofs.Members.{here, gather_in, gather_out, Gathered}
use Rattle.monomial.proofs.order.Laws.{ℕ-order, smaller, tied, ahead_is}
use Rattle.monomial.proofs.Counting.{below_in, below_out, below_asc, below_length}
use Rattle.monomial.proofs.order.Ascending.{head_first, tail_asc, append_asc, map_asc}
use Rattle.monomial.proofs.quotient.Laws.{divides_head, divides_tail, divides_cons}

lt_suc : (x e : ℕ) → x ≤ e → x < suc e
lt_suc x e h = omega arith

suc_lt : (x e : ℕ) → x < suc e → x ≤ e
suc_lt x e h = omega arith

-- ---- a divisor is what divides
pub divisors_in : (d m : Mono) → T (divides d m) → d ∈ divisors m
unfolding divisors pairwise
divisors_in [] [] t = here
divisors_in [] (e ∷ m) t = absurd t
divisors_in (x ∷ d) [] t = absurd t
divisors_in (x ∷ d) (e ∷ m) t =
    gather_in (λ w. map (◌∷◌ w) (divisors m)) (below (suc e)) (below_in (suc e) x (lt_suc x e (divides_head x e d m t))) (Memᴰ.map (◌∷◌ x) (divisors_in d m (divides_tail x e d m t)))

pub divisors_out : (d m : Mono) → d ∈ divisors m → T (divides d m)
unfolding divisors pairwise
divisors_out d [] h = ⊎_elim (λ e. subst (λ z. T (divides z [])) (sym e) tt) (λ n. absurd (Memᴰ.not-nil n)) (Memᴰ.cases_cons h)
divisors_out d (e ∷ m) h =
    let g : Gathered (λ w. map (◌∷◌ w) (divisors m)) d (below (suc e)) = gather_out (λ w. map (◌∷◌ w) (divisors m)) (below (suc e)) h in
    let p : (c : Mono) × (c ∈ divisors m) × (g.entry ∷ c ≡ d) = Memᴰ.of_map (◌∷◌ g.entry) (divisors m) g.inside in
    subst (λ z. T (divides z (e ∷ m))) p.2 (divides_cons g.entry e p.0 m (suc_lt g.entry e (below_out (suc e) g.entry g.member)) (divisors_out p.0 m p.1))

-- ---- ascending
-- a block of lists for each head, both ascending
blocks_asc : (r : List Mono) (l : List ℕ) → Ascending before r → Ascending ltb l → Ascending before (gather (λ x. map (◌∷◌ x) r) l)
unfolding gather
blocks_asc r [] a b = empty
blocks_asc r (x ∷ l) a b =
    append_asc (map (◌∷◌ x) r) (gather (λ y. map (◌∷◌ y) r) l) inside (blocks_asc r l a (tail_asc b)) across
  where
    inside : Ascending before (map (◌∷◌ x) r)
    inside = map_asc (◌∷◌ x) (λ c d t. ahead_is ℕ-order x x c d (tied (eqb_refl x) t)) r a

    across : (c d : Mono) → c ∈ map (◌∷◌ x) r → d ∈ gather (λ y. map (◌∷◌ y) r) l → T (before c d)
    across c d m k =
        let p : (u : Mono) × (u ∈ r) × (x ∷ u ≡ c) = Memᴰ.of_map (◌∷◌ x) r m in
        let g : Gathered (λ y. map (◌∷◌ y) r) d l = gather_out (λ y. map (◌∷◌ y) r) l k in
        let q : (v : Mono) × (v ∈ r) × (g.entry ∷ v ≡ d) = Memᴰ.of_map (◌∷◌ g.entry) r g.inside in
        subst (λ z. T (before z d)) p.2
        (subst (λ z. T (before (x ∷ p.0) z)) q.2
        (ahead_is ℕ-order x g.entry p.0 q.0 (smaller (head_first b g.entry g.member))))

pub divisors_asc : (m : Mono) → Ascending before (divisors m)
unfolding divisors
divisors_asc [] = first (λ y h. absurd (Memᴰ.not-nil h)) empty
divisors_asc (e ∷ m) = blocks_asc (divisors m) (below (suc e)) (divisors_asc m) (below_asc (suc e))

-- ---- as many as the score
blocks_length : (r : List Mono) (l : List ℕ) → length (gather (λ x. map (◌∷◌ x) r) l) ≡ length l * length r
unfolding gather
blocks_length r [] = omega arith
blocks_length r (x ∷ l) =
    let ih : length (gather (λ y. map (◌∷◌ y) r) l) ≡ length l * length r = blocks_length r l in
    length-append (map (◌∷◌ x) r) (gather (λ y. map (◌∷◌ y) r) l) ∙ omega (arith, length-map r (◌∷◌ x))

pub divisors_length : (m : Mono) → length (divisors m) ≡ score m
unfolding divisors score
divisors_length [] = refl
divisors_length (e ∷ m) = blocks_length (divisors m) (below (suc e)) ∙ ap₂ ◌*◌ (below_length (suc e)) (divisors_length m)

-- ---- the score, from place i on
pub score_at : (m : Mono) (i : ℕ) → i < length m → score (drop i m) ≡ suc (get_or m i 0) * score (drop (i + 1) m)
unfolding score
score_at m i h = rw (add-one i, drop-cons m i 0 h)

pub score_end : (m : Mono) (i : ℕ) → length m ≤ i → score (drop i m) ≡ 1
unfolding score
score_end m i h = rw (drop_of_length-le m h)

pub score_positive : (m : Mono) → 1 ≤ score m
unfolding score
score_positive [] = omega arith
score_positive (e ∷ m) = let ih : 1 ≤ score m = score_positive m in omega arith

-- a product over the places before i, x, goes on with the places from i
pub score_on : (m : Mono) (i x : ℕ) → i < length m → x * score (drop i m) ≡ score m → (get_or m i 0 + 1) * x * score (drop (i + 1) m) ≡ score m
score_on m i x h e =
    let a = get_or m i 0 in
    let s = score (drop (i + 1) m) in
    let p : (a + 1) * x * s ≡ x * (suc a * s) = ap (λ (y : ℕ). y * s) (mul_comm (a + 1) x) ∙ mul_assoc x (a + 1) s ∙ rw (add-one a) in
    p ∙ sym (ap (λ (y : ℕ). x * y) (score_at m i h)) ∙ e

pub score_part : (m : Mono) (i x : ℕ) → x * score (drop i m) ≡ score m → x ≤ score m
score_part m i x e = let h : x ≤ x * score (drop i m) = le-mul_of_pos_right x (score_positive (drop i m)) in omega arith

pub score_bound : (b : ℕ) (m : Mono) → AtMost b m → score m ≤ suc b ^ length m
unfolding score
score_bound b [] h = omega (arith, pow-zero (suc b))
score_bound b (e ∷ m) h = rw (pow-succ' (suc b) (length m)) (mul-le-mul (omega arith) (score_bound b m h.1))

-- of bytes
pub score_bytes : (m : Mono) (w : ℕ) → length m ≡ w → ((k : ℕ) → Fits w8 (get_or m k 0)) → score m ≤ 256 ^ w
score_bytes m w l bytes = rw l at (score_bound 255 m (at_most_all 255 m (λ k. omega (arith, bytes k))))
