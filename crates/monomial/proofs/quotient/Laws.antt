-- Quotients of monomials of any width, and division. Assumes nothing.
use mathlib.Core.Path.{◌≡◌, refl, sym, ap, ap₂, ◌∙◌}
use mathlib.Core.List.{[], ◌∷◌}
use Prim.Native.Nat.{ℕ, zero, suc, ◌+◌, ◌-◌, ◌≤◌}
use native.Mathlib.Omega.{arith}
use lib.Dec.{T, leb, leb→le, le→leb}
use lib.ListN.{length, get_or}
use Rattle.monomial.specs.Lists.{pairwise, pointwise}
use Rattle.monomial.specs.Monomial.{Mono, one}
use Rattle.monomial.specs.Product.{mul, AtMost}
use Rattle.monomial.specs.Quotient.{quo, divides}
use Rattle.monomial.proofs.Tests.{and_l, and_r, and_i}
use Rattle.monomial.proofs.product.Laws.{mul_comm}

-- ---- the quotient undoes it
pub quo_mul : (a b : Mono) → length a ≡ length b → quo (mul a b) a ≡ b
unfolding pointwise
quo_mul [] [] e = refl
quo_mul [] (y ∷ b) e = let z : ⊥ = omega arith in absurd z
quo_mul (x ∷ a) [] e = let z : ⊥ = omega arith in absurd z
quo_mul (x ∷ a) (y ∷ b) e = let h : x + y - x ≡ y = omega arith in ap₂ ◌∷◌ h (quo_mul a b (omega arith))

-- ---- division
pub divides_length : (d m : Mono) → T (divides d m) → length d ≡ length m
unfolding pairwise
divides_length [] [] t = refl
divides_length [] (e ∷ m) t = absurd t
divides_length (x ∷ d) [] t = absurd t
divides_length (x ∷ d) (e ∷ m) t = ap suc (divides_length d m (and_r (leb x e) (divides d m) t))

pub divides_head : (x e : ℕ) (d m : Mono) → T (divides (x ∷ d) (e ∷ m)) → x ≤ e
unfolding pairwise
divides_head x e d m t = leb→le x e (and_l (leb x e) (divides d m) t)

pub divides_tail : (x e : ℕ) (d m : Mono) → T (divides (x ∷ d) (e ∷ m)) → T (divides d m)
unfolding pairwise
divides_tail x e d m t = and_r (leb x e) (divides d m) t

pub divides_cons : (x e : ℕ) (d m : Mono) → x ≤ e → T (divides d m) → T (divides (x ∷ d) (e ∷ m))
unfolding pairwise
divides_cons x e d m h t = and_i (leb x e) (divides d m) (le→leb x e h) t

pub divides_refl : (m : Mono) → T (divides m m)
unfolding pairwise
divides_refl [] = tt
divides_refl (e ∷ m) = divides_cons e e m m (omega arith) (divides_refl m)

pub divides_both : (d m : Mono) → T (divides d m) → T (divides m d) → d ≡ m
unfolding pairwise
divides_both [] [] s t = refl
divides_both [] (e ∷ m) s t = absurd s
divides_both (x ∷ d) [] s t = absurd s
divides_both (x ∷ d) (e ∷ m) s t =
    let h : x ≤ e = divides_head x e d m s in
    let k : e ≤ x = divides_head e x m d t in
    let q : x ≡ e = omega arith in
    ap₂ ◌∷◌ q (divides_both d m (divides_tail x e d m s) (divides_tail e x m d t))

pub one_divides : (m : Mono) → T (divides (one (length m)) m)
unfolding pairwise
one_divides [] = tt
one_divides (e ∷ m) = divides_cons 0 e (one (length m)) m (omega arith) (one_divides m)

pub factor_divides : (a b : Mono) → length a ≡ length b → T (divides a (mul a b))
unfolding pairwise pointwise
factor_divides [] b e = tt
factor_divides (x ∷ a) [] e = let z : ⊥ = omega arith in absurd z
factor_divides (x ∷ a) (y ∷ b) e = divides_cons x (x + y) a (mul a b) (omega arith) (factor_divides a b (omega arith))

-- what divides m is a factor of m, and the quotient the other one
pub mul_quo : (d m : Mono) → T (divides d m) → mul d (quo m d) ≡ m
unfolding pairwise pointwise
mul_quo [] [] t = refl
mul_quo [] (e ∷ m) t = absurd t
mul_quo (x ∷ d) [] t = absurd t
mul_quo (x ∷ d) (e ∷ m) t =
    let h : x ≤ e = divides_head x e d m t in
    let q : x + (e - x) ≡ e = omega arith in
    ap₂ ◌∷◌ q (mul_quo d m (divides_tail x e d m t))

pub quo_divides : (d m : Mono) → T (divides d m) → T (divides (quo m d) m)
unfolding pairwise pointwise
quo_divides [] [] t = tt
quo_divides [] (e ∷ m) t = absurd t
quo_divides (x ∷ d) [] t = absurd t
quo_divides (x ∷ d) (e ∷ m) t = divides_cons (e - x) e (quo m d) m (omega arith) (quo_divides d m (divides_tail x e d m t))

-- d and m/d change places
pub quo_quo : (d m : Mono) → T (divides d m) → quo m (quo m d) ≡ d
quo_quo d m t =
    let q = quo m d in
    let width : length q ≡ length d = divides_length q m (quo_divides d m t) ∙ sym (divides_length d m t) in
    ap (λ (z : Mono). quo z q) (sym (mul_quo d m t) ∙ mul_comm d q) ∙ quo_mul q d width

pub quo_self : (m : Mono) → quo m m ≡ one (length m)
unfolding pointwise
quo_self [] = refl
quo_self (e ∷ m) = let q : e - e ≡ 0 = omega arith in ap₂ ◌∷◌ q (quo_self m)

-- place by place
pub divides_at : (d m : Mono) (i : ℕ) → T (divides d m) → get_or d i 0 ≤ get_or m i 0
unfolding pairwise
divides_at [] [] i t = omega arith
divides_at [] (e ∷ m) i t = absurd t
divides_at (x ∷ d) [] i t = absurd t
divides_at (x ∷ d) (e ∷ m) zero t = divides_head x e d m t
divides_at (x ∷ d) (e ∷ m) (suc i) t = divides_at d m i (divides_tail x e d m t)

pub at_most_divides : (b : ℕ) (d m : Mono) → T (divides d m) → AtMost b m → AtMost b d
unfolding pairwise
at_most_divides b [] m t h = tt
at_most_divides b (x ∷ d) [] t h = absurd t
at_most_divides b (x ∷ d) (e ∷ m) t h =
    let k : x ≤ e = divides_head x e d m t in
    (omega arith, at_most_divides b d m (divides_tail x e d m t) h.1)
