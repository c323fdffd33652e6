-- What is made of a monomial and of a wiring record says them: the powers of a monomial multiply to it, and the term of a record is its product.
-- Assumes nothing.
use mathlib.Core.Path.{◌≡◌, refl, sym, ap, ap₂, ◌∙◌}
use mathlib.Core.Bool.{Bool, true, false, cond}
use mathlib.Core.List.{List, [], ◌∷◌, map}
use Prim.Native.Nat.{ℕ, zero, suc, ◌+◌, ◌-◌}
use native.Mathlib.Omega.{arith}
use borrow.Author.Tests.{eqb-true, eqb-false, ne_eqb}
use lib.Dec.{eqb}
use lib.IntN.{ℤ, pos, negsuc, nat_abs}
use lib.ListN.{length, get_or, set, replicate}
use lib.Seq.{set-get_or}
use Rattle.monomial.specs.Lists.{gather, below}
use Rattle.monomial.specs.Monomial.{Mono, width}
use Rattle.monomial.proofs.Tests.{Tested, passed, failed, test}
use Rattle.wiring.specs.Wires.{Wire}
use Rattle.listing.specs.Meaning.{Product, signed}
use Rattle.grammar.specs.Grammar.{Factor, Names, none, alone, square, both, raised_by, monomial_of, product_of}
use Rattle.typed.specs.Typed.{power_of, factor_at, factors_of, names_of, written_of, negative_of, term_of}
use Rattle.truth.proofs.truth.Laws.{as_term}

-- ---- monomials
-- the power of variable number i, from 0, added to what is read so far
raised : Mono → Mono → ℕ → Mono
raised m acc i = set acc i (get_or acc i 0 + get_or m i 0)

raised_at : Mono → Mono → List ℕ → Mono
raised_at m acc [] = acc
raised_at m acc (i ∷ is) = raised_at m (raised m acc i) is

-- an exponent as it is written, and as it is read
exponent_back : (e : ℕ) → (e ≡ 0 → ⊥) → cond (eqb (cond (eqb e 1) 0 e) 0) 1 (cond (eqb e 1) 0 e) ≡ e
exponent_back e n = go (test (eqb e 1))
  where
    go : Tested (eqb e 1) → cond (eqb (cond (eqb e 1) 0 e) 0) 1 (cond (eqb e 1) 0 e) ≡ e
    go (passed t) = rw t (sym (eqb-true e 1 t))
    go (failed t) = rw (t, ne_eqb e 0 n)

factor_back : (m acc : Mono) (i : ℕ) (fs : List Factor) → (get_or m i 0 ≡ 0 → ⊥) → raised_by acc (power_of i (get_or m i 0) ∷ fs) ≡ raised_by (raised m acc i) fs
unfolding raised_by raised
factor_back m acc i fs n =
    let e : i + 1 - 1 ≡ i = omega arith in
    rw (e, exponent_back (get_or m i 0) n)

factors_back : (m acc : Mono) (is : List ℕ) → raised_by acc (gather (factor_at m) is) ≡ raised_at m acc is
unfolding raised_by raised raised_at gather factor_at
factors_back m acc [] = refl
factors_back m acc (i ∷ is) = go (test (eqb (get_or m i 0) 0)) (factors_back m (raised m acc i) is)
  where
    go : Tested (eqb (get_or m i 0) 0) → raised_by (raised m acc i) (gather (factor_at m) is) ≡ raised_at m (raised m acc i) is
        → raised_by acc (gather (factor_at m) (i ∷ is)) ≡ raised_at m (raised m acc i) is
    go (passed t) ih =
        let none : get_or acc i 0 + get_or m i 0 ≡ get_or acc i 0 = omega (arith, eqb-true (get_or m i 0) 0 t) in
        let same : raised m acc i ≡ acc = ap (λ (x : ℕ). set acc i x) none ∙ set-get_or acc i 0 in
        rw t (ap (λ (a : Mono). raised_by a (gather (factor_at m) is)) (sym same) ∙ ih)
    go (failed t) ih = rw t (factor_back m acc i (gather (factor_at m) is) (eqb-false (get_or m i 0) 0 t) ∙ ih)

raised_later : (x a : ℕ) (m acc : Mono) (is : List ℕ) → raised_at (x ∷ m) (a ∷ acc) (map suc is) ≡ a ∷ raised_at m acc is
unfolding raised raised_at
raised_later x a m acc [] = refl
raised_later x a m acc (i ∷ is) = raised_later x a m (raised m acc i) is

raised_whole : (m : Mono) → raised_at m (replicate (length m) 0) (below (length m)) ≡ m
unfolding raised raised_at below
raised_whole [] = refl
raised_whole (x ∷ m) =
    let e : 0 + x ≡ x = omega arith in
    raised_later x (0 + x) m (replicate (length m) 0) (below (length m)) ∙ ap₂ ◌∷◌ e (raised_whole m)

-- the powers of a monomial multiply to it
pub monomial_back : (m : Mono) → length m ≡ width → monomial_of (factors_of m) ≡ m
unfolding factors_of
monomial_back m l = ap (λ (w : ℕ). raised_by (replicate w 0) (factors_of m)) (sym l) ∙ factors_back m (replicate (length m) 0) (below (length m)) ∙ raised_whole m

-- ---- terms
-- a coefficient of 1 may stand unwritten
signed_one : (b : Bool) → signed b 0 ≡ signed b 1
unfolding signed
signed_one true = refl
signed_one false = refl

signed_short : (b : Bool) (v : ℕ) → signed b (cond (eqb v 1) 0 v) ≡ signed b v
signed_short b v = go (test (eqb v 1))
  where
    go : Tested (eqb v 1) → signed b (cond (eqb v 1) 0 v) ≡ signed b v
    go (passed t) = rw t (signed_one b ∙ ap (signed b) (sym (eqb-true v 1 t)))
    go (failed t) = rw t

signed_whole : (c : ℤ) → (c ≡ pos 0 → ⊥) → signed (negative_of c) (nat_abs c) ≡ c
unfolding signed negative_of
signed_whole (pos zero) n = absurd (n refl)
signed_whole (pos (suc v)) n = refl
signed_whole (negsuc v) n = refl

written_back : (b : Bool) (v : ℕ) (ns : Names) → signed b (written_of v ns) ≡ signed b v
unfolding written_of
written_back b v none = refl
written_back b v (alone s) = signed_short b v
written_back b v (square s) = signed_short b v
written_back b v (both s t) = signed_short b v

-- the product of two signals, as their names say it
abbrev named : ℕ → ℕ → ℤ → Product
named a b c = record { a = a; b = b; coefficient = c }

names_back : (negative : Bool) (v a b : ℕ) → product_of (record { negative = negative; coefficient = v; names = names_of a b }) ≡ named a b (signed negative v)
unfolding product_of names_of
names_back negative v a b = go (test (eqb a 0)) (test (eqb b 0)) (test (eqb a b))
  where
    go : Tested (eqb a 0) → Tested (eqb b 0) → Tested (eqb a b) → product_of (record { negative = negative; coefficient = v; names = names_of a b }) ≡ named a b (signed negative v)
    go (passed p) (passed q) t = rw (p, q, eqb-true a 0 p, eqb-true b 0 q)
    go (passed p) (failed q) t = rw (p, q, eqb-true a 0 p)
    go (failed p) q (passed t) = rw (p, t, eqb-true a b t)
    go (failed p) q (failed t) = rw (p, t)

pub term_back : (w : Wire) → (w.coefficient ≡ pos 0 → ⊥) → product_of (term_of w) ≡ as_term w
unfolding term_of
term_back w n =
    let b = negative_of w.coefficient in
    let v = nat_abs w.coefficient in
    let ns = names_of w.a w.b in
    names_back b (written_of v ns) w.a w.b ∙ ap (named w.a w.b) (written_back b v ns ∙ signed_whole w.coefficient n)
