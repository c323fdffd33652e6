-- Which powers and terms there are: those of a monomial other than 1, and those of a wiring record. Assumes nothing.
use mathlib.Core.Path.{◌≡◌, refl, sym, ap, ◌∙◌}
use mathlib.Core.Logic.{⊎_elim}
use mathlib.Core.Bool.{Bool, cond}
use mathlib.Core.List.Memᴰ
use mathlib.Core.List.{List, [], ◌∷◌}
use Prim.Native.Nat.{ℕ, ◌+◌, ◌≤◌, ◌<◌}
use native.Mathlib.Omega.{arith}
use borrow.Author.Tests.{eqb-false, leb-true, leb-false}
use lib.Dec.{eqb, leb}
use lib.IntN.{nat_abs}
use lib.ListN.{length, get_or}
use Rattle.monomial.specs.Lists.{below}
use Rattle.monomial.specs.Monomial.{Mono, one, width}
use Rattle.monomial.specs.Claims.{◌∈◌}
use Rattle.monomial.proofs.Tests.{Tested, passed, failed, test, cond_cases}
use Rattle.monomial.proofs.Members.{Gathered, gather_out}
use Rattle.wiring.specs.Wires.{Wire}
use Rattle.listing.specs.declared.known.Known.{Known}
use Rattle.grammar.specs.Grammar.{Factor, Names, none, alone, square, both, raised_by, monomial_of, FactorRight, NamesRight, TermRight}
use Rattle.typed.specs.Typed.{power_of, factor_at, factors_of, names_of, written_of, term_of, negative_of}
use Rattle.roundtrip.proofs.Back.{monomial_back}

-- ---- powers
-- a monomial other than 1 has some
pub factors_some : (m : Mono) → length m ≡ width → (m ≡ one width → ⊥) → 1 ≤ length (factors_of m)
unfolding raised_by
factors_some m l n = go (factors_of m) refl
  where
    go : (fs : List Factor) → factors_of m ≡ fs → 1 ≤ length fs
    go [] e = absurd (n (sym (monomial_back m l) ∙ ap monomial_of e))
    go (f ∷ fs) e = omega arith

-- and they are of variables that there are
module _ (k : Known) (m : Mono) (within : (i : ℕ) → k.n ≤ i → get_or m i 0 ≡ 0) where
  factor-at : (i : ℕ) (f : Factor) → f ∈ factor_at m i → FactorRight k f
  unfolding factor_at
  factor-at i f h = go (test (eqb (get_or m i 0) 0)) (test (leb k.n i)) h
    where
      go : Tested (eqb (get_or m i 0) 0) → Tested (leb k.n i) → f ∈ cond (eqb (get_or m i 0) 0) [] (power_of i (get_or m i 0) ∷ []) → FactorRight k f
      go (passed t) u j = absurd (Memᴰ.not-nil (rw t at j))
      go (failed t) (passed u) j = absurd (eqb-false (get_or m i 0) 0 t (within i (leb-true k.n i u)))
      go (failed t) (failed u) j =
          let low : i < k.n = leb-false k.n i u in
          ⊎_elim (λ e. rw e (record { low = omega arith; high = omega arith })) (λ n. absurd (Memᴰ.not-nil n)) (Memᴰ.cases_cons (rw t at j))

  pub factors_right : (f : Factor) → f ∈ factors_of m → FactorRight k f
  unfolding factors_of
  factors_right f h = let g : Gathered (factor_at m) f (below (length m)) = gather_out (factor_at m) (below (length m)) h in factor-at g.entry f g.inside

-- ---- terms
module _ (k : Known) (count : ℕ) where
  names_right : (a b : ℕ) → a ≤ b → b ≤ k.n + count → NamesRight k count (names_of a b)
  unfolding names_of
  names_right a b o h = go (test (eqb a 0)) (test (eqb b 0)) (test (eqb a b))
    where
      go : Tested (eqb a 0) → Tested (eqb b 0) → Tested (eqb a b) → NamesRight k count (cond (eqb a 0) (cond (eqb b 0) none (alone b)) (cond (eqb a b) (square a) (both a b)))
      go (passed p) (passed q) t = rw (p, q) tt
      go (passed p) (failed q) t = let n = eqb-false b 0 q in rw (p, q) (omega arith, h)
      go (failed p) q (passed t) = let n = eqb-false a 0 p in rw (p, t) (omega arith, omega arith)
      go (failed p) q (failed t) = let n = eqb-false a 0 p in rw (p, t) ((omega arith, omega arith), (omega arith, h))

  module _ (negative : Bool) (v : ℕ) (some : 1 ≤ v) (limited : v ≤ 1000000000) where
    written_some : (ns : Names) → ns ≡ none → 1 ≤ written_of v ns
    unfolding written_of
    written_some ns e = rw e some

    short : cond (eqb v 1) 0 v ≤ 1000000000
    short = cond_cases (λ x. x ≤ 1000000000) (eqb v 1) 0 v (λ t. omega arith) (λ f. limited)

    written_limited : (ns : Names) → written_of v ns ≤ 1000000000
    unfolding written_of
    written_limited none = limited
    written_limited (alone s) = short
    written_limited (square s) = short
    written_limited (both s t) = short

    written_right : (ns : Names) → NamesRight k count ns → TermRight k count (record { negative = negative; coefficient = written_of v ns; names = ns })
    written_right ns r = record { some = written_some ns; limited = written_limited ns; names = r }

  pub term-right : (x : Wire) → x.a ≤ x.b → x.b ≤ k.n + count → 1 ≤ nat_abs x.coefficient → nat_abs x.coefficient ≤ 1000000000 → TermRight k count (term_of x)
  unfolding term_of
  term-right x o h some limited = written_right (negative_of x.coefficient) (nat_abs x.coefficient) some limited (names_of x.a x.b) (names_right x.a x.b o h)
