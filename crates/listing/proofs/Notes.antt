-- What is noted of a listing that goes on: monomials of the panel's width, and products of known signals with coefficients that are not too large.
-- Assumes nothing.
use mathlib.Core.Path.{◌≡◌, refl, sym, ◌∙◌, subst}
use mathlib.Core.Logic.{⊎_elim}
use mathlib.Core.Bool.{Bool, true, false}
use mathlib.Core.List.Memᴰ
use mathlib.Core.List.{List, [], ◌∷◌, ◌++◌}
use Prim.Native.Nat.{ℕ, zero, suc, ◌+◌, ◌≤◌, ◌<◌}
use native.Mathlib.Omega.{arith}
use lib.IntN.{nat_abs}
use lib.ListN.{length, length-append, length-set}
use Rattle.monomial.specs.Claims.{◌∈◌}
use Rattle.monomial.specs.Monomial.{Mono, width}
use Rattle.listing.specs.Meaning.{Naming, closed, named, unnamed, Product, Telling, signed, term, told, untold}
use Rattle.listing.specs.Counted.{Sound}
use Rattle.listing.specs.declared.known.Known.{Known}
use Rattle.listing.specs.declared.saying.Saying.{Saying}
use Rattle.listing.specs.declared.saying.Saying.TheVariants.{Silence, Variable, Raised, Digit, NameEnds, Minus, Number, Name, Again, TermEnds, LineEnds, ZeroLine}

-- the largest coefficient that is readable
abbrev pub largest : ℕ
largest = 1000000000

-- a product of signals up to number b
pub record Knows (b : ℕ) (p : Product) : Type 0 where
  pub first : p.a ≤ b
  pub second : p.b ≤ b
  pub limited : nat_abs p.coefficient ≤ largest

abbrev pub KnowsAll : ℕ → List Product → Type 0
KnowsAll b l = (p : Product) → p ∈ l → Knows b p

pub record Noted (n : ℕ) (k : Naming) (t : Telling) : Type 0 where
  pub wide : (m : Mono) → m ∈ k.whole → length m ≡ width
  pub long : length k.mono ≡ width
  pub variable : k.variable < width
  pub first : t.a ≤ n + length k.whole
  pub second : t.b ≤ n + length k.whole
  pub limited : t.number ≤ largest
  pub terms : KnowsAll (n + length k.whole) t.terms
  pub lines : (l : List Product) → l ∈ t.lines → KnowsAll (n + length k.whole) l

pub noted_start : (n : ℕ) → Noted n unnamed untold
noted_start n = record {
  wide = λ m h. absurd (Memᴰ.not-nil h);
  long = refl;
  variable = omega arith;
  first = omega arith;
  second = omega arith;
  limited = omega arith;
  terms = λ p h. absurd (Memᴰ.not-nil h);
  lines = λ l h. absurd (Memᴰ.not-nil h);
}

-- one entry more
each_more : {A : Type 0} (P : A → Type 0) (l : List A) (x : A) → ((y : A) → y ∈ l → P y) → P x → (y : A) → y ∈ (l ++ (x ∷ [])) → P y
each_more P l x h p y m = ⊎_elim (h y) (λ i. subst P (sym (Memᴰ.eq_of_singleton i)) p) (Memᴰ.append_cases l m)

knows_more : (b c : ℕ) → b ≤ c → (p : Product) → Knows b p → Knows c p
knows_more b c h p k = record { first = omega (arith, k.first); second = omega (arith, k.second); limited = k.limited }

signed_limited : (b : Bool) (v : ℕ) → v ≤ largest → nat_abs (signed b v) ≤ largest
unfolding signed
signed_limited true zero h = omega arith
signed_limited true (suc v) h = omega arith
signed_limited false zero h = omega arith
signed_limited false (suc v) h = omega arith

module _ (n : ℕ) (few : n ≤ width) (k : Naming) (t : Telling) (h : Noted n k t) where
  term_known : Knows (n + length k.whole) (term t)
  term_known = record { first = h.first; second = h.second; limited = signed_limited t.negative t.number h.limited }

  closed_long : length (closed k) ≡ width
  closed_long = length-set k.mono k.variable _ ∙ h.long

  one_more : length (k.whole ++ (closed k ∷ [])) ≡ length k.whole + 1
  one_more = length-append k.whole (closed k ∷ [])

  pub noted_next : (r : Known) → r.n ≡ n → (σ : Saying) → Sound r (length k.whole) σ → Noted n (named σ k) (told σ t)
  unfolding named told
  noted_next r i Silence s = h
  noted_next r i (Variable v) s = record {
    wide = h.wide;
    long = closed_long;
    variable = omega (arith, s);
    first = h.first;
    second = h.second;
    limited = h.limited;
    terms = h.terms;
    lines = h.lines;
  }
  noted_next r i Raised s = record {
    wide = h.wide;
    long = h.long;
    variable = h.variable;
    first = h.first;
    second = h.second;
    limited = h.limited;
    terms = h.terms;
    lines = h.lines;
  }
  noted_next r i (Digit d) s = record {
    wide = h.wide;
    long = h.long;
    variable = h.variable;
    first = h.first;
    second = h.second;
    limited = h.limited;
    terms = h.terms;
    lines = h.lines;
  }
  noted_next r i NameEnds s = record {
    wide = each_more (λ m. length m ≡ width) k.whole (closed k) h.wide closed_long;
    long = refl;
    variable = omega arith;
    first = omega (arith, one_more, h.first);
    second = omega (arith, one_more, h.second);
    limited = h.limited;
    terms = λ p m. knows_more _ _ (omega (arith, one_more)) p (h.terms p m);
    lines = λ l m p o. knows_more _ _ (omega (arith, one_more)) p (h.lines l m p o);
  }
  noted_next r i Minus s = record {
    wide = h.wide;
    long = h.long;
    variable = h.variable;
    first = h.first;
    second = h.second;
    limited = h.limited;
    terms = h.terms;
    lines = h.lines;
  }
  noted_next r i (Number v) s = record {
    wide = h.wide;
    long = h.long;
    variable = h.variable;
    first = h.first;
    second = h.second;
    limited = s;
    terms = h.terms;
    lines = h.lines;
  }
  noted_next r i (Name j) s = record {
    wide = h.wide;
    long = h.long;
    variable = h.variable;
    first = h.second;
    second = omega (arith, s);
    limited = h.limited;
    terms = h.terms;
    lines = h.lines;
  }
  noted_next r i Again s = record {
    wide = h.wide;
    long = h.long;
    variable = h.variable;
    first = h.second;
    second = h.second;
    limited = h.limited;
    terms = h.terms;
    lines = h.lines;
  }
  noted_next r i TermEnds s = record {
    wide = h.wide;
    long = h.long;
    variable = h.variable;
    first = omega arith;
    second = omega arith;
    limited = omega arith;
    terms = each_more (Knows (n + length k.whole)) t.terms (term t) h.terms term_known;
    lines = h.lines;
  }
  noted_next r i LineEnds s = record {
    wide = h.wide;
    long = h.long;
    variable = h.variable;
    first = omega arith;
    second = omega arith;
    limited = omega arith;
    terms = λ p m. absurd (Memᴰ.not-nil m);
    lines = each_more (KnowsAll (n + length k.whole)) t.lines _ h.lines (each_more (Knows (n + length k.whole)) t.terms (term t) h.terms term_known);
  }
  noted_next r i ZeroLine s = record {
    wide = h.wide;
    long = h.long;
    variable = h.variable;
    first = omega arith;
    second = omega arith;
    limited = omega arith;
    terms = λ p m. absurd (Memᴰ.not-nil m);
    lines = each_more (KnowsAll (n + length k.whole)) t.lines _ h.lines h.terms;
  }
