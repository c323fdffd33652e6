-- Two texts that are one: so are their first bytes, and the numbers that they begin with. Assumes nothing.
use mathlib.Core.Path.{◌≡◌, refl, sym, ap, ap₂, ◌∙◌}
use mathlib.Core.List.{List, [], ◌∷◌, ◌++◌}
use Prim.Native.Nat.{ℕ, zero, suc, ◌+◌, ◌/◌, ◌%◌, ◌≤◌, ◌<◌}
use native.Mathlib.Omega.{arith}
use borrow.Author.Tests.{ltb-true, ltb-false}
use lib.Dec.{ltb}
use Rattle.monomial.proofs.Tests.{Tested, passed, failed, test}
use Rattle.lines.specs.Number.{extended}
use Rattle.lines.specs.Text.{decimal_within, decimal}
use Rattle.reader.specs.Bytes.{nought, longer}
use Rattle.grammar.proofs.Decimals.{one_digit, more_digits}

pub heads : {x y : ℕ} {a b : List ℕ} → x ∷ a ≡ y ∷ b → (x ≡ y) × (a ≡ b)
heads e = (cc, cc)

pub same_front : (front : List ℕ) {a b : List ℕ} → front ++ a ≡ front ++ b → a ≡ b
same_front [] e = e
same_front (x ∷ front) e = same_front front (heads e).1

-- ---- a text that begins with a byte from low to high
pub record From (low high : ℕ) (text : List ℕ) : Type 0 where
  pub first : ℕ
  pub rest : List ℕ
  pub is : text ≡ first ∷ rest
  pub least : low ≤ first
  pub most : first ≤ high

pub begins : {low high x : ℕ} {l : List ℕ} → low ≤ x → x ≤ high → From low high (x ∷ l)
begins {low} {high} {x} {l} h j = record { first = x; rest = l; is = refl; least = h; most = j }

pub from_wider : {low high below above : ℕ} {l : List ℕ} → From low high l → below ≤ low → high ≤ above → From below above l
from_wider f h j = record { first = f.first; rest = f.rest; is = f.is; least = omega (arith, f.least); most = omega (arith, f.most) }

pub from_front : {low high : ℕ} {p : List ℕ} (a : List ℕ) → From low high p → From low high (p ++ a)
from_front a f = record { first = f.first; rest = f.rest ++ a; is = ap (λ r. r ++ a) f.is; least = f.least; most = f.most }

pub apart : {C : Type 0} {low high below above : ℕ} {a b : List ℕ} → From low high a → From below above b → high < below → a ≡ b → C
apart f g h e = let same = heads (sym f.is ∙ e ∙ g.is) in absurd (omega (arith, same.0, f.most, g.least))

-- ---- numbers
abbrev Digits : List ℕ → Type 0
Digits [] = Unit {0}
Digits (x ∷ l) = (nought ≤ x) × Digits l

digits_on : (l : List ℕ) (x : ℕ) → nought ≤ x → Digits l → Digits (l ++ (x ∷ []))
digits_on [] x h d = (h, tt)
digits_on (y ∷ l) x h d = (d.0, digits_on l x h d.1)

extended_on : (v : ℕ) (l : List ℕ) (x : ℕ) → extended v (l ++ (x ∷ [])) ≡ longer (extended v l) x
unfolding extended
extended_on v [] x = refl
extended_on v (y ∷ l) x = extended_on (longer v y) l x

-- what n is written as
record Numeral (n : ℕ) (l : List ℕ) : Type 0 where
  value : extended 0 l ≡ n
  digits : Digits l
  first : 1 ≤ n → From 49 57 l

numeral_one : (n : ℕ) → n < 10 → Numeral n ((nought + n) ∷ [])
unfolding extended
numeral_one n h = record { value = omega arith; digits = (omega arith, tt); first = λ i. begins (omega arith) (omega arith) }

numeral_more : (n : ℕ) (l : List ℕ) → 10 ≤ n → Numeral (n / 10) l → Numeral n (l ++ ((nought + n % 10) ∷ []))
numeral_more n l h r = record {
  value = rw (extended_on 0 l (nought + n % 10), r.value) (omega arith);
  digits = digits_on l (nought + n % 10) (omega arith) r.digits;
  first = λ i. from_front _ (r.first (omega arith));
}

numeral_within : (m n : ℕ) → n < m → Numeral n (decimal_within m n)
numeral_within zero n h = absurd (omega arith)
numeral_within (suc m) n h = go (test (ltb n 10)) (λ c. numeral_within m (n / 10) (omega arith))
  where
    go : Tested (ltb n 10) → (10 ≤ n → Numeral (n / 10) (decimal_within m (n / 10))) → Numeral n (decimal_within (suc m) n)
    go (passed e) ih = let j = ltb-true n 10 e in rw (one_digit m n j) (numeral_one n j)
    go (failed e) ih = let j = ltb-false n 10 e in rw (more_digits m n j) (numeral_more n (decimal_within m (n / 10)) j (ih j))

numeral : (n : ℕ) → Numeral n (decimal n)
unfolding decimal
numeral n = numeral_within (suc n) n (omega arith)

pub decimal_from : (n : ℕ) → 1 ≤ n → From 49 57 (decimal n)
decimal_from n h = (numeral n).first h

-- digits end where no digit stands
digits_is : (p q a b : List ℕ) → Digits p → Digits q → From 0 47 a → From 0 47 b → p ++ a ≡ q ++ b → (p ≡ q) × (a ≡ b)
digits_is [] [] a b d f h j e = (refl, e)
digits_is [] (y ∷ q) a b d f h j e = let g : From 48 y (y ∷ q ++ b) = begins f.0 (omega arith) in apart h g (omega arith) e
digits_is (x ∷ p) [] a b d f h j e = let g : From 48 x (x ∷ p ++ a) = begins d.0 (omega arith) in apart j g (omega arith) (sym e)
digits_is (x ∷ p) (y ∷ q) a b d f h j e =
    let r = digits_is p q a b d.1 f.1 h j (heads e).1 in
    (ap₂ ◌∷◌ (heads e).0 r.0, r.1)

pub number_is : (m n : ℕ) (a b : List ℕ) → From 0 47 a → From 0 47 b → decimal m ++ a ≡ decimal n ++ b → (m ≡ n) × (a ≡ b)
number_is m n a b h j e =
    let r = digits_is (decimal m) (decimal n) a b (numeral m).digits (numeral n).digits h j e in
    (sym (numeral m).value ∙ ap (extended 0) r.0 ∙ (numeral n).value, r.1)
