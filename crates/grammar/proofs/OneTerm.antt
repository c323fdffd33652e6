-- Two terms that are written alike are one. Assumes nothing.
use mathlib.Core.Path.{◌≡◌, refl, sym, ap, ◌∙◌}
use mathlib.Core.Logic.{◌⊎◌, inl, inr}
use mathlib.Core.Bool.{cond}
use mathlib.Core.List.{List, [], ◌∷◌, ◌++◌, append_assoc}
use Prim.Native.Nat.{ℕ, zero, suc, ◌+◌, ◌-◌, ◌≤◌}
use native.Mathlib.Omega.{arith}
use borrow.Author.Tests.{leb-false}
use lib.Dec.{leb}
use Rattle.monomial.proofs.Tests.{Tested, passed, failed, test}
use Rattle.lines.specs.Text.{decimal}
use Rattle.reader.specs.Bytes.{nought}
use Rattle.listing.specs.Bytes.{star, letter_w, letter_x}
use Rattle.listing.specs.Lines.{letter_of, digit_of}
use Rattle.listing.specs.declared.known.Known.{Known}
use Rattle.grammar.specs.Grammar.{Names, none, alone, square, both, signal_text, names_text, body_text}
use Rattle.grammar.proofs.Terms.{Some}
use Rattle.grammar.proofs.Rests.{Second, nothing, itself, another, second_text}
use Rattle.grammar.proofs.TermsBack.{with_first, first-text}
use Rattle.grammar.proofs.Apart.{heads, same_front, From, begins, from_wider, from_front, apart, decimal_from, number_is}

-- ---- names as a first one, and what follows it
lead_of : Names → ℕ
lead_of none = 0
lead_of (alone s) = s
lead_of (square s) = s
lead_of (both s t) = s

second_of : Names → Second
second_of none = nothing
second_of (alone s) = nothing
second_of (square s) = itself
second_of (both s t) = another t

with-first : (m : Names) → Some m → with_first (lead_of m) (second_of m) ≡ m
unfolding lead_of second_of with_first
with-first none h = absurd h
with-first (alone s) h = refl
with-first (square s) h = refl
with-first (both s t) h = refl

some_or_none : (m : Names) → (m ≡ none) ⊎ Some m
some_or_none none = inl refl
some_or_none (alone s) = inr tt
some_or_none (square s) = inr tt
some_or_none (both s t) = inr tt

-- names are there where no coefficient is
abbrev pub Told : ℕ → Names → Type 0
Told c m = m ≡ none → 1 ≤ c

module _ (k : Known) where
  -- ---- a name
  letter_from : (s : ℕ) (a : List ℕ) → From 119 120 (letter_of k s ∷ a)
  unfolding letter_of
  letter_from s a = go (test (leb s k.n))
    where
      go : Tested (leb s k.n) → From 119 120 (cond (leb s k.n) letter_x letter_w ∷ a)
      go (passed e) = rw e (begins (omega arith) (omega arith))
      go (failed e) = rw e (begins (omega arith) (omega arith))

  signal_is : (s t : ℕ) {a b : List ℕ} → signal_text k s ++ a ≡ signal_text k t ++ b → (s ≡ t) × (a ≡ b)
  unfolding letter_of digit_of
  signal_is s t {a} {b} = go (test (leb s k.n)) (test (leb t k.n))
    where
      go : Tested (leb s k.n) → Tested (leb t k.n) → signal_text k s ++ a ≡ signal_text k t ++ b → (s ≡ t) × (a ≡ b)
      go (passed p) (passed q) e =
          let r : letter_x ∷ (nought + s) ∷ a ≡ letter_x ∷ (nought + t) ∷ b = rw (p, q) at e in
          let d = heads (heads r).1 in
          (omega (arith, d.0), d.1)
      go (passed p) (failed q) e = let r : letter_x ∷ (nought + s) ∷ a ≡ letter_w ∷ (nought + (t - (k.n + 1))) ∷ b = rw (p, q) at e in absurd (omega (arith, (heads r).0))
      go (failed p) (passed q) e = let r : letter_w ∷ (nought + (s - (k.n + 1))) ∷ a ≡ letter_x ∷ (nought + t) ∷ b = rw (p, q) at e in absurd (omega (arith, (heads r).0))
      go (failed p) (failed q) e =
          let r : letter_w ∷ (nought + (s - (k.n + 1))) ∷ a ≡ letter_w ∷ (nought + (t - (k.n + 1))) ∷ b = rw (p, q) at e in
          let d = heads (heads r).1 in
          (omega (arith, d.0, leb-false s k.n p, leb-false t k.n q), d.1)

  -- ---- the names of a term, whose end is a blank or a newline
  star_not : {C : Type 0} {l r : List ℕ} → From 10 32 l → l ≡ star ∷ r → C
  star_not {C} {l} {r} h e = let s : From 42 42 (star ∷ r) = begins (omega arith) (omega arith) in apart h s (omega arith) e

  letter_not : {C : Type 0} (s : ℕ) {r l : List ℕ} → star ∷ r ≡ letter_of k s ∷ l → C
  letter_not s {r} {l} e = let h : From 42 42 (star ∷ r) = begins (omega arith) (omega arith) in apart h (letter_from s l) (omega arith) e

  names_first : (m : Names) → Some m → (a : List ℕ) → names_text k m ++ a ≡ signal_text k (lead_of m) ++ (second_text k (second_of m) ++ a)
  names_first m h a =
      ap (λ n. names_text k n ++ a) (sym (with-first m h)) ∙ ap (λ r. r ++ a) (first-text k (lead_of m) (second_of m)) ∙ append_assoc (signal_text k (lead_of m)) (second_text k (second_of m)) a

  names-from : (m : Names) → Some m → (a : List ℕ) → From 119 120 (names_text k m ++ a)
  names-from m h a = rw (names_first m h a) (letter_from (lead_of m) _)

  -- what follows a coefficient
  behind_text : Names → List ℕ
  behind_text none = []
  behind_text (alone s) = star ∷ names_text k (alone s)
  behind_text (square s) = star ∷ names_text k (square s)
  behind_text (both s t) = star ∷ names_text k (both s t)

  behind_some : (m : Names) → Some m → behind_text m ≡ star ∷ names_text k m
  unfolding behind_text
  behind_some none h = absurd h
  behind_some (alone s) h = refl
  behind_some (square s) h = refl
  behind_some (both s t) h = refl

  behind_none : (m : Names) → m ≡ none → behind_text m ≡ []
  unfolding behind_text
  behind_none m e = ap behind_text e

  number_first : (c : ℕ) (m : Names) (a : List ℕ) → body_text k (suc c) m ++ a ≡ decimal (suc c) ++ (behind_text m ++ a)
  unfolding body_text behind_text
  number_first c none a = refl
  number_first c (alone s) a = append_assoc (decimal (suc c)) (star ∷ names_text k (alone s)) a
  number_first c (square s) a = append_assoc (decimal (suc c)) (star ∷ names_text k (square s)) a
  number_first c (both s t) a = append_assoc (decimal (suc c)) (star ∷ names_text k (both s t)) a

  number-from : (c : ℕ) (m : Names) (a : List ℕ) → From 49 57 (body_text k (suc c) m ++ a)
  number-from c m a = rw (number_first c m a) (from_front (behind_text m ++ a) (decimal_from (suc c) (omega arith)))

  uncounted : (m : Names) → Told 0 m → Some m
  uncounted none h = absurd (omega (arith, h refl))
  uncounted (alone s) h = tt
  uncounted (square s) h = tt
  uncounted (both s t) h = tt

  pub body_from : (c : ℕ) (m : Names) (a : List ℕ) → Told c m → From 49 120 (body_text k c m ++ a)
  unfolding body_text
  body_from zero m a h = from_wider (names-from m (uncounted m h) a) (omega arith) (omega arith)
  body_from (suc c) m a h = from_wider (number-from c m a) (omega arith) (omega arith)

  module _ {a b : List ℕ} (f : From 10 32 a) (g : From 10 32 b) where
    second_is : (p q : Second) → second_text k p ++ a ≡ second_text k q ++ b → (p ≡ q) × (a ≡ b)
    second_is nothing nothing e = (refl, e)
    second_is nothing itself e = star_not f e
    second_is nothing (another t) e = star_not f e
    second_is itself nothing e = star_not g (sym e)
    second_is itself itself e = (refl, same_front (star ∷ star ∷ (nought + 2) ∷ []) e)
    second_is itself (another t) e = letter_not t (heads e).1
    second_is (another s) nothing e = star_not g (sym e)
    second_is (another s) itself e = letter_not s (sym (heads e).1)
    second_is (another s) (another t) e = let r = signal_is s t (heads e).1 in (ap another r.0, r.1)

    names_is : (m n : Names) → Some m → Some n → names_text k m ++ a ≡ names_text k n ++ b → (m ≡ n) × (a ≡ b)
    names_is m n h j e =
        let s = signal_is (lead_of m) (lead_of n) (sym (names_first m h a) ∙ e ∙ names_first n j b) in
        let q = second_is (second_of m) (second_of n) s.1 in
        (sym (with-first m h) ∙ ap (λ r. with_first r (second_of m)) s.0 ∙ ap (with_first (lead_of n)) q.0 ∙ with-first n j, q.1)

    -- ---- a coefficient, and what follows it
    behind_is : (m n : Names) → behind_text m ++ a ≡ behind_text n ++ b → (m ≡ n) × (a ≡ b)
    behind_is m n e = go (some_or_none m) (some_or_none n)
      where
        go : (m ≡ none) ⊎ Some m → (n ≡ none) ⊎ Some n → (m ≡ n) × (a ≡ b)
        go (inl p) (inl q) = (p ∙ sym q, rw (behind_none m p, behind_none n q) at e)
        go (inl p) (inr q) = star_not f (rw (behind_none m p, behind_some n q) at e)
        go (inr p) (inl q) = star_not g (sym (rw (behind_some m p, behind_none n q) at e))
        go (inr p) (inr q) = names_is m n p q (heads (rw (behind_some m p, behind_some n q) at e)).1

    behind_from : (m : Names) {c : List ℕ} → From 10 32 c → From 0 47 (behind_text m ++ c)
    unfolding behind_text
    behind_from none h = from_wider h (omega arith) (omega arith)
    behind_from (alone s) h = begins (omega arith) (omega arith)
    behind_from (square s) h = begins (omega arith) (omega arith)
    behind_from (both s t) h = begins (omega arith) (omega arith)

    pub body_is : (c d : ℕ) (m n : Names) → Told c m → Told d n → body_text k c m ++ a ≡ body_text k d n ++ b → (c ≡ d) × (m ≡ n) × (a ≡ b)
    unfolding body_text
    body_is zero zero m n h j e = let r = names_is m n (uncounted m h) (uncounted n j) e in (refl, r.0, r.1)
    body_is zero (suc d) m n h j e = apart (number-from d n b) (names-from m (uncounted m h) a) (omega arith) (sym e)
    body_is (suc c) zero m n h j e = apart (number-from c m a) (names-from n (uncounted n j) b) (omega arith) e
    body_is (suc c) (suc d) m n h j e =
        let r = number_is (suc c) (suc d) (behind_text m ++ a) (behind_text n ++ b) (behind_from m f) (behind_from n g) (sym (number_first c m a) ∙ e ∙ number_first d n b) in
        let q = behind_is m n r.1 in
        (r.0, q.0, q.1)
