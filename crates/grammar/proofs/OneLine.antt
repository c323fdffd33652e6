-- Two lines of the second part that are written alike have the same terms. Assumes nothing.
use mathlib.Core.Path.{◌≡◌, refl, sym, ap, ap₂, ◌∙◌}
use mathlib.Core.Bool.{Bool, true, false, cond}
use mathlib.Core.List.{List, [], ◌∷◌, ◌++◌, append_assoc}
use Prim.Native.Nat.{ℕ}
use native.Mathlib.Omega.{arith}
use lib.ListN.{length}
use Rattle.monomial.specs.Lists.{gather}
use Rattle.monomial.specs.Claims.{◌∈◌}
use Rattle.monomial.proofs.Members.{here, there}
use Rattle.reader.specs.Bytes.{newline, minus, nought}
use Rattle.listing.specs.Bytes.{plus, prime}
use Rattle.listing.specs.Lines.{letter_of, digit_of}
use Rattle.listing.specs.declared.known.Known.{Known}
use Rattle.grammar.specs.Grammar.{Names, Term, body_text, first_text, next_text, right_text, line_text, lines_from}
use Rattle.grammar.proofs.Apart.{heads, same_front, From, begins, apart}
use Rattle.grammar.proofs.OneTerm.{Told, body_from, body_is}

sign_is : (p q : Bool) → cond p minus plus ≡ cond q minus plus → p ≡ q
sign_is true true e = refl
sign_is true false e = absurd (omega (arith, e))
sign_is false true e = absurd (omega (arith, e))
sign_is false false e = refl

-- before a first term a minus, or nothing
abbrev lead : Bool → List ℕ
lead negative = cond negative (minus ∷ []) []

lead_is : (p q : Bool) {a b : List ℕ} → From 49 120 a → From 49 120 b → lead p ++ a ≡ lead q ++ b → (p ≡ q) × (a ≡ b)
lead_is true true f g e = (refl, (heads e).1)
lead_is true false {a} f g e = let h : From 45 45 (minus ∷ a) = begins (omega arith) (omega arith) in apart h g (omega arith) e
lead_is false true {a} {b} f g e = let h : From 45 45 (minus ∷ b) = begins (omega arith) (omega arith) in apart h f (omega arith) (sym e)
lead_is false false f g e = (refl, e)

nought_not : {C : Type 0} (p : Bool) {a b : List ℕ} → From 49 120 a → nought ∷ b ≡ lead p ++ a → C
nought_not true f e = absurd (omega (arith, (heads e).0))
nought_not false {a} {b} f e = let h : From 48 48 (nought ∷ b) = begins (omega arith) (omega arith) in apart h f (omega arith) e

term : Bool → ℕ → Names → Term
term negative c m = record { negative = negative; coefficient = c; names = m }

term_is : {p q : Bool} {c d : ℕ} {m n : Names} → p ≡ q → c ≡ d → m ≡ n → term p c m ≡ term q d n
term_is {p} {q} {c} {d} {m} {n} e f g = ap (λ r. term r c m) e ∙ ap (λ r. term q r m) f ∙ ap (term q d) g

abbrev TermsTold : List Term → Type 0
TermsTold ts = (t : Term) → t ∈ ts → Told t.coefficient t.names

module _ (k : Known) where
  -- ---- terms, up to the line's end
  terms_from : (ts : List Term) (a : List ℕ) → From 10 32 (gather (next_text k) ts ++ (newline ∷ a))
  unfolding gather next_text
  terms_from [] a = begins (omega arith) (omega arith)
  terms_from (t ∷ ts) a = begins (omega arith) (omega arith)

  abbrev bare_of : Term → List ℕ
  bare_of t = body_text k t.coefficient t.names

  terms_is : (ts us : List Term) {a b : List ℕ} → TermsTold ts → TermsTold us → gather (next_text k) ts ++ (newline ∷ a) ≡ gather (next_text k) us ++ (newline ∷ b) → (ts ≡ us) × (a ≡ b)
  unfolding gather next_text term
  terms_is [] [] h j e = (refl, (heads e).1)
  terms_is [] (u ∷ us) h j e = absurd (omega (arith, (heads e).0))
  terms_is (t ∷ ts) [] h j e = absurd (omega (arith, (heads e).0))
  terms_is (t ∷ ts) (u ∷ us) {a} {b} h j e =
      let one = heads (heads e).1 in
      let two = sym (append_assoc (bare_of t) (gather (next_text k) ts) (newline ∷ a)) ∙ (heads one.1).1 ∙ append_assoc (bare_of u) (gather (next_text k) us) (newline ∷ b) in
      let r = body_is k (terms_from ts a) (terms_from us b) t.coefficient u.coefficient t.names u.names (h t here) (j u here) two in
      let q = terms_is ts us (λ x m. h x (there m)) (λ x m. j x (there m)) r.2 in
      (ap₂ ◌∷◌ (term_is (sign_is t.negative u.negative one.0) r.0 r.1) q.0, q.1)

  -- ---- a right side
  first_of : (t : Term) (ts : List Term) (a : List ℕ)
      → right_text k (t ∷ ts) ++ (newline ∷ a) ≡ lead t.negative ++ (bare_of t ++ (gather (next_text k) ts ++ (newline ∷ a)))
  unfolding right_text first_text
  first_of t ts a =
      append_assoc (lead t.negative ++ bare_of t) (gather (next_text k) ts) (newline ∷ a) ∙ append_assoc (lead t.negative) (bare_of t) (gather (next_text k) ts ++ (newline ∷ a))

  first_from : (t : Term) (a : List ℕ) → Told t.coefficient t.names → From 49 120 (bare_of t ++ a)
  first_from t a h = body_from k t.coefficient t.names a h

  sum_is : (ts us : List Term) {a b : List ℕ} → TermsTold ts → TermsTold us → right_text k ts ++ (newline ∷ a) ≡ right_text k us ++ (newline ∷ b) → (ts ≡ us) × (a ≡ b)
  unfolding right_text term
  sum_is [] [] h j e = (refl, (heads (heads e).1).1)
  sum_is [] (u ∷ us) {a} {b} h j e = nought_not u.negative (first_from u _ (j u here)) (e ∙ first_of u us b)
  sum_is (t ∷ ts) [] {a} {b} h j e = nought_not t.negative (first_from t _ (h t here)) (sym e ∙ first_of t ts a)
  sum_is (t ∷ ts) (u ∷ us) {a} {b} h j e =
      let s = lead_is t.negative u.negative (first_from t _ (h t here)) (first_from u _ (j u here)) (sym (first_of t ts a) ∙ e ∙ first_of u us b) in
      let r = body_is k (terms_from ts a) (terms_from us b) t.coefficient u.coefficient t.names u.names (h t here) (j u here) s.1 in
      let q = terms_is ts us (λ x m. h x (there m)) (λ x m. j x (there m)) r.2 in
      (ap₂ ◌∷◌ (term_is s.0 r.0 r.1) q.0, q.1)

  -- ---- lines
  pub lines_are : (ss : List ℕ) (ls ms : List (List Term)) → ((ts : List Term) → ts ∈ ls → TermsTold ts) → ((ts : List Term) → ts ∈ ms → TermsTold ts)
      → length ls ≡ length ss → length ms ≡ length ss → lines_from k ss ls ≡ lines_from k ss ms → ls ≡ ms
  unfolding lines_from line_text
  lines_are [] [] [] h j c d e = refl
  lines_are [] [] (u ∷ ms) h j c d e = absurd (omega arith)
  lines_are [] (t ∷ ls) ms h j c d e = absurd (omega arith)
  lines_are (s ∷ ss) [] ms h j c d e = absurd (omega arith)
  lines_are (s ∷ ss) (t ∷ ls) [] h j c d e = absurd (omega arith)
  lines_are (s ∷ ss) (t ∷ ls) (u ∷ ms) h j c d e =
      let behind = same_front (letter_of k s ∷ digit_of k s ∷ prime) e in
      let r = sum_is t u (h t here) (j u here) (sym (append_assoc (right_text k t) (newline ∷ []) (lines_from k ss ls)) ∙ behind ∙ append_assoc (right_text k u) (newline ∷ []) (lines_from k ss ms)) in
      ap₂ ◌∷◌ r.0 (lines_are ss ls ms (λ x m. h x (there m)) (λ x m. j x (there m)) (omega arith) (omega arith) r.1)
