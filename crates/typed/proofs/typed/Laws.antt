-- The pieces of a line: names, coefficients, signs, terms one behind the other, powers one behind the other. Assumes nothing.
use mathlib.Core.Path.{◌≡◌, refl, sym, ap, ◌∙◌}
use mathlib.Core.Bool.{Bool, true, cond}
use mathlib.Core.List.{List, [], ◌∷◌, ◌++◌, map, append-nil, append_assoc, map-append, map-id}
use Prim.Native.Nat.{ℕ, zero, suc, ◌+◌, ◌*◌, ◌≤◌, ◌<◌}
use native.Mathlib.Omega.{arith}
use native.Mathlib.Numerals.{add-one}
use borrow.Author.Tests.{eq-eqb, ne_eqb, eqb-true, le-ltb}
use lib.Dec.{T, eqb}
use lib.IntN.{ℤ, pos, negsuc}
use Rattle.std.specs.Prelude.{int_lt}
use lib.ListN.{length, take, drop, get_or, length-append, length-map}
use lib.Seq.{take-suc, take_all, get_or-take, get_or-drop}
use Rattle.monomial.specs.Lists.{gather, keep, below}
use Rattle.monomial.specs.Monomial.{Mono}
use Rattle.monomial.proofs.Tests.{T→is, cond_cases}
use Rattle.monomial.proofs.Members.{gather_append, keep_append}
use Rattle.monomial.proofs.Counting.{below_length, below_at}
use Rattle.wiring.specs.Panel.{wire_bytes}
use Rattle.wiring.specs.Coefficient.{word, signed}
use Rattle.wiring.specs.Wires.{Wire}
use Rattle.wiring.specs.Claims.{row_of}
use Rattle.lines.specs.Text.{decimal, joined, lead}
use Rattle.reader.specs.Bytes.{blank, minus, nought}
use Rattle.listing.specs.Bytes.{star, plus}
use Rattle.listing.specs.declared.known.Known.{Known}
use Rattle.grammar.specs.Grammar.{Factor, Names, none, alone, square, both, Term, names_text, body_text, exponent_text, factor_text, first_text, next_text, right_text}
use Rattle.typed.specs.Typed.{power_of, factor_at, factors_of, names_of, written_of, negative_of, term_of, terms_of, sign_text, term_text, wire_at, wires_in}

-- ---- the product of two signals
module _ (a b : ℕ) where
  pub names_none : a ≡ 0 → b ≡ 0 → names_of a b ≡ none
  unfolding names_of
  names_none e f = rw (eq-eqb a 0 e, eq-eqb b 0 f)

  pub names_alone : a ≡ 0 → (b ≡ 0 → ⊥) → names_of a b ≡ alone b
  unfolding names_of
  names_alone e f = rw (eq-eqb a 0 e, ne_eqb b 0 f)

  pub names_square : (a ≡ 0 → ⊥) → a ≡ b → names_of a b ≡ square a
  unfolding names_of
  names_square e f = rw (ne_eqb a 0 e, eq-eqb a b f)

  pub names_both : (a ≡ 0 → ⊥) → (a ≡ b → ⊥) → names_of a b ≡ both a b
  unfolding names_of
  names_both e f = rw (ne_eqb a 0 e, ne_eqb a b f)

  -- where there is a name, it is one of three
  named_cases : (P : Names → Type 0) → (a + b ≡ 0 → ⊥) → P (alone b) → P (square a) → P (both a b) → P (names_of a b)
  unfolding names_of
  named_cases P h x y z =
      cond_cases P (eqb a 0) (cond (eqb b 0) none (alone b)) (cond (eqb a b) (square a) (both a b))
      (λ t. cond_cases P (eqb b 0) none (alone b) (λ u. absurd (h (nothing t u))) (λ u. x))
      (λ t. cond_cases P (eqb a b) (square a) (both a b) (λ u. y) (λ u. z))
    where
      nothing : T (eqb a 0) → T (eqb b 0) → a + b ≡ 0
      nothing t u = omega (arith, eqb-true a 0 (T→is _ t), eqb-true b 0 (T→is _ u))

-- ---- the coefficient that is written
module _ (v a b : ℕ) where
  pub written_not : v ≡ 1 → 0 < a + b → 0 ≡ written_of v (names_of a b)
  unfolding written_of
  written_not e h =
      let one : eqb v 1 ≡ true = eq-eqb v 1 e in
      named_cases a b (λ m. 0 ≡ written_of v m) (λ n. absurd (omega arith)) (rw one) (rw one) (rw one)

  pub written_alone : a + b ≤ 0 → v ≡ written_of v (names_of a b)
  unfolding written_of
  written_alone h = rw (names_none a b (omega arith) (omega arith))

  pub written_other : (v ≡ 1 → ⊥) → v ≡ written_of v (names_of a b)
  unfolding written_of
  written_other f = go (names_of a b)
    where
      go : (m : Names) → v ≡ written_of v m
      go none = refl
      go (alone s) = rw (ne_eqb v 1 f)
      go (square s) = rw (ne_eqb v 1 f)
      go (both s t) = rw (ne_eqb v 1 f)

-- ---- a coefficient and names
module _ (k : Known) where
  pub body_names : (c : ℕ) (m : Names) → c ≡ 0 → names_text k m ≡ body_text k c m
  unfolding body_text
  body_names zero m e = refl
  body_names (suc c) m e = absurd (omega arith)

  pub body_number : (c a b : ℕ) → (c ≡ 0 → ⊥) → a + b ≡ 0 → decimal c ≡ body_text k c (names_of a b)
  unfolding body_text
  body_number zero a b f e = absurd (f refl)
  body_number (suc c) a b f e = rw (names_none a b (omega arith) (omega arith))

  pub body_both : (c a b : ℕ) → (c ≡ 0 → ⊥) → (a + b ≡ 0 → ⊥) → decimal c ++ (star ∷ names_text k (names_of a b)) ≡ body_text k c (names_of a b)
  unfolding body_text
  body_both zero a b f e = absurd (f refl)
  body_both (suc c) a b f e = named_cases a b (λ m. decimal (suc c) ++ (star ∷ names_text k m) ≡ body_text k (suc c) m) e refl refl refl

-- ---- signs
pub sign_later : (i : ℕ) (negative : Bool) → (i ≡ 0 → ⊥) → sign_text i negative ≡ blank ∷ cond negative minus plus ∷ blank ∷ []
unfolding sign_text
sign_later zero negative f = absurd (f refl)
sign_later (suc i) negative f = refl

-- a number below 0
pub negative_is : (z : ℤ) → int_lt z (pos 0) ≡ negative_of z
unfolding negative_of
negative_is (pos n) = le-ltb n 0 (omega arith)
negative_is (negsuc n) = refl

-- ---- a record by its bytes
module _ (bytes : List ℕ) (j : ℕ) where
  pub wire_byte : (i : ℕ) → i < wire_bytes → get_or (take wire_bytes (drop (wire_bytes * j) bytes)) i 0 ≡ get_or bytes (wire_bytes * j + i) 0
  wire_byte i h = get_or-take wire_bytes (drop (wire_bytes * j) bytes) i 0 h ∙ get_or-drop (wire_bytes * j) bytes i 0

  pub wire_left : get_or bytes (wire_bytes * j) 0 ≡ (wire_at bytes j).left
  wire_left = let e : wire_bytes * j + 0 ≡ wire_bytes * j = omega arith in sym (rw e at (wire_byte 0 (omega arith)))

  pub wire_word : signed (word bytes (wire_bytes * j + 4)) ≡ (wire_at bytes j).coefficient
  wire_word =
      let at : ℕ = wire_bytes * j in
      let b : at + 4 + 1 ≡ at + 5 = omega arith in
      let c : at + 4 + 2 ≡ at + 6 = omega arith in
      let d : at + 4 + 3 ≡ at + 7 = omega arith in
      rw (b, c, d, wire_byte 4 (omega arith), wire_byte 5 (omega arith), wire_byte 6 (omega arith), wire_byte 7 (omega arith))

pub wires_length : (count : ℕ) (bytes : List ℕ) → length (wires_in count bytes) ≡ count
unfolding wires_in
wires_length count bytes = length-map (below count) (wire_at bytes) ∙ below_length count

pub wires_at : (count : ℕ) (bytes : List ℕ) (j : ℕ) (d : Wire) → j < count → get_or (wires_in count bytes) j d ≡ wire_at bytes j
unfolding wires_in
wires_at count bytes j d h = below_at (wire_at bytes) count j d h

-- ---- terms one behind the other
-- a right side that is not a lone 0
unfoldable pub sum_text : Known → List Term → List ℕ
sum_text k [] = []
sum_text k (t ∷ ts) = first_text k t ++ gather (next_text k) ts

sum_next : (k : Known) (ts : List Term) (t : Term) → sum_text k ts ++ term_text k (length ts) t ≡ sum_text k (ts ++ (t ∷ []))
unfolding sum_text term_text sign_text gather first_text next_text
sum_next k [] t = sym (append-nil _)
sum_next k (x ∷ ts) t =
    rw (gather_append (next_text k) ts (t ∷ []), append-nil (body_text k t.coefficient t.names))
    (append_assoc (first_text k x) (gather (next_text k) ts) (term_text k (suc (length ts)) t))

pub sum_none : (k : Known) (ts : List Term) → length ts ≡ 0 → sum_text k ts ++ (nought ∷ []) ≡ right_text k ts
unfolding sum_text right_text
sum_none k [] e = refl
sum_none k (t ∷ ts) e = absurd (omega arith)

pub sum_some : (k : Known) (ts : List Term) → (length ts ≡ 0 → ⊥) → sum_text k ts ≡ right_text k ts
unfolding sum_text right_text
sum_some k [] f = absurd (f refl)
sum_some k (t ∷ ts) f = refl

-- the terms of the first j records
module _ (ws : List Wire) (l j : ℕ) (d : Wire) (h : j < length ws) where
  terms_more : terms_of (take (j + 1) ws) l ≡ terms_of (take j ws) l ++ map term_of (keep (λ x. eqb x.left l) (get_or ws j d ∷ []))
  unfolding terms_of
  terms_more =
      rw (add-one j, take-suc ws j d h, keep_append (λ x. eqb x.left l) (take j ws) (get_or ws j d ∷ []))
      (map-append term_of (row_of l (take j ws)) (keep (λ x. eqb x.left l) (get_or ws j d ∷ [])))

  terms_skip : ((get_or ws j d).left ≡ l → ⊥) → terms_of (take j ws) l ≡ terms_of (take (j + 1) ws) l
  unfolding keep
  terms_skip f = sym (terms_more ∙ rw (ne_eqb (get_or ws j d).left l f) (append-nil (terms_of (take j ws) l)))

  terms_next : (get_or ws j d).left ≡ l → terms_of (take j ws) l ++ (term_of (get_or ws j d) ∷ []) ≡ terms_of (take (j + 1) ws) l
  unfolding keep
  terms_next e = sym (terms_more ∙ rw (eq-eqb (get_or ws j d).left l e))

-- a loop that puts the terms of signal l, has come to record j and has put i of them
pub record Summing (k : Known) (l : ℕ) (ws : List Wire) (j i : ℕ) (line after : List ℕ) : Type 0 where
  pub within : j ≤ length ws
  pub few : i ≤ j
  pub short : length after ≤ length line + 29 * j
  pub counted : i ≡ length (terms_of (take j ws) l)
  pub text : after ≡ line ++ sum_text k (terms_of (take j ws) l)

pub summing_start : (k : Known) (l : ℕ) (ws : List Wire) (line : List ℕ) → Summing k l ws 0 0 line line
unfolding terms_of sum_text keep
summing_start k l ws line = record { within = omega arith; few = omega arith; short = omega arith; counted = refl; text = sym (append-nil line) }

module _ {k : Known} {l j i : ℕ} {ws : List Wire} {line after : List ℕ} (s : Summing k l ws j i line after) where
  pub summing_skip : (w d : Wire) → j < length ws → get_or ws j d ≡ w → (w.left ≡ l → ⊥) → Summing k l ws (j + 1) i line after
  summing_skip w d h e f =
      let same = terms_skip ws l j d h (λ g. f (ap (λ (x : Wire). x.left) (sym e) ∙ g)) in
      record { within = omega arith; few = omega (arith, s.few); short = omega (arith, s.short); counted = rw same at s.counted; text = rw same at s.text }

  pub summing_next : {last : List ℕ} (w d : Wire) → j < length ws → get_or ws j d ≡ w → w.left ≡ l
      → last ≡ after ++ term_text k i (term_of w) → length last ≤ length after + 29 → Summing k l ws (j + 1) (i + 1) line last
  summing_next {last} w d h e f put more =
      let one = terms_next ws l j d h (ap (λ (x : Wire). x.left) e ∙ f) in
      let long : length (terms_of (take j ws) l) + 1 ≡ length (terms_of (take (j + 1) ws) l) =
      sym (length-append (terms_of (take j ws) l) (term_of (get_or ws j d) ∷ [])) ∙ ap length one in
      let done : List ℕ = sum_text k (terms_of (take j ws) l) in
      let term : List ℕ = term_text k (length (terms_of (take j ws) l)) (term_of (get_or ws j d)) in
      let whole : last ≡ line ++ (done ++ term) = rw (s.counted, ← e, s.text) at put ∙ append_assoc line done term in
      record {
        within = omega arith;
        few = omega (arith, s.few);
        short = omega (arith, s.short);
        counted = omega (arith, s.counted);
        text = rw (sum_next k (terms_of (take j ws) l) (term_of (get_or ws j d)), one) at whole;
      }

  whole_row : length ws ≤ j → terms_of (take j ws) l ≡ terms_of ws l
  whole_row h = ap (λ (x : List Wire). terms_of x l) (take_all j ws h)

  pub summing_none : {last : List ℕ} → length ws ≤ j → i ≡ 0 → last ≡ after ++ (nought ∷ []) → last ≡ line ++ right_text k (terms_of ws l)
  summing_none {last} h e put =
      let none : length (terms_of (take j ws) l) ≡ 0 = sym s.counted ∙ e in
      let done : List ℕ = sum_text k (terms_of (take j ws) l) in
      let whole : last ≡ line ++ (done ++ (nought ∷ [])) = rw s.text at put ∙ append_assoc line done (nought ∷ []) in
      rw (sum_none k (terms_of (take j ws) l) none, whole_row h) at whole

  pub summing_end : length ws ≤ j → (i ≡ 0 → ⊥) → after ≡ line ++ right_text k (terms_of ws l)
  summing_end h f =
      let some : length (terms_of (take j ws) l) ≡ 0 → ⊥ = λ e. f (s.counted ∙ e) in
      rw (sum_some k (terms_of (take j ws) l) some, whole_row h) at s.text

-- ---- a power
module _ (k : Known) (i e : ℕ) where
  digit : 48 + (i + 1) ≡ 49 + i
  digit = omega arith

  pub power_one : e ≡ 1 → 120 ∷ (49 + i) ∷ [] ≡ factor_text k (power_of i e)
  unfolding factor_text exponent_text
  power_one h = rw (eq-eqb e 1 h, digit)

  pub power_more : 0 < e → (e ≡ 1 → ⊥) → 120 ∷ (49 + i) ∷ star ∷ star ∷ decimal e ≡ factor_text k (power_of i e)
  unfolding factor_text exponent_text
  power_more h f = let some : e ≡ 0 → ⊥ = λ z. absurd (omega arith) in rw (ne_eqb e 1 f, ne_eqb e 0 some, digit)

-- ---- powers one behind the other
joined_behind : (between : ℕ) (l : List (List ℕ)) (x : List ℕ) → joined between l ++ (lead (length l) between ++ x) ≡ joined between (l ++ (x ∷ []))
unfolding joined gather
joined_behind between [] x = sym (append-nil x)
joined_behind between (y ∷ l) x =
    let each : List ℕ → List ℕ = λ z. between ∷ z in
    rw (gather_append each l (x ∷ []), append-nil x) (append_assoc y (gather each l) (between ∷ x))

-- those of the first i variables
abbrev pub factors_to : Mono → ℕ → List Factor
factors_to m i = gather (factor_at m) (take i (below (length m)))

module _ (m : Mono) (i : ℕ) (h : i < length m) where
  factors_more : factors_to m i ++ factor_at m i ≡ factors_to m (i + 1)
  unfolding gather
  factors_more =
      let n : ℕ = length m in
      let long : i < length (below n) = rw (below_length n) h in
      let here : get_or (below n) i 0 ≡ i = ap (λ (l : List ℕ). get_or l i 0) (sym (map-id (below n))) ∙ below_at (λ (x : ℕ). x) n i 0 h in
      rw (add-one i, take-suc (below n) i 0 long, here, gather_append (factor_at m) (take i (below n)) (i ∷ []), append-nil (factor_at m i))

  factors_skip : get_or m i 0 ≡ 0 → factors_to m i ≡ factors_to m (i + 1)
  unfolding factor_at
  factors_skip e =
      let no : factor_at m i ≡ [] = rw (eq-eqb (get_or m i 0) 0 e) in
      sym (append-nil (factors_to m i)) ∙ ap (λ l. factors_to m i ++ l) (sym no) ∙ factors_more

  factors_next : (get_or m i 0 ≡ 0 → ⊥) → factors_to m i ++ (power_of i (get_or m i 0) ∷ []) ≡ factors_to m (i + 1)
  unfolding factor_at
  factors_next f =
      let one : factor_at m i ≡ power_of i (get_or m i 0) ∷ [] = rw (ne_eqb (get_or m i 0) 0 f) in
      ap (λ l. factors_to m i ++ l) (sym one) ∙ factors_more

-- a loop that puts the powers of m, has come to variable i and has put `some` of them; no text of a power asks what is known
pub record Powering (m : Mono) (i some : ℕ) (line after : List ℕ) : Type 0 where
  pub within : i ≤ length m
  pub few : some ≤ i
  pub short : length after ≤ length line + 25 * i
  pub counted : some ≡ length (factors_to m i)
  pub text : (k : Known) → after ≡ line ++ joined star (map (factor_text k) (factors_to m i))

pub powering_start : (m : Mono) (line : List ℕ) → Powering m 0 0 line line
unfolding joined gather
powering_start m line = record { within = omega arith; few = omega arith; short = omega arith; counted = refl; text = λ k. sym (append-nil line) }

module _ {m : Mono} {i some : ℕ} {line after : List ℕ} (p : Powering m i some line after) where
  pub powering_skip : i < length m → get_or m i 0 ≡ 0 → Powering m (i + 1) some line after
  powering_skip h e =
      let same = factors_skip m i h e in
      record { within = omega arith; few = omega (arith, p.few); short = omega (arith, p.short); counted = rw same at p.counted; text = λ k. rw same at (p.text k) }

  pub powering_next : {n o : List ℕ} → i < length m → (get_or m i 0 ≡ 0 → ⊥) → n ≡ after ++ lead some star
      → ((k : Known) → o ≡ n ++ factor_text k (power_of i (get_or m i 0))) → length o ≤ length after + 25 → Powering m (i + 1) (some + 1) line o
  powering_next {n} {o} h f x y more =
      let one = factors_next m i h f in
      let power = power_of i (get_or m i 0) in
      let long : length (factors_to m i) + 1 ≡ length (factors_to m (i + 1)) = sym (length-append (factors_to m i) (power ∷ [])) ∙ ap length one in
      let text : (k : Known) → o ≡ line ++ joined star (map (factor_text k) (factors_to m (i + 1))) = λ k.
      let pieces : List (List ℕ) = map (factor_text k) (factors_to m i) in
      let count : some ≡ length pieces = p.counted ∙ sym (length-map (factors_to m i) (factor_text k)) in
      let before : List ℕ = lead (length pieces) star in
      let piece : List ℕ = factor_text k power in
      let whole : o ≡ line ++ (joined star pieces ++ (before ++ piece)) =
      y k ∙ rw (x, count, p.text k) (append_assoc (line ++ joined star pieces) before piece ∙ append_assoc line (joined star pieces) (before ++ piece)) in
      let behind = joined_behind star pieces piece in
      let all = sym (map-append (factor_text k) (factors_to m i) (power ∷ [])) ∙ ap (map (factor_text k)) one in
      rw (behind, all) at whole in
      record { within = omega arith; few = omega (arith, p.few); short = omega (arith, p.short); counted = omega (arith, p.counted); text = text }

  pub powering_end : length m ≤ i → (k : Known) → after ≡ line ++ joined star (map (factor_text k) (factors_of m))
  unfolding factors_of
  powering_end h k = rw (take_all i (below (length m)) (rw (below_length (length m)) h)) at (p.text k)
