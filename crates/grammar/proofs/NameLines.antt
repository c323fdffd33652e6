-- The lines of the first part are read, and each names its monomial. Assumes nothing.
use mathlib.Core.Path.{◌≡◌, refl, ap, subst}
use mathlib.Core.Bool.{cond}
use mathlib.Core.List.{List, [], ◌∷◌, ◌++◌, map, append-nil, append_assoc}
use Prim.Native.Nat.{ℕ, zero, suc, ◌+◌, ◌*◌, ◌-◌, ◌≤◌, ◌<◌}
use native.Mathlib.Omega.{arith}
use borrow.Author.Tests.{lt-ltb, le-leb, ne_eqb}
use lib.Dec.{eqb}
use lib.ListN.{length}
use Rattle.monomial.specs.Lists.{gather}
use Rattle.monomial.specs.Monomial.{Mono, one, width}
use Rattle.monomial.specs.Claims.{◌∈◌}
use Rattle.monomial.proofs.Members.{here, there}
use Rattle.lines.specs.Text.{joined}
use Rattle.reader.specs.Bytes.{newline, blank, nought, nine}
use Rattle.reader.specs.Reader.{run}
use Rattle.listing.specs.Bytes.{star, letter_w, letter_x}
use Rattle.listing.specs.Machine.{state, one as one_byte, span, ended, spell, begin_line, eat_at, eat}
use Rattle.listing.specs.Saying.{name_said, digit_said, star_said, saying_at, saying}
use Rattle.listing.specs.Meaning.{Naming, naming, closed, named, Telling, told}
use Rattle.listing.specs.declared.known.Known.{Known}
use Rattle.listing.specs.declared.machine.Reading.TheVariants.{Dead}
use Rattle.listing.specs.declared.machine.Place.{Place}
use Rattle.listing.specs.declared.machine.Place.TheVariants.{Names as AtNames, NewName, Equals, Factor as AtFactor, Power, Exponent, Digits}
use Rattle.listing.specs.declared.saying.Saying.TheVariants.{Variable, Digit}
use Rattle.listing.proofs.Finishes.{one_hit, span_hit}
use Rattle.grammar.specs.Grammar.{Factor, raised_by, monomial_of, exponent_text, factor_text, name_text, names_from, FactorRight}
use Rattle.grammar.proofs.Noting.{at, Eats, nothing, then, byte}
use Rattle.grammar.proofs.Digits.{Numbers, reads_number}

-- the place behind a factor with this exponent
abbrev pub behind_factor : ℕ → Place
behind_factor zero = Power
behind_factor (suc e) = Digits

-- its power
abbrev power_of : ℕ → ℕ
power_of e = cond (eqb e 0) 1 e

-- the notes behind a factor
abbrev raised : Naming → Factor → Naming
raised n f = naming n.whole (closed n) (f.variable - 1) (power_of f.exponent)

-- the notes behind a line
abbrev pub lined : List Mono → Naming
lined l = naming l (one width) 0 0

module _ (k : Known) (i : ℕ) (t : Telling) where
  -- ---- an exponent
  module _ (w : List Mono) (m : Mono) (v : ℕ) where
    stars : Eats k (at Power i 0 0 (naming w m v 1) t) (star ∷ star ∷ []) (at Exponent i 0 0 (naming w m v 0) t)
    unfolding run eat eat_at one_byte saying saying_at name_said star_said named told
    stars = record { is = refl }

    digit_first : (d : ℕ) → 1 ≤ d → d ≤ 9 → Eats k (at Exponent i 0 0 (naming w m v 0) t) ((nought + d) ∷ []) (at Digits i 0 0 (naming w m v d) t)
    unfolding eat eat_at saying saying_at named told
    digit_first d h j =
        let e : 10 * 0 + (nought + d - nought) ≡ d = omega arith in
        subst (λ u. Eats k (at Exponent i 0 0 (naming w m v 0) t) ((nought + d) ∷ []) (at Digits i 0 0 (naming w m v u) t)) e
        (byte k (nought + d) (span_hit (nought + d) (nought + 1) nine (state Exponent i 0 0) Digits Dead (omega arith) (omega arith)) refl)

    digit-said : (d : ℕ) → digit_said (nought + d) ≡ Digit d
    unfolding digit_said
    digit-said d = let e : nought + d - nought ≡ d = omega arith in rw (le-leb nought (nought + d) (omega arith)) (ap Digit e)

    digit_next : (u d : ℕ) → d ≤ 9 → Eats k (at Digits i 0 0 (naming w m v u) t) ((nought + d) ∷ []) (at Digits i 0 0 (naming w m v (10 * u + d)) t)
    unfolding eat eat_at saying saying_at named told
    digit_next u d j = byte k (nought + d) (span_hit (nought + d) nought nine (state Digits i 0 0) Digits _ (omega arith) (omega arith)) (digit-said d)

    exponent : (e : ℕ) → Eats k (at Power i 0 0 (naming w m v 1) t) (exponent_text k e) (at (behind_factor e) i 0 0 (naming w m v (power_of e)) t)
    unfolding exponent_text
    exponent zero = nothing k
    exponent (suc e) =
        let r : Numbers k (at Exponent i 0 0 (naming w m v 0) t) (λ u. at Digits i 0 0 (naming w m v u) t) (suc e) =
        record { first = digit_first; next = λ u d j h. digit_next u d j } in
        rw (ne_eqb (suc e) 0 (omega arith)) (then k stars (reads_number r (suc e) (omega arith) (omega arith)))

  -- ---- a factor from its digit on
  module _ (f : Factor) (right : FactorRight k f) (n : Naming) where
    variable : Eats k (at AtFactor i 0 0 n t) ((nought + f.variable) ∷ []) (at Power i 0 0 (naming n.whole (closed n) (f.variable - 1) 1) t)
    unfolding eat eat_at saying saying_at named told
    variable =
        let e : nought + f.variable - (nought + 1) ≡ f.variable - 1 = omega arith in
        byte k (nought + f.variable)
        (span_hit (nought + f.variable) (nought + 1) (nought + k.n) (state AtFactor i 0 0) Power Dead (omega (arith, right.low)) (omega (arith, right.high)))
        (ap Variable e)

    pub factor : Eats k (at AtFactor i 0 0 n t) ((nought + f.variable) ∷ exponent_text k f.exponent) (at (behind_factor f.exponent) i 0 0 (raised n f) t)
    factor = then k variable (exponent n.whole (closed n) (f.variable - 1) f.exponent)

  -- ---- what follows a factor: another one, or the line's end
  behind_star : (e : ℕ) (n : Naming) → Eats k (at (behind_factor e) i 0 0 n t) (star ∷ letter_x ∷ []) (at AtFactor i 0 0 n t)
  unfolding run eat eat_at one_byte span saying saying_at name_said digit_said star_said named told
  behind_star zero n = record { is = refl }
  behind_star (suc e) n = record { is = refl }

  behind_newline : (e : ℕ) (n : Naming) → Eats k (at (behind_factor e) i 0 0 n t) (newline ∷ []) (at AtNames (i + 1) 0 0 (naming (n.whole ++ (closed n ∷ [])) (one width) 0 0) t)
  unfolding run eat eat_at one_byte span ended saying saying_at name_said digit_said named told
  behind_newline zero n = record { is = refl }
  behind_newline (suc e) n = record { is = refl }

  -- ---- the factors of a line, from the digit of the first on
  factors : (f : Factor) (fs : List Factor) (n : Naming) → ((g : Factor) → g ∈ (f ∷ fs) → FactorRight k g)
      → Eats k (at AtFactor i 0 0 n t) ((nought + f.variable) ∷ exponent_text k f.exponent ++ gather (λ y. star ∷ y) (map (factor_text k) fs) ++ (newline ∷ []))
      (at AtNames (i + 1) 0 0 (lined (n.whole ++ (raised_by (closed n) (f ∷ fs) ∷ []))) t)
  unfolding gather factor_text raised_by
  factors f [] n h = rw (append-nil (exponent_text k f.exponent)) (then k (factor f (h f here) n) (behind_newline f.exponent (raised n f)))
  factors f (g ∷ fs) n h =
      let more = gather (λ y. star ∷ y) (map (factor_text k) (g ∷ fs)) in
      rw (append_assoc (exponent_text k f.exponent) more (newline ∷ []))
      (then k (factor f (h f here) n) (then k (behind_star f.exponent (raised n f)) (factors g fs (raised n f) (λ x m. h x (there m)))))

  -- ---- a line
  begins : (n : Naming) → i < k.cards → Eats k (at AtNames i 0 0 n t) (letter_w ∷ []) (at NewName i 0 0 n t)
  unfolding eat eat_at begin_line ended one_byte saying saying_at named told
  begins n h = byte k letter_w (rw (lt-ltb i k.cards h)) refl

  numbered : (n : Naming) → Eats k (at NewName i 0 0 n t) ((nought + i) ∷ []) (at Equals i 0 0 n t)
  unfolding eat eat_at saying saying_at named told
  numbered n = byte k (nought + i) (one_hit (nought + i) (state NewName i 0 0) Equals Dead) refl

  equalled : (n : Naming) → Eats k (at Equals i 0 0 n t) (blank ∷ 61 ∷ blank ∷ letter_x ∷ []) (at AtFactor i 0 0 n t)
  unfolding run eat eat_at spell saying saying_at named told
  equalled n = record { is = refl }

  pub name_line : (fs : List Factor) (w : List Mono) → i < k.cards → 1 ≤ length fs → ((g : Factor) → g ∈ fs → FactorRight k g)
      → Eats k (at AtNames i 0 0 (lined w) t) (name_text k i fs) (at AtNames (i + 1) 0 0 (lined (w ++ (monomial_of fs ∷ []))) t)
  unfolding name_text joined factor_text
  name_line [] w c l h = absurd (omega arith)
  name_line (f ∷ fs) w c l h = then k (begins (lined w) c) (then k (numbered (lined w)) (then k (equalled (lined w)) (factors f fs (lined w) h)))

-- ---- all of them
module _ (k : Known) (t : Telling) where
  pub name-lines : (l : List (List Factor)) (i : ℕ) (w : List Mono) → i + length l ≤ k.cards → ((fs : List Factor) → fs ∈ l → (1 ≤ length fs) × ((f : Factor) → f ∈ fs → FactorRight k f))
      → Eats k (at AtNames i 0 0 (lined w) t) (names_from k i l) (at AtNames (i + length l) 0 0 (lined (w ++ map monomial_of l)) t)
  unfolding names_from
  name-lines [] i w c h = let e : i + 0 ≡ i = omega arith in rw (e, append-nil w) (nothing k)
  name-lines (fs ∷ l) i w c h =
      let e : i + 1 + length l ≡ i + suc (length l) = omega arith in
      let front : Eats k (at AtNames i 0 0 (lined w) t) (name_text k i fs) (at AtNames (i + 1) 0 0 (lined (w ++ (monomial_of fs ∷ []))) t) =
      name_line k i t fs w (omega arith) (h fs here).0 (h fs here).1 in
      let rest : Eats k (at AtNames (i + 1) 0 0 (lined (w ++ (monomial_of fs ∷ []))) t) (names_from k (i + 1) l) (at AtNames (i + suc (length l)) 0 0 (lined (w ++ map monomial_of (fs ∷ l))) t) =
      rw (e, append_assoc w (monomial_of fs ∷ []) (map monomial_of l)) at (name-lines l (i + 1) (w ++ (monomial_of fs ∷ [])) (omega arith) (λ x m. h x (there m))) in
      then k front rest
