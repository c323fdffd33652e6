-- The marks by their bits, the loops that read them, and monomials without signals. Assumes nothing.
use mathlib.Core.Path.{◌≡◌, refl, sym, ap, ◌∙◌}
use mathlib.Core.Logic.{◌↔◌, ⊎_elim}
use mathlib.Core.Bool.{true, false, not, ◌&&◌, ◌||◌}
use mathlib.Core.List.{[], ◌∷◌}
use Prim.Native.Nat.{ℕ, zero, suc, ◌+◌, ◌-◌, ◌/◌, ◌%◌, ◌<◌, ◌≤◌}
use native.Mathlib.Omega.{arith}
use native.Mathlib.Numerals.{add-one}
use borrow.Author.Tests.{eq-eqb, ne_eqb, eqb-false}
use lib.Dec.{T, eqb, leb, eqb→eq, leb→le, not_T, T_not}
use lib.ListN.{length, get_or, drop, drop_of_length-le}
use lib.Seq.{drop-cons}
use Rattle.monomial.specs.Monomial.{Mono}
use Rattle.monomial.specs.Degree.{degree}
use Rattle.monomial.proofs.Tests.{Tested, passed, failed, test, T→is, is→T, is→n_t, and_l, and_r, and_i, or_l, or_r, or_e}
use Rattle.wiring.specs.Sockets.{panel_of, halved, marked, free, may_be}
use Rattle.wiring.specs.declared.panel.Panel.{Panel}

-- ---- the bits
pub marked_next : (marks i : ℕ) → marked marks (suc i) ≡ marked (marks / 2) i
unfolding marked halved
marked_next marks i = refl

pub halved_zero : (i : ℕ) → halved 0 i ≡ 0
unfolding halved
halved_zero zero = refl
halved_zero (suc i) = halved_zero i

-- no bit of 0 is set
pub unmarked : (i : ℕ) → marked 0 i ≡ false
unfolding marked
unmarked i = rw (halved_zero i) refl

halved_add : (m i j : ℕ) → halved m (i + j) ≡ halved (halved m i) j
unfolding halved
halved_add m zero j = let e : 0 + j ≡ j = omega arith in ap (halved m) e
halved_add m (suc i) j = let e : suc i + j ≡ suc (i + j) = omega arith in ap (halved m) e ∙ halved_add (m / 2) i j

-- a number none of whose bits is set is 0
bitless : (size m : ℕ) → m ≤ size → ((i : ℕ) → marked m i ≡ false) → m ≡ 0
unfolding marked halved
bitless zero m h f = omega arith
bitless (suc size) m h f =
    let even : m % 2 ≡ 1 → ⊥ = eqb-false (m % 2) 1 (f 0) in
    let half : m / 2 ≡ 0 = bitless size (m / 2) (omega arith) (λ i. f (suc i)) in
    omega arith

-- so many halvings leave 0 exactly where no bit from there on is set
pub halved_out : (m n : ℕ) → halved m n ≡ 0 → (i : ℕ) → n ≤ i → marked m i ≡ false
unfolding marked
halved_out m n e i h =
    let at : n + (i - n) ≡ i = omega arith in
    let rest : halved m i ≡ 0 = ap (halved m) (sym at) ∙ halved_add m n (i - n) ∙ ap (λ (k : ℕ). halved k (i - n)) e ∙ halved_zero (i - n) in
    rw rest refl

pub halved_in : (m n : ℕ) → ((i : ℕ) → n ≤ i → marked m i ≡ false) → halved m n ≡ 0
unfolding marked
halved_in m n f = bitless (halved m n) (halved m n) (omega arith) (λ i. rw (sym (halved_add m n i)) (f (n + i) (omega arith)))

-- ---- a loop that halves, and has come to halving number i
pub record Halving (m times rest i : ℕ) : Type 0 where
  pub within : i ≤ times
  pub left : halved rest (times - i) ≡ halved m times

pub halving_start : (m times : ℕ) → Halving m times m 0
halving_start m times = let e : times - 0 ≡ times = omega arith in record { within = omega arith; left = ap (halved m) e }

module _ {m times rest i : ℕ} (h : Halving m times rest i) where
  pub halving_on : i < times → Halving m times (rest / 2) (i + 1)
  unfolding halved
  halving_on k =
      let e : times - i ≡ suc (times - (i + 1)) = omega arith in
      record { within = omega arith; left = rw e at h.left }

  pub halving_ends : times ≤ i → rest ≡ halved m times
  unfolding halved
  halving_ends k = let e : times - i ≡ 0 = omega (arith, h.within) in rw e at h.left

-- ---- monomials without signals
-- the first exponent, and the others
pub free_cons : (marks e : ℕ) (m : Mono) → free marks (e ∷ m) ≡ (eqb e 0 || not (marked marks 0)) && free (marks / 2) m
unfolding free
free_cons marks e m = refl

-- exactly those in which every signal has the exponent 0
pub free_out : (marks : ℕ) (m : Mono) → T (free marks m) → (i : ℕ) → marked marks i ≡ true → get_or m i 0 ≡ 0
unfolding free
free_out marks [] t i e = refl
free_out marks (x ∷ m) t zero e =
    ⊎_elim (λ z. eqb→eq x 0 z) (λ z. absurd (T_not (marked marks 0) z (is→T (marked marks 0) e)))
    (or_e (eqb x 0) (not (marked marks 0)) (and_l (eqb x 0 || not (marked marks 0)) (free (marks / 2) m) t))
free_out marks (x ∷ m) t (suc i) e = free_out (marks / 2) m (and_r (eqb x 0 || not (marked marks 0)) (free (marks / 2) m) t) i (sym (marked_next marks i) ∙ e)

pub free_in : (marks : ℕ) (m : Mono) → ((i : ℕ) → marked marks i ≡ true → get_or m i 0 ≡ 0) → T (free marks m)
unfolding free
free_in marks [] f = tt
free_in marks (x ∷ m) f =
    and_i (eqb x 0 || not (marked marks 0)) (free (marks / 2) m) (first (test (marked marks 0))) (free_in (marks / 2) m (λ i e. f (suc i) (marked_next marks i ∙ e)))
  where
    first : Tested (marked marks 0) → T (eqb x 0 || not (marked marks 0))
    first (passed e) = or_l (eqb x 0) (not (marked marks 0)) (is→T (eqb x 0) (eq-eqb x 0 (f 0 e)))
    first (failed e) = or_r (eqb x 0) (not (marked marks 0)) (not_T (marked marks 0) (is→n_t (marked marks 0) e))

pub free_iff : (marks : ℕ) (m : Mono) → T (free marks m) ↔ ((i : ℕ) → marked marks i ≡ true → get_or m i 0 ≡ 0)
free_iff marks m = (free_out marks m, free_in marks m)

-- with no marks every monomial is
pub unmarked_free : (m : Mono) → free 0 m ≡ true
unmarked_free m = T→is (free 0 m) (free_in 0 m (λ i e. absurd (is→n_t (marked 0 i) (unmarked i) (is→T (marked 0 i) e))))

-- a new monomial may be what has no signal and a degree that is at most the limit
module _ (panel : Panel) (m : Mono) where
  pub may_free : T (may_be panel m) → (i : ℕ) → marked panel.marks i ≡ true → get_or m i 0 ≡ 0
  unfolding may_be
  may_free t = free_out panel.marks m (and_l (free panel.marks m) (leb (degree m) panel.degree) t)

  pub may_low : T (may_be panel m) → degree m ≤ panel.degree
  unfolding may_be
  may_low t = leb→le (degree m) panel.degree (and_r (free panel.marks m) (leb (degree m) panel.degree) t)

-- the number of variables has no say in it
pub may_same : (n b marks limit : ℕ) → may_be (panel_of n marks limit) ≡ may_be (panel_of b marks limit)
unfolding may_be
may_same n b marks limit = refl

-- ---- a loop that looks for a signal, and has come to place i: what is left says what the whole says
pub record Clearing (w marks : ℕ) (m : Mono) (rest i : ℕ) : Type 0 where
  pub within : i ≤ w
  pub long : length m ≡ w
  pub left : free rest (drop i m) ≡ free marks m

pub clearing_start : (w marks : ℕ) (m : Mono) → length m ≡ w → Clearing w marks m marks 0
clearing_start w marks m l = record { within = omega arith; long = l; left = refl }

module _ {w marks rest i : ℕ} {m : Mono} (c : Clearing w marks m rest i) where
  pub clearing_none : rest ≡ 0 → true ≡ free marks m
  clearing_none e = sym (unmarked_free (drop i m)) ∙ ap (λ (k : ℕ). free k (drop i m)) (sym e) ∙ c.left

  module _ (h : i < w) where
    turn : (eqb (get_or m i 0) 0 || not (marked rest 0)) && free (rest / 2) (drop (suc i) m) ≡ free marks m
    turn =
        let k : i < length m = rw c.long h in
        sym (free_cons rest (get_or m i 0) (drop (suc i) m)) ∙ ap (free rest) (sym (drop-cons m i 0 k)) ∙ c.left

    pub clearing_fails : rest % 2 ≡ 1 → (get_or m i 0 ≡ 0 → ⊥) → false ≡ free marks m
    unfolding marked halved
    clearing_fails b e = rw (ne_eqb (get_or m i 0) 0 e, eq-eqb (rest % 2) 1 b) at turn

    on : free (rest / 2) (drop (suc i) m) ≡ free marks m → Clearing w marks m (rest / 2) (i + 1)
    on e = record { within = omega arith; long = c.long; left = rw (add-one i) e }

    pub clearing_zero : get_or m i 0 ≡ 0 → Clearing w marks m (rest / 2) (i + 1)
    clearing_zero e = on (rw (eq-eqb (get_or m i 0) 0 e) at turn)

    pub clearing_unmarked : (rest % 2 ≡ 1 → ⊥) → Clearing w marks m (rest / 2) (i + 1)
    unfolding marked halved
    clearing_unmarked b = on (skip (test (eqb (get_or m i 0) 0)))
      where
        skip : Tested (eqb (get_or m i 0) 0) → free (rest / 2) (drop (suc i) m) ≡ free marks m
        skip (passed e) = rw e at turn
        skip (failed e) = rw (e, ne_eqb (rest % 2) 1 b) at turn

  pub clearing_ends : w ≤ i → true ≡ free marks m
  unfolding free
  clearing_ends h = let k : length m ≤ i = rw c.long h in rw (drop_of_length-le m k) at c.left
