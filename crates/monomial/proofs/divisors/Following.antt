-- The divisor that follows another: how a loop from the last exponent makes it, and that it is the next of the ascending divisors.
-- Assumes nothing.
use mathlib.Core.Path.{◌≡◌, refl, sym, ap, ap₂, ◌∙◌, subst}
use mathlib.Core.Bool.{true, false}
use mathlib.Core.List.{[], ◌∷◌, ◌++◌, append-nil}
use Prim.Native.Nat.{ℕ, zero, suc, ◌+◌, ◌-◌, ◌≤◌, ◌<◌}
use native.Mathlib.Omega.{arith}
use native.Mathlib.Numerals.{add-one}
use borrow.Author.Tests.{lt-ltb, le-ltb, lt-leb, le-leb, ltb-true, ltb-false}
use lib.Dec.{T, ltb, leb, eqb_refl, eqb→eq, lt→ltb, ltb→lt}
use lib.ListN.{length, get_or, take, drop, set, drop_of_length-le, get_or-append}
use lib.Seq.{take_all, drop-cons, length-take-le, get_or-take}
use Rattle.monomial.specs.Lists.{pairwise, dictionary}
use Rattle.monomial.specs.Monomial.{Mono, one}
use Rattle.monomial.specs.Order.{before}
use Rattle.monomial.specs.Quotient.{divides}
use Rattle.monomial.specs.Divisors.{divisors, next}
use Rattle.monomial.specs.Claims.{from}
use Rattle.monomial.proofs.Tests.{Tested, passed, failed, test, is→T, is→n_t, T→is, n_t→is, and_r}
use Rattle.monomial.proofs.Loops.{set_front}
use Rattle.monomial.proofs.order.Laws.{ℕ-order, mono_order, Ahead, smaller, tied, ahead, ahead_is}
use Rattle.monomial.proofs.order.Ascending.{from_start, from_next}
use Rattle.monomial.proofs.quotient.Laws.{divides_length, divides_head, divides_tail, divides_cons, divides_both, one_divides}
use Rattle.monomial.proofs.divisors.Laws.{divisors_in, divisors_out, divisors_asc}

-- ---- how a loop from the end makes it
-- an exponent that is too large somewhere
not_divides : (d m : Mono) (i : ℕ) → i < length d → length d ≡ length m → get_or m i 0 < get_or d i 0 → divides d m ≡ false
unfolding pairwise
not_divides [] m i h e l = let z : ⊥ = omega arith in absurd z
not_divides (x ∷ d) [] i h e l = let z : ⊥ = omega arith in absurd z
not_divides (x ∷ d) (y ∷ m) zero h e l = rw (lt-leb x y l)
not_divides (x ∷ d) (y ∷ m) (suc i) h e l =
    let ih : divides d m ≡ false = not_divides d m i (omega arith) (omega arith) l in
    n_t→is (divides (x ∷ d) (y ∷ m)) (λ t. is→n_t (divides d m) ih (and_r (leb x y) (divides d m) t))

-- nothing behind place i can rise, and d's exponent there can
pub next_rises : (m d : Mono) (i : ℕ) → length d ≡ length m → i < length m → divides (drop (i + 1) m) (drop (i + 1) d) ≡ true
    → get_or d i 0 < get_or m i 0 → next m d ≡ take i d ++ ((get_or d i 0 + 1) ∷ one (length m - (i + 1)))
unfolding next
next_rises [] d i e h t l = let z : ⊥ = omega arith in absurd z
next_rises (y ∷ m) [] i e h t l = let z : ⊥ = omega arith in absurd z
next_rises (y ∷ m) (x ∷ d) zero e h t l =
    let k : suc (length m) - (0 + 1) ≡ length m = omega arith in
    rw (t, lt-ltb x y l, k, add-one x)
next_rises (y ∷ m) (x ∷ d) (suc i) e h t l =
    let p : suc i + 1 ≡ suc (i + 1) = omega arith in
    let q : length m - (i + 1) ≡ suc (length m) - (suc i + 1) = omega arith in
    let ih : next m d ≡ take i d ++ ((get_or d i 0 + 1) ∷ one (length m - (i + 1))) =
    next_rises m d i (omega arith) (omega arith) (rw p at t) l in
    rw (not_divides m d i (omega arith) (omega arith) l)
    (ap (◌∷◌ x) (ih ∙ ap (λ (n : ℕ). take i d ++ ((get_or d i 0 + 1) ∷ one n)) q))

-- no exponent can rise
pub next_wraps : (m d : Mono) → divides m d ≡ true → next m d ≡ one (length m)
unfolding next pairwise
next_wraps [] d t = refl
next_wraps (y ∷ m) [] t = let z : ⊥ = is→n_t false refl (is→T false t) in absurd z
next_wraps (y ∷ m) (x ∷ d) t =
    let h : y ≤ x = divides_head y x m d (is→T (divides (y ∷ m) (x ∷ d)) t) in
    let k : T (divides m d) = divides_tail y x m d (is→T (divides (y ∷ m) (x ∷ d)) t) in
    rw (T→is (divides m d) k, le-ltb x y h)

-- a loop down the places of d has come to i: nothing from there on can rise, and what stands there is back at 0
pub record Carrying (w : ℕ) (m d r : Mono) (i : ℕ) : Type 0 where
  pub within : i ≤ w
  pub top : length m ≡ w
  pub long : length d ≡ w
  pub front : r ≡ take i d ++ one (w - i)
  pub spent : divides (drop i m) (drop i d) ≡ true

pub carrying_start : (w : ℕ) (m d : Mono) → length m ≡ w → length d ≡ w → Carrying w m d d w
unfolding pairwise
carrying_start w m d h k = record {
  within = omega arith;
  top = h;
  long = k;
  front = let z : w - w ≡ 0 = omega arith in sym (rw (z, take_all w d (omega arith)) (append-nil d));
  spent = rw (drop_of_length-le m {i = w} (omega arith), drop_of_length-le d {i = w} (omega arith));
}

pub carrying_ends : {w i : ℕ} {m d r : Mono} → Carrying w m d r i → i ≤ 0 → r ≡ next m d
carrying_ends {w} {i} {m} {d} {r} c h =
    let z : i ≡ 0 = omega arith in
    let n : w - 0 ≡ w = omega arith in
    let f : r ≡ one w = rw n at (rw z at c.front) in
    f ∙ ap one (sym c.top) ∙ sym (next_wraps m d (rw z at c.spent))

module _ {w : ℕ} {m d r : Mono} (j : ℕ) (c : Carrying w m d r (j + 1)) where
  pub carrying_at : get_or r j 0 ≡ get_or d j 0
  carrying_at =
      let l : length (take (j + 1) d) ≡ j + 1 = length-take-le (j + 1) d (omega arith) in
      ap (λ (u : Mono). get_or u j 0) c.front ∙ get_or-append (take (j + 1) d) (one (w - (j + 1))) 0 j (omega arith) ∙ get_or-take (j + 1) d j 0 (omega arith)

  put : (x : ℕ) → set r j x ≡ take j d ++ (x ∷ one (w - (j + 1)))
  put x = ap (λ (u : Mono). set u j x) c.front ∙ set_front 0 d (one (w - (j + 1))) j x (omega arith)

  pub carrying_rises : get_or r j 0 < get_or m j 0 → set r j (get_or r j 0 + 1) ≡ next m d
  carrying_rises h =
      let e = carrying_at in
      let n = next_rises m d j (omega arith) (omega arith) c.spent (omega arith) in
      put (get_or r j 0 + 1) ∙ ap₂ (λ (x k : ℕ). take j d ++ ((x + 1) ∷ one (k - (j + 1)))) e (sym c.top) ∙ sym n

  pub carrying_on : get_or m j 0 ≤ get_or r j 0 → Carrying w m d (set r j 0) j
  unfolding pairwise
  carrying_on h =
      let e = carrying_at in
      let k : w - j ≡ suc (w - (j + 1)) = omega arith in
      record {
        within = omega arith;
        top = c.top;
        long = c.long;
        front = rw k (put 0);
        spent = rw (drop-cons m j 0 (omega arith), drop-cons d j 0 (omega arith), le-leb (get_or m j 0) (get_or d j 0) (omega arith)) (rw (add-one j) at c.spent);
      }

-- ---- it is the next of the ascending divisors
-- a divisor does not stand behind its multiple, and nothing of the same width before 1
pub divides_before : (d m : Mono) → T (divides d m) → T (before m d) → ⊥
unfolding pairwise dictionary
divides_before [] [] s t = t
divides_before [] (e ∷ m) s t = s
divides_before (x ∷ d) [] s t = s
divides_before (x ∷ d) (e ∷ m) s t = go (ahead ℕ-order e x m d t) (divides_before d m (divides_tail x e d m s))
  where
    go : Ahead ℕ-order e x m d → (T (before m d) → ⊥) → ⊥
    go (smaller h) ih = let k : e < x = ltb→lt e x h in let j : x ≤ e = divides_head x e d m s in omega arith
    go (tied q h) ih = ih h

pub not_before_one : (d : Mono) → T (before d (one (length d))) → ⊥
not_before_one d t = divides_before (one (length d)) d (one_divides d) t

-- a divisor that is not the last stands before the one that follows it
pub next_behind : (d m : Mono) → T (divides d m) → (T (divides m d) → ⊥) → T (before d (next m d))
unfolding next pairwise
next_behind [] [] s f = absurd (f tt)
next_behind [] (e ∷ m) s f = absurd s
next_behind (x ∷ d) [] s f = absurd s
next_behind (x ∷ d) (e ∷ m) s f = go (test (divides m d)) (next_behind d m (divides_tail x e d m s))
  where
    go : Tested (divides m d) → ((T (divides m d) → ⊥) → T (before d (next m d))) → T (before (x ∷ d) (next (e ∷ m) (x ∷ d)))
    go (passed p) ih =
        let h : x ≤ e = divides_head x e d m s in
        let l : x < e = rises (test (ltb x e)) in
        rw (p, lt-ltb x e l) (ahead_is ℕ-order x (suc x) d (one (length m)) (smaller (lt→ltb x (suc x) (omega arith))))
      where
        rises : Tested (ltb x e) → x < e
        rises (passed q) = ltb→lt x e (is→T (ltb x e) q)
        rises (failed q) = absurd (f (divides_cons e x m d (ltb-false x e q) (is→T (divides m d) p)))
    go (failed p) ih = rw p (ahead_is ℕ-order x x d (next m d) (tied (eqb_refl x) (ih (is→n_t (divides m d) p))))

-- and no divisor stands between the two
one_gap : (c m : Mono) → length c ≡ length m → T (before c (one (length m))) → ⊥
one_gap c m e t = not_before_one c (subst (λ (n : ℕ). T (before c (one n))) (sym e) t)

-- the tail can rise no more, and the head does
rise_gap : (z x : ℕ) (c d m : Mono) → T (divides c m) → d ≡ m → Ahead ℕ-order x z d c → Ahead ℕ-order z (suc x) c (one (length m)) → ⊥
rise_gap z x c d m s e (smaller h) (smaller k) = let i : x < z = ltb→lt x z h in let j : z < suc x = ltb→lt z (suc x) k in omega arith
rise_gap z x c d m s e (smaller h) (tied q k) = one_gap c m (divides_length c m s) k
rise_gap z x c d m s e (tied q h) v = divides_before c m s (subst (λ (l : Mono). T (before l c)) e h)

-- the head stays
stay_gap : (z x : ℕ) (c d n : Mono) → (T (before d c) → T (before c n) → ⊥) → Ahead ℕ-order x z d c → Ahead ℕ-order z x c n → ⊥
stay_gap z x c d n ih (smaller h) (smaller k) = let i : x < z = ltb→lt x z h in let j : z < x = ltb→lt z x k in omega arith
stay_gap z x c d n ih (smaller h) (tied q k) = let i : x < z = ltb→lt x z h in let j : z ≡ x = eqb→eq z x q in omega arith
stay_gap z x c d n ih (tied p h) (smaller k) = let i : x ≡ z = eqb→eq x z p in let j : z < x = ltb→lt z x k in omega arith
stay_gap z x c d n ih (tied p h) (tied q k) = ih h k

pub next_gap : (c d m : Mono) → T (divides c m) → T (divides d m) → T (before d c) → T (before c (next m d)) → ⊥
unfolding next pairwise dictionary
next_gap [] [] m s t u v = u
next_gap [] (x ∷ d) m s t u v = u
next_gap (z ∷ c) d [] s t u v = s
next_gap (z ∷ c) [] (e ∷ m) s t u v = t
next_gap (z ∷ c) (x ∷ d) (e ∷ m) s t u v = go (test (divides m d)) (test (ltb x e)) v (next_gap c d m (divides_tail z e c m s) (divides_tail x e d m t))
  where
    go : Tested (divides m d) → Tested (ltb x e) → T (before (z ∷ c) (next (e ∷ m) (x ∷ d))) → (T (before d c) → T (before c (next m d)) → ⊥) → ⊥
    go (passed p) (passed q) w ih =
        rise_gap z x c d m (divides_tail z e c m s) (divides_both d m (divides_tail x e d m t) (is→T (divides m d) p)) (ahead ℕ-order x z d c u)
        (ahead ℕ-order z (suc x) c (one (length m)) (rw (p, q) at w))
    go (passed p) (failed q) w ih = one_gap (z ∷ c) (e ∷ m) (divides_length (z ∷ c) (e ∷ m) s) (rw (p, q) at w)
    go (failed p) q w ih = stay_gap z x c d (next m d) ih (ahead ℕ-order x z d c u) (ahead ℕ-order z x c (next m d) (rw p at w))

-- what follows a divisor is one too
pub next_divides : (d m : Mono) → T (divides d m) → T (divides (next m d) m)
unfolding next pairwise
next_divides [] [] s = tt
next_divides [] (e ∷ m) s = absurd s
next_divides (x ∷ d) [] s = absurd s
next_divides (x ∷ d) (e ∷ m) s = go (test (divides m d)) (test (ltb x e)) (next_divides d m (divides_tail x e d m s))
  where
    go : Tested (divides m d) → Tested (ltb x e) → T (divides (next m d) m) → T (divides (next (e ∷ m) (x ∷ d)) (e ∷ m))
    go (passed p) (passed q) ih = rw (p, q) (divides_cons (suc x) e (one (length m)) m (ltb-true x e q) (one_divides m))
    go (passed p) (failed q) ih = rw (p, q) (divides_cons 0 e (one (length m)) m (omega arith) (one_divides m))
    go (failed p) q ih = rw p (divides_cons x e (next m d) m (divides_head x e d m s) ih)

-- ---- the divisors of m from d on, one at a time: all of them from 1, then d and those from the next one on
pub divisors_start : (m : Mono) → from before (one (length m)) (divisors m) ≡ divisors m
divisors_start m =
    from_start mono_order (one (length m)) (divisors m) (λ d h t. one_gap d m (divides_length d m (divisors_out d m h)) t)

pub divisors_next : (d m : Mono) → T (divides d m) → (d ≡ m → ⊥) → from before d (divisors m) ≡ d ∷ from before (next m d) (divisors m)
divisors_next d m t n =
    from_next mono_order d (next m d) (divisors m) (divisors_asc m) (divisors_in d m t) (next_behind d m t (λ s. n (divides_both d m t s)))
    (λ c h u v. next_gap c d m (divisors_out c m h) t u v)
