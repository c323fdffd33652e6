-- The best of a list by an order, as a loop that keeps the best so far finds it: any list with the same members will do, in any order and with
-- repeats. The nonsquare to split is the cheapest, the first of an ascending list the least. Assumes nothing.
use mathlib.Core.Path.{◌≡◌, refl, sym, ◌∙◌, subst}
use mathlib.Core.Logic.{⊎_elim}
use mathlib.Core.Bool.{Bool, true, false, cond, ◌&&◌}
use mathlib.Core.List.Memᴰ
use mathlib.Core.List.{List, [], ◌∷◌}
use Prim.Native.Nat.{ℕ, ◌<◌, ◌≤◌}
use native.Mathlib.Omega.{arith}
use borrow.Author.Tests.{lt-ltb, le-ltb, eq-eqb, ne_eqb}
use lib.Dec.{T, eqb, ltb, eqb→eq, eqb_refl, ltb→lt, lt→ltb}
use Rattle.monomial.specs.Monomial.{Mono}
use Rattle.monomial.specs.Order.{same, before}
use Rattle.monomial.specs.Divisors.{score}
use Rattle.monomial.specs.Claims.{◌∈◌, ◌⊆◌, Ascending, Order, Compared, less, equal, more}
use Rattle.monomial.proofs.Tests.{or_l, or_r, or_e, and_l, and_r, and_i, cond_cases, is→T, is→n_t}
use Rattle.monomial.proofs.Members.{here, there}
use Rattle.monomial.proofs.Loops.{OfMembers}
use Rattle.monomial.proofs.order.Laws.{ℕ-order, mono_order}
use Rattle.monomial.proofs.order.Ascending.{head_first}
use Rattle.std.specs.Prelude.{Option, Some, None, MatchOption}
use Rattle.monomial.specs.declared.Monomial.{Monomial}
use Rattle.wiring.specs.Choice.{cheaper, chosen, Picked, Heads, BestOf, Best}

-- ---- the best so far, by any order
module _ {earlier : Mono → Mono → Bool} (o : Order same earlier) where
  self_not : (m y : Mono) → y ≡ m → T (earlier y m) → ⊥
  self_not m y e t = o.irrefl m (subst (λ (z : Mono). T (earlier z m)) e t)

  -- the first candidate
  pub best_first : (l : List Mono) (m : Mono) → ((y : Mono) → y ∈ l → ⊥) → BestOf earlier (m ∷ l) m
  best_first l m n = (here, λ y h t. ⊎_elim (λ e. self_not m y e t) (λ k. n y k) (Memᴰ.cases_cons h))

  -- an earlier one takes its place
  pub best_take : (l : List Mono) (x m : Mono) → BestOf earlier l x → T (earlier m x) → BestOf earlier (m ∷ l) m
  best_take l x m b s = (here, λ y h t. ⊎_elim (λ e. self_not m y e t) (λ k. b.1 y k (o.trans y m x t s)) (Memᴰ.cases_cons h))

  -- any other leaves it
  pub best_keep : (l : List Mono) (x m : Mono) → BestOf earlier l x → (T (earlier m x) → ⊥) → BestOf earlier (m ∷ l) x
  best_keep l x m b n =
      (there b.0, λ y h t. ⊎_elim (λ e. n (subst (λ (z : Mono). T (earlier z x)) e t)) (λ k. b.1 y k t) (Memᴰ.cases_cons h))

  -- only the members matter
  pub best_members : (l r : List Mono) (m : Mono) → l ⊆ r → r ⊆ l → BestOf earlier l m → BestOf earlier r m
  best_members l r m lr rl b = (lr m b.0, λ y h. b.1 y (rl y h))

  pub best_collects : (p : Option Monomial) → OfMembers (λ l. Best earlier l p)
  best_collects None l r lr rl n = λ y h. n y (rl y h)
  best_collects (Some x) l r lr rl b = best_members l r x.e lr rl b

  -- two that are the best of the same members are equal
  pub best_one : (l r : List Mono) (a b : Mono) → l ⊆ r → r ⊆ l → BestOf earlier l a → BestOf earlier r b → a ≡ b
  best_one l r a b lr rl p q = go (o.total a b)
    where
      go : Compared same earlier a b → a ≡ b
      go (less t) = absurd (q.1 a (lr a p.0) t)
      go (equal t) = o.same_eq a b t
      go (more t) = absurd (p.1 b (rl b q.0) t)

-- ---- the order by score, then monomial
data Cheap (a b : Mono) : Type 0 where
  lower : score a < score b → Cheap a b
  level : score a ≡ score b → T (before a b) → Cheap a b

cheap_out : (a b : Mono) → T (cheaper a b) → Cheap a b
unfolding cheaper
cheap_out a b t = ⊎_elim (λ s. lower (ltb→lt (score a) (score b) s)) tie (or_e (ltb (score a) (score b)) (eqb (score a) (score b) && before a b) t)
  where
    tie : T (eqb (score a) (score b) && before a b) → Cheap a b
    tie s = level (eqb→eq (score a) (score b) (and_l (eqb (score a) (score b)) (before a b) s)) (and_r (eqb (score a) (score b)) (before a b) s)

cheap_in : (a b : Mono) → Cheap a b → T (cheaper a b)
unfolding cheaper
cheap_in a b (lower h) = or_l (ltb (score a) (score b)) (eqb (score a) (score b) && before a b) (lt→ltb (score a) (score b) h)
cheap_in a b (level e t) =
    or_r (ltb (score a) (score b)) (eqb (score a) (score b) && before a b)
    (and_i (eqb (score a) (score b)) (before a b) (subst (λ (z : ℕ). T (eqb (score a) z)) e (eqb_refl (score a))) t)

cheap_irrefl : (a : Mono) → Cheap a a → ⊥
cheap_irrefl a (lower h) = omega arith
cheap_irrefl a (level e t) = mono_order.irrefl a t

cheap_trans : (a b c : Mono) → Cheap a b → Cheap b c → Cheap a c
cheap_trans a b c (lower h) (lower k) = lower (omega arith)
cheap_trans a b c (lower h) (level e t) = lower (omega arith)
cheap_trans a b c (level e t) (lower k) = lower (omega arith)
cheap_trans a b c (level d s) (level e t) = level (d ∙ e) (mono_order.trans a b c s t)

cheap_total : (a b : Mono) → Compared eqb ltb (score a) (score b) → Compared same before a b → Compared same cheaper a b
cheap_total a b (less t) q = less (cheap_in a b (lower (ltb→lt (score a) (score b) t)))
cheap_total a b (more t) q = more (cheap_in b a (lower (ltb→lt (score b) (score a) t)))
cheap_total a b (equal t) (less s) = less (cheap_in a b (level (eqb→eq (score a) (score b) t) s))
cheap_total a b (equal t) (equal s) = equal s
cheap_total a b (equal t) (more s) = more (cheap_in b a (level (sym (eqb→eq (score a) (score b) t)) s))

pub cheap_order : Order same cheaper
cheap_order = record {
  same_eq = mono_order.same_eq;
  same_refl = mono_order.same_refl;
  irrefl = λ a t. cheap_irrefl a (cheap_out a a t);
  trans = λ a b c s t. cheap_in a c (cheap_trans a b c (cheap_out a b s) (cheap_out b c t));
  total = λ a b. cheap_total a b (ℕ-order.total (score a) (score b)) (mono_order.total a b);
}

-- which of two is cheaper, by their scores
module _ (a b : Mono) (s t : ℕ) (ea : s ≡ score a) (eb : t ≡ score b) where
  pub cheaper_less : s < t → true ≡ cheaper a b
  unfolding cheaper
  cheaper_less h = rw (← ea, ← eb, lt-ltb s t h)

  pub cheaper_more : t < s → false ≡ cheaper a b
  unfolding cheaper
  cheaper_more h = rw (← ea, ← eb, le-ltb s t (omega arith), ne_eqb s t (λ e. let z : ⊥ = omega arith in z))

  pub cheaper_tie : s ≤ t → t ≤ s → (x : Bool) → x ≡ before a b → x ≡ cheaper a b
  unfolding cheaper
  cheaper_tie h k x e = rw (← ea, ← eb, le-ltb s t k, eq-eqb s t (omega arith)) e

-- ---- the chosen one is the cheapest
pub chosen_best : (m : Mono) (l : List Mono) → BestOf cheaper (m ∷ l) (chosen m l)
unfolding chosen
chosen_best m [] = best_first cheap_order [] m (λ y h. Memᴰ.not-nil h)
chosen_best m (x ∷ l) = step (chosen_best (cond (cheaper x m) x m) l)
  where
    -- the dearer of the two heads may be left out
    drop_m : T (cheaper x m) → BestOf cheaper (x ∷ l) (chosen x l) → BestOf cheaper (m ∷ x ∷ l) (chosen x l)
    drop_m s b = best_keep cheap_order (x ∷ l) (chosen x l) m b (λ t. b.1 x here (cheap_order.trans x m (chosen x l) s t))

    drop_x : (T (cheaper x m) → ⊥) → BestOf cheaper (m ∷ l) (chosen m l) → BestOf cheaper (m ∷ x ∷ l) (chosen m l)
    drop_x n b =
        best_members cheap_order (x ∷ m ∷ l) (m ∷ x ∷ l) (chosen m l) swap swap
        (best_keep cheap_order (m ∷ l) (chosen m l) x b (λ t. not_x t (cheap_order.total m x)))
      where
        not_x : T (cheaper x (chosen m l)) → Compared same cheaper m x → ⊥
        not_x t (less s) = b.1 m here (cheap_order.trans m x (chosen m l) s t)
        not_x t (equal s) = b.1 m here (subst (λ (z : Mono). T (cheaper z (chosen m l))) (sym (cheap_order.same_eq m x s)) t)
        not_x t (more s) = n s

        swap : {u w : Mono} → (u ∷ w ∷ l) ⊆ (w ∷ u ∷ l)
        swap y h = ⊎_elim (λ e. there (Memᴰ.head e)) (λ k. ⊎_elim (λ e. Memᴰ.head e) (λ j. there (there j)) (Memᴰ.cases_cons k)) (Memᴰ.cases_cons h)

    step : BestOf cheaper (cond (cheaper x m) x m ∷ l) (chosen (cond (cheaper x m) x m) l)
        → BestOf cheaper (m ∷ x ∷ l) (chosen (cond (cheaper x m) x m) l)
    step =
        cond_cases (λ (c : Mono). BestOf cheaper (c ∷ l) (chosen c l) → BestOf cheaper (m ∷ x ∷ l) (chosen c l)) (cheaper x m) x m drop_m drop_x

-- ---- what the loop's last pick is
pub picked : (ns r : List Mono) (p : Option Monomial) → r ⊆ ns → ns ⊆ r → Best cheaper r p → Picked ns p
picked [] r None rn nr n = refl
picked (m ∷ l) r None rn nr n = absurd (n m (nr m here))
picked [] r (Some x) rn nr e = absurd (Memᴰ.not-nil (rn x.e e.0))
picked (m ∷ l) r (Some x) rn nr e = best_one cheap_order r (m ∷ l) x.e (chosen m l) rn nr e (chosen_best m l)

pub heads : (l r : List Mono) (p : Option Monomial) → Ascending before l → r ⊆ l → l ⊆ r → Best before r p → Heads l p
heads [] r None a rl lr n = refl
heads (m ∷ l) r None a rl lr n = absurd (n m (lr m here))
heads [] r (Some x) a rl lr e = absurd (Memᴰ.not-nil (rl x.e e.0))
heads (m ∷ l) r (Some x) a rl lr e = best_one mono_order r (m ∷ l) x.e m rl lr e least
  where
    least : BestOf before (m ∷ l) m
    least =
        (here, λ y h t. ⊎_elim (λ q. mono_order.irrefl m (subst (λ (z : Mono). T (before z m)) q t)) (λ k. mono_order.irrefl m (mono_order.trans m y m (head_first a y k) t)) (Memᴰ.cases_cons h))

-- ---- one more candidate, told by the code's test
-- m takes the place of the best so far where the code says so
abbrev pub Better : (Monomial → Bool → Type 0) → Option Monomial → Monomial → Option Monomial → Type 0
Better says best m r = MatchOption best (r ≡ Some m) (λ old. (said : Bool) × says old said × (r ≡ Some (cond said m old)))

module _ {earlier : Mono → Mono → Bool} (o : Order same earlier) (l : List Mono) (m : Monomial) where
  better_by : (old : Monomial) (said : Bool) → said ≡ earlier m.e old.e → BestOf earlier l old.e → BestOf earlier (m.e ∷ l) (cond said m old).e
  better_by old true e b = best_take o l old.e m.e b (is→T (earlier m.e old.e) (sym e))
  better_by old false e b = best_keep o l old.e m.e b (is→n_t (earlier m.e old.e) (sym e))

  pub better_best : {says : Monomial → Bool → Type 0} → ((old : Monomial) (said : Bool) → says old said → said ≡ earlier m.e old.e)
      → (best r : Option Monomial) → Better says best m r → Best earlier l best → Best earlier (m.e ∷ l) r
  better_best true_said None r e b = rw e (best_first o l m.e b)
  better_best true_said (Some old) r h b = rw h.2 (better_by old h.0 (true_said old h.0 h.1) b)
