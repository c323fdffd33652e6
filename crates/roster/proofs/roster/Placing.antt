-- A monomial enters an ascending list: the loop goes along it with one monomial in hand. Assumes nothing.
use mathlib.Core.Path.{◌≡◌, refl, sym, ap}
use mathlib.Core.Bool.{true, false}
use mathlib.Core.List.Memᴰ
use mathlib.Core.List.{List, [], ◌∷◌}
use Prim.Native.Nat.{ℕ, ◌+◌, ◌<◌, ◌≤◌}
use native.Mathlib.Omega.{arith}
use native.Mathlib.Numerals.{add-one}
use lib.ListN.{length, get_or, drop, set, drop_of_length-le}
use lib.Seq.{drop-cons}
use Rattle.monomial.specs.Lists.{insert_by}
use Rattle.monomial.specs.Monomial.{Mono}
use Rattle.monomial.specs.Order.{same, before}
use Rattle.monomial.specs.Claims.{◌∈◌, Ascending}
use Rattle.monomial.specs.declared.Monomial.{Monomial}
use Rattle.monomial.proofs.Tests.{n_t→is, is→T}
use Rattle.monomial.proofs.Members.{there}
use Rattle.monomial.proofs.order.Laws.{mono_order, not_same}
use Rattle.monomial.proofs.order.Ascending.{head_first, tail_asc, insert_length}
use Rattle.monomial.proofs.order.Inserting.{insert_between}
use Rattle.wiring.specs.Panel.{cards}
use Rattle.wiring.specs.Signals.{front}
use Rattle.wiring.proofs.signals.Arrays.{Writing, writing_start, writing_put, writing_end}

-- ---- the first of what is left
-- it stands before h, and goes first
passed_by : (h y : Mono) (r : List Mono) → (h ∈ (y ∷ r) → ⊥) → before h y ≡ false → insert_by same before h (y ∷ r) ≡ y ∷ insert_by same before h r
unfolding insert_by
passed_by h y r new e = rw (n_t→is (same h y) (λ t. new (Memᴰ.head (mono_order.same_eq h y t))), e)

-- h stands before it and goes first, and it enters what is behind it
laid_down : (h y : Mono) (r : List Mono) → before h y ≡ true → Ascending before (y ∷ r) → insert_by same before h (y ∷ r) ≡ h ∷ insert_by same before y r
unfolding insert_by
laid_down h y r e a =
    let apart = n_t→is (same h y) (not_same mono_order h y (is→T (before h y) e)) in
    let first : insert_by same before y r ≡ y ∷ r = insert_between mono_order y [] r (λ x k. absurd (Memᴰ.not-nil k)) (head_first a) in
    rw (apart, e) (ap (◌∷◌ h) (sym first))

-- ---- a loop that writes l with a new monomial in it, and has come to place i with a monomial in hand: what is written, and then what is left of l
-- with that one in it, are the whole
pub record Handing (l t : List Mono) (next : List Monomial) (hand : Monomial) (i : ℕ) : Type 0 where
  pub ascends : Ascending before (drop i l)
  pub new : hand.e ∈ drop i l → ⊥
  pub written : Writing cards t next i (insert_by same before hand.e (drop i l))

pub handing_start : (l : List Mono) (m : Monomial) (next : List Monomial) → length next ≡ cards → length l < cards → Ascending before l → (m.e ∈ l → ⊥)
    → Handing l (insert_by same before m.e l) next m 0
handing_start l m next long room a new = record {
  ascends = a;
  new = new;
  written = writing_start cards (insert_by same before m.e l) next long (omega (arith, insert_length mono_order m.e l new));
}

module _ {l t : List Mono} {next : List Monomial} {hand : Monomial} {i : ℕ} (c : Handing l t next hand i) where
  module _ (x : Monomial) (h : i < length l) (is : x.e ≡ get_or l i []) where
    rest : drop i l ≡ x.e ∷ drop (i + 1) l
    rest = rw (add-one i, is) (drop-cons l i [] h)

    pub handing_by : before hand.e x.e ≡ false → Handing l t (set next i x) hand (i + 1)
    handing_by e =
        let new : hand.e ∈ (x.e ∷ drop (i + 1) l) → ⊥ = rw rest at c.new in
        record {
          ascends = tail_asc (rw rest at c.ascends);
          new = λ k. new (there k);
          written = writing_put x (rw (rest, passed_by hand.e x.e (drop (i + 1) l) new e) at c.written) refl;
        }

    pub handing_down : before hand.e x.e ≡ true → Handing l t (set next i hand) x (i + 1)
    handing_down e =
        let up : Ascending before (x.e ∷ drop (i + 1) l) = rw rest at c.ascends in
        record {
          ascends = tail_asc up;
          new = λ k. mono_order.irrefl x.e (head_first up x.e k);
          written = writing_put hand (rw (rest, laid_down hand.e x.e (drop (i + 1) l) e up) at c.written) refl;
        }

  pub handing_end : length l ≤ i → front (i + 1) (set next i hand) ≡ t
  unfolding insert_by
  handing_end h = writing_end (writing_put hand (rw (drop_of_length-le l h) at c.written) refl)
