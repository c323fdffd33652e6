-- What the laws of the walk ask of its rules, and what the rules say of a child and of a set; document 01's rules keep all of it, whatever a
-- new monomial may be. Assumes nothing.
use mathlib.Core.Path.{◌≡◌, sym, subst}
use mathlib.Core.Logic.{◌⊎◌, inl, inr, ⊎_elim}
use mathlib.Core.Bool.{Bool, true, false, ◌&&◌, ◌||◌}
use mathlib.Core.List.Memᴰ
use mathlib.Core.List.{List, []}
use Prim.Native.Nat.{ℕ, ◌-◌, ◌<◌, ◌≤◌}
use borrow.Author.Tests.{lt-leb, leb-true, leb-false}
use lib.Dec.{T, leb, leb→le, le→leb}
use lib.ListN.{length}
use Rattle.monomial.specs.Lists.{any}
use Rattle.monomial.specs.Monomial.{Mono, width}
use Rattle.monomial.specs.Order.{same}
use Rattle.monomial.specs.Divisors.{pairs}
use Rattle.monomial.specs.Claims.{◌∈◌, ◌⊆◌}
use Rattle.monomial.proofs.Tests.{Tested, passed, failed, test, T→is, is→T, is→n_t, and_l, and_r, and_i, or_l, or_r, or_e}
use Rattle.monomial.proofs.Rearranged.{rearranged_self, rearranged_in, rearranged_out}
use Rattle.monomial.proofs.order.Laws.{mono_order}
use Rattle.monomial.proofs.order.Ascending.{among_in, among_out}
use Rattle.wiring.specs.Signals.{signals}
use Rattle.wiring.proofs.signals.Laws.{set-in}
use Rattle.lister.proofs.Order.{cheap_first_rearranged}
use Rattle.walk.specs.Walk.{Rules, allowing, bare, cheaply, counted, child, opens, ends}
use Rattle.walk.specs.Claims.{Orderly, Extends, Counts}
use Rattle.walk.proofs.children.Laws.{child_sub, Grown, old, left, right, child_out, Placed, was, now, child_left, child_right}

-- ---- the pairs that are tried are those of the nonsquare, in some order
module _ (r : Rules) (o : Orderly r) (v : List Mono) (m : Mono) (p : Mono × Mono) where
  pub tries_in : p ∈ pairs m → p ∈ r.tries v m
  tries_in h = rearranged_in (pairs m) (r.tries v m) (o v m) p h

  pub tries_out : p ∈ r.tries v m → p ∈ pairs m
  tries_out h = rearranged_out (pairs m) (r.tries v m) (o v m) p h

-- ---- what may be added: t holds s, and each of its further monomials may be
module _ (r : Rules) where
  pub extends_self : (s : List Mono) → Extends r s s
  extends_self s = record { holds = λ x h. h; may = λ x h. inl h }

  pub extends_on : (s t u : List Mono) → Extends r s t → Extends r t u → Extends r s u
  extends_on s t u a b = record {
    holds = λ x h. b.holds x (a.holds x h);
    may = λ x h. ⊎_elim (λ k. a.may x k) (λ k. inr k) (b.may x h);
  }

  -- a set between the two
  module _ (s c t : List Mono) (e : Extends r s t) (up : s ⊆ c) (sub : c ⊆ t) where
    pub extends_lower : Extends r s c
    extends_lower = record { holds = up; may = λ x h. e.may x (sub x h) }

    pub extends_upper : Extends r c t
    extends_upper = record { holds = sub; may = λ x h. ⊎_elim (λ k. inl (up x k)) (λ k. inr k) (e.may x h) }

-- what is closed, and the order of the pairs, are no part of it
pub extends_by : (r r' : Rules) → ((m : Mono) → T (r.may m) → T (r'.may m)) → (s t : List Mono) → Extends r s t → Extends r' s t
extends_by r r' f s t e = record { holds = e.holds; may = λ m h. ⊎_elim (λ k. inl k) (λ k. inr (f m k)) (e.may m h) }

-- a child is opened exactly where what it adds may be, and it has at most k monomials
module _ (r : Rules) (n k : ℕ) (s : List Mono) (p : Mono × Mono) where
  abbrev fine : Mono → Bool
  fine m = r.may m || any (same m) (signals width n s)

  pub opens_fits : T (opens r n k s p) → length (child n s p) ≤ k
  unfolding opens
  opens_fits t = leb→le (length (child n s p)) k (search (and_l, and_r, t))

  fine_new : (m x : Mono) → x ≡ m → (x ∈ signals width n s → ⊥) → T (fine m) → T (r.may x)
  fine_new m x e f t =
      ⊎_elim (λ y. subst (λ (z : Mono). T (r.may z)) (sym e) y) (λ y. absurd (f (Memᴰ.cast e (among_out mono_order m (signals width n s) y))))
      (or_e (r.may m) (any (same m) (signals width n s)) t)

  pub opens_extends : T (opens r n k s p) → Extends r s (child n s p)
  unfolding opens
  opens_extends t = record { holds = child_sub n s p; may = λ x h. go x (child_out n s p h) }
    where
      go : (x : Mono) → Grown n s p x → (x ∈ s) ⊎ T (r.may x)
      go x (old h) = inl h
      go x (left e f) = inr (fine_new p.0 x e f (search (and_l, and_r, t)))
      go x (right e f) = inr (fine_new p.1 x e f (search (and_l, and_r, t)))

  fine_of : (m : Mono) → Extends r s (child n s p) → Placed (signals width n s) m (child n s p) → T (fine m)
  fine_of m e (was h) = or_r (r.may m) (any (same m) (signals width n s)) (among_in mono_order h)
  fine_of m e (now f h) = or_l (r.may m) (any (same m) (signals width n s)) (⊎_elim (λ i. absurd (f (set-in n s i))) (λ y. y) (e.may m h))

  pub opens_is : Extends r s (child n s p) → length (child n s p) ≤ k → opens r n k s p ≡ true
  unfolding opens
  opens_is e h =
      let a : T (fine p.0) = fine_of p.0 e (child_left n s p) in
      let b : T (fine p.1) = fine_of p.1 e (child_right n s p) in
      let c : T (leb (length (child n s p)) k) = le→leb (length (child n s p)) k h in
      T→is (opens r n k s p) (and_i (fine p.0 && fine p.1) (leb (length (child n s p)) k) (and_i (fine p.0) (fine p.1) a b) c)

-- a set that is not closed, and has fewer than k monomials, goes on
module _ (r : Rules) (n k : ℕ) (s ns : List Mono) where
  pub goes_on : length s < k → r.closed (k - length s) (signals width n s) ns ≡ false → ends r n k s ns ≡ false
  unfolding ends
  goes_on h e = rw (e, lt-leb k (length s) h)

  pub closed_ends : r.closed (k - length s) (signals width n s) ns ≡ true → ends r n k s ns ≡ true
  unfolding ends
  closed_ends e = rw e

  pub at_its_level : k ≤ length s → ends r n k s ns ≡ true
  unfolding ends
  at_its_level h = T→is (ends r n k s ns) (or_r (r.closed (k - length s) (signals width n s) ns) (leb k (length s)) (le→leb k (length s) h))

  pub below_its_level : ends r n k s ns ≡ false → length s < k
  below_its_level e = go (test (leb k (length s)))
    where
      go : Tested (leb k (length s)) → length s < k
      go (passed t) = absurd (is→n_t (ends r n k s ns) e (is→T (ends r n k s ns) (at_its_level (leb-true k (length s) t))))
      go (failed t) = leb-false k (length s) t

-- ---- cheap pairs first: an order as any other
pub cheaply_orderly : (r : Rules) → Orderly (cheaply r)
cheaply_orderly r = cheap_first_rearranged

-- ---- document 01's rules with a test of its own for new monomials
module _ (may : Mono → Bool) where
  pub allowing_orderly : Orderly (allowing may)
  allowing_orderly v m = rearranged_self (pairs m)

  -- the lists that count are those whose monomials may be
  pub allowing_counts : (s : List Mono) → ((m : Mono) → m ∈ s → T (may m)) → Counts (allowing may) s
  allowing_counts s f = record { holds = λ x h. absurd (Memᴰ.not-nil h); may = λ x h. inr (f x h) }

  pub counts_allowed : (s : List Mono) → Counts (allowing may) s → (m : Mono) → m ∈ s → T (may m)
  counts_allowed s c m h = ⊎_elim (λ k. absurd (Memᴰ.not-nil k)) (λ t. t) (c.may m h)

-- by document 01's own every list counts
pub bare_extends : (s : List Mono) → Counts bare s
bare_extends s = allowing_counts (λ m. true) s (λ m h. tt)

-- the order of the pairs and closing by counting are no part of what counts
module _ (may : Mono → Bool) (s : List Mono) where
  pub counted_counts : ((m : Mono) → m ∈ s → T (may m)) → Counts (counted (cheaply (allowing may))) s
  counted_counts f = extends_by (allowing may) (counted (cheaply (allowing may))) (λ m t. t) [] s (allowing_counts may s f)

  pub counts_counted : Counts (counted (cheaply (allowing may))) s → (m : Mono) → m ∈ s → T (may m)
  counts_counted c = counts_allowed may s (extends_by (counted (cheaply (allowing may))) (allowing may) (λ m t. t) [] s c)
