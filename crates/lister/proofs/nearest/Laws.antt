-- The first factors of cheap pairs are found by V and the root: each of them is the lead of one that is asked, and a loop over these keeps the nearest.
-- Assumes nothing.
use mathlib.Core.Path.{◌≡◌, refl, sym, ap, ap₂, ◌∙◌, subst}
use mathlib.Core.Logic.{⊎_elim}
use mathlib.Core.Bool.{true, false, not, ◌&&◌}
use mathlib.Core.List.Memᴰ
use mathlib.Core.List.{List, [], ◌∷◌}
use Prim.Native.Nat.{ℕ, ◌+◌, ◌<◌, ◌≤◌}
use native.Mathlib.Omega.{arith}
use Rattle.std.specs.Prelude.{Option, None, Some, IfSome, IsSomeAnd}
use borrow.Author.Tests.{leb-true, leb-false}
use lib.Dec.{T, T_not, not_T, leb}
use lib.ListN.{length}
use Rattle.monomial.specs.Lists.{pointwise}
use Rattle.monomial.specs.Monomial.{Mono, one, width}
use Rattle.monomial.specs.Order.{before}
use Rattle.monomial.specs.Product.{mul}
use Rattle.monomial.specs.Quotient.{quo, divides}
use Rattle.monomial.specs.Divisors.{leads}
use Rattle.monomial.specs.Claims.{◌∈◌, split}
use Rattle.monomial.proofs.Tests.{Tested, passed, failed, test, T→is, is→T, is→n_t, and_l, and_r}
use Rattle.monomial.proofs.Members.{here}
use Rattle.monomial.proofs.Counting.{in_at}
use Rattle.monomial.proofs.order.Laws.{mono_order, level}
use Rattle.monomial.proofs.quotient.Laws.{mul_quo, quo_divides, quo_quo, one_divides}
use Rattle.monomial.proofs.divisors.Pairs.{one_leads}
use Rattle.lister.specs.declared.nearest.Near.{Near}
use Rattle.lister.specs.Cheap.{Holds}
use Rattle.lister.specs.Nearest.{root_of, lead_of, asked, CheapFrom, tried, ahead, NotBehind, Nearing, Nearest}
use Rattle.lister.proofs.Order.{cheap_exact}

-- ---- the root of a square
pub half_square : (d : Mono) → root_of (mul d d) ≡ d
unfolding pointwise
half_square [] = refl
half_square (x ∷ d) = ap₂ ◌∷◌ (omega arith) (half_square d)

-- ---- the lead of a monomial is the first of a pair
module _ (m w : Mono) where
  pub lead_divides : T (divides (lead_of m w) m)
  unfolding lead_of
  lead_divides = go (test (divides w m)) (test (leads m w))
    where
      go : Tested (divides w m) → Tested (leads m w) → T (divides (lead_of m w) m)
      go (passed e) (passed l) = rw (e, l) (is→T (divides w m) e)
      go (passed e) (failed l) = rw (e, l) (quo_divides w m (is→T (divides w m) e))
      go (failed e) l = rw e (one_divides m)

  pub lead_leads : T (leads m (lead_of m w))
  unfolding lead_of
  lead_leads = go (test (divides w m)) (test (leads m w))
    where
      -- the other of the two
      other : T (divides w m) → leads m w ≡ false → T (leads m (quo m w))
      other t l =
          not_T (before (quo m (quo m w)) (quo m w)) (λ u.
          let down : T (before w (quo m w)) = subst (λ (x : Mono). T (before x (quo m w))) (quo_quo w m t) u in
          is→n_t (leads m w) l (not_T (before (quo m w) w) (λ v. mono_order.irrefl w (mono_order.trans w (quo m w) w down v))))

      go : Tested (divides w m) → Tested (leads m w) → T (leads m (lead_of m w))
      go (passed e) (passed l) = rw (e, l) (is→T (leads m w) l)
      go (passed e) (failed l) = rw (e, l) (other (is→T (divides w m) e) l)
      go (failed e) l = rw e (one_leads m)

-- the first of a pair is the lead of both
module _ (m d : Mono) (t : T (divides d m)) (l : T (leads m d)) where
  lead_first : lead_of m d ≡ d
  unfolding lead_of
  lead_first = rw (T→is (divides d m) t, T→is (leads m d) l)

  lead_second : lead_of m (quo m d) ≡ d
  unfolding lead_of
  lead_second = go (test (leads m (quo m d)))
    where
      there : divides (quo m d) m ≡ true
      there = T→is (divides (quo m d) m) (quo_divides d m t)

      -- both lead where they are one
      one_two : leads m (quo m d) ≡ true → quo m d ≡ d
      one_two e =
          let up : T (before d (quo m d)) → ⊥ = λ u. T_not (before (quo m (quo m d)) (quo m d)) (is→T (leads m (quo m d)) e) (subst (λ (x : Mono). T (before x (quo m d))) (sym (quo_quo d m t)) u) in
          mono_order.same_eq (quo m d) d (level mono_order (quo m d) d (T_not (before (quo m d) d) l) up)

      go : Tested (leads m (quo m d)) → lead_of m (quo m d) ≡ d
      go (passed e) = rw (there, e) (one_two e)
      go (failed e) = rw (there, e) (quo_quo d m t)

-- ---- one of each cheap pair is asked
module _ (v : List Mono) (m a d : Mono) (c : CheapFrom v m a d) where
  -- it is asked, and d is its lead
  record Asked : Type 0 where
    who : Mono
    member : who ∈ asked v m
    lead : lead_of m who ≡ d

  cheap_asked : Asked
  cheap_asked =
      ⊎_elim
      (λ h. record { who = d; member = Memᴰ.append_left (root_of m ∷ []) h.0; lead = lead_first m d c.divisor c.leading })
      (λ k. ⊎_elim
      (λ h. record { who = quo m d; member = Memᴰ.append_left (root_of m ∷ []) h.0; lead = lead_second m d c.divisor c.leading })
      (λ h. record { who = root_of m; member = Memᴰ.append_right v here; lead = ap (lead_of m) (root h.0) ∙ lead_first m d c.divisor c.leading })
      k)
      ((cheap_exact v (split m d)).0 c.cheap)
    where
      root : d ≡ quo m d → root_of m ≡ d
      root e = ap root_of (sym (ap (mul d) e ∙ mul_quo d m c.divisor)) ∙ half_square d

-- ---- the loop over those that are asked
module _ (v : List Mono) (m a : Mono) where
  -- one more was tried
  least_next : (near : Option Near) (j : ℕ) → ((i : ℕ) → i < j → NotBehind v m a near (tried v m i))
      → (NotBehind v m a near (tried v m j))
      → (i : ℕ) → i < j + 1 → NotBehind v m a near (tried v m i)
  least_next near j f g i h = go (test (leb (i + 1) j))
    where
      go : Tested (leb (i + 1) j) → NotBehind v m a near (tried v m i)
      go (passed e) = f i (omega (arith, leb-true (i + 1) j e))
      go (failed e) = let is : i ≡ j = omega (arith, leb-false (i + 1) j e) in subst (λ (k : ℕ). NotBehind v m a near (tried v m k)) (sym is) g

  module _ {near : Option Near} {j : ℕ} (w : Nearing v m a near j) where
    -- it is no cheap pair, or none from a on, or not before the nearest
    pub nearing_by : (NotBehind v m a near (tried v m j)) → Nearing v m a near (j + 1)
    nearing_by g = record { own = w.own; least = least_next near j w.least g }

    -- it is the nearest now
    pub nearing_take : (now : Near) → now.a.e ≡ tried v m j → CheapFrom v m a (tried v m j) → Holds v (split m (tried v m j)) now.held
        → IfSome near (λ n. T (before (tried v m j) n.a.e)) → Nearing v m a (Some now) (j + 1)
    nearing_take now is c q nearer = record {
      own = rw is (c, q);
      least = least_next (Some now) j (λ i h x t. old i h x (subst (λ (y : Mono). T (before (tried v m i) y)) is t))
          (λ x t. mono_order.irrefl (tried v m j) (subst (λ (y : Mono). T (before (tried v m j) y)) is t));
    }
      where
        old : (i : ℕ) → i < j → CheapFrom v m a (tried v m i) → T (before (tried v m i) (tried v m j)) → ⊥
        old i h x t = behind near (w.least i h x) nearer
          where
            behind : (o : Option Near) → IsSomeAnd o (λ n. T (before (tried v m i) n.a.e) → ⊥) → IfSome o (λ n. T (before (tried v m j) n.a.e)) → ⊥
            behind None k b = k
            behind (Some n) k b = k (mono_order.trans (tried v m i) (tried v m j) n.a.e t b)

    pub nearing_end : length (asked v m) ≤ j → Nearest v m a near
    nearing_end h = record { own = w.own; least = λ d c. found d c (cheap_asked v m a d c) }
      where
        found : (d : Mono) (c : CheapFrom v m a d) → Asked v m a d c → IsSomeAnd near (λ n. T (before d n.a.e) → ⊥)
        found d c k =
            let at = in_at (asked v m) k.who (one width) k.member in
            let is : tried v m at.0 ≡ d = ap (lead_of m) at.2 ∙ k.lead in
            subst (λ (x : Mono). IsSomeAnd near (λ n. T (before x n.a.e) → ⊥)) is (w.least at.0 (omega (arith, at.1)) (subst (CheapFrom v m a) (sym is) c))

-- ---- what the test of the code says
module _ (c a : Mono) where
  pub nearer_out : (near : Option Near) → (not (before c a) && ahead c near) ≡ true → (T (before c a) → ⊥) × IfSome near (λ n. T (before c n.a.e))
  nearer_out near e =
      let t = is→T (not (before c a) && ahead c near) e in
      (T_not (before c a) (and_l (not (before c a)) (ahead c near) t), go near (and_r (not (before c a)) (ahead c near) t))
    where
      go : (o : Option Near) → T (ahead c o) → IfSome o (λ n. T (before c n.a.e))
      go None t = tt
      go (Some n) t = t
