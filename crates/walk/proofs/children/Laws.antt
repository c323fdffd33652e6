-- The child of a set by a factor pair of one of its nonsquares: it holds the set, it is longer, and with no more monomials than there are cards it is again a set
-- of the walk, so that exponents of sets and nonsquares stay bounded. Assumes nothing.
use mathlib.Core.Path.{◌≡◌, sym, ap, ◌∙◌, subst}
use mathlib.Core.Logic.{◌⊎◌, inl, inr, ⊎_elim}
use mathlib.Core.List.Memᴰ
use mathlib.Core.List.{List, [], ◌∷◌}
use Prim.Native.Nat.{ℕ, suc, ◌+◌, ◌*◌, ◌-◌, ◌<◌, ◌≤◌}
use native.Mathlib.Nat.{mul-le-mul_left}
use native.Mathlib.Omega.{arith}
use lib.Dec.{T}
use lib.ListN.{length, set, length-set}
use Rattle.monomial.specs.Lists.{any, insert_by}
use Rattle.monomial.specs.Monomial.{Mono, one, constants, width}
use Rattle.monomial.specs.Order.{same, before}
use Rattle.monomial.specs.Product.{mul, AtMost}
use Rattle.monomial.specs.Divisors.{pairs}
use Rattle.monomial.specs.Quotient.{divides}
use Rattle.monomial.specs.Claims.{◌∈◌, ◌⊆◌, Ascending, empty, IsPair}
use Rattle.monomial.proofs.Tests.{cond_cases}
use Rattle.monomial.proofs.Members.{take_in}
use Rattle.monomial.proofs.Loops.{pointwise_length}
use Rattle.monomial.proofs.order.Laws.{mono_order}
use Rattle.monomial.proofs.order.Ascending.{insert_out, insert_new, insert_old, insert_asc, insert_length, sub_length, among_in, among_out}
use Rattle.monomial.proofs.product.Laws.{mul_comm, at_most_weaken, at_most_mul, quo_small}
use Rattle.monomial.proofs.quotient.Laws.{factor_divides, at_most_divides}
use Rattle.monomial.proofs.divisors.Pairs.{pairs_out}
use Rattle.monomial.proofs.Variables.{constants_quo}
use Rattle.wiring.specs.Panel.{cards, set_exponent, derived_exponent, term_exponent}
use Rattle.wiring.specs.Poly.{Poly, plain}
use Rattle.wiring.specs.Derivative.{derivative, power}
use Rattle.wiring.specs.Signals.{signals}
use Rattle.wiring.specs.Choice.{chosen}
use Rattle.wiring.specs.Terms.{Record, records, system, CleanTerms}
use Rattle.wiring.specs.Answers.{missing}
use Rattle.wiring.specs.Claims.{base}
use Rattle.wiring.proofs.Poly.{support_out}
use Rattle.wiring.proofs.quadratic.Laws.{Factors, in_v2_in, unmet_out, Nonsquare, nonsquares_out}
use Rattle.wiring.proofs.signals.Laws.{base_in, set-in, signals_cases, signals_wide}
use Rattle.wiring.proofs.terms.Laws.{Rightful, clean_in}
use Rattle.wiring.proofs.derivative.Records.{Derived, derived}
use Rattle.wiring.proofs.choice.Laws.{chosen_best}
use Rattle.lister.specs.Cheap.{added}
use Rattle.walk.specs.Walk.{child}
use Rattle.walk.specs.Turns.{Walked}

-- ---- the one to split is one of them
pub chosen_in : (m : Mono) (l : List Mono) → chosen m l ∈ (m ∷ l)
chosen_in m l = (chosen_best m l).0

-- ---- V of a set: 1 and the variables, which are in V of every set, and its own monomials
module _ (n : ℕ) where
  pub signals_grow : (s t : List Mono) → s ⊆ t → signals width n s ⊆ signals width n t
  signals_grow s t sub x h = ⊎_elim (λ b. base_in n t b) (λ m. set-in n t (sub x m)) (signals_cases n s h)

-- ---- one monomial added
module _ (v : List Mono) (m : Mono) where
  pub added_sub : (s : List Mono) → s ⊆ added v m s
  unfolding added
  added_sub s x h = cond_cases (λ r. x ∈ r) (any (same m) v) s (insert_by same before m s) (λ t. h) (λ f. insert_old mono_order m s h)

  pub added_out : (s : List Mono) {x : Mono} → x ∈ added v m s → ((x ≡ m) × (m ∈ v → ⊥)) ⊎ (x ∈ s)
  unfolding added
  added_out s {x} =
      cond_cases (λ r. x ∈ r → ((x ≡ m) × (m ∈ v → ⊥)) ⊎ (x ∈ s)) (any (same m) v) s (insert_by same before m s)
      (λ t h. inr h)
      (λ f h. ⊎_elim (λ e. inl (e, λ k. f (among_in mono_order k))) (λ k. inr k) (insert_out mono_order m s h))

  pub added_asc : (s : List Mono) → Ascending before s → Ascending before (added v m s)
  unfolding added
  added_asc s a = cond_cases (Ascending before) (any (same m) v) s (insert_by same before m s) (λ t. a) (λ f. insert_asc mono_order m s a)

  -- m was in v, or it is new and in the set
  pub data Placed (r : List Mono) : Type 0 where
    was : m ∈ v → Placed r
    now : (m ∈ v → ⊥) → m ∈ r → Placed r

  added_new : (s : List Mono) → Placed (added v m s)
  unfolding added
  added_new s =
      cond_cases Placed (any (same m) v) s (insert_by same before m s)
      (λ t. was (among_out mono_order m v t))
      (λ f. now (λ k. f (among_in mono_order k)) (insert_new mono_order m s))

-- ---- the child by a pair
module _ (n : ℕ) (s : List Mono) (p : Mono × Mono) where
  abbrev half : List Mono
  half = added (signals width n s) p.1 s

  pub child_sub : s ⊆ child n s p
  unfolding child
  child_sub x h = added_sub (signals width n s) p.0 half x (added_sub (signals width n s) p.1 s x h)

  -- what is new in the child: one of the pair, and not in V before
  pub data Grown (x : Mono) : Type 0 where
    old : x ∈ s → Grown x
    left : x ≡ p.0 → (x ∈ signals width n s → ⊥) → Grown x
    right : x ≡ p.1 → (x ∈ signals width n s → ⊥) → Grown x

  pub child_out : {x : Mono} → x ∈ child n s p → Grown x
  unfolding child
  child_out {x} h =
      ⊎_elim (λ q. left q.0 (λ k. q.1 (Memᴰ.cast (sym q.0) k)))
      (λ k. ⊎_elim (λ q. right q.0 (λ j. q.1 (Memᴰ.cast (sym q.0) j))) (λ j. old j) (added_out (signals width n s) p.1 s k))
      (added_out (signals width n s) p.0 half h)

  -- what is added is not in V, so neither 1 nor a variable
  pub child_new : ((x : Mono) → x ∈ s → x ∈ base n → ⊥) → (x : Mono) → x ∈ child n s p → x ∈ base n → ⊥
  child_new f x h b = go (child_out h)
    where
      go : Grown x → ⊥
      go (old i) = f x i b
      go (left e o) = o (base_in n s b)
      go (right e o) = o (base_in n s b)

  pub child_asc : Ascending before s → Ascending before (child n s p)
  unfolding child
  child_asc a = added_asc (signals width n s) p.0 half (added_asc (signals width n s) p.1 s a)

  pub child_left : Placed (signals width n s) p.0 (child n s p)
  unfolding child
  child_left = added_new (signals width n s) p.0 half

  carried : {m : Mono} {r : List Mono} → r ⊆ child n s p → Placed (signals width n s) m r → Placed (signals width n s) m (child n s p)
  carried sub (was h) = was h
  carried {m} sub (now f h) = now f (sub m h)

  pub child_right : Placed (signals width n s) p.1 (child n s p)
  unfolding child
  child_right = carried (added_sub (signals width n s) p.0 half) (added_new (signals width n s) p.1 s)

  longer_by : Ascending before s → (x : Mono) → (x ∈ signals width n s → ⊥) → x ∈ child n s p → length s < length (child n s p)
  longer_by a x f h =
      let more = insert_by same before x s in
      let sub : more ⊆ child n s p = λ y k. ⊎_elim (λ d. Memᴰ.cast d h) (λ j. child_sub y j) (insert_out mono_order x s k) in
      let e : length more ≡ suc (length s) = insert_length mono_order x s (λ k. f (set-in n s k)) in
      let i : length more ≤ length (child n s p) = sub_length mono_order more (child n s p) (insert_asc mono_order x s a) (child_asc a) sub in
      omega arith

  -- a child is longer, unless both of the pair were in V before
  pub child_longer : Ascending before s → ((p.0 ∈ signals width n s) × (p.1 ∈ signals width n s) → ⊥) → length s < length (child n s p)
  child_longer a out = go child_left child_right
    where
      go : Placed (signals width n s) p.0 (child n s p) → Placed (signals width n s) p.1 (child n s p) → length s < length (child n s p)
      go (was h) (was k) = absurd (out (h, k))
      go (was h) (now f k) = longer_by a p.1 f k
      go (now f h) q = longer_by a p.0 f h

-- ---- a pair of a nonsquare
module _ (n : ℕ) (fs : List (Poly Mono)) (s : List Mono) (m : Mono) where
  -- of a pair that multiplies to a nonsquare, not both are in V
  pub not_both : m ∈ missing n fs s → (p : Mono × Mono) → mul p.0 p.1 ≡ m → (p.0 ∈ signals width n s) × (p.1 ∈ signals width n s) → ⊥
  not_both h p e both =
      let v = signals width n s in
      let w : Nonsquare plain mono_order v (derivative plain fs) m = nonsquares_out plain mono_order v (derivative plain fs) m h in
      let f : Factors plain mono_order v m = record { a = p.0; b = p.1; a_in = both.0; b_in = both.1; is = e } in
      (unmet_out plain mono_order v (derivative plain fs w.of) m w.missing).1 (in_v2_in plain mono_order v m f)

  -- so its child is longer
  pub split_longer : Ascending before s → m ∈ missing n fs s → (p : Mono × Mono) → p ∈ pairs m → length s < length (child n s p)
  split_longer a h p k = child_longer n s p a (not_both h p (pairs_out p m k).product)

-- ---- how large exponents grow
module _ (terms : List ℕ) (clean : CleanTerms terms) (n : ℕ) (s : List Mono) where
  abbrev gaps : List Mono
  gaps = missing n (system (records terms)) s

  -- a nonsquare is the image of a member of V by a record
  pub record Imaged (m : Mono) : Type 0 where
    pub of : Mono
    pub of_in : of ∈ signals width n s
    pub from : Derived (records terms) of m
    pub right : Rightful from.by

  pub imaged : (m : Mono) → m ∈ gaps → Imaged m
  imaged m h =
      let v = signals width n s in
      let d = derivative plain (system (records terms)) in
      let w : Nonsquare plain mono_order v d m = nonsquares_out plain mono_order v d m h in
      let seen = (unmet_out plain mono_order v (d w.of) m w.missing).0 in
      let from : Derived (records terms) w.of m = derived (records terms) w.of m (support_out plain mono_order (d w.of) m seen).0 in
      record { of = w.of; of_in = w.of_in; from = from; right = clean_in terms clean from.by from.listed }

  pub nonsquare_wide : ((x : Mono) → x ∈ s → length x ≡ width) → (m : Mono) → m ∈ gaps → length m ≡ width
  nonsquare_wide wide m h =
      let i : Imaged m = imaged m h in
      let r : Record = i.from.by in
      let z : Mono = i.of in
      let lower : Mono = set z (r.equation - 1) (power r z - 1) in
      let long : length lower ≡ width = length-set z (r.equation - 1) (power r z - 1) ∙ signals_wide n s wide z i.of_in in
      ap length (sym i.from.is) ∙ pointwise_length ◌+◌ lower r.monomial (long ∙ sym i.right.long) ∙ long

  -- 9 more than the set's own bound
  pub nonsquare_small : ((x : Mono) → x ∈ s → AtMost (term_exponent * length s) x) → (m : Mono) → m ∈ gaps → AtMost (term_exponent * suc (length s)) m
  nonsquare_small small m h = ⊎_elim constant member (signals_cases n s i.of_in)
    where
      i : Imaged m
      i = imaged m h

      r : Record
      r = i.from.by

      at : ℕ
      at = r.equation - 1

      lower : Mono
      lower = set i.of at (power r i.of - 1)

      grown : (b : ℕ) → AtMost b lower → AtMost (b + term_exponent) m
      grown b a = subst (AtMost (b + term_exponent)) i.from.is (at_most_mul b term_exponent lower r.monomial a i.right.small)

      constant : i.of ∈ base n → AtMost (term_exponent * suc (length s)) m
      constant k = at_most_weaken m (omega arith) (grown 0 (constants_quo width at i.of (take_in (suc n) (constants width) k) i.from.raised))

      member : i.of ∈ s → AtMost (term_exponent * suc (length s)) m
      member k = at_most_weaken m (omega arith) (grown (term_exponent * length s) (quo_small (term_exponent * length s) at i.of (small i.of k)))

  module _ (w : Walked s) where
    -- since a set has no more monomials than there are cards
    pub nonsquare_fits : (m : Mono) → m ∈ gaps → (length m ≡ width) × AtMost derived_exponent m
    nonsquare_fits m h =
        let few : length s ≤ cards = w.recorded.few in
        (nonsquare_wide w.recorded.wide m h, at_most_weaken m (omega arith) (nonsquare_small w.small m h))

    module _ (m : Mono) (h : m ∈ gaps) (p : Mono × Mono) (k : p ∈ pairs m) where
      two : IsPair p m
      two = pairs_out p m k

      wide_m : length m ≡ width
      wide_m = nonsquare_wide w.recorded.wide m h

      more : term_exponent * suc (length s) ≤ term_exponent * length (child n s p)
      more = mul-le-mul_left term_exponent (split_longer n (system (records terms)) s m w.recorded.ascending h p k)

      small_m : AtMost (term_exponent * length (child n s p)) m
      small_m = at_most_weaken m more (nonsquare_small w.small m h)

      factor_small : (a b : Mono) → length a ≡ length b → mul a b ≡ m → AtMost (term_exponent * length (child n s p)) a
      factor_small a b l e = at_most_divides (term_exponent * length (child n s p)) a m (subst (λ (x : Mono). T (divides a x)) e (factor_divides a b l)) small_m

      wide_of : (x : Mono) → Grown n s p x → length x ≡ width
      wide_of x (old i) = w.recorded.wide x i
      wide_of x (left e f) = ap length e ∙ two.left ∙ wide_m
      wide_of x (right e f) = ap length e ∙ two.right ∙ wide_m

      proper_of : (x : Mono) → Grown n s p x → x ≡ one width → ⊥
      proper_of x (old i) e = w.recorded.proper x i e
      proper_of x (left d f) e = f (base_in n s (Memᴰ.head e))
      proper_of x (right d f) e = f (base_in n s (Memᴰ.head e))

      small_of : (x : Mono) → Grown n s p x → AtMost (term_exponent * length (child n s p)) x
      small_of x (old i) = at_most_weaken x (omega (arith, more)) (w.small x i)
      small_of x (left e f) =
          subst (AtMost (term_exponent * length (child n s p))) (sym e) (factor_small p.0 p.1 (two.left ∙ sym two.right) two.product)
      small_of x (right e f) =
          subst (AtMost (term_exponent * length (child n s p))) (sym e)
          (factor_small p.1 p.0 (two.right ∙ sym two.left) (mul_comm p.1 p.0 ∙ two.product))

      -- a child with at most six monomials is again a set of the walk
      pub child_walked : length (child n s p) ≤ cards → Walked (child n s p)
      child_walked few = record {
        recorded = record {
          few = few;
          ascending = child_asc n s p w.recorded.ascending;
          wide = λ x i. wide_of x (child_out n s p i);
          proper = λ x i. proper_of x (child_out n s p i);
        };
        small = λ x i. small_of x (child_out n s p i);
      }

-- the empty set is one
pub empty_walked : Walked []
empty_walked = record {
  recorded = record {
    few = omega arith;
    ascending = empty;
    wide = λ x i. absurd (Memᴰ.not-nil i);
    proper = λ x i. absurd (Memᴰ.not-nil i);
  };
  small = λ x i. absurd (Memᴰ.not-nil i);
}

-- exponents of its sets fit set records
pub walked_fits : (s : List Mono) → Walked s → (m : Mono) → m ∈ s → AtMost set_exponent m
walked_fits s w m h = let few : length s ≤ cards = w.recorded.few in at_most_weaken m (omega arith) (w.small m h)
