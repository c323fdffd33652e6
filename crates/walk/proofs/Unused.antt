-- Unused variables change neither sets nor steps, by rules that heed none of them: records that are clean for n variables plan alike for any
-- larger number. The further variables have no derivative, and no monomial that the walk meets holds them. Assumes nothing.
use Rattle.std.specs.Prelude.{Ok}
use mathlib.Core.Path.{◌≡◌, refl, sym, ap, ◌∙◌}
use mathlib.Core.Logic.{⊎_elim}
use mathlib.Core.Bool.{Bool}
use mathlib.Core.List.{List, []}
use Prim.Native.Nat.{ℕ, suc, ◌-◌, ◌/◌, ◌≤◌}
use native.Mathlib.Omega.{arith}
use lib.Dec.{T}
use lib.ListN.{length}
use Rattle.monomial.specs.Lists.{any}
use Rattle.monomial.specs.Monomial.{Mono, constants, width}
use Rattle.monomial.specs.Order.{same}
use Rattle.monomial.specs.Product.{mul}
use Rattle.monomial.specs.Divisors.{pairs}
use Rattle.monomial.specs.Claims.{◌∈◌, ◌⊆◌, IsPair, Within}
use Rattle.monomial.proofs.Members.{take_in}
use Rattle.monomial.proofs.order.Laws.{mono_order}
use Rattle.monomial.proofs.order.Ascending.{sub_length, sub_equal}
use Rattle.monomial.proofs.product.Laws.{mul_comm}
use Rattle.monomial.proofs.divisors.Pairs.{pairs_out}
use Rattle.monomial.proofs.Within.{constant_within}
use Rattle.wiring.specs.Panel.{set_bytes}
use Rattle.wiring.specs.Poly.{Poly, plain, support}
use Rattle.wiring.specs.Quadratic.{in_v2}
use Rattle.wiring.specs.Derivative.{derivative}
use Rattle.wiring.specs.Signals.{signals}
use Rattle.wiring.specs.Sockets.{panel_of, full_panel, may_be}
use Rattle.wiring.specs.declared.panel.Panel.{Panel}
use Rattle.wiring.specs.Terms.{records, fault, system, CleanFor, CleanTerms}
use Rattle.wiring.specs.Answers.{missing}
use Rattle.wiring.specs.Claims.{Ranged, base, Wide}
use Rattle.wiring.proofs.quadratic.Laws.{Factors, in_v2_in, in_v2_out, unmet_in, unmet_out, Nonsquare, nonsquares_in, nonsquares_out, nonsquares_asc}
use Rattle.wiring.proofs.Poly.{support_out}
use Rattle.wiring.proofs.derivative.Records.{Derived, derived}
use Rattle.wiring.proofs.sockets.Laws.{may_same}
use Rattle.wiring.proofs.answers.Exact.{panel-in}
use Rattle.wiring.proofs.terms.Laws.{Fields, fields_out, clean_right, clean_widens, clean_for}
use Rattle.wiring.proofs.signals.Laws.{signals_cases, signals_wide}
use Rattle.lister.specs.Cheap.{added}
use Rattle.walk.specs.Walk.{Rules, allowing, cheaply, counted, rules_of, child, opens, ends, level}
use Rattle.walk.specs.Plan.{plan, settings_right, planned}
use Rattle.walk.specs.Claims.{Orderly, Proper, Heedless, Agree}
use Rattle.walk.proofs.children.Laws.{Grown, old, left, right, child_out, nonsquare_wide}
use Rattle.walk.proofs.Rules.{cheaply_orderly}
use Rattle.walk.proofs.Agree.{level_agree, plan_agree}
use Rattle.walk.proofs.Sound.{gap_within, keeps_proper}
use Rattle.walk.proofs.Heedless.{allowing_heedless, counted_heedless, cheaply_heedless, signals_more, signals_fewer, signal_same, factor_within, factors_within}

module _ (n b : ℕ) (terms : List ℕ) (more : n ≤ b) (few : b ≤ width) (clean : CleanFor n terms) where
  abbrev fs : List (Poly Mono)
  fs = system (records terms)

  six : CleanTerms terms
  six = clean_for (full_panel n) width terms (omega arith) clean

  module _ (s : List Mono) (q : Proper n s) (wide : Wide s) where
    factors_grow : (m : Mono) → Factors plain mono_order (signals width n s) m → Factors plain mono_order (signals width b s) m
    factors_grow m f = record { a = f.a; b = f.b; a_in = signals_more n b more s f.a f.a_in; b_in = signals_more n b more s f.b f.b_in; is = f.is }

    factors_shrink : (m : Mono) → Within n m → Factors plain mono_order (signals width b s) m → Factors plain mono_order (signals width n s) m
    factors_shrink m w f =
        let long : length f.a ≡ length f.b = signals_wide b s wide f.a f.a_in ∙ sym (signals_wide b s wide f.b f.b_in) in
        let first : Within n f.a = factor_within n m f.a f.b w long f.is in
        let second : Within n f.b = factor_within n m f.b f.a w (sym long) (mul_comm f.b f.a ∙ f.is) in
        record { a = f.a; b = f.b; a_in = signals_fewer n b more s f.a f.a_in first; b_in = signals_fewer n b more s f.b f.b_in second; is = f.is }

    -- a member of V whose derivative has a monomial holds a variable with a record
    derived_member : (z m : Mono) → z ∈ signals width b s → m ∈ support plain (derivative plain fs z) → z ∈ signals width n s
    derived_member z m h k = signals_fewer n b more s z h (⊎_elim constant (q.within z) (signals_cases b s h))
      where
        from : Derived (records terms) z m
        from = derived (records terms) z m (support_out plain mono_order (derivative plain fs z) m k).0

        own : Fields (full_panel n) from.by
        own = fields_out (full_panel n) from.by (clean_right (full_panel n) [] (records terms) clean from.by from.listed)

        constant : z ∈ base b → Within n z
        constant j =
            let low : 1 ≤ from.by.equation = own.low in
            let high : from.by.equation ≤ n = own.high in
            constant_within n width (from.by.equation - 1) z (take_in (suc b) (constants width) j) (omega arith) from.raised

    gaps_grow : missing n fs s ⊆ missing b fs s
    gaps_grow m h =
        let d = derivative plain fs in
        let w : Nonsquare plain mono_order (signals width n s) d m = nonsquares_out plain mono_order (signals width n s) d m h in
        let u = unmet_out plain mono_order (signals width n s) (d w.of) m w.missing in
        let out : T (in_v2 plain (signals width b s) m) → ⊥ = λ t.
        u.1 (in_v2_in plain mono_order (signals width n s) m (factors_shrink m (gap_within n terms clean six s q m h) (in_v2_out plain mono_order (signals width b s) m t))) in
        nonsquares_in plain mono_order (signals width b s) d w.of m (signals_more n b more s w.of w.of_in) (unmet_in plain mono_order (signals width b s) (d w.of) m u.0 out)

    gaps_shrink : missing b fs s ⊆ missing n fs s
    gaps_shrink m h =
        let d = derivative plain fs in
        let w : Nonsquare plain mono_order (signals width b s) d m = nonsquares_out plain mono_order (signals width b s) d m h in
        let u = unmet_out plain mono_order (signals width b s) (d w.of) m w.missing in
        let out : T (in_v2 plain (signals width n s) m) → ⊥ = λ t.
        u.1 (in_v2_in plain mono_order (signals width b s) m (factors_grow m (in_v2_out plain mono_order (signals width n s) m t))) in
        let member : w.of ∈ signals width n s = derived_member w.of m w.of_in u.0 in
        nonsquares_in plain mono_order (signals width n s) d w.of m member (unmet_in plain mono_order (signals width n s) (d w.of) m u.0 out)

    missing_same : missing n fs s ≡ missing b fs s
    missing_same =
        let small = nonsquares_asc plain mono_order (signals width n s) (derivative plain fs) in
        let large = nonsquares_asc plain mono_order (signals width b s) (derivative plain fs) in
        sub_equal mono_order (missing n fs s) (missing b fs s) small large gaps_grow (sub_length mono_order (missing b fs s) (missing n fs s) large small gaps_shrink)

    child_same : (p : Mono × Mono) → Within n p.0 → Within n p.1 → child n s p ≡ child b s p
    unfolding child added
    child_same p first second = rw (signal_same n b more s p.0 first, signal_same n b more s p.1 second)

    -- ---- the children by a pair of a nonsquare
    module _ (m : Mono) (h : m ∈ missing n fs s) (p : Mono × Mono) (k : p ∈ pairs m) where
      two : IsPair p m
      two = pairs_out p m k

      pair_same : child n s p ≡ child b s p
      pair_same =
          let both = factors_within n m p (gap_within n terms clean six s q m h) k in
          child_same p both.0 both.1

      child_wide : Wide (child n s p)
      child_wide x i = go (child_out n s p i)
        where
          six_of : length m ≡ width
          six_of = nonsquare_wide terms six n s wide m h

          go : Grown n s p x → length x ≡ width
          go (old j) = wide x j
          go (left e f) = ap length e ∙ two.left ∙ six_of
          go (right e f) = ap length e ∙ two.right ∙ six_of

-- ---- rules that heed no unused variable
module _ (r : Rules) (o : Orderly r) (n b : ℕ) (heed : Heedless r n b) (terms : List ℕ) (more : n ≤ b) (few : b ≤ width) (clean : CleanFor n terms) where
  abbrev system_of : List (Poly Mono)
  system_of = system (records terms)

  clean_6 : CleanTerms terms
  clean_6 = clean_for (full_panel n) width terms (omega arith) clean

  -- ---- what is said of a set that the walk opens
  module _ (k : ℕ) (s : List Mono) (q : Proper n s) (w : Wide s) where
    gap_in : (m : Mono) → m ∈ missing n system_of s → Within n m
    gap_in m h = gap_within n terms clean clean_6 s q m h

    gap_long : (m : Mono) → m ∈ missing n system_of s → length m ≡ width
    gap_long m h = nonsquare_wide terms clean_6 n s w m h

    ends_same : ends r n k s (missing n system_of s) ≡ ends r b k s (missing n system_of s)
    unfolding ends
    ends_same = rw (heed.closing (k - length s) s (missing n system_of s) q w gap_in gap_long)

    module _ (m : Mono) (h : m ∈ missing n system_of s) (p : Mono × Mono) (i : p ∈ pairs m) where
      child_is : child n s p ≡ child b s p
      child_is = pair_same n b terms more few clean s q w m h p i

      part : (x y : Mono) → length x ≡ length y → mul x y ≡ m → any (same x) (signals width n s) ≡ any (same x) (signals width b s)
      part x y l e = signal_same n b more s x (factor_within n m x y (gap_in m h) l e)

      opens_same : opens r n k s p ≡ opens r b k s p
      unfolding opens
      opens_same =
          let two : IsPair p m = pairs_out p m i in
          let long : length p.0 ≡ length p.1 = two.left ∙ sym two.right in
          rw (part p.0 p.1 long two.product, part p.1 p.0 (sym long) (mul_comm p.1 p.0 ∙ two.product), child_is)

    agrees : Agree r r n b system_of k s
    agrees = record {
      gaps = missing_same n b terms more few clean s q w;
      ending = ends_same;
      trying = λ t m h. heed.trying s m q w (gap_in m h) (gap_long m h);
      opening = λ t m h p i. (opens_same m h p i, child_is m h p i);
    }

  pub level_same : (k : ℕ) → level r n system_of k ≡ level r b system_of k
  level_same k =
      level_agree r r o n b system_of k (λ s. Proper n s × Wide s)
      (λ s m p q h i j. (keeps_proper n terms clean clean_6 r k s m p q.0 h i j, child_wide n b terms more few clean s q.0 q.1 m h p i))
      (λ s q. agrees k s q.0 q.1) refl (heed.proper, heed.wide)

  -- the sets, the steps and the level are the same
  pub plan_same : (limit room cap : ℕ) → plan r n system_of limit room cap ≡ plan r b system_of limit room cap
  plan_same limit room cap = plan_agree r r o n b system_of cap (λ k h. level_same k) limit room

-- ---- the operation over bytes
-- the same marks and kit in a panel of b variables
abbrev pub widened : Panel → ℕ → Panel
widened panel b = panel_of b panel.marks panel.degree

-- the same numbers, and every byte of the buffer
pub planned_same : (panel : Panel) (b cap limit : ℕ) (terms : List ℕ) (size : ℕ) → Ranged panel → panel.n ≤ b → b ≤ width → fault panel (records terms) ≡ Ok tt
    → planned panel cap limit terms size ≡ planned (widened panel b) cap limit terms size
unfolding planned settings_right
planned_same panel b cap limit terms size ranged more few clean =
    let n : ℕ = panel.n in
    let low : 1 ≤ n = ranged.low in
    let wide : Ranged (widened panel b) = record { low = omega arith; high = few; known = λ i h. ranged.known i (omega arith); kit = ranged.kit } in
    let own : CleanFor n terms = clean_for panel n terms (omega arith) clean in
    let heed : Heedless (rules_of panel) n b = counted_heedless (cheaply (allowing (may_be panel))) n b more (cheaply_heedless (allowing (may_be panel)) n b more (allowing_heedless (may_be panel) n b)) in
    let plans = plan_same (rules_of panel) (cheaply_orderly (allowing (may_be panel))) n b heed terms more few own limit (size / set_bytes) cap in
    let rules = ap (λ (may : Mono → Bool). plan (counted (cheaply (allowing may))) b (system (records terms)) limit (size / set_bytes) cap) (may_same panel.n b panel.marks panel.degree) in
    rw (panel-in panel ranged, panel-in (widened panel b) wide, clean, clean_widens panel (widened panel b) more (λ i e. e) (records terms) clean, plans ∙ rules)
