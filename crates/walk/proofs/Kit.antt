-- The kit's limit in the walk. No set that a level opens, nor a factor or quotient of a nonsquare below its level, passes the full kit's limit, so that
-- asking for the limit is asking whether the kit can build it: the two walks are one. With the full kit that walk knows no limit. Assumes nothing.
use mathlib.Core.Path.{◌≡◌, refl, sym, ap, ◌∙◌, subst, fun_ext}
use mathlib.Core.Bool.{Bool, true, ◌||◌}
use mathlib.Core.List.{List}
use Prim.Native.Nat.{ℕ, suc, ◌-◌, ◌<◌, ◌≤◌}
use native.Mathlib.Omega.{arith}
use borrow.Author.Tests.{leb-true, leb-false}
use lib.Dec.{T, leb}
use lib.ListN.{length}
use Rattle.monomial.specs.Lists.{arrange_by}
use Rattle.monomial.specs.Monomial.{Mono, width}
use Rattle.monomial.specs.Order.{same, before}
use Rattle.monomial.specs.Product.{mul, AtMost}
use Rattle.monomial.specs.Quotient.{divides}
use Rattle.monomial.specs.Divisors.{pairs}
use Rattle.monomial.specs.Claims.{◌∈◌, empty, IsPair}
use Rattle.monomial.proofs.Tests.{Tested, passed, failed, test}
use Rattle.monomial.proofs.product.Laws.{mul_comm, at_most_weaken}
use Rattle.monomial.proofs.quotient.Laws.{factor_divides, divides_length, at_most_divides}
use Rattle.monomial.proofs.divisors.Pairs.{pairs_out}
use Rattle.wiring.specs.Panel.{cards, set_exponent, full_degree}
use Rattle.wiring.specs.Sockets.{panel_of, free, may_be, can_build}
use Rattle.wiring.specs.declared.panel.Panel.{Panel}
use Rattle.wiring.specs.Poly.{Poly, plain}
use Rattle.wiring.specs.Derivative.{derivative}
use Rattle.wiring.specs.Signals.{signals}
use Rattle.wiring.specs.Terms.{records, system, CleanTerms}
use Rattle.wiring.specs.Answers.{missing}
use Rattle.wiring.specs.Claims.{Wide, Buildable}
use Rattle.wiring.proofs.sockets.Laws.{unmarked_free}
use Rattle.wiring.proofs.kit.Full.{full_can}
use Rattle.wiring.proofs.kit.Laws.{may_can, can_buildable, buildable_can, may_buildable}
use Rattle.counting.proofs.Largest.{closes_tested}
use Rattle.walk.specs.Walk.{Rules, Step, allowing, bare, cheaply, counted, rules_of, kit_rules, opens, ends, level}
use Rattle.walk.specs.Plan.{plan}
use Rattle.walk.specs.Turns.{Walked}
use Rattle.walk.specs.Claims.{Counts, Sparing, Agree, distinct, Barren, QuadraticList, NoneSmaller}
use Rattle.walk.proofs.Rules.{cheaply_orderly, at_its_level, below_its_level, counted_counts, counts_counted}
use Rattle.walk.proofs.Agree.{level_agree, plan_agree}
use Rattle.walk.proofs.Limits.{keeps_walked}
use Rattle.walk.proofs.Counting.{counted_sparing}
use Rattle.walk.proofs.Smallest.{none_smaller, all_found}
use Rattle.walk.proofs.children.Laws.{nonsquare_wide, nonsquare_small, empty_walked}

-- ---- what the kit can build is what counts by its rules
module _ (panel : Panel) where
  module _ (s : List Mono) where
    pub buildable_counts : Buildable panel s → Counts (kit_rules panel) s
    buildable_counts b = counted_counts (can_build panel) s (buildable_can panel s b)

    pub counts_buildable : Counts (kit_rules panel) s → Buildable panel s
    counts_buildable c = can_buildable panel s (counts_counted (can_build panel) s c)

    -- and what counts by the panel's rules it can build
    pub counts_built : Counts (rules_of panel) s → Buildable panel s
    counts_built c = may_buildable panel s (counts_counted (may_be panel) s c)

  -- ---- so of each set that a level opens both walks say the same
  module _ (n : ℕ) (terms : List ℕ) (clean : CleanTerms terms) where
    abbrev fs : List (Poly Mono)
    fs = system (records terms)

    module _ (k : ℕ) (low : k ≤ cards) (s : List Mono) (w : Walked s) where
      -- below its level: the nonsquares of five monomials have exponents that a set record can hold, and so have their divisors
      divisor_can : length s < k → (m : Mono) → m ∈ missing n fs s → (q : Mono) → T (divides q m) → may_be panel q ≡ can_build panel q
      divisor_can h m i q t =
          let long : length q ≡ width = divides_length q m t ∙ nonsquare_wide terms clean n s w.recorded.wide m i in
          let small : AtMost set_exponent m = at_most_weaken m (omega arith) (nonsquare_small terms clean n s w.small m i) in
          may_can panel q (omega arith) (at_most_divides set_exponent q m t small)

      ending_kit : ends (rules_of panel) n k s (missing n fs s) ≡ ends (kit_rules panel) n k s (missing n fs s)
      unfolding ends
      ending_kit = go (test (leb k (length s)))
        where
          go : Tested (leb k (length s)) → ends (rules_of panel) n k s (missing n fs s) ≡ ends (kit_rules panel) n k s (missing n fs s)
          go (passed e) =
              let at : k ≤ length s = leb-true k (length s) e in
              at_its_level (rules_of panel) n k s (missing n fs s) at ∙ sym (at_its_level (kit_rules panel) n k s (missing n fs s) at)
          go (failed e) =
              ap (λ (x : Bool). x || leb k (length s))
              (closes_tested (may_be panel) (can_build panel) (k - length s) (signals width n s) (missing n fs s) (divisor_can (leb-false k (length s) e)))

      opening_kit : length s < k → (m : Mono) → m ∈ missing n fs s → (p : Mono × Mono) → p ∈ pairs m → opens (rules_of panel) n k s p ≡ opens (kit_rules panel) n k s p
      unfolding opens
      opening_kit h m i p j =
          let two : IsPair p m = pairs_out p m j in
          let long : length p.0 ≡ length p.1 = two.left ∙ sym two.right in
          let factor : (a b : Mono) → length a ≡ length b → mul a b ≡ m → may_be panel a ≡ can_build panel a =
          λ a b l e. divisor_can h m i a (subst (λ (x : Mono). T (divides a x)) e (factor_divides a b l)) in
          rw (factor p.0 p.1 long two.product, factor p.1 p.0 (sym long) (mul_comm p.1 p.0 ∙ two.product))

      kit_agrees : Agree (rules_of panel) (kit_rules panel) n n fs k s
      kit_agrees = record {
        gaps = refl;
        ending = ending_kit;
        trying = λ t m i. refl;
        opening = λ t m i p j. (opening_kit (below_its_level (rules_of panel) n k s (missing n fs s) t) m i p j, refl);
      }

    pub kit_level : (k : ℕ) → k ≤ cards → level (rules_of panel) n fs k ≡ level (kit_rules panel) n fs k
    kit_level k low =
        let o = cheaply_orderly (allowing (may_be panel)) in
        level_agree (rules_of panel) (kit_rules panel) o n n fs k Walked (keeps_walked (rules_of panel) o empty_walked n terms clean k low) (kit_agrees k low) refl empty_walked

    pub kit_plan : (cap : ℕ) → cap ≤ cards → (limit room : ℕ) → plan (rules_of panel) n fs limit room cap ≡ plan (kit_rules panel) n fs limit room cap
    kit_plan cap low = plan_agree (rules_of panel) (kit_rules panel) (cheaply_orderly (allowing (may_be panel))) n n fs cap (λ k h. kit_level k (omega arith))

    -- ---- so what is shown of the rules of the kit, of any powers with the full one, holds of the panel's walk
    module _ (j : ℕ) (low : j ≤ suc cards) (barren : Barren (rules_of panel) n fs j) where
      kit_barren : Barren (kit_rules panel) n fs j
      kit_barren i h = ap distinct (sym (kit_level i (omega arith))) ∙ barren i h

      spares : Sparing (kit_rules panel) n fs
      spares = counted_sparing (cheaply (allowing (can_build panel))) n fs

      pub none_smaller_limit : NoneSmaller (kit_rules panel) n (derivative plain fs) j
      none_smaller_limit = none_smaller (kit_rules panel) (cheaply_orderly (allowing (can_build panel))) empty n fs spares j kit_barren

      pub all_limit : j ≤ cards → (s : List Mono) → Wide s → Counts (kit_rules panel) s → QuadraticList n (derivative plain fs) s → length s ≡ j
          → arrange_by same before s ∈ distinct (level (rules_of panel) n fs j)
      all_limit at s w c q e =
          subst (λ (es : List Step). arrange_by same before s ∈ distinct es) (sym (kit_level j at))
          (all_found (kit_rules panel) (cheaply_orderly (allowing (can_build panel))) empty n fs spares j kit_barren s w c q e)

-- ---- the full kit knows no limit, and with no marks everything may be
full_open : (n marks : ℕ) → allowing (can_build (panel_of n marks full_degree)) ≡ allowing (free marks)
full_open n marks = ap allowing (full_can n marks)

pub unmarked_may : free 0 ≡ (λ m. true)
unmarked_may = fun_ext unmarked_free

pub unmarked_open : allowing (free 0) ≡ bare
unmarked_open = ap allowing unmarked_may

-- so its walk is the one without a limit, step by step
module _ (n marks : ℕ) (terms : List ℕ) (clean : CleanTerms terms) where
  pub full_level : (k : ℕ) → k ≤ cards
      → level (rules_of (panel_of n marks full_degree)) n (system (records terms)) k ≡ level (counted (cheaply (allowing (free marks)))) n (system (records terms)) k
  full_level k low =
      kit_level (panel_of n marks full_degree) n terms clean k low ∙ ap (λ (r : Rules). level (counted (cheaply r)) n (system (records terms)) k) (full_open n marks)

  pub full_plan : (cap : ℕ) → cap ≤ cards → (limit room : ℕ)
      → plan (rules_of (panel_of n marks full_degree)) n (system (records terms)) limit room cap ≡ plan (counted (cheaply (allowing (free marks)))) n (system (records terms)) limit room cap
  full_plan cap low limit room =
      kit_plan (panel_of n marks full_degree) n terms clean cap low limit room
      ∙ ap (λ (r : Rules). plan (counted (cheaply r)) n (system (records terms)) limit room cap) (full_open n marks)
