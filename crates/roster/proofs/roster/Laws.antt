-- What is promised of names: exactly when they form a set, and that it is a set with a right record, of their number and with their members.
-- Assumes nothing.
use mathlib.Core.Path.{◌≡◌}
use mathlib.Core.Logic.{◌↔◌}
use mathlib.Core.Bool.{not}
use mathlib.Core.List.{List, [], ◌∷◌}
use Prim.Native.Nat.{◌≤◌}
use native.Mathlib.Omega.{arith}
use lib.Dec.{T, not_T, T_not}
use lib.ListN.{length}
use Rattle.monomial.specs.Lists.{any, all}
use Rattle.monomial.specs.Monomial.{Mono}
use Rattle.monomial.specs.Order.{same, before}
use Rattle.monomial.specs.Claims.{◌⊆◌, Ascending, Different}
use Rattle.monomial.proofs.Tests.{and_l, and_r, and_i}
use Rattle.monomial.proofs.Different.{ascending_different, different_same}
use Rattle.monomial.proofs.order.Laws.{mono_order}
use Rattle.monomial.proofs.order.Ascending.{among_in, among_out, arrange_asc, arrange_in, arrange_out, arrange_length}
use Rattle.wiring.specs.Panel.{cards, set_bytes}
use Rattle.wiring.specs.Sets.{set_of, monomial_right, set_right, set_record}
use Rattle.wiring.specs.Claims.{Wide, Recordable, Buildable}
use Rattle.wiring.specs.declared.panel.Panel.{Panel}
use Rattle.wiring.proofs.kit.Laws.{buildable_part}
use Rattle.wiring.proofs.sets.Exact.{facts_out, facts_in, record_length, record_set, record_right}
use Rattle.roster.specs.Roster.{distinct, forms_set, arranged}
use Rattle.roster.specs.Claims.{RightNames}

-- ---- no name stands twice
different_out : (l : List Mono) → T (distinct l) → Different l
unfolding distinct
different_out [] t = tt
different_out (m ∷ l) t =
    let new : T (not (any (same m) l)) = and_l (not (any (same m) l)) (distinct l) t in
    (λ h. T_not (any (same m) l) new (among_in mono_order h), different_out l (and_r (not (any (same m) l)) (distinct l) t))

different_in : (l : List Mono) → Different l → T (distinct l)
unfolding distinct
different_in [] d = tt
different_in (m ∷ l) d =
    and_i (not (any (same m) l)) (distinct l) (not_T (any (same m) l) (λ t. d.0 (among_out mono_order m l t))) (different_in l d.1)

pub forms_different : (l : List Mono) → T (distinct l) ↔ Different l
forms_different l = (different_out l, different_in l)

-- ---- the names and their set have the same members
pub forms_members : (names : List Mono) → (names ⊆ arranged names) × (arranged names ⊆ names)
forms_members names = (λ m h. arrange_in mono_order names h, λ m h. arrange_out mono_order names h)

pub forms_ascending : (names : List Mono) → Ascending before (arranged names)
forms_ascending names = arrange_asc mono_order names

-- ---- exactly when names form a set
module _ (panel : Panel) (names : List Mono) where
  pub right_names : T (forms_set panel names) → RightNames panel names
  unfolding forms_set
  right_names t =
      let f = facts_out panel names (and_l (all (monomial_right panel) names) (distinct names) t) in
      record {
        new = f.new;
        small = f.small;
        within = f.within;
        buildable = f.buildable;
        different = different_out names (and_r (all (monomial_right panel) names) (distinct names) t);
      }

  names_right : Wide names → RightNames panel names → T (forms_set panel names)
  unfolding forms_set
  names_right wide r =
      and_i (all (monomial_right panel) names) (distinct names)
      (facts_in panel names (λ m h. omega (arith, wide m h)) (record { new = r.new; small = r.small; within = r.within; buildable = r.buildable }))
      (different_in names r.different)

  pub forms_exact : Wide names → T (forms_set panel names) ↔ RightNames panel names
  forms_exact wide = (right_names, names_right wide)

  -- ---- the set is as long as the list of names
  pub forms_length : T (forms_set panel names) → length (arranged names) ≡ length names
  forms_length t =
      let sorted : Different (arranged names) = ascending_different mono_order (arranged names) (forms_ascending names) in
      different_same (arranged names) names sorted (right_names t).different (forms_members names).1 (forms_members names).0

  -- ---- and has a right record, which holds it
  module _ (few : length names ≤ cards) (wide : Wide names) where
    few_arranged : length (arranged names) ≤ cards
    few_arranged = omega (arith, arrange_length same before names)

    wide_arranged : Wide (arranged names)
    wide_arranged m h = wide m ((forms_members names).1 m h)

    -- it is of one length, whether the names form a set or not
    pub forms_bytes : length (set_record (arranged names)) ≡ set_bytes
    forms_bytes = record_length (arranged names) few_arranged wide_arranged

    module _ (t : T (forms_set panel names)) where
      pub forms_recordable : Recordable panel.n (arranged names)
      forms_recordable =
          let r = right_names t in
          let back = (forms_members names).1 in
          record {
            few = few_arranged;
            wide = wide_arranged;
            permitted = record {
              ascends = forms_ascending names;
              new = λ m h. r.new m (back m h);
              small = λ m h. r.small m (back m h);
              within = λ m h. r.within m (back m h);
            };
          }

      pub forms_buildable : Buildable panel (arranged names)
      forms_buildable = buildable_part panel names (arranged names) (forms_members names).1 (right_names t).buildable

      pub forms_right : T (set_right panel (set_record (arranged names)))
      forms_right = record_right panel (arranged names) forms_recordable forms_buildable

      pub forms-set : set_of (set_record (arranged names)) ≡ arranged names
      forms-set = record_set panel.n (arranged names) forms_recordable
