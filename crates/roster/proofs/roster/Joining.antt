-- Names that join a set one by one, the last first. Assumes nothing.
use mathlib.Core.Path.{◌≡◌, refl, sym, ap, subst, ◌∙◌}
use mathlib.Core.Logic.{⊎_elim}
use mathlib.Core.Bool.{Bool, true, false, not, ◌&&◌}
use mathlib.Core.List.Memᴰ
use mathlib.Core.List.{List, [], ◌∷◌}
use Rattle.std.specs.Prelude.{Some}
use Prim.Native.Nat.{ℕ, zero, suc, ◌+◌, ◌≤◌}
use native.Mathlib.Omega.{arith}
use native.Mathlib.Numerals.{add-one}
use lib.Dec.{T, T_not}
use lib.ListN.{length, get_or, drop, drop_of_length-le}
use lib.Seq.{drop-cons}
use Rattle.monomial.specs.Lists.{any, all, insert_by, arrange_by}
use Rattle.monomial.specs.Monomial.{Mono}
use Rattle.monomial.specs.Order.{same, before}
use Rattle.monomial.specs.Claims.{Ascending}
use Rattle.monomial.proofs.Tests.{T→is, n_t→is, is→T, is→n_t, and_r, and_true, same_test}
use Rattle.monomial.proofs.order.Laws.{mono_order}
use Rattle.monomial.proofs.order.Ascending.{among_in, among_out, arrange_asc, arrange_in, arrange_out}
use Rattle.wiring.specs.Panel.{cards}
use Rattle.wiring.specs.Sets.{monomial_right, monomials_of, set_record}
use Rattle.wiring.specs.Claims.{Wide}
use Rattle.wiring.specs.declared.panel.Panel.{Panel}
use Rattle.wiring.specs.declared.held.Set.{Set}
use Rattle.roster.specs.Roster.{distinct, forms_set, arranged, Forms, Entering, Entered}

-- ---- one name more
exchange : (a b c d : Bool) → (a && b) && (c && d) ≡ (a && c) && (b && d)
exchange true true c d = refl
exchange true false true d = refl
exchange true false false d = refl
exchange false b c d = refl

module _ (panel : Panel) where
  -- whether m may stand before the names l: it is what a set may hold, and none of them
  abbrev pub joins : Mono → List Mono → Bool
  joins m l = monomial_right panel m && not (any (same m) l)

  pub forms_none : T (forms_set panel [])
  unfolding forms_set all distinct
  forms_none = tt

  pub forms_cons : (m : Mono) (l : List Mono) → forms_set panel (m ∷ l) ≡ joins m l && forms_set panel l
  unfolding forms_set all distinct
  forms_cons m l = exchange (monomial_right panel m) (all (monomial_right panel) l) (not (any (same m) l)) (distinct l)

  -- the names from place i on
  forms_rest : (i : ℕ) (l : List Mono) → T (forms_set panel l) → T (forms_set panel (drop i l))
  forms_rest zero l t = t
  forms_rest (suc i) [] t = t
  forms_rest (suc i) (m ∷ l) t = forms_rest i l (and_r (joins m l) (forms_set panel l) (rw (forms_cons m l) at t))

-- what is among the names is in their set, and nothing else
pub among_arranged : (m : Mono) (l : List Mono) → any (same m) (arranged l) ≡ any (same m) l
among_arranged m l =
    same_test (any (same m) (arranged l)) (any (same m) l) (λ t. among_in mono_order (arrange_out mono_order l (among_out mono_order m (arranged l) t)))
    (λ t. among_in mono_order (arrange_in mono_order l (among_out mono_order m l t)))

-- the set of one name more
arranged_cons : (m : Mono) (l : List Mono) → arranged (m ∷ l) ≡ insert_by same before m (arranged l)
unfolding arrange_by
arranged_cons m l = refl

arranged_none : arranged [] ≡ []
unfolding arrange_by
arranged_none = refl

-- ---- a loop that lets the names l join, and has come down to place i: the set is that of the names from there on
pub record Joining (panel : Panel) (l : List Mono) (set : Set) (i : ℕ) : Type 0 where
  pub size : set.len + i ≡ length l
  pub held : monomials_of set ≡ arranged (drop i l)
  pub right : T (forms_set panel (drop i l))
  pub wide : Wide (drop i l)

pub joining_start : (panel : Panel) (l : List Mono) (set : Set) (i : ℕ) → i ≡ length l → set.len ≡ 0 → Joining panel l set i
joining_start panel l set i e none =
    let left : drop i l ≡ [] = drop_of_length-le l {i = i} (omega arith) in
    let empty : monomials_of set ≡ [] = rw none in
    record {
      size = omega arith;
      held = empty ∙ sym (ap arranged left ∙ arranged_none);
      right = subst (λ (k : List Mono). T (forms_set panel k)) (sym left) (forms_none panel);
      wide = λ m h. absurd (Memᴰ.not-nil (rw left at h));
    }

module _ {panel : Panel} {l : List Mono} {set : Set} {j : ℕ} (c : Joining panel l set j) (i : ℕ) (e : j ≡ i + 1) (m : Mono) (is : m ≡ get_or l i []) where
  rest : drop i l ≡ m ∷ drop j l
  rest = rw (e, add-one i, is) (drop-cons l i [] (omega (arith, c.size)))

  -- what is asked of m is asked of it and the names behind
  asked : joins panel m (monomials_of set) ≡ forms_set panel (drop i l)
  asked =
      let among : any (same m) (monomials_of set) ≡ any (same m) (drop j l) = ap (λ (s : List Mono). any (same m) s) c.held ∙ among_arranged m (drop j l) in
      rw (rest, forms_cons panel m (drop j l), T→is (forms_set panel (drop j l)) c.right, among) (sym (and_true (joins panel m (drop j l))))

  pub joining_refused : joins panel m (monomials_of set) ≡ false → forms_set panel l ≡ false
  joining_refused f = n_t→is (forms_set panel l) (λ t. is→n_t (forms_set panel (drop i l)) (sym asked ∙ f) (forms_rest panel i l t))

  module _ (t : joins panel m (monomials_of set) ≡ true) where
    pub joining_enters : length l ≤ cards → Entering set m
    joining_enters few = record {
      room = omega (arith, c.size);
      ascends = subst (Ascending before) (sym c.held) (arrange_asc mono_order (drop j l));
      new = n_t→is (any (same m) (monomials_of set)) (T_not (any (same m) (monomials_of set))
          (and_r (monomial_right panel m) (not (any (same m) (monomials_of set))) (is→T (joins panel m (monomials_of set)) t)));
    }

    pub joining_on : (next : Set) → Entered set m next → Joining panel l next i
    joining_on next w = record {
      size = omega (arith, c.size, w.size);
      held = w.holds ∙ ap (insert_by same before m) c.held ∙ sym (ap arranged rest ∙ arranged_cons m (drop j l));
      right = is→T (forms_set panel (drop i l)) (sym asked ∙ t);
      wide = λ x h. ⊎_elim (λ d. ap length d ∙ w.wide) (c.wide x) (Memᴰ.cases_cons (rw rest at h));
    }

-- each monomial of the set is as wide as its name
pub joining_wide : {panel : Panel} {l : List Mono} {set : Set} {i : ℕ} → Joining panel l set i → Wide (monomials_of set)
joining_wide {panel} {l} {set} {i} c m h = c.wide m (arrange_out mono_order (drop i l) (rw c.held at h))

-- ---- what is said at the end
pub joined : {panel : Panel} {l : List Mono} {set : Set} → Joining panel l set 0 → (bytes : List ℕ) → bytes ≡ set_record (monomials_of set) → Forms panel l (Some bytes)
joined {panel} {l} {set} c bytes made = (T→is (forms_set panel l) c.right, made ∙ ap (λ (s : List Mono). set_record s) c.held)
