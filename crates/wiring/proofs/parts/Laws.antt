-- The monomials of a derivative, one after the other: those that the records give, and of these the ones with a coefficient. Assumes nothing.
use mathlib.Core.Path.{◌≡◌, refl, sym, ap, ap₂, ◌∙◌, subst}
use mathlib.Core.Bool.{Bool, true, false, not}
use mathlib.Core.List.Memᴰ
use mathlib.Core.List.{List, [], ◌∷◌, map}
use Prim.Native.Nat.{◌<◌}
use native.Mathlib.Omega.{arith}
use lib.Dec.{T, T_not, not_T, leb, le→leb}
use lib.ListN.{length}
use Rattle.monomial.specs.Lists.{keep}
use Rattle.monomial.specs.Monomial.{Mono}
use Rattle.monomial.specs.Order.{before}
use Rattle.monomial.specs.Claims.{◌∈◌, ◌⊆◌, Ascending}
use Rattle.monomial.proofs.Tests.{and_l, and_r, and_i, is→T, is→n_t, Tested, passed, failed, test}
use Rattle.monomial.proofs.Members.{here, keep_in, keep_out, keep_yes, keep_no, keep_all, keep_swap}
use Rattle.monomial.proofs.order.Laws.{mono_order, not_both}
use Rattle.monomial.proofs.order.Ascending.{head_first, tail_asc, keep_asc, arrange_asc, arrange_in, arrange_out, sub_length, sub_equal}
use Rattle.wiring.specs.Coefficient.{is_zero}
use Rattle.wiring.specs.Poly.{Poly, plain, coeff, support}
use Rattle.wiring.specs.Derivative.{derivative, power, image, gives, images}
use Rattle.wiring.specs.Terms.{Record, system}
use Rattle.wiring.specs.Choice.{Heads, beyond}
use Rattle.std.specs.Prelude.{Option, Some, None}
use Rattle.monomial.specs.declared.Monomial.{Monomial}
use Rattle.wiring.proofs.Poly.{support_asc, support_in, support_out, is-zero, zero_is}
use Rattle.wiring.proofs.derivative.Records.{Derived, derived}
use Rattle.wiring.proofs.quadratic.Records.{imaged}

-- ---- what the records give
module _ (rs : List Record) (z : Mono) where
  abbrev every : Mono → Bool
  every m = true

  pub images_asc : Ascending before (images rs z)
  unfolding images
  images_asc = arrange_asc mono_order (map (λ r. image r z) (keep (gives every z) rs))

  -- a record with a test gives what it gives without, and that passes
  module _ (f : Mono → Bool) where
    gives_in : (r : Record) → T (gives every z r) → T (f (image r z)) → T (gives f z r)
    unfolding gives
    gives_in r t p = and_i (leb 1 (power r z)) (f (image r z)) (and_l (leb 1 (power r z)) true t) p

    gives_out : (r : Record) → T (gives f z r) → T (gives every z r) × T (f (image r z))
    unfolding gives
    gives_out r t = (and_i (leb 1 (power r z)) true (and_l (leb 1 (power r z)) (f (image r z)) t) tt, and_r (leb 1 (power r z)) (f (image r z)) t)

    pub given_sub : imaged (gives f z) z rs ⊆ keep f (images rs z)
    unfolding images
    given_sub m h =
        let q : (r : Record) × (r ∈ keep (gives f z) rs) × (image r z ≡ m) = Memᴰ.of_map (λ r. image r z) (keep (gives f z) rs) h in
        let k = keep_out (gives f z) rs q.1 in
        let g = gives_out q.0 k.1 in
        let i = Memᴰ.map (λ r. image r z) (keep_in (gives every z) rs k.0 g.0) in
        Memᴰ.cast (sym q.2) (keep_in f (images rs z) (arrange_in mono_order (map (λ r. image r z) (keep (gives every z) rs)) i) g.1)

    pub images_sub : keep f (images rs z) ⊆ imaged (gives f z) z rs
    unfolding images
    images_sub m h =
        let k = keep_out f (images rs z) h in
        let all = arrange_out mono_order (map (λ r. image r z) (keep (gives every z) rs)) k.0 in
        let q : (r : Record) × (r ∈ keep (gives every z) rs) × (image r z ≡ m) = Memᴰ.of_map (λ r. image r z) (keep (gives every z) rs) all in
        let g = keep_out (gives every z) rs q.1 in
        let p : T (f (image q.0 z)) = subst (λ (x : Mono). T (f x)) (sym q.2) k.1 in
        Memᴰ.cast (sym q.2) (Memᴰ.map (λ r. image r z) (keep_in (gives f z) rs g.0 (gives_in q.0 g.1 p)))

  -- ---- those with a coefficient are the monomials of the derivative
  abbrev pub counts : Mono → Bool
  counts m = not (is_zero (coeff plain (derivative plain (system rs) z) m))

  pub images_support : keep counts (images rs z) ≡ support plain (derivative plain (system rs) z)
  unfolding images gives
  images_support = sub_equal mono_order (keep counts (images rs z)) (support plain p) asc (support_asc plain mono_order p) inside (sub_length mono_order (support plain p) (keep counts (images rs z)) (support_asc plain mono_order p) asc outside)
    where
      p : Poly Mono
      p = derivative plain (system rs) z

      asc : Ascending before (keep counts (images rs z))
      asc = keep_asc counts (images rs z) images_asc

      inside : keep counts (images rs z) ⊆ support plain p
      inside m h = let k = keep_out counts (images rs z) h in support_in plain mono_order p m (λ e. T_not (is_zero (coeff plain p m)) k.1 (is-zero (coeff plain p m) e))

      raised : (r : Record) → 0 < power r z → T (gives every z r)
      raised r h = and_i (leb 1 (power r z)) true (le→leb 1 (power r z) h) tt

      outside : support plain p ⊆ keep counts (images rs z)
      outside m h =
          let s = support_out plain mono_order p m h in
          let d : Derived rs z m = derived rs z m s.0 in
          let i = Memᴰ.map (λ r. image r z) (keep_in (gives every z) rs d.listed (raised d.by d.raised)) in
          keep_in counts (images rs z) (arrange_in mono_order (map (λ r. image r z) (keep (gives every z) rs)) (Memᴰ.cast (sym d.is) i))
          (not_T (is_zero (coeff plain p m)) (λ t. s.1 (zero_is (coeff plain p m) t)))

-- ---- the entries of an ascending list behind a pick: the first of them, and then those behind it
pub beyond_none : (l : List Mono) → keep (beyond None) l ≡ l
beyond_none l = keep_all (beyond None) l (λ x m. tt)

pub heads_none : (l : List Mono) → Heads l None → l ≡ []
heads_none [] h = refl
heads_none (m ∷ l) h = absurd h

-- what stands behind an entry that is behind p is behind p
beyond_trans : (p : Option Monomial) (x y : Mono) → T (beyond p x) → T (before x y) → T (beyond p y)
beyond_trans None x y t s = tt
beyond_trans (Some p) x y t s = mono_order.trans p.e x y t s

pub behind_next : (p : Option Monomial) (q : Monomial) (l : List Mono) → Ascending before l → Heads (keep (beyond p) l) (Some q)
    → keep (beyond p) l ≡ q.e ∷ keep (beyond (Some q)) l
unfolding keep
behind_next p q [] a h = let z : ◌≡◌ {A = Bool} true false = h in cc
behind_next p q (x ∷ l) a h = go (test (beyond p x)) (behind_next p q l (tail_asc a))
  where
    go : Tested (beyond p x) → (Heads (keep (beyond p) l) (Some q) → keep (beyond p) l ≡ q.e ∷ keep (beyond (Some q)) l)
        → keep (beyond p) (x ∷ l) ≡ q.e ∷ keep (beyond (Some q)) (x ∷ l)
    go (passed t) ih =
        let here_x : q.e ≡ x = rw t at h in
        let rest_p : keep (beyond p) l ≡ l = keep_all (beyond p) l (λ y m. beyond_trans p x y (is→T (beyond p x) t) (head_first a y m)) in
        let rest_q : keep (before q.e) (x ∷ l) ≡ l =
        ap (λ (y : Mono). keep (before y) (x ∷ l)) here_x ∙ keep_no (before x) x l (mono_order.irrefl x) ∙ keep_all (before x) l (head_first a) in
        rw t (ap₂ ◌∷◌ (sym here_x) (rest_p ∙ sym rest_q))
    go (failed t) ih =
        let k : keep (beyond p) l ≡ q.e ∷ keep (before q.e) l = ih (rw t at h) in
        let member : q.e ∈ l = (keep_out (beyond p) l (subst (λ (r : List Mono). q.e ∈ r) (sym k) here)).0 in
        let low : T (before x q.e) = head_first a q.e member in
        let out : keep (before q.e) (x ∷ l) ≡ keep (before q.e) l = keep_no (before q.e) x l (not_both mono_order x q.e low) in
        rw t (k ∙ ap (◌∷◌ q.e) (sym out))

-- ---- passing over those whose total is 0
module _ (rs : List Record) (z : Mono) (last : Option Monomial) where
  abbrev parts : List Mono
  parts = support plain (derivative plain (system rs) z)

  -- what is behind the pick and has a coefficient is all that is behind the last
  pub record Parting (behind : Option Monomial) : Type 0 where
    pub rest : keep (counts rs z) (keep (beyond behind) (images rs z)) ≡ keep (beyond last) parts

  pub parting_start : Parting last
  parting_start = record { rest = keep_swap (counts rs z) (beyond last) (images rs z) ∙ ap (keep (beyond last)) (images_support rs z) }

  module _ {behind : Option Monomial} (w : Parting behind) where
    pub parting_none : Heads (keep (beyond behind) (images rs z)) None → Heads (keep (beyond last) parts) None
    unfolding keep
    parting_none h =
        let none = heads_none (keep (beyond behind) (images rs z)) h in
        subst (λ (l : List Mono). Heads l None) (ap (keep (counts rs z)) (sym none) ∙ w.rest) refl

    module _ (m : Monomial) (h : Heads (keep (beyond behind) (images rs z)) (Some m)) where
      next : keep (beyond behind) (images rs z) ≡ m.e ∷ keep (beyond (Some m)) (images rs z)
      next = behind_next behind m (images rs z) (images_asc rs z) h

      pub parting_here : is_zero (coeff plain (derivative plain (system rs) z) m.e) ≡ false → Heads (keep (beyond last) parts) (Some m)
      parting_here n =
          let own : T (counts rs z m.e) = not_T (is_zero (coeff plain (derivative plain (system rs) z) m.e)) (is→n_t _ n) in
          let list = ap (keep (counts rs z)) (sym next) ∙ w.rest in
          subst (λ (l : List Mono). Heads l (Some m)) (sym (keep_yes (counts rs z) m.e (keep (beyond (Some m)) (images rs z)) own) ∙ list) refl

      pub parting_on : is_zero (coeff plain (derivative plain (system rs) z) m.e) ≡ true → Parting (Some m)
      parting_on n =
          let out : T (counts rs z m.e) → ⊥ = λ t. T_not (is_zero (coeff plain (derivative plain (system rs) z) m.e)) t (is→T _ n) in
          record { rest = sym (keep_no (counts rs z) m.e (keep (beyond (Some m)) (images rs z)) out) ∙ ap (keep (counts rs z)) (sym next) ∙ w.rest }

      pub parting_less : length (keep (beyond (Some m)) (images rs z)) < length (keep (beyond behind) (images rs z))
      parting_less = let k = ap length next in omega arith
