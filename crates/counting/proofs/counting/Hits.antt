-- The loops that count: how many multiples of a quotient are left to be met (`Recurring`), and how many entries of a list pass a test, up to a cap
-- (`Tallying`). Assumes nothing.
use mathlib.Core.Path.{◌≡◌, refl, sym, ap, ◌∙◌}
use mathlib.Core.Bool.{Bool, true, false}
use mathlib.Core.List.{List, [], ◌∷◌, ◌++◌}
use Prim.Native.Nat.{ℕ, suc, ◌+◌, ◌-◌, ◌<◌, ◌≤◌}
use native.Mathlib.Omega.{arith}
use native.Mathlib.Numerals.{add-one}
use borrow.Author.Tests.{le-leb, lt-leb}
use lib.Dec.{leb, leb-suc-suc}
use lib.ListN.{length, get_or, drop, length-append, length-drop, drop_of_length-le}
use lib.Seq.{drop-cons}
use Rattle.monomial.specs.Lists.{keep}
use Rattle.monomial.specs.Monomial.{Mono}
use Rattle.monomial.proofs.Members.{keep_append, keep_length}
use Rattle.counting.specs.Counting.{shares, hits, up_to}
use Rattle.counting.proofs.UpTo.{up_to_low, up_to_high}

-- ---- how many are multiples
module _ (v : List Mono) (q : Mono) where
  pub hits_hit : (m : Mono) (l : List Mono) → shares v q m ≡ true → hits v q (m ∷ l) ≡ suc (hits v q l)
  unfolding hits keep
  hits_hit m l e = rw e

  pub hits_miss : (m : Mono) (l : List Mono) → shares v q m ≡ false → hits v q (m ∷ l) ≡ hits v q l
  unfolding hits keep
  hits_miss m l e = rw e

  pub hits_few : (l : List Mono) → hits v q l ≤ length l
  unfolding hits
  hits_few l = keep_length (shares v q) l

  pub hits_append : (a b : List Mono) → hits v q (a ++ b) ≡ hits v q a + hits v q b
  unfolding hits
  hits_append a b = ap length (keep_append (shares v q) a b) ∙ length-append (keep (shares v q) a) (keep (shares v q) b)

  -- ---- a loop that looks for `often` multiples from a place on, and has `left` of them to meet when it has come to a
  pub record Recurring (l : List Mono) (from often left a : ℕ) : Type 0 where
    pub within : a ≤ length l
    pub says : leb left (hits v q (drop a l)) ≡ leb often (hits v q (drop from l))

  pub recurring_start : (l : List Mono) (from often : ℕ) → from ≤ length l → Recurring l from often often from
  recurring_start l from often h = record { within = h; says = refl }

  module _ {l : List Mono} {from often left a : ℕ} (s : Recurring l from often left a) where
    -- too few are left
    pub recurring_short : length l - a < left → false ≡ leb often (hits v q (drop from l))
    recurring_short h = sym (lt-leb left (hits v q (drop a l)) (omega (arith, hits_few (drop a l), length-drop a l))) ∙ s.says

    pub recurring_end : left ≤ 0 → true ≡ leb often (hits v q (drop from l))
    recurring_end h = sym (le-leb left (hits v q (drop a l)) (omega arith)) ∙ s.says

    module _ (d : Mono) (h : a < length l) where
      next : drop a l ≡ get_or l a d ∷ drop (a + 1) l
      next = rw (add-one a) (drop-cons l a d h)

      pub recurring_hit : (one : ℕ) → left ≡ one + 1 → shares v q (get_or l a d) ≡ true → Recurring l from often one (a + 1)
      recurring_hit one e t = record {
        within = omega arith;
        says = sym (leb-suc-suc one (hits v q (drop (a + 1) l)))
            ∙ ap (λ (k : ℕ). leb k (suc (hits v q (drop (a + 1) l)))) (sym (e ∙ add-one one))
            ∙ ap (leb left) (sym (hits_hit (get_or l a d) (drop (a + 1) l) t))
            ∙ ap (λ (r : List Mono). leb left (hits v q r)) (sym next)
            ∙ s.says;
      }

      pub recurring_miss : shares v q (get_or l a d) ≡ false → Recurring l from often left (a + 1)
      recurring_miss t = record {
        within = omega arith;
        says = ap (leb left) (sym (hits_miss (get_or l a d) (drop (a + 1) l) t)) ∙ ap (λ (r : List Mono). leb left (hits v q r)) (sym next) ∙ s.says;
      }

-- ---- a loop that adds to `many`, up to a cap, the entries of l that pass a test, and has `met` so many when it has come to place j
module _ {A : Type 0} (f : A → Bool) (l : List A) (cap many : ℕ) where
  pub record Tallying (j met : ℕ) : Type 0 where
    pub within : j ≤ length l
    pub low : met ≤ cap
    pub says : up_to cap (met + length (keep f (drop j l))) ≡ up_to cap (many + length (keep f l))

  module _ {j met : ℕ} (s : Tallying j met) where
    pub tallying_full : cap ≤ met → met ≡ up_to cap (many + length (keep f l))
    tallying_full h =
        let full : met ≡ cap = omega (arith, s.low) in
        full ∙ sym (up_to_high cap (met + length (keep f (drop j l))) (omega arith)) ∙ s.says

    pub tallying_end : length l ≤ j → met ≡ up_to cap (many + length (keep f l))
    unfolding keep
    tallying_end h =
        let none : drop j l ≡ [] = drop_of_length-le l h in
        let plain : met + length (keep f (drop j l)) ≡ met = ap (λ (r : List A). met + length (keep f r)) none ∙ omega arith in
        sym (up_to_low cap met s.low) ∙ ap (up_to cap) (sym plain) ∙ s.says

    module _ (d : A) (h : j < length l) where
      following : drop j l ≡ get_or l j d ∷ drop (j + 1) l
      following = rw (add-one j) (drop-cons l j d h)

      pub tallying_hit : met < cap → f (get_or l j d) ≡ true → Tallying (j + 1) (met + 1)
      unfolding keep
      tallying_hit room t = record { within = omega arith; low = omega arith; says = ap (up_to cap) more ∙ s.says }
        where
          counted : length (keep f (drop j l)) ≡ suc (length (keep f (drop (j + 1) l)))
          counted = rw (following, t)

          more : met + 1 + length (keep f (drop (j + 1) l)) ≡ met + length (keep f (drop j l))
          more = omega (arith, counted)

      pub tallying_miss : f (get_or l j d) ≡ false → Tallying (j + 1) met
      unfolding keep
      tallying_miss t = record { within = omega arith; low = s.low; says = ap (λ (k : ℕ). up_to cap (met + k)) (sym same) ∙ s.says }
        where
          same : length (keep f (drop j l)) ≡ length (keep f (drop (j + 1) l))
          same = rw (following, t)
