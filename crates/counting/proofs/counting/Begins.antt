-- Quotients that occur so often, where they are first met: test by test (`begins`), and one monomial of the list after the other (`Finding`).
-- Assumes nothing.
use mathlib.Core.Path.{◌≡◌, refl, sym, ap, ◌∙◌}
use mathlib.Core.Bool.{Bool, true, false, not}
use mathlib.Core.List.{List, [], ◌∷◌, ◌++◌}
use Prim.Native.Nat.{ℕ, suc, ◌+◌, ◌-◌, ◌<◌, ◌≤◌}
use native.Mathlib.Omega.{arith}
use native.Mathlib.Numerals.{add-one}
use lib.Dec.{T, leb, leb→le, leb-suc-suc}
use lib.ListN.{length, get_or, take, drop, length-drop}
use lib.Seq.{drop-cons, take-suc}
use Rattle.monomial.specs.Lists.{keep}
use Rattle.monomial.specs.Monomial.{Mono}
use Rattle.monomial.specs.Quotient.{divides, quo}
use Rattle.monomial.proofs.Tests.{and_l, and_r}
use Rattle.monomial.proofs.Members.{keep_none}
use Rattle.counting.specs.Counting.{hits, begins, up_to}
use Rattle.counting.proofs.UpTo.{up_to_low, up_to_within, up_to_more}
use Rattle.counting.proofs.counting.Hits.{hits_few}

module _ (may : Mono → Bool) (v : List Mono) (often : ℕ) where
  -- ---- test by test
  module _ (done rest : List Mono) (m x : Mono) where
    abbrev pub quotient : Mono
    quotient = quo m x

    pub begins_undivided : divides x m ≡ false → false ≡ begins may v often done rest m x
    unfolding begins
    begins_undivided d = rw d

    module _ (d : divides x m ≡ true) where
      pub begins_barred : may quotient ≡ false → false ≡ begins may v often done rest m x
      unfolding begins
      begins_barred e = rw (d, e)

      module _ (e : may quotient ≡ true) (one : ℕ) (count : often ≡ suc one) where
        enough : leb one (hits v quotient rest) ≡ leb often (suc (hits v quotient rest))
        enough = sym (leb-suc-suc one (hits v quotient rest)) ∙ ap (λ (k : ℕ). leb k (suc (hits v quotient rest))) (sym count)

        pub begins_rare : leb one (hits v quotient rest) ≡ false → false ≡ begins may v often done rest m x
        unfolding begins
        begins_rare f = let g : leb often (suc (hits v quotient rest)) ≡ false = sym enough ∙ f in rw (d, e, g)

        pub begins_first : leb one (hits v quotient rest) ≡ true → not (leb 1 (hits v quotient done)) ≡ begins may v often done rest m x
        unfolding begins
        begins_first f = let g : leb often (suc (hits v quotient rest)) ≡ true = sym enough ∙ f in rw (d, e, g)

  -- where fewer are left than that, none begins
  begins_short : (done rest : List Mono) (m x : Mono) → suc (length rest) < often → T (begins may v often done rest m x) → ⊥
  unfolding begins
  begins_short done rest m x h t =
      let q : Mono = quo m x in
      let k : often ≤ suc (hits v q rest) = leb→le often (suc (hits v q rest)) (search (and_l, and_r, t)) in
      let few : hits v q rest ≤ length rest = hits_few v q rest in
      let z : ⊥ = omega arith in
      z

  -- ---- monomial by monomial: how many begin in a list behind those that are done
  unfoldable pub news : List Mono → List Mono → ℕ
  news done [] = 0
  news done (m ∷ rest) = length (keep (begins may v often done rest m) v) + news (done ++ (m ∷ [])) rest

  news_short : (l done : List Mono) → length l < often → news done l ≡ 0
  unfolding news
  news_short [] done h = refl
  news_short (m ∷ rest) done h =
      let none : keep (begins may v often done rest m) v ≡ [] = keep_none (begins may v often done rest m) v (λ x i t. begins_short done rest m x h t) in
      omega (arith, ap length none, news_short rest (done ++ (m ∷ [])) (omega arith))

  -- a loop that goes through l, up to a cap, and has met so many when it has come to place i
  module _ (l : List Mono) (cap : ℕ) where
    pub record Finding (i met : ℕ) : Type 0 where
      pub within : i ≤ length l
      pub low : met ≤ cap
      pub says : up_to cap (met + news (take i l) (drop i l)) ≡ up_to cap (news [] l)

    module _ {i met : ℕ} (s : Finding i met) where
      pub finding_next : (d : Mono) (met' : ℕ) → i < length l
          → met' ≡ up_to cap (met + length (keep (begins may v often (take i l) (drop (i + 1) l) (get_or l i d)) v)) → Finding (i + 1) met'
      unfolding news
      finding_next d met' h e = record { within = omega arith; low = few; says = step }
        where
          new : ℕ
          new = length (keep (begins may v often (take i l) (drop (i + 1) l) (get_or l i d)) v)

          later : ℕ
          later = news (take (i + 1) l) (drop (i + 1) l)

          few : met' ≤ cap
          few = omega (arith, e, up_to_within cap (met + new))

          taken : take (i + 1) l ≡ take i l ++ (get_or l i d ∷ [])
          taken = rw (add-one i) (take-suc l i d h)

          split : drop i l ≡ get_or l i d ∷ drop (i + 1) l
          split = rw (add-one i) (drop-cons l i d h)

          whole : news (take i l) (drop i l) ≡ new + later
          whole =
              ap (news (take i l)) split
              ∙ ap (λ (r : List Mono). new + news r (drop (i + 1) l)) (sym taken)

          step : up_to cap (met' + later) ≡ up_to cap (news [] l)
          step =
              ap (λ (k : ℕ). up_to cap (k + later)) e
              ∙ up_to_more cap (met + new) later
              ∙ ap (up_to cap) (omega (arith, whole))
              ∙ s.says

      pub finding_end : length l - i < often → met ≡ up_to cap (news [] l)
      finding_end h =
          let none : news (take i l) (drop i l) ≡ 0 = news_short (drop i l) (take i l) (omega (arith, length-drop i l)) in
          let plain : met + news (take i l) (drop i l) ≡ met = omega (arith, none) in
          sym (up_to_low cap met s.low) ∙ ap (up_to cap) (sym plain) ∙ s.says
