-- The sum of the largest counts, from how many quotients occur once, twice, and so on (`Summing`); and what the rule says of it. Assumes nothing.
use mathlib.Core.Path.{◌≡◌, refl, sym, ap, ap₂, ◌∙◌, subst}
use mathlib.Core.Bool.{Bool, true, false}
use mathlib.Core.List.Memᴰ
use mathlib.Core.List.{List, [], ◌∷◌, map}
use mathlib.Core.Logic.{⊎_elim}
use Prim.Native.Nat.{ℕ, zero, suc, ◌+◌, ◌-◌, ◌*◌, ◌/◌, ◌<◌, ◌≤◌}
use native.Mathlib.Omega.{arith}
use native.Mathlib.Numerals.{add-one}
use native.Mathlib.Nat.{mul_comm}
use Rattle.std.specs.Int.{div_ceil}
use Rattle.std.proofs.lemmas.Grind.{div_ceil_times}
use borrow.Author.Tests.{lt-ltb, le-ltb, ltb-false}
use lib.Dec.{T, ltb, ltb→lt, lt→ltb, leb→le}
use lib.ListN.{length, take, length-map}
use Rattle.monomial.specs.Lists.{keep, gather, arrange_by}
use Rattle.monomial.specs.Monomial.{Mono}
use Rattle.monomial.specs.Order.{same, before}
use Rattle.monomial.specs.Claims.{◌∈◌, Ascending, first}
use Rattle.monomial.proofs.Tests.{Tested, passed, failed, test, is→T, same_test}
use Rattle.monomial.proofs.Members.{here, keep_in, keep_out, keep_map}
use Rattle.counting.specs.Counting.{quotients_of, count, counts, sum, frequent, up_to, closes}
use Rattle.counting.proofs.UpTo.{up_to_none}
use Rattle.counting.proofs.Largest.{falls, sort_falls, sort_keeps, sum_gone, sum_levels, sum_below, needed_room}

module _ (may : Mono → Bool) (v l : List Mono) where
  -- the counts of the quotients, the largest first
  abbrev pub tally : List ℕ
  tally = counts (gather (quotients_of may v) l)

  -- those that are at least so large are as many as the quotients that occur so often
  frequent_counts : (j : ℕ) → length (keep (ltb j) tally) ≡ frequent may v l (suc j)
  unfolding counts frequent
  frequent_counts j =
      let qs : List Mono = gather (quotients_of may v) l in
      sort_keeps (ltb j) (map (count qs) (arrange_by same before qs))
      ∙ ap length (keep_map (ltb j) (count qs) (arrange_by same before qs))
      ∙ length-map (keep (λ q. ltb j (count qs q)) (arrange_by same before qs)) (count qs)

  tally_falls : Ascending falls tally
  unfolding counts
  tally_falls = let qs : List Mono = gather (quotients_of may v) l in sort_falls (map (count qs) (arrange_by same before qs))

  -- where no quotient occurs so often, each count is less
  pub none_frequent : (j : ℕ) → frequent may v l (suc j) ≡ 0 → (x : ℕ) → x ∈ tally → x ≤ j
  none_frequent j e x h = go (test (ltb j x))
    where
      some : (r : List ℕ) → x ∈ r → length r ≡ 0 → ⊥
      some [] m z = Memᴰ.not-nil m
      some (y ∷ r) m z = omega arith

      go : Tested (ltb j x) → x ≤ j
      go (passed t) = absurd (some (keep (ltb j) tally) (keep_in (ltb j) tally h (is→T (ltb j x) t)) (frequent_counts j ∙ e))
      go (failed t) = ltb-false j x t

  -- where one does, the largest count is as much
  pub one_frequent : (j : ℕ) → 1 ≤ frequent may v l (suc j) → j < sum (take 1 tally)
  unfolding sum
  one_frequent j h = go (keep (ltb j) tally) refl (frequent_counts j)
    where
      head : (r : List ℕ) → Ascending falls r → (x : ℕ) → x ∈ r → x ≤ sum (take 1 r)
      head [] a x m = absurd (Memᴰ.not-nil m)
      head (y ∷ r) (first f a) x m = ⊎_elim (λ e. omega arith) (λ k. let low : x ≤ y = leb→le x y (f x k) in omega arith) (Memᴰ.cases_cons m)

      go : (r : List ℕ) → keep (ltb j) tally ≡ r → length (keep (ltb j) tally) ≡ frequent may v l (suc j) → j < sum (take 1 tally)
      go [] e f = let z : ⊥ = omega (arith, ap length e) in absurd z
      go (x ∷ r) e f =
          let k : (x ∈ tally) × T (ltb j x) = keep_out (ltb j) tally (subst (λ (r : List ℕ). x ∈ r) (sym e) here) in
          let low : j < x = ltb→lt j x k.1 in
          omega (arith, head tally tally_falls x k.0)

  -- ---- the sum of the largest, level by level
  module _ (room : ℕ) where
    pub above : ℕ → ℕ
    above j = sum (take room (map (λ c. c - j) tally))

    above_all : above 0 ≡ sum (take room tally)
    unfolding above
    above_all = ap (λ (r : List ℕ). sum (take room r)) (less_none tally)
      where
        less_none : (r : List ℕ) → map (λ c. c - 0) r ≡ r
        less_none [] = refl
        less_none (x ∷ r) = ap₂ ◌∷◌ (omega arith) (less_none r)

    above_next : (j : ℕ) → above j ≡ up_to room (frequent may v l (suc j)) + above (suc j)
    unfolding above
    above_next j = sum_levels room j tally tally_falls ∙ ap (λ (k : ℕ). up_to room k + sum (take room (map (λ c. c - suc j) tally))) (frequent_counts j)

    -- a loop that adds up how many occur once, twice, and so on: `left` of what is wanted is left when it comes to those that occur `often`
    pub record Summing (wanted left often : ℕ) : Type 0 where
      pub level : ℕ
      pub is : often ≡ suc level
      pub low : often + left ≤ wanted + 1
      pub says : ltb (above level) left ≡ ltb (sum (take room tally)) wanted

    pub summing_start : (wanted : ℕ) → Summing wanted wanted 1
    summing_start wanted = record { level = 0; is = refl; low = omega arith; says = ap (λ (k : ℕ). ltb k wanted) above_all }

    module _ {wanted left often : ℕ} (s : Summing wanted left often) (many : ℕ) (is : many ≡ up_to room (frequent may v l often)) where
      next : above s.level ≡ many + above often
      next =
          above_next s.level
          ∙ ap (λ (k : ℕ). up_to room (frequent may v l k) + above k) (sym s.is)
          ∙ ap (λ (k : ℕ). k + above often) (sym is)

      pub summing_enough : left ≤ many → false ≡ ltb (sum (take room tally)) wanted
      summing_enough h = sym (le-ltb (above s.level) left (omega (arith, next))) ∙ s.says

      -- nothing is above where no quotient occurs so often
      pub summing_none : many < 1 → 0 < left → 0 < room → true ≡ ltb (sum (take room tally)) wanted
      unfolding above
      summing_none h some roomy = sym (lt-ltb (above s.level) left (omega (arith, gone))) ∙ s.says
        where
          none : frequent may v l (suc s.level) ≡ 0
          none = ap (frequent may v l) (sym s.is) ∙ up_to_none room (frequent may v l often) roomy (omega (arith, is))

          gone : above s.level ≡ 0
          gone = sum_gone room s.level tally (none_frequent s.level none)

      pub summing_next : many < left → 1 ≤ many → Summing wanted (left - many) (often + 1)
      summing_next h some = record {
        level = often;
        is = add-one often;
        low = omega (arith, s.low);
        says = same_test (ltb (above often) (left - many)) (ltb (above s.level) left)
            (λ t. lt→ltb (above s.level) left (let k : above often < left - many = ltb→lt (above often) (left - many) t in omega (arith, next)))
            (λ t. lt→ltb (above often) (left - many) (let k : above s.level < left = ltb→lt (above s.level) left t in omega (arith, next)))
            ∙ s.says;
      }

    -- ---- what the rule says
    pub closes_few : length l ≤ room * suc room / 2 → false ≡ closes may room v l
    closes_few h = sym (needed_room may v l room ∙ le-ltb (sum (take room tally) + room * suc room / 2) (length l) (omega arith))

    module _ (wanted : ℕ) (is : length l ≡ wanted + room * suc room / 2) where
      pub closes_sum : (b : Bool) → b ≡ ltb (sum (take room tally)) wanted → b ≡ closes may room v l
      closes_sum b e = e ∙ shifted ∙ sym (needed_room may v l room)
        where
          shifted : ltb (sum (take room tally)) wanted ≡ ltb (sum (take room tally) + room * suc room / 2) (length l)
          shifted =
              same_test (ltb (sum (take room tally)) wanted) (ltb (sum (take room tally) + room * suc room / 2) (length l))
              (λ t. lt→ltb (sum (take room tally) + room * suc room / 2) (length l) (let k : sum (take room tally) < wanted = ltb→lt (sum (take room tally)) wanted t in omega arith))
              (λ t. lt→ltb (sum (take room tally)) wanted (let k : sum (take room tally) + room * suc room / 2 < length l = ltb→lt (sum (take room tally) + room * suc room / 2) (length l) t in omega arith))

      -- where no quotient occurs often enough for its share
      pub closes_rare : (share : ℕ) → room * share < wanted → frequent may v l (suc share) ≡ 0 → true ≡ closes may room v l
      closes_rare share h e =
          closes_sum true (sym (lt-ltb (sum (take room tally)) wanted (omega (arith, sum_below room share tally (none_frequent share e)))))

      -- with room for one, a quotient that occurs as often as wanted will do
      pub closes_one : room ≡ 1 → (share : ℕ) → wanted ≤ suc share → 1 ≤ frequent may v l (suc share) → false ≡ closes may room v l
      closes_one e share h some =
          let large : share < sum (take room tally) = subst (λ (k : ℕ). share < sum (take k tally)) (sym e) (one_frequent share some) in
          closes_sum false (sym (le-ltb (sum (take room tally)) wanted (omega arith)))

-- ---- the numbers of the rule
-- the share of each, if together they are to come to what is wanted
module _ (wanted room : ℕ) (some : 0 < wanted) (roomy : 0 < room) where
  pub share_some : 0 < div_ceil wanted room
  share_some = go (div_ceil wanted room) (div_ceil_times wanted room roomy).0
    where
      go : (d : ℕ) → wanted ≤ d * room → 0 < d
      go zero h = let z : ⊥ = omega arith in absurd z
      go (suc d) h = omega arith

  module _ (share : ℕ) (is : div_ceil wanted room ≡ suc share) where
    pub share_less : room * share < wanted
    share_less =
        let high : suc share * room < wanted + room = subst (λ (d : ℕ). d * room < wanted + room) is (div_ceil_times wanted room roomy).1 in
        omega (arith, mul_comm room share)

    pub share_whole : room ≡ 1 → wanted ≤ suc share
    share_whole e =
        let low : wanted ≤ suc share * room = subst (λ (d : ℕ). wanted ≤ d * room) is (div_ceil_times wanted room roomy).0 in
        let alone : suc share * room ≡ suc share * 1 = ap (λ (r : ℕ). suc share * r) e in
        omega arith
