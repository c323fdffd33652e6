-- Numbers sorted, the largest first, and the sums of their first: any j of a list come to no more than the first j of it sorted; how the first sum up
-- by levels; and that j may do exactly where the least number that may do is at most j. Assumes nothing.
use mathlib.Core.Path.{◌≡◌, refl, sym, ap, ◌∙◌, subst}
use mathlib.Core.Logic.{◌⊎◌, inl, inr, ⊎_elim}
use mathlib.Core.Bool.{Bool, true}
use mathlib.Core.List.Memᴰ
use mathlib.Core.List.{List, [], ◌∷◌, map}
use Prim.Native.Nat.{ℕ, zero, suc, ◌+◌, ◌*◌, ◌-◌, ◌/◌, ◌<◌, ◌≤◌}
use native.Mathlib.Omega.{arith}
use borrow.Author.Tests.{leb-true, leb-false, ltb-true, ltb-false}
use lib.Dec.{T, leb, ltb, leb→le, le→leb, ltb→lt, lt→ltb}
use lib.ListN.{length, take}
use Rattle.monomial.specs.Lists.{keep, gather, arrange_by}
use Rattle.monomial.specs.Monomial.{Mono}
use Rattle.monomial.specs.Order.{same, before}
use Rattle.monomial.specs.Quotient.{divides, quo}
use Rattle.monomial.specs.Claims.{◌∈◌, ◌⊆◌, Ascending, empty, first, Rearranged}
use Rattle.monomial.proofs.Tests.{Tested, passed, failed, test, is→T, is→n_t, cond_cases, same_test}
use Rattle.monomial.proofs.Members.{here, there, keep_out, keep_same, keep_none, gather_sub, gather_same, map_same}
use Rattle.monomial.proofs.Rearranged.{rearranged_in, rearranged_out, rearranged_length, kept_rearranged}
use Rattle.monomial.proofs.order.Laws.{mono_order}
use Rattle.monomial.proofs.quotient.Laws.{quo_divides}
use Rattle.monomial.proofs.order.Ascending.{arrange_asc, arrange_in, arrange_out, sub_length, sub_equal}
use Rattle.counting.specs.Counting.{quotients_of, count, insert_down, sort_down, counts, sum, may_do, least_from, needed, closes, up_to}
use Rattle.counting.proofs.UpTo.{up_to_low, up_to_high, up_to_suc}

-- ---- numbers, the largest first
abbrev pub falls : ℕ → ℕ → Bool
falls a b = leb b a

down_out : (x : ℕ) (l : List ℕ) {y : ℕ} → y ∈ insert_down x l → (y ≡ x) ⊎ (y ∈ l)
unfolding insert_down
down_out x [] h = ⊎_elim (λ e. inl e) (λ n. absurd (Memᴰ.not-nil n)) (Memᴰ.cases_cons h)
down_out x (z ∷ l) {y} h = step (down_out x l) h
  where
    step : (y ∈ insert_down x l → (y ≡ x) ⊎ (y ∈ l)) → y ∈ insert_down x (z ∷ l) → (y ≡ x) ⊎ (y ∈ (z ∷ l))
    step ih =
        cond_cases (λ r. y ∈ r → (y ≡ x) ⊎ (y ∈ (z ∷ l))) (leb z x) (x ∷ z ∷ l) (z ∷ insert_down x l)
        (λ t m. Memᴰ.cases_cons m)
        (λ t m. ⊎_elim (λ e. inr (Memᴰ.head e)) (λ k. ⊎_elim (λ e. inl e) (λ j. inr (there j)) (ih k)) (Memᴰ.cases_cons m))

pub down_falls : (x : ℕ) (l : List ℕ) → Ascending falls l → Ascending falls (insert_down x l)
unfolding insert_down
down_falls x [] a = first (λ y m. absurd (Memᴰ.not-nil m)) empty
down_falls x (z ∷ l) (first h a) = go (down_falls x l a) (test (leb z x))
  where
    go : Ascending falls (insert_down x l) → Tested (leb z x) → Ascending falls (insert_down x (z ∷ l))
    go ih (passed e) = rw e (first below (first h a))
      where
        below : (y : ℕ) → y ∈ (z ∷ l) → T (leb y x)
        below y m =
            ⊎_elim (λ d. subst (λ (w : ℕ). T (leb w x)) (sym d) (is→T (leb z x) e))
            (λ k. let p : y ≤ z = leb→le y z (h y k) in let q : z ≤ x = leb-true z x e in le→leb y x (omega arith))
            (Memᴰ.cases_cons m)
    go ih (failed e) = rw e (first (λ y m. ⊎_elim (λ d. let q : x < z = leb-false z x e in le→leb y z (omega arith)) (λ k. h y k) (down_out x l m)) ih)

pub sort_falls : (l : List ℕ) → Ascending falls (sort_down l)
unfolding sort_down
sort_falls [] = empty
sort_falls (x ∷ l) = down_falls x (sort_down l) (sort_falls l)

-- of a sorted list a test keeps as many as of the list
down_keeps : (f : ℕ → Bool) (x : ℕ) (l : List ℕ) → length (keep f (insert_down x l)) ≡ length (keep f (x ∷ l))
unfolding insert_down keep
down_keeps f x [] = refl
down_keeps f x (z ∷ l) = go (down_keeps f x l) (test (leb z x)) (test (f x)) (test (f z))
  where
    go : length (keep f (insert_down x l)) ≡ length (keep f (x ∷ l)) → Tested (leb z x) → Tested (f x) → Tested (f z)
        → length (keep f (insert_down x (z ∷ l))) ≡ length (keep f (x ∷ z ∷ l))
    go ih (passed a) b c = rw a refl
    go ih (failed a) (passed b) (passed c) = rw (a, b, c) (ap suc (rw b at ih))
    go ih (failed a) (passed b) (failed c) = rw (a, b, c) (rw b at ih)
    go ih (failed a) (failed b) (passed c) = rw (a, b, c) (ap suc (rw b at ih))
    go ih (failed a) (failed b) (failed c) = rw (a, b, c) (rw b at ih)

pub sort_keeps : (f : ℕ → Bool) (l : List ℕ) → length (keep f (sort_down l)) ≡ length (keep f l)
unfolding sort_down keep
sort_keeps f [] = refl
sort_keeps f (x ∷ l) = go (sort_keeps f l) (test (f x))
  where
    go : length (keep f (sort_down l)) ≡ length (keep f l) → Tested (f x) → length (keep f (insert_down x (sort_down l))) ≡ length (keep f (x ∷ l))
    go ih (passed e) = down_keeps f x (sort_down l) ∙ rw e (ap suc ih)
    go ih (failed e) = down_keeps f x (sort_down l) ∙ rw e ih

-- ---- sums of the first
-- one more of numbers that are at most x
one_more : (x j : ℕ) (l : List ℕ) → ((y : ℕ) → y ∈ l → y ≤ x) → sum (take (suc j) l) ≤ x + sum (take j l)
unfolding sum
one_more x zero [] h = omega arith
one_more x (suc j) [] h = omega arith
one_more x zero (z ∷ l) h = let k : z ≤ x = h z here in omega arith
one_more x (suc j) (z ∷ l) h = let ih : sum (take (suc j) l) ≤ x + sum (take j l) = one_more x j l (λ y m. h y (there m)) in omega arith

-- t numbers that are at most b
pub sum_below : (t b : ℕ) (l : List ℕ) → ((x : ℕ) → x ∈ l → x ≤ b) → sum (take t l) ≤ t * b
unfolding sum
sum_below zero b l h = omega arith
sum_below (suc t) b [] h = omega arith
sum_below (suc t) b (x ∷ l) h =
    let own : x ≤ b = h x here in
    let ih : sum (take t l) ≤ t * b = sum_below t b l (λ y m. h y (there m)) in
    omega arith

-- an entry more makes no sum of the first smaller
prefix_more : (x j : ℕ) (l : List ℕ) → Ascending falls l → sum (take j l) ≤ sum (take j (insert_down x l))
unfolding sum insert_down
prefix_more x zero l a = omega arith
prefix_more x (suc j) [] a = omega arith
prefix_more x (suc j) (y ∷ l) (first b a) = go (prefix_more x j l a) (test (leb y x))
  where
    go : sum (take j l) ≤ sum (take j (insert_down x l)) → Tested (leb y x) → sum (take (suc j) (y ∷ l)) ≤ sum (take (suc j) (insert_down x (y ∷ l)))
    go ih (passed e) = rw e (one_more x j (y ∷ l) most)
      where
        most : (w : ℕ) → w ∈ (y ∷ l) → w ≤ x
        most w m =
            let q : y ≤ x = leb-true y x e in
            ⊎_elim (λ d. omega arith) (λ n. let p : w ≤ y = leb→le w y (b w n) in omega arith) (Memᴰ.cases_cons m)
    go ih (failed e) = rw e (omega arith)

-- and adds itself to a sum of one more
prefix_new : (x j : ℕ) (l : List ℕ) → x + sum (take j l) ≤ sum (take (suc j) (insert_down x l))
unfolding sum insert_down
prefix_new x zero [] = omega arith
prefix_new x (suc j) [] = omega arith
prefix_new x zero (y ∷ l) = go (test (leb y x))
  where
    go : Tested (leb y x) → x + sum (take zero (y ∷ l)) ≤ sum (take 1 (insert_down x (y ∷ l)))
    go (passed e) = rw e (omega arith)
    go (failed e) = let q : x < y = leb-false y x e in rw e (omega arith)
prefix_new x (suc j) (y ∷ l) = go (prefix_new x j l) (test (leb y x))
  where
    go : x + sum (take j l) ≤ sum (take (suc j) (insert_down x l)) → Tested (leb y x) → x + sum (take (suc j) (y ∷ l)) ≤ sum (take (suc (suc j)) (insert_down x (y ∷ l)))
    go ih (passed e) = rw e (omega arith)
    go ih (failed e) = rw e (omega arith)

-- some j of the numbers come to no more than the largest j
pub some_most : {A : Type 0} (c : A → ℕ) (f : A → Bool) (l : List A) (j : ℕ) → length (keep f l) ≤ j → sum (map c (keep f l)) ≤ sum (take j (sort_down (map c l)))
unfolding keep sum sort_down
some_most c f [] j h = omega arith
some_most c f (x ∷ l) j h = go j h (some_most c f l) (test (f x))
  where
    go : (j : ℕ) → length (keep f (x ∷ l)) ≤ j → ((i : ℕ) → length (keep f l) ≤ i → sum (map c (keep f l)) ≤ sum (take i (sort_down (map c l)))) → Tested (f x)
        → sum (map c (keep f (x ∷ l))) ≤ sum (take j (insert_down (c x) (sort_down (map c l))))
    go j h ih (failed e) =
        let i : sum (map c (keep f l)) ≤ sum (take j (sort_down (map c l))) = ih j (rw e at h) in
        let k : sum (take j (sort_down (map c l))) ≤ sum (take j (insert_down (c x) (sort_down (map c l)))) =
        prefix_more (c x) j (sort_down (map c l)) (sort_falls (map c l)) in
        rw e (omega arith)
    go zero h ih (passed e) = let n : suc (length (keep f l)) ≤ 0 = rw e at h in let z : ⊥ = omega arith in absurd z
    go (suc j) h ih (passed e) =
        let n : suc (length (keep f l)) ≤ suc j = rw e at h in
        let i : sum (map c (keep f l)) ≤ sum (take j (sort_down (map c l))) = ih j (omega arith) in
        let k : c x + sum (take j (sort_down (map c l))) ≤ sum (take (suc j) (insert_down (c x) (sort_down (map c l)))) = prefix_new (c x) j (sort_down (map c l)) in
        rw e (omega arith)

-- ---- sums of the first, level by level
-- numbers that are at most j leave nothing
pub sum_gone : (t j : ℕ) (l : List ℕ) → ((x : ℕ) → x ∈ l → x ≤ j) → sum (take t (map (λ c. c - j) l)) ≡ 0
unfolding sum
sum_gone zero j l h = refl
sum_gone (suc t) j [] h = refl
sum_gone (suc t) j (x ∷ l) h =
    let own : x ≤ j = h x here in
    let ih : sum (take t (map (λ c. c - j) l)) ≡ 0 = sum_gone t j l (λ y m. h y (there m)) in
    omega arith

-- of each that is above j one is at level j, and the rest is above it
pub sum_levels : (t j : ℕ) (l : List ℕ) → Ascending falls l
    → sum (take t (map (λ c. c - j) l)) ≡ up_to t (length (keep (ltb j) l)) + sum (take t (map (λ c. c - suc j) l))
unfolding sum keep
sum_levels zero j l a = omega (arith, up_to_high 0 (length (keep (ltb j) l)) (omega arith))
sum_levels (suc t) j [] a = omega (arith, up_to_low (suc t) 0 (omega arith))
sum_levels (suc t) j (x ∷ l) (first h a) = go (sum_levels t j l a) (test (ltb j x))
  where
    above : ℕ
    above = length (keep (ltb j) l)

    go : sum (take t (map (λ c. c - j) l)) ≡ up_to t above + sum (take t (map (λ c. c - suc j) l)) → Tested (ltb j x)
        → sum (take (suc t) (map (λ c. c - j) (x ∷ l))) ≡ up_to (suc t) (length (keep (ltb j) (x ∷ l))) + sum (take (suc t) (map (λ c. c - suc j) (x ∷ l)))
    go ih (passed e) = let k : j < x = ltb-true j x e in rw e (omega (arith, up_to_suc t above))
    go ih (failed e) = rw (e, none) (omega (arith, up_to_low (suc t) 0 (omega arith), gone j (omega arith), gone (suc j) (omega arith)))
      where
        low : x ≤ j
        low = ltb-false j x e

        small : (i : ℕ) → j ≤ i → (y : ℕ) → y ∈ (x ∷ l) → y ≤ i
        small i d y m = ⊎_elim (λ q. omega (arith, low)) (λ k. let p : y ≤ x = leb→le y x (h y k) in omega (arith, low)) (Memᴰ.cases_cons m)

        gone : (i : ℕ) → j ≤ i → sum (take (suc t) (map (λ c. c - i) (x ∷ l))) ≡ 0
        gone i d = sum_gone (suc t) i (x ∷ l) (small i d)

        none : keep (ltb j) l ≡ []
        none = keep_none (ltb j) l (λ y m k. let p : y ≤ j = small j (omega arith) y (there m) in let q : j < y = ltb→lt j y k in let z : ⊥ = omega arith in z)

-- ---- the least number that may do
sum_more : (r : ℕ) (l : List ℕ) → sum (take r l) ≤ sum (take (suc r) l)
unfolding sum
sum_more zero [] = omega arith
sum_more (suc r) [] = omega arith
sum_more zero (x ∷ l) = omega arith
sum_more (suc r) (x ∷ l) = let ih : sum (take r l) ≤ sum (take (suc r) l) = sum_more r l in omega arith

-- more of them do too
may_next : (many : ℕ) (cs : List ℕ) (r : ℕ) → T (may_do many cs r) → T (may_do many cs (suc r))
unfolding may_do
may_next many cs r t =
    let h : many ≤ sum (take r cs) + r * suc r / 2 = leb→le many (sum (take r cs) + r * suc r / 2) t in
    let k : sum (take r cs) ≤ sum (take (suc r) cs) = sum_more r cs in
    le→leb many (sum (take (suc r) cs) + suc r * suc (suc r) / 2) (omega arith)

may_more : (many : ℕ) (cs : List ℕ) (r d : ℕ) → T (may_do many cs r) → T (may_do many cs (d + r))
may_more many cs r zero t = subst (λ (i : ℕ). T (may_do many cs i)) (omega arith) t
may_more many cs r (suc d) t = subst (λ (i : ℕ). T (may_do many cs i)) (omega arith) (may_next many cs (d + r) (may_more many cs r d t))

half_more : (l : ℕ) → l ≤ l * suc l / 2
half_more zero = omega arith
half_more (suc l) = let ih : l ≤ l * suc l / 2 = half_more l in omega arith

may_all : (many : ℕ) (cs : List ℕ) → T (may_do many cs many)
unfolding may_do
may_all many cs = let h : many ≤ many * suc many / 2 = half_more many in le→leb many (sum (take many cs) + many * suc many / 2) (omega arith)

pub least_le : (f : ℕ → Bool) (d r j : ℕ) → T (f j) → r ≤ j → least_from f d r ≤ j
unfolding least_from
least_le f zero r j t h = h
least_le f (suc d) r j t h = go (test (f r)) (least_le f d (suc r) j t)
  where
    go : Tested (f r) → (suc r ≤ j → least_from f d (suc r) ≤ j) → least_from f (suc d) r ≤ j
    go (passed e) ih = rw e h
    go (failed e) ih = let n : r ≡ j → ⊥ = λ q. is→n_t (f r) e (subst (λ (z : ℕ). T (f z)) (sym q) t) in rw e (ih (omega arith))

least_passes : (f : ℕ → Bool) (d r : ℕ) → T (f (r + d)) → T (f (least_from f d r))
unfolding least_from
least_passes f zero r t = subst (λ (z : ℕ). T (f z)) (omega arith) t
least_passes f (suc d) r t = go (test (f r)) (least_passes f d (suc r) (subst (λ (z : ℕ). T (f z)) (omega arith) t))
  where
    go : Tested (f r) → T (f (least_from f d (suc r))) → T (f (least_from f (suc d) r))
    go (passed e) ih = rw e (is→T (f r) e)
    go (failed e) ih = rw e ih

-- the rule asks whether the room may do: closed is what it may not do for
pub needed_room : (may : Mono → Bool) (v ns : List Mono) (t : ℕ)
    → closes may t v ns ≡ ltb (sum (take t (counts (gather (quotients_of may v) ns))) + t * suc t / 2) (length ns)
unfolding closes needed may_do
needed_room may v ns t = same_test (ltb t need) (ltb made (length ns)) into back
  where
    cs : List ℕ
    cs = counts (gather (quotients_of may v) ns)

    made : ℕ
    made = sum (take t cs) + t * suc t / 2

    need : ℕ
    need = least_from (may_do (length ns) cs) (length ns) 0

    into : T (ltb t need) → T (ltb made (length ns))
    into h = go (test (leb (length ns) made))
      where
        go : Tested (leb (length ns) made) → T (ltb made (length ns))
        go (passed e) =
            let less : t < need = ltb→lt t need h in
            let most : need ≤ t = least_le (may_do (length ns) cs) (length ns) 0 t (is→T (leb (length ns) made) e) (omega arith) in
            let z : ⊥ = omega arith in
            absurd z
        go (failed e) = lt→ltb made (length ns) (leb-false (length ns) made e)

    back : T (ltb made (length ns)) → T (ltb t need)
    back h = go (test (leb need t))
      where
        enough : T (may_do (length ns) cs need)
        enough =
            let e : length ns ≡ 0 + length ns = omega arith in
            least_passes (may_do (length ns) cs) (length ns) 0 (subst (λ (i : ℕ). T (may_do (length ns) cs i)) e (may_all (length ns) cs))

        go : Tested (leb need t) → T (ltb t need)
        go (passed e) =
            let low : need ≤ t = leb-true need t e in
            let all : T (may_do (length ns) cs (t - need + need)) = may_more (length ns) cs need (t - need) enough in
            let e : t - need + need ≡ t = omega arith in
            let own : T (leb (length ns) made) = subst (λ (i : ℕ). T (may_do (length ns) cs i)) e all in
            let most : length ns ≤ made = leb→le (length ns) made own in
            let less : made < length ns = ltb→lt made (length ns) h in
            let z : ⊥ = omega arith in
            absurd z
        go (failed e) = lt→ltb t need (leb-false need t e)

-- ---- nonsquares in another order
module _ (g : Mono → List Mono) (l l' : List Mono) (q : Rearranged l l') where
  abbrev those : List Mono
  those = gather g l

  abbrev others : List Mono
  others = gather g l'

  into : those ⊆ others
  into = gather_sub g l l' (rearranged_in l l' q)

  back : others ⊆ those
  back = gather_sub g l' l (rearranged_out l l' q)

  -- the same members, each as often
  arranged_same : arrange_by same before those ≡ arrange_by same before others
  arranged_same =
      sub_equal mono_order (arrange_by same before those) (arrange_by same before others) (arrange_asc mono_order those) (arrange_asc mono_order others)
      (λ y h. arrange_in mono_order others (into y (arrange_out mono_order those h)))
      (sub_length mono_order (arrange_by same before others) (arrange_by same before those) (arrange_asc mono_order others) (arrange_asc mono_order those)
      (λ y h. arrange_in mono_order those (back y (arrange_out mono_order others h))))

  count_same : (x : Mono) → count those x ≡ count others x
  unfolding count
  count_same x = kept_rearranged (same x) g l l' q

  counts_rearranged : counts those ≡ counts others
  unfolding counts
  counts_rearranged =
      ap sort_down (map_same (count those) (count others) (arrange_by same before those) (λ x h. count_same x) ∙ ap (map (count others)) arranged_same)

pub closes_rearranged : (may : Mono → Bool) (t : ℕ) (v l l' : List Mono) → Rearranged l l' → closes may t v l ≡ closes may t v l'
unfolding closes needed
closes_rearranged may t v l l' q =
    let e : length l ≡ length l' = rearranged_length l l' q in
    let c : counts (gather (quotients_of may v) l) ≡ counts (gather (quotients_of may v) l') = counts_rearranged (quotients_of may v) l l' q in
    rw (e, c) refl

-- nor on anything but the quotients of each
closes_quotients : (may may' : Mono → Bool) (t : ℕ) (v u ns : List Mono)
    → ((m : Mono) → m ∈ ns → quotients_of may v m ≡ quotients_of may' u m) → closes may t v ns ≡ closes may' t u ns
unfolding closes needed
closes_quotients may may' t v u ns e = rw (gather_same (quotients_of may v) (quotients_of may' u) ns e)

-- so members of V that divide none of them have no say
pub closes_divisors : (may : Mono → Bool) (t : ℕ) (v u ns : List Mono)
    → ((m : Mono) → m ∈ ns → keep (λ x. divides x m) v ≡ keep (λ x. divides x m) u) → closes may t v ns ≡ closes may t u ns
unfolding quotients_of
closes_divisors may t v u ns e = closes_quotients may may t v u ns (λ m h. ap (λ (l : List Mono). keep may (map (quo m) l)) (e m h))

-- and of the test for new monomials only what it says of their divisors
quotients_tested : (may may' : Mono → Bool) (v : List Mono) (m : Mono) → ((q : Mono) → T (divides q m) → may q ≡ may' q) → quotients_of may v m ≡ quotients_of may' v m
unfolding quotients_of
quotients_tested may may' v m e = keep_same may may' (map (quo m) those) (λ q i. e q (divisor q (Memᴰ.of_map (quo m) those i)))
  where
    those : List Mono
    those = keep (λ x. divides x m) v

    divisor : (q : Mono) → (x : Mono) × (x ∈ those) × (quo m x ≡ q) → T (divides q m)
    divisor q p = subst (λ (z : Mono). T (divides z m)) p.2 (quo_divides p.0 m (keep_out (λ x. divides x m) v p.1).1)

pub closes_tested : (may may' : Mono → Bool) (t : ℕ) (v ns : List Mono)
    → ((m : Mono) → m ∈ ns → (q : Mono) → T (divides q m) → may q ≡ may' q) → closes may t v ns ≡ closes may' t v ns
closes_tested may may' t v ns e = closes_quotients may may' t v v ns (λ m h. quotients_tested may may' v m (e m h))

-- what is closed needs more than there is room for
pub closes_out : (may : Mono → Bool) (t : ℕ) (v ns : List Mono) → closes may t v ns ≡ true → t < needed may v ns
unfolding closes
closes_out may t v ns e = ltb-true t (needed may v ns) e
