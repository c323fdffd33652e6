-- The quotients that occur so often, each counted where it is first met, are all that occur so often (`news_frequent`). V has no member twice: so a
-- monomial has no quotient twice, and a quotient occurs as often as it has multiples. Assumes nothing.
use mathlib.Core.Path.{◌≡◌, refl, sym, ap, ap₂, ◌∙◌, subst}
use mathlib.Core.Logic.{◌⊎◌, inl, inr, ⊎_elim}
use mathlib.Core.Bool.{Bool, true, false, not, cond, ◌&&◌}
use mathlib.Core.List.Memᴰ
use mathlib.Core.List.{List, [], ◌∷◌, ◌++◌, map}
use Prim.Native.Nat.{ℕ, suc, ◌+◌, ◌-◌, ◌<◌, ◌≤◌}
use native.Mathlib.Omega.{arith}
use lib.Dec.{T, leb, T_not, not_T, leb→le, nleb→lt}
use lib.ListN.{length, length-append, length-map}
use lib.Seq.{append_snoc}
use Rattle.monomial.specs.Lists.{any, keep, gather, arrange_by}
use Rattle.monomial.specs.Monomial.{Mono, width}
use Rattle.monomial.specs.Order.{same, before}
use Rattle.monomial.specs.Product.{mul}
use Rattle.monomial.specs.Quotient.{divides, quo}
use Rattle.monomial.specs.Claims.{◌∈◌, ◌⊆◌, Different}
use Rattle.monomial.proofs.Tests.{Tested, passed, failed, test, T→is, is→T, n_t→is, is→n_t, and_l, and_r, and_i, and_true, same_test}
use Rattle.monomial.proofs.Members.{here, keep_in, keep_out, keep_none, keep_append, keep_map, keep_both, keep_same, Gathered, gather_out}
use Rattle.monomial.proofs.Loops.{pointwise_length}
use Rattle.monomial.proofs.Different.{different_keep, different_append, different_map, different_same, ascending_different}
use Rattle.monomial.proofs.order.Laws.{mono_order}
use Rattle.monomial.proofs.order.Ascending.{arrange_none, arrange_asc, arrange_in, arrange_out, among_in, among_out}
use Rattle.monomial.proofs.product.Laws.{mul_comm, mul_cancel}
use Rattle.monomial.proofs.quotient.Laws.{quo_mul, mul_quo, divides_length, factor_divides}
use Rattle.wiring.specs.Claims.{Wide}
use Rattle.counting.specs.Counting.{quotients_of, count, shares, hits, frequent, begins}
use Rattle.counting.proofs.counting.Laws.{Shared, share_in, share_out}
use Rattle.counting.proofs.counting.Hits.{hits_hit, hits_miss, hits_few, hits_append}
use Rattle.counting.proofs.counting.Begins.{news}

-- of two lists put in order, those that pass a test are those of the first, and those of the second that are not in the first
arranged_two : (p : Mono → Bool) (a b : List Mono) → Different a
    → length (keep p (arrange_by same before (a ++ b))) ≡ length (keep p a) + length (keep (λ q. p q && not (any (same q) a)) (arrange_by same before b))
arranged_two p a b d = different_same whole parts once apart into back ∙ length-append (keep p a) others
  where
    new : Mono → Bool
    new q = p q && not (any (same q) a)

    whole : List Mono
    whole = keep p (arrange_by same before (a ++ b))

    others : List Mono
    others = keep (λ q. p q && not (any (same q) a)) (arrange_by same before b)

    parts : List Mono
    parts = keep p a ++ others

    once : Different whole
    once = different_keep p (arrange_by same before (a ++ b)) (ascending_different mono_order (arrange_by same before (a ++ b)) (arrange_asc mono_order (a ++ b)))

    apart : Different parts
    apart =
        different_append (keep p a) others (different_keep p a d)
        (different_keep (λ q. p q && not (any (same q) a)) (arrange_by same before b) (ascending_different mono_order (arrange_by same before b) (arrange_asc mono_order b)))
        (λ x i j. T_not (any (same x) a) (and_r (p x) (not (any (same x) a)) (keep_out (λ q. p q && not (any (same q) a)) (arrange_by same before b) j).1) (among_in mono_order (keep_out p a i).0))

    into : whole ⊆ parts
    into x h =
        let k : (x ∈ arrange_by same before (a ++ b)) × T (p x) = keep_out p (arrange_by same before (a ++ b)) h in
        go k.1 (Memᴰ.append_cases a (arrange_out mono_order (a ++ b) k.0)) (test (any (same x) a))
      where
        go : T (p x) → (x ∈ a) ⊎ (x ∈ b) → Tested (any (same x) a) → x ∈ parts
        go t i (passed e) = Memᴰ.append_left others (keep_in p a (among_out mono_order x a (is→T (any (same x) a) e)) t)
        go t (inl i) (failed e) = absurd (is→n_t (any (same x) a) e (among_in mono_order i))
        go t (inr i) (failed e) =
            Memᴰ.append_right (keep p a)
            (keep_in (λ q. p q && not (any (same q) a)) (arrange_by same before b) (arrange_in mono_order b i)
            (and_i (p x) (not (any (same x) a)) t (not_T (any (same x) a) (is→n_t (any (same x) a) e))))

    back : parts ⊆ whole
    back x h = ⊎_elim first second (Memᴰ.append_cases (keep p a) h)
      where
        first : x ∈ keep p a → x ∈ whole
        first i = let k = keep_out p a i in keep_in p (arrange_by same before (a ++ b)) (arrange_in mono_order (a ++ b) (Memᴰ.append_left b k.0)) k.1

        second : x ∈ others → x ∈ whole
        second i =
            let k = keep_out (λ q. p q && not (any (same q) a)) (arrange_by same before b) i in
            keep_in p (arrange_by same before (a ++ b)) (arrange_in mono_order (a ++ b) (Memᴰ.append_right a (arrange_out mono_order b k.0))) (and_l (p x) (not (any (same x) a)) k.1)

-- ---- the quotients of a monomial
module _ (may : Mono → Bool) (v : List Mono) (wide : Wide v) where
  pub quotient_in : (q m : Mono) → length q ≡ width → T (may q) → T (shares v q m) → q ∈ quotients_of may v m
  unfolding quotients_of
  quotient_in q m long t u =
      let s : Shared v wide q m long = share_out v wide q m long u in
      let x : Mono = s.by in
      let alike : length x ≡ length q = wide x s.in_v ∙ sym long in
      let e : quo m x ≡ q = ap (λ (z : Mono). quo z x) (sym s.is) ∙ quo_mul x q alike in
      let d : T (divides x m) = subst (λ (z : Mono). T (divides x z)) s.is (factor_divides x q alike) in
      keep_in may (map (quo m) (keep (λ x. divides x m) v)) (Memᴰ.cast (sym e) (Memᴰ.map (quo m) (keep_in (λ x. divides x m) v s.in_v d))) t

  -- what is a quotient of m
  pub record IsQuotient (m q : Mono) : Type 0 where
    pub long : length q ≡ width
    pub allowed : T (may q)
    pub shared : T (shares v q m)

  pub quotient_out : (m q : Mono) → q ∈ quotients_of may v m → IsQuotient m q
  unfolding quotients_of
  quotient_out m q h =
      let k : (q ∈ map (quo m) (keep (λ x. divides x m) v)) × T (may q) = keep_out may (map (quo m) (keep (λ x. divides x m) v)) h in
      let p = Memᴰ.of_map (quo m) (keep (λ x. divides x m) v) k.0 in
      let x : Mono = p.0 in
      let i : (x ∈ v) × T (divides x m) = keep_out (λ x. divides x m) v p.1 in
      let alike : length x ≡ length m = divides_length x m i.1 in
      let long : length q ≡ width = ap length (sym p.2) ∙ pointwise_length ◌-◌ m x (sym alike) ∙ sym alike ∙ wide x i.0 in
      let is : mul x q ≡ m = ap (mul x) (sym p.2) ∙ mul_quo x m i.1 in
      record { long = long; allowed = k.1; shared = share_in v wide q m long x i.0 is }

  -- where V has no member twice, no quotient of m occurs twice
  module _ (once : Different v) where
    quotients_once : (m : Mono) → Different (quotients_of may v m)
    unfolding quotients_of
    quotients_once m =
        different_keep may (map (quo m) (keep (λ x. divides x m) v))
        (different_map (quo m) (keep (λ x. divides x m) v) one (different_keep (λ x. divides x m) v once))
      where
        one : (x y : Mono) → x ∈ keep (λ x. divides x m) v → y ∈ keep (λ x. divides x m) v → quo m x ≡ quo m y → x ≡ y
        one x y h k e =
            let i : (x ∈ v) × T (divides x m) = keep_out (λ x. divides x m) v h in
            let j : (y ∈ v) × T (divides y m) = keep_out (λ x. divides x m) v k in
            let lx : length x ≡ width = wide x i.0 in
            let ly : length y ≡ width = wide y j.0 in
            let lq : length (quo m x) ≡ width = pointwise_length ◌-◌ m x (sym (divides_length x m i.1)) ∙ sym (divides_length x m i.1) ∙ lx in
            let a : mul (quo m x) x ≡ m = mul_comm (quo m x) x ∙ mul_quo x m i.1 in
            let b : mul (quo m x) y ≡ m = ap (λ (z : Mono). mul z y) e ∙ mul_comm (quo m y) y ∙ mul_quo y m j.1 in
            mul_cancel (quo m x) x y (lq ∙ sym lx) (lq ∙ sym ly) (a ∙ sym b)

    -- so a quotient occurs as often as it has multiples
    pub quotient_count : (q : Mono) → length q ≡ width → T (may q) → (l : List Mono) → count (gather (quotients_of may v) l) q ≡ hits v q l
    unfolding count gather hits keep
    quotient_count q long t [] = refl
    quotient_count q long t (m ∷ l) = go (quotient_count q long t l) (test (shares v q m))
      where
        rest : List Mono
        rest = gather (quotients_of may v) l

        both : length (keep (same q) (quotients_of may v m ++ rest)) ≡ length (keep (same q) (quotients_of may v m)) + length (keep (same q) rest)
        both = ap length (keep_append (same q) (quotients_of may v m) rest) ∙ length-append (keep (same q) (quotients_of may v m)) (keep (same q) rest)

        own : (s : Bool) → shares v q m ≡ s → length (keep (same q) (quotients_of may v m)) ≡ cond s 1 0
        own true e =
            different_same (keep (same q) (quotients_of may v m)) (q ∷ []) (different_keep (same q) (quotients_of may v m) (quotients_once m)) (λ h. Memᴰ.not-nil h, tt)
            (λ x h. Memᴰ.cast (sym (mono_order.same_eq q x (keep_out (same q) (quotients_of may v m) h).1)) here)
            (λ x h. ⊎_elim (λ i. Memᴰ.cast i (keep_in (same q) (quotients_of may v m) (quotient_in q m long t (is→T (shares v q m) e)) (mono_order.same_refl q)))
            (λ i. absurd (Memᴰ.not-nil i)) (Memᴰ.cases_cons h))
        own false e =
            ap length (keep_none (same q) (quotients_of may v m)
            (λ x h s. is→n_t (shares v q m) e (quotient_out m q (Memᴰ.cast (mono_order.same_eq q x s) h)).shared))

        go : length (keep (same q) rest) ≡ length (keep (shares v q) l) → Tested (shares v q m)
            → length (keep (same q) (quotients_of may v m ++ rest)) ≡ length (keep (shares v q) (m ∷ l))
        go ih (passed e) = rw e (omega (arith, both, own true e))
        go ih (failed e) = rw e (omega (arith, both, own false e))

    -- ---- those that occur so often in a whole list, met behind those that are done
    module _ (often : ℕ) (whole : List Mono) where
      frequents : Mono → Bool
      frequents q = leb often (count (gather (quotients_of may v) whole) q)

      fresh : List Mono → Mono → Bool
      fresh done q = not (leb 1 (hits v q done))

      fresh_out : (done : List Mono) (q : Mono) → T (fresh done q) → hits v q done ≡ 0
      unfolding fresh
      fresh_out done q t = let h : hits v q done < 1 = nleb→lt 1 (hits v q done) t in omega arith

      fresh_in : (done : List Mono) (q : Mono) → hits v q done ≡ 0 → T (fresh done q)
      unfolding fresh
      fresh_in done q e = not_T (leb 1 (hits v q done)) (λ t. let h : 1 ≤ hits v q done = leb→le 1 (hits v q done) t in let z : ⊥ = omega arith in z)

      module _ (done rest : List Mono) (m : Mono) (is : whole ≡ done ++ (m ∷ rest)) where
        -- one that is first met in m occurs in m, and as often as it has multiples in the rest
        first_count : (q : Mono) → IsQuotient m q → T (fresh done q) → count (gather (quotients_of may v) whole) q ≡ suc (hits v q rest)
        first_count q i f =
            quotient_count q i.long i.allowed whole
            ∙ ap (hits v q) is
            ∙ hits_append v q done (m ∷ rest)
            ∙ omega (arith, fresh_out done q f, hits_hit v q m rest (T→is (shares v q m) i.shared))

        -- by a member of V
        by_member : (x : Mono) → x ∈ v → T (divides x m) → T (may (quo m x)) → IsQuotient m (quo m x)
        unfolding quotients_of
        by_member x h d t = quotient_out m (quo m x) (keep_in may (map (quo m) (keep (λ x. divides x m) v)) (Memᴰ.map (quo m) (keep_in (λ x. divides x m) v h d)) t)

        chosen : Mono → Bool
        chosen x = divides x m && (may (quo m x) && (frequents (quo m x) && fresh done (quo m x)))

        begins_chosen : (x : Mono) → x ∈ v → begins may v often done rest m x ≡ chosen x
        unfolding begins chosen frequents fresh
        begins_chosen x h = same_test (begins may v often done rest m x) (chosen x) into back
          where
            q : Mono
            q = quo m x

            into : T (begins may v often done rest m x) → T (chosen x)
            into t =
                let d : T (divides x m) = search (and_l, and_r, t) in
                let a : T (may q) = search (and_l, and_r, t) in
                let o : T (leb often (suc (hits v q rest))) = search (and_l, and_r, t) in
                let f : T (fresh done q) = search (and_l, and_r, t) in
                let c : T (frequents q) = subst (λ (k : ℕ). T (leb often k)) (sym (first_count q (by_member x h d a) f)) o in
                and_i (divides x m) (may q && (frequents q && fresh done q)) d
                (and_i (may q) (frequents q && fresh done q) a (and_i (frequents q) (fresh done q) c f))

            back : T (chosen x) → T (begins may v often done rest m x)
            back t =
                let d : T (divides x m) = search (and_l, t) in
                let a : T (may q) = search (and_l, and_r, t) in
                let c : T (frequents q) = search (and_l, and_r, t) in
                let f : T (fresh done q) = search (and_l, and_r, t) in
                let o : T (leb often (suc (hits v q rest))) = subst (λ (k : ℕ). T (leb often k)) (first_count q (by_member x h d a) f) c in
                and_i (divides x m && may q && leb often (suc (hits v q rest))) (fresh done q)
                (and_i (divides x m && may q) (leb often (suc (hits v q rest))) (and_i (divides x m) (may q) d a) o) f

        begin_here : length (keep (begins may v often done rest m) v) ≡ length (keep (λ q. frequents q && fresh done q) (quotients_of may v m))
        unfolding quotients_of chosen
        begin_here =
            let test : Mono → Bool = λ q. frequents q && fresh done q in
            let divisors : List Mono = keep (λ x. divides x m) v in
            ap length (keep_same (begins may v often done rest m) chosen v begins_chosen)
            ∙ ap length (sym (keep_both (λ x. may (quo m x) && test (quo m x)) (λ x. divides x m) v))
            ∙ sym (length-map (keep (λ x. may (quo m x) && test (quo m x)) divisors) (quo m))
            ∙ ap length (sym (keep_map (λ q. may q && test q) (quo m) divisors))
            ∙ ap length (sym (keep_both test may (map (quo m) divisors)))

        -- what is not met before the rest is not met before m, and is no quotient of m
        fresh_more : (q : Mono) → q ∈ arrange_by same before (gather (quotients_of may v) rest)
            → (frequents q && fresh (done ++ (m ∷ [])) q) ≡ ((frequents q && fresh done q) && not (any (same q) (quotients_of may v m)))
        fresh_more q h = same_test (frequents q && fresh (done ++ (m ∷ [])) q) ((frequents q && fresh done q) && not (any (same q) (quotients_of may v m))) into back
          where
            g : Gathered (quotients_of may v) q rest
            g = gather_out (quotients_of may v) rest (arrange_out mono_order (gather (quotients_of may v) rest) h)

            i : IsQuotient g.entry q
            i = quotient_out g.entry q g.inside

            split : hits v q (done ++ (m ∷ [])) ≡ hits v q done + hits v q (m ∷ [])
            split = hits_append v q done (m ∷ [])

            into : T (frequents q && fresh (done ++ (m ∷ [])) q) → T ((frequents q && fresh done q) && not (any (same q) (quotients_of may v m)))
            into t =
                let c : T (frequents q) = and_l (frequents q) (fresh (done ++ (m ∷ [])) q) t in
                let none : hits v q (done ++ (m ∷ [])) ≡ 0 = fresh_out (done ++ (m ∷ [])) q (and_r (frequents q) (fresh (done ++ (m ∷ [])) q) t) in
                let f : T (fresh done q) = fresh_in done q (omega (arith, none, split)) in
                let out : T (any (same q) (quotients_of may v m)) → ⊥ =
                λ a. let s : T (shares v q m) = (quotient_out m q (among_out mono_order q (quotients_of may v m) a)).shared in
                let one : hits v q (m ∷ []) ≡ suc (hits v q []) = hits_hit v q m [] (T→is (shares v q m) s) in
                let z : ⊥ = omega (arith, none, split, one) in
                z in
                and_i (frequents q && fresh done q) (not (any (same q) (quotients_of may v m))) (and_i (frequents q) (fresh done q) c f)
                (not_T (any (same q) (quotients_of may v m)) out)

            back : T ((frequents q && fresh done q) && not (any (same q) (quotients_of may v m))) → T (frequents q && fresh (done ++ (m ∷ [])) q)
            back t =
                let p : T (frequents q && fresh done q) = and_l (frequents q && fresh done q) (not (any (same q) (quotients_of may v m))) t in
                let none : hits v q done ≡ 0 = fresh_out done q (and_r (frequents q) (fresh done q) p) in
                let out : T (any (same q) (quotients_of may v m)) → ⊥ = T_not (any (same q) (quotients_of may v m)) (and_r (frequents q && fresh done q) (not (any (same q) (quotients_of may v m))) t) in
                let apart : shares v q m ≡ false = n_t→is (shares v q m) (λ s. out (among_in mono_order (quotient_in q m i.long i.allowed s))) in
                let zero : hits v q (m ∷ []) ≡ hits v q [] = hits_miss v q m [] apart in
                let nil : hits v q [] ≤ 0 = hits_few v q [] in
                and_i (frequents q) (fresh (done ++ (m ∷ [])) q) (and_l (frequents q) (fresh done q) p) (fresh_in (done ++ (m ∷ [])) q (omega (arith, none, split, zero)))

      news_all : (l done : List Mono) → whole ≡ done ++ l
          → news may v often done l ≡ length (keep (λ q. frequents q && fresh done q) (arrange_by same before (gather (quotients_of may v) l)))
      unfolding news gather keep
      news_all [] done is = rw (arrange_none same before) refl
      news_all (m ∷ rest) done is =
          let test : Mono → Bool = λ q. frequents q && fresh done q in
          let later : List Mono = arrange_by same before (gather (quotients_of may v) rest) in
          let ih : news may v often (done ++ (m ∷ [])) rest ≡ length (keep (λ q. frequents q && fresh (done ++ (m ∷ [])) q) later) =
          news_all rest (done ++ (m ∷ [])) (is ∙ sym (append_snoc done m rest)) in
          let new : keep (λ q. frequents q && fresh (done ++ (m ∷ [])) q) later ≡ keep (λ q. test q && not (any (same q) (quotients_of may v m))) later =
          keep_same (λ q. frequents q && fresh (done ++ (m ∷ [])) q) (λ q. test q && not (any (same q) (quotients_of may v m))) later (fresh_more done rest m is) in
          ap₂ ◌+◌ (begin_here done rest m is) (ih ∙ ap length new)
          ∙ sym (arranged_two test (quotients_of may v m) (gather (quotients_of may v) rest) (quotients_once m))

    pub news_frequent : (often : ℕ) (l : List Mono) → news may v often [] l ≡ frequent may v l often
    unfolding frequent frequents fresh hits keep
    news_frequent often l =
        news_all often l l [] refl
        ∙ ap length (keep_same (λ q. frequents often l q && fresh often l [] q) (frequents often l) (arrange_by same before (gather (quotients_of may v) l)) (λ q h. and_true (frequents often l q)))
