-- The counting argument of document 001, section 5.1, over lists: where each nonsquare is a new monomial times a member of V, or a product of two new
-- ones, the new ones are at least as many as the rule says. Assumes nothing.
use mathlib.Core.Path.{◌≡◌, refl, sym, ap, ◌∙◌, subst}
use mathlib.Core.Logic.{◌⊎◌, inl, inr}
use mathlib.Core.Bool.{Bool, not}
use mathlib.Core.List.Memᴰ
use mathlib.Core.List.{List, [], ◌∷◌, ◌++◌, map}
use Prim.Native.Nat.{ℕ, suc, ◌+◌, ◌*◌, ◌/◌, ◌≤◌}
use native.Mathlib.Omega.{arith}
use lib.Dec.{T, le→leb, T_not}
use lib.ListN.{length, take, length-append, length-map}
use Rattle.monomial.specs.Lists.{any, keep, gather, arrange_by}
use Rattle.monomial.specs.Monomial.{Mono, width}
use Rattle.monomial.specs.Order.{same, before}
use Rattle.monomial.specs.Product.{mul}
use Rattle.monomial.specs.Claims.{◌∈◌, ◌⊆◌, Ascending}
use Rattle.monomial.proofs.Tests.{Tested, passed, failed, test, is→T, is→n_t, or_e}
use Rattle.monomial.proofs.Members.{here, there, any_in, any_out, any_cons, keep_in, keep_out, keep_none, keep_append, keep_length, keep_split, keep_either, keep_some}
use Rattle.monomial.proofs.order.Laws.{mono_order}
use Rattle.monomial.proofs.order.Ascending.{keep_asc, arrange_asc, arrange_in, arrange_length, sub_length, sub_equal, among_in, among_out}
use Rattle.monomial.proofs.product.Laws.{mul_comm}
use Rattle.wiring.specs.Claims.{Wide}
use Rattle.counting.specs.Counting.{quotients_of, count, sort_down, counts, sum, may_do, needed, shares}
use Rattle.counting.proofs.Largest.{some_most, least_le}
use Rattle.counting.proofs.counting.Laws.{share_in}
use Rattle.counting.proofs.counting.Quotients.{quotient_in}

-- ---- products of two new monomials
triangle : List Mono → List Mono
triangle [] = []
triangle (x ∷ l) = map (mul x) (x ∷ l) ++ triangle l

triangle_length : (l : List Mono) → length (triangle l) ≡ length l * suc (length l) / 2
unfolding triangle
triangle_length [] = refl
triangle_length (x ∷ l) =
    let ih : length (triangle l) ≡ length l * suc (length l) / 2 = triangle_length l in
    let e : length (map (mul x) (x ∷ l) ++ triangle l) ≡ length (map (mul x) (x ∷ l)) + length (triangle l) = length-append (map (mul x) (x ∷ l)) (triangle l) in
    let f : length (map (mul x) (x ∷ l)) ≡ suc (length l) = length-map (x ∷ l) (mul x) in
    omega arith

triangle_in : (l : List Mono) (a b : Mono) → a ∈ l → b ∈ l → mul a b ∈ triangle l
unfolding triangle
triangle_in [] a b ha hb = absurd (Memᴰ.not-nil ha)
triangle_in (x ∷ l) a b ha hb = go (Memᴰ.cases_cons ha) (Memᴰ.cases_cons hb) (triangle_in l a b)
  where
    go : (a ≡ x) ⊎ (a ∈ l) → (b ≡ x) ⊎ (b ∈ l) → (a ∈ l → b ∈ l → mul a b ∈ triangle l) → mul a b ∈ triangle (x ∷ l)
    go (inl e) q ih = Memᴰ.append_left (triangle l) (Memᴰ.cast (ap (λ (z : Mono). mul z b) e) (Memᴰ.map (mul x) hb))
    go (inr h) (inl e) ih = Memᴰ.append_left (triangle l) (Memᴰ.cast (mul_comm a b ∙ ap (λ (z : Mono). mul z a) e) (Memᴰ.map (mul x) ha))
    go (inr h) (inr k) ih = Memᴰ.append_right (map (mul x) (x ∷ l)) (ih h k)

-- ---- how often a new monomial is a quotient
module _ (may : Mono → Bool) (v : List Mono) (wide : Wide v) where
  abbrev quotients : List Mono → List Mono
  quotients ns = gather (quotients_of may v) ns

  count_one : (w : Mono) → length w ≡ width → T (may w) → (ns : List Mono) → length (keep (shares v w) ns) ≤ count (quotients ns) w
  unfolding count gather keep
  count_one w lw mw [] = omega arith
  count_one w lw mw (m ∷ ns) = go (count_one w lw mw ns) (test (shares v w m))
    where
      one : List Mono
      one = quotients_of may v m

      both : length (keep (same w) (one ++ quotients ns)) ≡ length (keep (same w) one) + length (keep (same w) (quotients ns))
      both = ap length (keep_append (same w) one (quotients ns)) ∙ length-append (keep (same w) one) (keep (same w) (quotients ns))

      go : length (keep (shares v w) ns) ≤ length (keep (same w) (quotients ns)) → Tested (shares v w m)
          → length (keep (shares v w) (m ∷ ns)) ≤ length (keep (same w) (quotients_of may v m ++ quotients ns))
      go ih (passed e) =
          let k : 1 ≤ length (keep (same w) one) = keep_some (same w) one (quotient_in may v wide w m lw mw (is→T (shares v w m) e)) (mono_order.same_refl w) in
          rw e (omega (arith, both))
      go ih (failed e) = rw e (omega (arith, both))

  -- a new monomial times a member of v
  abbrev shared : List Mono → Mono → Bool
  shared nn m = any (λ w. shares v w m) nn

  -- such are no more than the new ones' counts come to
  count_all : (ns nn : List Mono) → Wide nn → ((x : Mono) → x ∈ nn → T (may x)) → length (keep (shared nn) ns) ≤ sum (map (count (quotients ns)) nn)
  unfolding sum
  count_all ns [] z y = let e : length (keep (shared []) ns) ≡ 0 = ap length (keep_none (shared []) ns (λ m h t. Memᴰ.not-nil (any_out (λ w. shares v w m) [] t).member)) in omega arith
  count_all ns (w ∷ nn) z y =
      let ih : length (keep (shared nn) ns) ≤ sum (map (count (quotients ns)) nn) = count_all ns nn (λ x h. z x (there h)) (λ x h. y x (there h)) in
      let h : length (keep (shares v w) ns) ≤ count (quotients ns) w = count_one w (z w here) (y w here) ns in
      let k : length (keep (shared (w ∷ nn)) ns) ≤ length (keep (shares v w) ns) + length (keep (shared nn) ns) =
      keep_either (shared (w ∷ nn)) (shares v w) (shared nn) ns (λ m t. or_e (shares v w m) (shared nn m) (subst T (any_cons (λ w. shares v w m) w nn) t)) in
      omega arith

-- ---- the counts of the new monomials, beside the largest counts
-- what counts nothing may be left out
sum_keep : (c : Mono → ℕ) (f : Mono → Bool) (l : List Mono) → ((x : Mono) → (T (f x) → ⊥) → c x ≡ 0) → sum (map c l) ≡ sum (map c (keep f l))
unfolding keep sum
sum_keep c f [] z = refl
sum_keep c f (x ∷ l) z = go (sum_keep c f l z) (test (f x))
  where
    go : sum (map c l) ≡ sum (map c (keep f l)) → Tested (f x) → sum (map c (x ∷ l)) ≡ sum (map c (keep f (x ∷ l)))
    go ih (passed e) = rw e (omega arith)
    go ih (failed e) = let k : c x ≡ 0 = z x (is→n_t (f x) e) in rw e (omega arith)

count_zero : (l : List Mono) (x : Mono) → (x ∈ l → ⊥) → count l x ≡ 0
unfolding count
count_zero l x n = ap length (keep_none (same x) l (λ y h t. n (Memᴰ.cast (mono_order.same_eq x y t) h)))

-- two ascending lists, each kept to the members of the other, are one
common : (l r : List Mono) → Ascending before l → Ascending before r → keep (λ x. any (same x) r) l ≡ keep (λ x. any (same x) l) r
common l r a b =
    let x : Ascending before (keep (λ x. any (same x) r) l) = keep_asc (λ x. any (same x) r) l a in
    let y : Ascending before (keep (λ x. any (same x) l) r) = keep_asc (λ x. any (same x) l) r b in
    sub_equal mono_order (keep (λ x. any (same x) r) l) (keep (λ x. any (same x) l) r) x y (swap l r)
    (sub_length mono_order (keep (λ x. any (same x) l) r) (keep (λ x. any (same x) r) l) y x (swap r l))
  where
    swap : (l r : List Mono) → keep (λ x. any (same x) r) l ⊆ keep (λ x. any (same x) l) r
    swap l r x h =
        let k : (x ∈ l) × T (any (same x) r) = keep_out (λ x. any (same x) r) l h in
        keep_in (λ x. any (same x) l) r (among_out mono_order x r k.1) (among_in mono_order k.0)

new_most : (d nn : List Mono) → Ascending before nn → sum (map (count d) nn) ≤ sum (take (length nn) (counts d))
unfolding counts
new_most d nn a =
    let own : List Mono = arrange_by same before d in
    let seen : Mono → Bool = λ x. any (same x) (arrange_by same before d) in
    let e : sum (map (count d) nn) ≡ sum (map (count d) (keep seen nn)) =
    sum_keep (count d) seen nn (λ x n. count_zero d x (λ m. n (among_in mono_order (arrange_in mono_order d m)))) in
    let c : keep seen nn ≡ keep (λ x. any (same x) nn) own = common nn own a (arrange_asc mono_order d) in
    let f : sum (map (count d) (keep seen nn)) ≡ sum (map (count d) (keep (λ x. any (same x) nn) own)) = ap (λ (r : List Mono). sum (map (count d) r)) c in
    let h : length (keep seen nn) ≡ length (keep (λ x. any (same x) nn) own) = ap (λ (r : List Mono). length r) c in
    let k : length (keep seen nn) ≤ length nn = keep_length seen nn in
    let g : sum (map (count d) (keep (λ x. any (same x) nn) own)) ≤ sum (take (length nn) (sort_down (map (count d) own))) =
    some_most (count d) (λ x. any (same x) nn) own (length nn) (omega arith) in
    omega arith

-- ---- the rule
-- a nonsquare by the members of v and new monomials: a new one times a member, or two new ones
pub data Made (v nn : List Mono) (m : Mono) : Type 0 where
  one : (w x : Mono) → w ∈ nn → x ∈ v → mul x w ≡ m → Made v nn m
  two : (a b : Mono) → a ∈ nn → b ∈ nn → mul a b ≡ m → Made v nn m

-- where each nonsquare is made so, the new ones are as many as the rule says
module _ (may : Mono → Bool) (v : List Mono) (wide : Wide v) (ns nn : List Mono) (a : Ascending before ns) (b : Ascending before nn)
    (long : Wide nn) (allowed : (x : Mono) → x ∈ nn → T (may x)) (each : (m : Mono) → m ∈ ns → Made v nn m) where
  abbrev near : Mono → Bool
  near = shared may v wide nn

  -- what is no new one times a member is a product of two new ones
  far : keep (λ m. not (near m)) ns ⊆ arrange_by same before (triangle nn)
  far m h = go (each m k.0)
    where
      k : (m ∈ ns) × T (not (near m))
      k = keep_out (λ m. not (near m)) ns h

      go : Made v nn m → m ∈ arrange_by same before (triangle nn)
      go (one w x hw hx e) = absurd (T_not (near m) k.1 (any_in (λ w. shares v w m) hw (share_in v wide w m (long w hw) x hx e)))
      go (two x y hx hy e) = arrange_in mono_order (triangle nn) (Memᴰ.cast (sym e) (triangle_in nn x y hx hy))

  total : length ns ≤ sum (take (length nn) (counts (gather (quotients_of may v) ns))) + length nn * suc (length nn) / 2
  total =
      let all : List Mono = gather (quotients_of may v) ns in
      let rest : List Mono = keep (λ m. not (near m)) ns in
      let square : List Mono = arrange_by same before (triangle nn) in
      let s : length (keep near ns) + length rest ≡ length ns = keep_split near ns in
      let c : length (keep near ns) ≤ sum (map (count all) nn) = count_all may v wide ns nn long allowed in
      let n : sum (map (count all) nn) ≤ sum (take (length nn) (counts all)) = new_most all nn b in
      let l : length rest ≤ length square = sub_length mono_order rest square (keep_asc (λ m. not (near m)) ns a) (arrange_asc mono_order (triangle nn)) far in
      let t : length square ≤ length (triangle nn) = arrange_length same before (triangle nn) in
      let e : length (triangle nn) ≡ length nn * suc (length nn) / 2 = triangle_length nn in
      omega arith

  pub enough : needed may v ns ≤ length nn
  unfolding needed may_do
  enough =
      let cs : List ℕ = counts (gather (quotients_of may v) ns) in
      least_le (may_do (length ns) cs) (length ns) 0 (length nn) (le→leb (length ns) (sum (take (length nn) cs) + length nn * suc (length nn) / 2) total) (omega arith)
