-- Set records: the record of a set that lies in bytes, and the order of the bytes of records, which is the order of their sets. Assumes nothing.
use mathlib.Core.Path.{◌≡◌, refl, sym, ap, subst, ◌∙◌}
use mathlib.Core.List.{List, [], ◌∷◌, ◌++◌, append_assoc}
use Prim.Native.Nat.{ℕ, zero, suc, ◌+◌, ◌*◌, ◌-◌, ◌≤◌}
use native.Mathlib.Omega.{arith}
use lib.Dec.{T}
use lib.ListN.{length, get_or, replicate, replicate-append-replicate}
use Rattle.monomial.specs.Lists.{gather}
use Rattle.monomial.specs.Monomial.{Mono, one, width}
use Rattle.monomial.specs.Order.{same, before, same_set, before_set}
use Rattle.monomial.specs.Claims.{◌∈◌, Compared, less, equal, more}
use Rattle.monomial.proofs.Tests.{same_test}
use Rattle.monomial.proofs.Members.{here, there}
use Rattle.monomial.proofs.order.Laws.{not_both, Ahead, smaller, tied, ahead, ℕ-order, mono_order, set_order, before_append, append_before, one_before, not_before_empty}
use Rattle.wiring.specs.Panel.{cards, set_bytes}
use Rattle.wiring.specs.Signals.{flat, tabled}
use Rattle.wiring.specs.Sets.{set_record, set_of}
use Rattle.wiring.specs.Claims.{Wide}
use Rattle.wiring.proofs.signals.Tables.{flat_tabled}
use Rattle.wiring.proofs.sets.Exact.{record_is, record_length, record_holds}
use Rattle.walk.specs.Listing.{Recorded, Lies}

abbrev zeros : ℕ → List ℕ
zeros n = replicate n 0

-- zeros behind a list are what is read behind it anyway
get_d_zeros : (l : List ℕ) (n i : ℕ) → get_or (l ++ zeros n) i 0 ≡ get_or l i 0
get_d_zeros [] zero i = refl
get_d_zeros [] (suc n) zero = refl
get_d_zeros [] (suc n) (suc i) = get_d_zeros [] n i
get_d_zeros (x ∷ l) n zero = refl
get_d_zeros (x ∷ l) n (suc i) = get_d_zeros l n i

-- ---- the record of a set whose monomials lie side by side: these bytes, then zeros
pub record-at : (set : List ℕ) → Lies set → (i : ℕ) → get_or (set_record (tabled set)) i 0 ≡ get_or set i 0
record-at set l i =
    ap (λ (b : List ℕ). get_or b i 0) (record_is (tabled set) ∙ ap (λ (b : List ℕ). b ++ zeros (set_bytes - width * length (tabled set))) (flat_tabled set l.whole))
    ∙ get_d_zeros set (set_bytes - width * length (tabled set)) i

pub record_long : (set : List ℕ) → Lies set → length (set_record (tabled set)) ≡ set_bytes
record_long set l = record_length (tabled set) l.recorded.few l.recorded.wide

-- ---- a record, place by place: the monomials of the set, then 1 in the unused places
padded : ℕ → List Mono → List ℕ
padded zero s = []
padded (suc n) [] = one width ++ padded n []
padded (suc n) (m ∷ s) = m ++ padded n s

padded_is : (n : ℕ) (s : List Mono) → length s ≤ n → flat s ++ zeros (width * n - width * length s) ≡ padded n s
unfolding padded gather
padded_is zero [] h = refl
padded_is zero (m ∷ s) h = let z : ⊥ = omega arith in absurd z
padded_is (suc n) [] h =
    let e : width * suc n - width * 0 ≡ width + (width * n - width * 0) = omega arith in
    let first : zeros (width + (width * n - width * 0)) ≡ one width ++ zeros (width * n - width * 0) = sym (replicate-append-replicate width (width * n - width * 0) 0) in
    rw (e, first) (ap (λ (l : List ℕ). one width ++ l) (padded_is n [] (omega arith)))
padded_is (suc n) (m ∷ s) h =
    let e : width * suc n - width * suc (length s) ≡ width * n - width * length s = omega arith in
    rw e (append_assoc m (flat s) (zeros (width * n - width * length s)) ∙ ap (λ (l : List ℕ). m ++ l) (padded_is n s (omega arith)))

padded_before : (n : ℕ) (x y : List Mono) → length y ≤ n → Wide x → Wide y → ((m : Mono) → m ∈ y → m ≡ one width → ⊥) → T (before_set x y) → T (before (padded n x) (padded n y))
unfolding padded
padded_before n [] [] h wx wy proper t = absurd (not_before_empty mono_order [] t)
padded_before n (a ∷ x) [] h wx wy proper t = absurd (not_before_empty mono_order (a ∷ x) t)
padded_before zero [] (b ∷ y) h wx wy proper t = let z : ⊥ = omega arith in absurd z
padded_before zero (a ∷ x) (b ∷ y) h wx wy proper t = let z : ⊥ = omega arith in absurd z
padded_before (suc n) [] (b ∷ y) h wx wy proper t =
    before_append ℕ-order (one width) b (padded n []) (padded n y) (sym (wy b here)) (one_before width b (wy b here) (proper b here))
padded_before (suc n) (a ∷ x) (b ∷ y) h wx wy proper t =
    go (ahead mono_order a b x y t) (padded_before n x y (omega arith) (λ m k. wx m (there k)) (λ m k. wy m (there k)) (λ m k. proper m (there k)))
  where
    go : Ahead mono_order a b x y → (T (before_set x y) → T (before (padded n x) (padded n y))) → T (before (a ++ padded n x) (b ++ padded n y))
    go (smaller s) ih = before_append ℕ-order a b (padded n x) (padded n y) (wx a here ∙ sym (wy b here)) s
    go (tied e s) ih = subst (λ (c : Mono). T (before (a ++ padded n x) (c ++ padded n y))) (mono_order.same_eq a b e) (append_before ℕ-order a (padded n x) (padded n y) (ih s))

-- ---- two records
rises : (x y : List Mono) → Recorded x → Recorded y → T (before_set x y) → T (before (set_record x) (set_record y))
rises x y p q t =
    rw (record_is x, record_is y, padded_is cards x p.few, padded_is cards y q.few) (padded_before cards x y q.few p.wide q.wide q.proper t)

pub record_before : (x y : List Mono) → Recorded x → Recorded y → before (set_record x) (set_record y) ≡ before_set x y
record_before x y p q = same_test (before (set_record x) (set_record y)) (before_set x y) (λ t. go t (set_order.total x y)) (rises x y p q)
  where
    go : T (before (set_record x) (set_record y)) → Compared same_set before_set x y → T (before_set x y)
    go t (less s) = s
    go t (equal s) =
        let e : set_record x ≡ set_record y = ap (λ (u : List Mono). set_record u) (set_order.same_eq x y s) in
        absurd (mono_order.irrefl (set_record y) (subst (λ (b : List ℕ). T (before b (set_record y))) e t))
    go t (more s) = absurd (not_both mono_order (set_record x) (set_record y) t (rises y x q p s))

-- a record has one set
pub record_same : (x y : List Mono) → Recorded x → Recorded y → same (set_record y) (set_record x) ≡ same_set x y
record_same x y p q = same_test (same (set_record y) (set_record x)) (same_set x y) one_set one_record
  where
    one_set : T (same (set_record y) (set_record x)) → T (same_set x y)
    one_set t =
        let bytes : set_record x ≡ set_record y = sym (mono_order.same_eq (set_record y) (set_record x) t) in
        let e : x ≡ y = sym (record_holds x p.few p.wide p.proper) ∙ ap (λ (b : List ℕ). set_of b) bytes ∙ record_holds y q.few q.wide q.proper in
        subst (λ (u : List Mono). T (same_set x u)) e (set_order.same_refl x)

    one_record : T (same_set x y) → T (same (set_record y) (set_record x))
    one_record t =
        let e : y ≡ x = sym (set_order.same_eq x y t) in
        subst (λ (u : List Mono). T (same (set_record y) (set_record u))) e (mono_order.same_refl (set_record y))
