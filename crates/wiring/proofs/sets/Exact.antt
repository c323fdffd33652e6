-- Exactly when a set record is right, in plain facts; and set records against sets: each right record is the record of its set, and the record of
-- each set that may stand in one is right and holds that set. Assumes nothing.
use mathlib.Core.Path.{◌≡◌, refl, sym, ap, ap₂, subst, ◌∙◌}
use mathlib.Core.Logic.{◌↔◌}
use mathlib.Core.Bool.{Bool, not, ◌&&◌}
use mathlib.Core.List.Memᴰ
use mathlib.Core.List.{List, [], ◌∷◌, ◌++◌}
use Prim.Native.Nat.{ℕ, zero, suc, ◌+◌, ◌*◌, ◌-◌, ◌<◌, ◌≤◌}
use native.Mathlib.Omega.{arith}
use lib.Dec.{T, eqb, eqb→eq, not_T, T_not}
use lib.ListN.{length, get_or, take, drop, replicate, length-append, length-drop, length-replicate, take-append-drop}
use lib.Seq.{length-take-le, get_or-append-add, get_or-take, get_or-drop, ext_get_or}
use Rattle.monomial.specs.Lists.{any, all, place}
use Rattle.monomial.specs.Monomial.{Mono, one, constants, width}
use Rattle.monomial.specs.Order.{same, before}
use Rattle.monomial.specs.Claims.{◌∈◌, ◌⊆◌, Ascending}
use Rattle.monomial.proofs.Tests.{T→is, n_t→is, and_l, and_r, and_i}
use Rattle.monomial.proofs.Members.{here, all_in, all_out, take_in, fill_at}
use Rattle.monomial.proofs.Counting.{at_in}
use Rattle.monomial.proofs.Strips.{strip_length, strip_at}
use Rattle.monomial.proofs.product.Laws.{at_most_all}
use Rattle.monomial.proofs.order.Laws.{mono_order}
use Rattle.monomial.proofs.order.Ascending.{among_in, among_out, sub_length}
use Rattle.wiring.specs.Panel.{cards, set_bytes, set_exponent}
use Rattle.wiring.specs.Sockets.{may_be}
use Rattle.wiring.specs.declared.panel.Panel.{Panel}
use Rattle.wiring.specs.Signals.{flat}
use Rattle.wiring.specs.Terms.{exponents_right}
use Rattle.wiring.specs.Sets.{places, size_of, set_of, ascending, monomial_right, set_right, set_record}
use Rattle.wiring.specs.Claims.{Permitted, Buildable, RightRecord, Recordable, Wide}
use Rattle.wiring.proofs.kit.Laws.{may_buildable, buildable_may}
use Rattle.wiring.proofs.terms.Laws.{Fit, exponents_in, exponents_everywhere}
use Rattle.wiring.proofs.signals.Tables.{flat_cuts}
use Rattle.wiring.proofs.sets.Laws.{place_at, places_length, size_few, places_at, places_width, set_narrow, used_length, used_at, ascending_in, ascending_out}

-- ---- zeros
zero_all : (l : List ℕ) → T (all (eqb 0) l) → (k : ℕ) → get_or l k 0 ≡ 0
unfolding all
zero_all [] t k = refl
zero_all (x ∷ l) t zero = sym (eqb→eq 0 x (and_l (eqb 0 x) (all (eqb 0) l) t))
zero_all (x ∷ l) t (suc k) = zero_all l (and_r (eqb 0 x) (all (eqb 0) l) t) k

all_zero : (l : List ℕ) → ((k : ℕ) → get_or l k 0 ≡ 0) → T (all (eqb 0) l)
unfolding all
all_zero [] h = tt
all_zero (x ∷ l) h = and_i (eqb 0 x) (all (eqb 0) l) (subst (λ (z : ℕ). T (eqb 0 z)) (sym (h 0)) tt) (all_zero l (λ k. h (suc k)))

zero_list : (l : List ℕ) (w : ℕ) → length l ≡ w → ((k : ℕ) → k < w → get_or l k 0 ≡ 0) → l ≡ replicate w 0
zero_list [] zero e h = refl
zero_list [] (suc w) e h = let z : ⊥ = omega arith in absurd z
zero_list (x ∷ l) zero e h = let z : ⊥ = omega arith in absurd z
zero_list (x ∷ l) (suc w) e h = ap₂ ◌∷◌ (h 0 (omega arith)) (zero_list l w (omega arith) (λ k j. h (suc k) (omega arith)))

-- ---- a right record, fact by fact
module _ (panel : Panel) where
  -- the tests of monomials in plain facts
  pub record Facts (s : List Mono) : Type 0 where
    pub new : (m : Mono) → m ∈ s → m ∈ constants width → ⊥
    pub small : (m : Mono) → m ∈ s → (i : ℕ) → get_or m i 0 ≤ set_exponent
    pub within : (m : Mono) → m ∈ s → (i : ℕ) → panel.n ≤ i → get_or m i 0 ≡ 0
    pub buildable : Buildable panel s

  pub facts_out : (s : List Mono) → T (all (monomial_right panel) s) → Facts s
  unfolding monomial_right
  facts_out s t =
      let each : (m : Mono) → m ∈ s → T (monomial_right panel m) = λ m h. all_out (monomial_right panel) t h in
      let fit : (m : Mono) → m ∈ s → (i : ℕ) → Fit set_exponent panel.n (get_or m i 0) i =
      λ m h i. exponents_everywhere set_exponent panel.n m (search (and_l, and_r, each m h)) i in
      record {
        new = λ m h k. T_not (any (same m) (constants width)) (search (and_l, and_r, each m h)) (among_in mono_order k);
        small = λ m h i. (fit m h i).small;
        within = λ m h i. (fit m h i).zero;
        buildable = may_buildable panel s (λ m h. search (and_l, and_r, each m h));
      }

  pub facts_in : (s : List Mono) → ((m : Mono) → m ∈ s → length m ≤ width) → Facts s → T (all (monomial_right panel) s)
  unfolding monomial_right
  facts_in s narrow f = all_in (monomial_right panel) s (λ m h.
      let new : T (not (any (same m) (constants width))) = not_T (any (same m) (constants width)) (λ t. f.new m h (among_out mono_order m (constants width) t)) in
      let fits : T (exponents_right set_exponent panel.n m) = exponents_in set_exponent panel.n m (λ i k. record { small = f.small m h i; zero = f.within m h i }) in
      let may : T (may_be panel m) = buildable_may panel s f.buildable m h (narrow m h) (at_most_all set_exponent m (f.small m h)) in
      and_i (not (any (same m) (constants width)) && exponents_right set_exponent panel.n m) (may_be panel m)
      (and_i (not (any (same m) (constants width))) (exponents_right set_exponent panel.n m) new fits) may)

  pub right_iff : (bytes : List ℕ) → T (set_right panel bytes) ↔ RightRecord panel bytes
  unfolding set_right
  right_iff bytes = (facts, rule)
    where
      rest : List ℕ
      rest = drop (width * size_of bytes) bytes

      facts : T (set_right panel bytes) → RightRecord panel bytes
      facts t =
          let f = facts_out (set_of bytes) (search (and_l, and_r, t)) in
          record {
            zeros = λ k h.
                let e : width * size_of bytes + (k - width * size_of bytes) ≡ k = omega arith in
                rw (get_or-drop (width * size_of bytes) bytes (k - width * size_of bytes) 0, e) at (zero_all rest (search (and_l, and_r, t)) (k - width * size_of bytes));
            permitted = record { ascends = ascending_out (set_of bytes) (search (and_l, and_r, t)); new = f.new; small = f.small; within = f.within };
            buildable = f.buildable;
          }

      rule : RightRecord panel bytes → T (set_right panel bytes)
      rule r =
          let s = set_of bytes in
          let none : T (all (eqb 0) rest) = all_zero rest (λ k. get_or-drop (width * size_of bytes) bytes k 0 ∙ r.zeros (width * size_of bytes + k) (omega arith)) in
          let first : T (all (eqb 0) rest && ascending s) = and_i (all (eqb 0) rest) (ascending s) none (ascending_in s r.permitted.ascends) in
          let p = r.permitted in
          and_i (all (eqb 0) rest && ascending s) (all (monomial_right panel) s) first
          (facts_in s (set_narrow bytes) (record { new = p.new; small = p.small; within = p.within; buildable = r.buildable }))

-- ---- the first entry that passes
module _ {A : Type 0} (f : A → Bool) where
  place_is : (l : List A) (i : ℕ) (d : A) → i ≤ length l → ((j : ℕ) → j < i → T (f (get_or l j d)) → ⊥) → (i < length l → T (f (get_or l i d))) → place f l ≡ i
  unfolding place
  place_is [] i d h least here = omega arith
  place_is (x ∷ l) zero d h least here = rw (T→is (f x) (here (omega arith)))
  place_is (x ∷ l) (suc i) d h least here =
      rw (n_t→is (f x) (least 0 (omega arith))) (ap suc (place_is l i d (omega arith) (λ j k. least (suc j) (omega arith)) (λ k. here (omega arith))))

-- ---- the record of a set, place by place
pub record_is : (s : List Mono) → set_record s ≡ flat s ++ replicate (set_bytes - width * length s) 0
unfolding set_record
record_is s = refl

module _ (s : List Mono) (few : length s ≤ cards) (wide : Wide s) where
  pub record_length : length (set_record s) ≡ set_bytes
  unfolding set_record
  record_length =
      let long : length (flat s) ≡ width * length s = strip_length (λ m. m) width s wide in
      let tail : length {A = ℕ} (replicate (set_bytes - width * length s) 0) ≡ set_bytes - width * length s = length-replicate (set_bytes - width * length s) 0 in
      length-append (flat s) (replicate (set_bytes - width * length s) 0) ∙ omega arith

  record_zeros : (k : ℕ) → width * length s ≤ k → get_or (set_record s) k 0 ≡ 0
  unfolding set_record
  record_zeros k h =
      let g = flat s in
      let long : length g ≡ width * length s = strip_length (λ m. m) width s wide in
      let e : length g + (k - length g) ≡ k = omega arith in
      rw (sym e) (get_or-append-add g (replicate (set_bytes - width * length s) 0) (k - length g) 0 ∙ fill_at 0 (set_bytes - width * length s) (k - length g))

  -- a place of the set, and an unused one
  record-at : (i : ℕ) → i < length s → place_at (set_record s) i ≡ get_or s i []
  unfolding set_record
  record-at i h = strip_at (λ m. m) width s wide (replicate (set_bytes - width * length s) 0) i [] h

  record_unused : (i : ℕ) → length s ≤ i → i < cards → place_at (set_record s) i ≡ one width
  record_unused i h k =
      let r = set_record s in
      let long : length (place_at r i) ≡ width = length-take-le width (drop (width * i) r) (omega (arith, length-drop (width * i) r, record_length)) in
      let none : (j : ℕ) → j < width → get_or (place_at r i) j 0 ≡ 0 =
      λ j l. get_or-take width (drop (width * i) r) j 0 l ∙ get_or-drop (width * i) r j 0 ∙ record_zeros (width * i + j) (omega arith) in
      zero_list (place_at r i) width long none

  module _ (new : (m : Mono) → m ∈ s → m ≡ one width → ⊥) where
    pub record_size : size_of (set_record s) ≡ length s
    unfolding size_of
    record_size = place_is (same (one width)) (places r) (length s) [] (omega (arith, places_length r)) used unused
      where
        r : List ℕ
        r = set_record s

        used : (j : ℕ) → j < length s → T (same (one width) (get_or (places r) j [])) → ⊥
        used j h t =
            let e : one width ≡ get_or s j [] = mono_order.same_eq (one width) (get_or (places r) j []) t ∙ places_at r j [] (omega arith) ∙ record-at j h in
            new (get_or s j []) (at_in s j [] h) (sym e)

        unused : length s < length (places r) → T (same (one width) (get_or (places r) (length s) []))
        unused h =
            let room : length s < cards = omega (arith, places_length r) in
            rw (places_at r (length s) [] room, record_unused (length s) (omega arith) room) (mono_order.same_refl (one width))

    pub record_holds : set_of (set_record s) ≡ s
    unfolding set_of
    record_holds =
        let r = set_record s in
        let long : length (take (length s) (places r)) ≡ length s = used_length r (length s) few in
        ap (λ (k : ℕ). take k (places r)) record_size
        ∙ ext_get_or [] (take (length s) (places r)) s long (λ i h. used_at r (length s) few i [] (omega arith) ∙ record-at i (omega arith))

-- ---- sets and their records
module _ (n : ℕ) (s : List Mono) (r : Recordable n s) where
  not_one : (m : Mono) → m ∈ s → m ≡ one width → ⊥
  not_one m h e = r.permitted.new m h (Memᴰ.head e)

  -- the record of a set holds the set
  pub record_set : set_of (set_record s) ≡ s
  record_set = record_holds s r.few r.wide not_one

  recorded_size : size_of (set_record s) ≡ length s
  recorded_size = record_size s r.few r.wide not_one

  -- a part of it, in the same order, may stand in a record too
  pub recordable_part : (t : List Mono) → Ascending before t → t ⊆ s → Recordable n t
  recordable_part t up part = record {
    few = omega (arith, r.few, sub_length mono_order t s up r.permitted.ascends part);
    wide = λ m h. r.wide m (part m h);
    permitted = record {
      ascends = up;
      new = λ m h. r.permitted.new m (part m h);
      small = λ m h. r.permitted.small m (part m h);
      within = λ m h. r.permitted.within m (part m h);
    };
  }

-- and is right where the kit can build the set
pub record_right : (panel : Panel) (s : List Mono) → Recordable panel.n s → Buildable panel s → T (set_right panel (set_record s))
record_right panel s r b =
    (right_iff panel (set_record s)).1 (record {
      zeros = λ k h. record_zeros s r.few r.wide k (rw (recorded_size panel.n s r) at h);
      permitted = subst (Permitted panel.n) (sym (record_set panel.n s r)) r.permitted;
      buildable = subst (Buildable panel) (sym (record_set panel.n s r)) b;
    })

-- the first k places, one behind the other, are the first 6 * k bytes
bytes_used : (bytes : List ℕ) (k : ℕ) → k ≤ cards → flat (take k (places bytes)) ≡ take (width * k) bytes
bytes_used bytes k h =
    let many : length (places bytes) ≡ cards = places_length bytes in
    flat_cuts bytes (places bytes) (λ i j. places_at bytes i [] (omega arith)) k (omega arith)

module _ (panel : Panel) (bytes : List ℕ) (t : T (set_right panel bytes)) (l : length bytes ≡ set_bytes) where
  set_long : length (set_of bytes) ≡ size_of bytes
  unfolding set_of
  set_long = used_length bytes (size_of bytes) (size_few bytes)

  -- the set of a right record may stand in a record
  pub right_recordable : Recordable panel.n (set_of bytes)
  unfolding set_of
  right_recordable = record {
    few = omega (arith, set_long, (size_few bytes));
    wide = λ m h. places_width bytes l m (take_in (size_of bytes) (places bytes) h);
    permitted = ((right_iff panel bytes).0 t).permitted;
  }

  right_front : flat (set_of bytes) ≡ take (width * size_of bytes) bytes
  unfolding set_of
  right_front = bytes_used bytes (size_of bytes) (size_few bytes)

  right_tail : replicate (set_bytes - width * length (set_of bytes)) 0 ≡ drop (width * size_of bytes) bytes
  right_tail =
      let at = width * size_of bytes in
      let width = set_bytes - width * length (set_of bytes) in
      let long : length (drop at bytes) ≡ width = omega (arith, set_long, length-drop at bytes) in
      sym (zero_list (drop at bytes) width long (λ k h. get_or-drop at bytes k 0 ∙ ((right_iff panel bytes).0 t).zeros (at + k) (omega arith)))

  -- and the record is that set's
  pub right_record : set_record (set_of bytes) ≡ bytes
  unfolding set_record
  right_record = ap₂ ◌++◌ right_front right_tail ∙ take-append-drop (width * size_of bytes) bytes
