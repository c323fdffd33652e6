-- The finds in the buffer: the record at a place against a set's own record, one find more, and what keeping a set comes to. Assumes nothing.
use mathlib.Core.Path.{◌≡◌, refl, sym, ap, ap₂, subst, ◌∙◌}
use mathlib.Core.Logic.{⊎_elim}
use mathlib.Core.Bool.{true, false, not}
use mathlib.Core.List.Memᴰ
use mathlib.Core.List.{List, [], ◌∷◌, ◌++◌}
use lib.Dec.{T}
use Prim.Native.Nat.{ℕ, zero, suc, ◌+◌, ◌*◌, ◌-◌, ◌<◌, ◌≤◌}
use native.Mathlib.Omega.{arith}
use borrow.Author.Tests.{le-leb, lt-leb}
use lib.ListN.{length, get_or, take, drop, replicate, length-take, length-drop, replicate-append-replicate}
use lib.Seq.{paste}
use Rattle.monomial.specs.Lists.{any, place, gather, insert_by}
use Rattle.monomial.specs.Monomial.{Mono}
use Rattle.monomial.specs.Order.{same, before, same_set, before_set}
use Rattle.monomial.specs.Claims.{◌∈◌, Ascending}
use Rattle.monomial.proofs.Loops.{Seeking}
use Rattle.monomial.proofs.Tests.{is→n_t, n_t→is}
use Rattle.monomial.proofs.Strips.{strip_at}
use Rattle.monomial.proofs.Counting.{at_in}
use Rattle.monomial.proofs.order.Laws.{set_order, behind, not_both}
use Rattle.monomial.proofs.order.Ascending.{head_first, tail_asc, insert_out, insert_asc, insert_length, among_in, among_out}
use Rattle.monomial.proofs.order.Inserting.{insert_place}
use Rattle.wiring.specs.Panel.{set_bytes}
use Rattle.wiring.specs.Sets.{set_record}
use Rattle.wiring.proofs.sets.Exact.{record_length}
use Rattle.walk.specs.Walk.{Finds, kept}
use Rattle.walk.specs.Plan.{sets_bytes}
use Rattle.walk.specs.Listing.{Recorded, Shown, KeptAs}
use Rattle.std.specs.Prelude.{Some, None}
use Rattle.walk.proofs.listing.Laws.{gather_more}
use Rattle.walk.proofs.listing.Records.{record_before, record_same}

recorded_length : (s : List Mono) → Recorded s → length (set_record s) ≡ set_bytes
recorded_length s r = record_length s r.few r.wide

-- what stands before the entry at place i of an ascending list is none of those from there on
absent : (i : ℕ) (l : Finds) → Ascending before_set l → i < length l → (x : List Mono) → T (before_set x (get_or l i [])) → x ∈ drop i l → ⊥
absent i [] a h x t m = omega arith
absent zero (y ∷ l) a h x t m =
    ⊎_elim (λ e. set_order.irrefl y (subst (λ (z : List Mono). T (before_set z y)) e t)) (λ k. not_both set_order x y t (head_first a x k)) (Memᴰ.cases_cons m)
absent (suc i) (y ∷ l) a h x t m = absent i l (tail_asc a) (omega arith) x t m

-- the bytes of record number i, as a part of the buffer is cut out
abbrev pub cut : List ℕ → ℕ → List ℕ
cut out i = take (set_bytes * i + set_bytes - set_bytes * i) (drop (set_bytes * i) out)

pub cut_length : (out : List ℕ) (i : ℕ) → set_bytes * i + set_bytes ≤ length out → length (cut out i) ≡ set_bytes
cut_length out i h = omega (arith, length-take (set_bytes * i + set_bytes - set_bytes * i) (drop (set_bytes * i) out), length-drop (set_bytes * i) out)

module _ {finds : Finds} {count : ℕ} {out : List ℕ} (s : Shown finds count out) where
  even : (f : List Mono) → f ∈ finds → length (set_record f) ≡ set_bytes
  even f m = recorded_length f (s.recorded f m)

  -- ---- the record at place i, against a set's own record
  shown_at : (i : ℕ) → i < count → cut out i ≡ set_record (get_or finds i [])
  unfolding sets_bytes
  shown_at i h =
      let e : set_bytes * i + set_bytes - set_bytes * i ≡ set_bytes = omega arith in
      ap₂ (λ (n : ℕ) (l : List ℕ). take n (drop (set_bytes * i) l)) e s.bytes
      ∙ strip_at set_record set_bytes finds even (replicate (length out - set_bytes * count) 0) i [] (omega (arith, s.counted))

  module _ (x : List Mono) (r : Recorded x) (i : ℕ) (h : i < count) where
    found : Recorded (get_or finds i [])
    found = s.recorded (get_or finds i []) (at_in finds i [] (omega (arith, s.counted)))

    pub shown_same : same (cut out i) (set_record x) ≡ same_set x (get_or finds i [])
    shown_same = ap (λ (b : List ℕ). same b (set_record x)) (shown_at i h) ∙ record_same x (get_or finds i []) r found

    pub shown_before : before (cut out i) (set_record x) ≡ before_set (get_or finds i []) x
    shown_before = ap (λ (b : List ℕ). before b (set_record x)) (shown_at i h) ∙ record_before (get_or finds i []) x found r

    -- the find at place i stands neither before x nor is it x, and none before it is: none is
    pub shown_passed : Seeking (same_set x) finds i → same_set x (get_or finds i []) ≡ false → before_set (get_or finds i []) x ≡ false → any (same_set x) finds ≡ false
    shown_passed k unlike later =
        let y = get_or finds i [] in
        let ahead : T (before_set x y) = behind set_order y x (is→n_t (before_set y x) later) (λ t. is→n_t (same_set x y) unlike (subst (λ (z : List Mono). T (same_set x z)) (sym (set_order.same_eq y x t)) (set_order.same_refl x))) in
        sym k.rest ∙ n_t→is (any (same_set x) (drop i finds)) (λ t. absent i finds s.ascending (omega (arith, s.counted)) x ahead (among_out set_order x (drop i finds) t))

  -- ---- one find more, in its place
  module _ (x : List Mono) (r : Recorded x) (new : any (same_set x) finds ≡ false) (free : set_bytes * count + set_bytes ≤ length out) where
    abbrev listed : Finds
    listed = insert_by same_set before_set x finds

    longer : length listed ≡ count + 1
    longer = insert_length set_order x finds (λ m. is→n_t (any (same_set x) finds) new (among_in set_order m)) ∙ omega (arith, s.counted)

    -- the bytes behind the finds are free for it
    parts : (rest : ℕ) → length out - set_bytes * count ≡ set_bytes + rest → out ≡ gather set_record finds ++ (replicate set_bytes 0 ++ replicate rest 0)
    unfolding sets_bytes
    parts rest e =
        s.bytes ∙ ap (λ (n : ℕ). gather set_record finds ++ replicate n 0) e ∙ ap (λ (z : List ℕ). gather set_record finds ++ z) (sym (replicate-append-replicate set_bytes rest 0))

    pub shown_more : (p : ℕ) (moved out' : List ℕ) → p ≤ count → p ≡ place (λ f. not (before_set f x)) finds
        → moved ≡ paste out (set_bytes * p + set_bytes) (drop (set_bytes * p) out) (set_bytes * count - set_bytes * p) → out' ≡ paste moved (set_bytes * p) (set_record x) set_bytes → length out' ≡ length out
        → Shown listed (count + 1) out'
    unfolding sets_bytes
    shown_more p moved out' within is up written long = record {
      counted = sym longer;
      room = omega arith;
      bytes = bytes;
      ascending = insert_asc set_order x finds s.ascending;
      recorded = λ f m. ⊎_elim (λ e. subst Recorded (sym e) r) (λ k. s.recorded f k) (insert_out set_order x finds m);
    }
      where
        rest : ℕ
        rest = length out' - set_bytes * (count + 1)

        buffer : List ℕ
        buffer = gather set_record finds ++ (replicate set_bytes 0 ++ replicate rest 0)

        put : List ℕ → ℕ → List ℕ
        put l n = paste (paste l (set_bytes * p + set_bytes) (drop (set_bytes * p) l) (set_bytes * n - set_bytes * p)) (set_bytes * p) (set_record x) set_bytes

        placed : listed ≡ take p finds ++ x ∷ drop p finds
        placed =
            insert_place set_order x finds (is→n_t (any (same_set x) finds) new) ∙ ap (λ (n : ℕ). take n finds ++ x ∷ drop n finds) (sym is)

        bytes : out' ≡ sets_bytes listed ++ replicate (length out' - set_bytes * (count + 1)) 0
        bytes =
            written ∙ ap (λ (l : List ℕ). paste l (set_bytes * p) (set_record x) set_bytes) up
            ∙ ap (λ (l : List ℕ). put l count) (parts rest (omega arith)) ∙ ap (λ (n : ℕ). put buffer n) s.counted
            ∙ gather_more set_record set_bytes finds even x (replicate set_bytes 0) (replicate rest 0) p (omega (arith, s.counted)) refl (recorded_length x r)
            ∙ ap (λ (l : Finds). gather set_record l ++ replicate rest 0) (sym placed)

  -- ---- keeping a set
  module _ (x : List Mono) (taken room : ℕ) where
    pub keeps_old : any (same_set x) finds ≡ true → KeptAs (Some count) taken out (kept room x taken finds)
    unfolding kept
    keeps_old e = (finds, s, rw e)

    pub keeps_none : any (same_set x) finds ≡ false → room ≤ count → KeptAs None taken out (kept room x taken finds)
    unfolding kept
    keeps_none e h = rw (e, le-leb room (length finds) (omega (arith, s.counted)))

    pub keeps_new : any (same_set x) finds ≡ false → count < room → (out' : List ℕ) → Shown (insert_by same_set before_set x finds) (count + 1) out'
        → KeptAs (Some (count + 1)) taken out' (kept room x taken finds)
    unfolding kept
    keeps_new e h out' t = (insert_by same_set before_set x finds, t, rw (e, lt-leb room (length finds) (omega (arith, s.counted))))
