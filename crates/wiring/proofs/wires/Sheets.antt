-- A buffer with a wiring list in it: one record more, one row more, the whole list, and whether each monomial that was passed is in V2.
-- Assumes nothing.
use mathlib.Core.Path.{◌≡◌, refl, sym, ap, ap₂, ◌∙◌, subst}
use mathlib.Core.Logic.{⊎_elim}
use mathlib.Core.Bool.{true, false, not}
use mathlib.Core.List.Memᴰ
use mathlib.Core.List.{List, [], ◌∷◌, ◌++◌, map, append-nil, append_assoc, map-append}
use Prim.Native.Nat.{ℕ, zero, suc, ◌+◌, ◌*◌, ◌-◌, ◌/◌, ◌<◌, ◌≤◌}
use native.Mathlib.Omega.{arith}
use native.Mathlib.Numerals.{add-one}
use lib.Dec.{T, T_not, not_T}
use lib.IntN.{ℤ}
use lib.ListN.{length, get_or, take, drop, replicate, length-append, length-map, drop_of_length-le}
use lib.Seq.{paste, drop-cons, take_at, drop_at, length-paste, drop-drop}
use Rattle.monomial.specs.Lists.{some, keep, gather}
use Rattle.monomial.specs.Monomial.{Mono}
use Rattle.monomial.specs.Claims.{◌∈◌}
use Rattle.monomial.proofs.Tests.{and_r, and_i, T→is, n_t→is, is→T, is→n_t}
use Rattle.monomial.proofs.Members.{here, some_in, some_out, keep_in, keep_out, gather_append}
use Rattle.monomial.proofs.Loops.{Placing, placing_start, placing_on, placing_found, placing_ends}
use Rattle.monomial.proofs.order.Laws.{mono_order}
use Rattle.monomial.proofs.Strips.{strip_length}
use Rattle.wiring.specs.Panel.{wire_bytes}
use Rattle.wiring.specs.Poly.{Poly, plain, coeff, support}
use Rattle.wiring.specs.Quadratic.{in_v2, unmet, lacking}
use Rattle.wiring.specs.Choice.{Heads, beyond}
use Rattle.std.specs.Prelude.{Option, Some, None, Ok, Err}
use Rattle.monomial.specs.declared.Monomial.{Monomial}
use Rattle.wiring.specs.declared.wires.Unmet.{Unmet}
use Rattle.wiring.specs.Wires.{Wire, first_of, second_of, row, rows_from, wiring, wire_record, wire_list, Sheet, Wrote, unmet_beyond, RowPassed, Passed}
use Rattle.wiring.proofs.Poly.{support_asc}
use Rattle.wiring.proofs.quadratic.Laws.{unmet_in, unmet_out}
use Rattle.wiring.proofs.parts.Laws.{beyond_none, heads_none, behind_next}

-- ---- one record more
pub record_length : (w : Wire) → length (wire_record w) ≡ wire_bytes
unfolding wire_record
record_length w = refl

pub list_length : (l : List Wire) → length (wire_list l) ≡ wire_bytes * length l
list_length l = strip_length wire_record wire_bytes l (λ w h. record_length w)

abbrev zeros : ℕ → List ℕ
zeros n = replicate n 0

drop_zeros : (n k : ℕ) → drop k (zeros n) ≡ zeros (n - k)
drop_zeros n zero = let e : n ≡ n - 0 = omega arith in ap zeros e
drop_zeros zero (suc k) = let e : 0 ≡ 0 - suc k = omega arith in ap zeros e
drop_zeros (suc n) (suc k) = let e : n - k ≡ suc n - suc k = omega arith in drop_zeros n k ∙ ap zeros e

pub sheet_start : (out : List ℕ) → out ≡ replicate (length out) 0 → Sheet [] 0 out
unfolding gather
sheet_start out e = record { counted = refl; room = omega arith; bytes = let k : length out ≡ length out - wire_bytes * 0 = omega arith in e ∙ ap zeros k }

pub sheet_more : (list : List Wire) (at : ℕ) (out : List ℕ) (w : Wire) → Sheet list at out → wire_bytes * at + wire_bytes ≤ length out
    → Sheet (list ++ (w ∷ [])) (at + 1) (paste out (wire_bytes * at) (wire_record w) wire_bytes)
unfolding gather wire_record
sheet_more list at out w s h = record { counted = counted; room = room; bytes = bytes }
  where
    written : List ℕ
    written = paste out (wire_bytes * at) (wire_record w) wire_bytes

    long : length written ≡ length out
    long = length-paste out (wire_bytes * at) (wire_record w) wire_bytes h (omega (arith, record_length w))

    counted : at + 1 ≡ length (list ++ (w ∷ []))
    counted = let k = s.counted in sym (length-append list (w ∷ []) ∙ omega arith)

    room : wire_bytes * (at + 1) ≤ length written
    room = omega (arith, long)

    front : take (wire_bytes * at) out ≡ wire_list list
    front =
        let k = s.counted in
        ap (take (wire_bytes * at)) s.bytes ∙ take_at (wire_list list) (replicate (length out - wire_bytes * at) 0) (wire_bytes * at) (list_length list ∙ omega arith)

    tail : drop (wire_bytes * at + wire_bytes) out ≡ replicate (length written - wire_bytes * (at + 1)) 0
    tail =
        let k = s.counted in
        sym (drop-drop wire_bytes (wire_bytes * at) out)
        ∙ ap (drop wire_bytes) (ap (drop (wire_bytes * at)) s.bytes ∙ drop_at (wire_list list) (replicate (length out - wire_bytes * at) 0) (wire_bytes * at) (list_length list ∙ omega arith))
        ∙ drop_zeros (length out - wire_bytes * at) wire_bytes
        ∙ ap zeros left
      where
        left : length out - wire_bytes * at - wire_bytes ≡ length written - wire_bytes * (at + 1)
        left = omega (arith, long)

    bytes : written ≡ wire_list (list ++ (w ∷ [])) ++ replicate (length written - wire_bytes * (at + 1)) 0
    bytes =
        ap₂ (λ (a b : List ℕ). (a ++ wire_record w) ++ b) front tail
        ∙ ap (λ (l : List ℕ). l ++ replicate (length written - wire_bytes * (at + 1)) 0)
        (sym (gather_append wire_record list (w ∷ []) ∙ ap (λ (l : List ℕ). wire_list list ++ l) (append-nil (wire_record w))))

-- one record more than the buffer holds
pub sheet_long : (list : List Wire) (at : ℕ) (x : Wire) (out : List ℕ) → Sheet list at out → length out / wire_bytes ≤ at → length out < wire_bytes * length (list ++ (x ∷ []))
sheet_long list at x out s h = let e = length-append list (x ∷ []) in let c = s.counted in omega arith

-- ---- the records of one row, one after the other
module _ (v : List Mono) (left : ℕ) (p : Poly Mono) where
  abbrev S : List Mono
  S = support plain p

  abbrev pub wire_of : Mono → Wire
  wire_of m = record { left = left; a = first_of plain v m; b = second_of plain v m; coefficient = coeff plain p m }

  pub wire_is : (m : Mono) (a b : ℕ) (x : ℤ) → a ≡ first_of plain v m → b ≡ second_of plain v m → x ≡ coeff plain p m → record { left = left; a = a; b = b; coefficient = x } ≡ wire_of m
  wire_is m a b x ea eb ex = rw (ea, eb, ex)

  -- the monomials up to the last one have passed, each of them in V2 and with its record, behind what was written from w₀ on
  pub record Rowing (w₀ : Option ℕ) (out₀ : List ℕ) (last : Option Monomial) (w : Option ℕ) (out : List ℕ) : Type 0 where
    pub passed_by : List Mono
    pub whole : passed_by ++ keep (beyond last) S ≡ S
    pub met : (m : Mono) → m ∈ passed_by → T (in_v2 plain v m)
    pub long : length out ≡ length out₀
    pub wrote : (done : List Wire) → Wrote done w₀ out₀ → Wrote (done ++ map wire_of passed_by) w out

  pub rowing_start : (w : Option ℕ) (out : List ℕ) → Rowing w out None w out
  rowing_start w out = record {
    passed_by = [];
    whole = beyond_none S;
    met = λ m h. absurd (Memᴰ.not-nil h);
    long = refl;
    wrote = λ done s. subst (λ (l : List Wire). Wrote l w out) (sym (append-nil done)) s;
  }

  -- nothing more is written: what is behind the last one is judged
  module _ {w₀ : Option ℕ} {out₀ : List ℕ} {last : Option Monomial} {out : List ℕ} (r : Rowing w₀ out₀ last None out) where
    pub rowing_lacks : some (keep (unmet_beyond v last) S) ≡ true → some (unmet plain v p) ≡ true
    rowing_lacks t =
        let x = some_out (keep (unmet_beyond v last) S) (is→T (some (keep (unmet_beyond v last) S)) t) in
        let k = keep_out (unmet_beyond v last) S x.1 in
        let no = T_not (in_v2 plain v x.0) (and_r (beyond last x.0) (not (in_v2 plain v x.0)) k.1) in
        T→is (some (unmet plain v p)) (some_in (unmet_in plain mono_order v p x.0 k.0 no))

    pub rowing_judged : some (keep (unmet_beyond v last) S) ≡ false → (done : List Wire) → Wrote done w₀ out₀ → RowPassed plain v left p done (Ok None) out
    unfolding row
    rowing_judged t done s = (n_t→is (some (unmet plain v p)) all_met, long)
      where
        all_met : T (some (unmet plain v p)) → ⊥
        all_met q =
            let x = some_out (unmet plain v p) q in
            let u = unmet_out plain mono_order v p x.0 x.1 in
            let behind : x.0 ∈ keep (beyond last) S → ⊥ = λ k.
            let b = keep_out (beyond last) S k in
            is→n_t (some (keep (unmet_beyond v last) S)) t (some_in (keep_in (unmet_beyond v last) S b.0 (and_i (beyond last x.0) (not (in_v2 plain v x.0)) b.1 (not_T (in_v2 plain v x.0) u.1)))) in
            ⊎_elim (λ k. u.1 (r.met x.0 k)) behind (Memᴰ.append_cases r.passed_by (subst (λ (l : List Mono). x.0 ∈ l) (sym r.whole) u.0))

        long : length out < wire_bytes * length (done ++ map wire_of S)
        long =
            let far = r.wrote done s in
            let a = length-append done (map wire_of r.passed_by) in
            let b = length-append done (map wire_of S) in
            let c = length-append r.passed_by (keep (beyond last) S) in
            omega (arith, ap length r.whole, length-map r.passed_by wire_of, length-map S wire_of)

  module _ {w₀ : Option ℕ} {out₀ : List ℕ} {last : Option Monomial} {w : Option ℕ} {out : List ℕ} (r : Rowing w₀ out₀ last w out) where
    -- none is left: the row is whole, and each of its monomials is in V2
    module _ (h : Heads (keep (beyond last) S) None) where
      all_passed : r.passed_by ≡ S
      all_passed = sym (append-nil r.passed_by) ∙ ap (λ (l : List Mono). r.passed_by ++ l) (sym (heads_none (keep (beyond last) S) h)) ∙ r.whole

      row_met : some (unmet plain v p) ≡ false
      row_met = n_t→is (some (unmet plain v p)) (λ t.
          let x = some_out (unmet plain v p) t in
          let u = unmet_out plain mono_order v p x.0 x.1 in
          u.1 (r.met x.0 (subst (λ (l : List Mono). x.0 ∈ l) (sym all_passed) u.0)))

      pub rowing_ends : (done : List Wire) → Wrote done w₀ out₀ → RowPassed plain v left p done (Ok w) out
      unfolding row
      rowing_ends done s = (row_met, subst (λ (l : List Mono). Wrote (done ++ map wire_of l) w out) all_passed (r.wrote done s))

    module _ (m : Monomial) (h : Heads (keep (beyond last) S) (Some m)) where
      onward : keep (beyond last) S ≡ m.e ∷ keep (beyond (Some m)) S
      onward = behind_next last m S (support_asc plain mono_order p) h

      listed : m.e ∈ S
      listed = (keep_out (beyond last) S (subst (λ (l : List Mono). m.e ∈ l) (sym onward) here)).0

      -- the next one is not in V2
      pub rowing_unmet : in_v2 plain v m.e ≡ false → some (unmet plain v p) ≡ true
      rowing_unmet n = T→is (some (unmet plain v p)) (some_in (unmet_in plain mono_order v p m.e listed (is→n_t (in_v2 plain v m.e) n)))

      -- or it is, and has its record
      pub rowing_more : (w' : Option ℕ) (out' : List ℕ) (x : Wire) → in_v2 plain v m.e ≡ true → x ≡ wire_of m.e → length out' ≡ length out
          → ((done : List Wire) → Wrote done w out → Wrote (done ++ (x ∷ [])) w' out') → Rowing w₀ out₀ (Some m) w' out'
      rowing_more w' out' x t xe l one_more = record {
        passed_by = r.passed_by ++ (m.e ∷ []);
        whole = append_assoc r.passed_by (m.e ∷ []) (keep (beyond (Some m)) S) ∙ ap (λ (l : List Mono). r.passed_by ++ l) (sym onward) ∙ r.whole;
        met = λ y k. ⊎_elim (r.met y) (λ j. ⊎_elim (λ q. subst (λ (z : Mono). T (in_v2 plain v z)) (sym q) (is→T (in_v2 plain v m.e) t)) (λ n. absurd (Memᴰ.not-nil n)) (Memᴰ.cases_cons j))
            (Memᴰ.append_cases r.passed_by k);
        long = l ∙ r.long;
        wrote = λ done s. subst (λ (q : List Wire). Wrote q w' out') (more done) (one_more (done ++ map wire_of r.passed_by) (r.wrote done s));
      }
        where
          more : (done : List Wire) → (done ++ map wire_of r.passed_by) ++ (x ∷ []) ≡ done ++ map wire_of (r.passed_by ++ (m.e ∷ []))
          more done =
              append_assoc done (map wire_of r.passed_by) (x ∷ [])
              ∙ ap (λ (q : List Wire). done ++ q) (ap (λ (y : Wire). map wire_of r.passed_by ++ (y ∷ [])) xe ∙ sym (map-append wire_of r.passed_by (m.e ∷ [])))

      pub rowing_less : length (keep (beyond (Some m)) S) < length (keep (beyond last) S)
      rowing_less = let k = ap length onward in omega arith

-- ---- the rows of the signals, one after the other
module _ (v : List Mono) (d : Mono → Poly Mono) where
  -- the first signals are met and their rows written, and the rows from number `left` on make the list whole
  pub record Listing (left : ℕ) (w : Option ℕ) (out : List ℕ) : Type 0 where
    pub looked : Placing (λ z. lacking plain v (d z)) v left
    pub done : List Wire
    pub wrote : Wrote done w out
    pub whole : done ++ rows_from plain v d left (drop left v) ≡ wiring plain v d

  pub listing_start : (w : Option ℕ) (out : List ℕ) → Wrote [] w out → Listing 0 w out
  unfolding wiring
  listing_start w out s = record { looked = placing_start (λ z. lacking plain v (d z)) v; done = []; wrote = s; whole = refl }

  next_row : (left : ℕ) → left < length v → rows_from plain v d left (drop left v) ≡ row plain v left (d (get_or v left [])) ++ rows_from plain v d (left + 1) (drop (left + 1) v)
  unfolding rows_from
  next_row left h = rw (add-one left, drop-cons v left [] h)

  module _ {left : ℕ} {w : Option ℕ} {out : List ℕ} (l : Listing left w out) where
    module _ (h : left < length v) where
      row_onward : (l.done ++ row plain v left (d (get_or v left []))) ++ rows_from plain v d (left + 1) (drop (left + 1) v) ≡ wiring plain v d
      row_onward =
          append_assoc l.done (row plain v left (d (get_or v left []))) (rows_from plain v d (left + 1) (drop (left + 1) v))
          ∙ ap (λ (r : List Wire). l.done ++ r) (sym (next_row left h)) ∙ l.whole

      pub listing_more : (w' : Option ℕ) (out' : List ℕ) → RowPassed plain v left (d (get_or v left [])) l.done (Ok w') out' → Listing (left + 1) w' out'
      listing_more w' out' s = record {
        looked = placing_on (λ z. lacking plain v (d z)) [] l.looked h s.0;
        done = l.done ++ row plain v left (d (get_or v left []));
        wrote = s.1;
        whole = row_onward;
      }

      pub listing_unmet : (u : Unmet) (out' : List ℕ) → RowPassed plain v left (d (get_or v left [])) l.done (Err u) out' → Passed plain v d (Err u) out'
      listing_unmet u out' s = (s.1 ∙ placing_found (λ z. lacking plain v (d z)) [] l.looked h s.0, rw s.1 h)

    pub listing_ends : length v ≤ left → Passed plain v d (Ok w) out
    unfolding rows_from
    listing_ends h = (
      placing_ends (λ z. lacking plain v (d z)) l.looked h,
      subst (λ (r : List Wire). Wrote r w out)
          (sym (append-nil l.done) ∙ ap (λ (r : List Mono). l.done ++ rows_from plain v d left r) (sym (drop_of_length-le v h)) ∙ l.whole) l.wrote,
    )
