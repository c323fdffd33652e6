-- How a child is made: a monomial is put among ascending ones that lie side by side, by moving up by one place what stands behind it, and the two
-- of a pair are put in one after the other. Assumes nothing.
use mathlib.Core.Path.{◌≡◌, refl, sym, ap, ap₂, ◌∙◌, subst}
use mathlib.Core.Logic.{⊎_elim}
use mathlib.Core.Bool.{Bool, true, false, ◌&&◌, ◌||◌}
use mathlib.Core.List.Memᴰ
use mathlib.Core.List.{List, [], ◌∷◌, ◌++◌}
use Prim.Native.Nat.{ℕ, suc, ◌+◌, ◌*◌, ◌-◌, ◌/◌, ◌<◌, ◌≤◌}
use native.Mathlib.Omega.{arith}
use lib.Dec.{T, leb, leb→le, le→leb}
use lib.ListN.{length, get_or, take, drop, set, length-set, length-drop, take-append-drop, drop_of_length-le}
use lib.Seq.{paste, length-paste, length-take-le, take-length, drop-length, drop-cons, take-take, get_or-take, take-set-le, drop-set-lt, get_or-set_same, set_split}
use borrow.Author.Tests.{le-leb}
use Rattle.monomial.specs.Lists.{any, insert_by}
use Rattle.monomial.specs.Monomial.{Mono, width}
use Rattle.monomial.specs.Order.{same, before}
use Rattle.monomial.specs.Claims.{◌∈◌, Ascending, Order}
use Rattle.monomial.proofs.Tests.{Tested, passed, failed, test, T→is, is→T, n_t→is, is→n_t, and_l, and_r, and_i, or_l, or_r, or_e, same_test}
use Rattle.monomial.proofs.order.Laws.{behind, mono_order}
use Rattle.monomial.proofs.order.Ascending.{insert_out, insert_new, insert_asc, insert_length, among_in, among_out}
use Rattle.monomial.proofs.order.Inserting.{insert_between, insert_same, front_before}
use Rattle.wiring.specs.Signals.{signals, tabled, listed}
use Rattle.wiring.proofs.signals.Tables.{tabled_length, listed_length, listed_at, listed_less, listed_put, listed_copied}
use Rattle.wiring.proofs.signals.Laws.{set-in}
use Rattle.std.specs.Prelude.{Option, Some}
use Rattle.lister.specs.Cheap.{added}
use Rattle.walk.specs.Walk.{Rules, child, opens}
use Rattle.walk.specs.Turns.{Child}
use Rattle.walk.proofs.children.Laws.{added_asc}

-- ---- a loop that moves up the entries of s from its end on, in the list u of one more place, and has come to place i: what is behind i is moved,
-- and none of it stands before m
pub record Shifting {A : Type 0} (ahead : A → A → Bool) (m : A) (s u : List A) (i : ℕ) : Type 0 where
  pub within : i ≤ length s
  pub long : length u ≡ suc (length s)
  pub low : take i u ≡ take i s
  pub high : drop (suc i) u ≡ drop i s
  pub later : (y : A) → y ∈ drop i s → T (ahead y m) → ⊥

module _ {A : Type 0} {ahead : A → A → Bool} {m : A} {s u : List A} where
  pub shifting_start : length u ≡ suc (length s) → take (length s) u ≡ s → Shifting ahead m s u (length s)
  shifting_start l e = record {
    within = omega arith;
    long = l;
    low = e ∙ sym (take-length s);
    high = drop_of_length-le u {i = suc (length s)} (omega arith) ∙ sym (drop-length s);
    later = λ y k. absurd (Memᴰ.not-nil (subst (λ (r : List A). y ∈ r) (drop-length s) k));
  }

  module _ {i : ℕ} (w : Shifting ahead m s u i) where
    -- what is not moved yet is as in s
    pub shifting_at : (j : ℕ) (d : A) → i ≡ suc j → get_or u j d ≡ get_or s j d
    shifting_at j d e = sym (get_or-take i u j d (omega arith)) ∙ ap (λ (l : List A). get_or l j d) w.low ∙ get_or-take i s j d (omega arith)

    pub shifting_on : (j : ℕ) (d : A) → i ≡ suc j → ahead (get_or u j d) m ≡ false → Shifting ahead m s (set u i (get_or u j d)) j
    shifting_on j d e f = record {
      within = omega (arith, w.within);
      long = length-set u i x ∙ w.long;
      low = take-set-le j u i x (omega arith) ∙ sym (take-take j i u (omega arith)) ∙ ap (take j) w.low ∙ take-take j i s (omega arith);
      high = subst (λ (k : ℕ). drop k (set u i x) ≡ drop j s) e moved;
      later = λ y k. ⊎_elim (λ q t. is→n_t (ahead x m) f (subst (λ z. T (ahead z m)) (q ∙ sym (shifting_at j d e)) t)) (old y)
          (Memᴰ.cases_cons (subst (λ (r : List A). y ∈ r) split k));
    }
      where
        x : A
        x = get_or u j d

        split : drop j s ≡ get_or s j d ∷ drop (suc j) s
        split = drop-cons s j d (omega (arith, w.within))

        here_now : drop i (set u i x) ≡ get_or (set u i x) i d ∷ drop (suc i) (set u i x)
        here_now = drop-cons (set u i x) i d (omega (arith, length-set u i x, w.long, w.within))

        rest : drop (suc i) (set u i x) ≡ drop (suc j) s
        rest = drop-set-lt (suc i) u i x (omega arith) ∙ w.high ∙ ap (λ (k : ℕ). drop k s) e

        put : get_or (set u i x) i d ≡ get_or s j d
        put = get_or-set_same u i x d (omega (arith, w.long, w.within)) ∙ shifting_at j d e

        moved : drop i (set u i x) ≡ drop j s
        moved = here_now ∙ ap₂ ◌∷◌ put rest ∙ sym split

        old : (y : A) → y ∈ drop (suc j) s → T (ahead y m) → ⊥
        old y k = w.later y (subst (λ (n : ℕ). y ∈ drop n s) (sym e) k)

    -- what is left stands before m, so that m goes to place i
    pub shifting_end : {alike : A → A → Bool} → Order alike ahead → (m ∈ s → ⊥) → ((x : A) → x ∈ take i s → T (ahead x m))
        → set u i m ≡ insert_by alike ahead m s
    shifting_end {alike} o new h =
        set_split u i m (omega (arith, w.long, w.within))
        ∙ ap₂ (λ (p q : List A). p ++ (m ∷ q)) w.low w.high
        ∙ sym (insert_between o m (take i s) (drop i s) h above)
        ∙ ap (insert_by alike ahead m) (take-append-drop i s)
      where
        above : (y : A) → y ∈ drop i s → T (ahead m y)
        above y k =
            let inside : y ∈ s = subst (λ (r : List A). y ∈ r) (take-append-drop i s) (Memᴰ.append_right (take i s) k) in
            behind o y m (w.later y k) (λ t. new (Memᴰ.cast (sym (o.same_eq y m t)) inside))

-- ---- the same in bytes, where the first len monomials are those of u and behind them there is room for one more
pub record Inserting (m : Mono) (len : ℕ) (u now : List ℕ) (i : ℕ) : Type 0 where
  pub room : width * len + width ≤ length u
  pub long : length now ≡ length u
  pub within : i ≤ len
  pub shifting : Shifting before m (listed len u) (listed (len + 1) now) i

pub inserting_start : (m : Mono) (len : ℕ) (u : List ℕ) → width * len + width ≤ length u → Inserting m len u u len
inserting_start m len u h =
    let s : List Mono = listed len u in
    let size : length s ≡ len = listed_length u len (omega arith) in
    let more : length (listed (len + 1) u) ≡ len + 1 = listed_length u (len + 1) (omega arith) in
    let same_front : take (length s) (listed (len + 1) u) ≡ s =
    ap (λ (k : ℕ). take k (listed (len + 1) u)) size ∙ listed_less len (len + 1) u (omega arith) (omega arith) in
    record {
      room = h;
      long = refl;
      within = omega arith;
      shifting = subst (λ (k : ℕ). Shifting before m s (listed (len + 1) u) k) size (shifting_start (omega arith) same_front);
    }

module _ {m : Mono} {len : ℕ} {u now : List ℕ} {i : ℕ} (w : Inserting m len u now i) where
  size : length (listed len u) ≡ len
  size = listed_length u len (omega (arith, w.room))

  more_room : width * (len + 1) ≤ length now
  more_room = omega (arith, w.room, w.long)

  pub inserting_room : width * i + width ≤ length now
  inserting_room = omega (arith, w.room, w.long, w.within)

  -- the monomial before place i, in the bytes and in the set
  abbrev last : Mono
  last = take width (drop (width * (i - 1)) now)

  at_now : 0 < i → get_or (listed (len + 1) now) (i - 1) [] ≡ last
  at_now h = listed_at now (len + 1) more_room (i - 1) [] (omega (arith, w.within))

  at_first : 0 < i → get_or (listed len u) (i - 1) [] ≡ last
  at_first h = sym (shifting_at w.shifting (i - 1) [] (omega arith)) ∙ at_now h

  pub inserting_on : (x : Mono) → 0 < i → x ≡ take width (drop (width * (i - 1)) now) → before x m ≡ false
      → Inserting m len u (paste now (width * i) x width) (i - 1)
  inserting_on x h e f =
      let wide : length x ≡ width =
      ap length e ∙ length-take-le width (drop (width * (i - 1)) now) (omega (arith, length-drop (width * (i - 1)) now, inserting_room)) in
      let named : get_or (listed (len + 1) now) (i - 1) [] ≡ x = at_now h ∙ sym e in
      let next : Shifting before m (listed len u) (set (listed (len + 1) now) i (get_or (listed (len + 1) now) (i - 1) [])) (i - 1) =
      shifting_on w.shifting (i - 1) [] (omega arith) (ap (λ (z : Mono). before z m) named ∙ f) in
      let written : set (listed (len + 1) now) i (get_or (listed (len + 1) now) (i - 1) []) ≡ listed (len + 1) (paste now (width * i) x width) =
      ap (set (listed (len + 1) now) i) named ∙ sym (listed_put (len + 1) now i x wide (omega (arith, w.within)) more_room) in
      record {
        room = w.room;
        long = length-paste now (width * i) x width inserting_room (omega arith) ∙ w.long;
        within = omega (arith, w.within);
        shifting = subst (λ (l : List Mono). Shifting before m (listed len u) l (i - 1)) written next;
      }

  module _ (wide : length m ≡ width) (a : Ascending before (listed len u)) (f : any (same m) (listed len u) ≡ false) where
    abbrev inserted : List Mono
    inserted = insert_by same before m (listed len u)

    placed : ((y : Mono) → y ∈ take i (listed len u) → T (before y m)) → listed (len + 1) (paste now (width * i) m width) ≡ inserted
    placed h =
        listed_put (len + 1) now i m wide (omega (arith, w.within)) more_room
        ∙ shifting_end w.shifting mono_order (λ k. is→n_t (any (same m) (listed len u)) f (among_in mono_order k)) h

    -- the loop ends at the first place, or behind a monomial that stands before m
    pub inserting_first : i ≡ 0 → listed (len + 1) (paste now (width * i) m width) ≡ insert_by same before m (listed len u)
    inserting_first z = placed (λ y k. absurd (Memᴰ.not-nil (subst (λ (n : ℕ). y ∈ take n (listed len u)) z k)))

    pub inserting_behind : (x : Mono) → 0 < i → x ≡ take width (drop (width * (i - 1)) now) → before x m ≡ true
        → listed (len + 1) (paste now (width * i) m width) ≡ insert_by same before m (listed len u)
    inserting_behind x h e t =
        let s : List Mono = listed len u in
        let q : i ≡ suc (i - 1) = omega arith in
        let ahead : T (before (get_or s (i - 1) []) m) = is→T (before (get_or s (i - 1) []) m) (ap (λ (z : Mono). before z m) (at_first h ∙ sym e) ∙ t) in
        let inside : i - 1 < length s = omega (arith, size, w.within) in
        placed (λ y k. front_before mono_order m s (i - 1) [] a inside ahead y (subst (λ (n : ℕ). y ∈ take n s) q k))

-- `now` holds the first len monomials of u with m in its place, where they ascend and lack it
abbrev pub Inserted : Mono → ℕ → List ℕ → List ℕ → Type 0
Inserted m len u now =
    Ascending before (listed len u) → any (same m) (listed len u) ≡ false → listed (len + 1) now ≡ insert_by same before m (listed len u)

inserted_in : (m : Mono) (len : ℕ) (u now : List ℕ) (s : List Mono) → listed len u ≡ s → Inserted m len u now → Ascending before s → any (same m) s ≡ false
    → listed (len + 1) now ≡ insert_by same before m s
inserted_in m len u now s e i a f =
    i (subst (Ascending before) (sym e) a) (ap (any (same m)) e ∙ f) ∙ ap (insert_by same before m) e

-- one more
insert_more : (m : Mono) (s : List Mono) → any (same m) s ≡ false → length (insert_by same before m s) ≡ suc (length s)
insert_more m s f = insert_length mono_order m s (λ k. is→n_t (any (same m) s) f (among_in mono_order k))

-- ---- the child that is tried, in the bytes that are left: refused where the test fails, or made
module _ (test : Bool) (c : List Mono) (bytes : List ℕ) where
  made : (len : ℕ) → T test → listed len bytes ≡ c → len ≡ length c → Child test c (Some len) bytes
  made len h is size = (T→is test h, record { is = is; size = size })

-- the same child by another test that says the same
pub same_child : {x y : Bool} {c d : List Mono} (t : Option ℕ) (bytes : List ℕ) → y ≡ x → d ≡ c → Child x c t bytes → Child y d t bytes
same_child {x} {y} {c} {d} t bytes u e w = subst (λ (z : Bool). Child z d t bytes) (sym u) (subst (λ (l : List Mono). Child x l t bytes) (sym e) w)

-- ---- of a set whose monomials lie side by side
module _ (set : List ℕ) where
  abbrev s : List Mono
  s = tabled set

  abbrev many : ℕ
  many = length set / width

  size_is : length s ≡ many
  size_is = tabled_length set

  -- its copy in a buffer
  module _ (whole : length set ≡ width * length (tabled set)) (out bytes : List ℕ) (copy : bytes ≡ paste out 0 set (length set)) where
    pub copied : listed (length set / width) bytes ≡ tabled set
    copied = ap (λ (b : List ℕ). listed many b) copy ∙ listed_copied many out set (omega (arith, whole, size_is))

    -- the set as it comes
    pub made_own : Child true (tabled set) (Some (length set / width)) bytes
    made_own = made true s bytes many tt copied (sym size_is)

  -- with m, where it may be and there is room
  module _ (may : Mono → Bool) (level : ℕ) (m : Mono) where
    abbrev with_one : List Mono
    with_one = insert_by same before m s

    abbrev one_test : Bool
    one_test = may m && leb (length with_one) level

    pub one_refused : level ≤ length set / width → any (same m) s ≡ false → one_test ≡ false
    one_refused h f =
        n_t→is one_test (λ k.
        let l = leb→le (length with_one) level (and_r (may m) (leb (length with_one) level) k) in
        omega (arith, insert_more m s f, size_is))

    pub one_barred : may m ≡ false → one_test ≡ false
    one_barred h = n_t→is one_test (λ k. is→n_t (may m) h (and_l (may m) (leb (length with_one) level) k))

    pub one_made : length set / width < level → may m ≡ true
        → (first bytes : List ℕ) → listed (length set / width) first ≡ s → Inserted m (length set / width) first bytes → Ascending before s → any (same m) s ≡ false
        → Child one_test with_one (Some (length set / width + 1)) bytes
    one_made h q first bytes held i a f =
        let l : length with_one ≤ level = omega (arith, insert_more m s f, size_is) in
        let is : listed (many + 1) bytes ≡ with_one = inserted_in m many first bytes s held i a f in
        made one_test with_one bytes (many + 1) (and_i (may m) (leb (length with_one) level) (is→T (may m) q) (le→leb (length with_one) level l)) is
        (omega (arith, insert_more m s f, size_is))

    -- and with x
    module _ (x : Mono) (f : any (same m) s ≡ false) (g : any (same x) (insert_by same before m s) ≡ false) where
      abbrev both : List Mono
      both = insert_by same before x with_one

      abbrev two_test : Bool
      two_test = may x && may m && leb (length both) level

      both_more : length both ≡ suc (suc many)
      both_more = insert_more x with_one g ∙ ap suc (insert_more m s f ∙ ap suc size_is)

      pub two_refused : level ≤ length set / width + 1 → two_test ≡ false
      two_refused h =
          n_t→is two_test (λ k.
          let l = leb→le (length both) level (and_r (may x && may m) (leb (length both) level) k) in
          omega (arith, both_more))

      pub first_barred : may x ≡ false → two_test ≡ false
      first_barred h = n_t→is two_test (λ k. is→n_t (may x) h (search (and_l, and_r, k)))

      pub second_barred : may m ≡ false → two_test ≡ false
      second_barred h = n_t→is two_test (λ k. is→n_t (may m) h (search (and_l, and_r, k)))

      pub two_made : length set / width + 1 < level → may x ≡ true → may m ≡ true
          → (first next bytes : List ℕ) → listed (length set / width) first ≡ s → Inserted m (length set / width) first next → Inserted x (length set / width + 1) next bytes
          → Ascending before s → Child two_test both (Some (length set / width + 2)) bytes
      two_made h p q first next bytes held i j a =
          let half : listed (many + 1) next ≡ with_one = inserted_in m many first next s held i a f in
          let is : listed (many + 1 + 1) bytes ≡ both = inserted_in x (many + 1) next bytes with_one half j (insert_asc mono_order m s a) g in
          let last : many + 2 ≡ many + 1 + 1 = omega arith in
          let l : length both ≤ level = omega (arith, both_more) in
          made two_test both bytes (many + 2) (rw (p, q) (le→leb (length both) level l)) (ap (λ (k : ℕ). listed k bytes) last ∙ is) (omega (arith, both_more))

-- ---- one monomial of a pair
module _ (v : List Mono) (m : Mono) where
  added_old : (s : List Mono) → any (same m) v ≡ true → added v m s ≡ s
  unfolding added
  added_old s e = rw e

  added_fresh : (s : List Mono) → any (same m) v ≡ false → added v m s ≡ insert_by same before m s
  unfolding added
  added_fresh s e = rw e

  -- the second time it is there
  added_twice : (s : List Mono) → Ascending before s → added v m (added v m s) ≡ added v m s
  added_twice s a = go (test (any (same m) v))
    where
      go : Tested (any (same m) v) → added v m (added v m s) ≡ added v m s
      go (passed e) = added_old (added v m s) e
      go (failed e) =
          let inside : m ∈ added v m s = subst (λ (r : List Mono). m ∈ r) (sym (added_fresh s e)) (insert_new mono_order m s) in
          added_fresh (added v m s) e ∙ insert_same mono_order m (added v m s) (added_asc v m s a) inside

-- ---- the child by a pair, in V of n variables and the set
module _ (n : ℕ) (s : List Mono) (left right : Mono) where
  abbrev v : List Mono
  v = signals width n s

  abbrev whole : List Mono
  whole = child n s (left, right)

  abbrev met : Bool
  met = same left right || any (same left) v

  child_is : whole ≡ added v left (added v right s)
  unfolding child
  child_is = refl

  -- the first is the second once more, or V has it: it adds nothing
  child_met : Ascending before s → met ≡ true → whole ≡ added v right s
  child_met a e =
      child_is ∙ ⊎_elim (λ t. ap (λ (z : Mono). added v z (added v right s)) (mono_order.same_eq left right t) ∙ added_twice v right s a)
      (λ t. added_old v left (added v right s) (T→is (any (same left) v) t))
      (or_e (same left right) (any (same left) v) (is→T met e))

  -- the first adds to what the second made
  unmet_fresh : met ≡ false → any (same left) v ≡ false
  unmet_fresh e = n_t→is (any (same left) v) (λ t. is→n_t met e (or_r (same left right) (any (same left) v) t))

  pub child_none : Ascending before s → any (same right) v ≡ true → met ≡ true → whole ≡ s
  child_none a k e = child_met a e ∙ added_old v right s k

  pub child_second : Ascending before s → any (same right) v ≡ false → met ≡ true → whole ≡ insert_by same before right s
  child_second a k e = child_met a e ∙ added_fresh v right s k

  pub child_first : any (same right) v ≡ true → met ≡ false → whole ≡ insert_by same before left s
  child_first k e = child_is ∙ ap (added v left) (added_old v right s k) ∙ added_fresh v left s (unmet_fresh e)

  pub child_both : any (same right) v ≡ false → met ≡ false → whole ≡ insert_by same before left (insert_by same before right s)
  child_both k e = child_is ∙ ap (added v left) (added_fresh v right s k) ∙ added_fresh v left (insert_by same before right s) (unmet_fresh e)

  -- what V lacks, the set lacks
  pub set_lacks : (m : Mono) → any (same m) v ≡ false → any (same m) s ≡ false
  set_lacks m f =
      n_t→is (any (same m) s) (λ t. is→n_t (any (same m) v) f
      (among_in mono_order (set-in n s (among_out mono_order m s t))))

  pub first_lacks : met ≡ false → any (same left) s ≡ false
  first_lacks e = set_lacks left (unmet_fresh e)

  -- and so does the set with the second, unless the two are one
  pub both_lack : met ≡ false → any (same left) (insert_by same before right s) ≡ false
  both_lack e =
      let apart : T (same left right) → ⊥ = λ t. is→n_t met e (or_l (same left right) (any (same left) v) t) in
      n_t→is (any (same left) (insert_by same before right s)) (λ t.
      ⊎_elim (λ q. apart (subst (λ (z : Mono). T (same left z)) q (mono_order.same_refl left)))
      (λ k. is→n_t (any (same left) s) (first_lacks e) (among_in mono_order k))
      (insert_out mono_order right s (among_out mono_order left (insert_by same before right s) t)))

  -- two more
  pub both_longer : any (same right) v ≡ false → met ≡ false → length whole ≡ suc (suc (length s))
  both_longer k e =
      ap length (child_both k e) ∙ insert_more left (insert_by same before right s) (both_lack e) ∙ ap suc (insert_more right s (set_lacks right k))

  -- ---- whether the child is opened, by any rules
  module _ (r : Rules) (k : ℕ) where
    abbrev fine : Mono → Bool
    fine m = r.may m || any (same m) v

    fine_known : (m : Mono) → any (same m) v ≡ true → fine m ≡ true
    fine_known m e = T→is (fine m) (or_r (r.may m) (any (same m) v) (is→T (any (same m) v) e))

    fine_new : (m : Mono) → any (same m) v ≡ false → fine m ≡ r.may m
    fine_new m e =
        same_test (fine m) (r.may m) (λ t. ⊎_elim (λ y. y) (λ y. absurd (is→n_t (any (same m) v) e y)) (or_e (r.may m) (any (same m) v) t)) (or_l (r.may m) (any (same m) v))

    opens_as : (x y : Bool) (c : List Mono) → fine left ≡ x → fine right ≡ y → whole ≡ c → opens r n k s (left, right) ≡ x && y && leb (length c) k
    unfolding opens
    opens_as x y c p q e = rw (sym p, sym q, sym e)

    -- the first is fine where the second is
    met_fine : met ≡ true → T (fine right) → T (fine left)
    met_fine e t =
        ⊎_elim (λ y. subst (λ (z : Mono). T (fine z)) (sym (mono_order.same_eq left right y)) t) (λ y. or_r (r.may left) (any (same left) v) y)
        (or_e (same left right) (any (same left) v) (is→T met e))

    pub opens_none : Ascending before s → length s ≤ k → any (same right) v ≡ true → met ≡ true → opens r n k s (left, right) ≡ true
    opens_none a h q e =
        let second : fine right ≡ true = fine_known right q in
        let first : fine left ≡ true = T→is (fine left) (met_fine e (is→T (fine right) second)) in
        opens_as true true s first second (child_none a q e) ∙ le-leb (length s) k h

    pub opens_second : Ascending before s → any (same right) v ≡ false → met ≡ true
        → opens r n k s (left, right) ≡ r.may right && leb (length (insert_by same before right s)) k
    opens_second a q e =
        let c : List Mono = insert_by same before right s in
        let l : Bool = leb (length c) k in
        let new = fine_new right q in
        opens_as (fine left) (r.may right) c refl new (child_second a q e)
        ∙ same_test (fine left && r.may right && l) (r.may right && l)
        (λ t. and_i (r.may right) l (and_r (fine left) (r.may right) (and_l (fine left && r.may right) l t)) (and_r (fine left && r.may right) l t))
        (λ t. and_i (fine left && r.may right) l (and_i (fine left) (r.may right) (met_fine e (subst T (sym new) (and_l (r.may right) l t))) (and_l (r.may right) l t)) (and_r (r.may right) l t))

    pub opens_first : any (same right) v ≡ true → met ≡ false → opens r n k s (left, right) ≡ r.may left && leb (length (insert_by same before left s)) k
    opens_first q e =
        let c : List Mono = insert_by same before left s in
        opens_as (r.may left) true c (fine_new left (unmet_fresh e)) (fine_known right q) (child_first q e)
        ∙ same_test (r.may left && true && leb (length c) k) (r.may left && leb (length c) k)
        (λ t. and_i (r.may left) (leb (length c) k) (search (and_l, and_r, t)) (search (and_l, and_r, t)))
        (λ t. and_i (r.may left && true) (leb (length c) k) (and_i (r.may left) true (and_l (r.may left) (leb (length c) k) t) tt) (and_r (r.may left) (leb (length c) k) t))

    pub opens_both : any (same right) v ≡ false → met ≡ false
        → opens r n k s (left, right) ≡ r.may left && r.may right && leb (length (insert_by same before left (insert_by same before right s))) k
    opens_both q e =
        opens_as (r.may left) (r.may right) (insert_by same before left (insert_by same before right s)) (fine_new left (unmet_fresh e)) (fine_new right q) (child_both q e)
