-- The lent list: what it holds once a monomial more is met, and that in the end it holds the nonsquares or that they are too many. Assumes nothing.
use mathlib.Core.Path.{◌≡◌, sym, ap, ◌∙◌, subst}
use mathlib.Core.Logic.{⊎_elim}
use mathlib.Core.Bool.{true, false}
use mathlib.Core.List.Memᴰ
use mathlib.Core.List.{List, [], ◌∷◌, ◌++◌}
use Prim.Native.Nat.{ℕ, ◌+◌, ◌*◌, ◌<◌, ◌≤◌}
use native.Mathlib.Omega.{arith}
use lib.ListN.{length, get_or, take}
use lib.Seq.{paste, length-take-le, take_all, take-paste}
use Rattle.monomial.specs.Lists.{any, gather}
use Rattle.monomial.specs.Monomial.{Mono, one, width}
use Rattle.monomial.specs.Order.{same}
use Rattle.monomial.specs.Claims.{◌∈◌, ◌⊆◌, Different, Rearranged}
use Rattle.monomial.proofs.Tests.{is→T, is→n_t}
use Rattle.monomial.proofs.Members.{there, append_sub, append_turned, gather_in, gather_out}
use Rattle.monomial.proofs.Counting.{at_in}
use Rattle.monomial.proofs.Rearranged.{rearranged_in, rearranged_out, rearranged_length}
use Rattle.monomial.proofs.Different.{different_more, different_length, different_rearranged, ascending_different}
use Rattle.monomial.proofs.Loops.{OfMembers, Collecting, collecting_sub, collecting_end, CollectingDown, collecting_behind, collecting_down, collecting_whole}
use Rattle.monomial.proofs.order.Laws.{mono_order}
use Rattle.monomial.proofs.order.Ascending.{among_in, among_out}
use Rattle.wiring.specs.Poly.{Poly, plain}
use Rattle.wiring.specs.Derivative.{derivative, image}
use Rattle.wiring.specs.Terms.{Record, system}
use Rattle.wiring.specs.Quadratic.{unmet, nonsquares}
use Rattle.wiring.specs.Signals.{tabled, listed}
use Rattle.wiring.specs.Choice.{cheaper, Picked, Best, Offered}
use Rattle.std.specs.Prelude.{Option, Some}
use Rattle.monomial.specs.declared.Monomial.{Monomial}
use Rattle.wiring.proofs.signals.Tables.{tabled_none, tabled_length, tabled_more}
use Rattle.wiring.proofs.quadratic.Laws.{nonsquares_in, nonsquares_out, nonsquares_asc}
use Rattle.wiring.proofs.quadratic.Records.{outside, passing, offering, offered_in, offered_sub, passing_sub, passing_unmet, met, met_all, meets_none, meets_one}
use Rattle.wiring.proofs.choice.Laws.{picked}
use Rattle.counting.specs.Gathering.{Lent, Holds, Exceeds, Lists}

-- ---- the bytes
-- the listed monomials lie in the list
module _ {most len : ℕ} {bytes : List ℕ} (w : Lent most len bytes) where
  pub lent_within : width * len ≤ length bytes
  lent_within = omega (arith, w.room, w.few)

  pub lent_part : length (take (width * len) bytes) ≡ width * len
  lent_part = length-take-le (width * len) bytes lent_within

  pub lent_length : length (listed len bytes) ≡ len
  lent_length = tabled_length (take (width * len) bytes) ∙ omega (arith, lent_part)

-- a monomial written behind the last one
pub listed_more : (len : ℕ) (bytes : List ℕ) (x : Mono) → length x ≡ width → width * len ≤ length bytes
    → listed (len + 1) (paste bytes (width * len) x width) ≡ listed len bytes ++ (x ∷ [])
listed_more len bytes x w h =
    let next : width * (len + 1) ≡ width * len + width = omega arith in
    ap (λ (n : ℕ). tabled (take n (paste bytes (width * len) x width))) next
    ∙ ap tabled (take-paste bytes (width * len) x width h (omega arith) ∙ ap (λ (y : Mono). take (width * len) bytes ++ y) (take_all width x (omega arith)))
    ∙ tabled_more (take (width * len) bytes) len x (length-take-le (width * len) bytes h) w

-- ---- what a list holds
pub holds_lent : {l : List Mono} {most len : ℕ} {bytes : List ℕ} → Holds l most len bytes → width * most ≤ length bytes → Lent most len bytes
holds_lent h r = record { room = r; few = h.few; different = h.different }

-- it holds what it lists
pub lent_holds : {most len : ℕ} {bytes : List ℕ} → Lent most len bytes → Holds (listed len bytes) most len bytes
lent_holds w = record { few = w.few; different = w.different; inside = λ y h. h; all = λ y h. h }

-- with nothing met, nothing is listed
pub holds_none : (most : ℕ) (bytes : List ℕ) → Holds [] most 0 bytes
holds_none most bytes = record {
  few = omega arith;
  different = subst Different (sym tabled_none) tt;
  inside = λ y h. subst (λ (l : List Mono). y ∈ l) tabled_none h;
  all = λ y h. absurd (Memᴰ.not-nil h);
}

-- only the members matter
pub holds_members : (most len : ℕ) (bytes : List ℕ) → OfMembers (λ l. Holds l most len bytes)
holds_members most len bytes a b ab ba h =
    record { few = h.few; different = h.different; inside = λ y k. ab y (h.inside y k); all = λ y k. h.all y (ba y k) }

pub exceeds_sub : (most : ℕ) (a b : List Mono) → a ⊆ b → Exceeds a most → Exceeds b most
exceeds_sub most a b ab x = record { some = x.some; different = x.different; inside = λ y k. ab y (x.inside y k); many = x.many }

-- ---- a monomial more
module _ {most len : ℕ} {bytes : List ℕ} (w : Lent most len bytes) (m : Mono) where
  -- it is listed already
  pub note_old : any (same m) (listed len bytes) ≡ true → Holds (m ∷ listed len bytes) most len bytes
  note_old e =
      let old : m ∈ listed len bytes = among_out mono_order m (listed len bytes) (is→T (any (same m) (listed len bytes)) e) in
      record { few = w.few; different = w.different; inside = λ y h. there h; all = λ y h. ⊎_elim (λ q. Memᴰ.cast q old) (λ k. k) (Memᴰ.cases_cons h) }

  module _ (e : any (same m) (listed len bytes) ≡ false) where
    new : m ∈ listed len bytes → ⊥
    new h = is→n_t (any (same m) (listed len bytes)) e (among_in mono_order h)

    -- it is new, and the list is full
    pub note_full : most ≤ len → Exceeds (m ∷ listed len bytes) most
    note_full h = record { some = m ∷ listed len bytes; different = (new, w.different); inside = λ y k. k; many = omega (arith, lent_length w) }

    -- it is new, and written
    pub note_new : len < most → length m ≡ width → (now : List ℕ) → now ≡ paste bytes (width * len) m width → Holds (m ∷ listed len bytes) most (len + 1) now
    note_new h wide now p =
        let old : List Mono = listed len bytes in
        let is : listed (len + 1) now ≡ old ++ (m ∷ []) = ap (listed (len + 1)) p ∙ listed_more len bytes m wide (lent_within w) in
        record {
          few = omega arith;
          different = subst Different (sym is) (different_more old m w.different new);
          inside = λ y k. append_turned old (m ∷ []) y (subst (λ (l : List Mono). y ∈ l) is k);
          all = λ y k. subst (λ (l : List Mono). y ∈ l) (sym is) (append_turned (m ∷ []) old y k);
        }

-- ---- monomials more on top of what the list held
module _ {met : List Mono} {most len : ℕ} {bytes : List ℕ} (h : Holds met most len bytes) (new : List Mono) where
  same_new : new ⊆ new
  same_new y k = k

  pub holds_over : (len' : ℕ) (now : List ℕ) → Holds (new ++ listed len bytes) most len' now → Holds (new ++ met) most len' now
  holds_over len' now k =
      holds_members most len' now (new ++ listed len bytes) (new ++ met) (append_sub same_new h.inside) (append_sub same_new h.all) k

  pub exceeds_over : (all : List Mono) → new ⊆ all → met ⊆ all → Exceeds (new ++ listed len bytes) most → Exceeds all most
  exceeds_over all n m x =
      exceeds_sub most (new ++ listed len bytes) all (λ y k. ⊎_elim (n y) (λ j. m y (h.inside y j)) (Memᴰ.append_cases new k)) x

-- ---- the nonsquares of one derivative, through the records: l0 was listed before
module _ (l0 : List Mono) where
  beside : (a b : List Mono) → a ⊆ b → (a ++ l0) ⊆ (b ++ l0)
  beside a b ab = append_sub ab (λ y k. k)

  pub holds_beside : (most len : ℕ) (bytes : List ℕ) → OfMembers (λ l. Holds (l ++ l0) most len bytes)
  holds_beside most len bytes a b ab ba h = holds_members most len bytes (a ++ l0) (b ++ l0) (beside a b ab) (beside b a ba) h

  module _ (v : List Mono) (rs : List Record) (z : Mono) where
    abbrev pub giving : Record → List Mono
    giving = met (offering (outside v) rs z) z

    -- the loop has met the first t records
    abbrev pub Meeting : ℕ → ℕ → List ℕ → ℕ → Type 0
    Meeting most len bytes t = Collecting giving rs (λ l. Holds (l ++ l0) most len bytes) t

    module _ {most len : ℕ} {bytes : List ℕ} {t : ℕ} (c : Meeting most len bytes t) (d : Record) (h : t < length rs) where
      -- the next one offers nothing
      pub meeting_none : offering (outside v) rs z (get_or rs t d) ≡ false → Meeting most len bytes (t + 1)
      meeting_none o = meets_none (offering (outside v) rs z) z rs d h c (holds_beside most len bytes) o

      -- or x, which is listed now
      pub meeting_more : offering (outside v) rs z (get_or rs t d) ≡ true → (x : Mono) → image (get_or rs t d) z ≡ x
          → (len' : ℕ) (now : List ℕ) → Holds (x ∷ listed len bytes) most len' now → Meeting most len' now (t + 1)
      meeting_more o x q len' now k =
          meets_one (offering (outside v) rs z) z rs d h c (holds_beside most len' now) o (λ m b. rw q (holds_over b (x ∷ []) len' now k))

    abbrev pub lacked : List Mono
    lacked = unmet plain v (derivative plain (system rs) z)

    given_in : gather giving rs ⊆ lacked
    given_in y h =
        subst (λ (l : List Mono). y ∈ l) (passing_unmet v rs z)
        (offered_sub (outside v) rs z y (subst (λ (l : List Mono). y ∈ l) (met_all (offering (outside v) rs z) z rs) h))

    given_out : lacked ⊆ gather giving rs
    given_out y h =
        subst (λ (l : List Mono). y ∈ l) (sym (met_all (offering (outside v) rs z) z rs))
        (passing_sub (outside v) rs z y (subst (λ (l : List Mono). y ∈ l) (sym (passing_unmet v rs z)) h))

    -- what a record offers is one of them
    offered_lacks : (r : Record) (m : Monomial) → Offered (offering (outside v) rs z r) (image r z) (Some m) → m.e ∈ lacked
    offered_lacks r m o =
        let given : image r z ∈ passing (outside v) rs z = offered_in (outside v) rs z r (is→T (offering (outside v) rs z r) (sym o.told)) in
        subst (λ (l : List Mono). m.e ∈ l) (passing_unmet v rs z) (Memᴰ.cast o.is given)

    module _ {most len : ℕ} {bytes : List ℕ} {t : ℕ} (c : Meeting most len bytes t) where
      -- one of them is too many
      pub meeting_over : (r : Record) (m : Monomial) → Offered (offering (outside v) rs z r) (image r z) (Some m)
          → Exceeds (m.e ∷ listed len bytes) most → Exceeds (lacked ++ l0) most
      meeting_over r m o x = exceeds_over c.holds (m.e ∷ []) (lacked ++ l0) one so_far x
        where
          one : (m.e ∷ []) ⊆ (lacked ++ l0)
          one y k =
              ⊎_elim (λ q. Memᴰ.append_left l0 (Memᴰ.cast q (offered_lacks r m o))) (λ n. absurd (Memᴰ.not-nil n)) (Memᴰ.cases_cons k)

          so_far : (gather giving (take t rs) ++ l0) ⊆ (lacked ++ l0)
          so_far = beside (gather giving (take t rs)) lacked (λ y k. given_in y (collecting_sub giving rs t y k))

      -- all are listed
      pub meeting_ends : length rs ≤ t → Holds (lacked ++ l0) most len bytes
      meeting_ends h = holds_beside most len bytes (gather giving rs) lacked given_in given_out (collecting_end giving rs c h)

-- ---- the nonsquares
module _ (v : List Mono) (d : Mono → Poly Mono) where
  abbrev pub unmet_of : Mono → List Mono
  unmet_of z = unmet plain v (d z)

  abbrev pub ns : List Mono
  ns = nonsquares plain v d

  gathered_in : gather unmet_of v ⊆ ns
  gathered_in m k = let g = gather_out unmet_of v k in nonsquares_in plain mono_order v d g.entry m g.member g.inside

  gathered_out : ns ⊆ gather unmet_of v
  gathered_out m k = let w = nonsquares_out plain mono_order v d m k in gather_in unmet_of v w.of_in w.missing

  -- a loop has met the signals from number j on
  abbrev pub Gathering : ℕ → ℕ → List ℕ → ℕ → Type 0
  Gathering most len bytes j = CollectingDown unmet_of v (λ l. Holds l most len bytes) j

  module _ {most len : ℕ} {bytes : List ℕ} {j : ℕ} (c : Gathering most len bytes j) where
    module _ (i : ℕ) (h : j ≡ i + 1) (z : Mono) (here : get_or v i (one width) ≡ z) where
      -- those of the one before it are listed now
      pub gathering_next : (len' : ℕ) (now : List ℕ) → Holds (unmet_of z ++ listed len bytes) most len' now → Gathering most len' now i
      gathering_next len' now k = collecting_down unmet_of v c i (one width) h (λ m b. rw here (holds_over b (unmet_of z) len' now k))

      -- or one of them is too many
      pub gathering_over : Exceeds (unmet_of z ++ listed len bytes) most → most < length ns
      gathering_over x =
          let y : Exceeds ns most = exceeds_over c.holds (unmet_of z) ns own (λ m k. gathered_in m (collecting_behind unmet_of v j m k)) x in
          let long : length y.some ≤ length ns = different_length y.some ns y.different y.inside in
          omega (arith, y.many)
        where
          own : unmet_of z ⊆ ns
          own m k = nonsquares_in plain mono_order v d z m (subst (λ (x : Mono). x ∈ v) here (at_in v i (one width) (omega (arith, c.within)))) k

  module _ {most len : ℕ} {bytes : List ℕ} (c : Gathering most len bytes 0) where
    pub gathering_ends : width * most ≤ length bytes → Lists ns most len bytes
    gathering_ends r = record { few = held.few; many = sym (rearranged_length ns (listed len bytes) are ∙ lent_length (holds_lent held r)); are = are }
      where
        held : Holds ns most len bytes
        held = holds_members most len bytes (gather unmet_of v) ns gathered_in gathered_out (collecting_whole unmet_of v c)

        are : Rearranged ns (listed len bytes)
        are =
            different_rearranged ns (listed len bytes) (ascending_different mono_order ns (nonsquares_asc plain mono_order v d)) held.different
            held.all held.inside

-- ---- the cheapest of the listed nonsquares is the one that is split
pub picked_of : (l r : List Mono) (p : Option Monomial) → Rearranged l r → Best cheaper r p → Picked l p
picked_of l r p q b = picked l r p (rearranged_out l r q) (rearranged_in l r q) b
