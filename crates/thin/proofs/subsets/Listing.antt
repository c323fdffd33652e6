-- A list in the buffer as far as there is room: it begins empty, and one more set joins it. Assumes nothing.
use mathlib.Core.Path.{◌≡◌, sym, ap, ap₂, ◌∙◌}
use mathlib.Core.Logic.{⊎_elim}
use mathlib.Core.List.Memᴰ
use mathlib.Core.List.{List, [], ◌∷◌, ◌++◌}
use Prim.Native.Nat.{ℕ, ◌+◌, ◌*◌, ◌-◌, ◌/◌, ◌<◌, ◌≤◌, min}
use native.Mathlib.Omega.{arith}
use lib.ListN.{length, take, replicate, length-append, replicate-append-replicate}
use lib.Seq.{paste, length-paste, take_all, take-nil, take-append-le}
use Rattle.monomial.specs.Monomial.{Mono}
use Rattle.monomial.specs.Claims.{◌∈◌}
use Rattle.wiring.specs.Panel.{cards, set_bytes}
use Rattle.wiring.specs.Sets.{monomials_of, set_record}
use Rattle.wiring.specs.Claims.{Wide}
use Rattle.wiring.specs.declared.held.Set.{Set}
use Rattle.wiring.proofs.signals.Arrays.{front_length}
use Rattle.wiring.proofs.sets.Exact.{record_length}
use Rattle.walk.specs.Walk.{Finds}
use Rattle.walk.specs.Plan.{sets_bytes}
use Rattle.walk.proofs.listing.Laid.{sets_none, sets_more}
use Rattle.thin.specs.Subsets.{Begun}

-- the record of a set held by value is of one length
pub set_long : (set : Set) → length set.m ≡ cards → Wide (monomials_of set) → length (set_record (monomials_of set)) ≡ set_bytes
set_long set full wide = record_length (monomials_of set) (omega (arith, front_length set.len set.m (omega arith))) wide

pub begun_none : (out : List ℕ) → out ≡ replicate (length out) 0 → Begun [] out
begun_none out e = record { even = λ s m. absurd (Memᴰ.not-nil m); bytes = all }
  where
    all : out ≡ sets_bytes (take (length out / set_bytes) []) ++ replicate (length out - set_bytes * min 0 (length out / set_bytes)) 0
    all =
        let whole : length out ≡ length out - set_bytes * min 0 (length out / set_bytes) = omega arith in
        rw (take-nil {A = List Mono} (length out / set_bytes), sets_none) (e ∙ ap (λ (k : ℕ). replicate k 0) whole)

module _ (l : Finds) (s : List Mono) (out : List ℕ) (b : Begun l out) (long : length (set_record s) ≡ set_bytes) where
  even_more : (x : List Mono) → x ∈ (l ++ (s ∷ [])) → length (set_record x) ≡ set_bytes
  even_more x m = ⊎_elim (b.even x) last (Memᴰ.append_cases l m)
    where
      last : x ∈ (s ∷ []) → length (set_record x) ≡ set_bytes
      last k = ⊎_elim (λ e. ap (λ (y : List Mono). length (set_record y)) e ∙ long) (λ n. absurd (Memᴰ.not-nil n)) (Memᴰ.cases_cons k)

  -- without room nothing is written
  pub begun_past : length out / set_bytes ≤ length l → Begun (l ++ (s ∷ [])) out
  begun_past h = record { even = even_more; bytes = b.bytes ∙ ap₂ (λ (u : Finds) (k : ℕ). sets_bytes u ++ replicate (length out - set_bytes * k) 0) front few }
    where
      front : take (length out / set_bytes) l ≡ take (length out / set_bytes) (l ++ (s ∷ []))
      front = sym (take-append-le (length out / set_bytes) l (s ∷ []) h)

      few : min (length l) (length out / set_bytes) ≡ min (length (l ++ (s ∷ []))) (length out / set_bytes)
      few = omega (arith, length-append l (s ∷ []))

  -- with room its record stands behind the others
  module _ (h : length l < length out / set_bytes) (out' : List ℕ) (e : out' ≡ paste out (set_bytes * length l) (set_record s) set_bytes) where
    abbrev rest : ℕ
    rest = length out - set_bytes * (length l + 1)

    same_length : length out' ≡ length out
    same_length = ap length e ∙ length-paste out (set_bytes * length l) (set_record s) set_bytes (omega arith) (omega arith)

    before : out ≡ sets_bytes l ++ (replicate set_bytes 0 ++ replicate rest 0)
    before =
        let all : take (length out / set_bytes) l ≡ l = take_all (length out / set_bytes) l (omega arith) in
        let many : length out - set_bytes * min (length l) (length out / set_bytes) ≡ set_bytes + rest = omega arith in
        b.bytes ∙ ap₂ (λ (u : Finds) (k : ℕ). sets_bytes u ++ replicate k 0) all many
        ∙ ap (λ (z : List ℕ). sets_bytes l ++ z) (sym (replicate-append-replicate set_bytes rest 0))

    after : out' ≡ sets_bytes (l ++ (s ∷ [])) ++ replicate rest 0
    after = e ∙ ap (λ (u : List ℕ). paste u (set_bytes * length l) (set_record s) set_bytes) before ∙ sets_more l b.even s rest long

    pub begun_more : Begun (l ++ (s ∷ [])) out'
    begun_more = record { even = even_more; bytes = after ∙ ap₂ (λ (u : Finds) (k : ℕ). sets_bytes u ++ replicate k 0) all many }
      where
        more : length (l ++ (s ∷ [])) ≡ length l + 1
        more = length-append l (s ∷ [])

        all : l ++ (s ∷ []) ≡ take (length out' / set_bytes) (l ++ (s ∷ []))
        all = sym (take_all (length out' / set_bytes) (l ++ (s ∷ [])) (omega (arith, more, same_length)))

        many : rest ≡ length out' - set_bytes * min (length (l ++ (s ∷ []))) (length out' / set_bytes)
        many = omega (arith, more, same_length)
