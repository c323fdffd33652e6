-- The record of a set held by value: its monomials are written over zeros, one behind the other. Assumes nothing.
use mathlib.Core.Path.{◌≡◌, refl, sym, ap, ap₂, ◌∙◌}
use mathlib.Core.List.{List, [], ◌∷◌, ◌++◌}
use Prim.Native.Nat.{ℕ, ◌+◌, ◌*◌, ◌-◌, ◌<◌, ◌≤◌}
use native.Mathlib.Omega.{arith}
use native.Mathlib.Numerals.{add-one}
use lib.ListN.{length, get_or, take, replicate, length-append, replicate-append-replicate}
use lib.Seq.{paste, length-paste, take-suc, take_all, length-take-le}
use Rattle.monomial.specs.Lists.{gather}
use Rattle.monomial.specs.Monomial.{Mono, width}
use Rattle.monomial.proofs.Members.{take_in}
use Rattle.monomial.proofs.Counting.{at_in}
use Rattle.monomial.proofs.Strips.{strip_last}
use Rattle.wiring.specs.Panel.{cards, set_bytes}
use Rattle.wiring.specs.Sets.{set_record}
use Rattle.wiring.specs.Claims.{Wide}
use Rattle.wiring.proofs.sets.Exact.{record_is}

abbrev zeros : ℕ → List ℕ
zeros n = replicate n 0

-- ---- a loop that makes the record of s, and has written the first i monomials
pub record Making (s : List Mono) (b : List ℕ) (i : ℕ) : Type 0 where
  pub within : i ≤ length s
  pub long : length b ≡ set_bytes
  pub made : b ≡ set_record (take i s)

pub making_start : (s : List Mono) → Making s (zeros set_bytes) 0
unfolding gather
making_start s = record { within = omega arith; long = refl; made = sym (record_is []) }

module _ (s : List Mono) (few : length s ≤ cards) (wide : Wide s) where
  -- the next monomial is written behind them
  made_more : (i : ℕ) → i < length s → paste (set_record (take i s)) (width * i) (get_or s i []) width ≡ set_record (take (i + 1) s)
  made_more i h =
      let t = take i s in
      let m = get_or s i [] in
      let rest = set_bytes - width * (i + 1) in
      let long : length t ≡ i = length-take-le i s (omega arith) in
      let next : take (i + 1) s ≡ t ++ (m ∷ []) = rw (add-one i) (take-suc s i [] h) in
      let at : width * i ≡ width * length t = omega arith in
      let spare : set_bytes - width * length t ≡ width + rest = omega arith in
      let free : zeros (set_bytes - width * length t) ≡ zeros width ++ zeros rest = ap zeros spare ∙ sym (replicate-append-replicate width rest 0) in
      let left : set_bytes - width * length (t ++ (m ∷ [])) ≡ rest = omega (arith, length-append t (m ∷ [])) in
      rw (record_is t, record_is (take (i + 1) s), free, at, next, left)
      (strip_last (λ (x : Mono). x) width t (λ x k. wide x (take_in i s k)) m (zeros width) (zeros rest) refl (wide m (at_in s i [] h)))

  pub making_next : {b : List ℕ} {i : ℕ} → Making s b i → (m : Mono) → i < length s → m ≡ get_or s i [] → Making s (paste b (width * i) m width) (i + 1)
  making_next {b} {i} k m h e =
      let six : length m ≡ width = ap length e ∙ wide (get_or s i []) (at_in s i [] h) in
      record {
        within = omega arith;
        long = length-paste b (width * i) m width (omega (arith, k.long)) (omega arith) ∙ k.long;
        made = ap₂ (λ (u : List ℕ) (x : Mono). paste u (width * i) x width) k.made e ∙ made_more i h;
      }

pub making_end : {s : List Mono} {b : List ℕ} {i : ℕ} → Making s b i → length s ≤ i → b ≡ set_record s
making_end {s} {b} {i} k h = k.made ∙ ap (λ (t : List Mono). set_record t) (take_all i s h)
