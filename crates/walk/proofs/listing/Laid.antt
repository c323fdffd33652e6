-- Set records one behind the other in a buffer, then zeros: one more joins them, and each lies in its place. Assumes nothing.
use mathlib.Core.Path.{◌≡◌, refl, ap, subst, ◌∙◌}
use mathlib.Core.List.{List, [], ◌∷◌, ◌++◌}
use Prim.Native.Nat.{ℕ, ◌+◌, ◌*◌, ◌-◌, ◌≤◌, ◌<◌}
use native.Mathlib.Omega.{arith}
use lib.ListN.{length, get_or, take, drop, replicate, length-append, length-replicate}
use lib.Seq.{paste, get_or-append-add}
use Rattle.monomial.specs.Lists.{gather}
use Rattle.monomial.specs.Monomial.{Mono}
use Rattle.monomial.specs.Claims.{◌∈◌}
use Rattle.monomial.proofs.Members.{fill_at}
use Rattle.monomial.proofs.Strips.{strip_length, strip_at, strip_last}
use Rattle.wiring.specs.Panel.{set_bytes}
use Rattle.wiring.specs.Sets.{set_record}
use Rattle.walk.specs.Walk.{Finds}
use Rattle.walk.specs.Plan.{sets_bytes}
use Rattle.walk.specs.Claims.{Laid}

pub sets_none : sets_bytes [] ≡ []
unfolding sets_bytes gather
sets_none = refl

module _ (l : Finds) (even : (s : List Mono) → s ∈ l → length (set_record s) ≡ set_bytes) where
  pub sets_length : length (sets_bytes l) ≡ set_bytes * length l
  unfolding sets_bytes
  sets_length = strip_length set_record set_bytes l even

  sets-at : (tail : List ℕ) (i : ℕ) → i < length l → take set_bytes (drop (set_bytes * i) (sets_bytes l ++ tail)) ≡ set_record (get_or l i [])
  unfolding sets_bytes
  sets-at tail i k = strip_at set_record set_bytes l even tail i [] k

  -- one more record behind the others, over zeros
  pub sets_more : (s : List Mono) (rest : ℕ) → length (set_record s) ≡ set_bytes
      → paste (sets_bytes l ++ (replicate set_bytes 0 ++ replicate rest 0)) (set_bytes * length l) (set_record s) set_bytes ≡ sets_bytes (l ++ (s ∷ [])) ++ replicate rest 0
  unfolding sets_bytes
  sets_more s rest long = strip_last set_record set_bytes l even s (replicate set_bytes 0) (replicate rest 0) (length-replicate {A = ℕ} set_bytes 0) long

pub sets_laid : (l : Finds) (count size : ℕ) (bytes : List ℕ) → ((s : List Mono) → s ∈ l → length (set_record s) ≡ set_bytes) → count ≡ length l → set_bytes * count ≤ size
    → bytes ≡ sets_bytes l ++ replicate (size - set_bytes * count) 0 → Laid l count size bytes
sets_laid l count size bytes even counted fits left = record {
  counted = counted;
  fits = fits;
  written = λ i h. ap (λ (b : List ℕ). take set_bytes (drop (set_bytes * i) b)) left ∙ sets-at l even tail i (rw (← counted) h);
  rest = behind;
  long = ap length left ∙ length-append (sets_bytes l) tail ∙ omega (arith, front, back, fits, counted);
}
  where
    tail : List ℕ
    tail = replicate (size - set_bytes * count) 0

    front : length (sets_bytes l) ≡ set_bytes * length l
    front = sets_length l even

    back : length {A = ℕ} (replicate (size - set_bytes * count) 0) ≡ size - set_bytes * count
    back = length-replicate (size - set_bytes * count) 0

    behind : (j : ℕ) → set_bytes * count ≤ j → get_or bytes j 0 ≡ 0
    behind j h =
        let b = sets_bytes l in
        let at : length b + (j - length b) ≡ j = omega (arith, front, counted) in
        let from = get_or-append-add b tail (j - length b) 0 ∙ fill_at 0 (size - set_bytes * count) (j - length b) in
        ap (λ (x : List ℕ). get_or x j 0) left ∙ subst (λ (x : ℕ). get_or (b ++ tail) x 0 ≡ 0) at from
