-- The tally of all subsets of a set holds the quadratic ones of the least size, in their order. Assumes nothing.
use mathlib.Core.Path.{◌≡◌, refl, sym, ap, ap₂, ◌∙◌}
use mathlib.Core.Logic.{⊎_elim}
use mathlib.Core.List.Memᴰ
use mathlib.Core.List.{List, [], ◌∷◌, ◌++◌, append-nil, append_assoc}
use Prim.Native.Nat.{ℕ, suc, ◌+◌, ◌^◌, ◌<◌, ◌≤◌, min}
use native.Mathlib.Omega.{arith}
use borrow.Author.Tests.{eq-eqb}
use lib.Dec.{T, eqb, ltb, eqb→eq, ltb→lt}
use lib.ListN.{length}
use Rattle.monomial.specs.Lists.{keep}
use Rattle.monomial.specs.Monomial.{Mono}
use Rattle.monomial.specs.Claims.{◌∈◌, Compared, less, equal, more}
use Rattle.monomial.proofs.Tests.{Tested, passed, failed, test, is→T, is→n_t}
use Rattle.monomial.proofs.Members.{keep_yes, keep_no, keep_all, keep_none, keep_append}
use Rattle.monomial.proofs.order.Laws.{ℕ-order}
use Rattle.wiring.specs.Poly.{Poly}
use Rattle.walk.specs.Walk.{Finds}
use Rattle.thin.specs.Subsets.{subsets, Tally, tally, is_quadratic, sifted, all_sifted}
use Rattle.thin.specs.Thin.{least_size, of_size, quadratic_ones, least, thinnest}
use Rattle.thin.proofs.subsets.Laws.{subsets_count}
use Rattle.thin.proofs.subsets.Sifting.{sifted_not, sifted_larger, sifted_smaller, sifted_alike}

-- ---- the least size
pub least_bound : (b : ℕ) (l : Finds) → least_size b l ≤ b
unfolding least_size
least_bound b [] = omega arith
least_bound b (t ∷ l) = let ih : least_size b l ≤ b = least_bound b l in omega arith

-- a lower bound is known
least_lower : (a b : ℕ) (l : Finds) → a ≤ b → least_size a l ≡ min a (least_size b l)
unfolding least_size
least_lower a b [] h = omega arith
least_lower a b (t ∷ l) h = let ih : least_size a l ≡ min a (least_size b l) = least_lower a b l h in omega arith

-- ---- those of one size
size_no : (k : ℕ) (s : List Mono) (l : Finds) → (length s ≡ k → ⊥) → of_size k (s ∷ l) ≡ of_size k l
size_no k s l n = keep_no (λ (t : List Mono). eqb (length t) k) s l (λ t. n (eqb→eq (length s) k t))

-- lists of one size, all of them or none
abbrev OneSize : ℕ → Finds → Type 0
OneSize k l = (s : List Mono) → s ∈ l → length s ≡ k

size_all : (k : ℕ) (l : Finds) → OneSize k l → of_size k l ≡ l
size_all k l h = keep_all (λ (t : List Mono). eqb (length t) k) l (λ s m. is→T (eqb (length s) k) (eq-eqb (length s) k (h s m)))

size_none : (j k : ℕ) (l : Finds) → OneSize j l → (j ≡ k → ⊥) → of_size k l ≡ []
size_none j k l h n = keep_none (λ (t : List Mono). eqb (length t) k) l (λ s m t. n (sym (h s m) ∙ eqb→eq (length s) k t))

size_append : (k : ℕ) (a b : Finds) → of_size k (a ++ b) ≡ of_size k a ++ of_size k b
size_append k a b = keep_append (λ (t : List Mono). eqb (length t) k) a b

-- ---- a tally of sets of one size, with more sets
tally_is : {o o' : ℕ} {l l' : Finds} {k k' : ℕ} → o ≡ o' → l ≡ l' → k ≡ k' → tally o l k ≡ tally o' l' k'
tally_is {o} {o'} {l} {l'} {k} {k'} p q r = ap₂ (λ (x : ℕ) (y : Finds). tally x y k) p q ∙ ap (λ (z : ℕ). tally o' l' z) r

module _ (n : ℕ) (fs : List (Poly Mono)) where
  abbrev fit : Finds → Finds
  fit l = keep (is_quadratic n fs) l

  -- the least size of the tally and of the quadratic ones among the sets, and those that have it
  abbrev best_of : Tally → Finds → Tally
  best_of t l = let o = least_size t.order (fit l) in tally o (of_size o (t.sets ++ fit l)) (t.steps + length l)

  module _ (t : Tally) (alike : OneSize t.order t.sets) (x : List Mono) (l : Finds) where
    abbrev next : ℕ
    next = suc t.steps

    counted : next + length l ≡ t.steps + suc (length l)
    counted = omega arith

    -- what is not quadratic changes nothing
    over : (T (is_quadratic n fs x) → ⊥) → best_of (tally t.order t.sets next) l ≡ best_of t (x ∷ l)
    over f =
        let same : fit (x ∷ l) ≡ fit l = keep_no (is_quadratic n fs) x l f in
        rw same (tally_is refl refl counted)

    module _ (q : T (is_quadratic n fs x)) where
      abbrev rest : ℕ
      rest = least_size t.order (fit l)

      fitting : fit (x ∷ l) ≡ x ∷ fit l
      fitting = keep_yes (is_quadratic n fs) x l q

      low : rest ≤ t.order
      low = least_bound t.order (fit l)

      larger : t.order < length x → best_of (tally t.order t.sets next) l ≡ best_of t (x ∷ l)
      unfolding least_size
      larger h =
          let order : rest ≡ min (length x) rest = omega (arith, low) in
          let passed : of_size rest (x ∷ fit l) ≡ of_size rest (fit l) = size_no rest x (fit l) (λ e. let z : ⊥ = omega (arith, low) in z) in
          let sets : of_size rest (t.sets ++ fit l) ≡ of_size rest (t.sets ++ (x ∷ fit l)) =
          size_append rest t.sets (fit l) ∙ ap (λ (u : Finds). of_size rest t.sets ++ u) (sym passed) ∙ sym (size_append rest t.sets (x ∷ fit l)) in
          rw fitting (tally_is order (sets ∙ ap (λ (k : ℕ). of_size k (t.sets ++ (x ∷ fit l))) order) counted)

      smaller : length x < t.order → best_of (tally (length x) (x ∷ []) next) l ≡ best_of t (x ∷ l)
      unfolding least_size
      smaller h =
          let order : least_size (length x) (fit l) ≡ min (length x) rest = least_lower (length x) t.order (fit l) (omega arith) in
          let least : ℕ = min (length x) rest in
          let none : of_size least t.sets ≡ [] = size_none t.order least t.sets alike (λ e. let z : ⊥ = omega arith in z) in
          let sets : of_size least (x ∷ fit l) ≡ of_size least (t.sets ++ (x ∷ fit l)) =
          ap (λ (u : Finds). u ++ of_size least (x ∷ fit l)) (sym none) ∙ sym (size_append least t.sets (x ∷ fit l)) in
          rw fitting (tally_is order (ap (λ (k : ℕ). of_size k (x ∷ fit l)) order ∙ sets) counted)

      same_size : length x ≡ t.order → best_of (tally (length x) (t.sets ++ (x ∷ [])) next) l ≡ best_of t (x ∷ l)
      unfolding least_size
      same_size h =
          let order : least_size (length x) (fit l) ≡ min (length x) rest = least_lower (length x) t.order (fit l) (omega arith) in
          let least : ℕ = min (length x) rest in
          let sets : of_size least ((t.sets ++ (x ∷ [])) ++ fit l) ≡ of_size least (t.sets ++ (x ∷ fit l)) = ap (of_size least) (append_assoc t.sets (x ∷ []) (fit l)) in
          rw fitting (tally_is order (ap (λ (k : ℕ). of_size k ((t.sets ++ (x ∷ [])) ++ fit l)) order ∙ sets) counted)

  alike_one : (x : List Mono) → OneSize (length x) (x ∷ [])
  alike_one x s m = ⊎_elim (λ e. ap length e) (λ z. absurd (Memᴰ.not-nil z)) (Memᴰ.cases_cons m)

  alike_more : (k : ℕ) (sets : Finds) (x : List Mono) → OneSize k sets → length x ≡ k → OneSize (length x) (sets ++ (x ∷ []))
  alike_more k sets x h e s m = ⊎_elim (λ i. h s i ∙ sym e) (alike_one x s) (Memᴰ.append_cases sets m)

  pub tally_best : (t : Tally) (l : Finds) → OneSize t.order t.sets → all_sifted n fs t l ≡ best_of t l
  unfolding all_sifted least_size keep
  tally_best t [] h = tally_is refl (sym (size_all t.order (t.sets ++ []) (λ s m. h s (rw (append-nil t.sets) at m)) ∙ append-nil t.sets)) (omega arith)
  tally_best t (x ∷ l) h = go (test (is_quadratic n fs x)) (λ u k. tally_best u l k)
    where
      go : Tested (is_quadratic n fs x) → ((u : Tally) → OneSize u.order u.sets → all_sifted n fs u l ≡ best_of u l) → all_sifted n fs (sifted n fs t x) l ≡ best_of t (x ∷ l)
      go (failed e) ih =
          ap (λ (u : Tally). all_sifted n fs u l) (sifted_not n fs t x e) ∙ ih (tally t.order t.sets (suc t.steps)) h ∙ over t h x l (is→n_t (is_quadratic n fs x) e)
      go (passed e) ih = by_size (ℕ-order.total (length x) t.order)
        where
          q : T (is_quadratic n fs x)
          q = is→T (is_quadratic n fs x) e

          by_size : Compared eqb ltb (length x) t.order → all_sifted n fs (sifted n fs t x) l ≡ best_of t (x ∷ l)
          by_size (less c) =
              let d : length x < t.order = ltb→lt (length x) t.order c in
              ap (λ (u : Tally). all_sifted n fs u l) (sifted_smaller n fs t x e d) ∙ ih (tally (length x) (x ∷ []) (suc t.steps)) (alike_one x) ∙ smaller t h x l q d
          by_size (equal c) =
              let d : length x ≡ t.order = eqb→eq (length x) t.order c in
              ap (λ (u : Tally). all_sifted n fs u l) (sifted_alike n fs t x e d)
              ∙ ih (tally (length x) (t.sets ++ (x ∷ [])) (suc t.steps)) (alike_more t.order t.sets x h d) ∙ same_size t h x l q d
          by_size (more c) =
              let d : t.order < length x = ltb→lt t.order (length x) c in
              ap (λ (u : Tally). all_sifted n fs u l) (sifted_larger n fs t x e d) ∙ ih (tally t.order t.sets (suc t.steps)) h ∙ larger t h x l q d

pub tally_thinnest : (n : ℕ) (fs : List (Poly Mono)) (s : List Mono)
    → all_sifted n fs (tally (length s) [] 0) (subsets s) ≡ tally (least n fs s) (thinnest n fs s) (2 ^ length s)
unfolding least thinnest quadratic_ones
tally_thinnest n fs s =
    tally_best n fs (tally (length s) [] 0) (subsets s) (λ t m. absurd (Memᴰ.not-nil m))
    ∙ tally_is refl refl (omega (arith, subsets_count s))
