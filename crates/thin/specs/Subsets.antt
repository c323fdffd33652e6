-- The subsets of a set, and what is known once some of them are sifted. Assumes nothing.
use Rattle.std.specs.Prelude.{◌≡◌, Bool, not, cond, List, [], ◌∷◌, ◌++◌, map, ℕ, suc, ◌+◌, ◌*◌, ◌-◌, ◌/◌, ◌^◌, ◌≤◌, min, ltb, length, take, drop, replicate}
use Rattle.monomial.specs.Lists.{some}
use Rattle.monomial.specs.Monomial.{Mono}
use Rattle.monomial.specs.Claims.{◌∈◌}
use Rattle.wiring.specs.Panel.{cards, set_bytes}
use Rattle.wiring.specs.Poly.{Poly}
use Rattle.wiring.specs.Terms.{records, system}
use Rattle.wiring.specs.Sets.{monomials_of, set_record}
use Rattle.wiring.specs.Answers.{missing, Judgeable}
use Rattle.wiring.specs.declared.held.Set.{Set}
use Rattle.walk.specs.Walk.{Finds}
use Rattle.walk.specs.Plan.{sets_bytes}
use Rattle.thin.specs.declared.subsets.Best.{Best}

-- the subsets of a list: its first entry is kept, then dropped
unfoldable pub subsets : {A : Type 0} → List A → List (List A)
subsets [] = [] ∷ []
subsets (x ∷ l) = let r = subsets l in map (◌∷◌ x) r ++ r

-- ---- the best of the sets that were sifted: their least size, those of that size in the order in which they were sifted, and how many were sifted
pub record Tally : Type 0 where
  pub order : ℕ
  pub sets : Finds
  pub steps : ℕ

abbrev pub tally : ℕ → Finds → ℕ → Tally
tally order sets steps = record { order = order; sets = sets; steps = steps }

module _ (n : ℕ) (fs : List (Poly Mono)) where
  abbrev pub is_quadratic : List Mono → Bool
  is_quadratic s = not (some (missing n fs s))

  -- one more is sifted: what is not quadratic or larger is passed over, a smaller one begins the list anew, another joins it
  unfoldable pub sifted : Tally → List Mono → Tally
  sifted t s =
      let passed = tally t.order t.sets (suc t.steps) in
      let anew = tally (length s) (s ∷ []) (suc t.steps) in
      let joined = tally (length s) (t.sets ++ (s ∷ [])) (suc t.steps) in
      cond (is_quadratic s) (cond (ltb t.order (length s)) passed (cond (ltb (length s) t.order) anew joined)) passed

  -- and so one after the other
  unfoldable pub all_sifted : Tally → Finds → Tally
  all_sifted t [] = t
  all_sifted t (s ∷ l) = all_sifted (sifted t s) l

-- ---- as the code has it
-- the buffer holds the records of the list as far as there is room, then zeros
pub record Begun (l : Finds) (out : List ℕ) : Type 0 where
  pub even : (s : List Mono) → s ∈ l → length (set_record s) ≡ set_bytes
  pub bytes : out ≡ sets_bytes (take (length out / set_bytes) l) ++ replicate (length out - set_bytes * min (length l) (length out / set_bytes)) 0

pub record Holds (t : Tally) (b : Best) (out : List ℕ) : Type 0 where
  pub order : b.order ≡ t.order
  pub count : b.count ≡ length t.sets
  pub steps : b.steps ≡ t.steps
  pub list : Begun t.sets out

-- sifting the sets of l leads from one best to another
pub record Sifting (n : ℕ) (terms : List ℕ) (l : Finds) (b : Best) (out : List ℕ) (b' : Best) (out' : List ℕ) : Type 0 where
  pub tallied : (t : Tally) → Holds t b out → Holds (all_sifted n (system (records terms)) t l) b' out'
  pub steps : b'.steps ≡ b.steps + length l
  pub counted : b'.count ≤ b'.steps

-- so many sets are yet to be sifted: no number grows too large
pub record Bounded (b : Best) (left : ℕ) : Type 0 where
  pub counted : b.count ≤ b.steps
  pub within : b.steps + left ≤ 2 ^ cards

-- the subsets that are still ahead where the signals of the given set from `at` on are undecided: the kept ones with each subset of these
abbrev pub undecided : Set → ℕ → Set → Finds
undecided given at kept = map (λ s. monomials_of kept ++ s) (subsets (drop at (monomials_of given)))

pub record Deciding (n : ℕ) (terms : List ℕ) (given : Set) (at : ℕ) (kept : Set) : Type 0 where
  pub whole : Judgeable n terms given
  pub part : Judgeable n terms kept
  pub within : at ≤ given.len
  pub fewer : kept.len ≤ at
