-- Lines that are told by their numbers: none of them is empty, so that none is told exactly behind the last; and who writes
-- line 0, 1, .. and stops at the first that is none has written all of them and nothing else. Assumes nothing.
use Rattle.std.proofs.Common.{◌≡◌, ℕ, zero, suc, ◌<◌, ◌≤◌, Bool, true, false, leb, ◌↔◌, List, [], ◌∷◌, ◌++◌, map, length, get_or, IsTrue, sym, refl, ap, ◌∙◌, arith, ext_get_or, leb-false, leb-true}
use lib.ListN.{length-map, get_or-eq_default}
use Rattle.monomial.specs.Lists.{below}
use Rattle.monomial.proofs.Tests.{Tested, passed, failed, test, T→is, is→T, same_test}
use Rattle.monomial.proofs.Counting.{below_length, below_at, below_out}
use Rattle.monomial.proofs.Members.{map_same}

-- each line has a byte, its newline
abbrev pub Filled : List (List ℕ) → Type 0
Filled lines = (k : ℕ) → k < length lines → 0 < length (get_or lines k [])

pub filled_first : (x : List ℕ) (lines : List (List ℕ)) → 0 < length x → Filled lines → Filled (x ∷ lines)
filled_first x lines h f zero i = h
filled_first x lines h f (suc k) i = f k (omega arith)

pub filled_none : Filled []
filled_none k h = absurd (omega arith)

pub filled_both : (a b : List (List ℕ)) → Filled a → Filled b → Filled (a ++ b)
filled_both [] b f g = g
filled_both (x ∷ a) b f g = filled_first x (a ++ b) (f 0 (omega arith)) (filled_both a b (λ k h. f (suc k) (omega arith)) g)

pub filled_made : {A : Type 0} (f : A → List ℕ) → ((x : A) → 0 < length (f x)) → (l : List A) → Filled (map f l)
filled_made f h [] = filled_none
filled_made f h (x ∷ l) = filled_first (f x) (map f l) (h x) (filled_made f h l)

-- the lines by their numbers, one after the other, are the lines
pub all_lines : (lines : List (List ℕ)) → map (λ k. get_or lines k []) (below (length lines)) ≡ lines
all_lines lines =
    let n : ℕ = length lines in
    let many : length (map (λ k. get_or lines k []) (below n)) ≡ n = length-map (below n) (λ k. get_or lines k []) ∙ below_length n in
    ext_get_or [] (map (λ k. get_or lines k []) (below n)) lines many (λ i h. below_at (λ k. get_or lines k []) n i [] (omega arith))

-- whether there is a line is said by its number, so that two answers are the same, and none is told exactly behind the last
pub told_same : {A : Type 0} {r s : Bool} → (IsTrue r ↔ A) → (IsTrue s ↔ A) → r ≡ s
told_same {r = r} {s = s} a b = same_test r s (λ t. is→T s (b.1 (a.0 (T→is r t)))) (λ t. is→T r (a.1 (b.0 (T→is s t))))

pub told_stops : (k n : ℕ) (r : Bool) → (IsTrue r ↔ (k < n)) → (r ≡ false) ↔ (n ≤ k)
told_stops k n true h = let inside : k < n = h.0 refl in (λ e. cc, λ i. absurd (omega arith))
told_stops k n false h = (λ e. go (test (leb n k)), λ i. refl)
  where
    go : Tested (leb n k) → n ≤ k
    go (passed t) = leb-true n k t
    go (failed t) = let there : false ≡ true = h.1 (leb-false n k t) in cc

module _ (lines : List (List ℕ)) (filled : Filled lines) where
  module _ (k : ℕ) {text : List ℕ} (s : text ≡ get_or lines k []) where
    pub line_none : (text ≡ []) ↔ (length lines ≤ k)
    line_none = (out, back)
      where
        out : text ≡ [] → length lines ≤ k
        out e = go (test (leb (length lines) k))
          where
            go : Tested (leb (length lines) k) → length lines ≤ k
            go (passed t) = leb-true (length lines) k t
            go (failed t) =
                let none : length (get_or lines k []) ≡ 0 = ap length (sym s ∙ e) in
                absurd (omega (arith, none, filled k (leb-false (length lines) k t)))

        back : length lines ≤ k → text ≡ []
        back h = s ∙ get_or-eq_default lines [] h

    -- a line that is told is one of them
    pub line_told : (text ≡ [] → ⊥) → k < length lines
    line_told f = go (test (leb (length lines) k))
      where
        go : Tested (leb (length lines) k) → k < length lines
        go (passed t) = absurd (f (line_none.1 (leb-true (length lines) k t)))
        go (failed t) = leb-false (length lines) k t

    -- the same by the result, on which the programs stop: it says that there is none exactly where the text is empty
    pub line_stops : (there : Bool) → (IsTrue there ↔ (k < length lines)) → ((there ≡ false) ↔ (length lines ≤ k)) × ((there ≡ false) ↔ (text ≡ []))
    line_stops there h =
        let stops = told_stops k (length lines) there h in
        (stops, (λ e. line_none.1 (stops.0 e), λ e. stops.1 (line_none.0 e)))

-- line number k as it was told: its text, and whether there is one; and the number at which none was told
module _ (lines : List (List ℕ)) (text : ℕ → List ℕ) (there : ℕ → Bool) (stop : ℕ)
    (told : (k : ℕ) → k ≤ stop → (text k ≡ get_or lines k []) × ((there k ≡ true) ↔ (k < length lines)))
    (some : (k : ℕ) → k < stop → there k ≡ true) (none : there stop ≡ false) where
  all_told : stop ≡ length lines
  all_told = go (test (leb stop (length lines)))
    where
      enough : length lines ≤ stop
      enough = (told_stops stop (length lines) (there stop) (told stop (omega arith)).1).0 none

      go : Tested (leb stop (length lines)) → stop ≡ length lines
      go (passed t) = omega (arith, enough, leb-true stop (length lines) t)
      go (failed t) =
          let last : ℕ = length lines in
          let inside : last < stop = leb-false stop last t in
          absurd (omega (arith, (told last (omega arith)).1.0 (some last inside)))

  pub lines_written : map text (below stop) ≡ lines
  lines_written =
      map_same text (λ k. get_or lines k []) (below stop) (λ k h. let low : k < stop = below_out stop k h in (told k (omega arith)).0)
      ∙ rw all_told (all_lines lines)

-- whether there is a line is said by its number
pub told_yes : {k n : ℕ} → k < n → IsTrue true ↔ (k < n)
told_yes h = (λ _. h, λ _. refl)

pub told_no : {k n : ℕ} → n ≤ k → IsTrue false ↔ (k < n)
told_no h = (λ e. cc, λ j. absurd (omega arith))
