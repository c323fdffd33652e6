-- Each line of a report by its number. Assumes nothing.
use mathlib.Core.Path.{◌≡◌, refl, sym, ap, ◌∙◌}
use mathlib.Core.List.{List, [], ◌∷◌, ◌++◌, map}
use Prim.Native.Nat.{ℕ, zero, suc, ◌+◌, ◌-◌, ◌/◌, ◌≤◌, ◌<◌, min}
use native.Mathlib.Omega.{arith}
use borrow.Author.Tests.{eq-eqb, ne_eqb}
use lib.ListN.{length, get_or, take, drop, length-map, get_or-append}
use lib.Seq.{get_or-append-add}
use Rattle.monomial.specs.Lists.{below}
use Rattle.monomial.proofs.Counting.{below_length, below_at}
use Rattle.wiring.specs.Panel.{set_bytes, wire_bytes}
use Rattle.wiring.specs.Reply.{in_order}
use Rattle.lines.specs.Answer.{reply_line, set_line, wire_line}
use Rattle.report.specs.Prepare.{slot, Results}
use Rattle.report.specs.Report.{slots, set_lines, wire_lines, lines_of, line_at}

-- ---- the records of a buffer
module _ (size count : ℕ) (bytes : List ℕ) where
  pub slots_length : length (slots size count bytes) ≡ min count (length bytes / size)
  unfolding slots
  slots_length = length-map (below (min count (length bytes / size))) (slot size bytes) ∙ below_length (min count (length bytes / size))

  pub slots_at : (i : ℕ) → i < min count (length bytes / size) → get_or (slots size count bytes) i [] ≡ slot size bytes i
  unfolding slots
  slots_at i h = below_at (slot size bytes) (min count (length bytes / size)) i [] h

-- ---- nothing stands behind a list
pub behind : {A : Type 0} (l : List A) (k : ℕ) (d : A) → length l ≤ k → get_or l k d ≡ d
behind [] k d h = refl
behind (x ∷ l) zero d h = let z : ⊥ = omega arith in absurd z
behind (x ∷ l) (suc k) d h = behind l k d (omega arith)

-- ---- a line for each record
module _ (f : List ℕ → List ℕ) (size count : ℕ) (bytes : List ℕ) where
  each_length : length (map f (slots size count bytes)) ≡ min count (length bytes / size)
  each_length = length-map (slots size count bytes) f ∙ slots_length size count bytes

  each_at : (i : ℕ) → i < min count (length bytes / size) → get_or (map f (slots size count bytes)) i [] ≡ f (slot size bytes i)
  each_at i h =
      let inside : i < length (slots size count bytes) = rw (slots_length size count bytes) h in
      mapped f (slots size count bytes) i inside ∙ ap f (slots_at size count bytes i h)
    where
      mapped : (f : List ℕ → List ℕ) (l : List (List ℕ)) (i : ℕ) → i < length l → get_or (map f l) i [] ≡ f (get_or l i [])
      mapped f [] i h = let z : ⊥ = omega arith in absurd z
      mapped f (x ∷ l) zero h = refl
      mapped f (x ∷ l) (suc i) h = mapped f l i (omega arith)

-- ---- the lines of a report
module _ (r : Results) where
  abbrev pub shown_sets : ℕ
  shown_sets = min r.listed.said.count (length r.listed.bytes / set_bytes)

  abbrev pub shown_wires : ℕ
  shown_wires = min r.wiring.count (length r.wiring.bytes / wire_bytes)

  pub sets_length : length (set_lines r.listed) ≡ shown_sets
  unfolding set_lines
  sets_length = each_length (λ bytes. set_line bytes r.listed.said.order) set_bytes r.listed.said.count r.listed.bytes

  pub wires_length : length (wire_lines r.wiring) ≡ shown_wires
  unfolding wire_lines
  wires_length = each_length wire_line wire_bytes r.wiring.count r.wiring.bytes

  pub reply_first : (k : ℕ) → k ≡ 0 → reply_line (in_order r.listed.said) ≡ line_at (lines_of r) k
  unfolding lines_of
  reply_first k e = rw e

  pub refused_none : (k : ℕ) → (k ≡ 0 → ⊥) → (r.listed.said.code ≡ 0 → ⊥) → [] ≡ line_at (lines_of r) k
  unfolding lines_of
  refused_none zero h f = absurd (h refl)
  refused_none (suc k) h f = rw (ne_eqb r.listed.said.code 0 f)

  module _ (done : r.listed.said.code ≡ 0) where
    -- the lines behind the reply
    later : (k : ℕ) → (k ≡ 0 → ⊥) → line_at (lines_of r) k ≡ get_or (set_lines r.listed ++ wire_lines r.wiring) (k - 1) []
    unfolding lines_of
    later zero h = absurd (h refl)
    later (suc k) h =
        rw (eq-eqb r.listed.said.code 0 done) (ap (λ (i : ℕ). get_or (set_lines r.listed ++ wire_lines r.wiring) i []) (omega arith))

    pub set_next : (k : ℕ) → (k ≡ 0 → ⊥) → k - 1 < shown_sets
        → set_line (slot set_bytes r.listed.bytes (k - 1)) r.listed.said.order ≡ line_at (lines_of r) k
    unfolding set_lines
    set_next k h i =
        let f : List ℕ → List ℕ = λ bytes. set_line bytes r.listed.said.order in
        let inside : k - 1 < length (set_lines r.listed) = rw sets_length i in
        sym (later k h ∙ get_or-append (set_lines r.listed) (wire_lines r.wiring) [] (k - 1) inside
        ∙ each_at f set_bytes r.listed.said.count r.listed.bytes (k - 1) i)

    behind_sets : (k : ℕ) → (k ≡ 0 → ⊥) → shown_sets ≤ k - 1 → line_at (lines_of r) k ≡ get_or (wire_lines r.wiring) (k - 1 - shown_sets) []
    behind_sets k h i =
        let at : k - 1 ≡ length (set_lines r.listed) + (k - 1 - shown_sets) = omega (arith, sets_length) in
        later k h ∙ ap (λ (j : ℕ). get_or (set_lines r.listed ++ wire_lines r.wiring) j []) at
        ∙ get_or-append-add (set_lines r.listed) (wire_lines r.wiring) (k - 1 - shown_sets) []

    pub wire_next : (k : ℕ) → (k ≡ 0 → ⊥) → shown_sets ≤ k - 1 → k - 1 - shown_sets < shown_wires
        → wire_line (slot wire_bytes r.wiring.bytes (k - 1 - shown_sets)) ≡ line_at (lines_of r) k
    unfolding wire_lines
    wire_next k h i j = sym (behind_sets k h i ∙ each_at wire_line wire_bytes r.wiring.count r.wiring.bytes (k - 1 - shown_sets) j)

    pub none_next : (k : ℕ) → (k ≡ 0 → ⊥) → shown_sets ≤ k - 1 → shown_wires ≤ k - 1 - shown_sets → [] ≡ line_at (lines_of r) k
    none_next k h i j = sym (behind_sets k h i ∙ behind (wire_lines r.wiring) (k - 1 - shown_sets) [] (rw wires_length j))

-- a record that was copied out of a buffer
pub copied : (size at : ℕ) (bytes copy : List ℕ) → copy ≡ take (at + size - at) (drop at bytes) → copy ≡ take size (drop at bytes)
copied size at bytes copy e = let same : at + size - at ≡ size = omega arith in rw same at e
