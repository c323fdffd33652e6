-- What the contract of `line_of` says to a caller: none is told exactly behind the last line, there are few, and two
-- outcomes are equal. Assumes nothing.
use mathlib.Core.Path.{◌≡◌, ◌∙◌}
use mathlib.Core.Logic.{◌↔◌}
use mathlib.Core.Bool.{Bool, false, cond}
use mathlib.Core.List.{List, [], ◌++◌}
use Prim.Native.Nat.{ℕ, suc, ◌+◌, ◌/◌, ◌≤◌, ◌<◌, min}
use native.Mathlib.Omega.{arith}
use lib.Dec.{eqb}
use lib.ListN.{length, take, length-take, length-append}
use Rattle.std.specs.Bool.{IsTrue}
use Rattle.monomial.proofs.Tests.{cond_cases}
use Rattle.wiring.specs.Panel.{set_bytes, wire_bytes}
use Rattle.wiring.specs.Reply.{in_order}
use Rattle.lines.specs.Answer.{reply_line, set_line, wire_line}
use Rattle.lines.proofs.Told.{Filled, filled_none, filled_first, filled_both, filled_made, told_same}
use Rattle.lines.proofs.Told as of_lines
use Rattle.lines.proofs.text.Laws.{stands_one}
use Rattle.lines.proofs.answer.Laws.{reply_some, wire_some, set_some}
use Rattle.report.specs.declared.prepare.Prepared.{Prepared}
use Rattle.report.specs.Prepare.{Results, results_in}
use Rattle.report.specs.Report.{slots, set_lines, wire_lines, lines_of, line_at}
use Rattle.report.proofs.line.Laws.{shown_sets, shown_wires, sets_length, wires_length}

-- ---- the promise leaves nothing open: whether there is a line, and its text
pub line_determined : (lines : List (List ℕ)) (k : ℕ) {r s : Bool} {l m : List ℕ}
    → l ≡ line_at lines k → (IsTrue r ↔ (k < length lines)) → m ≡ line_at lines k → (IsTrue s ↔ (k < length lines)) → (r ≡ s) × (l ≡ m)
line_determined lines k a there b again = (told_same there again, stands_one a b)

module _ (r : Results) where
  abbrev later : List (List ℕ)
  later = set_lines r.listed ++ wire_lines r.wiring

  -- each line has a byte, its newline
  pub lines_filled : Filled (lines_of r)
  unfolding lines_of set_lines wire_lines
  lines_filled =
      let o = r.listed.said.order in
      let sets = filled_made (λ bytes. set_line bytes o) (λ x. set_some x o) (slots set_bytes r.listed.said.count r.listed.bytes) in
      let wires = filled_made wire_line wire_some (slots wire_bytes r.wiring.count r.wiring.bytes) in
      let both : Filled later = filled_both (set_lines r.listed) (wire_lines r.wiring) sets wires in
      filled_first (reply_line (in_order r.listed.said)) (cond (eqb r.listed.said.code 0) later []) (reply_some (in_order r.listed.said))
      (cond_cases Filled (eqb r.listed.said.code 0) later [] (λ _. both) (λ _. filled_none))

  -- as many as the buffers hold, and the reply
  pub lines_most : length (lines_of r) ≤ suc (length r.listed.bytes / set_bytes + length r.wiring.bytes / wire_bytes)
  unfolding lines_of
  lines_most =
      let both : length later ≡ shown_sets r + shown_wires r =
      length-append (set_lines r.listed) (wire_lines r.wiring) ∙ omega (arith, sets_length r, wires_length r) in
      let most : ℕ = length r.listed.bytes / set_bytes + length r.wiring.bytes / wire_bytes in
      let rest : length (cond (eqb r.listed.said.code 0) later []) ≤ most =
      cond_cases (λ l. length l ≤ most) (eqb r.listed.said.code 0) later [] (λ _. omega arith) (λ _. omega arith) in
      omega arith

  module _ (k : ℕ) {text : List ℕ} (s : text ≡ line_at (lines_of r) k) where
    -- none is told exactly behind the last line
    pub line_none : (text ≡ []) ↔ (length (lines_of r) ≤ k)
    line_none = of_lines.line_none (lines_of r) lines_filled k s

    -- a line that is told is one of the report
    pub line_told : (text ≡ [] → ⊥) → k < length (lines_of r)
    line_told = of_lines.line_told (lines_of r) lines_filled k s

    -- the same by the result, on which the programs stop
    pub line_stops : (there : Bool) → (IsTrue there ↔ (k < length (lines_of r))) → ((there ≡ false) ↔ (length (lines_of r) ≤ k)) × ((there ≡ false) ↔ (text ≡ []))
    line_stops = of_lines.line_stops (lines_of r) lines_filled k s

-- so the number of a line is small beside that of the lent bytes
pub lines_few : (p : Prepared) (sets wires : List ℕ) → length (lines_of (results_in p sets wires)) ≤ suc (length sets + length wires)
lines_few p sets wires =
    let part : length (take p.lent sets) ≡ min p.lent (length sets) = length-take p.lent sets in
    omega (arith, lines_most (results_in p sets wires))
