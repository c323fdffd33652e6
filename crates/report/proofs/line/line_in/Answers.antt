-- `line_in` meets its contract: the reply, then by its number a set, a wiring record, or none. Assumes nothing.
use Rattle.std.proofs.Common.{◌≡◌, ℕ, ◌-◌, ◌<◌, ◌≤◌, List, length, get_or, sym, ap, ◌∙◌, arith}
use Rattle.wiring.specs.Reply.{outcome}
use Rattle.wiring.specs.declared.reply.Reply.{Reply}
use Rattle.lines.proofs.Told.{told_yes, told_no}
use Rattle.lines.proofs.answer.Laws.{reply_some, set_some, wire_some}
use Rattle.report.specs.Prepare.{counted, Results}
use Rattle.report.proofs.line.Laws.{shown_sets, shown_wires, reply_first, refused_none, set_next, wire_next, none_next}
use Rattle.report.proofs.line.Exact.{line_none, line_told}
use Rattle.report.proofs.line.line_in.Goals as goal

abbrev results_for : Reply → List ℕ → ℕ → List ℕ → Results
results_for reply sets count wires = record { listed = outcome reply sets; wiring = counted count wires }

pub returns-then-k-eq0-clause-text : goal.returns-then-k-eq0-clause-text
returns-then-k-eq0-clause-text c =
    let r = results_for c.args.reply c.args.sets.now c.args.count c.args.wires.now in
    rw (c.numbers-five.ensures, reply_first r c.args.k c.if-k-eq0.true) at c.reply_line.ensures

pub returns-then-k-eq0-clause-there : goal.returns-then-k-eq0-clause-there
returns-then-k-eq0-clause-there c =
    let r = results_for c.args.reply c.args.sets.now c.args.count c.args.wires.now in
    let some = reply_some c.numbers-five.result in
    told_yes (line_told r c.args.k (returns-then-k-eq0-clause-text c) (λ e. absurd (omega (arith, ap length (sym c.reply_line.ensures ∙ e)))))

pub returns-then-five-ne0-clause-text : goal.returns-then-five-ne0-clause-text
returns-then-five-ne0-clause-text c =
    let r = results_for c.args.reply c.args.sets.now c.args.count c.args.wires.now in
    let refused : r.listed.said.code ≡ 0 → ⊥ = rw c.numbers-five.ensures at c.if-five-ne0.true in
    c.clear.ensures ∙ refused_none r c.args.k c.if-k-eq0.false refused

pub returns-then-five-ne0-clause-there : goal.returns-then-five-ne0-clause-there
returns-then-five-ne0-clause-there c =
    let r = results_for c.args.reply c.args.sets.now c.args.count c.args.wires.now in
    told_no ((line_none r c.args.k (returns-then-five-ne0-clause-text c)).0 c.clear.ensures)

pub returns-then-i-shown-clause-text : goal.returns-then-i-shown-clause-text
returns-then-i-shown-clause-text c =
    let r = results_for c.args.reply c.args.sets.now c.args.count c.args.wires.now in
    let five = c.numbers-five.ensures in
    let done : r.listed.said.code ≡ 0 = rw five at c.if-five-ne0.false in
    let low : c.args.k - 1 < shown_sets r = rw (rw five at c.min-shown.ensures) at c.if-i-shown.true in
    rw (c.record_at.ensures, five, set_next r done c.args.k c.if-k-eq0.false low) at c.set_line.ensures

pub returns-then-i-shown-clause-there : goal.returns-then-i-shown-clause-there
returns-then-i-shown-clause-there c =
    let r = results_for c.args.reply c.args.sets.now c.args.count c.args.wires.now in
    let some = set_some c.record_at.result (get_or c.numbers-five.result 1 0) in
    told_yes (line_told r c.args.k (returns-then-i-shown-clause-text c) (λ e. absurd (omega (arith, ap length (sym c.set_line.ensures ∙ e)))))

pub returns-then-j-wired-clause-text : goal.returns-then-j-wired-clause-text
returns-then-j-wired-clause-text c =
    let k = c.args.k in
    let r = results_for c.args.reply c.args.sets.now c.args.count c.args.wires.now in
    let five = c.numbers-five.ensures in
    let done : r.listed.said.code ≡ 0 = rw five at c.if-five-ne0.false in
    let sets : c.min-shown.result ≡ shown_sets r = rw five at c.min-shown.ensures in
    let high : shown_sets r ≤ k - 1 = rw sets at c.if-i-shown.false in
    let low : k - 1 - shown_sets r < shown_wires r = rw (sets, c.min-wired.ensures) at c.if-j-wired.true in
    rw (c.record_at-then-j-wired.ensures, sets, wire_next r done k c.if-k-eq0.false high low) at c.wire_line.ensures

pub returns-then-j-wired-clause-there : goal.returns-then-j-wired-clause-there
returns-then-j-wired-clause-there c =
    let r = results_for c.args.reply c.args.sets.now c.args.count c.args.wires.now in
    let some = wire_some c.record_at-then-j-wired.result in
    told_yes (line_told r c.args.k (returns-then-j-wired-clause-text c) (λ e. absurd (omega (arith, ap length (sym c.wire_line.ensures ∙ e)))))

pub returns-clause-text : goal.returns-clause-text
returns-clause-text c =
    let k = c.args.k in
    let r = results_for c.args.reply c.args.sets.now c.args.count c.args.wires.now in
    let five = c.numbers-five.ensures in
    let done : r.listed.said.code ≡ 0 = rw five at c.if-five-ne0.false in
    let sets : c.min-shown.result ≡ shown_sets r = rw five at c.min-shown.ensures in
    let high : shown_sets r ≤ k - 1 = rw sets at c.if-i-shown.false in
    let all : shown_wires r ≤ k - 1 - shown_sets r = rw (sets, c.min-wired.ensures) at c.if-j-wired.false in
    c.clear.ensures ∙ none_next r done k c.if-k-eq0.false high all

pub returns-clause-there : goal.returns-clause-there
returns-clause-there c =
    let r = results_for c.args.reply c.args.sets.now c.args.count c.args.wires.now in
    told_no ((line_none r c.args.k (returns-clause-text c)).0 c.clear.ensures)
