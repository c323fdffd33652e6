-- `answer_case` meets its contract: by the operation of the head. Assumes nothing.
use mathlib.Core.Path.{◌≡◌}
use lib.ListN.{length}
use Rattle.compare.proofs.answer.Laws.{plan_told, wire_told, thin_told, read_told}
use borrow.Author.Rules.{rules}
use Rattle.compare.proofs.answer.answer_case.Goals as goal

pub returns-in-Plan : goal.returns-in-Plan
returns-in-Plan c =
    let long : length c.fill.new.self ≡ length c.args.buffer.now = search rules in
    plan_told _ _ _ _ _ long c.in-Plan.is c.plan-planned.result _ _ c.plan-planned.ensures c.numbers.ensures c.case_line.ensures

pub returns-in-Wire : goal.returns-in-Wire
returns-in-Wire c =
    let long : length c.fill.new.self ≡ length c.args.buffer.now = search rules in
    wire_told _ _ _ _ _ long c.in-Wire.is c.wire-wired.result _ _ c.wire-wired.ensures c.numbers-in-Wire.ensures c.case_line-in-Wire.ensures

pub returns-in-Thin : goal.returns-in-Thin
returns-in-Thin c =
    let long : length c.fill.new.self ≡ length c.args.buffer.now = search rules in
    thin_told _ _ _ _ _ long c.in-Thin.is c.thin-thinned.result _ _ c.thin-thinned.ensures c.numbers-in-Thin.ensures c.case_line-in-Thin.ensures

pub returns-in-Read : goal.returns-in-Read
returns-in-Read c =
    let long : length c.fill.new.self ≡ length c.args.buffer.now = search rules in
    read_told _ _ _ _ _ long c.in-Read.is c.read_listing-heard.result.reply _ _ _ c.read_listing-heard.ensures c.numbers-in-Read.ensures
    (c.fill.ensures.after (λ y h. search rules)) c.case_line-in-Read.ensures
