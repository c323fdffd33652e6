-- `reading_line` meets its contract: the reply, the set, or none. Assumes nothing.
use Rattle.std.proofs.Common.{◌≡◌, ◌∙◌, arith}
use Rattle.wiring.specs.Reply.{numbers, outcome}
use Rattle.lines.proofs.Told.{told_yes, told_no}
use Rattle.listed.proofs.reading.Laws.{reply_first, refused_none, set_told, none_next, heard_some, heard_refused, heard_done}
use Rattle.listed.proofs.reading.reading_line.Goals as goal

pub returns-then-k-eq0-clause-text : goal.returns-then-k-eq0-clause-text
returns-then-k-eq0-clause-text c =
    let a = c.args in
    rw (c.numbers-five.ensures, reply_first (outcome a.h.reply a.h.set) a.k c.if-k-eq0.true) at c.reply_line.ensures

pub returns-then-k-eq0-clause-there : goal.returns-then-k-eq0-clause-there
returns-then-k-eq0-clause-there c =
    let some = heard_some (outcome c.args.h.reply c.args.h.set) in
    told_yes (omega arith)

pub returns-then-five-ne0-clause-text : goal.returns-then-five-ne0-clause-text
returns-then-five-ne0-clause-text c =
    let a = c.args in
    let refused : (numbers a.h.reply).code ≡ 0 → ⊥ = rw c.numbers-five.ensures at c.if-five-ne0.true in
    c.clear.ensures ∙ refused_none (outcome a.h.reply a.h.set) a.k c.if-k-eq0.false refused

pub returns-then-five-ne0-clause-there : goal.returns-then-five-ne0-clause-there
returns-then-five-ne0-clause-there c =
    let a = c.args in
    let refused : (numbers a.h.reply).code ≡ 0 → ⊥ = rw c.numbers-five.ensures at c.if-five-ne0.true in
    let one = heard_refused (outcome a.h.reply a.h.set) refused in
    told_no (omega (arith, c.if-k-eq0.false))

pub returns-then-k-ne1-clause-text : goal.returns-then-k-ne1-clause-text
returns-then-k-ne1-clause-text c =
    let a = c.args in
    c.clear.ensures ∙ none_next (outcome a.h.reply a.h.set) a.k c.if-k-eq0.false c.if-k-ne1.true

pub returns-then-k-ne1-clause-there : goal.returns-then-k-ne1-clause-there
returns-then-k-ne1-clause-there c =
    let a = c.args in
    let done : (numbers a.h.reply).code ≡ 0 = rw c.numbers-five.ensures at c.if-five-ne0.false in
    let two = heard_done (outcome a.h.reply a.h.set) done in
    told_no (omega (arith, c.if-k-eq0.false, c.if-k-ne1.true))

pub returns-clause-text : goal.returns-clause-text
returns-clause-text c =
    let a = c.args in
    let five = c.numbers-five.ensures in
    let done : (numbers a.h.reply).code ≡ 0 = rw five at c.if-five-ne0.false in
    set_told (outcome a.h.reply a.h.set) c.if-k-ne1.false done (rw five at c.set_line.ensures)

pub returns-clause-there : goal.returns-clause-there
returns-clause-there c =
    let a = c.args in
    let done : (numbers a.h.reply).code ≡ 0 = rw c.numbers-five.ensures at c.if-five-ne0.false in
    let two = heard_done (outcome a.h.reply a.h.set) done in
    told_yes (omega arith)
