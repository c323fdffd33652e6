-- `typing_line` meets its contract: the reply, then by its number a line of the listing, or none. Assumes nothing.
use Rattle.std.proofs.Common.{◌≡◌, ◌∙◌, arith}
use Rattle.wiring.specs.Reply.{numbers}
use Rattle.lines.proofs.Told.{told_yes, told_no}
use Rattle.listed.proofs.typing.Laws.{reply_first, refused_none, listing_told, typed_some, typed_refused, typed_done}
use Rattle.listed.proofs.typing.typing_line.Goals as goal

pub returns-then-k-eq0-clause-text : goal.returns-then-k-eq0-clause-text
returns-then-k-eq0-clause-text c =
    rw (c.clear.ensures, c.numbers-five.ensures, reply_first c.args.t c.args.wires.now c.args.k c.if-k-eq0.true) at c.put_reply.ensures

pub returns-then-k-eq0-clause-there : goal.returns-then-k-eq0-clause-there
returns-then-k-eq0-clause-there c =
    let some = typed_some c.args.t c.args.wires.now in
    told_yes (omega arith)

pub returns-then-five-ne0-clause-text : goal.returns-then-five-ne0-clause-text
returns-then-five-ne0-clause-text c =
    let refused : (numbers c.args.t.reply).code ≡ 0 → ⊥ = rw c.numbers-five.ensures at c.if-five-ne0.true in
    c.clear.ensures ∙ refused_none c.args.t c.args.wires.now c.args.k c.if-k-eq0.false refused

pub returns-then-five-ne0-clause-there : goal.returns-then-five-ne0-clause-there
returns-then-five-ne0-clause-there c =
    let refused : (numbers c.args.t.reply).code ≡ 0 → ⊥ = rw c.numbers-five.ensures at c.if-five-ne0.true in
    let one = typed_refused c.args.t c.args.wires.now refused in
    told_no (omega (arith, c.if-k-eq0.false))

pub returns-clause-text : goal.returns-clause-text
returns-clause-text c =
    let five = c.numbers-five.ensures in
    let done : (numbers c.args.t.reply).code ≡ 0 = rw five at c.if-five-ne0.false in
    listing_told c.args.t c.args.wires.now c.if-k-eq0.false done (rw five at c.line_at.ensures.text)

pub returns-clause-there : goal.returns-clause-there
returns-clause-there c =
    let five = c.numbers-five.ensures in
    let done : (numbers c.args.t.reply).code ≡ 0 = rw five at c.if-five-ne0.false in
    let all = typed_done c.args.t c.args.wires.now done in
    let there = rw five at c.line_at.ensures.there in
    (λ y. omega (arith, there.0 y, c.if-k-eq0.false), λ h. there.1 (omega (arith, c.if-k-eq0.false)))
