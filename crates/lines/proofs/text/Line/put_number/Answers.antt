-- `put_number` meets its contract: the kit's digits, which are the fewest, are those of the definition. Assumes nothing.
use Rattle.lines.proofs.text.Laws.{digits_are}
use Rattle.lines.proofs.text.Line.put_number.Goals as goal

pub returns-clause-text : goal.returns-clause-text
returns-clause-text g c =
    let made = c.decimal-k in
    rw (made.ensures.digits, digits_are made.result c.args.n made.ensures.len) at c.put_text.ensures
