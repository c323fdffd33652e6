-- `put_term` meets its contract: what the bytes of the record say, behind its sign. Assumes nothing.
use Rattle.std.proofs.Common.{pos, unsigned_abs, sym, ap, ◌∙◌, append_assoc, arith, w32}
use Rattle.std.specs.Prelude.{int_lt}
use mir.ValLaws.{to_z-of_z}
use borrow.Author.Rules.{sfits_of}
use Rattle.typed.specs.Typed.{term_of, term_text}
use Rattle.typed.proofs.typed.Laws.{negative_is, wire_byte, wire_word}
use Rattle.typed.proofs.typed.Listing.put_term.Goals as goal

pub returns-clause-text : goal.returns-clause-text
unfolding term_text term_of
returns-clause-text c =
    let bytes = c.args.self.wires.now in
    let made = c.decode-c in
    let said = to_z-of_z w32 made.result (sfits_of made.type_inv) ∙ made.ensures ∙ wire_word bytes c.args.j in
    let negative = ap (λ z. int_lt z (pos 0)) said ∙ negative_is _ in
    let size = c.from.ensures ∙ c.unsigned_abs.ensures.value ∙ ap unsigned_abs said in
    let a = c.from-a.ensures ∙ sym (wire_byte bytes c.args.j 1 (omega arith)) in
    let b = c.from-b.ensures ∙ sym (wire_byte bytes c.args.j 2 (omega arith)) in
    let coefficient = rw (size, a, b) at c.written.ensures in
    let sign = rw negative at c.put_sign.ensures.text in
    let body = rw (coefficient, a, b) at c.put_body.ensures.text in
    rw (body, sign) (append_assoc c.args.line.now _ _)
