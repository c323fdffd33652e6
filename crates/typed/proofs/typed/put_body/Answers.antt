-- `put_body` meets its contract: names alone, a number alone, or both. Assumes nothing.
use Rattle.std.proofs.Common.{◌++◌, ap, ◌∙◌, append_assoc}
use Rattle.typed.proofs.typed.Laws.{body_names, body_number, body_both}
use Rattle.typed.proofs.typed.put_body.Goals as goal

pub returns-then-c-eq0-clause-text : goal.returns-then-c-eq0-clause-text
returns-then-c-eq0-clause-text c =
    c.put_names.ensures.text ∙ ap (λ x. c.args.line.now ++ x) (body_names c.args.known c.args.c _ c.if-c-eq0.true)

pub returns-then-a-b-ne0-clause-text : goal.returns-then-a-b-ne0-clause-text
returns-then-a-b-ne0-clause-text c =
    let q = c.args in
    rw (c.put_names-then-a-b-ne0.ensures.text, c.put_text.ensures, c.put_number.ensures.text, append_assoc, append_assoc)
    (ap (λ x. q.line.now ++ x) (body_both q.known q.c q.a q.b c.if-c-eq0.false c.if-a-b-ne0.true))

pub returns-else-a-b-ne0-clause-text : goal.returns-else-a-b-ne0-clause-text
returns-else-a-b-ne0-clause-text c =
    let q = c.args in
    c.put_number.ensures.text ∙ ap (λ x. q.line.now ++ x) (body_number q.known q.c q.a q.b c.if-c-eq0.false c.if-a-b-ne0.false)
