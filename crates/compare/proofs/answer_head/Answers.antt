-- `answer_head` meets its contract: the lengths of a right head are within the buffers. Assumes nothing.
use Rattle.std.proofs.Common.{sym, ◌∙◌, arith}
use Rattle.compare.proofs.head.Laws.{right_within}
use Rattle.compare.proofs.answer_head.Goals as goal

pub answer_rest-requires-clause-terms : goal.answer_rest-requires-clause-terms
answer_rest-requires-clause-terms c =
    let h = right_within c.args.h (sym c.is_right.ensures ∙ c.if-not-is_right.false) in
    omega (arith, h.terms, c.buffer-terms.ensures)

pub answer_rest-requires-clause-given : goal.answer_rest-requires-clause-given
answer_rest-requires-clause-given c =
    let h = right_within c.args.h (sym c.is_right.ensures ∙ c.if-not-is_right.false) in
    omega (arith, h.given, c.large_buffer-given.ensures)

pub answer_rest-requires-clause-size : goal.answer_rest-requires-clause-size
answer_rest-requires-clause-size c =
    let h = right_within c.args.h (sym c.is_right.ensures ∙ c.if-not-is_right.false) in
    omega (arith, h.size, c.large_buffer-buffer.ensures)
