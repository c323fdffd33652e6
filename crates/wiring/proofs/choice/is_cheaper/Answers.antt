-- `is_cheaper` meets its contract: scores decide, then the order. Assumes nothing.
use Rattle.wiring.proofs.choice.Laws.{cheaper_less, cheaper_more, cheaper_tie}
use Rattle.monomial.proofs.order.Derived.{before_from_lt}
use Rattle.wiring.proofs.choice.is_cheaper.Goals as goal

pub returns-then-s-t : goal.returns-then-s-t
returns-then-s-t c = cheaper_less _ _ _ _ c.score-s.ensures c.score-t.ensures c.if-s-t.true

pub returns-then-t-s : goal.returns-then-t-s
returns-then-t-s c = cheaper_more _ _ _ _ c.score-s.ensures c.score-t.ensures c.if-t-s.true

pub returns : goal.returns
returns c =
    let s = c.score-s.ensures in
    let t = c.score-t.ensures in
    cheaper_tie _ _ _ _ s t c.if-t-s.false c.if-s-t.false c.lt.result (before_from_lt _ _ _ c.lt.ensures)
