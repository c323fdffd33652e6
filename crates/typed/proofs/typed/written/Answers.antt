-- `written` meets its contract: way by way out of its tests. Assumes nothing.
use Rattle.typed.proofs.typed.Laws.{written_not, written_alone, written_other}
use Rattle.typed.proofs.typed.written.Goals as goal
use Rattle.typed.proofs.typed.written.Goals.{else-size-eq1-via-then-size-eq1+else-a-b-gt0, else-size-eq1-via-else-size-eq1}

pub returns-then-a-b-gt0 : goal.returns-then-a-b-gt0
returns-then-a-b-gt0 c = let q = c.args in written_not q.size q.a q.b c.if-size-eq1.true c.if-a-b-gt0.true

pub returns-else-size-eq1 : goal.returns-else-size-eq1
returns-else-size-eq1 c =
    let q = c.args in
    elim c.else-size-eq1.branch [
      | else-size-eq1-via-then-size-eq1+else-a-b-gt0 w ↦ written_alone q.size q.a q.b w.if-a-b-gt0.false
      | else-size-eq1-via-else-size-eq1 w ↦ written_other q.size q.a q.b w.if-size-eq1.false
    ]
