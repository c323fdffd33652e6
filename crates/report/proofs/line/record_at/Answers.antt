-- `record_at` meets its contract: the record is copied out. Assumes nothing.
use Rattle.std.proofs.Common.{◌*◌}
use Rattle.report.proofs.line.Laws.{copied}
use Rattle.report.proofs.line.record_at.Goals as goal

pub returns : goal.returns
returns g c = copied g.row.SIZE (g.row.SIZE * c.args.i) c.args.bytes.now _ c.copy_from_slice.ensures.after
