-- `put_joined` meets its contract: the loop puts number after number, each behind its lead. Assumes nothing.
use Rattle.std.proofs.Common.{◌<◌, map, length, sym, arith}
use lib.ListN.{length-map, get_or-map}
use Rattle.lines.specs.Text.{decimal}
use Rattle.lines.proofs.text.Laws.{joining_start, joining_next}
use Rattle.lines.proofs.text.Line.put_joined.Goals as goal

pub loop-i-init : goal.loop-i-init
loop-i-init g c = record { text = joining_start c.args.between (map decimal c.args.numbers.now) c.args.self.now; short = omega arith }

pub loop-i-preserved : goal.loop-i-preserved
loop-i-preserved g c =
    let k = c.loop-i in
    let numbers = c.args.numbers.now in
    let more : k.i < length (map decimal numbers) = rw (length-map numbers decimal) c.loop-i-test.true in
    let lead = c.put_lead.ensures in
    let number = c.put_number.ensures in record {
      text = joining_next c.args.between (map decimal numbers) k.i c.args.self.now _ (decimal 0) more (sym (get_or-map decimal numbers k.i 0)) k.invariant.text lead.text number.text;
      short = omega (arith, lead.room, number.room);
    }
