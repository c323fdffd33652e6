-- `read_input` meets its contract: what is read lies in the front of the buffer. Assumes nothing.
use mathlib.Core.Path.{sym}
use native.Mathlib.Omega.{arith}
use lib.Seq.{length-take-le}
use Rattle.asked.proofs.input.Laws.{counts_front}
use Rattle.asked.proofs.input.read_input.Goals as goal

pub slice_bounds-read_full-end-2 : goal.slice_bounds-read_full-end-2
slice_bounds-read_full-end-2 c =
    let input = c.args.input.now in
    sym (length-take-le _ input (omega (arith, c.min-most.ensures)))

pub returns : goal.returns
returns c =
    let most = c.min-most.ensures in
    let front = length-take-le c.min-most.result c.args.input.now (omega (arith, most)) in
    let given = c.given_bytes-right.ensures.value in
    record {
      prefix_len = counts_front _ _ _ c.read_full.ensures;
      upper_bound = omega (arith, c.read_full.ensures.0, c.read_full.auto.buf, front, most, given);
    }
