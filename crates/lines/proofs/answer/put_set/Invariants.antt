-- `put_set` meets its contract: the loop puts monomial after monomial, each behind its lead. Assumes nothing.
use Rattle.std.proofs.Common.{◌≡◌, suc, ◌+◌, ◌*◌, ◌≤◌, ◌++◌, length, take}
use Rattle.lines.specs.Lengths.{powers_bytes}
use Rattle.lines.specs.Text.{space, joined}
use Rattle.lines.proofs.answer.Laws.{pieces}
use Rattle.lines.proofs.answer.put_set.Given as goal

abbrev pub invariant-loop-i : goal.invariant-loop-i
invariant-loop-i l = record {
  text : l.line ≡ l.initial.line ++ joined space (take l.i (pieces l.bytes l.size));
  short : length l.line ≤ length l.initial.line + suc powers_bytes * l.i;
}
