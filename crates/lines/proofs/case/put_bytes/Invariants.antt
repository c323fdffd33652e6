-- `put_bytes` meets its contract: the loop puts byte after byte. Assumes nothing.
use Rattle.std.proofs.Common.{◌≡◌, ◌+◌, ◌*◌, ◌++◌, length, take}
use Rattle.lines.specs.Case.{hex_text}
use Rattle.lines.proofs.case.put_bytes.Given as goal

abbrev pub invariant-loop-x : goal.invariant-loop-x
invariant-loop-x l = record {
  text : l.line ≡ l.initial.line ++ hex_text (take l.x-index l.s);
  long : length l.line ≡ length l.initial.line + 2 * l.x-index;
}
