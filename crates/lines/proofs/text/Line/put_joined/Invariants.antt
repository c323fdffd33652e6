-- `put_joined` meets its contract: the loop puts number after number, each behind its lead. Assumes nothing.
use Rattle.std.proofs.Common.{◌≡◌, ◌+◌, ◌*◌, ◌≤◌, ◌++◌, map, length, take}
use Rattle.lines.specs.Lengths.{piece_bytes}
use Rattle.lines.specs.Text.{decimal, joined}
use Rattle.lines.proofs.text.Line.put_joined.Given as goal

abbrev pub invariant-loop-i : goal.invariant-loop-i
invariant-loop-i g l = record {
  text : l.self ≡ l.initial.self ++ joined l.between (take l.i (map decimal l.numbers));
  short : length l.self ≤ length l.initial.self + piece_bytes * l.i;
}
