-- `write_typing` ends: what is typed has so many lines. Assumes nothing.
use lib.ListN.{length}
use Rattle.listed.specs.Typing.{typed_lines}
use Rattle.listed.proofs.write_typing.Given as goal

abbrev pub ghost-write_lines : goal.ghost-write_lines
ghost-write_lines a = length (typed_lines a.tell.0.now a.tell.1.now)
