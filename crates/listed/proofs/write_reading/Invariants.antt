-- `write_reading` ends: what was read has so many lines. Assumes nothing.
use lib.ListN.{length}
use Rattle.wiring.specs.Reply.{outcome}
use Rattle.listed.specs.Reading.{heard_lines}
use Rattle.listed.proofs.write_reading.Given as goal

abbrev pub ghost-write_lines : goal.ghost-write_lines
ghost-write_lines a = length (heard_lines (outcome a.tell.0.now a.tell.1.now))
