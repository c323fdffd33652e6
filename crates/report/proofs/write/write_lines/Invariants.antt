-- `write_lines` ends: the report has so many lines. Assumes nothing.
use lib.ListN.{length}
use Rattle.report.specs.Prepare.{results_in}
use Rattle.report.specs.Report.{lines_of}
use Rattle.report.proofs.write.write_lines.Given as goal

abbrev pub ghost-write_lines : goal.ghost-write_lines
ghost-write_lines a = length (lines_of (results_in a.tell.0.now a.tell.1.now a.tell.2.now))
