-- Document 01's program: n = 6, no marks, the full kit, K = 6, limit 1,000,000, 1,000 sets of room, and the first set wired. Assumes nothing.
use Rattle.monomial.specs.Monomial.{width}
use Rattle.wiring.specs.Panel.{cards, full_degree}
use Rattle.report.specs.declared.prepare.Settings.{Settings}

abbrev pub program : Settings
program = record { n = width; marks = 0; degree = full_degree; cap = cards; limit = 1000000; room = 1000; which = 1 }
