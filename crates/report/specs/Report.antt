-- All that a program writes, line by line: the reply, the sets that are listed, and the wiring of one set.
-- Assumes nothing.
use Rattle.std.specs.Prelude.{cond, List, [], ◌∷◌, ◌++◌, map, ℕ, ◌/◌, min, eqb, length, get_or}
use Rattle.monomial.specs.Lists.{below}
use Rattle.wiring.specs.Panel.{set_bytes, wire_bytes}
use Rattle.wiring.specs.declared.panel.Panel.{Panel}
use Rattle.wiring.specs.Reply.{Outcome, in_order}
use Rattle.lines.specs.Answer.{reply_line, set_line, wire_line}
use Rattle.report.specs.Prepare.{Counted, slot, Results, results, thin_results, wire_results}
use Rattle.report.specs.declared.prepare.Settings.{Settings}

-- the first `count` records of a buffer, as many of them as it holds
unfoldable pub slots : ℕ → ℕ → List ℕ → List (List ℕ)
slots size count bytes = map (slot size bytes) (below (min count (length bytes / size)))

-- a line for each set, and a line for each wiring record
unfoldable pub set_lines : Outcome → List (List ℕ)
set_lines o = map (λ bytes. set_line bytes o.said.order) (slots set_bytes o.said.count o.bytes)

unfoldable pub wire_lines : Counted → List (List ℕ)
wire_lines w = map wire_line (slots wire_bytes w.count w.bytes)

-- the reply, and after code 0 the sets and the wiring
unfoldable pub lines_of : Results → List (List ℕ)
lines_of r = reply_line (in_order r.listed.said) ∷ cond (eqb r.listed.said.code 0) (set_lines r.listed ++ wire_lines r.wiring) []

-- of planning; of thinning into a buffer of so many bytes; and of wiring the given set
unfoldable pub report : Settings → List ℕ → List (List ℕ)
report s terms = lines_of (results s terms)

unfoldable pub thin_report : Panel → ℕ → List ℕ → List ℕ → ℕ → List (List ℕ)
thin_report panel which terms set size = lines_of (thin_results panel which terms set size)

unfoldable pub wire_report : Panel → List ℕ → List ℕ → List (List ℕ)
wire_report panel terms set = lines_of (wire_results panel terms set)

-- line number k, from 0; nothing behind the last
abbrev pub line_at : List (List ℕ) → ℕ → List ℕ
line_at lines k = get_or lines k []
