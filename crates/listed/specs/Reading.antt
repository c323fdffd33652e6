-- All that is written where a listing is read, line by line: the reply, and after code 0 the set. Assumes nothing.
use Rattle.std.specs.Prelude.{cond, List, [], ◌∷◌, ℕ, ◌+◌, eqb}
use Rattle.wiring.specs.Panel.{terms_bytes}
use Rattle.wiring.specs.Reply.{Outcome, in_order}
use Rattle.wiring.specs.declared.panel.Panel.{Panel}
use Rattle.lines.specs.Answer.{reply_line, set_line}
use Rattle.desktop.specs.Lines.{most_text}
use Rattle.desktop.specs.Read.{read_listing}

-- the input begins with term records, as many bytes as are said or all where there are fewer; behind them stands the text.
-- So many bytes of it are read: what can be right, and one byte more of each
abbrev pub most_read : ℕ
most_read = terms_bytes + 1 + (most_text + 1)

-- the order is the size of the set
unfoldable pub heard_lines : Outcome → List (List ℕ)
heard_lines o = reply_line (in_order o.said) ∷ cond (eqb o.said.code 0) (set_line o.bytes o.said.order ∷ []) []

unfoldable pub reading_lines : Panel → List ℕ → List ℕ → List (List ℕ)
reading_lines panel terms text = heard_lines (read_listing panel terms text)
