-- What one case of a batch comes to: planned, wired or thinned, or a listing read, by the numbers of its head. Assumes nothing.
use Rattle.std.specs.Prelude.{◌≡◌, List, ℕ, replicate}
use Rattle.wiring.specs.Sockets.{panel_of}
use Rattle.wiring.specs.Reply.{Outcome, in_order}
use Rattle.wiring.specs.Answers.{wired}
use Rattle.walk.specs.Plan.{planned}
use Rattle.thin.specs.Thin.{thinned}
use Rattle.desktop.specs.Read.{read_listing}
use Rattle.lines.specs.Case.{case_line}
use Rattle.compare.specs.declared.head.Head.{Head}
use Rattle.compare.specs.declared.head.Operation.{Operation}
use Rattle.compare.specs.declared.head.Operation.TheVariants.{Plan, Wire, Thin, Read}

-- the text of its line, and the bytes of its buffer
pub record Case : Type 0 where
  pub text : List ℕ
  pub bytes : List ℕ

-- each byte of the buffer before the operation
abbrev pub filler : ℕ
filler = 165

abbrev pub outcome_case : Outcome → Case
outcome_case o = record { text = case_line (in_order o.said) o.bytes; bytes = o.bytes }

-- reading has no buffer: the set stands in its line, and the buffer is left as it was
abbrev pub read_case : Outcome → ℕ → Case
read_case o size = record { text = case_line (in_order o.said) o.bytes; bytes = replicate size filler }

-- a set that is given is wired or thinned, and a text that is given is read; the buffer has so many bytes
unfoldable pub asked_case : Operation → Head → List ℕ → List ℕ → ℕ → Case
asked_case Plan h terms given size = outcome_case (planned (panel_of h.n h.marks h.degree) h.cap h.limit terms size)
asked_case Wire h terms given size = outcome_case (wired (panel_of h.n h.marks h.degree) terms given size)
asked_case Thin h terms given size = outcome_case (thinned (panel_of h.n h.marks h.degree) terms given size)
asked_case Read h terms given size = read_case (read_listing (panel_of h.n h.marks h.degree) terms given) size

abbrev pub case_of : Head → List ℕ → List ℕ → ℕ → Case
case_of h terms given size = asked_case h.operation h terms given size

-- its text is the line, and its bytes are the buffer
pub record Answers (c : Case) (line buffer : List ℕ) : Type 0 where
  pub text : line ≡ c.text
  pub bytes : buffer ≡ c.bytes
