-- The five numbers of a reply beside the buffer that the library left are what C is to get. Assumes nothing.
use mathlib.Core.Path.{◌≡◌, ap, ◌∙◌}
use mathlib.Core.List.{List}
use Prim.Native.Nat.{ℕ}
use Rattle.wiring.specs.Reply.{Outcome, numbers, in_order, outcome}
use Rattle.wiring.specs.declared.reply.Reply.{Reply}
use Rattle.planner_c.specs.Calls.{answer, given}

pub handed_on : (r : Reply) (five bytes : List ℕ) (o : Outcome) → five ≡ in_order (numbers r) → outcome r bytes ≡ o → answer five bytes ≡ given o
handed_on r five bytes o e f = ap (λ (l : List ℕ). answer l bytes) e ∙ ap given f
