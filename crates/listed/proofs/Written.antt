-- Who prepares, asks for line 0, 1, .. and stops at the first that is none has written what is to be written, all of it
-- and nothing else. Assumes nothing.
use mathlib.Core.Path.{◌≡◌, ap, ◌∙◌}
use mathlib.Core.List.{List, [], map}
use mathlib.Core.Logic.{◌↔◌}
use mathlib.Core.Bool.{Bool, true, false}
use Prim.Native.Nat.{ℕ, ◌≤◌, ◌<◌}
use lib.ListN.{length, get_or}
use Rattle.monomial.specs.Lists.{below}
use Rattle.wiring.specs.Reply.{outcome}
use Rattle.wiring.specs.declared.panel.Panel.{Panel}
use Rattle.desktop.specs.Read.{read_listing}
use Rattle.desktop.specs.declared.read.Heard.{Heard}
use Rattle.listed.specs.declared.typing.Typing.{Typing}
use Rattle.listed.specs.Typing.{typing_lines, typed_lines, Types}
use Rattle.listed.specs.Reading.{heard_lines, reading_lines}
use Rattle.lines.proofs.Told.{lines_written}
use Rattle.listed.proofs.typing.Exact.{typed-lines}

-- line number k as it was told: its text, and whether there is one; and the number at which none was told
module _ (text : ℕ → List ℕ) (there : ℕ → Bool) (stop : ℕ) (some : (k : ℕ) → k < stop → there k ≡ true) (none : there stop ≡ false) where
  pub typing_written : (panel : Panel) (terms set : List ℕ) (t : Typing) (wires : List ℕ) → Types panel terms set t wires
      → ((k : ℕ) → k ≤ stop → (text k ≡ get_or (typed_lines t wires) k []) × ((there k ≡ true) ↔ (k < length (typed_lines t wires))))
      → map text (below stop) ≡ typing_lines panel terms set
  typing_written panel terms set t wires a told =
      lines_written (typed_lines t wires) text there stop told some none ∙ typed-lines a

  pub reading_written : (panel : Panel) (terms input : List ℕ) (h : Heard) → outcome h.reply h.set ≡ read_listing panel terms input
      → ((k : ℕ) → k ≤ stop → (text k ≡ get_or (heard_lines (outcome h.reply h.set)) k []) × ((there k ≡ true) ↔ (k < length (heard_lines (outcome h.reply h.set)))))
      → map text (below stop) ≡ reading_lines panel terms input
  unfolding reading_lines
  reading_written panel terms input h e told =
      lines_written (heard_lines (outcome h.reply h.set)) text there stop told some none ∙ ap heard_lines e
