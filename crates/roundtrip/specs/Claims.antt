-- The words of what is claimed of typing and reading. Assumes nothing.
use Rattle.std.specs.Prelude.{◌≡◌, List, ℕ, ◌≤◌, length, take}
use Rattle.monomial.specs.Lists.{gather}
use Rattle.wiring.specs.Reply.{outcome}
use Rattle.wiring.specs.Sets.{places, set_of}
use Rattle.wiring.specs.Claims.{list_in}
use Rattle.wiring.specs.declared.panel.Panel.{Panel}
use Rattle.wiring.specs.declared.reply.Reply.TheVariants.{Done}
use Rattle.grammar.specs.Grammar.{Tree, text}
use Rattle.typed.specs.Typed.{tree_of, listing_lines, wires_in}
use Rattle.desktop.specs.Lines.{most_text}
use Rattle.desktop.specs.Read.{known_to, read_listing}

-- the listing of a set record with its wiring list: its tree, and its text
abbrev pub tree_in : Panel → List ℕ → List ℕ → Tree
tree_in panel terms set = tree_of (known_to panel) (set_of set) (list_in panel terms set)

abbrev pub text_in : Panel → List ℕ → List ℕ → List ℕ
text_in panel terms set = text (known_to panel) (tree_in panel terms set)

-- the lines that are typed for so many monomials of a set record and so many wiring records, one after the other
abbrev pub text_from : Panel → ℕ → List ℕ → ℕ → List ℕ → List ℕ
text_from panel size set count wires = gather (λ x. x) (listing_lines (known_to panel) (take size (places set)) (wires_in count wires))

-- where a text fits, it is read with yes, and the set that comes back is that of the record
abbrev pub ReadsBack : Panel → List ℕ → List ℕ → List ℕ → Type 0
ReadsBack panel terms set t = length t ≤ most_text → read_listing panel terms t ≡ outcome (Done (length (set_of set)) 0 0) set
