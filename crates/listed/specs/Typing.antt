-- All that is written where the listing of a given set is typed, line by line: the reply of wiring, and after code 0 the
-- listing. Assumes nothing.
use Rattle.std.specs.Prelude.{◌≡◌, cond, List, [], ◌∷◌, ◌++◌, ℕ, ◌+◌, ◌-◌, ◌≤◌, eqb, length, take, replicate}
use Rattle.monomial.specs.Monomial.{width}
use Rattle.wiring.specs.Panel.{cards, terms_bytes, set_bytes, wires_bytes}
use Rattle.wiring.specs.Sets.{places, set_of}
use Rattle.wiring.specs.Reply.{numbers, in_order, outcome}
use Rattle.wiring.specs.Answers.{wired}
use Rattle.wiring.specs.Claims.{list_in}
use Rattle.wiring.specs.declared.panel.Panel.{Panel}
use Rattle.lines.specs.Answer.{reply_line}
use Rattle.typed.specs.Typed.{listing_lines, wires_in, Listed}
use Rattle.desktop.specs.Read.{known_to}
use Rattle.listed.specs.declared.typing.Typing.{Typing}

-- so many bytes of an input, a set record and terms behind it, are read: what can be right, and one byte more, which
-- tells that there are more
abbrev pub most_typed : ℕ
most_typed = set_bytes + terms_bytes + 1

-- the listing is that of the set and its wiring list
unfoldable pub typing_lines : Panel → List ℕ → List ℕ → List (List ℕ)
typing_lines panel terms set =
    let said = (wired panel terms set wires_bytes).said in
    reply_line (in_order said) ∷ cond (eqb said.code 0) (listing_lines (known_to panel) (set_of set) (list_in panel terms set)) []

-- ---- as the code has them: the set by its record, and its wiring list by the records in a buffer
unfoldable pub typed_lines : Typing → List ℕ → List (List ℕ)
typed_lines t wires =
    let said = numbers t.reply in
    reply_line (in_order said) ∷ cond (eqb said.code 0) (listing_lines t.known (take said.order (places t.set)) (wires_in said.count wires)) []

-- the listing can be typed
pub record Typeable (t : Typing) (wires : List ℕ) : Type 0 where
  pub few : t.known.n ≤ width
  pub small : (numbers t.reply).order ≤ cards
  pub listed : Listed (numbers t.reply).count wires

-- after code 0
abbrev pub Ready : Typing → List ℕ → Type 0
Ready t wires = (numbers t.reply).code ≡ 0 → Typeable t wires

-- preparing leaves the reply of wiring and every byte of its list, and the record of the set, with zeros where it is
-- cut short
pub record Types (panel : Panel) (terms set : List ℕ) (t : Typing) (wires : List ℕ) : Type 0 where
  pub left : outcome t.reply wires ≡ wired panel terms set wires_bytes
  pub known : t.known ≡ known_to panel
  pub held : t.set ≡ set ++ replicate (set_bytes - length set) 0
  pub ready : Ready t wires
