-- What is claimed of reading a listing: each refusal in plain words, done where the names form a set and every line is the derivative of its signal.
-- Assumes nothing.
use Rattle.std.specs.Prelude.{◌≡◌, ◌⊎◌, false, cond, List, [], ℕ, ◌+◌, ◌≤◌, ◌<◌, eqb, length, get_or, replicate}
use Rattle.monomial.specs.Monomial.{Mono, width}
use Rattle.wiring.specs.Panel.{set_bytes}
use Rattle.wiring.specs.Reply.{numbers}
use Rattle.wiring.specs.Poly.{plain, Same}
use Rattle.wiring.specs.Signals.{signals}
use Rattle.wiring.specs.Terms.{records}
use Rattle.wiring.specs.Sets.{set_record}
use Rattle.wiring.specs.Wires.{signal}
use Rattle.wiring.specs.Claims.{Measured, Breaks, Repeats, Flawless, beyond, Ranged, derivative_in}
use Rattle.wiring.specs.declared.panel.Panel.{Panel}
use Rattle.wiring.specs.declared.reply.Reply.{Reply}
use Rattle.wiring.specs.declared.reply.Reply.TheVariants.{Done, Setting, Length, Term, Twice, Nothing, Full, Spent, BadSet, NotQuadratic, Unreadable, FalseLine}
use Rattle.reader.specs.Reader.{readable, Readable, Placed}
use Rattle.listing.specs.Lines.{left_of}
use Rattle.listing.specs.Meaning.{Product, names, lines}
use Rattle.listing.specs.Readable.{listing}
use Rattle.truth.specs.Truth.{spoken}
use Rattle.roster.specs.Roster.{arranged}
use Rattle.roster.specs.Claims.{RightNames}
use Rattle.desktop.specs.Lines.{most_text}
use Rattle.desktop.specs.Read.{known_to}

-- ---- what a text says for a panel
-- the monomials of its new names, in its order; 1, the variables and these, by the numbers that its lines go by; and its lines
abbrev pub names_in : Panel → List ℕ → List Mono
names_in panel text = names (known_to panel) text

abbrev pub signals_told : Panel → List ℕ → List Mono
signals_told panel text = signals width panel.n (names_in panel text)

abbrev pub lines_in : Panel → List ℕ → List (List Product)
lines_in panel text = lines (known_to panel) text

-- the signal whose derivative line number i, from 0, tells
abbrev pub left_in : Panel → List ℕ → ℕ → Mono
left_in panel text i = signal plain (signals_told panel text) (left_of (known_to panel) (length (names_in panel text)) i)

-- line number i, multiplied out, is that derivative, coefficient by coefficient
abbrev pub LineRight : Panel → List ℕ → List ℕ → ℕ → Type 0
LineRight panel terms text i = Same plain (spoken (signals_told panel text) (get_or (lines_in panel text) i [])) (derivative_in panel terms (left_in panel text i))

-- ---- what all but the text has to be for the text to be read, and what the text has to be for its lines to be judged
pub record Sizes (terms text : List ℕ) : Type 0 where
  pub measured : Measured terms
  pub short : length text ≤ most_text

pub record Prepared (panel : Panel) (terms text : List ℕ) : Type 0 where
  pub ranged : Ranged panel
  pub sizes : Sizes terms text
  pub flawless : Flawless panel (records terms) beyond

pub record Named (panel : Panel) (terms text : List ℕ) : Type 0 where
  pub prepared : Prepared panel terms text
  pub reads : Readable (listing (known_to panel)) text
  pub right : RightNames panel (names_in panel text)

-- place p, a line of the text from 1: behind the heading, the names and the blank line it is a derivative's line that is not right, and those before it
-- are
pub record FirstWrong (panel : Panel) (terms text : List ℕ) (p : ℕ) : Type 0 where
  pub number : ℕ
  pub counted : number < length (lines_in panel text)
  pub place : p ≡ length (names_in panel text) + 3 + number
  pub wrong : LineRight panel terms text number → ⊥
  pub before : (j : ℕ) → j < number → LineRight panel terms text j

-- what each reply says
abbrev pub ReadSays : Panel → List ℕ → List ℕ → Reply → Type 0
ReadSays panel terms text Setting = Ranged panel → ⊥
ReadSays panel terms text Length = Ranged panel × ((Measured terms → ⊥) ⊎ (most_text < length text))
ReadSays panel terms text (Term p) = Ranged panel × Sizes terms text × Breaks panel (records terms) beyond p
ReadSays panel terms text (Twice p) = Ranged panel × Sizes terms text × Repeats panel (records terms) beyond p
ReadSays panel terms text (Unreadable p) =
    Prepared panel terms text × (readable (listing (known_to panel)) text ≡ false) × Placed (listing (known_to panel)) text p
ReadSays panel terms text BadSet = Prepared panel terms text × Readable (listing (known_to panel)) text × (RightNames panel (names_in panel text) → ⊥)
ReadSays panel terms text (FalseLine p) = Named panel terms text × FirstWrong panel terms text p
ReadSays panel terms text (Done o c k) =
    Named panel terms text × ((i : ℕ) → i < length (lines_in panel text) → LineRight panel terms text i) × (o ≡ length (names_in panel text)) × (c ≡ 0) × (k ≡ 0)
ReadSays panel terms text (Nothing o k) = ⊥
ReadSays panel terms text (Full o k) = ⊥
ReadSays panel terms text (Spent o k) = ⊥
ReadSays panel terms text (NotQuadratic o p) = ⊥

-- and the set record that it leaves: that of the names, ascending; or zeros
abbrev pub read_leaves : Panel → List ℕ → Reply → List ℕ
read_leaves panel text r = cond (eqb (numbers r).code 0) (set_record (arranged (names_in panel text))) (replicate set_bytes 0)
