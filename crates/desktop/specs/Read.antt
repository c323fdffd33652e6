-- Reading a listing for a system, for all inputs: the reply, and the set that comes back. Checks run 1, 2, then record by record, 10, 8, 11.
-- Assumes nothing.
use Rattle.std.specs.Prelude.{Bool, cond, ◌&&◌, List, ℕ, ◌≤◌, leb, length, Ok, Err}
use Rattle.monomial.specs.Monomial.{Mono, width}
use Rattle.wiring.specs.Panel.{set_bytes}
use Rattle.wiring.specs.Sockets.{panel_right}
use Rattle.wiring.specs.Reply.{Outcome, outcome, refused}
use Rattle.wiring.specs.Poly.{Poly}
use Rattle.wiring.specs.Terms.{records, length_right, fault, system}
use Rattle.wiring.specs.Sets.{set_record}
use Rattle.wiring.specs.Answers.{unless_fault}
use Rattle.wiring.specs.declared.panel.Panel.{Panel}
use Rattle.wiring.specs.declared.reply.Reply.{Reply}
use Rattle.wiring.specs.declared.reply.Reply.TheVariants.{Done, Setting, Length, BadSet, Unreadable, FalseLine}
use Rattle.reader.specs.Said.{Verdict, said}
pub use Rattle.listing.specs.Known.{known_to}
use Rattle.listing.specs.Meaning.{names}
use Rattle.listing.specs.Readable.{listing}
use Rattle.roster.specs.Roster.{forms_set, arranged}
use Rattle.desktop.specs.Lines.{most_text, lines_said}

-- a refusal, with a set of zeros; a test that holds lets the checks go on
abbrev pub refusal : Reply → Outcome
refusal r = refused r set_bytes

abbrev pub unless : Bool → Reply → Outcome → Outcome
unless test answer rest = cond test rest (refusal answer)

abbrev pub unless_broken : (ℕ → Reply) → Verdict → Outcome → Outcome
unless_broken answer (Ok w) rest = rest
unless_broken answer (Err b) rest = refusal (answer b.place)

-- what is said of a readable text
unfoldable pub judged : Panel → List (Poly Mono) → List ℕ → Outcome
judged panel fs text =
    let found = names (known_to panel) text in
    let yes = outcome (Done (length found) 0 0) (set_record (arranged found)) in
    unless (forms_set panel found) BadSet (unless_broken FalseLine (lines_said (known_to panel) fs text) yes)

unfoldable pub read_listing : Panel → List ℕ → List ℕ → Outcome
read_listing panel terms text =
    let last = judged panel (system (records terms)) text in
    let read = unless_broken Unreadable (said (listing (known_to panel)) text) last in
    let clean = unless_fault refusal (fault panel (records terms)) read in
    unless (panel_right panel) Setting (unless (length_right terms && leb (length text) most_text) Length clean)

-- ---- as the code reads
-- a panel and a text that need no refusal before the text is read
pub record Reading (panel : Panel) (text : List ℕ) : Type 0 where
  pub low : 1 ≤ panel.n
  pub high : panel.n ≤ width
  pub short : length text ≤ most_text
