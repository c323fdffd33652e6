-- Wiring, for all inputs: the verdict and the list in one reply, and every byte of the buffer. Checks run 1, 2, then record by record, 8, 9, 6.
-- Assumes nothing.
use Rattle.std.specs.Prelude.{◌≡◌, Bool, not, cond, ◌&&◌, List, ◌++◌, ℕ, ◌*◌, ◌-◌, ◌≤◌, eqb, leb, length, replicate, ⊤, Result, Ok, Err, MatchResult}
use Rattle.monomial.specs.Lists.{some, gather, place}
use Rattle.monomial.specs.Monomial.{Mono, width}
use Rattle.wiring.specs.Panel.{set_bytes, set_exponent, wire_bytes}
use Rattle.wiring.specs.Sockets.{panel_right}
use Rattle.wiring.specs.Reply.{numbers, Outcome, outcome, refused}
use Rattle.wiring.specs.Poly.{Poly, plain}
use Rattle.wiring.specs.Derivative.{derivative}
use Rattle.wiring.specs.Quadratic.{lacking, nonsquares}
use Rattle.wiring.specs.Signals.{signals, Fitting}
use Rattle.wiring.specs.Terms.{records, length_right, fault, system, CleanTerms}
use Rattle.wiring.specs.Sets.{set_of, set_right, monomials_of}
use Rattle.wiring.specs.Wires.{Wire, wiring, wire_record}
use Rattle.wiring.specs.declared.panel.Panel.{Panel}
use Rattle.wiring.specs.declared.reply.Reply.{Reply}
use Rattle.wiring.specs.declared.reply.Reply.TheVariants.{Done, Setting, Length, Term, Twice, Full, BadSet, NotQuadratic}
use Rattle.wiring.specs.declared.held.Set.{Set}
use Rattle.wiring.specs.declared.terms.Fault.{Fault}
use Rattle.wiring.specs.declared.terms.Fault.TheVariants.{Wrong, Repeated}

-- a test that holds lets the checks go on; else this is said
abbrev pub unless : Bool → Reply → Reply → Reply
unless test answer rest = cond test rest answer

-- a refusal of the records, as it is answered
abbrev pub reply_of : Fault → Reply
reply_of (Wrong place) = Term place
reply_of (Repeated place) = Twice place

-- clean records let the checks go on
abbrev pub unless_fault : {A : Type 0} → (Reply → A) → Result ⊤ Fault → A → A
unless_fault answer (Ok _) rest = rest
unless_fault answer (Err f) rest = answer (reply_of f)

module _ (n : ℕ) (fs : List (Poly Mono)) (s : List Mono) where
  abbrev pub missing : List Mono
  missing = nonsquares plain (signals width n s) (derivative plain fs)

  -- the signal number of the first left variable that has a nonsquare
  unfoldable pub first_unmet : ℕ
  first_unmet = place (λ z. lacking plain (signals width n s) (derivative plain fs z)) (signals width n s)

  abbrev pub wires : List Wire
  wires = wiring plain (signals width n s) (derivative plain fs)

  -- what is said of a set: done with its size, or not quadratic
  unfoldable pub judged : Reply
  judged = unless (not (some missing)) (NotQuadratic (length s) first_unmet) (Done (length s) 0 0)

-- of a set record, and of all three in the order of the checks
unfoldable pub record_judged : Panel → List (Poly Mono) → List ℕ → Reply
record_judged panel fs set = unless (set_right panel set) BadSet (judged panel.n fs (set_of set))

unfoldable pub verdict : Panel → List ℕ → List ℕ → Reply
verdict panel terms set =
    let last = record_judged panel (system (records terms)) set in
    let read = unless_fault (λ r. r) (fault panel (records terms)) last in
    unless (panel_right panel) Setting (unless (length_right terms && eqb (length set) set_bytes) Length read)

-- the list, then zeros; or no room for it
unfoldable pub listed : ℕ → List Wire → ℕ → Outcome
listed order list size =
    let done = outcome (Done order (length list) 0) (gather wire_record list ++ replicate (size - wire_bytes * length list) 0) in
    cond (leb (wire_bytes * length list) size) done (refused (Full order 0) size)

-- a verdict and a list in one: the list is told where the verdict is done
unfoldable pub told : Reply → List Wire → ℕ → Outcome
told said list size = cond (eqb (numbers said).code 0) (listed (numbers said).order list size) (refused said size)

-- wiring: the verdict on what was given, with the list of the set
unfoldable pub wired : Panel → List ℕ → List ℕ → ℕ → Outcome
wired panel terms set size = told (verdict panel terms set) (wires panel.n (system (records terms)) (set_of set)) size

-- ---- as the code reads what was given
-- a set that can be judged
pub record Judgeable (n : ℕ) (terms : List ℕ) (set : Set) : Type 0 where
  pub few : n ≤ width
  pub clean : CleanTerms terms
  pub fits : Fitting set_exponent (monomials_of set)

-- the set is taken, so that the verdict is about it; or what was given is refused
pub record Takes (panel : Panel) (terms bytes : List ℕ) (set : Set) : Type 0 where
  pub says : verdict panel terms bytes ≡ judged panel.n (system (records terms)) (set_of bytes)
  pub holds : monomials_of set ≡ set_of bytes
  pub judgeable : Judgeable panel.n terms set

pub record Refuses (panel : Panel) (terms bytes : List ℕ) (r : Reply) : Type 0 where
  pub says : verdict panel terms bytes ≡ r
  pub code : (numbers r).code ≡ 0 → ⊥

abbrev pub Gives : Panel → List ℕ → List ℕ → Result Set Reply → Type 0
Gives panel terms bytes g = MatchResult g (Takes panel terms bytes) (Refuses panel terms bytes)
