-- What a report says: after a refusal the reply alone; after code 0 every set of the list by its record, in order, and
-- then the wiring list of the set that is asked for; of a given set the wiring list alone. Assumes nothing.
use mathlib.Core.Path.{◌≡◌, refl, sym, ap, ◌∙◌}
use mathlib.Core.Logic.{◌⊎◌, inl, inr}
use mathlib.Core.List.{List, [], ◌∷◌, ◌++◌, map, map-map}
use Prim.Native.Nat.{ℕ, ◌+◌, ◌*◌, ◌-◌, ◌/◌, ◌≤◌, ◌<◌, min}
use native.Mathlib.Omega.{arith}
use borrow.Author.Tests.{ne_eqb}
use lib.IntN.{pos}
use lib.ListN.{length, get_or, replicate, length-append, length-map}
use lib.Seq.{ext_get_or}
use Rattle.monomial.specs.Lists.{below}
use Rattle.monomial.proofs.Members.{map_at}
use Rattle.wiring.specs.Panel.{set_bytes, wire_bytes, wires_bytes}
use Rattle.wiring.specs.Reply.{numbers, in_order, Outcome, outcome}
use Rattle.wiring.specs.Sets.{set_record}
use Rattle.wiring.specs.Wires.{Wire, wire_record, wire_list}
use Rattle.wiring.specs.Answers.{wired}
use Rattle.wiring.specs.declared.panel.Panel.{Panel}
use Rattle.wiring.specs.declared.reply.Reply.{Reply}
use Rattle.wiring.specs.declared.reply.Reply.TheVariants.{Done}
use Rattle.wiring.specs.Claims.{list_in}
use Rattle.wiring.proofs.wires.Sheets.{list_length}
use Rattle.wiring.proofs.wires.Correct.{list_at}
use Rattle.wiring.proofs.answers.Wired.{wire_exact}
use Rattle.walk.specs.Walk.{Finds}
use Rattle.walk.specs.Plan.{planned}
use Rattle.walk.specs.Claims.{sets_at, Laid}
use Rattle.walk.proofs.plan.Exact.{plan_finds}
use Rattle.walk.proofs.plan.Records.{record_wired}
use Rattle.thin.specs.Thin.{thinned}
use Rattle.thin.specs.Claims.{thinnest_in}
use Rattle.thin.proofs.thin.Exact.{thin_finds, thin_wired}
use Rattle.lines.specs.Answer.{reply_line, set_line, wire_line}
use Rattle.report.specs.declared.prepare.Settings.{Settings}
use Rattle.report.specs.Prepare.{panel_in, counted, slot, wiring_of, Results, results_of, results, thin_results, wire_results}
use Rattle.report.specs.Report.{slots, set_lines, wire_lines, lines_of, report, thin_report, wire_report}
use Rattle.report.proofs.prepare.Laws.{wires_zero, wires_beyond, wires_there}
use Rattle.report.proofs.line.Laws.{slots_length, slots_at}

-- records that are those of a list of things, one behind the other
pub slots_are : {A : Type 0} (f : A → List ℕ) (l : List A) (d : A) (size count : ℕ) (bytes : List ℕ) → count ≡ length l
    → count ≤ length bytes / size → ((i : ℕ) → i < count → slot size bytes i ≡ f (get_or l i d)) → slots size count bytes ≡ map f l
slots_are f l d size count bytes many fits each =
    let all : min count (length bytes / size) ≡ count = omega arith in
    let long : length (slots size count bytes) ≡ length (map f l) = slots_length size count bytes ∙ all ∙ many ∙ sym (length-map l f) in
    ext_get_or [] (slots size count bytes) (map f l) long one
  where
    one : (i : ℕ) → i < length (slots size count bytes) → get_or (slots size count bytes) i [] ≡ get_or (map f l) i []
    one i h =
        let low : i < min count (length bytes / size) = omega (arith, slots_length size count bytes) in
        slots_at size count bytes i low ∙ each i (omega arith) ∙ sym (map_at f l i d [] (omega arith))

-- what stands behind the last record
unwritten : Wire
unwritten = record { left = 0; a = 0; b = 0; coefficient = pos 0 }

-- a buffer that holds none of the records
no_slots : (size count : ℕ) (bytes : List ℕ) → min count (length bytes / size) ≡ 0 → slots size count bytes ≡ []
unfolding slots below
no_slots size count bytes none = rw none

-- a line for each record of a list, whatever stands behind the list
list_lines : (list : List Wire) (rest : List ℕ) → wire_lines (counted (length list) (wire_list list ++ rest)) ≡ map (λ w. wire_line (wire_record w)) list
unfolding wire_lines
list_lines list rest =
    let most : length list ≤ length (wire_list list ++ rest) / wire_bytes = omega (arith, length-append (wire_list list) rest, list_length list) in
    let at : (j : ℕ) → j < length list → slot wire_bytes (wire_list list ++ rest) j ≡ wire_record (get_or list j unwritten) = λ j h. list_at list rest j unwritten h in
    let each = slots_are wire_record list unwritten wire_bytes (length list) (wire_list list ++ rest) refl most at in
    ap (map wire_line) each ∙ map-map wire_line wire_record list

-- after any code but 0 only the first line
refused_line : (x : Results) (r : Reply) → numbers r ≡ x.listed.said → ((numbers r).code ≡ 0 → ⊥) → lines_of x ≡ reply_line (in_order (numbers r)) ∷ []
unfolding lines_of
refused_line x r e f = rw (← e, ne_eqb (numbers r).code 0 f)

-- ---- an outcome, and the wiring of set number `which`
module _ (panel : Panel) (terms : List ℕ) (which c : ℕ) (bytes : List ℕ) where
  -- the reply, a line for each set of a list that is laid in the buffer, and then the wiring
  listed_lines : {x : Outcome} (o k : ℕ) → outcome (Done o c k) bytes ≡ x → (l : Finds) {size : ℕ} → Laid l c size bytes
      → lines_of (results_of panel terms which x)
      ≡ reply_line (0 ∷ o ∷ c ∷ k ∷ 0 ∷ []) ∷ map (λ s. set_line (set_record s) o) l ++ wire_lines (wiring_of panel terms which c bytes)
  unfolding results_of lines_of set_lines
  listed_lines o k e l laid = rw (← e, records, map-map (λ b. set_line b o) set_record l)
    where
      records : slots set_bytes c bytes ≡ map set_record l
      records = slots_are set_record l [] set_bytes c bytes laid.counted (omega (arith, laid.fits, laid.long)) laid.written

  -- no set of that number: nothing is wired
  pub nothing_wired : (which ≡ 0) ⊎ (c < which) → wire_lines (wiring_of panel terms which c bytes) ≡ []
  unfolding wire_lines
  nothing_wired h = rw (← unwired h, no_slots wire_bytes 0 (replicate wires_bytes 0) (omega arith))
    where
      unwired : (which ≡ 0) ⊎ (c < which) → counted 0 (replicate wires_bytes 0) ≡ wiring_of panel terms which c bytes
      unwired (inl low) = wires_zero panel terms which c bytes wires_bytes refl (replicate wires_bytes 0) refl (omega arith)
      unwired (inr high) = wires_beyond panel terms which c bytes wires_bytes refl (replicate wires_bytes 0) refl (omega arith) high

  -- the record of that number, where a list is its wiring: a line for each record of the list
  module _ (low : 1 ≤ which) (high : which ≤ c) (o : ℕ) (list : List Wire) where
    abbrev left : List ℕ
    left = wire_list list ++ replicate (wires_bytes - wire_bytes * length list) 0

    module _ (wires : outcome (Done o (length list) 0) left ≡ wired panel terms (slot set_bytes bytes (which - 1)) wires_bytes) where
      filed : counted (length list) left ≡ wiring_of panel terms which c bytes
      filed =
          wires_there panel terms which c bytes wires_bytes refl low high (set_bytes * (which - 1)) refl (Done o (length list) 0) left _ (rw same wires) refl
        where
          same : set_bytes * (which - 1) + set_bytes - set_bytes * (which - 1) ≡ set_bytes
          same = omega arith

      listed_wires : wire_lines (wiring_of panel terms which c bytes) ≡ map (λ w. wire_line (wire_record w)) list
      listed_wires = rw (← filed) (list_lines list (replicate (wires_bytes - wire_bytes * length list) 0))

-- ---- planning
module _ (s : Settings) (terms : List ℕ) where
  abbrev size : ℕ
  size = set_bytes * s.room

  pub report_refused : (r : Reply) (bytes : List ℕ) → outcome r bytes ≡ planned (panel_in s) s.cap s.limit terms size → ((numbers r).code ≡ 0 → ⊥)
      → report s terms ≡ reply_line (in_order (numbers r)) ∷ []
  unfolding report results results_of
  report_refused r bytes e f = refused_line (results s terms) r (ap (λ (x : Outcome). x.said) e) f

  module _ (o c k : ℕ) (bytes : List ℕ) (e : outcome (Done o c k) bytes ≡ planned (panel_in s) s.cap s.limit terms size) where
    -- the list is that of the smallest sets
    pub report_done : report s terms ≡ reply_line (0 ∷ o ∷ c ∷ k ∷ 0 ∷ [])
        ∷ map (λ x. set_line (set_record x) o) (sets_at (panel_in s) terms o)
        ++ wire_lines (wiring_of (panel_in s) terms s.which c bytes)
    unfolding report results
    report_done =
        listed_lines (panel_in s) terms s.which c bytes o k e (sets_at (panel_in s) terms o) (plan_finds (panel_in s) s.cap s.limit terms size o c k bytes e).laid

    pub wiring_lines : 1 ≤ s.which → s.which ≤ c
        → wire_lines (wiring_of (panel_in s) terms s.which c bytes)
        ≡ map (λ w. wire_line (wire_record w)) (list_in (panel_in s) terms (set_record (get_or (sets_at (panel_in s) terms o) (s.which - 1) [])))
    wiring_lines low high =
        let wires = record_wired (panel_in s) s.cap s.limit terms size o c k bytes e (s.which - 1) (omega arith) wires_bytes (omega arith) in
        listed_wires (panel_in s) terms s.which c bytes low high o _ wires

-- ---- thinning
module _ (panel : Panel) (which : ℕ) (terms set : List ℕ) (size : ℕ) where
  pub thin_report_refused : (r : Reply) (bytes : List ℕ) → outcome r bytes ≡ thinned panel terms set size → ((numbers r).code ≡ 0 → ⊥)
      → thin_report panel which terms set size ≡ reply_line (in_order (numbers r)) ∷ []
  unfolding thin_report thin_results results_of
  thin_report_refused r bytes e f = refused_line (thin_results panel which terms set size) r (ap (λ (x : Outcome). x.said) e) f

  module _ (o c k : ℕ) (bytes : List ℕ) (e : outcome (Done o c k) bytes ≡ thinned panel terms set size) where
    -- the list is that of the smallest quadratic subsets
    pub thin_report_done : thin_report panel which terms set size ≡ reply_line (0 ∷ o ∷ c ∷ k ∷ 0 ∷ [])
        ∷ map (λ x. set_line (set_record x) o) (thinnest_in panel terms set)
        ++ wire_lines (wiring_of panel terms which c bytes)
    unfolding thin_report thin_results
    thin_report_done = listed_lines panel terms which c bytes o k e (thinnest_in panel terms set) (thin_finds panel terms set size o c k bytes e).laid

    pub thin_wiring_lines : 1 ≤ which → which ≤ c
        → wire_lines (wiring_of panel terms which c bytes) ≡ map (λ w. wire_line (wire_record w)) (list_in panel terms (set_record (get_or (thinnest_in panel terms set) (which - 1) [])))
    thin_wiring_lines low high =
        let wires = thin_wired panel terms set size o c k bytes e (which - 1) (omega arith) wires_bytes (omega arith) in
        listed_wires panel terms which c bytes low high o _ wires

-- ---- wiring the given set
module _ (panel : Panel) (terms set : List ℕ) where
  pub wire_report_refused : (r : Reply) (bytes : List ℕ) → outcome r bytes ≡ wired panel terms set wires_bytes → ((numbers r).code ≡ 0 → ⊥)
      → wire_report panel terms set ≡ reply_line (in_order (numbers r)) ∷ []
  unfolding wire_report wire_results
  wire_report_refused r bytes e f = refused_line (wire_results panel terms set) r (ap (λ (x : Outcome). x.said) e) f

  module _ (o c k : ℕ) (bytes : List ℕ) (e : outcome (Done o c k) bytes ≡ wired panel terms set wires_bytes) where
    -- no set lines: the list is that of the given set, and its records are as many as the reply counts
    pub wire_report_done : (wire_report panel terms set ≡ reply_line (0 ∷ o ∷ c ∷ k ∷ 0 ∷ []) ∷ map (λ w. wire_line (wire_record w)) (list_in panel terms set))
        × (c ≡ length (list_in panel terms set))
    unfolding wire_report wire_results lines_of set_lines
    wire_report_done =
        let says = (wire_exact panel terms set wires_bytes (Done o c k) bytes).0 e in
        let many : c ≡ length (list_in panel terms set) = says.0.3 in
        let lines : wire_lines (counted c bytes) ≡ map (λ w. wire_line (wire_record w)) (list_in panel terms set) = rw (says.1, many) (list_lines (list_in panel terms set) _) in
        (rw (← e, no_slots set_bytes c [] (omega arith), lines), many)
