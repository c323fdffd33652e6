-- A listing that is read with done is a witness of Definition 1: its lines, multiplied out, are the derivatives, so that the set that comes back is quadratic. Wiring says
-- so of the record, and never 9. Assumes nothing.
use mathlib.Core.Path.{◌≡◌, refl, sym, ap, ◌∙◌, subst}
use mathlib.Core.Logic.{◌⊎◌, ⊎_elim}
use mathlib.Core.List.Memᴰ
use mathlib.Core.List.{List, []}
use Prim.Native.Nat.{ℕ, zero, suc, ◌+◌, ◌≤◌, ◌<◌}
use native.Mathlib.Omega.{arith}
use borrow.Author.Tests.{eqb-true, eqb-false}
use lib.Dec.{T, eqb}
use lib.ListN.{length, get_or, length-replicate}
use lib.Seq.{length-take-le, get_or-take, get_or-set_same}
use Rattle.monomial.specs.Monomial.{Mono, one, constants, width}
use Rattle.monomial.specs.Claims.{◌∈◌}
use Rattle.monomial.proofs.Tests.{Tested, passed, failed, test}
use Rattle.monomial.proofs.Counting.{at_in, in_at}
use Rattle.monomial.proofs.Variables.{vars_length, var_is}
use Rattle.wiring.specs.Panel.{set_bytes, wires_bytes}
use Rattle.wiring.specs.Sockets.{marked, free}
use Rattle.wiring.specs.Reply.{numbers, outcome}
use Rattle.wiring.specs.Poly.{Poly, plain}
use Rattle.wiring.specs.Derivative.{derivative}
use Rattle.wiring.specs.Quadratic.{multiplied, Linked, Quadratic}
use Rattle.wiring.specs.Signals.{signals}
use Rattle.wiring.specs.Terms.{records, system}
use Rattle.wiring.specs.Sets.{set_of, set_record}
use Rattle.wiring.specs.Wires.{signal}
use Rattle.wiring.specs.Answers.{verdict, wired}
use Rattle.wiring.specs.Claims.{base, Recordable, Buildable, WellFormed, derivative_in, list_in, LeftLinked}
use Rattle.wiring.specs.declared.panel.Panel.{Panel}
use Rattle.wiring.specs.declared.reply.Reply.{Reply}
use Rattle.wiring.specs.declared.reply.Reply.TheVariants.{Done}
use Rattle.wiring.proofs.reply.Laws.{code_done}
use Rattle.wiring.proofs.kinds.Plain.{plain_lawful}
use Rattle.wiring.proofs.signals.Laws.{signals_length, signals_constant, signals_new, signals_cases, base_in, set-in}
use Rattle.wiring.proofs.derivative.Rules.{one_rule}
use Rattle.wiring.proofs.sockets.Laws.{free_out}
use Rattle.wiring.proofs.sockets.Slopes.{over_the_left}
use Rattle.wiring.proofs.sets.Exact.{record_length, record_set, record_right, right_iff}
use Rattle.wiring.proofs.answers.Exact.{says_done}
use Rattle.wiring.proofs.answers.Recorded.{recorded_judged, recorded_wires}
use Rattle.listing.specs.Lines.{left_of}
use Rattle.listing.specs.declared.known.Known.{Known}
use Rattle.listing.proofs.Ended.{Ended, ended_of}
use Rattle.listing.proofs.lines.Lefts.{LineOf, variable_line, name_line}
use Rattle.truth.specs.Sums.{Told}
use Rattle.truth.proofs.truth.Laws.{line_linked}
use Rattle.roster.specs.Roster.{forms_set, arranged}
use Rattle.roster.proofs.roster.Laws.{forms_members, forms_exact, forms_length, forms_recordable, forms_buildable}
use Rattle.desktop.specs.Read.{known_to, read_listing}
use Rattle.desktop.specs.Claims.{names_in, signals_told, lines_in, LineRight, Named, ReadSays, read_leaves}
use Rattle.desktop.proofs.read.Exact.{line-true, read_exact, read_zeros}

module _ (panel : Panel) (terms text : List ℕ) (w : Named panel terms text) where
  abbrev k : Known
  k = known_to panel

  abbrev fs : List (Poly Mono)
  fs = system (records terms)

  abbrev found : List Mono
  found = names_in panel text

  abbrev few : panel.n ≤ width
  few = w.prepared.ranged.high

  abbrev ended : Ended k text
  ended = ended_of k text few w.reads

  forms : T (forms_set panel found)
  forms = (forms_exact panel found ended.wide).1 w.right

  -- the set of the names
  pub names_recordable : Recordable panel.n (arranged found)
  names_recordable = forms_recordable panel found ended.few ended.wide forms

  pub names_buildable : Buildable panel (arranged found)
  names_buildable = forms_buildable panel found ended.few ended.wide forms

  pub names_size : length (arranged found) ≡ length found
  names_size = forms_length panel found forms

  -- V by the order of the text, and by that of the set
  abbrev v : List Mono
  v = signals_told panel text

  abbrev u : List Mono
  u = signals width panel.n (arranged found)

  long : length v ≡ panel.n + 1 + length found
  long = signals_length panel.n found few

  moved : (p : Poly Mono) → Linked plain v p → Linked plain u p
  unfolding multiplied
  moved p l = record { list = l.list; members = λ q h. (into q.a (l.members q h).0, into q.b (l.members q h).1); equal = l.equal }
    where
      into : (m : Mono) → m ∈ v → m ∈ u
      into m h = ⊎_elim (λ b. base_in panel.n (arranged found) b) (λ s. set-in panel.n (arranged found) ((forms_members found).0 m s)) (signals_cases panel.n found h)

  -- where every line is right, the derivative of each left variable is a list of products
  module _ (f : (i : ℕ) → i < length (lines_in panel text) → LineRight panel terms text i) where
    abbrev Met : Mono → Type 0
    Met z = Linked plain u (derivative plain fs z)

    told : (i : ℕ) → i < length (lines_in panel text) → Told v (get_or (lines_in panel text) i [])
    told i h p m = let q = ended.known (get_or (lines_in panel text) i []) (at_in (lines_in panel text) i [] h) p m in (omega (arith, q.first, long), omega (arith, q.second, long))

    -- what has a line is met
    lined : (s : ℕ) (z : Mono) → LineOf k (length found) s → signal plain v s ≡ z → Met z
    lined s z l e =
        let h : l.number < length (lines_in panel text) = omega (arith, l.counted, ended.each) in
        let left : ℕ = left_of k (length found) l.number in
        subst Met (ap (signal plain v) l.is ∙ e)
        (moved (derivative plain fs (signal plain v left))
        (line_linked v fs left (get_or (lines_in panel text) l.number []) (told l.number h) (line-true panel terms text w l.number h (f l.number h))))

    name_met : (z : Mono) → z ∈ found → Met z
    name_met z h =
        let p : (j : ℕ) × (j < length found) × (get_or found j (plain.one 0) ≡ z) = in_at found z (plain.one 0) h in
        lined (panel.n + 1 + p.0) z (name_line k (length found) p.0 p.1) (signals_new panel.n found p.0 (plain.one 0) few ∙ p.2)

    nothing_met : Linked plain u []
    unfolding multiplied
    nothing_met = record { list = []; members = λ q h. absurd (Memᴰ.not-nil h); equal = λ m. refl }

    -- 1 has no derivative, and a variable that is not marked has a line
    constant_met : (z : Mono) → T (free panel.marks z) → (j : ℕ) → j ≤ panel.n → get_or (constants width) j (plain.one 0) ≡ z → Met z
    constant_met z t zero h e = subst Met e (subst (Linked plain u) (sym (one_rule plain plain_lawful width fs)) nothing_met)
    constant_met z t (suc i) h e = go (test (marked panel.marks i))
      where
        raised : get_or z i 0 ≡ 1
        raised =
            ap (λ (m : Mono). get_or m i 0) (sym e ∙ var_is width i (plain.one 0) (omega (arith, few)))
            ∙ get_or-set_same (one width) i 1 0 (omega (arith, length-replicate {A = ℕ} width 0, few))

        go : Tested (marked panel.marks i) → Met z
        go (passed q) = let none : get_or z i 0 ≡ 0 = free_out panel.marks z t i q in let one_is : get_or z i 0 ≡ 1 = raised in let o : ⊥ = omega arith in absurd o
        go (failed q) =
            let same : 1 + i ≡ suc i = omega arith in
            lined (1 + i) z (variable_line k (length found) i (omega arith) q) (ap (signal plain v) same ∙ signals_constant panel.n found (suc i) (plain.one 0) few h ∙ e)

    left_linked : LeftLinked panel.marks fs u
    left_linked z h t = ⊎_elim low (λ s. name_met z ((forms_members found).1 z s)) (signals_cases panel.n (arranged found) h)
      where
        low : z ∈ base panel.n → Met z
        low b =
            let p : (j : ℕ) × (j < length (base panel.n)) × (get_or (base panel.n) j (plain.one 0) ≡ z) = in_at (base panel.n) z (plain.one 0) b in
            let size : length (base panel.n) ≡ suc panel.n = length-take-le (suc panel.n) (constants width) (omega (arith, vars_length width, few)) in
            constant_met z t p.0 (omega (arith, p.1)) (sym (get_or-take (suc panel.n) (constants width) p.0 (plain.one 0) (omega (arith, p.1))) ∙ p.2)

    -- Definition 1
    pub names_quadratic : Quadratic plain (signals width panel.n (arranged found)) (derivative_in panel terms)
    names_quadratic = (over_the_left panel.marks fs u).1 left_linked

-- ---- what comes back with done
module _ (panel : Panel) (terms text : List ℕ) (o c s : ℕ) (bytes : List ℕ) (e : outcome (Done o c s) bytes ≡ read_listing panel terms text) where
  says : ReadSays panel terms text (Done o c s) × (bytes ≡ read_leaves panel text (Done o c s))
  says = (read_exact panel terms text (Done o c s) bytes).0 e

  abbrev w : Named panel terms text
  w = says.0.0

  abbrev names : List Mono
  names = names_in panel text

  recordable : Recordable panel.n (arranged names)
  recordable = names_recordable panel terms text w

  buildable : Buildable panel (arranged names)
  buildable = names_buildable panel terms text w

  quadratic : Quadratic plain (signals width panel.n (arranged names)) (derivative_in panel terms)
  quadratic = names_quadratic panel terms text w says.0.1

  sized : length (arranged names) ≡ o
  sized = names_size panel terms text w ∙ sym says.0.2

  -- the set is that of the names, ascending
  pub read_set : set_of bytes ≡ arranged names
  read_set = ap set_of says.1 ∙ record_set panel.n (arranged names) recordable

  pub read_formed : WellFormed panel terms bytes
  read_formed = record {
    ranged = w.prepared.ranged;
    lengths = record { measured = w.prepared.sizes.measured; long = ap length says.1 ∙ record_length (arranged names) recordable.few recordable.wide };
    flawless = w.prepared.flawless;
    right = rw says.1 ((right_iff panel (set_record (arranged names))).0 (record_right panel (arranged names) recordable buildable));
  }

  -- the verdict on it is done: the listing is the witness
  pub read_quadratic : verdict panel terms bytes ≡ Done o 0 0
  read_quadratic =
      (says_done panel terms bytes o 0 0).1 (
        read_formed,
        sym (ap length read_set ∙ sized),
        refl,
        refl,
        subst (λ (l : List Mono). Quadratic plain (signals width panel.n l) (derivative_in panel terms)) (sym read_set) quadratic,
      )

  -- so wiring says done or full of it, whatever the buffer
  pub read_wires : (size : ℕ) (r : Reply) (left : List ℕ) → outcome r left ≡ wired panel terms bytes size → ((numbers r).code ≡ 0) ⊎ ((numbers r).code ≡ 6)
  read_wires size r left q =
      recorded_judged panel terms w.prepared.ranged w.prepared.sizes.measured w.prepared.flawless (arranged names) recordable buildable quadratic size r left
      (q ∙ ap (λ (b : List ℕ). wired panel terms b size) says.1)

  -- and never 9
  pub read_never_nine : (size : ℕ) (r : Reply) (left : List ℕ) → outcome r left ≡ wired panel terms bytes size → (numbers r).code ≡ 9 → ⊥
  read_never_nine size r left q n = ⊎_elim (λ z. omega arith) (λ z. omega arith) (read_wires size r left q)

  -- with 1,792 bytes or more it is done
  pub read_enough : (size : ℕ) → wires_bytes ≤ size → (r : Reply) (left : List ℕ) → outcome r left ≡ wired panel terms bytes size → r ≡ Done o (length (list_in panel terms bytes)) 0
  read_enough size h r left q =
      rw says.1 (recorded_wires panel terms w.prepared.ranged w.prepared.sizes.measured w.prepared.flawless (arranged names) recordable buildable quadratic size h r left
      (q ∙ ap (λ (b : List ℕ). wired panel terms b size) says.1)
      ∙ ap (λ (i : ℕ). Done i (length (list_in panel terms (set_record (arranged names)))) 0) sized)

-- the set record that is left is always of one length
pub read_length : (panel : Panel) (terms text : List ℕ) (r : Reply) (bytes : List ℕ) → outcome r bytes ≡ read_listing panel terms text → length bytes ≡ set_bytes
read_length panel terms text r bytes e = go (test (eqb (numbers r).code 0))
  where
    go : Tested (eqb (numbers r).code 0) → length bytes ≡ set_bytes
    go (failed q) = ap length (read_zeros panel terms text r bytes e (eqb-false (numbers r).code 0 q)) ∙ length-replicate {A = ℕ} set_bytes 0
    go (passed q) =
        let d = code_done r (eqb-true (numbers r).code 0 q) in
        (read_formed panel terms text d.order d.count d.steps bytes (ap (λ (x : Reply). outcome x bytes) (sym d.is) ∙ e)).lengths.long
