-- Exactly when each reply of reading is given, for all numbers n, all records and all texts, and the set record that it leaves. The cases are all, and no two
-- replies meet the promise. Assumes nothing.
use Rattle.std.specs.Prelude.{Ok, Err, Result, ⊤}
use mathlib.Core.Path.{◌≡◌, refl, sym, ap, ap₂, ◌∙◌, subst}
use mathlib.Core.Logic.{inl, inr, ⊎_elim, ◌↔◌}
use mathlib.Core.Bool.{Bool, true, false}
use mathlib.Core.List.{List, [], ◌∷◌}
use Prim.Native.Nat.{ℕ, zero, suc, ◌+◌, ◌<◌}
use native.Mathlib.Omega.{arith}
use borrow.Author.Tests.{ne_eqb, leb-true, leb-false}
use lib.Dec.{T, leb}
use lib.ListN.{length, get_or, replicate}
use Rattle.monomial.specs.Monomial.{Mono, width}
use Rattle.monomial.specs.Claims.{◌∈◌}
use Rattle.monomial.proofs.Tests.{Tested, passed, failed, test, T→is, n_t→is, is→T, is→n_t}
use Rattle.monomial.proofs.Counting.{at_in}
use Rattle.monomial.proofs.Loops.{pointwise_length, pointwise_at}
use Rattle.wiring.specs.Panel.{set_bytes}
use Rattle.wiring.specs.Sockets.{panel_right}
use Rattle.wiring.specs.Reply.{numbers, Outcome, outcome}
use Rattle.wiring.specs.Poly.{Poly, plain, Same}
use Rattle.wiring.specs.Derivative.{derivative}
use Rattle.wiring.specs.Terms.{records, length_right, fault, system}
use Rattle.wiring.specs.Sets.{set_record}
use Rattle.wiring.specs.Answers.{unless_fault}
use Rattle.wiring.specs.Claims.{Measured, beyond, Ranged, derivative_in}
use Rattle.wiring.specs.declared.panel.Panel.{Panel}
use Rattle.wiring.specs.declared.reply.Reply.{Reply}
use Rattle.wiring.specs.declared.reply.Reply.TheVariants.{Done, Setting, Length, Term, Twice, Nothing, Full, Spent, BadSet, NotQuadratic, Unreadable, FalseLine}
use Rattle.wiring.specs.declared.terms.Fault.{Fault}
use Rattle.wiring.specs.declared.terms.Fault.TheVariants.{Wrong, Repeated}
use Rattle.wiring.proofs.reply.Laws.{same_reply}
use Rattle.wiring.proofs.signals.Laws.{signals_length}
use Rattle.wiring.proofs.sockets.Slopes.{slope_is}
use Rattle.wiring.proofs.terms.Exact.{length_exact, wrong_exact, repeated_exact, clean_exact}
use Rattle.wiring.proofs.answers.Exact.{panel-in, panel_out}
use Rattle.reader.specs.Reader.{Readable}
use Rattle.std.specs.Prelude.{Ok, Err}
use Rattle.reader.specs.Said.{Verdict, whole, said}
use Rattle.reader.specs.Said as verdicts
use Rattle.reader.proofs.Exact.{whole_exact}
use Rattle.listing.specs.Lines.{lefts, left_of}
use Rattle.listing.specs.Meaning.{Product}
use Rattle.listing.specs.Readable.{listing}
use Rattle.listing.specs.declared.known.Known.{Known}
use Rattle.listing.proofs.Places.{broken}
use Rattle.listing.proofs.Ended.{Ended, ended_of}
use Rattle.listing.proofs.lines.Lefts.{left_below}
use Rattle.truth.specs.Truth.{spoken, line_true}
use Rattle.truth.proofs.truth.Laws.{line_same}
use Rattle.roster.specs.Roster.{forms_set, arranged}
use Rattle.roster.proofs.roster.Laws.{right_names, forms_exact}
use Rattle.desktop.specs.Lines.{most_text, line_tests, false_line, lines_said}
use Rattle.desktop.specs.Read.{known_to, refusal, unless_broken, judged, read_listing}
use Rattle.desktop.specs.Claims.{names_in, signals_told, lines_in, left_in, LineRight, Sizes, Prepared, Named, FirstWrong, ReadSays, read_leaves}
use Rattle.desktop.proofs.lines.Laws.{first_off, all_on}
use Rattle.desktop.proofs.read.Laws.{fair_known, said_setting, said_terms_length, said_text_length, said_rest, judged_bad, judged_lines}

-- ---- tests in their order: all pass, or one is the first that fails
data Passing (l : List Bool) : Type 0 where
  on : ((j : ℕ) → j < length l → get_or l j false ≡ true) → Passing l
  off : (i : ℕ) → i < length l → ((j : ℕ) → j < i → get_or l j false ≡ true) → get_or l i false ≡ false → Passing l

passing : (l : List Bool) → Passing l
passing [] = on (λ j h. absurd (omega arith))
passing (b ∷ l) = go (test b) (passing l)
  where
    first : b ≡ true → (k : ℕ) → ((j : ℕ) → j < k → get_or l j false ≡ true) → (j : ℕ) → j < suc k → get_or (b ∷ l) j false ≡ true
    first e k f zero h = e
    first e k f (suc j) h = f j (omega arith)

    go : Tested b → Passing l → Passing (b ∷ l)
    go (failed e) p = off 0 (omega arith) (λ j h. absurd (omega arith)) e
    go (passed e) (on f) = on (first e (length l) f)
    go (passed e) (off i h f g) = off (suc i) (omega arith) (first e i f) g

module _ (panel : Panel) (terms text : List ℕ) where
  abbrev k : Known
  k = known_to panel

  abbrev fs : List (Poly Mono)
  fs = system (records terms)

  abbrev found : List Mono
  found = names_in panel text

  abbrev v : List Mono
  v = signals_told panel text

  -- ---- the lines of a text whose names form a set
  module _ (w : Named panel terms text) where
    abbrev ended : Ended k text
    ended = ended_of k text w.prepared.ranged.high w.reads

    abbrev tests : List Bool
    tests = line_tests k fs text

    tests_long : length tests ≡ length (lines_in panel text)
    unfolding line_tests
    tests_long = pointwise_length (line_true v fs) (lefts k (length found)) (lines_in panel text) (sym ended.each) ∙ sym ended.each

    -- each test asks whether its line is right
    module _ (i : ℕ) (h : i < length (lines_in panel text)) where
      abbrev line : List Product
      line = get_or (lines_in panel text) i []

      test_is : get_or tests i false ≡ line_true v fs (left_of k (length found) i) line
      unfolding line_tests left_of
      test_is = pointwise_at (line_true v fs) (lefts k (length found)) (lines_in panel text) i 0 [] false (omega (arith, ended.each)) h

      own : derivative plain fs (left_in panel text i) ≡ derivative_in panel terms (left_in panel text i)
      own =
          let below : left_of k (length found) i < length v =
          omega (arith, left_below k (length found) i (omega (arith, ended.each)), signals_length panel.n found w.prepared.ranged.high) in
          slope_is panel terms ((clean_exact panel (records terms) beyond).1 w.prepared.flawless) found w.right.buildable.free (left_in panel text i)
          (at_in v (left_of k (length found) i) (plain.one 0) below)

      test_out : get_or tests i false ≡ true → LineRight panel terms text i
      test_out e =
          subst (λ (p : Poly Mono). Same plain (spoken v line) p) own
          ((line_same v fs (left_of k (length found) i) line).0 (is→T _ (sym test_is ∙ e)))

      pub line-true : LineRight panel terms text i → T (line_true v fs (left_of k (length found) i) line)
      line-true s = (line_same v fs (left_of k (length found) i) line).1 (subst (λ (p : Poly Mono). Same plain (spoken v line) p) (sym own) s)

      test_in : LineRight panel terms text i → get_or tests i false ≡ true
      test_in s = test_is ∙ T→is _ (line-true s)

      test_not : (LineRight panel terms text i → ⊥) → get_or tests i false ≡ false
      test_not f = n_t→is (get_or tests i false) (λ t. f (test_out (T→is _ t)))

    lines_right : ((i : ℕ) → i < length (lines_in panel text) → LineRight panel terms text i) → whole ≡ lines_said k fs text
    unfolding lines_said
    lines_right f = rw (all_on tests (λ j h. let l : j < length (lines_in panel text) = omega (arith, tests_long) in test_in j l (f j l)))

    lines_wrong : (p : ℕ) → FirstWrong panel terms text p → verdicts.broken p ≡ lines_said k fs text
    unfolding lines_said false_line
    lines_wrong p b =
        let i = b.number in
        let h : i < length (lines_in panel text) = b.counted in
        let first = first_off tests i (omega (arith, tests_long)) (λ j l. test_in j (omega arith) (b.before j l)) (test_not i h b.wrong) in
        rw (first.0, first.1) (ap verdicts.broken b.place)

  -- ---- what holds is said
  faulty : Ranged panel → Sizes terms text → (f : Result ⊤ Fault) → fault panel (records terms) ≡ f
      → read_listing panel terms text ≡ unless_fault refusal f (unless_broken Unreadable (said (listing k) text) (judged panel fs text))
  faulty r s f e = sym (said_rest panel terms text (panel-in panel r) ((length_exact terms).1 s.measured) s.short f (sym e))

  prepared_reads : Prepared panel terms text → (x : Verdict) → said (listing k) text ≡ x → read_listing panel terms text ≡ unless_broken Unreadable x (judged panel fs text)
  prepared_reads w x e =
      faulty w.ranged w.sizes (Ok tt) ((clean_exact panel (records terms) beyond).1 w.flawless) ∙ ap (λ (y : Verdict). unless_broken Unreadable y (judged panel fs text)) e

  readable_judged : Prepared panel terms text → Readable (listing k) text → read_listing panel terms text ≡ judged panel fs text
  readable_judged w r = prepared_reads w whole ((whole_exact (listing k) text).1 r)

  wide_names : Prepared panel terms text → Readable (listing k) text → (m : Mono) → m ∈ found → length m ≡ width
  wide_names w r = (ended_of k text w.ranged.high r).wide

  named_judged : (w : Named panel terms text) (x : Verdict) → x ≡ lines_said k fs text
      → read_listing panel terms text ≡ unless_broken FalseLine x (outcome (Done (length found) 0 0) (set_record (arranged found)))
  named_judged w x e =
      let forms = T→is _ ((forms_exact panel found (wide_names w.prepared w.reads)).1 w.right) in
      readable_judged w.prepared w.reads ∙ sym (judged_lines panel fs text forms x e)

  unmeasured : Ranged panel → (Measured terms → ⊥) → read_listing panel terms text ≡ refusal Length
  unmeasured r f = sym (said_terms_length panel terms text (panel-in panel r) (n_t→is (length_right terms) (λ t. f ((length_exact terms).0 (T→is (length_right terms) t)))))

  overlong : Ranged panel → most_text < length text → read_listing panel terms text ≡ refusal Length
  overlong r h = go (test (length_right terms))
    where
      go : Tested (length_right terms) → read_listing panel terms text ≡ refusal Length
      go (failed e) = sym (said_terms_length panel terms text (panel-in panel r) e)
      go (passed e) = sym (said_text_length panel terms text (panel-in panel r) e h)

  says : (r : Reply) → ReadSays panel terms text r → read_listing panel terms text ≡ outcome r (read_leaves panel text r)
  says Setting h = sym (said_setting panel terms text (n_t→is (panel_right panel) (λ t. h (panel_out panel t))))
  says Length h = ⊎_elim (unmeasured h.0) (overlong h.0) h.1
  says (Term p) h = faulty h.0 h.1 (Err (Wrong p)) ((wrong_exact panel (records terms) beyond p).1 h.2)
  says (Twice p) h = faulty h.0 h.1 (Err (Repeated p)) ((repeated_exact panel (records terms) beyond p).1 h.2)
  says (Unreadable p) h =
      let r = h.0.ranged in
      prepared_reads h.0 (verdicts.broken p) ((broken k (fair_known panel r.low r.high) text p).1 (h.1, h.2))
  says BadSet h = readable_judged h.0 h.1 ∙ sym (judged_bad panel fs text (n_t→is (forms_set panel found) (λ t. h.2 (right_names panel found t))))
  says (FalseLine p) h = named_judged h.0 (verdicts.broken p) (lines_wrong h.0 p h.1)
  says (Done o c s) h =
      named_judged h.0 whole (lines_right h.0 h.1) ∙ ap (λ (i : ℕ). outcome (Done i 0 0) (set_record (arranged found))) (sym h.2)
      ∙ ap₂ (λ (i j : ℕ). outcome (Done o i j) (set_record (arranged found))) (sym h.3) (sym h.4)
  says (Nothing o s) h = absurd h
  says (Full o s) h = absurd h
  says (Spent o s) h = absurd h
  says (NotQuadratic o p) h = absurd h

  -- ---- and one of them holds
  record Told : Type 0 where
    reply : Reply
    holds : ReadSays panel terms text reply

  told_lines : Named panel terms text → Told
  told_lines w = go (passing (line_tests k fs text))
    where
      go : Passing (line_tests k fs text) → Told
      go (on f) = record {
        reply = Done (length found) 0 0;
        holds = (w, (λ i h. test_out w i h (f i (omega (arith, tests_long w)))), refl, refl, refl);
      }
      go (off i h f g) =
          let l : i < length (lines_in panel text) = omega (arith, tests_long w) in
          record {
            reply = FalseLine (length found + 3 + i);
            holds = (
              w,
              record {
                number = i;
                counted = l;
                place = refl;
                wrong = λ s. is→n_t (get_or (line_tests k fs text) i false) g (is→T _ (test_in w i l s));
                before = λ j q. test_out w j (omega arith) (f j q);
              },
            );
          }

  told_names : Prepared panel terms text → Readable (listing k) text → Told
  told_names w r = go (test (forms_set panel found))
    where
      go : Tested (forms_set panel found) → Told
      go (passed e) = told_lines (record { prepared = w; reads = r; right = right_names panel found (is→T (forms_set panel found) e) })
      go (failed e) = record { reply = BadSet; holds = (w, r, λ q. is→n_t (forms_set panel found) e ((forms_exact panel found (wide_names w r)).1 q)) }

  told_text : Prepared panel terms text → (x : Verdict) → said (listing k) text ≡ x → Told
  told_text w (Ok o) e = told_names w ((whole_exact (listing k) text).0 e)
  told_text w (Err b) e =
      let r = w.ranged in
      let places = (broken k (fair_known panel r.low r.high) text b.place).0 e in
      record { reply = Unreadable b.place; holds = (w, places.0, places.1) }

  told_fault : Ranged panel → Sizes terms text → (f : Result ⊤ Fault) → fault panel (records terms) ≡ f → Told
  told_fault r s (Err (Wrong p)) e = record { reply = Term p; holds = (r, s, (wrong_exact panel (records terms) beyond p).0 e) }
  told_fault r s (Err (Repeated p)) e = record { reply = Twice p; holds = (r, s, (repeated_exact panel (records terms) beyond p).0 e) }
  told_fault r s (Ok _) e =
      told_text (record { ranged = r; sizes = s; flawless = (clean_exact panel (records terms) beyond).0 e }) (said (listing k) text) refl

  told_sizes : Ranged panel → Told
  told_sizes r = go (test (length_right terms)) (test (leb (length text) most_text))
    where
      go : Tested (length_right terms) → Tested (leb (length text) most_text) → Told
      go (failed e) q = record { reply = Length; holds = (r, inl (λ m. is→n_t (length_right terms) e (is→T (length_right terms) ((length_exact terms).1 m)))) }
      go (passed e) (failed q) = record { reply = Length; holds = (r, inr (leb-false (length text) most_text q)) }
      go (passed e) (passed q) =
          told_fault r (record { measured = (length_exact terms).0 e; short = leb-true (length text) most_text q }) (fault panel (records terms)) refl

  told : Told
  told = go (test (panel_right panel))
    where
      go : Tested (panel_right panel) → Told
      go (passed e) = told_sizes (panel_out panel (is→T (panel_right panel) e))
      go (failed e) = record { reply = Setting; holds = λ r. is→n_t (panel_right panel) e (is→T (panel_right panel) (panel-in panel r)) }

  read_told : read_listing panel terms text ≡ outcome told.reply (read_leaves panel text told.reply)
  read_told = says told.reply told.holds

  -- ---- the contract of `read_listing`: a reply with its set record keeps it exactly where what the reply says holds and the record is as it leaves it
  pub read_exact : (r : Reply) (set : List ℕ) → (outcome r set ≡ read_listing panel terms text) ↔ (ReadSays panel terms text r × (set ≡ read_leaves panel text r))
  read_exact r set = (out, λ h. ap (outcome r) h.1 ∙ sym (says r h.0))
    where
      out : outcome r set ≡ read_listing panel terms text → ReadSays panel terms text r × (set ≡ read_leaves panel text r)
      out e =
          let q : told.reply ≡ r = same_reply told.reply r (ap (λ (x : Outcome). x.said) (sym read_told ∙ sym e)) in
          (subst (ReadSays panel terms text) q told.holds, ap (λ (x : Outcome). x.bytes) (e ∙ read_told) ∙ ap (read_leaves panel text) q)

  -- some reply is always given
  pub read_replies : (r : Reply) × (outcome r (read_leaves panel text r) ≡ read_listing panel terms text)
  read_replies = (told.reply, sym read_told)

  -- two replies that keep it are equal, and so are their set records
  pub read_determined : (r r' : Reply) (set set' : List ℕ) → outcome r set ≡ read_listing panel terms text → outcome r' set' ≡ read_listing panel terms text
      → (r ≡ r') × (set ≡ set')
  read_determined r r' set set' e e' =
      (same_reply r r' (ap (λ (x : Outcome). x.said) (e ∙ sym e')), ap (λ (x : Outcome). x.bytes) (e ∙ sym e'))

  -- every code but 0 leaves zeros
  pub read_zeros : (r : Reply) (set : List ℕ) → outcome r set ≡ read_listing panel terms text → ((numbers r).code ≡ 0 → ⊥) → set ≡ replicate set_bytes 0
  read_zeros r set e h = rw (ne_eqb (numbers r).code 0 h) at ((read_exact r set).0 e).1
