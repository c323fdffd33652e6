-- Exactly when each verdict is given, for all numbers n and all lists of bytes: every refusal in plain equations and inequalities, in
-- the order of document 01, and done where Definition 1 holds. The cases are all, and no two replies meet the promise. Assumes nothing.
use Rattle.std.specs.Prelude.{Result, Ok, Err, ⊤}
use mathlib.Core.Path.{◌≡◌, refl, sym, ap, ap₂, ◌∙◌, subst}
use mathlib.Core.Logic.{◌⊎◌, inl, inr, ⊎_elim, ◌↔◌}
use mathlib.Core.Bool.{true}
use mathlib.Core.List.{List, []}
use Prim.Native.Nat.{ℕ, ◌+◌, ◌≤◌}
use native.Mathlib.Omega.{arith}
use borrow.Author.Tests.{le-leb, eq-eqb, eqb-true, eqb-false}
use lib.Dec.{T, eqb, leb→le, eqb→eq}
use lib.ListN.{length, get_or}
use Rattle.monomial.specs.Lists.{some}
use Rattle.monomial.specs.Monomial.{Mono, width}
use Rattle.monomial.specs.Claims.{◌∈◌}
use Rattle.monomial.proofs.Tests.{Tested, passed, failed, test, T→is, n_t→is, is→T, is→n_t, and_l, and_r}
use Rattle.monomial.proofs.Members.{some_none}
use Rattle.monomial.proofs.Counting.{at_in}
use Rattle.monomial.proofs.order.Laws.{mono_order}
use Rattle.wiring.specs.Panel.{set_bytes}
use Rattle.wiring.specs.Sockets.{halved, count_right, panel_right, free}
use Rattle.wiring.specs.declared.panel.Panel.{Panel}
use Rattle.wiring.specs.declared.reply.Reply.{Reply}
use Rattle.wiring.specs.declared.reply.Reply.TheVariants.{Done, Setting, Length, Term, Twice, Nothing, Full, Spent, BadSet, NotQuadratic, Unreadable, FalseLine}
use Rattle.wiring.specs.declared.terms.Fault.{Fault}
use Rattle.wiring.specs.declared.terms.Fault.TheVariants.{Wrong, Repeated}
use Rattle.wiring.specs.Poly.{Poly, plain}
use Rattle.wiring.specs.Derivative.{derivative}
use Rattle.wiring.specs.Quadratic.{Quadratic}
use Rattle.wiring.specs.Terms.{records, length_right, fault, system}
use Rattle.wiring.specs.Sets.{set_of, set_right}
use Rattle.wiring.specs.Answers.{unless_fault, missing, first_unmet, judged, record_judged, verdict}
use Rattle.wiring.specs.Claims.{Measured, Breaks, Repeats, Flawless, Ranged, Lengths, beyond, WellFormed, signals_in, derivative_in, VerdictSays, FirstUnlinked, RightRecord}
use Rattle.wiring.proofs.terms.Exact.{length_exact, wrong_exact, repeated_exact, clean_exact}
use Rattle.wiring.proofs.sets.Exact.{right_iff}
use Rattle.wiring.proofs.quadratic.Definition1.{definition1, quadratic_same, first_unlinked, first_unlinked_same, first_unlinked_one}
use Rattle.wiring.proofs.sockets.Laws.{halved_in, halved_out}
use Rattle.wiring.proofs.kit.Laws.{kit_in, kit_out}
use Rattle.wiring.proofs.sockets.Slopes.{first_unlinked_raised, first_unlinked_free}
use Rattle.wiring.proofs.answers.Limits.{well_slope}
use Rattle.wiring.proofs.signals.Laws.{signals_length}
use Rattle.wiring.proofs.answers.Laws.{judged_not, said_setting, said_terms_length, said_set_length, said_rest, record_bad, record_right}

-- ---- the facts
pub panel-in : (panel : Panel) → Ranged panel → panel_right panel ≡ true
unfolding panel_right count_right
panel-in panel r =
    let marks = eq-eqb (halved panel.marks panel.n) 0 (halved_in panel.marks panel.n r.known) in
    rw (le-leb 1 panel.n r.low, le-leb panel.n width r.high, marks, kit_in panel.degree r.kit)

pub panel_out : (panel : Panel) → T (panel_right panel) → Ranged panel
unfolding panel_right count_right
panel_out panel t = record {
  low = leb→le 1 panel.n (search (and_l, and_r, t));
  high = leb→le panel.n width (search (and_l, and_r, t));
  known = halved_out panel.marks panel.n (eqb→eq (halved panel.marks panel.n) 0 (search (and_l, and_r, t)));
  kit = kit_out panel.degree (search (and_l, and_r, t));
}

-- ---- what each verdict says
module _ (panel : Panel) (terms set : List ℕ) where
  abbrev fs : List (Poly Mono)
  fs = system (records terms)

  abbrev s : List Mono
  s = set_of set

  -- ---- the tests
  measured_in : Lengths terms set → length_right terms ≡ true
  measured_in l = (length_exact terms).1 l.measured

  -- where n, the lengths and the records are in order, the set record decides
  module _ (r : Ranged panel) (l : Lengths terms set) where
    said_fault : (f : Result ⊤ Fault) → fault panel (records terms) ≡ f → verdict panel terms set ≡ unless_fault (λ x. x) f (record_judged panel fs set)
    said_fault f e = sym (said_rest panel terms set (panel-in panel r) (measured_in l) l.long f (sym e))

    said_record : Flawless panel (records terms) beyond → verdict panel terms set ≡ record_judged panel fs set
    said_record f = said_fault (Ok tt) ((clean_exact panel (records terms) beyond).1 f)

  said_judged : WellFormed panel terms set → verdict panel terms set ≡ judged panel.n fs s
  said_judged w = said_record w.ranged w.lengths w.flawless ∙ record_right panel terms set (T→is (set_right panel set) ((right_iff panel set).1 w.right))

  -- ---- a set that is judged
  abbrev Meets : Type 0
  Meets = Quadratic plain (signals_in panel set) (derivative_in panel terms)

  abbrev First : ℕ → Type 0
  First p = FirstUnlinked plain (signals_in panel set) (derivative_in panel terms) [] p

  -- on V of a well-formed input the derivative that the definitions take is that of what has one
  module _ (w : WellFormed panel terms set) where
    abbrev taken : Mono → Poly Mono
    taken = derivative plain fs

    taken_is : (z : Mono) → z ∈ signals_in panel set → taken z ≡ derivative_in panel terms z
    taken_is = well_slope panel terms set w

    quadratic_done : Meets → judged panel.n fs s ≡ Done (length s) 0 0
    unfolding judged some
    quadratic_done q =
        rw ((definition1 plain mono_order (signals_in panel set) taken).0 (quadratic_same plain (signals_in panel set) (derivative_in panel terms) taken (λ z h. sym (taken_is z h)) q))

    none_meets : missing panel.n fs s ≡ [] → Meets
    none_meets e = quadratic_same plain (signals_in panel set) taken (derivative_in panel terms) taken_is ((definition1 plain mono_order (signals_in panel set) taken).1 e)

    first-unmet : T (some (missing panel.n fs s)) → First (first_unmet panel.n fs s)
    unfolding first_unmet
    first-unmet t =
        first_unlinked_same plain (signals_in panel set) taken (derivative_in panel terms) taken_is []
        (first_unlinked plain mono_order (signals_in panel set) taken [] t)

    unlinked_some : (p : ℕ) → First p → T (some (missing panel.n fs s))
    unlinked_some p f = go (test (some (missing panel.n fs s)))
      where
        go : Tested (some (missing panel.n fs s)) → T (some (missing panel.n fs s))
        go (passed e) = is→T (some (missing panel.n fs s)) e
        go (failed e) =
            let meets : Meets = none_meets (some_none (missing panel.n fs s) (is→n_t (some (missing panel.n fs s)) e)) in
            absurd (f.unlinked (meets (get_or (signals_in panel set) p []) (at_in (signals_in panel set) p [] f.below)))

    -- a set is quadratic, or has a first signal whose derivative is not met
    pub met_or_not : Meets ⊎ ((p : ℕ) × First p)
    met_or_not = go (test (some (missing panel.n fs s)))
      where
        go : Tested (some (missing panel.n fs s)) → Meets ⊎ ((p : ℕ) × First p)
        go (passed e) = inr (first_unmet panel.n fs s, first-unmet (is→T (some (missing panel.n fs s)) e))
        go (failed e) = inl (none_meets (some_none (missing panel.n fs s) (is→n_t (some (missing panel.n fs s)) e)))

    unlinked_not : (p : ℕ) → First p → judged panel.n fs s ≡ NotQuadratic (length s) p
    unlinked_not p f =
        let one : p ≡ first_unmet panel.n fs s =
        first_unlinked_one plain mono_order (signals_in panel set) (derivative_in panel terms) [] p (first_unmet panel.n fs s) f (first-unmet (unlinked_some p f)) in
        sym (judged_not panel.n fs s p one f.below)

  -- ---- what holds is said
  unmeasured : Ranged panel → (Measured terms → ⊥) → verdict panel terms set ≡ Length
  unmeasured r f = said_terms_length panel terms set (panel-in panel r) (n_t→is (length_right terms) (λ t. f ((length_exact terms).0 (T→is (length_right terms) t))))

  misfit : Ranged panel → (length set ≡ set_bytes → ⊥) → verdict panel terms set ≡ Length
  misfit r f = go (test (length_right terms))
    where
      go : Tested (length_right terms) → verdict panel terms set ≡ Length
      go (failed e) = said_terms_length panel terms set (panel-in panel r) e
      go (passed e) = said_set_length panel terms set (panel-in panel r) e f

  said : (r : Reply) → VerdictSays panel terms set r → verdict panel terms set ≡ r
  said Setting h = said_setting panel terms set (n_t→is (panel_right panel) (λ t. h (panel_out panel t)))
  said Length h = ⊎_elim (unmeasured h.0) (misfit h.0) h.1
  said (Term p) h = said_fault h.0 h.1 (Err (Wrong p)) ((wrong_exact panel (records terms) beyond p).1 h.2)
  said (Twice p) h = said_fault h.0 h.1 (Err (Repeated p)) ((repeated_exact panel (records terms) beyond p).1 h.2)
  said BadSet h = said_record h.0 h.1 h.2 ∙ record_bad panel terms set (n_t→is (set_right panel set) (λ t. h.3 ((right_iff panel set).0 t)))
  said (NotQuadratic o p) h = said_judged h.0 ∙ unlinked_not h.0 p h.2 ∙ ap (λ (i : ℕ). NotQuadratic i p) (sym h.1)
  said (Done o c k) h =
      said_judged h.0 ∙ quadratic_done h.0 h.4 ∙ ap (λ (i : ℕ). Done i 0 0) (sym h.1) ∙ ap₂ (λ (i j : ℕ). Done o i j) (sym h.2) (sym h.3)
  said (Nothing o k) h = absurd h
  said (Full o k) h = absurd h
  said (Spent o k) h = absurd h
  said (Unreadable p) h = absurd h
  said (FalseLine p) h = absurd h

  -- ---- and one of them holds
  record Told : Type 0 where
    reply : Reply
    holds : VerdictSays panel terms set reply

  told_set : WellFormed panel terms set → Told
  told_set w =
      ⊎_elim (λ q. record { reply = Done (length s) 0 0; holds = (w, refl, refl, refl, q) }) (λ f. record { reply = NotQuadratic (length s) f.0; holds = (w, refl, f.1) })
      (met_or_not w)

  told_fault : Ranged panel → Lengths terms set → (f : Result ⊤ Fault) → fault panel (records terms) ≡ f → Told
  told_fault r l (Err (Wrong p)) e = record { reply = Term p; holds = (r, l, (wrong_exact panel (records terms) beyond p).0 e) }
  told_fault r l (Err (Repeated p)) e = record { reply = Twice p; holds = (r, l, (repeated_exact panel (records terms) beyond p).0 e) }
  told_fault r l (Ok _) e = go (test (set_right panel set))
    where
      clean : Flawless panel (records terms) beyond
      clean = (clean_exact panel (records terms) beyond).0 e

      go : Tested (set_right panel set) → Told
      go (passed t) = told_set (record { ranged = r; lengths = l; flawless = clean; right = (right_iff panel set).0 (is→T (set_right panel set) t) })
      go (failed t) = record { reply = BadSet; holds = (r, l, clean, λ q. is→n_t (set_right panel set) t ((right_iff panel set).1 q)) }

  told_lengths : Ranged panel → Told
  told_lengths r = go (test (length_right terms)) (test (eqb (length set) set_bytes))
    where
      go : Tested (length_right terms) → Tested (eqb (length set) set_bytes) → Told
      go (failed e) q = record { reply = Length; holds = (r, inl (λ m. is→n_t (length_right terms) e (is→T (length_right terms) ((length_exact terms).1 m)))) }
      go (passed e) (failed q) = record { reply = Length; holds = (r, inr (eqb-false (length set) set_bytes q)) }
      go (passed e) (passed q) =
          told_fault r (record { measured = (length_exact terms).0 e; long = eqb-true (length set) set_bytes q }) (fault panel (records terms)) refl

  told : Told
  told = go (test (panel_right panel))
    where
      go : Tested (panel_right panel) → Told
      go (passed e) = told_lengths (panel_out panel (is→T (panel_right panel) e))
      go (failed e) = record { reply = Setting; holds = λ r. is→n_t (panel_right panel) e (is→T (panel_right panel) (panel-in panel r)) }

  -- ---- what is said holds: one of the seven cases, since the other five hold of nothing
  pub verdict_says : VerdictSays panel terms set (verdict panel terms set)
  verdict_says = subst (VerdictSays panel terms set) (sym (said told.reply told.holds)) told.holds

  pub verdict_exact : (r : Reply) → (verdict panel terms set ≡ r) ↔ VerdictSays panel terms set r
  verdict_exact r = ((λ e. subst (VerdictSays panel terms set) e verdict_says), said r)

  -- ---- the seven, one by one
  pub says_setting : (verdict panel terms set ≡ Setting) ↔ (Ranged panel → ⊥)
  says_setting = verdict_exact Setting

  pub says_length : (verdict panel terms set ≡ Length) ↔ (Ranged panel × ((Measured terms → ⊥) ⊎ (length set ≡ set_bytes → ⊥)))
  says_length = verdict_exact Length

  pub says_term : (p : ℕ) → (verdict panel terms set ≡ Term p) ↔ (Ranged panel × Lengths terms set × Breaks panel (records terms) beyond p)
  says_term p = verdict_exact (Term p)

  pub says_twice : (p : ℕ) → (verdict panel terms set ≡ Twice p) ↔ (Ranged panel × Lengths terms set × Repeats panel (records terms) beyond p)
  says_twice p = verdict_exact (Twice p)

  pub says_set : (verdict panel terms set ≡ BadSet) ↔ (Ranged panel × Lengths terms set × Flawless panel (records terms) beyond × (RightRecord panel set → ⊥))
  says_set = verdict_exact BadSet

  pub says_not_quadratic : (o p : ℕ) → (verdict panel terms set ≡ NotQuadratic o p)
      ↔ (WellFormed panel terms set × (o ≡ length (set_of set)) × FirstUnlinked plain (signals_in panel set) (derivative_in panel terms) [] p)
  says_not_quadratic o p = verdict_exact (NotQuadratic o p)

  pub says_done : (o c k : ℕ) → (verdict panel terms set ≡ Done o c k)
      ↔ (WellFormed panel terms set × (o ≡ length (set_of set)) × (c ≡ 0) × (k ≡ 0) × Quadratic plain (signals_in panel set) (derivative_in panel terms))
  says_done o c k = verdict_exact (Done o c k)

  -- the place is the number of a variable that has an equation or of a new monomial: never of 1, nor of a signal
  pub place_signals : (o p : ℕ) → verdict panel terms set ≡ NotQuadratic o p → (1 ≤ p) × (p ≤ panel.n + length (set_of set))
  place_signals o p e =
      let h = (says_not_quadratic o p).0 e in
      let m = h.0.ranged.high in
      let l = signals_length panel.n (set_of set) m in
      (first_unlinked_raised width panel.n panel.marks fs s p h.2, omega (arith, h.2.below))

  pub place_free : (o p : ℕ) → verdict panel terms set ≡ NotQuadratic o p → T (free panel.marks (get_or (signals_in panel set) p []))
  place_free o p e = first_unlinked_free panel.marks fs (signals_in panel set) p ((says_not_quadratic o p).0 e).2
