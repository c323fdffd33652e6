-- What C gets of each call, said of the five numbers and the bytes alone: whose reply they are and what it means; done, none, full and spent of
-- planning, done of wiring and its verdict, done and full of thinning, and done of reading, by their numbers. Assumes nothing.
use mathlib.Core.Path.{◌≡◌, refl, sym, ap, ◌∙◌}
use mathlib.Core.Logic.{◌↔◌}
use mathlib.Core.List.{List, [], ◌∷◌}
use Prim.Native.Nat.{ℕ, ◌/◌, ◌<◌}
use Rattle.wiring.specs.Panel.{set_bytes, wire_bytes}
use Rattle.wiring.specs.Poly.{plain}
use Rattle.wiring.specs.Quadratic.{Quadratic}
use Rattle.wiring.specs.Reply.{numbers, in_order, Outcome, outcome}
use Rattle.wiring.specs.Terms.{records, system}
use Rattle.wiring.specs.Answers.{wired}
use Rattle.wiring.specs.declared.panel.Panel.{Panel}
use Rattle.wiring.specs.declared.reply.Reply.{Reply}
use Rattle.wiring.specs.declared.reply.Reply.TheVariants.{Done, Setting, Length, Term, Twice, Nothing, Full, Spent, BadSet, NotQuadratic, Unreadable, FalseLine}
use Rattle.wiring.specs.Claims.{signals_in, derivative_in, Patch, TellsVerdict, VerdictAlone}
use Rattle.wiring.proofs.reply.Laws.{same_reply}
use Rattle.wiring.proofs.answers.Wired.{wire_exact, wire_replies, wire_done}
use Rattle.wiring.proofs.answers.Alone.{wire_verdict, verdict_alone}
use Rattle.walk.specs.Walk.{rules_of}
use Rattle.walk.specs.Plan.{planned}
use Rattle.walk.specs.Claims.{Lacks, Fills, Spends, Planned, PlanSays, plan_leaves}
use Rattle.walk.proofs.plan.Exact.{plan_exact, plan_replies, plan_finds, plan_lacks, plan_fills, plan_spends}
use Rattle.thin.specs.Thin.{thinned}
use Rattle.thin.specs.Claims.{Thinned, Overfull}
use Rattle.thin.proofs.thin.Exact.{thin_exact, thin_replies, thin_finds, thin_overfull}
use Rattle.desktop.specs.Read.{read_listing}
use Rattle.desktop.proofs.read.Exact.{read_exact, read_replies}
use Rattle.desktop.proofs.read.Witness.{read_formed, read_quadratic}
use Rattle.planner_c.specs.Calls.{Answer, answer, given}
use Rattle.planner_c.specs.Claims.{Heard, Stopped, PlanMeans, WireMeans, ThinMeans, Listed, ReadMeans}
use Rattle.planner_c.proofs.calls.Exact.{in_order_one, given_exact}

-- ---- one reply has these five numbers
pub heard_one : (r r' : Reply) (five : List ℕ) → five ≡ in_order (numbers r) → five ≡ in_order (numbers r') → r ≡ r'
heard_one r r' five e e' = same_reply r r' (in_order_one (numbers r) (numbers r') (sym e ∙ e'))

-- what an outcome leaves to C is heard as the reply that the outcome is of
heard : (o : Outcome) (r : Reply) (left : List ℕ) → outcome r left ≡ o → (Means : Reply → List ℕ → Type 0)
    → ((x : Reply) (bytes : List ℕ) → outcome x bytes ≡ o → Means x bytes)
    → (five bytes : List ℕ) → answer five bytes ≡ given o → Heard (λ x. Means x bytes) five
heard o r left is Means means five bytes e =
    let numbered : five ≡ in_order (numbers r) = ap (λ (x : Answer). x.five) (e ∙ sym (ap given is)) in
    let same : answer (in_order (numbers r)) bytes ≡ given o = ap (λ (l : List ℕ). answer l bytes) (sym numbered) ∙ e in
    record { reply = r; numbered = numbered; means = means r bytes ((given_exact r bytes o).0 same) }

-- ---- planning
module _ (panel : Panel) (cap limit : ℕ) (terms : List ℕ) (size : ℕ) where
  plan_means : (r : Reply) (bytes : List ℕ) → outcome r bytes ≡ planned panel cap limit terms size → PlanMeans panel cap limit terms size r bytes
  plan_means (Done o c k) bytes e = plan_finds panel cap limit terms size o c k bytes e
  plan_means (Nothing o k) bytes e =
      let x = (plan_exact panel cap limit terms size (Nothing o k) bytes).0 e in
      record { accepted = x.0.0; none_below = (plan_lacks panel cap limit terms size o k bytes e).1; exact = x.0.1; zeros = x.1 }
  plan_means (Full o k) bytes e =
      let x = (plan_exact panel cap limit terms size (Full o k) bytes).0 e in
      record { accepted = x.0.0; none_below = plan_fills panel cap limit terms size o k bytes e; exact = x.0.1; zeros = x.1 }
  plan_means (Spent o k) bytes e =
      let x = (plan_exact panel cap limit terms size (Spent o k) bytes).0 e in
      record { accepted = x.0.0; none_below = plan_spends panel cap limit terms size o k bytes e; exact = x.0.1; zeros = x.1 }
  plan_means Setting bytes e = (plan_exact panel cap limit terms size Setting bytes).0 e
  plan_means Length bytes e = (plan_exact panel cap limit terms size Length bytes).0 e
  plan_means (Term p) bytes e = (plan_exact panel cap limit terms size (Term p) bytes).0 e
  plan_means (Twice p) bytes e = (plan_exact panel cap limit terms size (Twice p) bytes).0 e
  plan_means BadSet bytes e = ((plan_exact panel cap limit terms size BadSet bytes).0 e).0
  plan_means (NotQuadratic o p) bytes e = ((plan_exact panel cap limit terms size (NotQuadratic o p) bytes).0 e).0
  plan_means (Unreadable p) bytes e = ((plan_exact panel cap limit terms size (Unreadable p) bytes).0 e).0
  plan_means (FalseLine p) bytes e = ((plan_exact panel cap limit terms size (FalseLine p) bytes).0 e).0

  -- a meaning that brings back what the reply says and leaves is had exactly where C gets the reply's numbers
  exactly : (r : Reply) (bytes : List ℕ)
      → (PlanMeans panel cap limit terms size r bytes → PlanSays panel cap limit terms size r × (bytes ≡ plan_leaves panel terms size r))
      → (answer (in_order (numbers r)) bytes ≡ given (planned panel cap limit terms size)) ↔ PlanMeans panel cap limit terms size r bytes
  exactly r bytes back = (
    (λ e. plan_means r bytes ((given_exact r bytes (planned panel cap limit terms size)).0 e)),
    λ m. (given_exact r bytes (planned panel cap limit terms size)).1 ((plan_exact panel cap limit terms size r bytes).1 (back m)),
  )

  -- whatever C gets is of one reply, and means what that reply says
  pub siragumon_plan_means : (five bytes : List ℕ) → answer five bytes ≡ given (planned panel cap limit terms size)
      → Heard (λ r. PlanMeans panel cap limit terms size r bytes) five
  siragumon_plan_means five bytes e =
      let some = plan_replies panel cap limit terms size in
      heard (planned panel cap limit terms size) some.0 _ some.1 (PlanMeans panel cap limit terms size) plan_means five bytes e

  -- 0, order, count, steps, 0: the buffer holds every smallest quadratic set, each once, ascending, then zeros; none without signals
  -- is smaller, of any powers
  pub siragumon_plan_done : (o c k : ℕ) (bytes : List ℕ) → answer (0 ∷ o ∷ c ∷ k ∷ 0 ∷ []) bytes ≡ given (planned panel cap limit terms size)
      → Planned panel cap limit terms size o c k bytes
  siragumon_plan_done o c k bytes e = plan_finds panel cap limit terms size o c k bytes ((given_exact (Done o c k) bytes (planned panel cap limit terms size)).0 e)

  -- 5, order, 0, steps, 0: exactly where no level up to the cap has a find; then no quadratic set has at most the cap's monomials
  pub siragumon_plan_none : (o k : ℕ) (bytes : List ℕ) → (answer (5 ∷ o ∷ 0 ∷ k ∷ 0 ∷ []) bytes ≡ given (planned panel cap limit terms size))
      ↔ Stopped panel cap limit terms size (Lacks (rules_of panel) panel.n (system (records terms)) limit (size / set_bytes) cap) o k bytes
  siragumon_plan_none o k bytes = exactly (Nothing o k) bytes (λ s. ((s.accepted, s.exact), s.zeros))

  -- 6, order, 0, steps, 0: exactly where the step of that number finds a set for which there is no room
  pub siragumon_plan_full : (o k : ℕ) (bytes : List ℕ) → (answer (6 ∷ o ∷ 0 ∷ k ∷ 0 ∷ []) bytes ≡ given (planned panel cap limit terms size))
      ↔ Stopped panel cap limit terms size (Fills (rules_of panel) panel.n (system (records terms)) limit (size / set_bytes) cap) o k bytes
  siragumon_plan_full o k bytes = exactly (Full o k) bytes (λ s. ((s.accepted, s.exact), s.zeros))

  -- 7, order, 0, limit, 0: exactly where the next step, one of that level, would pass the limit
  pub siragumon_plan_spent : (o k : ℕ) (bytes : List ℕ) → (answer (7 ∷ o ∷ 0 ∷ k ∷ 0 ∷ []) bytes ≡ given (planned panel cap limit terms size))
      ↔ Stopped panel cap limit terms size (Spends (rules_of panel) panel.n (system (records terms)) limit (size / set_bytes) cap) o k bytes
  siragumon_plan_spent o k bytes = exactly (Spent o k) bytes (λ s. ((s.accepted, s.exact), s.zeros))

-- ---- wiring
module _ (panel : Panel) (terms set : List ℕ) (size : ℕ) where
  wire_means : (r : Reply) (bytes : List ℕ) → outcome r bytes ≡ wired panel terms set size → WireMeans panel terms set size r bytes
  wire_means (Done o c k) bytes e = (((wire_exact panel terms set size (Done o c k) bytes).0 e).0, wire_done panel terms set size o c k bytes e)
  wire_means (Full o k) bytes e = (wire_exact panel terms set size (Full o k) bytes).0 e
  wire_means Setting bytes e = (wire_exact panel terms set size Setting bytes).0 e
  wire_means Length bytes e = (wire_exact panel terms set size Length bytes).0 e
  wire_means (Term p) bytes e = (wire_exact panel terms set size (Term p) bytes).0 e
  wire_means (Twice p) bytes e = (wire_exact panel terms set size (Twice p) bytes).0 e
  wire_means BadSet bytes e = (wire_exact panel terms set size BadSet bytes).0 e
  wire_means (NotQuadratic o p) bytes e = (wire_exact panel terms set size (NotQuadratic o p) bytes).0 e
  wire_means (Nothing o k) bytes e = ((wire_exact panel terms set size (Nothing o k) bytes).0 e).0
  wire_means (Spent o k) bytes e = ((wire_exact panel terms set size (Spent o k) bytes).0 e).0
  wire_means (Unreadable p) bytes e = ((wire_exact panel terms set size (Unreadable p) bytes).0 e).0
  wire_means (FalseLine p) bytes e = ((wire_exact panel terms set size (FalseLine p) bytes).0 e).0

  heard_wire : (Means : Reply → List ℕ → Type 0) → ((r : Reply) (bytes : List ℕ) → outcome r bytes ≡ wired panel terms set size → Means r bytes)
      → (five bytes : List ℕ) → answer five bytes ≡ given (wired panel terms set size) → Heard (λ r. Means r bytes) five
  heard_wire = let some = wire_replies panel terms set size in heard (wired panel terms set size) some.0 _ some.1

  pub siragumon_wire_means : (five bytes : List ℕ) → answer five bytes ≡ given (wired panel terms set size) → Heard (λ r. WireMeans panel terms set size r bytes) five
  siragumon_wire_means = heard_wire (WireMeans panel terms set size) wire_means

  -- 0, order, count, 0, 0: Definition 1 holds of the given set, and the buffer holds its list, which is correct, then zeros
  pub siragumon_wire_done : (o c k : ℕ) (bytes : List ℕ) → answer (0 ∷ o ∷ c ∷ k ∷ 0 ∷ []) bytes ≡ given (wired panel terms set size)
      → Quadratic plain (signals_in panel set) (derivative_in panel terms) × Patch panel terms set c bytes
  siragumon_wire_done o c k bytes e = let m = wire_means (Done o c k) bytes ((given_exact (Done o c k) bytes (wired panel terms set size)).0 e) in (m.0.1, m.1)

  -- the code, whatever the buffer: 0 or 6 exactly where Definition 1 holds of the given set, 9 exactly where it does not
  pub siragumon_wire_verdict : (five bytes : List ℕ) → answer five bytes ≡ given (wired panel terms set size) → Heard (TellsVerdict panel terms set) five
  siragumon_wire_verdict = heard_wire (λ r bytes. TellsVerdict panel terms set r) (wire_verdict panel terms set size)

  -- and into a buffer that holds no record, the empty one among them: 0 exactly where the list is empty besides, 6 exactly where it is not
  pub siragumon_verdict_alone : size < wire_bytes → (five bytes : List ℕ) → answer five bytes ≡ given (wired panel terms set size)
      → Heard (VerdictAlone panel terms set) five
  siragumon_verdict_alone short = heard_wire (λ r bytes. VerdictAlone panel terms set r) (λ r bytes e. verdict_alone panel terms set size r bytes e short)

-- ---- thinning
module _ (panel : Panel) (terms set : List ℕ) (size : ℕ) where
  thin_means : (r : Reply) (bytes : List ℕ) → outcome r bytes ≡ thinned panel terms set size → ThinMeans panel terms set size r bytes
  thin_means (Done o c k) bytes e = thin_finds panel terms set size o c k bytes e
  thin_means (Full o k) bytes e = thin_overfull panel terms set size o k bytes e
  thin_means Setting bytes e = (thin_exact panel terms set size Setting bytes).0 e
  thin_means Length bytes e = (thin_exact panel terms set size Length bytes).0 e
  thin_means (Term p) bytes e = (thin_exact panel terms set size (Term p) bytes).0 e
  thin_means (Twice p) bytes e = (thin_exact panel terms set size (Twice p) bytes).0 e
  thin_means BadSet bytes e = (thin_exact panel terms set size BadSet bytes).0 e
  thin_means (NotQuadratic o p) bytes e = (thin_exact panel terms set size (NotQuadratic o p) bytes).0 e
  thin_means (Nothing o k) bytes e = ((thin_exact panel terms set size (Nothing o k) bytes).0 e).0
  thin_means (Spent o k) bytes e = ((thin_exact panel terms set size (Spent o k) bytes).0 e).0
  thin_means (Unreadable p) bytes e = ((thin_exact panel terms set size (Unreadable p) bytes).0 e).0
  thin_means (FalseLine p) bytes e = ((thin_exact panel terms set size (FalseLine p) bytes).0 e).0

  pub siragumon_thin_means : (five bytes : List ℕ) → answer five bytes ≡ given (thinned panel terms set size) → Heard (λ r. ThinMeans panel terms set size r bytes) five
  siragumon_thin_means five bytes e =
      let some = thin_replies panel terms set size in
      heard (thinned panel terms set size) some.0 _ some.1 (ThinMeans panel terms set size) thin_means five bytes e

  -- 0, order, count, steps, 0: the buffer holds every smallest quadratic subset of the given set, each once, ascending, then zeros
  pub siragumon_thin_done : (o c k : ℕ) (bytes : List ℕ) → answer (0 ∷ o ∷ c ∷ k ∷ 0 ∷ []) bytes ≡ given (thinned panel terms set size) → Thinned panel terms set size o c k bytes
  siragumon_thin_done o c k bytes e = thin_means (Done o c k) bytes ((given_exact (Done o c k) bytes (thinned panel terms set size)).0 e)

  -- 6, order, 0, steps, 0: those subsets are more than there is room for
  pub siragumon_thin_full : (o k : ℕ) (bytes : List ℕ) → answer (6 ∷ o ∷ 0 ∷ k ∷ 0 ∷ []) bytes ≡ given (thinned panel terms set size) → Overfull panel terms set size o k bytes
  siragumon_thin_full o k bytes e = thin_means (Full o k) bytes ((given_exact (Full o k) bytes (thinned panel terms set size)).0 e)

-- ---- reading a listing
module _ (panel : Panel) (terms text : List ℕ) where
  read_listed : (o c k : ℕ) (bytes : List ℕ) → outcome (Done o c k) bytes ≡ read_listing panel terms text → (c ≡ 0) × (k ≡ 0) × Listed panel terms text o bytes
  read_listed o c k bytes e =
      let says = (read_exact panel terms text (Done o c k) bytes).0 e in
      let none = says.0 in (
        none.3,
        none.4,
        record {
          right = (none.0, none.1, none.2, refl, refl);
          is = says.1;
          formed = read_formed panel terms text o c k bytes e;
          quadratic = read_quadratic panel terms text o c k bytes e;
        },
      )

  read_means : (r : Reply) (bytes : List ℕ) → outcome r bytes ≡ read_listing panel terms text → ReadMeans panel terms text r bytes
  read_means (Done o c k) bytes e = read_listed o c k bytes e
  read_means Setting bytes e = (read_exact panel terms text Setting bytes).0 e
  read_means Length bytes e = (read_exact panel terms text Length bytes).0 e
  read_means (Term p) bytes e = (read_exact panel terms text (Term p) bytes).0 e
  read_means (Twice p) bytes e = (read_exact panel terms text (Twice p) bytes).0 e
  read_means (Unreadable p) bytes e = (read_exact panel terms text (Unreadable p) bytes).0 e
  read_means BadSet bytes e = (read_exact panel terms text BadSet bytes).0 e
  read_means (FalseLine p) bytes e = (read_exact panel terms text (FalseLine p) bytes).0 e
  read_means (NotQuadratic o p) bytes e = ((read_exact panel terms text (NotQuadratic o p) bytes).0 e).0
  read_means (Nothing o k) bytes e = ((read_exact panel terms text (Nothing o k) bytes).0 e).0
  read_means (Full o k) bytes e = ((read_exact panel terms text (Full o k) bytes).0 e).0
  read_means (Spent o k) bytes e = ((read_exact panel terms text (Spent o k) bytes).0 e).0

  pub siragumon_read_means : (five bytes : List ℕ) → answer five bytes ≡ given (read_listing panel terms text) → Heard (λ r. ReadMeans panel terms text r bytes) five
  siragumon_read_means five bytes e =
      let some = read_replies panel terms text in
      heard (read_listing panel terms text) some.0 _ some.1 (ReadMeans panel terms text) read_means five bytes e

  -- 0, the order, and the bytes: the listing is right, and they are the record of its set, which wiring calls quadratic
  pub siragumon_read_done : (o : ℕ) (bytes : List ℕ) → answer (0 ∷ o ∷ 0 ∷ 0 ∷ 0 ∷ []) bytes ≡ given (read_listing panel terms text) → Listed panel terms text o bytes
  siragumon_read_done o bytes e = (read_listed o 0 0 bytes ((given_exact (Done o 0 0) bytes (read_listing panel terms text)).0 e)).2
