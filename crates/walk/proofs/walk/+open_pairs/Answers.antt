-- The opener and the pair runner meet their contracts, each by the other's at a smaller measure. Assumes nothing.
use mathlib.Core.Path.{◌≡◌, refl, sym, ap, ◌∙◌, subst}
use mathlib.Core.Bool.{Bool, true, false}
use mathlib.Core.List.{List, ◌∷◌, ◌++◌}
use Prim.Native.Nat.{ℕ, ◌+◌, ◌*◌, ◌-◌, ◌/◌, ◌<◌, ◌≤◌}
use native.Mathlib.Omega.{arith}
use borrow.Author.Rules.{rules}
use Rattle.std.specs.Prelude.{None, Some}
use lib.Dec.{ltb}
use Rattle.std.proofs.lemmas.Bool.{lt-ltb, le-ltb}
use lib.ListN.{length}
use lib.Seq.{length-take-le}
use Rattle.monomial.specs.Monomial.{Mono, one, width}
use Rattle.monomial.specs.Divisors.{pairs, next}
use Rattle.monomial.specs.Claims.{◌∈◌, Pair, split}
use Rattle.wiring.specs.Panel.{set_bytes}
use Rattle.wiring.specs.Signals.{tabled, listed, signals_at}
use Rattle.wiring.specs.Terms.{records, system}
use Rattle.wiring.proofs.signals.Tables.{tabled_length}
use Rattle.lister.specs.declared.cheap.Held.{Held}
use Rattle.lister.specs.Cheap.{cheap_first, Holds}
use Rattle.lister.specs.Passes.{Standing, Picked, kind, list_from, put_off}
use Rattle.lister.proofs.passes.Laws.{standing_start, listed_first, kinds_count, picked_member}
use Rattle.walk.specs.Walk.{Finds, kit_rules, child, opens, opened, run}
use Rattle.walk.specs.Listing.{Shown}
use Rattle.walk.specs.Turns.{Turn, Child, Tells, PassedBy}
use Rattle.walk.specs.declared.walk.State.{State}
use Rattle.std.specs.Prelude.{Option, Some, None, Ok, Err}
use Rattle.walk.proofs.walk.Laws.{pairs_follow}
use Rattle.walk.proofs.walk.Laws.{Running, running_start, running_showing, running_end, running_spent, running_shut, running_going, running_child_stops, running_by}
use Rattle.std.proofs.lemmas.Result.{err_from_is_err_and}
use Rattle.walk.proofs.walk.Runner.{split_member, split_ready, split_tells, gap_wide, gap_proper, child_ready, rest_shut, child_more, child_within, child_long, told_as}
use Rattle.walk.proofs.walk.+open_pairs.Goals as goal
use Rattle.walk.proofs.walk.+open_pairs.Goals.{pairs-After-find-p, pairs-After-offer, pairs-in-Some-offer+in_ok-cur, pairs-in_default-offer}

-- ---- the opener: the pairs of a nonsquare follow
pub open-pairs-requires : goal.open-pairs-requires
open-pairs-requires t c =
    let a = c.args in
    let r = kit_rules a.f.now.panel in
    let sp = pairs_follow r a.f.now.panel.n a.f.now.system.terms.now a.f.now.level a.f.now.limit a.set.now a.st a.out.now c.in_ok-o.o c.in-Some.m c.take_step.new.out c.in-Some.is c.in_ok-o.ensures in
    let step : 2 * (a.f.now.level - length (tabled a.set.now)) < t = omega (arith, c.decreases) in (
      step,
      (
        split_ready r a.f.now.panel.n a.f.now.system.terms.now a.f.now.level a.f.now.limit a.set.now a.st a.out.now c.requires.ready _ _ _ sp,
        split_member r a.f.now.panel.n a.f.now.system.terms.now a.f.now.level a.f.now.limit a.set.now a.st a.out.now c.requires.ready _ _ _ sp,
      ),
    )

pub open-returns-in-Some : goal.open-returns-in-Some
open-returns-in-Some t c =
    λ d finds h sh.
    let a = c.args in
    let r = kit_rules a.f.now.panel in
    let sp = pairs_follow r a.f.now.panel.n a.f.now.system.terms.now a.f.now.level a.f.now.limit a.set.now a.st a.out.now c.in_ok-o.o c.in-Some.m c.take_step.new.out c.in-Some.is c.in_ok-o.ensures in
    split_tells r a.f.now.panel.n a.f.now.system.terms.now a.f.now.level a.f.now.limit a.set.now a.st a.out.now c.requires.ready _ _ _ sp c.pairs.result c.pairs.new.out c.pairs.ensures d finds h sh

-- ---- the pair runner: the place where the next pair was looked for
module _ (t : ℕ) (k : pairs-After-find-p t) where
  abbrev v : List Mono
  v = signals_at k.args.f.now.panel.n k.args.set.now

  abbrev gap : Mono
  gap = k.args.m.e

  -- whether all pairs are listed
  abbrev all : Bool
  all = ltb (k.order.result + 1) k.args.f.now.level

  -- the run of these pairs, from the state and the buffer of this turn, is that of all
  abbrev Runs : List Pair → Type 0
  Runs ps =
      Running (kit_rules k.args.f.now.panel) k.args.f.now.panel.n k.args.f.now.system.terms.now k.args.f.now.level k.args.f.now.limit k.args.set.now gap
      k.args.st k.args.out.now ps k.loop-held.cur k.loop-held.out

  -- the pair in hand, and what is left behind it
  abbrev held : Pair
  held = split gap k.find-p.result.at.a.e

  abbrev later : List Pair
  later = list_from v gap all k.find-p.result.at.rest (next gap k.find-p.result.at.a.e)

  module _ (known : Held) (some : k.find-p.result.held ≡ Some known) where
    seen_runs : Runs (held ∷ (later ++ put_off v gap all))
    seen_runs = subst (λ (ps : List Pair). Runs (ps ++ put_off v gap all)) (rw some at k.find-p.ensures.lists) k.loop-held.invariant.0

  -- none is in hand: only what is put off is left
  seen_end : k.find-p.result.held ≡ None → Runs (put_off v gap all)
  seen_end e = subst (λ (ps : List Pair). Runs (ps ++ put_off v gap all)) (rw e at k.find-p.ensures.none) k.loop-held.invariant.0

-- ---- the place where a child was offered
module _ (t : ℕ) (c : pairs-After-offer t) where
  -- the state and the buffer before the turn, the pair in hand, and the child
  abbrev reached : State
  reached = c.loop-held.cur

  abbrev sheet : List ℕ
  sheet = c.loop-held.out

  abbrev in_hand : Pair
  in_hand = split c.args.m.e c.find-p.result.at.a.e

  abbrev offspring : List Mono
  offspring = child c.args.f.now.panel.n (tabled c.args.set.now) in_hand

  offered_picked : Picked (signals_at c.args.f.now.panel.n c.args.set.now) c.args.m.e c.find-p.result.at c.in-Some.held
  offered_picked = rw c.in-Some.is at c.find-p.ensures.picked

  offered_member : in_hand ∈ pairs c.args.m.e
  offered_member = picked_member (signals_at c.args.f.now.panel.n c.args.set.now) c.args.m.e c.find-p.result.at c.in-Some.held offered_picked

  -- whether it is opened
  abbrev test : Bool
  test = opens (kit_rules c.args.f.now.panel) c.args.f.now.panel.n c.args.f.now.level (tabled c.args.set.now) in_hand

  -- the buffer of children, once it was offered
  abbrev nursery : List ℕ
  nursery = c.offer.new.next

  nursery_long : length nursery ≡ set_bytes
  nursery_long = c.offer.auto.next ∙ c.loop-held.invariant.1.1.1

  offered_child : Child test offspring c.offer.result nursery
  offered_child =
      let a = c.args in
      let x = c.find-p.result.at.a.e in
      subst (λ (b : Mono). Child (opens (kit_rules a.f.now.panel) a.f.now.panel.n a.f.now.level (tabled a.set.now) (x, b)) (child a.f.now.panel.n (tabled a.set.now) (x, b)) c.offer.result nursery)
      c.over.ensures c.offer.ensures

  -- the turn's step was within the limit
  offered_low : reached.steps < c.args.f.now.limit
  offered_low = omega (arith, c.if-f-cur.false)

  -- the child is not opened
  offered_shut : c.offer.result ≡ None → test ≡ false
  offered_shut e = subst (λ (r : Option ℕ). Child test offspring r nursery) e offered_child

  -- the child is opened, as so many monomials
  module _ (len : ℕ) (is : c.offer.result ≡ Some len) where
    offered_born : Child test offspring (Some len) nursery
    offered_born = subst (λ (r : Option ℕ). Child test offspring r nursery) is offered_child

    offered_more : length (tabled c.args.set.now) < len
    offered_more =
        let a = c.args in
        child_more a.f.now.panel.n a.f.now.system.terms.now a.f.now.level a.set.now a.m.e a.st.count a.out.now c.args.f.now.system.clean c.requires.ready c.requires.splits
        in_hand offered_member (kit_rules a.f.now.panel) len nursery offered_born

    offered_within : len ≤ c.args.f.now.level
    offered_within =
        let a = c.args in
        child_within a.f.now.panel.n a.f.now.system.terms.now a.f.now.level a.set.now a.m.e a.st.count a.out.now c.args.f.now.system.clean c.requires.ready c.requires.splits
        in_hand offered_member (kit_rules a.f.now.panel) len nursery offered_born

    offered_long : length (listed len nursery) ≡ len
    offered_long =
        let a = c.args in
        child_long a.f.now.panel.n a.f.now.system.terms.now a.f.now.level a.set.now a.m.e a.st.count a.out.now c.args.f.now.system.clean c.requires.ready c.requires.splits
        in_hand offered_member (kit_rules a.f.now.panel) len nursery offered_born

    -- what the opener told of it, by its size
    abbrev told_of : ℕ → Turn → ℕ → List Mono → List ℕ → Type 0
    told_of size turn room x out' =
        (d : ℕ) (finds : Finds) → c.args.f.now.level - size < d → Shown finds reached.count sheet
        → Tells turn out'
        (run c.args.f.now.limit (room / set_bytes) (opened (kit_rules c.args.f.now.panel) c.args.f.now.panel.n (system (records c.args.f.now.system.terms.now)) c.args.f.now.level d x) (reached.steps + 1) finds)

    offered_told : (turn : Turn) (out' : List ℕ)
        → told_of (length (listed len nursery)) turn (length sheet) (listed len nursery) out'
        → told_of len turn (length c.args.out.now) offspring out'
    offered_told turn out' f =
        let a = c.args in
        told_as (kit_rules a.f.now.panel) a.f.now.panel.n a.f.now.system.terms.now a.f.now.level a.f.now.limit (reached.steps + 1) reached.count len offspring _ a.out.now sheet out' turn
        offered_born.1.is offered_long c.loop-held.invariant.0.long f

-- ---- the loop begins before the first pair
pub pairs-loop-held-init : goal.pairs-loop-held-init
pairs-loop-held-init t c =
    let a = c.args in
    let u = signals_at a.f.now.panel.n a.set.now in
    let m = a.m.e in
    let b = ltb (c.order.result + 1) a.f.now.level in
    let at = c.start-at.ensures in
    let wide = gap_wide a.f.now.panel.n a.f.now.system.terms.now a.f.now.level a.set.now m a.st.count a.out.now c.args.f.now.system.clean c.requires.ready c.requires.splits in
    let one_first : one width ≡ one (length m) = ap one (sym wide) in
    let order : list_from u m b c.start-at.result.rest c.start-at.result.a.e ++ put_off u m b ≡ cheap_first u m = rw (at.cheap, at.first) (listed_first u m b (one width) one_first) in
    let standing : Standing u m c.start-at.result.rest c.start-at.result.a.e c.start-at.result.listed = rw (at.cheap, at.first, at.none) (standing_start u m false (one width) one_first) in
    (running_start (kit_rules a.f.now.panel) a.f.now.panel.n a.f.now.system.terms.now a.f.now.level a.f.now.limit a.set.now a.m.e a.st a.out.now _ order, (standing, (λ e. at.cheap, refl)))

pub pairs-find-p-requires-clause-proper : goal.pairs-find-p-requires-clause-proper
pairs-find-p-requires-clause-proper t c =
    let a = c.args in
    gap_proper a.f.now.panel.n a.f.now.system.terms.now a.f.now.level a.set.now a.m.e a.st.count a.out.now a.f.now.system.clean c.requires.ready c.requires.splits

-- ---- its end: all pairs were listed, or the rest is passed by
pub pairs-returns-then-all : goal.pairs-returns-then-all
pairs-returns-then-all t c =
    let k = (goal.at.pairs-returns-then-all t c).After-find-p in
    let a = c.args in
    running_end (kit_rules a.f.now.panel) a.f.now.panel.n a.f.now.system.terms.now a.f.now.level a.f.now.limit a.set.now a.m.e a.st a.out.now (subst (Runs t k) (ap (put_off (v t k) (gap t k)) (lt-ltb _ _ c.if-all.true)) (seen_end t k c.in_default.is))

pub pairs-left-requires : goal.pairs-left-requires
pairs-left-requires t c =
    let k = (goal.at.pairs-left-requires t c).After-find-p in
    omega (arith, rw c.in_default.is at (c.find-p.ensures.over (le-ltb _ _ c.if-all.false)), kinds_count (v t k) (gap t k))

pub pairs-returns-in_default : goal.pairs-returns-in_default
pairs-returns-in_default t c =
    let k = (goal.at.pairs-returns-in_default t c).After-find-p in
    let a = c.args in
    let few : all t k ≡ false = le-ltb _ _ c.if-all.false in
    let over : c.find-p.result.held ≡ None = c.in_default.is in
    let tight : a.f.now.level ≤ length (tabled a.set.now) + 1 =
    omega (arith, c.if-all.false, c.order.ensures, tabled_length a.set.now) in
    let shut = rest_shut a.f.now.panel.n a.f.now.system.terms.now a.f.now.level a.set.now a.m.e a.st.count a.out.now c.args.f.now.system.clean c.requires.ready c.requires.splits tight (kit_rules a.f.now.panel) in
    let counted : c.left.result ≡ length (kind (v t k) (gap t k) true) = omega (arith, c.left.ensures, rw over at (c.find-p.ensures.over few), kinds_count (v t k) (gap t k)) in
    running_by (kit_rules a.f.now.panel) a.f.now.panel.n a.f.now.system.terms.now a.f.now.level a.f.now.limit a.set.now a.m.e a.st a.out.now (kind (v t k) (gap t k) true) c.loop-held.cur c.loop-held.out
    (subst (Runs t k) (ap (put_off (v t k) (gap t k)) few) (seen_end t k over)) shut c.pass_by.result
    (subst (λ (n : ℕ). PassedBy a.f.now.limit c.loop-held.cur n c.pass_by.result) counted c.pass_by.ensures)

-- ---- a turn
pub pairs-returns-then-f-cur : goal.pairs-returns-then-f-cur
pairs-returns-then-f-cur t c =
    let k = (goal.at.pairs-returns-then-f-cur t c).After-find-p in
    let a = c.args in
    running_spent (kit_rules a.f.now.panel) a.f.now.panel.n a.f.now.system.terms.now a.f.now.level a.f.now.limit a.set.now a.m.e a.st a.out.now (seen_runs t k c.in-Some.held c.in-Some.is) (omega (arith, c.if-f-cur.true))

pub pairs-offer-requires : goal.pairs-offer-requires
pairs-offer-requires t c =
    let p = c.requires.ready.opening in
    let picked : Picked (signals_at c.args.f.now.panel.n c.args.set.now) c.args.m.e c.find-p.result.at c.in-Some.held = rw c.in-Some.is at c.find-p.ensures.picked in
    record {
      growing = record { whole = p.whole; within = p.within; low = p.low; room = omega (arith, c.loop-held.invariant.1.1.1); ascending = p.walked.recorded.ascending };
      holds = subst (λ (b : Mono). Holds (signals_at c.args.f.now.panel.n c.args.set.now) (c.find-p.result.at.a.e, b) c.in-Some.held) (sym c.over.ensures) picked.held;
    }

pub pairs-overflow_mul-child : goal.pairs-overflow_mul-child
pairs-overflow_mul-child t c =
    let few = offered_within t (goal.at.pairs-overflow_mul-child t c).After-offer _ c.in-Some-offer.is in
    let low = c.requires.ready.opening.low in
    search (rules, few, low)

pub pairs-slice_bounds-child-end : goal.pairs-slice_bounds-child-end
pairs-slice_bounds-child-end t c =
    let o = (goal.at.pairs-slice_bounds-child-end t c).After-offer in
    omega (arith, offered_within t o _ c.in-Some-offer.is, nursery_long t o, c.requires.ready.opening.low)

pub pairs-slice_bounds-open-end : goal.pairs-slice_bounds-open-end
pairs-slice_bounds-open-end t c =
    let o = (goal.at.pairs-slice_bounds-open-end t c).After-offer in
    sym (length-take-le (width * c.in-Some-offer.len) c.offer.new.next
    (omega (arith, offered_within t o _ c.in-Some-offer.is, nursery_long t o, c.requires.ready.opening.low)))

pub pairs-open-requires : goal.pairs-open-requires
pairs-open-requires t c =
    let o = (goal.at.pairs-open-requires t c).After-offer in
    let turn = c.loop-held in
    let a = c.args in
    let is = c.in-Some-offer.is in
    let showing = running_showing (kit_rules a.f.now.panel) a.f.now.panel.n a.f.now.system.terms.now a.f.now.level a.f.now.limit a.set.now a.m.e a.st a.out.now _ turn.cur turn.out turn.invariant.0 c.requires.ready.showing in
    let ready = child_ready a.f.now.panel.n a.f.now.system.terms.now a.f.now.level a.set.now a.m.e a.st.count a.out.now c.args.f.now.system.clean c.requires.ready c.requires.splits
    (in_hand t o) (offered_member t o) (kit_rules a.f.now.panel) c.in-Some-offer.len (nursery t o) (offered_born t o _ is) (omega (arith, nursery_long t o)) turn.cur.count turn.out showing in
    let step : 2 * (a.f.now.level - length (listed c.in-Some-offer.len (nursery t o))) + 1 < t =
    omega (arith, c.decreases, offered_more t o _ is, offered_within t o _ is, offered_long t o _ is) in
    (step, ready)

pub pairs-returns-in_err-cur : goal.pairs-returns-in_err-cur
pairs-returns-in_err-cur t c =
    let o = (goal.at.pairs-returns-in_err-cur t c).After-offer in
    let k = (goal.at.pairs-returns-in_err-cur t c).After-find-p in
    let a = c.args in
    let is = c.in-Some-offer.is in
    let stops = running_child_stops (kit_rules a.f.now.panel) a.f.now.panel.n a.f.now.system.terms.now a.f.now.level a.f.now.limit a.set.now a.m.e a.st a.out.now (seen_runs t k c.in-Some.held c.in-Some.is) c.in-Some-offer.len (offered_more t o _ is) c.requires.splits.below
    (offered_low t o) (offered_born t o _ is).0 c.in_err-cur.field-0.0 c.«open».new.out (offered_told t o _ is (Err c.in_err-cur.field-0.0) c.«open».new.out c.in_err-cur.ensures) in
    let p = err_from_is_err_and c.from_residual.result c.from_residual.ensures.1 in
    rw (p.1, p.2) stops

-- ---- the place behind the pair
pub pairs-loop-held-smaller : goal.pairs-loop-held-smaller
pairs-loop-held-smaller t c =
    let o = (goal.at.pairs-loop-held-smaller t c).After-offer in
    rw (c.behind-at.ensures.rest, c.behind-at.ensures.next) (omega (arith, ap length (rw c.in-Some.is at c.find-p.ensures.lists)))

pub pairs-loop-held-preserved : goal.pairs-loop-held-preserved
pairs-loop-held-preserved t c =
    let o = (goal.at.pairs-loop-held-preserved t c).After-offer in
    let k = (goal.at.pairs-loop-held-preserved t c).After-find-p in
    let a = c.args in
    let runs = seen_runs t k c.in-Some.held c.in-Some.is in
    let standing = (offered_picked t o).behind in
    let cheap = c.find-p.ensures.cheap_only in
    elim c.match-offer.branch [
      | pairs-in-Some-offer+in_ok-cur w ↦
          let is = w.in-Some-offer.is in
          let told = offered_told t o _ is (Ok w.in_ok-cur.cur) w.«open».new.out w.in_ok-cur.ensures in
          rw (c.behind-at.ensures.rest, c.behind-at.ensures.next, c.behind-at.ensures.listed, w.out-is, w.cur-is) (
            running_going (kit_rules a.f.now.panel) a.f.now.panel.n a.f.now.system.terms.now a.f.now.level a.f.now.limit a.set.now a.m.e a.st a.out.now runs
                w.in-Some-offer.len (offered_more t o _ is) c.requires.splits.below (offered_low t o) (offered_born t o _ is).0 w.in_ok-cur.cur w.«open».new.out w.«open».auto.out told,
            (standing, (cheap, nursery_long t o)),
          )
      | pairs-in_default-offer w ↦
          let none : c.offer.result ≡ None = let h = w.in_default-offer in search rules in
          rw (c.behind-at.ensures.rest, c.behind-at.ensures.next, c.behind-at.ensures.listed, w.out-is, w.cur-is) (
            running_shut (kit_rules a.f.now.panel) a.f.now.panel.n a.f.now.system.terms.now a.f.now.level a.f.now.limit a.set.now a.m.e a.st a.out.now runs _ refl refl (offered_low t o) (offered_shut t o none),
            (standing, (cheap, nursery_long t o)),
          )
    ]
