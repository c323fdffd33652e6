-- `climb` meets its contract: no set is found below level k, and the levels from k on are the plan (`Climbing`). Assumes nothing.
use mathlib.Core.Path.{refl, ap, ◌∙◌}
use Rattle.std.specs.Prelude.{Err}
use mathlib.Core.List.{[]}
use native.Mathlib.Omega.{arith}
use lib.ListN.{length}
use Rattle.wiring.specs.Terms.{records, system}
use Rattle.wiring.proofs.signals.Tables.{tabled_none}
use Rattle.walk.specs.Walk.{kit_rules}
use Rattle.walk.proofs.plan.Laws.{shown_none, climb_start, climb_none, climb_on, climb_done, climb_spent, climb_full, opening_at}
use Rattle.walk.proofs.walk.Runner.{empty_openable}
use Rattle.walk.proofs.plan.climb.Goals as goal

pub loop-k-init : goal.loop-k-init
loop-k-init c =
    let a = c.args in
    (climb_start (kit_rules a.panel) a.panel.n (system (records a.terms.now)) a.limit a.cap (length a.out.now) a.out.now refl c.requires.blank (omega arith))

pub open-requires : goal.open-requires
open-requires c =
    let p = c.requires in
    let k = c.loop-k in
    record {
      ready = record {
        opening = empty_openable c.args.panel.n k.k (omega (arith, p.capped, c.loop-k-test.true)) p.few;
        showing = record { finds = []; shown = shown_none k.out k.invariant.blank };
      };
    }

pub returns-then-s-gt0 : goal.returns-then-s-gt0
returns-then-s-gt0 c =
    let k = c.loop-k in
    let r = c.«open» in
    let low = c.loop-k-test.true in
    let a = c.args in
    let told = opening_at (kit_rules a.panel) a.panel.n (system (records a.terms.now)) a.limit a.cap (length a.out.now) k.k k.steps k.out r.result r.new.out _ tabled_none r.ensures in
    climb_done k.invariant low r.result r.new.out told r.auto.out c.in-Ok.s c.in-Ok.is c.if-s-gt0.true

pub returns-in-Spent : goal.returns-in-Spent
returns-in-Spent c =
    let k = c.loop-k in
    let r = c.«open» in
    let low = c.loop-k-test.true in
    let a = c.args in
    let told = opening_at (kit_rules a.panel) a.panel.n (system (records a.terms.now)) a.limit a.cap (length a.out.now) k.k k.steps k.out r.result r.new.out _ tabled_none r.ensures in
    climb_spent k.invariant low r.result r.new.out told r.auto.out _ c.clear.ensures (c.in-Err.is ∙ ap Err c.in-Spent.is)

pub returns-in-Full : goal.returns-in-Full
returns-in-Full c =
    let k = c.loop-k in
    let r = c.«open» in
    let low = c.loop-k-test.true in
    let a = c.args in
    let told = opening_at (kit_rules a.panel) a.panel.n (system (records a.terms.now)) a.limit a.cap (length a.out.now) k.k k.steps k.out r.result r.new.out _ tabled_none r.ensures in
    climb_full k.invariant low r.result r.new.out told r.auto.out _ c.clear.ensures c.in-Full.steps (c.in-Err.is ∙ ap Err c.in-Full.is)

pub loop-k-preserved : goal.loop-k-preserved
loop-k-preserved c =
    let k = c.loop-k in
    let r = c.«open» in
    let low = c.loop-k-test.true in
    let a = c.args in
    let told = opening_at (kit_rules a.panel) a.panel.n (system (records a.terms.now)) a.limit a.cap (length a.out.now) k.k k.steps k.out r.result r.new.out _ tabled_none r.ensures in
    (climb_on k.invariant low r.result r.new.out told r.auto.out c.in-Ok.s c.in-Ok.is c.if-s-gt0.false)

pub returns : goal.returns
returns c = climb_none c.loop-k.invariant c.loop-k-test.false
