-- `take_step` meets its contract: spent, found, at its end, or to be split. Assumes nothing.
use mathlib.Core.Path.{refl, sym, subst}
use Prim.Native.Nat.{◌/◌}
use native.Mathlib.Omega.{arith}
use lib.ListN.{length}
use Rattle.wiring.specs.Panel.{set_bytes}
use Rattle.wiring.specs.Signals.{tabled}
use Rattle.wiring.specs.Terms.{records, system}
use Rattle.walk.specs.Walk.{kit_rules}
use Rattle.std.specs.Prelude.{ℕ, ◌<◌, Ok, Err}
use Rattle.walk.specs.Turns.{Tells}
use Rattle.walk.specs.Listing.{Shown}
use Rattle.walk.specs.Walk.{Finds, opened, run}
use Rattle.std.proofs.lemmas.Result.{err_from_is_err_and}
use Rattle.walk.proofs.walk.Laws.{open_spent}
use Rattle.walk.proofs.walk.Judging.{found_runs, closed_steps}
use Rattle.walk.proofs.walk.take_step.Goals as goal

pub returns-then-f-taken : goal.returns-then-f-taken
returns-then-f-taken c =
    λ d finds p sh.
    let a = c.args in
    open_spent (kit_rules a.f.now.panel) a.f.now.panel.n (system (records a.f.now.system.terms.now)) a.f.now.level a.f.now.limit (length a.out.now / set_bytes) a.st.steps finds (tabled a.set.now) d p (omega arith)

pub returns-in_ok-state-in-Found : goal.returns-in_ok-state-in-Found
returns-in_ok-state-in-Found c =
    λ d finds p sh.
    let a = c.args in
    let told = found_runs (kit_rules a.f.now.panel) a.f.now.panel.n a.f.now.system.terms.now a.f.now.level a.f.now.limit a.set.now a.st a.out.now (omega (arith, c.if-f-taken.false)) c.in-Found.ensures d finds p in
    subst (Tells (Ok c.in_ok-state-in-Found.state) c.found.new.out) (sym told) (c.in_ok-state-in-Found.ensures finds sh)

pub returns-in_err-state-in-Found : goal.returns-in_err-state-in-Found
returns-in_err-state-in-Found c =
    let a = c.args in
    let stops : (d : ℕ) (finds : Finds) → 0 < d → Shown finds a.st.count a.out.now
    → Tells (Err c.in_err-state-in-Found.field-0.0) c.found.new.out (run a.f.now.limit (length a.out.now / set_bytes) (opened (kit_rules a.f.now.panel) a.f.now.panel.n (system (records a.f.now.system.terms.now)) a.f.now.level d (tabled a.set.now)) a.st.steps finds) =
    λ d finds p sh.
    let told = found_runs (kit_rules a.f.now.panel) a.f.now.panel.n a.f.now.system.terms.now a.f.now.level a.f.now.limit a.set.now a.st a.out.now (omega (arith, c.if-f-taken.false)) c.in-Found.ensures d finds p in
    subst (Tells (Err c.in_err-state-in-Found.field-0.0) c.found.new.out) (sym told) (c.in_err-state-in-Found.ensures finds sh) in
    let p = err_from_is_err_and c.from_residual.result c.from_residual.ensures.1 in
    rw (p.1, p.2) stops

pub returns-in-Closed : goal.returns-in-Closed
returns-in-Closed c =
    let a = c.args in
    closed_steps (kit_rules a.f.now.panel) a.f.now.panel.n a.f.now.system.terms.now a.f.now.level a.f.now.limit a.set.now a.st a.out.now (omega (arith, c.if-f-taken.false)) _ refl refl c.in-Closed.ensures
