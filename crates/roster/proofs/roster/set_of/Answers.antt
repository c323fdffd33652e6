-- `set_of` meets its contract: the names join one by one, the last first (`Joining`). Assumes nothing.
use mathlib.Core.Path.{◌≡◌, refl, sym, ◌∙◌}
use mathlib.Core.List.{[]}
use Prim.Native.Nat.{◌-◌}
use native.Mathlib.Omega.{arith}
use lib.ListN.{length}
use Rattle.wiring.specs.Panel.{cards}
use Rattle.wiring.proofs.signals.Arrays.{array_length, front_length, front_at}
use Rattle.roster.proofs.roster.Joining.{joining_start, joining_refused, joining_enters, joining_on, joining_wide}
use borrow.Author.Rules.{rules}
use Rattle.roster.proofs.roster.set_of.Goals as goal

pub loop-i-init : goal.loop-i-init
loop-i-init c =
    let s = c.args.names in
    let six : length s.m ≡ cards = search (rules, array_length) in
    record { few = omega arith; joining = joining_start _ _ _ _ (sym (front_length s.len s.m (omega (arith, s.few)))) refl }

pub returns-then-not-may_join : goal.returns-then-not-may_join
returns-then-not-may_join c =
    let a = c.args in
    let k = c.loop-i in
    let six : length a.names.m ≡ cards = search (rules, array_length) in
    let is = sym (front_at a.names.len a.names.m (k.i - 1) [] (omega arith) (omega (arith, a.names.few))) in
    let no = sym c.may_join.ensures ∙ c.if-not-may_join.true in
    joining_refused k.invariant.joining (k.i - 1) (omega arith) _ is no

pub entered-set-requires : goal.entered-set-requires
entered-set-requires c =
    let a = c.args in
    let k = c.loop-i in
    let six : length a.names.m ≡ cards = search (rules, array_length) in
    let is = sym (front_at a.names.len a.names.m (k.i - 1) [] (omega arith) (omega (arith, a.names.few))) in
    let yes = sym c.may_join.ensures ∙ c.if-not-may_join.false in
    let e = joining_enters k.invariant.joining (k.i - 1) (omega arith) _ is yes (omega (arith, a.names.few, front_length a.names.len a.names.m (omega (arith, a.names.few)))) in
    record { room = e.room; ascends = e.ascends; new = e.new }

pub loop-i-preserved : goal.loop-i-preserved
loop-i-preserved c =
    let a = c.args in
    let k = c.loop-i in
    let six : length a.names.m ≡ cards = search (rules, array_length) in
    let is = sym (front_at a.names.len a.names.m (k.i - 1) [] (omega arith) (omega (arith, a.names.few))) in
    let yes = sym c.may_join.ensures ∙ c.if-not-may_join.false in
    let e = c.entered-set.ensures in
    let next = joining_on k.invariant.joining (k.i - 1) (omega arith) _ is yes c.entered-set.result (record { holds = e.holds; size = e.size; wide = e.wide }) in
    record { few = c.entered-set.result.few; joining = next }

pub record_of-requires : goal.record_of-requires
record_of-requires c = joining_wide c.loop-i.invariant.joining
