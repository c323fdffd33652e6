-- `judge_lines` meets its contract: the loop's invariant is `Going`. Assumes nothing.
use mathlib.Core.Path.{◌≡◌, refl, sym, ◌∙◌}
use mathlib.Core.Bool.{true}
use mathlib.Core.List.{List}
use Prim.Native.Nat.{ℕ, ◌<◌}
use native.Mathlib.Omega.{arith}
use lib.ListN.{length, get_or}
use Rattle.std.specs.Prelude.{Option, Some, IsSome, unwrap_or, slice_get}
use Rattle.std.proofs.lemmas.Option.{slice_get-get_or}
use Rattle.listing.specs.Meaning.{untold}
use Rattle.listing.specs.Saying.{saying}
use Rattle.desktop.specs.Lines.{ends_line}
use Rattle.desktop.proofs.lines.Laws.{says_fresh}
use Rattle.desktop.proofs.lines.Going.{going_start, going_named, going_adds, going_summed, going_low, going_few, going_says, going_ended, going_there, going_verdict, going_true, going_false, going_on, going_ends}
use Rattle.desktop.proofs.lines.judge_lines.Goals as goal
use Rattle.desktop.proofs.lines.judge_lines.Goals.{Then-ends_line, then-ends_line+else-not-is_true, else-ends_line}

-- a line that there is has a signal, and that is the one by its number
is_there : (o : Option ℕ) (l : List ℕ) (i : ℕ) → o ≡ slice_get l i → i < length l → IsSome o
is_there o l i e h = rw (e ∙ slice_get-get_or l i 0 h)

the_signal : (o : Option ℕ) (signal number : ℕ) → o ≡ Some signal → unwrap_or o 0 ≡ number → signal ≡ number
the_signal o signal number e n = rw e at n

pub loop-x-init : goal.loop-x-init
loop-x-init c = λ j.
    let says = says_fresh untold _ c.no_term-t.ensures refl refl refl refl in
    rw c.begin-g.ensures (going_start _ _ _ _ j _ _ says (c.no_terms-totals.ensures _))

pub say-said-requires-clause-stands : goal.say-said-requires-clause-stands
say-said-requires-clause-stands c = (c.loop-x.invariant c.requires).follows.stands

pub add_ended-requires : goal.add_ended-requires
add_ended-requires c =
    let p = c.requires in
    going_adds _ _ _ _ p (c.loop-x.invariant p) (omega arith)

-- a line ends here
at_end : (c : goal.Then-ends_line) → ends_line (saying c.args.known c.loop-x.g (get_or c.args.text.now c.loop-x.x-index 0)) ≡ true
at_end c = let p = c.requires in going_ended _ _ _ _ p (c.loop-x.invariant p) (omega arith) _ c.say-said.ensures _ c.ends_line.ensures ∙ c.if-ends_line.true

pub left_of-requires : goal.left_of-requires
left_of-requires c =
    let p = c.requires in
    let k = c.loop-x.invariant p in
    let more : c.loop-x.x-index < length c.args.text.now = omega arith in
    let ended = at_end (goal.at.left_of-requires c).Then-ends_line in
    record { few = omega (arith, p.few); low = omega (arith, p.size, p.fair.low, going_few _ _ _ _ p k more ended) }

pub unwrap-left-requires : goal.unwrap-left-requires
unwrap-left-requires c =
    let p = c.requires in
    let k = c.loop-x.invariant p in
    let more : c.loop-x.x-index < length c.args.text.now = omega arith in
    let ended = at_end (goal.at.unwrap-left-requires c).Then-ends_line in
    is_there _ _ _ c.left_of.ensures.told (going_there _ _ _ _ p k more ended _ (going_named _ c.args.s.terms.now _ _ p))

pub is_true-requires-clause-inside : goal.is_true-requires-clause-inside
is_true-requires-clause-inside c = let within = rw c.unwrap-left.ensures at c.left_of.ensures.within in omega (arith, c.requires.size, within.1)

pub overflow_add-result-then-not-is_true : goal.overflow_add-result-then-not-is_true
overflow_add-result-then-not-is_true c =
    let p = c.requires in
    let k = c.loop-x.invariant p in
    let more : c.loop-x.x-index < length c.args.text.now = omega arith in
    let ended = at_end (goal.at.overflow_add-result-then-not-is_true c).Then-ends_line in
    omega (arith, p.size, c.args.v.few, going_low _ _ _ _ p k more ended)

pub returns-then-not-is_true : goal.returns-then-not-is_true
returns-then-not-is_true c =
    let p = c.requires in
    let k = c.loop-x.invariant p in
    let more : c.loop-x.x-index < length c.args.text.now = omega arith in
    let heard = c.say-said.ensures in
    let ended = going_ended _ _ _ _ p k more _ heard _ c.ends_line.ensures ∙ c.if-ends_line.true in
    let sums = going_summed _ _ _ _ p k more _ heard _ c.add_ended.ensures in
    let count = going_named _ c.args.s.terms.now _ _ p in
    let left = the_signal _ _ _ c.unwrap-left.ensures c.left_of.ensures.number in
    let told = going_verdict _ _ _ _ p k more ended _ sums _ _ count left _ c.is_true.ensures in
    rw count (going_false _ _ _ _ p k more ended (sym told ∙ c.if-not-is_true.true))

pub overflow_add-line : goal.overflow_add-line
overflow_add-line c =
    let p = c.requires in
    let k = c.loop-x.invariant p in
    let more : c.loop-x.x-index < length c.args.text.now = omega arith in
    let ended = at_end (goal.at.overflow_add-line c).Then-ends_line in
    omega (arith, p.size, c.args.v.few, going_low _ _ _ _ p k more ended)

pub eat_byte-g-requires-clause-stands : goal.eat_byte-g-requires-clause-stands
eat_byte-g-requires-clause-stands c = (c.loop-x.invariant c.requires).follows.stands

pub loop-x-preserved : goal.loop-x-preserved
loop-x-preserved c = λ p.
    let k = c.loop-x.invariant p in
    let more : c.loop-x.x-index < length c.args.text.now = omega arith in
    let heard = c.say-said.ensures in
    let ends = going_ended _ _ _ _ p k more _ heard _ c.ends_line.ensures in
    let sums = going_summed _ _ _ _ p k more _ heard _ c.add_ended.ensures in
    let says = going_says _ _ _ _ p k more _ heard _ c.note-t.ensures in
    let count = going_named _ c.args.s.terms.now _ _ p in
    elim c.if-ends_line.branch [
      | then-ends_line+else-not-is_true w ↦
          let ended = ends ∙ w.if-ends_line.true in
          let left = the_signal _ _ _ w.unwrap-left.ensures w.left_of.ensures.number in
          let told = going_verdict _ _ _ _ p k more ended _ sums _ _ count left _ w.is_true.ensures in
          rw (w.totals-is, w.line-is, c.eat_byte-g.ensures) (going_true _ _ _ _ p k more ended _ _ says (w.no_terms-totals-then-ends_line.ensures _) (sym told ∙ w.if-not-is_true.false))
      | else-ends_line w ↦ rw (w.totals-is, w.line-is, c.eat_byte-g.ensures) (going_on _ _ _ _ p k more (ends ∙ w.if-ends_line.false) _ _ says sums)
    ]

pub returns : goal.returns
returns c =
    let p = c.requires in
    going_ends _ _ _ _ p (c.loop-x.invariant p) (omega arith)
