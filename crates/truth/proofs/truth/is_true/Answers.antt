-- `is_true` meets its contract: every row is asked (`rows_asked`), and what no row has is asked last (`decided_end`). Assumes nothing.
use mathlib.Core.Path.{◌≡◌, refl, ◌∙◌, sym}
use native.Mathlib.Omega.{arith}
use borrow.Author.Rules.{rules}
use borrow.Author.Tests.{tests}
use lib.ListN.{length}
use Rattle.std.proofs.lemmas.Iterator.{serves_from_Range, YieldsList-from_range}
use Rattle.std.proofs.lemmas.Iterator.Search.{all_from_yields_List}
use Rattle.wiring.specs.Panel.{most_signals}
use Rattle.wiring.specs.Poly.{plain}
use Rattle.wiring.specs.Derivative.{derivative}
use Rattle.wiring.specs.Quadratic.{unmet}
use Rattle.wiring.specs.Signals.{signals_of}
use Rattle.wiring.specs.Terms.{records, system}
use Rattle.wiring.proofs.signals.Arrays.{entry, array_length}
use Rattle.truth.specs.Sums.{row_agrees, all_agree}
use Rattle.truth.proofs.truth.Deciding.{rows_asked, decided_no, decided_end}
use Rattle.truth.proofs.truth.Places.{long, at, small}
use Rattle.truth.proofs.truth.is_true.Goals as goal
use Rattle.truth.proofs.truth.is_true.Goals.{After-all}

pub all-requires-clause-callable : goal.all-requires-clause-callable
all-requires-clause-callable c =
    let v = c.args.v in
    let room : length v.m ≡ most_signals = search (rules, array_length) in
    let low = small v room c.requires.fits c.args.left c.requires.inside in
    serves_from_Range (λ a q k. search (rules, tests)) (λ a first last. search (rules, arith, v.few, c.requires.fits, low))

pub lacks_pair-requires-clause-small : goal.lacks_pair-requires-clause-small
lacks_pair-requires-clause-small c =
    let v = c.args.v in
    let room : length v.m ≡ most_signals = search (rules, array_length) in
    small v room c.requires.fits c.args.left c.requires.inside

-- what asking every row has found
asked : (c : After-all) → c.all.result ≡ all_agree (signals_of c.args.v) c.args.sums.now (derivative plain (system (records c.args.s.terms.now)) (entry c.args.v.m c.args.left))
asked c =
    let v = c.args.v in
    let room : length v.m ≡ most_signals = search (rules, array_length) in
    let p = derivative plain (system (records c.args.s.terms.now)) (entry v.m c.args.left) in
    all_from_yields_List (row_agrees (signals_of v) c.args.sums.now p) _ _ c.all.result c.all.ensures.ran (YieldsList-from_range 0 v.len _ refl refl) (λ a r q k. search (rules, tests))
    ∙ rows_asked (signals_of v) c.args.sums.now p _ (omega (arith, long v room c.requires.fits))

pub returns-then-all : goal.returns-then-all
unfolding unmet
returns-then-all c =
    let v = c.args.v in
    let room : length v.m ≡ most_signals = search (rules, array_length) in
    let rows = sym c.if-all.true ∙ asked (goal.at.returns-then-all c).After-all in
    λ line told sums. decided_end _ _ _ line _ told sums _ (at v room c.requires.fits c.args.left c.requires.inside) rows _ c.lacks_pair.ensures

pub returns-else-all : goal.returns-else-all
returns-else-all c =
    let v = c.args.v in
    let room : length v.m ≡ most_signals = search (rules, array_length) in
    let rows = sym c.if-all.false ∙ asked (goal.at.returns-else-all c).After-all in
    λ line told sums. c.if-all.false ∙ decided_no _ _ _ line _ told sums _ (at v room c.requires.fits c.args.left c.requires.inside) rows
