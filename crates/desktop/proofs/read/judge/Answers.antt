-- `judge` meets its contract: names that form no set are refused, and then the lines are judged. Assumes nothing.
use mathlib.Core.Path.{◌≡◌, refl, sym, ap, ap₂, ◌∙◌}
use mathlib.Core.List.{List, map}
use Prim.Native.Nat.{ℕ}
use native.Mathlib.Omega.{arith}
use borrow.Author.Rules.{rules}
use lib.ListN.{length}
use Rattle.monomial.specs.Monomial.{Mono}
use Rattle.wiring.specs.Panel.{cards}
use Rattle.wiring.specs.Reply.{outcome}
use Rattle.wiring.specs.Sets.{set_record}
use Rattle.wiring.specs.Terms.{records, system}
use Rattle.wiring.specs.declared.reply.Reply.TheVariants.{Done}
use Rattle.wiring.proofs.signals.Arrays.{array_length, front_length}
use Rattle.std.specs.Prelude.{Err}
use Rattle.reader.specs.Said.{whole}
use Rattle.listing.specs.Meaning.{names}
use Rattle.listing.specs.declared.known.Known.{Known}
use Rattle.roster.specs.Roster.{arranged}
use Rattle.desktop.specs.Names.{capped}
use Rattle.desktop.specs.Lines.{lines_said}
use Rattle.desktop.proofs.read.Laws.{fair_known, names_right, names_held, names_judging, judged_bad, judged_lines}
use Rattle.desktop.proofs.read.judge.Goals as goal

pub names_of-names-requires : goal.names_of-names-requires
names_of-names-requires c =
    let q = c.requires.reading in
    rw c.from-known.ensures (record { fair = fair_known c.args.panel q.low q.high; few = q.high; six = refl })

pub returns-in_default : goal.returns-in_default
returns-in_default c =
    let a = c.args in
    let known = c.from-known in
    let found = c.names_of-names in
    let held = found.ensures ∙ ap (λ (k : Known). map capped (names k a.text.now)) known.ensures in
    let right = sym (names_right a.panel a.text.now c.requires.reading c.requires.reads found.result held) in
    c.refused.ensures ∙ judged_bad a.panel (system (records a.s.terms.now)) a.text.now (right ∙ c.in_default.ensures)

pub judge_lines-requires : goal.judge_lines-requires
judge_lines-requires c =
    let room : length c.names_of-names.result.m ≡ cards = search (rules, array_length) in
    let a = c.args in
    let known = c.from-known in
    let found = c.names_of-names in
    let held = found.ensures ∙ ap (λ (k : Known). map capped (names k a.text.now)) known.ensures in
    let long = sym (front_length found.result.len found.result.m (omega (arith, found.result.few))) in
    names_judging a.panel a.text.now c.requires.reading c.requires.reads found.result held c.in-Some.ensures.0
    known.result known.ensures long c.signals_of-v.result c.signals_of-v.ensures.0 c.signals_of-v.ensures.1

pub returns-in-Ok : goal.returns-in-Ok
returns-in-Ok c =
    let room : length c.names_of-names.result.m ≡ cards = search (rules, array_length) in
    let a = c.args in
    let known = c.from-known in
    let found = c.names_of-names in
    let held = found.ensures ∙ ap (λ (k : Known). map capped (names k a.text.now)) known.ensures in
    let right = sym (names_right a.panel a.text.now c.requires.reading c.requires.reads found.result held) in
    let long = sym (front_length found.result.len found.result.m (omega (arith, found.result.few))) in
    let own = names_held a.panel a.text.now c.requires.reading c.requires.reads found.result held c.in-Some.ensures.0 in
    let told = sym c.in-Ok.is ∙ c.judge_lines.ensures ∙ ap (λ (k : Known). lines_said k (system (records a.s.terms.now)) a.text.now) known.ensures in
    ap₂ (λ (i : ℕ) (r : List ℕ). outcome (Done i 0 0) r) (long ∙ ap length own) (c.in-Some.ensures.1 ∙ ap (λ (l : List Mono). set_record (arranged l)) own)
    ∙ judged_lines a.panel (system (records a.s.terms.now)) a.text.now (right ∙ c.in-Some.ensures.0) whole told

pub returns-in-Err : goal.returns-in-Err
returns-in-Err c =
    let a = c.args in
    let known = c.from-known in
    let found = c.names_of-names in
    let held = found.ensures ∙ ap (λ (k : Known). map capped (names k a.text.now)) known.ensures in
    let right = sym (names_right a.panel a.text.now c.requires.reading c.requires.reads found.result held) in
    let told = sym c.in-Err.is ∙ c.judge_lines.ensures ∙ ap (λ (k : Known). lines_said k (system (records a.s.terms.now)) a.text.now) known.ensures in
    c.refused-in-Err.ensures ∙ judged_lines a.panel (system (records a.s.terms.now)) a.text.now (right ∙ c.in-Some.ensures.0) (Err c.in-Err.broken) told
