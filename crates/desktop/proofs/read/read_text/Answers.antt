-- `read_text` meets its contract: a text that is not readable is refused, and one that is is judged. Assumes nothing.
use mathlib.Core.Path.{sym, ap, ◌∙◌}
use Rattle.reader.specs.Said.{Verdict, said}
use Rattle.reader.proofs.Exact.{whole_exact}
use Rattle.listing.specs.Readable.{listing}
use Rattle.listing.specs.declared.known.Known.{Known}
use Rattle.wiring.specs.Terms.{records, system}
use Rattle.wiring.specs.declared.reply.Reply.TheVariants.{Unreadable}
use Rattle.desktop.specs.Read.{known_to, unless_broken, judged}
use Rattle.desktop.proofs.read.Laws.{fair_known}
use Rattle.desktop.proofs.read.read_text.Goals as goal

pub read-requires : goal.read-requires
read-requires c =
    let q = c.requires in
    rw c.from.ensures (fair_known c.args.panel q.low q.high)

pub judge-requires : goal.judge-requires
judge-requires c =
    let a = c.args in
    let reads = sym (c.read.ensures ∙ ap (λ (k : Known). said (listing k) a.text.now) c.from.ensures) ∙ c.in-Ok.is in
    record { reading = c.requires; reads = (whole_exact (listing (known_to a.panel)) a.text.now).0 reads }

pub returns-in-Ok : goal.returns-in-Ok
returns-in-Ok c =
    let a = c.args in
    let reads = sym (c.read.ensures ∙ ap (λ (k : Known). said (listing k) a.text.now) c.from.ensures) ∙ c.in-Ok.is in
    c.judge.ensures ∙ ap (λ (v : Verdict). unless_broken Unreadable v (judged a.panel (system (records a.s.terms.now)) a.text.now)) (sym reads)

pub returns-in-Err : goal.returns-in-Err
returns-in-Err c =
    let a = c.args in
    let reads = sym (c.read.ensures ∙ ap (λ (k : Known). said (listing k) a.text.now) c.from.ensures) ∙ c.in-Err.is in
    c.refused.ensures ∙ ap (λ (v : Verdict). unless_broken Unreadable v (judged a.panel (system (records a.s.terms.now)) a.text.now)) (sym reads)
