-- `read_listing` meets its contract: the checks run in their order, and then the text is read. Assumes nothing.
use mathlib.Core.Path.{sym, ap, ◌∙◌}
use native.Mathlib.Omega.{arith}
use Rattle.wiring.specs.Sockets.{panel_of}
use Rattle.std.specs.Prelude.{Err}
use Rattle.desktop.specs.Read.{refusal}
use Rattle.desktop.proofs.read.Laws.{said_setting, said_terms_length, said_text_length, said_rest, said_read, reading_of, clean_of}
use Rattle.desktop.proofs.read.read_listing.Goals as goal

pub returns-then-not-panel_right : goal.returns-then-not-panel_right
returns-then-not-panel_right c =
    let a = c.args in
    let panel = panel_of a.n a.marks a.degree in
    c.refused.ensures ∙ said_setting panel a.terms.now a.text.now (sym c.panel_right.ensures ∙ c.if-not-panel_right.true)

pub returns-then-not-length_right : goal.returns-then-not-length_right
returns-then-not-length_right c =
    let a = c.args in
    let panel = panel_of a.n a.marks a.degree in
    let known = sym c.panel_right.ensures ∙ c.if-not-panel_right.false in
    c.refused-then-not-length_right.ensures ∙ said_terms_length panel a.terms.now a.text.now known (sym c.length_right.ensures ∙ c.if-not-length_right.true)

pub returns-then-text-gt-MOST_TEXT : goal.returns-then-text-gt-MOST_TEXT
returns-then-text-gt-MOST_TEXT c =
    let a = c.args in
    let panel = panel_of a.n a.marks a.degree in
    let known = sym c.panel_right.ensures ∙ c.if-not-panel_right.false in
    let measured = sym c.length_right.ensures ∙ c.if-not-length_right.false in
    c.refused-then-text-gt-MOST_TEXT.ensures ∙ said_text_length panel a.terms.now a.text.now known measured (omega arith)

pub read_text-requires : goal.read_text-requires
read_text-requires c =
    let a = c.args in
    let panel = panel_of a.n a.marks a.degree in
    let known = sym c.panel_right.ensures ∙ c.if-not-panel_right.false in
    reading_of panel a.terms.now a.text.now known (omega arith)

pub invariant_of-system-clause-clean : goal.invariant_of-system-clause-clean
invariant_of-system-clause-clean c =
    let a = c.args in
    let panel = panel_of a.n a.marks a.degree in
    let known = sym c.panel_right.ensures ∙ c.if-not-panel_right.false in
    clean_of panel a.terms.now a.text.now known (sym c.fault_of.ensures ∙ c.in_default.is)

pub returns : goal.returns
returns c =
    let a = c.args in
    let panel = panel_of a.n a.marks a.degree in
    let known = sym c.panel_right.ensures ∙ c.if-not-panel_right.false in
    let measured = sym c.length_right.ensures ∙ c.if-not-length_right.false in
    let clean = sym c.in_default.is ∙ c.fault_of.ensures in
    said_read panel a.terms.now a.text.now known measured (omega arith) clean _ c.read_text.ensures

pub returns-in-Err : goal.returns-in-Err
returns-in-Err c =
    let a = c.args in
    let panel = panel_of a.n a.marks a.degree in
    let known = sym c.panel_right.ensures ∙ c.if-not-panel_right.false in
    let measured = sym c.length_right.ensures ∙ c.if-not-length_right.false in
    let rest = said_rest panel a.terms.now a.text.now known measured (omega arith) (Err c.in-Err.fault) (sym c.in-Err.is ∙ c.fault_of.ensures) in
    c.refused-in-Err.ensures ∙ ap refusal c.from.ensures ∙ rest
