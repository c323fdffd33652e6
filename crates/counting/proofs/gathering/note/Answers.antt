-- `note` meets its contract: m is listed already, or one too many, or written behind the last one. Assumes nothing.
use mathlib.Core.Path.{◌≡◌, sym, ◌∙◌}
use native.Mathlib.Omega.{arith}
use lib.ListN.{length}
use Rattle.monomial.specs.Monomial.{width}
use Rattle.counting.proofs.gathering.Laws.{note_old, note_full, note_new}
use borrow.Author.Rules.{rules}
use Rattle.counting.proofs.gathering.note.Goals as goal

pub returns-then-is_among : goal.returns-then-is_among
returns-then-is_among c =
    note_old c.requires c.args.m.e (sym c.is_among.ensures ∙ c.if-is_among.true)

pub returns-then-most-len : goal.returns-then-most-len
returns-then-most-len c =
    note_full c.requires c.args.m.e (sym c.is_among.ensures ∙ c.if-is_among.false) c.if-most-len.true

pub returns : goal.returns
returns c =
    let wide : length c.args.m.e ≡ width = search rules in
    let fresh = sym c.is_among.ensures ∙ c.if-is_among.false in
    note_new c.requires c.args.m.e fresh (omega (arith, c.if-most-len.false)) wide _ c.write.ensures
