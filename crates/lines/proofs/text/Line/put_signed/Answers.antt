-- `put_signed` meets its contract: the size of the number, behind its sign. Assumes nothing.
use Rattle.std.proofs.Common.{◌≡◌, [], ◌∷◌, ◌++◌, unsigned_abs, ap, ◌∙◌, append_assoc, w32}
use mir.ValLaws.{to_z-of_z}
use borrow.Author.Rules.{sfits_of}
use Rattle.lines.specs.Text.{minus, decimal}
use Rattle.lines.proofs.text.Laws.{text_plain, text_signed}
use Rattle.lines.proofs.text.Line.put_signed.Goals as goal
use Rattle.lines.proofs.text.Line.put_signed.Goals.{then-c-lt0, else-c-lt0}

pub returns-clause-text : goal.returns-clause-text
returns-clause-text g c =
    let z = c.args.c in
    let line = c.args.self.now in
    let own = to_z-of_z w32 z (sfits_of c.ranges.c.sfits) in
    let size : c.from.result ≡ unsigned_abs z = c.from.ensures ∙ c.unsigned_abs.ensures.value ∙ ap unsigned_abs own in
    let told = rw size at c.put_number.ensures.text in
    elim c.if-c-lt0.branch [
      | then-c-lt0 w ↦
          let text = text_signed z (rw own at w.if-c-lt0.true) in
          told ∙ rw (w.self-is, w.put_text.ensures) (append_assoc line (minus ∷ []) (decimal (unsigned_abs z)) ∙ ap (λ x. line ++ x) text)
      | else-c-lt0 w ↦
          let text = text_plain z (rw own at w.if-c-lt0.false) in
          told ∙ rw w.self-is (ap (λ x. line ++ x) text)
    ]
