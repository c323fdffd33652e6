-- `put_names` meets its contract: way by way out of its tests. Assumes nothing.
use Rattle.std.proofs.Common.{sym, append-nil, append_assoc}
use Rattle.grammar.specs.Grammar.{names_text}
use Rattle.typed.proofs.typed.Laws.{names_none, names_alone, names_square, names_both}
use Rattle.typed.proofs.typed.put_names.Goals as goal

pub returns-then-b-ne0-clause-text : goal.returns-then-b-ne0-clause-text
unfolding names_text
returns-then-b-ne0-clause-text c = rw (c.put_signal.ensures.text, names_alone c.args.a c.args.b c.if-a-eq0.true c.if-b-ne0.true)

pub returns-else-b-ne0-clause-text : goal.returns-else-b-ne0-clause-text
unfolding names_text
returns-else-b-ne0-clause-text c = rw (names_none c.args.a c.args.b c.if-a-eq0.true c.if-b-ne0.false) (sym (append-nil c.args.line.now))

pub returns-then-a-b-clause-text : goal.returns-then-a-b-clause-text
unfolding names_text
returns-then-a-b-clause-text c =
    rw (c.put_text.ensures, c.put_signal-2.ensures.text, names_square c.args.a c.args.b c.if-a-eq0.false c.if-a-b.true) (append_assoc c.args.line.now _ _)

pub returns-else-a-b-clause-text : goal.returns-else-a-b-clause-text
unfolding names_text
returns-else-a-b-clause-text c =
    rw (
      c.put_signal-else-a-b.ensures.text,
      c.put_text-else-a-b.ensures,
      c.put_signal-2.ensures.text,
      names_both c.args.a c.args.b c.if-a-eq0.false c.if-a-b.false,
    ) (simp append_assoc)
