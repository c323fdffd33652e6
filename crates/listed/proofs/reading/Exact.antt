-- What the contracts of reading say to a caller: two outcomes are equal; after a refusal there is the reply alone, and
-- after code 0 the set as well; no line is empty, and there are at most two. Assumes nothing.
use mathlib.Core.Path.{◌≡◌, sym, ap, ◌∙◌}
use mathlib.Core.Bool.{cond}
use mathlib.Core.List.{List, [], ◌∷◌}
use Prim.Native.Nat.{ℕ, ◌≤◌}
use native.Mathlib.Omega.{arith}
use borrow.Author.Tests.{eq-eqb, ne_eqb}
use lib.Dec.{eqb}
use lib.ListN.{length}
use Rattle.monomial.proofs.Tests.{cond_cases}
use Rattle.wiring.specs.Reply.{Outcome, in_order, outcome}
use Rattle.wiring.specs.declared.panel.Panel.{Panel}
use Rattle.wiring.specs.declared.reply.Reply.{Reply}
use Rattle.wiring.proofs.reply.Laws.{same_reply}
use Rattle.lines.specs.Answer.{reply_line, set_line}
use Rattle.lines.proofs.Told.{Filled, filled_first, filled_none}
use Rattle.lines.proofs.answer.Laws.{reply_some, set_some}
use Rattle.desktop.specs.Read.{read_listing}
use Rattle.desktop.specs.declared.read.Heard.{Heard}
use Rattle.listed.specs.Reading.{heard_lines, reading_lines}

abbrev heard : Reply → List ℕ → Heard
heard reply set = record { reply = reply; set = set }

module _ (o : Outcome) where
  pub heard_filled : Filled (heard_lines o)
  unfolding heard_lines
  heard_filled =
      let set = set_line o.bytes o.said.order in
      filled_first (reply_line (in_order o.said)) (cond (eqb o.said.code 0) (set ∷ []) []) (reply_some (in_order o.said))
      (cond_cases Filled (eqb o.said.code 0) (set ∷ []) [] (λ _. filled_first set [] (set_some o.bytes o.said.order) filled_none) (λ _. filled_none))

  pub heard_few : length (heard_lines o) ≤ 2
  unfolding heard_lines
  heard_few =
      let rest : length (cond (eqb o.said.code 0) (set_line o.bytes o.said.order ∷ []) []) ≤ 1 =
      cond_cases (λ l. length l ≤ 1) (eqb o.said.code 0) (set_line o.bytes o.said.order ∷ []) [] (λ _. omega arith) (λ _. omega arith) in
      omega arith

module _ (panel : Panel) (terms text : List ℕ) where
  -- the promise leaves nothing open
  pub reading_determined : (h g : Heard) → outcome h.reply h.set ≡ read_listing panel terms text → outcome g.reply g.set ≡ read_listing panel terms text → h ≡ g
  reading_determined h g e f =
      let both : outcome h.reply h.set ≡ outcome g.reply g.set = e ∙ sym f in
      ap (λ (r : Reply). heard r h.set) (same_reply h.reply g.reply (ap (λ (x : Outcome). x.said) both))
      ∙ ap (heard g.reply) (ap (λ (x : Outcome). x.bytes) both)

  pub reading_refused : ((read_listing panel terms text).said.code ≡ 0 → ⊥)
      → reading_lines panel terms text ≡ reply_line (in_order (read_listing panel terms text).said) ∷ []
  unfolding reading_lines heard_lines
  reading_refused f = rw (ne_eqb (read_listing panel terms text).said.code 0 f)

  pub reading_done : (read_listing panel terms text).said.code ≡ 0
      → let o = read_listing panel terms text in reading_lines panel terms text ≡ reply_line (in_order o.said) ∷ set_line o.bytes o.said.order ∷ []
  unfolding reading_lines heard_lines
  reading_done z = rw (eq-eqb (read_listing panel terms text).said.code 0 z)
