-- A panel with a word that is no number is refused by code 1, and nothing else is written. Assumes nothing.
use mathlib.Core.Path.{◌≡◌, refl}
use mathlib.Core.Logic.{⊎_elim}
use mathlib.Core.Bool.{true, false}
use mathlib.Core.List.{List, [], ◌∷◌}
use Prim.Native.Nat.{ℕ}
use native.Mathlib.Omega.{arith}
use Rattle.monomial.proofs.Tests.{n_t→is, is_not}
use Rattle.wiring.specs.Sockets.{halved, marked, panel_right}
use Rattle.wiring.specs.Reply.{numbers, in_order}
use Rattle.wiring.specs.Claims.{Ranged}
use Rattle.wiring.specs.declared.panel.Panel.{Panel}
use Rattle.wiring.specs.declared.reply.Reply.TheVariants.{Setting}
use Rattle.wiring.proofs.answers.Exact.{panel_out, verdict_exact}
use Rattle.lines.specs.Answer.{reply_line}
use Rattle.std.specs.Prelude.{None}
use Rattle.desktop.specs.Read.{read_listing}
use Rattle.listed.specs.Words.{setting_of, WrongWord}
use Rattle.listed.specs.Typing.{typing_lines}
use Rattle.listed.specs.Reading.{heard_lines, reading_lines}
use Rattle.listed.proofs.typing.Exact.{typing_said}

word_marked : marked (setting_of None) 6 ≡ true
unfolding marked halved
word_marked = refl

-- no right panel has such a word
pub word_out : (panel : Panel) → WrongWord panel → Ranged panel → ⊥
word_out panel w r = ⊎_elim {C = ⊥} count (⊎_elim {C = ⊥} marks degree) w
  where
    count : panel.n ≡ setting_of None → ⊥
    count e = omega (arith, r.high)

    marks : panel.marks ≡ setting_of None → ⊥
    marks e = is_not (marked (setting_of None) 6) word_marked (rw e at (r.known 6 (omega (arith, r.high))))

    degree : panel.degree ≡ setting_of None → ⊥
    degree e = ⊎_elim {C = ⊥} (λ a. omega arith) (λ b. omega (arith, b.1)) r.kit

module _ (panel : Panel) (w : WrongWord panel) where
  pub word_typing : (terms set : List ℕ) → typing_lines panel terms set ≡ reply_line (in_order (numbers Setting)) ∷ []
  word_typing terms set = typing_said panel terms set Setting ((verdict_exact panel terms set Setting).1 (word_out panel w)) (λ e. omega arith)

  pub word_reading : (terms text : List ℕ) → reading_lines panel terms text ≡ reply_line (in_order (numbers Setting)) ∷ []
  unfolding reading_lines read_listing heard_lines
  word_reading terms text =
      let wrong : panel_right panel ≡ false = n_t→is (panel_right panel) (λ t. word_out panel w (panel_out panel t)) in
      rw wrong
