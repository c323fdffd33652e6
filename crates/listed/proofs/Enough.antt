-- What is read of an input is enough: more bytes than can be right are refused as all of them are. Assumes nothing.
use mathlib.Core.Path.{◌≡◌, sym, ◌∙◌}
use mathlib.Core.Logic.{◌⊎◌, inl, inr}
use mathlib.Core.Bool.{false, cond, ◌&&◌}
use mathlib.Core.List.{List, [], ◌∷◌}
use Prim.Native.Nat.{ℕ, ◌≤◌, ◌<◌, min}
use native.Mathlib.Omega.{arith}
use borrow.Author.Tests.{leb-true, leb-false}
use lib.Dec.{T, leb, leb→le}
use lib.ListN.{length, take, drop, length-take, length-drop}
use lib.Seq.{take_all}
use Rattle.monomial.proofs.Tests.{Tested, passed, failed, test, is→T, is→n_t, n_t→is, and_l, and_r}
use Rattle.wiring.specs.Panel.{set_bytes, terms_bytes}
use Rattle.wiring.specs.Sockets.{panel_right}
use Rattle.wiring.specs.Terms.{length_right}
use Rattle.wiring.specs.Reply.{numbers, in_order}
use Rattle.wiring.specs.Claims.{Ranged}
use Rattle.wiring.specs.declared.panel.Panel.{Panel}
use Rattle.wiring.specs.declared.reply.Reply.{Reply}
use Rattle.wiring.specs.declared.reply.Reply.TheVariants.{Setting, Length}
use Rattle.wiring.proofs.answers.Exact.{panel-in, panel_out, verdict_exact}
use Rattle.lines.specs.Answer.{reply_line}
use Rattle.desktop.specs.Lines.{most_text}
use Rattle.desktop.specs.Read.{read_listing, refusal}
use Rattle.lines.specs.Input.{set_in, terms_in}
use Rattle.listed.specs.Typing.{most_typed, typing_lines}
use Rattle.listed.specs.Reading.{most_read, heard_lines, reading_lines}
use Rattle.listed.proofs.typing.Exact.{typing_said}

-- ---- typing: too many terms are refused, whatever they and the set are
module _ (panel : Panel) where
  abbrev too_many : Reply
  too_many = cond (panel_right panel) Length Setting

  many_typed : (terms set : List ℕ) → terms_bytes < length terms → typing_lines panel terms set ≡ reply_line (in_order (numbers too_many)) ∷ []
  many_typed terms set h = go (test (panel_right panel))
    where
      go : Tested (panel_right panel) → typing_lines panel terms set ≡ reply_line (in_order (numbers too_many)) ∷ []
      go (passed e) =
          let ranged = panel_out panel (is→T (panel_right panel) e) in
          rw e (typing_said panel terms set Length ((verdict_exact panel terms set Length).1 (ranged, inl (λ m. omega (arith, m.limited)))) (λ z. omega arith))
      go (failed e) =
          let not : Ranged panel → ⊥ = λ r. is→n_t (panel_right panel) e (is→T (panel_right panel) (panel-in panel r)) in
          rw e (typing_said panel terms set Setting ((verdict_exact panel terms set Setting).1 not) (λ z. omega arith))

  pub typing_enough : (input : List ℕ) → let some = take most_typed input in typing_lines panel (terms_in some) (set_in some) ≡ typing_lines panel (terms_in input) (set_in input)
  typing_enough input = go (test (leb (length input) most_typed))
    where
      go : Tested (leb (length input) most_typed)
          → let some = take most_typed input in typing_lines panel (terms_in some) (set_in some) ≡ typing_lines panel (terms_in input) (set_in input)
      go (passed t) = rw (take_all most_typed input (leb-true (length input) most_typed t))
      go (failed t) =
          let some : List ℕ = take most_typed input in
          let over : most_typed < length input = leb-false (length input) most_typed t in
          let part : length some ≡ min most_typed (length input) = length-take most_typed input in
          let terms : length (terms_in some) ≡ _ = length-drop set_bytes some in
          let all : length (terms_in input) ≡ _ = length-drop set_bytes input in
          many_typed (terms_in some) (set_in some) (omega arith) ∙ sym (many_typed (terms_in input) (set_in input) (omega arith))

-- ---- reading: so are too many terms and a text that is too long
module _ (panel : Panel) where
  long_refused : (terms text : List ℕ) → (terms_bytes < length terms) ⊎ (most_text < length text) → length_right terms && leb (length text) most_text ≡ false
  unfolding length_right
  long_refused terms text h = n_t→is _ (go h)
    where
      go : (terms_bytes < length terms) ⊎ (most_text < length text) → T (length_right terms && leb (length text) most_text) → ⊥
      go (inl a) t = omega (arith, leb→le (length terms) terms_bytes (search (and_l, and_r, t)))
      go (inr b) t = omega (arith, leb→le (length text) most_text (search (and_l, and_r, t)))

  long_read : (terms text : List ℕ) → (terms_bytes < length terms) ⊎ (most_text < length text)
      → reading_lines panel terms text ≡ heard_lines (cond (panel_right panel) (refusal Length) (refusal Setting))
  unfolding reading_lines read_listing
  long_read terms text h = rw (long_refused terms text h)

  pub reading_enough : (bytes : ℕ) (input : List ℕ)
      → let some = take most_read input in reading_lines panel (take bytes some) (drop bytes some) ≡ reading_lines panel (take bytes input) (drop bytes input)
  reading_enough bytes input = go (test (leb (length input) most_read))
    where
      long : (l : List ℕ) → most_read ≤ length l → (terms_bytes < length (take bytes l)) ⊎ (most_text < length (drop bytes l))
      long l h = cut (test (leb bytes terms_bytes))
        where
          cut : Tested (leb bytes terms_bytes) → (terms_bytes < length (take bytes l)) ⊎ (most_text < length (drop bytes l))
          cut (passed t) = inr (omega (arith, leb-true bytes terms_bytes t, length-drop bytes l))
          cut (failed t) = inl (omega (arith, leb-false bytes terms_bytes t, length-take bytes l))

      go : Tested (leb (length input) most_read)
          → let some = take most_read input in reading_lines panel (take bytes some) (drop bytes some) ≡ reading_lines panel (take bytes input) (drop bytes input)
      go (passed t) = rw (take_all most_read input (leb-true (length input) most_read t))
      go (failed t) =
          let some : List ℕ = take most_read input in
          let over : most_read < length input = leb-false (length input) most_read t in
          let part : length some ≡ min most_read (length input) = length-take most_read input in
          long_read (take bytes some) (drop bytes some) (long some (omega arith)) ∙ sym (long_read (take bytes input) (drop bytes input) (long input (omega arith)))
