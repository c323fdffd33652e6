-- A case by its operation, and that the promise leaves nothing open. Assumes nothing.
use mathlib.Core.Path.{◌≡◌, refl, sym, subst, ◌∙◌}
use mathlib.Core.List.{List}
use Prim.Native.Nat.{ℕ}
use lib.ListN.{replicate}
use Rattle.wiring.specs.Sockets.{panel_of}
use Rattle.wiring.specs.Reply.{Outcome, numbers, in_order, outcome}
use Rattle.wiring.specs.Answers.{wired}
use Rattle.wiring.specs.declared.reply.Reply.{Reply}
use Rattle.walk.specs.Plan.{planned}
use Rattle.thin.specs.Thin.{thinned}
use Rattle.desktop.specs.Read.{read_listing}
use Rattle.lines.specs.Case.{case_line}
use Rattle.lines.proofs.text.Laws.{stands_one}
use Rattle.compare.specs.declared.head.Head.{Head}
use Rattle.compare.specs.declared.head.Operation.TheVariants.{Plan, Wire, Thin, Read}
use Rattle.compare.specs.Answer.{Case, filler, outcome_case, read_case, asked_case, case_of, Answers}

-- a reply and a buffer, told as they are
told : (r : Reply) (o : Outcome) (five bytes : List ℕ) {m : List ℕ} → outcome r bytes ≡ o
    → five ≡ in_order (numbers r) → m ≡ case_line five bytes → Answers (outcome_case o) m bytes
told r o five bytes {m} e f s = subst (λ (x : Outcome). Answers (outcome_case x) m bytes) e (record { text = rw f at s; bytes = refl })

module _ (h : Head) (terms given : List ℕ) (size now : ℕ) (same : now ≡ size) {m : List ℕ} where
  pub plan_told : h.operation ≡ Plan → (r : Reply) (five bytes : List ℕ)
      → outcome r bytes ≡ planned (panel_of h.n h.marks h.degree) h.cap h.limit terms now → five ≡ in_order (numbers r)
      → m ≡ case_line five bytes → Answers (case_of h terms given size) m bytes
  unfolding asked_case
  plan_told p r five bytes e f s = rw p (told r _ five bytes (rw same at e) f s)

  pub wire_told : h.operation ≡ Wire → (r : Reply) (five bytes : List ℕ)
      → outcome r bytes ≡ wired (panel_of h.n h.marks h.degree) terms given now → five ≡ in_order (numbers r)
      → m ≡ case_line five bytes → Answers (case_of h terms given size) m bytes
  unfolding asked_case
  wire_told p r five bytes e f s = rw p (told r _ five bytes (rw same at e) f s)

  pub thin_told : h.operation ≡ Thin → (r : Reply) (five bytes : List ℕ)
      → outcome r bytes ≡ thinned (panel_of h.n h.marks h.degree) terms given now → five ≡ in_order (numbers r)
      → m ≡ case_line five bytes → Answers (case_of h terms given size) m bytes
  unfolding asked_case
  thin_told p r five bytes e f s = rw p (told r _ five bytes (rw same at e) f s)

  -- reading leaves the buffer as it was filled, and the set in the line
  pub read_told : h.operation ≡ Read → (r : Reply) (five set bytes : List ℕ)
      → outcome r set ≡ read_listing (panel_of h.n h.marks h.degree) terms given → five ≡ in_order (numbers r) → bytes ≡ replicate size filler
      → m ≡ case_line five set → Answers (case_of h terms given size) m bytes
  unfolding asked_case
  read_told p r five set bytes e f b s =
      rw p (subst (λ (x : Outcome). Answers (read_case x size) m bytes) e (record { text = rw f at s; bytes = b }))

-- two answers that the promise allows are equal
pub answer_determined : (c : Case) {m n b d : List ℕ} → Answers c m b → Answers c n d → (m ≡ n) × (b ≡ d)
answer_determined c x y = (stands_one x.text y.text, x.bytes ∙ sym y.bytes)
