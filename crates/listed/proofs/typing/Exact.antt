-- What the contracts of typing say to a caller: the lines are those of the definition; two outcomes are equal; after
-- a refusal there is the reply alone, and after code 0 the listing as well; no line is empty, and there are few. Assumes
-- nothing.
use mathlib.Core.Path.{◌≡◌, sym, ap, ◌∙◌, subst}
use mathlib.Core.Bool.{cond}
use mathlib.Core.List.{List, [], ◌∷◌, ◌++◌}
use Prim.Native.Nat.{ℕ, suc, ◌+◌, ◌≤◌}
use native.Mathlib.Omega.{arith}
use borrow.Author.Tests.{eqb-true, eq-eqb, ne_eqb}
use lib.Dec.{eqb}
use lib.ListN.{length, take}
use Rattle.monomial.specs.Lists.{gather}
use Rattle.monomial.specs.Monomial.{Mono, width}
use Rattle.monomial.proofs.Tests.{Tested, passed, failed, test}
use Rattle.wiring.specs.Panel.{cards, wires_bytes}
use Rattle.wiring.specs.Sets.{places, set_of}
use Rattle.wiring.specs.Reply.{Outcome, numbers, in_order, outcome}
use Rattle.wiring.specs.Answers.{verdict, wired}
use Rattle.wiring.specs.Claims.{list_in}
use Rattle.wiring.specs.declared.panel.Panel.{Panel}
use Rattle.wiring.specs.declared.reply.Reply.{Reply}
use Rattle.wiring.proofs.reply.Laws.{same_reply}
use Rattle.wiring.proofs.sets.Laws.{used_length}
use Rattle.wiring.proofs.answers.Laws.{wired_refused}
use Rattle.lines.specs.Answer.{reply_line}
use Rattle.lines.proofs.Told.{Filled, filled_first, filled_none}
use Rattle.lines.proofs.answer.Laws.{reply_some}
use Rattle.listing.specs.declared.known.Known.{Known}
use Rattle.listing.proofs.lines.Laws.{lefts_length}
use Rattle.grammar.specs.Grammar.{text}
use Rattle.typed.specs.Typed.{tree_of, listing_lines, wires_in}
use Rattle.typed.proofs.typed.Exact.{typed_text, typed_length, lines_filled}
use Rattle.desktop.specs.Read.{known_to}
use Rattle.listed.specs.declared.typing.Typing.{Typing}
use Rattle.listed.specs.Typing.{typing_lines, typed_lines, Ready, Types}
use Rattle.listed.proofs.typing.Laws.{by_done, whole_held, done_long, done_set, done_wires, typed_listing}

abbrev typing : Reply → Known → List ℕ → Typing
typing reply known set = record { reply = reply; known = known; set = set }

-- ---- what was prepared tells the lines of the definition
module _ {panel : Panel} {terms set : List ℕ} {t : Typing} {wires : List ℕ} (a : Types panel terms set t wires) where
  listing_same : (numbers t.reply).code ≡ 0 → typed_listing t wires ≡ listing_lines (known_to panel) (set_of set) (list_in panel terms set)
  listing_same z =
      by_done (λ r. listing_lines t.known (take (numbers r).order (places t.set)) (wires_in (numbers r).count wires)
      ≡ listing_lines (known_to panel) (set_of set) (list_in panel terms set)) t.reply z
      (λ o c k is.
      let done = subst (λ (r : Reply). outcome r wires ≡ wired panel terms set wires_bytes) is a.left in
      let held : t.set ≡ set = a.held ∙ whole_held set (done_long panel terms set wires o c k done) in
      rw (a.known, held, done_set panel terms set wires o c k done, done_wires panel terms set wires o c k done))

  pub typed-lines : typed_lines t wires ≡ typing_lines panel terms set
  unfolding typed_lines typing_lines
  typed-lines =
      let said : (wired panel terms set wires_bytes).said ≡ numbers t.reply = sym (ap (λ (x : Outcome). x.said) a.left) in
      rw said (ap (λ (l : List (List ℕ)). reply_line (in_order (numbers t.reply)) ∷ l) (go (test (eqb (numbers t.reply).code 0))))
    where
      go : Tested (eqb (numbers t.reply).code 0)
          → cond (eqb (numbers t.reply).code 0) (typed_listing t wires) []
          ≡ cond (eqb (numbers t.reply).code 0) (listing_lines (known_to panel) (set_of set) (list_in panel terms set)) []
      go (passed e) = rw e (listing_same (eqb-true (numbers t.reply).code 0 e))
      go (failed e) = rw e

-- ---- the promise leaves nothing open: what is given, and every byte that was lent
same : (t u : Typing) → t.reply ≡ u.reply → t.known ≡ u.known → t.set ≡ u.set → t ≡ u
same t u e f g =
    ap (λ (r : Reply). typing r t.known t.set) e ∙ ap (λ (k : Known). typing u.reply k t.set) f ∙ ap (typing u.reply u.known) g

pub typing_determined : {panel : Panel} {terms set : List ℕ} {t u : Typing} {wires ws : List ℕ} → Types panel terms set t wires → Types panel terms set u ws
    → (t ≡ u) × (wires ≡ ws)
typing_determined {t = t} {u = u} {wires = wires} {ws = ws} a b =
    let both : outcome t.reply wires ≡ outcome u.reply ws = a.left ∙ sym b.left in
    let replies : t.reply ≡ u.reply = same_reply t.reply u.reply (ap (λ (x : Outcome). x.said) both) in
    (same t u replies (a.known ∙ sym b.known) (a.held ∙ sym b.held), ap (λ (x : Outcome). x.bytes) both)

-- ---- the definition: after a refusal the reply alone, and after code 0 the text of the set and its wiring list
module _ (panel : Panel) (terms set : List ℕ) where
  -- what a verdict that refuses says is all that is written
  pub typing_said : (r : Reply) → verdict panel terms set ≡ r → ((numbers r).code ≡ 0 → ⊥) → typing_lines panel terms set ≡ reply_line (in_order (numbers r)) ∷ []
  unfolding typing_lines
  typing_said r e f = let said = wired_refused panel terms set wires_bytes r e f in rw (said, ne_eqb (numbers r).code 0 f)

  pub typing_refused : ((wired panel terms set wires_bytes).said.code ≡ 0 → ⊥)
      → typing_lines panel terms set ≡ reply_line (in_order (wired panel terms set wires_bytes).said) ∷ []
  unfolding typing_lines
  typing_refused f = rw (ne_eqb (wired panel terms set wires_bytes).said.code 0 f)

  pub typing_done : (wired panel terms set wires_bytes).said.code ≡ 0
      → typing_lines panel terms set ≡ reply_line (in_order (wired panel terms set wires_bytes).said) ∷ listing_lines (known_to panel) (set_of set) (list_in panel terms set)
  unfolding typing_lines
  typing_done z = rw (eq-eqb (wired panel terms set wires_bytes).said.code 0 z)

  -- the lines behind the reply, one after the other
  pub typing_text : (wired panel terms set wires_bytes).said.code ≡ 0
      → gather (λ x. x) (typing_lines panel terms set)
      ≡ reply_line (in_order (wired panel terms set wires_bytes).said) ++ text (known_to panel) (tree_of (known_to panel) (set_of set) (list_in panel terms set))
  unfolding gather
  typing_text z =
      ap (gather (λ x. x)) (typing_done z)
      ∙ ap (λ (l : List ℕ). reply_line (in_order (wired panel terms set wires_bytes).said) ++ l) (typed_text (known_to panel) (set_of set) (list_in panel terms set))

-- ---- no line is empty, and there are few
module _ (t : Typing) (wires : List ℕ) where
  pub typed_filled : Filled (typed_lines t wires)
  unfolding typed_lines
  typed_filled =
      let code = (numbers t.reply).code in
      filled_first (reply_line (in_order (numbers t.reply))) (cond (eqb code 0) (typed_listing t wires) []) (reply_some (in_order (numbers t.reply))) (go (test (eqb code 0)))
    where
      go : Tested (eqb (numbers t.reply).code 0) → Filled (cond (eqb (numbers t.reply).code 0) (typed_listing t wires) [])
      go (passed e) = rw e (lines_filled t.known (take (numbers t.reply).order (places t.set)) (wires_in (numbers t.reply).count wires))
      go (failed e) = rw e filled_none

  pub typed_few : Ready t wires → length (typed_lines t wires) ≤ 3 + cards + (width + cards)
  unfolding typed_lines
  typed_few ready = go (test (eqb (numbers t.reply).code 0))
    where
      go : Tested (eqb (numbers t.reply).code 0) → suc (length (cond (eqb (numbers t.reply).code 0) (typed_listing t wires) [])) ≤ 3 + cards + (width + cards)
      go (failed e) = rw e (omega arith)
      go (passed e) =
          let can = ready (eqb-true (numbers t.reply).code 0 e) in
          let s : List Mono = take (numbers t.reply).order (places t.set) in
          let size : length s ≡ (numbers t.reply).order = used_length t.set (numbers t.reply).order can.small in
          rw e (omega (arith, typed_length t.known s (wires_in (numbers t.reply).count wires), lefts_length t.known (length s), can.few, can.small))
