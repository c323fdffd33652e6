-- What each call leaves is the only thing that its promise allows, and it says as much as the library's reply. Assumes nothing.
use mathlib.Core.Path.{◌≡◌, refl, sym, ap, ◌∙◌}
use mathlib.Core.Logic.{◌↔◌}
use mathlib.Core.List.{List}
use Prim.Native.Nat.{ℕ}
use lib.ListN.{get_or}
use Rattle.wiring.specs.Reply.{Numbers, numbers, five, in_order, Outcome, outcome}
use Rattle.wiring.specs.Answers.{wired}
use Rattle.wiring.specs.declared.panel.Panel.{Panel}
use Rattle.wiring.specs.declared.reply.Reply.{Reply}
use Rattle.walk.specs.Plan.{planned}
use Rattle.thin.specs.Thin.{thinned}
use Rattle.desktop.specs.Read.{read_listing}
use Rattle.planner_c.specs.Calls.{Answer, answer, given}

-- two answers that a promise allows are equal
determined : (o : Outcome) (a a' b b' : List ℕ) → answer a b ≡ given o → answer a' b' ≡ given o → (a ≡ a') × (b ≡ b')
determined o a a' b b' e e' =
    let both : answer a b ≡ answer a' b' = e ∙ sym e' in
    (ap (λ (x : Answer). x.five) both, ap (λ (x : Answer). x.bytes) both)

pub siragumon_plan_determined : (panel : Panel) (cap limit : ℕ) (terms : List ℕ) (size : ℕ) (a a' b b' : List ℕ)
    → answer a b ≡ given (planned panel cap limit terms size) → answer a' b' ≡ given (planned panel cap limit terms size) → (a ≡ a') × (b ≡ b')
siragumon_plan_determined panel cap limit terms size = determined (planned panel cap limit terms size)

pub siragumon_wire_determined : (panel : Panel) (terms set : List ℕ) (size : ℕ) (a a' b b' : List ℕ)
    → answer a b ≡ given (wired panel terms set size) → answer a' b' ≡ given (wired panel terms set size) → (a ≡ a') × (b ≡ b')
siragumon_wire_determined panel terms set size = determined (wired panel terms set size)

pub siragumon_thin_determined : (panel : Panel) (terms set : List ℕ) (size : ℕ) (a a' b b' : List ℕ)
    → answer a b ≡ given (thinned panel terms set size) → answer a' b' ≡ given (thinned panel terms set size) → (a ≡ a') × (b ≡ b')
siragumon_thin_determined panel terms set size = determined (thinned panel terms set size)

pub siragumon_read_determined : (panel : Panel) (terms text : List ℕ) (a a' b b' : List ℕ)
    → answer a b ≡ given (read_listing panel terms text) → answer a' b' ≡ given (read_listing panel terms text) → (a ≡ a') × (b ≡ b')
siragumon_read_determined panel terms text = determined (read_listing panel terms text)

-- the numbers that stand in this order
back : List ℕ → Numbers
back l = five (get_or l 0 0) (get_or l 1 0) (get_or l 2 0) (get_or l 3 0) (get_or l 4 0)

there_and_back : (x : Numbers) → back (in_order x) ≡ x
unfolding back
there_and_back x = refl

pub in_order_one : (x y : Numbers) → in_order x ≡ in_order y → x ≡ y
in_order_one x y e = sym (there_and_back x) ∙ ap back e ∙ there_and_back y

regain : Answer → Outcome
regain x = record { said = back x.five; bytes = x.bytes }

regained : (o : Outcome) → regain (given o) ≡ o
unfolding regain
regained o = ap (λ (x : Numbers). record { said = x; bytes = o.bytes }) (there_and_back o.said)

-- what C gets says a reply exactly where the library's promise allows that reply
pub given_exact : (r : Reply) (bytes : List ℕ) (o : Outcome) → (answer (in_order (numbers r)) bytes ≡ given o) ↔ (outcome r bytes ≡ o)
given_exact r bytes o = (
  (λ (e : answer (in_order (numbers r)) bytes ≡ given o). sym (regained (outcome r bytes)) ∙ ap regain e ∙ regained o),
  λ (e : outcome r bytes ≡ o). ap given e,
)
