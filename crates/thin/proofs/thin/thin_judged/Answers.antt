-- `thin_judged` meets its contract: a set that is not quadratic is refused over zeros, and another is thinned. Assumes nothing.
use mathlib.Core.Path.{◌≡◌, sym, ap, ◌∙◌}
use Prim.Native.Nat.{ℕ, ◌/◌}
use borrow.Author.Rules.{rules}
use Rattle.wiring.specs.declared.reply.Reply.TheVariants.{NotQuadratic}
use native.Mathlib.Omega.{arith}
use lib.ListN.{length}
use Rattle.wiring.specs.Panel.{set_bytes}
use Rattle.wiring.specs.Reply.{numbers, outcome}
use Rattle.wiring.specs.Sets.{monomials_of}
use Rattle.wiring.specs.Terms.{records, system}
use Rattle.wiring.specs.declared.reply.Reply.{Reply}
use Rattle.wiring.proofs.reply.Laws.{other_kinds}
use Rattle.wiring.proofs.answers.Laws.{says_missing, says_none}
use Rattle.thin.specs.Thin.{thinning, thinned_by}
use Rattle.thin.proofs.thin.Laws.{by_refused, by_done}
use Rattle.thin.proofs.thin.thin_judged.Goals as goal

pub returns-in-NotQuadratic : goal.returns-in-NotQuadratic
returns-in-NotQuadratic c =
    let a = c.args in
    let fs = system (records a.terms.now) in
    let size = length a.out.now in
    let ends = thinning a.n fs (monomials_of a.set) (size / set_bytes) in
    let said = c.verdict_of-said in
    let not = c.in-NotQuadratic.is in
    let judges = says_missing a.n fs (monomials_of a.set) 0 said.result said.ensures _ _ not in
    let code = ap (λ (r : Reply). (numbers r).code) not in
    ap (outcome said.result) c.requires.1 ∙ sym (by_refused said.result ends size (λ z. omega arith)) ∙ ap (λ (r : Reply). thinned_by r ends size) judges.1

pub returns : goal.returns
returns c =
    let a = c.args in
    let fs = system (records a.terms.now) in
    let size = length a.out.now in
    let ends = thinning a.n fs (monomials_of a.set) (size / set_bytes) in
    let said = c.verdict_of-said in
    let h = c.in_default in
    let other : (o p : ℕ) → said.result ≡ NotQuadratic o p → ⊥ = search (rules, other_kinds) in
    let judges = says_none a.n fs (monomials_of a.set) 0 said.result said.ensures other in
    c.thin_set.ensures ∙ sym (by_done (length (monomials_of a.set)) 0 0 ends size) ∙ ap (λ (r : Reply). thinned_by r ends size) judges.1
