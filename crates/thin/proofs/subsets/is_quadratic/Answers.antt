-- `is_quadratic` meets its contract: the verdict is that it is not exactly where there is a nonsquare. Assumes nothing.
use mathlib.Core.Path.{sym, ap, ◌∙◌}
use mathlib.Core.Bool.{not}
use mathlib.Core.Path.{◌≡◌}
use Prim.Native.Nat.{ℕ}
use borrow.Author.Rules.{rules}
use Rattle.wiring.specs.declared.reply.Reply.TheVariants.{NotQuadratic}
use Rattle.wiring.specs.Sets.{monomials_of}
use Rattle.wiring.specs.Terms.{records, system}
use Rattle.wiring.proofs.answers.Laws.{says_missing, says_none}
use Rattle.wiring.proofs.reply.Laws.{other_kinds}
use Rattle.thin.proofs.subsets.is_quadratic.Goals as goal
use Rattle.thin.proofs.subsets.is_quadratic.Goals.{in-NotQuadratic, in_default}

pub returns : goal.returns
returns c =
    let a = c.args in
    let said = c.verdict_of in
    ap not (elim c.match-matches.branch [
      | in-NotQuadratic w ↦ w.matches-is ∙ sym (says_missing a.n (system (records a.terms.now)) (monomials_of a.set) 0 said.result said.ensures _ _ w.in-NotQuadratic.is).0
      | in_default w ↦
          let h = w.in_default in
          let other : (o p : ℕ) → said.result ≡ NotQuadratic o p → ⊥ = search (rules, other_kinds) in
          w.matches-is ∙ sym (says_none a.n (system (records a.terms.now)) (monomials_of a.set) 0 said.result said.ensures other).0
    ])
