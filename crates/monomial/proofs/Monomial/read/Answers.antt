-- `Monomial::read` meets its contract: each exponent is the byte at its place behind the first. Assumes nothing.
use Rattle.std.proofs.Common.{rules, tests, ◌∙◌, ◌+◌, arith, get_or, drop}
use lib.ListN.{length-drop}
use lib.Seq.{length-take-le, get_or-take, get_or-drop}
use Rattle.monomial.specs.Monomial.{width}
use Rattle.monomial.proofs.FromFn.{list_from_fn}
use Rattle.monomial.proofs.Monomial.read.Goals as goal

pub returns : goal.returns
returns c =
    let s = c.args.s.now in
    let at = c.args.at in
    list_from_fn _ _ c.from_fn.result (λ i. get_or s (at + i) 0) width _ c.from_fn.ensures.items (λ i y q l k. search (rules, tests))
    (length-take-le width (drop at s) (simp length-drop (omega arith)))
    (λ i l. get_or-take width (drop at s) i 0 l ∙ get_or-drop at s i 0)
