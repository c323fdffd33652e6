-- `Monomial::constant` meets its contract: the table holds the named constants in their order. Assumes nothing.
use Rattle.std.proofs.Common.{◌≡◌, ◌∙◌, refl, sym, ap, ℕ, List, arith, get_or, map}
use Rattle.std.proofs.Math.ListN.{get_or-map}
use Rattle.std.specs.Option.{unwrap_or}
use Rattle.monomial.specs.Monomial.{vars, one, constants, width}
use Rattle.monomial.specs.declared.Monomial.{Monomial}
use Rattle.monomial.specs.declared.TheConstants.Monomial.{NAMED}
use Rattle.monomial.proofs.Monomial.constant.Goals as goal

none : Monomial
none = record { e = one width }

by_table : (table : List Monomial) (i : ℕ) (m : Monomial) → m ≡ get_or table i none → map (λ x. x.e) table ≡ constants width
    → m.e ≡ get_or (constants width) i (one width)
unfolding none
by_table table i m h k = ap (λ x. x.e) h ∙ sym (get_or-map (λ (x : Monomial). x.e) table i none) ∙ ap (λ l. get_or l i (one width)) k

pub returns : goal.returns
unfolding none vars
returns c =
    by_table NAMED c.args.i _ (c.unwrap_or.ensures ∙ ap (λ r. unwrap_or r none) c.copied.ensures ∙ c.get.ensures.lookup.4 (omega arith) none) refl
