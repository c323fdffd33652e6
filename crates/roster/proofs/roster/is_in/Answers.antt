-- `is_in` meets its contract: a monomial of the set is looked for that is m. Assumes nothing.
use Rattle.std.proofs.Common.{◌≡◌, List, [], ◌∷◌, ◌∙◌, ap, refl, sym, take, map}
use Rattle.std.specs.Cmp.Lexicographic.{pointwise}
use Rattle.std.specs.List.{list_any, take-map}
use lib.Dec.{eqb}
use Rattle.monomial.specs.Lists.{any}
use Rattle.monomial.specs.Order.{same}
use Rattle.monomial.specs.Monomial.{Mono}
use Rattle.monomial.specs.declared.Monomial.{Monomial}
use Rattle.monomial.proofs.Tests.{same_test}
use Rattle.monomial.proofs.order.Derived.{same_from_eq}
use Rattle.monomial.proofs.order.Laws.{mono_order, same_flip}
use Rattle.roster.proofs.roster.is_in.Goals as goal

-- whether x is m
is : (x m : Mono) → pointwise eqb x m ≡ same m x
is x m = same_from_eq x m (pointwise eqb x m) refl ∙ same_test (same x m) (same m x) (same_flip mono_order x m) (same_flip mono_order m x)

-- one word for another
any_list : (m : Mono) (l : List Monomial) → list_any (λ (x : Monomial). pointwise eqb x.e m) l ≡ any (same m) (map (λ (x : Monomial). x.e) l)
unfolding any
any_list m [] = refl
any_list m (x ∷ l) = rw (is x.e m, any_list m l) refl

pub returns : goal.returns
returns c =
    let s = c.args.set in
    c.contains.ensures.value ∙ any_list c.args.m.e (take s.len s.m) ∙ ap (any (same c.args.m.e)) (sym (take-map (λ (x : Monomial). x.e) s.len s.m))
