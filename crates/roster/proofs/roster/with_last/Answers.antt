-- `with_last` meets its contract: the new monomial stands behind the first ones. Assumes nothing.
use mathlib.Core.Path.{◌≡◌, refl, sym, ap, ◌∙◌}
use mathlib.Core.List.{List, [], ◌∷◌, ◌++◌, map, append-nil}
use Prim.Native.Nat.{◌+◌, ◌<◌}
use native.Mathlib.Omega.{arith}
use lib.ListN.{length, set, take, length-map}
use Rattle.monomial.specs.Monomial.{Mono}
use Rattle.monomial.specs.declared.Monomial.{Monomial}
use Rattle.monomial.proofs.Loops.{set_front}
use Rattle.wiring.specs.Panel.{cards}
use Rattle.wiring.proofs.signals.Arrays.{array_length, front_set}
use borrow.Author.Rules.{rules}
use Rattle.roster.proofs.roster.with_last.Goals as goal

pub returns : goal.returns
returns c =
    let a = c.args in
    let k = a.set.len in
    let six : length a.set.m ≡ cards = search (rules, array_length) in
    let all = map (λ (x : Monomial). x.e) a.set.m in
    let fits : k < length all = omega (arith, length-map a.set.m (λ (x : Monomial). x.e), c.requires) in
    let whole : take (k + 1) all ≡ take (k + 1) all ++ [] = sym (append-nil (take (k + 1) all)) in
    let placed : set (take (k + 1) all) k a.m.e ≡ take k all ++ (a.m.e ∷ []) =
    ap (λ (l : List Mono). set l k a.m.e) whole ∙ set_front [] all [] k a.m.e fits in
    (front_set (k + 1) a.set.m k a.m (omega arith) ∙ placed, refl)
