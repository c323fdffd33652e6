-- `put_monomial` meets its contract: six bytes read and widened are the entries of the monomial. Assumes nothing.
use Rattle.std.proofs.Common.{◌≡◌, length, arith, rules}
use Rattle.std.proofs.lemmas.List.{same_lists}
use Rattle.lines.specs.Answer.{exponents}
use Rattle.monomial.specs.Monomial.{width}
use Rattle.lines.proofs.answer.put_monomial.Goals as goal

pub returns-clause-text : goal.returns-clause-text
unfolding exponents
returns-clause-text c =
    let read = c.read-m in
    let long : length read.result.e ≡ width = search rules in
    let wide : c.map.result ≡ read.result.e = same_lists _ _ (search rules) (λ i d h. let one = c.map.ensures.items.at i d d (omega arith) in search rules) in
    rw (wide, read.ensures) at c.put_joined.ensures.text
