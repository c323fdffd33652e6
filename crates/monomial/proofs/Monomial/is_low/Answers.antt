-- `Monomial::is_low` meets its contract: the degree is asked, then the variables. Assumes nothing.
use native.Mathlib.Omega.{arith}
use borrow.Author.Tests.{le-ltb, lt-ltb}
use Rattle.monomial.specs.Degree.{degree}
use Rattle.monomial.proofs.Monomial.is_low.Goals as goal

pub returns-then-bound-degree : goal.returns-then-bound-degree
returns-then-bound-degree c =
    let a = c.args in
    rw (le-ltb (degree a.self.e) a.bound (omega (arith, c.degree.ensures)))

pub returns : goal.returns
returns c =
    let a = c.args in
    rw (lt-ltb (degree a.self.e) a.bound (omega (arith, c.degree.ensures))) c.is_within.ensures
