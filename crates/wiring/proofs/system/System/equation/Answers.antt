-- `System::equation` meets its contract: a record without a fault has the equation of a variable. Assumes nothing.
use native.Mathlib.Omega.{arith}
use Rattle.wiring.proofs.terms.Laws.{clean_at}
use Rattle.wiring.proofs.system.System.equation.Goals as goal

pub returns-clause-low : goal.returns-clause-low
returns-clause-low c = omega (arith, (clean_at c.args.self.terms.now c.args.self.clean c.args.t (omega arith)).low)

pub returns-clause-high : goal.returns-clause-high
returns-clause-high c = omega (arith, (clean_at c.args.self.terms.now c.args.self.clean c.args.t (omega arith)).high)
