-- `no_terms` meets its contract. Assumes nothing.
use mathlib.Core.Path.{refl}
use Rattle.truth.proofs.truth.Cells.{summed_start}
use Rattle.truth.proofs.truth.no_terms.Goals as goal

pub returns : goal.returns
returns c = λ v. summed_start v _ refl
