-- `cell_of` meets its contract. Assumes nothing.
use mathlib.Core.Path.{◌∙◌}
use Rattle.monomial.proofs.Tests.{T→is}
use Rattle.truth.proofs.truth.Places.{cell_found}
use Rattle.truth.proofs.truth.cell_of.Goals as goal

pub unwrap-p-requires : goal.unwrap-p-requires
unwrap-p-requires c = c.pair_of.ensures.told ∙ T→is _ c.requires.met

pub returns : goal.returns
returns c = let found = cell_found _ _ c.pair_of.result _ c.unwrap-p.ensures c.pair_of.ensures in record { value = found.0; inside = found.1 }
