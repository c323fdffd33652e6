-- What stands in the input, and how much of it is read: what can be right, and one byte more, which tells that there
-- are more. Assumes nothing.
use Rattle.std.specs.Prelude.{ℕ, ◌+◌, Option, Some, None}
use Rattle.wiring.specs.Panel.{set_bytes, terms_bytes}
use Rattle.asked.specs.declared.settings.Asked.{Asked}
use Rattle.asked.specs.declared.settings.Asked.TheVariants.{Plan, Thin, Wire}

-- the input is term records; where a set is to be thinned or wired, its record stands before them
abbrev pub given_bytes : Option Asked → ℕ
given_bytes (Some (Plan s)) = 0
given_bytes (Some (Thin n marks degree which)) = set_bytes
given_bytes (Some (Wire n marks degree)) = set_bytes
given_bytes None = 0

abbrev pub most_input : Option Asked → ℕ
most_input a = given_bytes a + terms_bytes + 1
