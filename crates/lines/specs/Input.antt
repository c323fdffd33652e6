-- An input that begins with a set record, behind which term records stand. Assumes nothing.
use Rattle.std.specs.Prelude.{ℕ, List, take, drop}
use Rattle.wiring.specs.Panel.{set_bytes}

-- that record, or as much of it as there is, and the terms behind it
abbrev pub set_in : List ℕ → List ℕ
set_in input = take set_bytes input

abbrev pub terms_in : List ℕ → List ℕ
terms_in input = drop set_bytes input
