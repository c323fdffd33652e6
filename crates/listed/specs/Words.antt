-- What a word of the command line counts as. Assumes nothing.
use Rattle.std.specs.Prelude.{◌≡◌, ◌⊎◌, ℕ, Option, Some, None}
use Rattle.wiring.specs.declared.panel.Panel.{Panel}

-- 2^64 - 1, where it is no number
abbrev pub setting_of : Option ℕ → ℕ
setting_of (Some v) = v
setting_of None = 18446744073709551615

-- one of the words of a panel is no number
abbrev pub WrongWord : Panel → Type 0
WrongWord panel = (panel.n ≡ setting_of None) ⊎ ((panel.marks ≡ setting_of None) ⊎ (panel.degree ≡ setting_of None))
