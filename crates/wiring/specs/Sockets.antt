-- Sockets fed from outside: which variables are signals; the settings of a panel, and what a new monomial may be. Here a signal is a variable that is
-- fed from outside; the signals of a set, which are V, stand in Signals. Assumes nothing.
use Rattle.std.specs.Prelude.{Bool, true, not, ◌&&◌, ◌||◌, [], ◌∷◌, ℕ, zero, suc, ◌/◌, ◌%◌, eqb, leb}
use Rattle.monomial.specs.Monomial.{Mono, width}
use Rattle.monomial.specs.Degree.{degree}
use Rattle.wiring.specs.Panel.{full_degree}
use Rattle.wiring.specs.Kit.{degree_right}
use Rattle.wiring.specs.declared.panel.Panel.{Panel}

-- the settings that a panel is asked with: how many variables, the marks of those that are signals, and the kit's limit on the degree
abbrev pub panel_of : ℕ → ℕ → ℕ → Panel
panel_of n marks limit = record { n = n; marks = marks; degree = limit }

-- document 01's: nothing is marked, and the kit is the full one
abbrev pub full_panel : ℕ → Panel
full_panel n = panel_of n 0 full_degree

-- a number halved so many times, rounded down
unfoldable pub halved : ℕ → ℕ → ℕ
halved m zero = m
halved m (suc i) = halved (m / 2) i

-- bit number i of the marks, from 0: the variable of that number, x1 being number 0, is a signal
unfoldable pub marked : ℕ → ℕ → Bool
marked marks i = eqb (halved marks i % 2) 1

-- n is from 1 to the number of variables
unfoldable pub count_right : ℕ → Bool
count_right n = leb 1 n && leb n width

-- and no bit at or above n is set, and there is such a kit
unfoldable pub panel_right : Panel → Bool
panel_right panel = count_right panel.n && eqb (halved panel.marks panel.n) 0 && degree_right panel.degree

-- no signal is in a monomial
unfoldable pub free : ℕ → Mono → Bool
free marks [] = true
free marks (e ∷ m) = let r = free (marks / 2) m in (eqb e 0 || not (marked marks 0)) && r

-- what a new monomial may be: it holds no signal, and its total degree is at most the limit. The one test of the walk, of counting and of set records
unfoldable pub may_be : Panel → Mono → Bool
may_be panel m = free panel.marks m && leb (degree m) panel.degree

-- what the kit can build, as the code asks for it: the same, but that with the full kit the degree has no say. Of a monomial that a set record can hold
-- both say the same (`may_can`)
unfoldable pub can_build : Panel → Mono → Bool
can_build panel m = free panel.marks m && (leb full_degree panel.degree || leb (degree m) panel.degree)
