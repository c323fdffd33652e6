-- Names beside the record of the set that they form: one table, one claim. Assumes nothing.
use mathlib.Core.Path.{◌≡◌, refl}
use mathlib.Core.Bool.{Bool, true, false, cond}
use mathlib.Core.List.{List, [], ◌∷◌, ◌++◌, map}
use Prim.Native.Nat.{ℕ}
use lib.ListN.{replicate}
use Rattle.monomial.specs.Lists.{any, all, gather, pairwise, dictionary, insert_by, arrange_by}
use Rattle.monomial.specs.Monomial.{Mono, vars}
use Rattle.monomial.specs.Degree.{degree}
use Rattle.wiring.specs.Panel.{set_bytes, full_degree}
use Rattle.wiring.specs.Sockets.{panel_of, full_panel, halved, marked, free, may_be}
use Rattle.wiring.specs.Terms.{exponents_right}
use Rattle.wiring.specs.Sets.{monomial_right, set_record}
use Rattle.wiring.specs.declared.panel.Panel.{Panel}
use Rattle.roster.specs.Roster.{distinct, forms_set, arranged}

-- whether names form a set, and the record that comes back
record Answer : Type 0 where
  good : Bool
  bytes : List ℕ

record Row : Type 0 where
  got : Answer
  want : Answer

zeros : ℕ → List ℕ
zeros n = replicate n 0

asked : Panel → List Mono → Answer
asked panel names = record { good = forms_set panel names; bytes = cond (forms_set panel names) (set_record (arranged names)) (zeros set_bytes) }

row : Panel → List Mono → Bool → List ℕ → Row
row panel names good bytes = record { got = asked panel names; want = record { good = good; bytes = bytes } }

-- a monomial in x1 and x2, which is six bytes of a record too
x : ℕ → ℕ → Mono
x a b = a ∷ b ∷ zeros 4

table : List Row
table =
    -- no names, one, and two in the order of a set or in another
    row (full_panel 1) [] true (zeros 36)
    ∷ row (full_panel 1) (x 2 0 ∷ []) true (x 2 0 ++ zeros 30)
    ∷ row (full_panel 1) (x 2 0 ∷ x 3 0 ∷ []) true (x 2 0 ++ x 3 0 ++ zeros 24)
    ∷ row (full_panel 1) (x 3 0 ∷ x 2 0 ∷ []) true (x 2 0 ++ x 3 0 ++ zeros 24)
    -- the exponent of x1 decides first
    ∷ row (full_panel 2) (x 2 0 ∷ x 1 1 ∷ x 0 2 ∷ []) true (x 0 2 ++ x 1 1 ++ x 2 0 ++ zeros 18)
    -- six names, the last place of a record taken
    ∷ row (full_panel 2) (x 7 0 ∷ x 2 0 ∷ x 6 0 ∷ x 3 1 ∷ x 5 0 ∷ x 3 0 ∷ []) true (x 2 0 ++ x 3 0 ++ x 3 1 ++ x 5 0 ++ x 6 0 ++ x 7 0)
    -- a name twice, side by side or not
    ∷ row (full_panel 1) (x 2 0 ∷ x 2 0 ∷ []) false (zeros 36)
    ∷ row (full_panel 1) (x 2 0 ∷ x 3 0 ∷ x 2 0 ∷ []) false (zeros 36)
    -- 1, a single variable, and a variable beyond xn
    ∷ row (full_panel 2) (x 0 0 ∷ []) false (zeros 36)
    ∷ row (full_panel 2) (x 2 0 ∷ x 0 1 ∷ []) false (zeros 36)
    ∷ row (full_panel 1) (x 1 1 ∷ []) false (zeros 36)
    -- the largest exponent, and one above it
    ∷ row (full_panel 1) (x 54 0 ∷ []) true (x 54 0 ++ zeros 30)
    ∷ row (full_panel 1) (x 55 0 ∷ []) false (zeros 36)
    -- x2 is a signal that is fed from outside
    ∷ row (panel_of 2 2 full_degree) (x 2 0 ∷ []) true (x 2 0 ++ zeros 30)
    ∷ row (panel_of 2 2 full_degree) (x 2 0 ∷ x 1 1 ∷ []) false (zeros 36)
    -- a junior kit: its limit, and one above it
    ∷ row (panel_of 2 0 3) (x 2 1 ∷ []) true (x 2 1 ++ zeros 30)
    ∷ row (panel_of 2 0 3) (x 2 1 ∷ x 2 2 ∷ []) false (zeros 36)
    ∷ []

sampled : map (λ r. r.got) table ≡ map (λ r. r.want) table
unfolding table row x zeros asked forms_set all distinct monomial_right set_record any gather pairwise arrange_by vars exponents_right may_be free marked halved degree insert_by dictionary
sampled = refl
