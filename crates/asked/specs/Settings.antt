-- What words ask for, each a number: seven a plan, with room for at most 20,000 sets; four the thinning of a set; three
-- its wiring. The first three are the panel: how many variables, the marks of those that are signals, and the kit's limit
-- on the degree. Assumes nothing.
use Rattle.std.specs.Prelude.{cond, ℕ, ◌≤◌, leb, Option, Some, None}
use Rattle.asked.specs.declared.settings.Asked.{Asked}
use Rattle.asked.specs.declared.settings.Asked.TheVariants.{Plan, Thin, Wire}

abbrev pub most_sets : ℕ
most_sets = 20000

-- a word that is no number is wrong
abbrev pub numbered : Option ℕ → (ℕ → Option Asked) → Option Asked
numbered (Some v) f = f v
numbered None f = None

abbrev pub within : ℕ → ℕ → ℕ → ℕ → ℕ → ℕ → ℕ → Option Asked
within n marks degree cap limit sets which =
    cond (leb sets most_sets) (Some (Plan (record { n = n; marks = marks; degree = degree; cap = cap; limit = limit; room = sets; which = which }))) None

-- the first three words, and what follows them
abbrev pub panelled : Option ℕ → Option ℕ → Option ℕ → (ℕ → ℕ → ℕ → Option Asked) → Option Asked
panelled a b c f = numbered a (λ n. numbered b (λ marks. numbered c (f n marks)))

-- the words in their order: N, MARKS, DEGREE, K, LIMIT, SETS, WHICH
unfoldable pub asked : Option ℕ → Option ℕ → Option ℕ → Option ℕ → Option ℕ → Option ℕ → Option ℕ → Option Asked
asked a b c d e f g = panelled a b c (λ n marks degree. numbered d (λ cap. numbered e (λ limit. numbered f (λ sets. numbered g (within n marks degree cap limit sets)))))

-- N, MARKS, DEGREE, WHICH
unfoldable pub asked_thin : Option ℕ → Option ℕ → Option ℕ → Option ℕ → Option Asked
asked_thin a b c d = panelled a b c (λ n marks degree. numbered d (λ which. Some (Thin n marks degree which)))

-- N, MARKS, DEGREE
unfoldable pub asked_wire : Option ℕ → Option ℕ → Option ℕ → Option Asked
asked_wire a b c = panelled a b c (λ n marks degree. Some (Wire n marks degree))

-- what the buffer has room for
abbrev pub Roomy : Option Asked → Type 0
Roomy (Some (Plan s)) = s.room ≤ most_sets
Roomy (Some (Thin n marks degree which)) = Unit
Roomy (Some (Wire n marks degree)) = Unit
Roomy None = Unit
