-- Thinning, for all inputs: the reply and every byte of the buffer. Checks run as in wiring: 6 comes last. Assumes nothing.
use Rattle.std.specs.Prelude.{cond, List, [], ◌∷◌, ℕ, ◌/◌, ◌^◌, min, eqb, leb, length}
use Rattle.monomial.specs.Lists.{keep}
use Rattle.monomial.specs.Monomial.{Mono}
use Rattle.wiring.specs.Panel.{set_bytes}
use Rattle.wiring.specs.Reply.{numbers, Outcome, refused}
use Rattle.wiring.specs.Poly.{Poly}
use Rattle.wiring.specs.Terms.{records, system}
use Rattle.wiring.specs.Sets.{set_of}
use Rattle.wiring.specs.Answers.{verdict}
use Rattle.wiring.specs.declared.panel.Panel.{Panel}
use Rattle.wiring.specs.declared.reply.Reply.{Reply}
use Rattle.walk.specs.Walk.{Finds}
use Rattle.walk.specs.Plan.{Ending, done, full_at, said}
use Rattle.thin.specs.Subsets.{subsets, is_quadratic}

-- the least size of sets, where a bound is known
unfoldable pub least_size : ℕ → Finds → ℕ
least_size bound [] = bound
least_size bound (t ∷ l) = min (length t) (least_size bound l)

-- the sets of one size
abbrev pub of_size : ℕ → Finds → Finds
of_size k l = keep (λ t. eqb (length t) k) l

module _ (n : ℕ) (fs : List (Poly Mono)) (s : List Mono) where
  -- the quadratic subsets, their least size, and those of that size
  unfoldable pub quadratic_ones : Finds
  quadratic_ones = keep (is_quadratic n fs) (subsets s)

  unfoldable pub least : ℕ
  least = least_size (length s) quadratic_ones

  unfoldable pub thinnest : Finds
  thinnest = of_size least quadratic_ones

  -- how thinning ends, with room for so many sets; each subset is a step
  unfoldable pub thinning : ℕ → Ending
  thinning room = cond (leb (length thinnest) room) (done least (2 ^ length s) thinnest) (full_at least (2 ^ length s))

-- a verdict and the subsets in one: these are told where the verdict is done
unfoldable pub thinned_by : Reply → Ending → ℕ → Outcome
thinned_by judges ends size = cond (eqb (numbers judges).code 0) (said ends size) (refused judges size)

-- thinning: the verdict of wiring on what was given, with the subsets of the set
unfoldable pub thinned : Panel → List ℕ → List ℕ → ℕ → Outcome
thinned panel terms set size = thinned_by (verdict panel terms set) (thinning panel.n (system (records terms)) (set_of set) (size / set_bytes)) size
