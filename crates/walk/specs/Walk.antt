-- The walk as the list of its steps, by given rules and without a limit; and a run of that list under a limit of steps and of room. Document 01's
-- walk is that by the rules `bare`, which close nothing and try pairs by ascending m1; a panel's is that by `rules_of`, which try cheap pairs first and
-- close by counting. Assumes nothing.
use Rattle.std.specs.Prelude.{Bool, true, false, cond, ◌&&◌, ◌||◌, List, [], ◌∷◌, ℕ, zero, suc, ◌+◌, ◌-◌, leb, length}
use Rattle.monomial.specs.Lists.{any, gather, insert_by}
use Rattle.monomial.specs.Monomial.{Mono, width}
use Rattle.monomial.specs.Order.{same, same_set, before_set}
use Rattle.monomial.specs.Divisors.{pairs}
use Rattle.wiring.specs.Sockets.{may_be, can_build}
use Rattle.wiring.specs.declared.panel.Panel.{Panel}
use Rattle.wiring.specs.Poly.{Poly, plain}
use Rattle.wiring.specs.Derivative.{derivative}
use Rattle.wiring.specs.Quadratic.{nonsquares}
use Rattle.wiring.specs.Signals.{signals}
use Rattle.wiring.specs.Choice.{chosen}
use Rattle.counting.specs.Counting.{closes}
use Rattle.lister.specs.Cheap.{joined, cheap_first}

-- a list of sets
abbrev pub Finds : Type 0
Finds = List (List Mono)

-- the child of a pair: the set plus those of m1, m2 not in V
unfoldable pub child : ℕ → List Mono → Mono × Mono → List Mono
child n s p = joined (signals width n s) p s

-- the rules of a walk
pub record Rules : Type 0 where
  -- what a new monomial may be: a pair that would add another costs its step and opens nothing
  pub may : Mono → Bool
  -- whether a set that is not quadratic is closed after its opening step: by the room left below the level, V and the nonsquares
  pub closed : ℕ → List Mono → List Mono → Bool
  -- the factor pairs of a nonsquare in the order in which they are tried: by V
  pub tries : List Mono → Mono → List (Mono × Mono)
  -- the set that each level opens; the first level is its size
  pub start : List Mono

-- document 01's rules with a test of its own for new monomials: nothing is closed, pairs are tried by ascending m1, and the empty set is opened
abbrev pub allowing : (Mono → Bool) → Rules
allowing may = record { may = may; closed = λ room v ns. false; tries = λ v m. pairs m; start = [] }

-- document 01's: everything may be
abbrev pub bare : Rules
bare = allowing (λ m. true)

-- given rules with another order of the pairs
abbrev pub trying : (List Mono → Mono → List (Mono × Mono)) → Rules → Rules
trying order r = record { may = r.may; closed = r.closed; tries = order; start = r.start }

-- document 02, [8]: first the pairs that add a single monomial
abbrev pub cheaply : Rules → Rules
cheaply = trying cheap_first

-- given rules with the counting rule of document 001, section 5.1: a set is closed where its nonsquares need more monomials, of those that may be,
-- than there is room for below the level
abbrev pub counted : Rules → Rules
counted r = record { may = r.may; closed = closes r.may; tries = r.tries; start = r.start }

-- a panel's: no new monomial holds a signal or passes the kit's limit, cheap pairs are tried first, and sets are closed by counting
abbrev pub rules_of : Panel → Rules
rules_of panel = counted (cheaply (allowing (may_be panel)))

-- as the code asks: by what the kit can build, of any powers with the full one. The walk is the same, step by step (`kit_level`)
abbrev pub kit_rules : Panel → Rules
kit_rules panel = counted (cheaply (allowing (can_build panel)))

-- a step without a find: a pair is tried, or a set is opened that is not quadratic
pub data Taken : Type 0 where
  pair : Taken
  opening : List Mono → Taken

-- a step: a set is opened and found, or it is a step without a find
pub data Step : Type 0 where
  found : List Mono → Step
  other : Taken → Step

module _ (r : Rules) (n k : ℕ) where
  -- whether the child of a pair is opened at level k: what it adds to V may be, and it has at most k monomials
  unfoldable pub opens : List Mono → Mono × Mono → Bool
  opens s p =
      let fine : Mono → Bool = λ m. r.may m || any (same m) (signals width n s) in
      fine p.0 && fine p.1 && leb (length (child n s p)) k

  -- whether a set, whose nonsquares are given, goes no further at level k: it is closed, or it has k monomials
  unfoldable pub ends : List Mono → List Mono → Bool
  ends s ns = r.closed (k - length s) (signals width n s) ns || leb k (length s)

module _ (r : Rules) (n : ℕ) (fs : List (Poly Mono)) (k : ℕ) where
  -- a pair costs one step; its child is opened at once or not at all
  unfoldable pub tried : (List Mono → List Step) → List Mono → Mono × Mono → List Step
  tried below s p = let steps = below (child n s p) in other pair ∷ cond (opens r n k s p) steps []

  -- the pairs of a nonsquare m of s, one after the other
  abbrev pub tried_all : (List Mono → List Step) → List Mono → Mono → List Step
  tried_all below s m = gather (tried below s) (r.tries (signals width n s) m)

  -- what follows the opening of s, whose nonsquares are given: it is found, or goes no further, or its pairs are tried
  unfoldable pub after : (List Mono → List Step) → List Mono → List Mono → List Step
  after below s [] = found s ∷ []
  after below s (m ∷ l) = other (opening s) ∷ cond (ends r n k s (m ∷ l)) [] (tried_all below s (chosen m l))

  -- the steps of opening s at level k. The first number bounds the depth; it is more than k less the set's size
  unfoldable pub opened : ℕ → List Mono → List Step
  opened zero s = []
  opened (suc d) s = after (opened d) s (nonsquares plain (signals width n s) (derivative plain fs))

module _ (r : Rules) (n : ℕ) (fs : List (Poly Mono)) where
  -- level k: the start is opened; below its size no step is taken
  unfoldable pub level : ℕ → List Step
  level k = cond (leb (length r.start) k) (opened r n fs k (suc k) r.start) []

  -- the steps of all levels below k
  unfoldable pub walked : ℕ → ℕ
  walked zero = 0
  walked (suc k) = walked k + length (level k)

-- ---- a run
pub data Run : Type 0 where
  ended : ℕ → Finds → Run
  spent : Run
  full : ℕ → Run

-- a find, once its step is taken: listed already, or no room for it, or listed in its place
unfoldable pub kept : ℕ → List Mono → ℕ → Finds → Run
kept room s taken finds = cond (any (same_set s) finds) (ended taken finds) (cond (leb room (length finds)) (full taken) (ended taken (insert_by same_set before_set s finds)))

-- a run goes on where the one before it ended
unfoldable pub onward : Run → (ℕ → Finds → Run) → Run
onward (ended taken finds) next = next taken finds
onward spent next = spent
onward (full taken) next = full taken

-- the steps are taken one after the other, `taken` before them, with the finds so far
unfoldable pub run : ℕ → ℕ → List Step → ℕ → Finds → Run
run limit room [] taken finds = ended taken finds
run limit room (other x ∷ es) taken finds = let r = run limit room es (suc taken) finds in cond (leb limit taken) spent r
run limit room (found s ∷ es) taken finds = let r = onward (kept room s (suc taken) finds) (run limit room es) in cond (leb limit taken) spent r
