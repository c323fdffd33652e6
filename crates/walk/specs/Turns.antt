-- What the functions of the walk ask and tell of a run. Assumes nothing.
use Rattle.std.specs.Prelude.{◌≡◌, Bool, true, false, List, [], ◌∷◌, ℕ, ◌+◌, ◌*◌, ◌/◌, ◌≤◌, ◌<◌, length, Option, Some, None, Result, Ok, Err}
use Rattle.monomial.specs.Lists.{some}
use Rattle.monomial.specs.Monomial.{Mono, width}
use Rattle.monomial.specs.Product.{AtMost}
use Rattle.monomial.specs.Order.{before}
use Rattle.monomial.specs.Claims.{◌∈◌, Ascending}
use Rattle.wiring.specs.Panel.{cards, term_exponent, set_bytes}
use Rattle.wiring.specs.Poly.{plain}
use Rattle.wiring.specs.Derivative.{derivative}
use Rattle.wiring.specs.Quadratic.{nonsquares}
use Rattle.wiring.specs.Signals.{signals, tabled, listed}
use Rattle.wiring.specs.Terms.{records, system}
use Rattle.wiring.specs.Claims.{base}
use Rattle.counting.specs.declared.verdict.Verdict.{Verdict}
use Rattle.counting.specs.declared.verdict.Verdict.TheVariants as verdict
use Rattle.walk.specs.declared.walk.State.{State}
use Rattle.walk.specs.declared.walk.Stop.{Stop}
use Rattle.walk.specs.declared.walk.Stop.TheVariants.{Spent, Full}
use Rattle.monomial.specs.declared.Monomial.{Monomial}
use Rattle.wiring.specs.Choice.{chosen}
use Rattle.walk.specs.declared.walk.Opened.{Opened}
use Rattle.walk.specs.Walk.{Finds, Rules, ends, opened, Run, ended, spent, full, run}
use Rattle.walk.specs.Listing.{Recorded, Lies, Shown}

-- what each set of the walk keeps: it has a record, and its exponents are at most 9 for each of its monomials
pub record Walked (s : List Mono) : Type 0 where
  pub recorded : Recorded s
  pub small : (m : Mono) → m ∈ s → AtMost (term_exponent * length s) m

-- a set whose monomials lie side by side, with a buffer for its child
pub record Growing (level : ℕ) (set child : List ℕ) : Type 0 where
  pub whole : length set ≡ width * length (tabled set)
  pub within : length (tabled set) ≤ level
  pub low : level ≤ cards
  pub room : set_bytes ≤ length child
  pub ascending : Ascending before (tabled set)

-- the child c: so many monomials of the buffer
pub record Born (c : List Mono) (len : ℕ) (bytes : List ℕ) : Type 0 where
  pub is : listed len bytes ≡ c
  pub size : len ≡ length c

-- and it is made where the test says that it is opened
abbrev pub Child : Bool → List Mono → Option ℕ → List ℕ → Type 0
Child test c (Some len) bytes = (test ≡ true) × Born c len bytes
Child test c None bytes = test ≡ false

-- a run that ended, with its steps and its finds in the buffer
pub record Ended (st : State) (out : List ℕ) (r : Run) : Type 0 where
  pub finds : Finds
  pub shown : Shown finds st.count out
  pub is : r ≡ ended st.steps finds

-- a turn of the walk: it goes on with a state, or stops
abbrev pub Turn : Type 0
Turn = Result State Stop

-- how it ends, with the buffer that it leaves
abbrev pub Tells : Turn → List ℕ → Run → Type 0
Tells (Ok st) out r = Ended st out r
Tells (Err Spent) out r = r ≡ spent
Tells (Err (Full steps)) out r = r ≡ full steps

-- the buffer shows some finds
pub record Showing (count : ℕ) (out : List ℕ) : Type 0 where
  pub finds : Finds
  pub shown : Shown finds count out

-- a set that may be opened at a level, its monomials side by side: none of them is 1 or a variable
pub record Openable (n level : ℕ) (set : List ℕ) : Type 0 where
  pub whole : length set ≡ width * length (tabled set)
  pub within : length (tabled set) ≤ level
  pub low : level ≤ cards
  pub few : n ≤ width
  pub walked : Walked (tabled set)
  pub new : (m : Mono) → m ∈ tabled set → m ∈ base n → ⊥

-- what the opener asks
pub record Ready (n level : ℕ) (set : List ℕ) (count : ℕ) (out : List ℕ) : Type 0 where
  pub opening : Openable n level set
  pub showing : Showing count out

-- a found set, with the buffer that is to show it
pub record Found (set : List ℕ) (count : ℕ) (out : List ℕ) : Type 0 where
  pub lies : Lies set
  pub showing : Showing count out

-- what the pair runner asks besides
pub record Splits (n : ℕ) (terms : List ℕ) (level : ℕ) (set : List ℕ) (m : Mono) : Type 0 where
  pub below : length (tabled set) < level
  pub member : m ∈ nonsquares plain (signals width n (tabled set)) (derivative plain (system (records terms)))

-- ---- what becomes of an opened set, by given rules
module _ (r : Rules) (n : ℕ) (terms : List ℕ) (level : ℕ) (set : List ℕ) where
  abbrev pub gaps : List Mono
  gaps = nonsquares plain (signals width n (tabled set)) (derivative plain (system (records terms)))

  -- the set goes on with a nonsquare
  pub record GoesOn (m : Mono) : Type 0 where
    pub first : Mono
    pub others : List Mono
    pub are : gaps ≡ first ∷ others
    pub on : ends r n level (tabled set) (first ∷ others) ≡ false
    pub is : m ≡ chosen first others

  -- it is found, it goes no further, or it goes on
  abbrev pub Weighed : Verdict → Type 0
  Weighed verdict.Found = gaps ≡ []
  Weighed verdict.Closed = (some gaps ≡ true) × (ends r n level (tabled set) gaps ≡ true)
  Weighed (verdict.Split m) = GoesOn m.e

-- ---- what taking the step of an opening tells
module _ (r : Rules) (n : ℕ) (terms : List ℕ) (level limit : ℕ) (set : List ℕ) (st : State) (out₀ : List ℕ) where
  -- nothing follows: the turn is that of the opening, whatever the bound on the depth
  abbrev pub NothingFollows : Turn → List ℕ → Type 0
  NothingFollows turn out = (d : ℕ) (finds : Finds) → 0 < d → Shown finds st.count out₀
      → Tells turn out (run limit (length out₀ / set_bytes) (opened r n (system (records terms)) level d (tabled set)) st.steps finds)

  -- the pairs of a nonsquare follow: the step is taken, the set goes on, and the buffer is as it was
  pub record PairsFollow (m : Mono) (next : State) (out : List ℕ) : Type 0 where
    pub taken : st.steps < limit
    pub goes : GoesOn r n terms level set m
    pub steps : next.steps ≡ st.steps + 1
    pub count : next.count ≡ st.count
    pub kept : out ≡ out₀

  abbrev pub SteppedBy : Option Monomial → State → List ℕ → Type 0
  SteppedBy None next out = NothingFollows (Ok next) out
  SteppedBy (Some m) next out = PairsFollow m.e next out

  abbrev pub Stepped : Result Opened Stop → List ℕ → Type 0
  Stepped (Ok o) out = SteppedBy o.split o.state out
  Stepped (Err stop) out = NothingFollows (Err stop) out

-- ---- what passing pairs by tells, each of which costs a step and opens nothing
abbrev pub PassedBy : ℕ → State → ℕ → Turn → Type 0
PassedBy limit st pairs (Ok next) = (next.steps ≡ st.steps + pairs) × (next.count ≡ st.count) × (0 < pairs → st.steps + pairs ≤ limit)
PassedBy limit st pairs (Err Spent) = (0 < pairs) × (limit < st.steps + pairs)
PassedBy limit st pairs (Err (Full steps)) = ⊥
