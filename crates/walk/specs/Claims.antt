-- What is claimed of planning: the sets that a walk finds, when it ends and how, and that they are all smallest quadratic sets. Assumes nothing.
use Rattle.std.specs.Prelude.{◌≡◌, ◌⊎◌, Bool, true, false, cond, List, [], ◌∷◌, ◌++◌, ℕ, suc, ◌+◌, ◌*◌, ◌-◌, ◌/◌, ◌≤◌, ◌<◌, T, eqb, length, get_or, take, drop, replicate}
use Rattle.monomial.specs.Lists.{any, keep, insert_by, arrange_by}
use Rattle.monomial.specs.Monomial.{Mono, width}
use Rattle.monomial.specs.Order.{same, before, same_set, before_set}
use Rattle.monomial.specs.Divisors.{pairs}
use Rattle.monomial.specs.Claims.{◌∈◌, ◌⊆◌, Ascending, Rearranged, Within}
use Rattle.wiring.specs.Panel.{cards, set_bytes, most_steps}
use Rattle.wiring.specs.Reply.{numbers}
use Rattle.wiring.specs.Poly.{Poly, plain}
use Rattle.wiring.specs.Quadratic.{Quadratic}
use Rattle.wiring.specs.Signals.{signals}
use Rattle.wiring.specs.Terms.{records, system}
use Rattle.wiring.specs.Sets.{set_record}
use Rattle.wiring.specs.Answers.{missing}
use Rattle.wiring.specs.Claims.{Wide, base, Measured, Breaks, Repeats, Flawless, beyond, Buildable, Ranged, Recordable, LeftLinked, derivative_in}
use Rattle.wiring.specs.declared.panel.Panel.{Panel}
use Rattle.wiring.specs.declared.reply.Reply.{Reply}
use Rattle.wiring.specs.declared.reply.Reply.TheVariants.{Done, Setting, Length, Term, Twice, Nothing, Full, Spent, BadSet, NotQuadratic, Unreadable, FalseLine}
use Rattle.walk.specs.Walk.{Finds, Rules, rules_of, child, opens, ends, Taken, Step, found, other, level, walked, opened, Run, ended, spent, full}
use Rattle.walk.specs.Plan.{Ending, done, none, full_at, spent_at, plan, sets_bytes}
use Rattle.walk.specs.Turns.{Walked}

-- ---- what rules keep
-- the pairs that are tried are those of the nonsquare, in some order
abbrev pub Orderly : Rules → Type 0
Orderly r = (v : List Mono) (m : Mono) → Rearranged (pairs m) (r.tries v m)

-- what may be added: t holds s, and each of its further monomials may be
pub record Extends (r : Rules) (s t : List Mono) : Type 0 where
  pub holds : s ⊆ t
  pub may : (m : Mono) → m ∈ t → (m ∈ s) ⊎ T (r.may m)

-- the lists of which the rules speak: those that hold the start and besides only what may be
abbrev pub Counts : Rules → List Mono → Type 0
Counts r s = Extends r r.start s

-- closing leaves out nothing: a closed set is in no quadratic set for which there is room and whose further monomials may be
abbrev pub Sparing : Rules → ℕ → List (Poly Mono) → Type 0
Sparing r n fs = (room : ℕ) (s t : List Mono) → Ascending before s → Ascending before t → Wide t → Extends r s t → missing n fs t ≡ [] → length t ≤ length s + room
    → r.closed room (signals width n s) (missing n fs s) ≡ true → ⊥

-- none of the set is in V of the empty set, and none has an exponent beyond xn
pub record Proper (n : ℕ) (s : List Mono) : Type 0 where
  pub new : (m : Mono) → m ∈ s → m ∈ base n → ⊥
  pub within : (m : Mono) → m ∈ s → Within n m

-- rules that heed no unused variable: of a set and nonsquares that hold none they say the same for n and for b variables
pub record Heedless (r : Rules) (n b : ℕ) : Type 0 where
  pub proper : Proper n r.start
  pub wide : Wide r.start
  pub closing : (room : ℕ) (s ns : List Mono) → Proper n s → Wide s → ((m : Mono) → m ∈ ns → Within n m) → Wide ns
      → r.closed room (signals width n s) ns ≡ r.closed room (signals width b s) ns
  pub trying : (s : List Mono) (m : Mono) → Proper n s → Wide s → Within n m → length m ≡ width → r.tries (signals width n s) m ≡ r.tries (signals width b s) m

-- of a set two walks say the same, at level k: its nonsquares, whether it goes on, and then the pairs of each nonsquare, their order, which of them are
-- opened, and their children
pub record Agree (r r' : Rules) (n b : ℕ) (fs : List (Poly Mono)) (k : ℕ) (s : List Mono) : Type 0 where
  pub gaps : missing n fs s ≡ missing b fs s
  pub ending : ends r n k s (missing n fs s) ≡ ends r' b k s (missing n fs s)
  pub trying : ends r n k s (missing n fs s) ≡ false → (m : Mono) → m ∈ missing n fs s → r.tries (signals width n s) m ≡ r'.tries (signals width b s) m
  pub opening : ends r n k s (missing n fs s) ≡ false → (m : Mono) → m ∈ missing n fs s → (p : Mono × Mono) → p ∈ pairs m
      → (opens r n k s p ≡ opens r' b k s p) × (child n s p ≡ child b s p)

-- ---- the sets that steps find, ascending, each once
-- with one step more
unfoldable pub noted : Step → Finds → Finds
noted (other t) finds = finds
noted (found s) finds = cond (any (same_set s) finds) finds (insert_by same_set before_set s finds)

-- with those found before
unfoldable pub listed : Finds → List Step → Finds
listed finds [] = finds
listed finds (e ∷ es) = listed (noted e finds) es

abbrev pub distinct : List Step → Finds
distinct es = listed [] es

-- what a find t below the opened set s is like, at level k
pub record Sound (r : Rules) (n : ℕ) (terms : List ℕ) (k : ℕ) (s t : List Mono) : Type 0 where
  pub quadratic : missing n (system (records terms)) t ≡ []
  pub extends : Extends r s t
  pub short : length t ≤ k
  pub walked : Walked t

-- ---- how a run ends, of steps es with `taken` before them and `finds` so far
module _ (limit room : ℕ) where
  -- all steps are taken, and all finds have room
  pub record RunEnds (es : List Step) (taken : ℕ) (finds : Finds) (t : ℕ) (l : Finds) : Type 0 where
    pub steps : t ≡ taken + length es
    pub within : t ≤ limit
    pub sets : l ≡ listed finds es
    pub roomy : length l ≤ room

  -- there are more steps than the limit allows, and all finds up to it have room
  pub record RunStops (es : List Step) (taken : ℕ) (finds : Finds) : Type 0 where
    pub over : limit < taken + length es
    pub roomy : length (listed finds (take (limit - taken) es)) ≤ room

  -- a step within the limit finds the first set for which there is no room
  pub record RunFills (es : List Step) (taken : ℕ) (finds : Finds) (t : ℕ) : Type 0 where
    pub at : ℕ
    pub inside : at < length es
    pub steps : t ≡ taken + suc at
    pub within : t ≤ limit
    pub filled : length (listed finds (take at es)) ≡ room
    pub more : length (listed finds (take (suc at) es)) ≡ suc room

  abbrev pub RunFate : List Step → ℕ → Finds → Run → Type 0
  RunFate es taken finds (ended t l) = RunEnds es taken finds t l
  RunFate es taken finds spent = RunStops es taken finds
  RunFate es taken finds (full t) = RunFills es taken finds t

-- ---- how a plan ends, by the steps of its levels
-- no level below k has a find
abbrev pub Barren : Rules → ℕ → List (Poly Mono) → ℕ → Type 0
Barren r n fs k = (i : ℕ) → i < k → distinct (level r n fs i) ≡ []

module _ (r : Rules) (n : ℕ) (fs : List (Poly Mono)) (limit room cap : ℕ) where
  -- level j is the first with a find, it is walked to its end within the limit, and its sets have room
  pub record Ends (j u : ℕ) (l : Finds) : Type 0 where
    pub low : j ≤ cap
    pub barren : Barren r n fs j
    pub steps : u ≡ walked r n fs (suc j)
    pub within : u ≤ limit
    pub sets : l ≡ distinct (level r n fs j)
    pub some : l ≡ [] → ⊥
    pub roomy : length l ≤ room

  -- all levels up to the cap are walked within the limit, and none has a find
  pub record Lacks (j u : ℕ) : Type 0 where
    pub last : j ≡ suc cap
    pub barren : Barren r n fs j
    pub steps : u ≡ walked r n fs j
    pub within : u ≤ limit

  -- level j is the first with a find, and step number u, within the limit, finds there the first set for which there is no room
  pub record Fills (j u : ℕ) : Type 0 where
    pub low : j ≤ cap
    pub barren : Barren r n fs j
    pub at : ℕ
    pub inside : at < length (level r n fs j)
    pub steps : u ≡ walked r n fs j + suc at
    pub within : u ≤ limit
    pub filled : length (distinct (take at (level r n fs j))) ≡ room
    pub more : length (distinct (take (suc at) (level r n fs j))) ≡ suc room

  -- no level below j has a find, the step that would pass the limit is one of level j, and the sets found up to the limit have room
  pub record Spends (j u : ℕ) : Type 0 where
    pub low : j ≤ cap
    pub barren : Barren r n fs j
    pub steps : u ≡ limit
    pub reached : walked r n fs j ≤ limit
    pub over : limit < walked r n fs (suc j)
    pub roomy : length (distinct (take (limit - walked r n fs j) (level r n fs j))) ≤ room

  abbrev pub Fate : Ending → Type 0
  Fate (done j u l) = Ends j u l
  Fate (none j u) = Lacks j u
  Fate (full_at j u) = Fills j u
  Fate (spent_at j u) = Spends j u

abbrev pub steps_of : Ending → ℕ
steps_of (done j u l) = u
steps_of (none j u) = u
steps_of (full_at j u) = u
steps_of (spent_at j u) = u

module _ (r : Rules) (n : ℕ) (fs : List (Poly Mono)) (room cap : ℕ) where
  -- the plan under a limit that allows every step of every level: it ends after the first find that has no room, or else after all steps
  -- up to and with the first level that has a find, or up to the cap
  abbrev pub endless : Ending
  endless = plan r n fs (walked r n fs (suc cap)) room cap

  -- a limit that is spent, at some level
  pub record SpentBy (limit : ℕ) : Type 0 where
    pub level : ℕ
    pub is : plan r n fs limit room cap ≡ spent_at level limit

-- ---- two walks
-- each step as often: as many of the two lists pass any test
abbrev pub Even : List Step → List Step → Type 0
Even es fs = (f : Step → Bool) → length (keep f es) ≡ length (keep f fs)

-- the same steps but for some that find nothing, which the first list leaves out
pub data Pruned : List Step → List Step → Type 0 where
  no_steps : Pruned [] []
  same_step : (e : Step) {es fs : List Step} → Pruned es fs → Pruned (e ∷ es) (e ∷ fs)
  left_out : (t : Taken) {es fs : List Step} → Pruned es fs → Pruned es (other t ∷ fs)

-- by the rules r' each level up to the cap finds the sets that it finds by r, in no more steps: more exactly, some that find nothing are left out
pub record Alike (r r' : Rules) (n : ℕ) (fs : List (Poly Mono)) (cap : ℕ) : Type 0 where
  pub sets : (k : ℕ) → k ≤ cap → distinct (level r' n fs k) ≡ distinct (level r n fs k)
  pub steps : (k : ℕ) → k ≤ cap → length (level r' n fs k) ≤ length (level r n fs k)
  pub pruned : (k : ℕ) → k ≤ cap → Pruned (level r' n fs k) (level r n fs k)

-- an ending e beside another: the same but for the steps, and these are not more; where the other's limit is spent, any with no more steps
abbrev pub NoMore : Ending → Ending → Type 0
NoMore e (done j u l) = (k : ℕ) × (k ≤ u) × (e ≡ done j k l)
NoMore e (none j u) = (k : ℕ) × (k ≤ u) × (e ≡ none j k)
NoMore e (full_at j u) = (k : ℕ) × (k ≤ u) × (e ≡ full_at j k)
NoMore e (spent_at j u) = steps_of e ≤ u

-- the same rules, where nothing is closed
abbrev pub unclosed : Rules → Rules
unclosed r = record { may = r.may; closed = λ room v ns. false; tries = r.tries; start = r.start }

-- ---- smallest
-- Definition 1 for V of a list of monomials, by a derivation of them
abbrev pub QuadraticList : ℕ → (Mono → Poly Mono) → List Mono → Type 0
QuadraticList n d s = Quadratic plain (signals width n s) d

-- of the lists that count, no quadratic one has fewer than j members
abbrev pub NoneSmaller : Rules → ℕ → (Mono → Poly Mono) → ℕ → Type 0
NoneSmaller r n d j = (s : List Mono) → Wide s → Counts r s → QuadraticList n d s → j ≤ length s

-- one of the sets that done lists: it can stand in a set record of n variables
pub record Listed (r : Rules) (n : ℕ) (d : Mono → Poly Mono) (j : ℕ) (s : List Mono) : Type 0 where
  pub recordable : Recordable n s
  pub extends : Counts r s
  pub quadratic : QuadraticList n d s
  pub size : length s ≡ j

-- all of them
pub record Smallest (r : Rules) (n : ℕ) (d : Mono → Poly Mono) (j : ℕ) (l : Finds) : Type 0 where
  pub none_smaller : NoneSmaller r n d j
  -- every quadratic list of that many members that counts, put in order, is listed
  pub all : (s : List Mono) → Wide s → Counts r s → QuadraticList n d s → length s ≡ j → arrange_by same before s ∈ l
  pub each : (s : List Mono) → s ∈ l → Listed r n d j s
  pub ascending : Ascending before_set l
  pub some : l ≡ [] → ⊥

-- found in the steps of the walk of fs, within the limit and the room
pub record Finished (r : Rules) (n : ℕ) (fs : List (Poly Mono)) (d : Mono → Poly Mono) (cap limit room j u : ℕ) (l : Finds) : Type 0 where
  pub low : j ≤ cap
  pub steps : u ≡ walked r n fs (suc j)
  pub within : u ≤ limit
  pub roomy : length l ≤ room
  pub sets : Smallest r n d j l

-- a quadratic set inside t that is found below the opened set s at level k, with d more steps of depth
pub record Reached (r : Rules) (n : ℕ) (fs : List (Poly Mono)) (k : ℕ) (t : List Mono) (d : ℕ) (s : List Mono) : Type 0 where
  pub set : List Mono
  pub ascending : Ascending before set
  pub extends : Extends r s set
  pub within : set ⊆ t
  pub quadratic : missing n fs set ≡ []
  pub listed : found set ∈ opened r n fs k d s

-- ---- planning
pub record InRange (panel : Panel) (cap limit : ℕ) : Type 0 where
  pub ranged : Ranged panel
  pub capped : cap ≤ cards
  pub low : 1 ≤ limit
  pub high : limit ≤ most_steps

-- the settings, the length and the records are in order
pub record Accepted (panel : Panel) (cap limit : ℕ) (terms : List ℕ) : Type 0 where
  pub range : InRange panel cap limit
  pub measured : Measured terms
  pub flawless : Flawless panel (records terms) beyond

-- the sets found at a level, ascending, each once
abbrev pub sets_at : Panel → List ℕ → ℕ → Finds
sets_at panel terms order = distinct (level (rules_of panel) panel.n (system (records terms)) order)

-- what each reply of planning says, with a buffer of this size
abbrev pub PlanSays : Panel → ℕ → ℕ → List ℕ → ℕ → Reply → Type 0
PlanSays panel cap limit terms size Setting = InRange panel cap limit → ⊥
PlanSays panel cap limit terms size Length = InRange panel cap limit × (Measured terms → ⊥)
PlanSays panel cap limit terms size (Term p) = InRange panel cap limit × Measured terms × Breaks panel (records terms) beyond p
PlanSays panel cap limit terms size (Twice p) = InRange panel cap limit × Measured terms × Repeats panel (records terms) beyond p
PlanSays panel cap limit terms size (Done o c k) =
    Accepted panel cap limit terms × (c ≡ length (sets_at panel terms o)) × Ends (rules_of panel) panel.n (system (records terms)) limit (size / set_bytes) cap o k (sets_at panel terms o)
PlanSays panel cap limit terms size (Nothing o k) = Accepted panel cap limit terms × Lacks (rules_of panel) panel.n (system (records terms)) limit (size / set_bytes) cap o k
PlanSays panel cap limit terms size (Full o k) = Accepted panel cap limit terms × Fills (rules_of panel) panel.n (system (records terms)) limit (size / set_bytes) cap o k
PlanSays panel cap limit terms size (Spent o k) = Accepted panel cap limit terms × Spends (rules_of panel) panel.n (system (records terms)) limit (size / set_bytes) cap o k
PlanSays panel cap limit terms size BadSet = ⊥
PlanSays panel cap limit terms size (NotQuadratic o p) = ⊥
PlanSays panel cap limit terms size (Unreadable p) = ⊥
PlanSays panel cap limit terms size (FalseLine p) = ⊥

-- and what it leaves in the buffer: the sets and then zeros; or only zeros
abbrev pub plan_leaves : Panel → List ℕ → ℕ → Reply → List ℕ
plan_leaves panel terms size r =
    cond (eqb (numbers r).code 0) (sets_bytes (sets_at panel terms (numbers r).order) ++ replicate (size - set_bytes * (numbers r).count) 0) (replicate size 0)

-- of all lists of monomials that the kit can build, in any order and with repeats, and with the full kit of any powers: no quadratic one has fewer than
-- j members
abbrev pub NoneBelow : Panel → List ℕ → ℕ → Type 0
NoneBelow panel terms j = (s : List Mono) → Wide s → Buildable panel s → QuadraticList panel.n (derivative_in panel terms) s → j ≤ length s

-- a list of sets as it lies in a buffer of this size: record number i holds set number i; behind them are zeros
pub record Laid (l : Finds) (count size : ℕ) (bytes : List ℕ) : Type 0 where
  pub counted : count ≡ length l
  pub fits : set_bytes * count ≤ size
  pub written : (i : ℕ) → i < count → take set_bytes (drop (set_bytes * i) bytes) ≡ set_record (get_or l i [])
  pub rest : (k : ℕ) → set_bytes * count ≤ k → get_or bytes k 0 ≡ 0
  pub long : length bytes ≡ size

-- what done says, and its bytes
pub record Planned (panel : Panel) (cap limit : ℕ) (terms : List ℕ) (size order count steps : ℕ) (bytes : List ℕ) : Type 0 where
  pub accepted : Accepted panel cap limit terms
  -- the sets found at the level of this order are the smallest quadratic sets, all of them, found in the walk's steps, within the limit and the room
  pub finished : Finished (rules_of panel) panel.n (system (records terms)) (derivative_in panel terms) cap limit (size / set_bytes) order steps (sets_at panel terms order)
  -- the kit can build each of them
  pub buildable : (s : List Mono) → s ∈ sets_at panel terms order → Buildable panel s
  -- of all lists of monomials that it can build: no quadratic one is smaller, and each of that many members, put in order, is listed
  pub none_below : NoneBelow panel terms order
  pub all : (s : List Mono) → Wide s → Buildable panel s → QuadraticList panel.n (derivative_in panel terms) s → length s ≡ order
      → arrange_by same before s ∈ sets_at panel terms order
  pub laid : Laid (sets_at panel terms order) count size bytes

-- what done says of a system gs that has the equations of the records, and any equations whatever of the signals: Definition 1 over the left variables
-- that have an equation
pub record DrivenPlan (panel : Panel) (gs : List (Poly Mono)) (order : ℕ) (l : Finds) : Type 0 where
  pub each : (s : List Mono) → s ∈ l → LeftLinked panel.marks gs (signals width panel.n s)
  pub none_below : (s : List Mono) → Wide s → Buildable panel s → LeftLinked panel.marks gs (signals width panel.n s) → order ≤ length s
  pub all : (s : List Mono) → Wide s → Buildable panel s → LeftLinked panel.marks gs (signals width panel.n s) → length s ≡ order → arrange_by same before s ∈ l
