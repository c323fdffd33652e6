-- What is claimed of thinning: each refusal is that of wiring, and done lists all smallest quadratic subsets of the given set. Assumes nothing.
use Rattle.std.specs.Prelude.{◌≡◌, cond, List, [], ◌++◌, ℕ, ◌*◌, ◌-◌, ◌/◌, ◌^◌, ◌≤◌, ◌<◌, eqb, length, replicate}
use Rattle.monomial.specs.Lists.{arrange_by}
use Rattle.monomial.specs.Monomial.{Mono}
use Rattle.monomial.specs.Order.{same, before, before_set}
use Rattle.monomial.specs.Claims.{◌∈◌, ◌⊆◌, Ascending}
use Rattle.wiring.specs.Panel.{set_bytes}
use Rattle.wiring.specs.Reply.{numbers}
use Rattle.wiring.specs.Poly.{Poly}
use Rattle.wiring.specs.Terms.{records, system}
use Rattle.wiring.specs.Sets.{set_of}
use Rattle.wiring.specs.Claims.{Recordable, derivative_in, VerdictSays, QuadraticIn}
use Rattle.wiring.specs.declared.panel.Panel.{Panel}
use Rattle.wiring.specs.declared.reply.Reply.{Reply}
use Rattle.wiring.specs.declared.reply.Reply.TheVariants.{Done, Setting, Length, Term, Twice, Nothing, Full, Spent, BadSet, NotQuadratic, Unreadable, FalseLine}
use Rattle.walk.specs.Walk.{Finds}
use Rattle.walk.specs.Plan.{sets_bytes}
use Rattle.walk.specs.Claims.{QuadraticList, Laid}
use Rattle.thin.specs.Thin.{least, thinnest}

-- ---- the smallest quadratic subsets of s, by a derivation of monomials
module _ (n : ℕ) (d : Mono → Poly Mono) (s : List Mono) (order : ℕ) where
  -- one of them: its signals are signals of s, and it can stand in a set record of n variables
  pub record ThinSet (t : List Mono) : Type 0 where
    pub part : t ⊆ s
    pub recordable : Recordable n t
    pub quadratic : QuadraticList n d t
    pub size : length t ≡ order

  -- of all lists of signals of s, in any order and with repeats, the empty one among them: no quadratic one has fewer members
  abbrev pub NoneThinner : Type 0
  NoneThinner = (t : List Mono) → t ⊆ s → QuadraticList n d t → order ≤ length t

  -- all of them
  pub record Thinnest (l : Finds) : Type 0 where
    pub none_thinner : NoneThinner
    -- every quadratic list of that many signals of s, put in order, is listed
    pub all : (t : List Mono) → t ⊆ s → QuadraticList n d t → length t ≡ order → arrange_by same before t ∈ l
    pub each : (t : List Mono) → t ∈ l → ThinSet t
    pub ascending : Ascending before_set l
    pub some : l ≡ [] → ⊥

-- ---- of a set record
abbrev pub least_in : Panel → List ℕ → List ℕ → ℕ
least_in panel terms set = least panel.n (system (records terms)) (set_of set)

abbrev pub thinnest_in : Panel → List ℕ → List ℕ → Finds
thinnest_in panel terms set = thinnest panel.n (system (records terms)) (set_of set)

-- what each reply of thinning says: a verdict that refuses, or whether the list has room in a buffer of this size
abbrev pub ThinSays : Panel → List ℕ → List ℕ → ℕ → Reply → Type 0
ThinSays panel terms set size (Done o c k) =
    QuadraticIn panel terms set × (o ≡ least_in panel terms set) × (c ≡ length (thinnest_in panel terms set)) × (k ≡ 2 ^ length (set_of set)) × (c ≤ size / set_bytes)
ThinSays panel terms set size (Full o k) =
    QuadraticIn panel terms set × (o ≡ least_in panel terms set) × (k ≡ 2 ^ length (set_of set)) × (size / set_bytes < length (thinnest_in panel terms set))
ThinSays panel terms set size Setting = VerdictSays panel terms set Setting
ThinSays panel terms set size Length = VerdictSays panel terms set Length
ThinSays panel terms set size (Term p) = VerdictSays panel terms set (Term p)
ThinSays panel terms set size (Twice p) = VerdictSays panel terms set (Twice p)
ThinSays panel terms set size BadSet = VerdictSays panel terms set BadSet
ThinSays panel terms set size (NotQuadratic o p) = VerdictSays panel terms set (NotQuadratic o p)
ThinSays panel terms set size (Nothing o k) = ⊥
ThinSays panel terms set size (Spent o k) = ⊥
ThinSays panel terms set size (Unreadable p) = ⊥
ThinSays panel terms set size (FalseLine p) = ⊥

-- and what it leaves in the buffer: the subsets and then zeros; or only zeros
abbrev pub thin_leaves : Panel → List ℕ → List ℕ → ℕ → Reply → List ℕ
thin_leaves panel terms set size r =
    let sets = thinnest_in panel terms set in
    cond (eqb (numbers r).code 0) (sets_bytes sets ++ replicate (size - set_bytes * length sets) 0) (replicate size 0)

-- what done says, and its bytes
pub record Thinned (panel : Panel) (terms set : List ℕ) (size order count steps : ℕ) (bytes : List ℕ) : Type 0 where
  pub given : QuadraticIn panel terms set
  pub smallest : Thinnest panel.n (derivative_in panel terms) (set_of set) order (thinnest_in panel terms set)
  pub judged : steps ≡ 2 ^ length (set_of set)
  pub laid : Laid (thinnest_in panel terms set) count size bytes

-- what full says: the subsets of that size are more than there is room for
pub record Overfull (panel : Panel) (terms set : List ℕ) (size order steps : ℕ) (bytes : List ℕ) : Type 0 where
  pub given : QuadraticIn panel terms set
  pub smallest : Thinnest panel.n (derivative_in panel terms) (set_of set) order (thinnest_in panel terms set)
  pub judged : steps ≡ 2 ^ length (set_of set)
  pub over : size / set_bytes < length (thinnest_in panel terms set)
  pub zeros : bytes ≡ replicate size 0
