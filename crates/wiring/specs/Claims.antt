-- What is claimed of wiring: each refusal in plain equations and inequalities, done by Definition 1, and the wiring list as a whole.
-- Assumes nothing.
use Rattle.std.specs.Prelude.{◌≡◌, ◌⊎◌, ◌↔◌, true, false, not, cond, ◌&&◌, List, [], ◌∷◌, ◌++◌, map, ℕ, suc, ◌*◌, ◌-◌, ◌%◌, ◌≤◌, ◌<◌, T, eqb, leb, ℤ, pos, nat_abs, ◌+ℤ◌, ◌*ℤ◌, length, get_or, take, drop, replicate}
use Rattle.monomial.specs.Lists.{any, keep, gather, below}
use Rattle.monomial.specs.Monomial.{Mono, constants, width}
use Rattle.monomial.specs.Order.{same, before}
use Rattle.monomial.specs.Degree.{degree}
use Rattle.monomial.specs.Claims.{◌∈◌, Ascending}
use Rattle.wiring.specs.Panel.{cards, term_bytes, terms_bytes, term_exponent, most_coefficient, set_bytes, set_exponent, wire_bytes, most_wires, junior_least, junior_most, full_degree}
use Rattle.wiring.specs.Sockets.{panel_of, full_panel, halved, marked, count_right, panel_right, free}
use Rattle.wiring.specs.Reply.{numbers}
use Rattle.wiring.specs.Coefficient.{word, signed}
use Rattle.wiring.specs.Poly.{Kind, Poly, plain, Same, coeff, support}
use Rattle.wiring.specs.Derivative.{derivative}
use Rattle.wiring.specs.Quadratic.{Product, multiplied, Linked, Quadratic}
use Rattle.wiring.specs.Signals.{signals}
use Rattle.wiring.specs.Terms.{Record, records, exponents_right, coefficient_right, term_right, alike, system}
use Rattle.wiring.specs.Sets.{size_of, set_of, monomial_right}
use Rattle.wiring.specs.Wires.{Wire, signal, wire_list}
use Rattle.wiring.specs.Answers.{wires}
use Rattle.wiring.specs.declared.panel.Panel.{Panel}
use Rattle.wiring.specs.declared.reply.Reply.{Reply}
use Rattle.wiring.specs.declared.reply.Reply.TheVariants.{Done, Setting, Length, Term, Twice, Nothing, Full, Spent, BadSet, NotQuadratic, Unreadable, FalseLine}

-- ---- term records
-- a length that records can have
pub record Measured (bytes : List ℕ) : Type 0 where
  pub divided : length bytes % term_bytes ≡ 0
  pub limited : length bytes ≤ terms_bytes

-- a record's rule, field by field; no signal has an equation
pub record Keeps (panel : Panel) (r : Record) : Type 0 where
  pub low : 1 ≤ r.equation
  pub high : r.equation ≤ panel.n
  pub unfed : marked panel.marks (r.equation - 1) ≡ false
  pub blank : r.blank ≡ 0
  pub small : (i : ℕ) → get_or r.monomial i 0 ≤ term_exponent
  pub beyond : (i : ℕ) → panel.n ≤ i → get_or r.monomial i 0 ≡ 0
  pub nonzero : r.coefficient ≡ pos 0 → ⊥
  pub limited : nat_abs r.coefficient ≤ most_coefficient

-- which record decides. Records are numbered from 0; d stands for a record beyond the last, of which nothing is said
module _ (panel : Panel) (rs : List Record) (d : Record) where
  -- records i and j have the same equation and exponents
  pub record Alike (i j : ℕ) : Type 0 where
    pub equations : (get_or rs i d).equation ≡ (get_or rs j d).equation
    pub monomials : (get_or rs i d).monomial ≡ (get_or rs j d).monomial

  -- record i keeps its rule and repeats none before it
  pub record Fine (i : ℕ) : Type 0 where
    pub keeps : Keeps panel (get_or rs i d)
    pub new : (j : ℕ) → j < i → Alike i j → ⊥

  -- place p: its record breaks the rule, and those before it are fine
  pub record Breaks (p : ℕ) : Type 0 where
    pub number : ℕ
    pub counted : number < length rs
    pub place : p ≡ suc number
    pub wrong : Keeps panel (get_or rs number d) → ⊥
    pub before : (j : ℕ) → j < number → Fine j

  -- place p: its record keeps the rule and repeats an earlier one, and those before it are fine
  pub record Repeats (p : ℕ) : Type 0 where
    pub number : ℕ
    pub counted : number < length rs
    pub place : p ≡ suc number
    pub keeps : Keeps panel (get_or rs number d)
    pub earlier : ℕ
    pub sooner : earlier < number
    pub same : Alike number earlier
    pub before : (j : ℕ) → j < number → Fine j

  -- every record keeps its rule, and no two are alike
  pub record Flawless : Type 0 where
    pub keeps : (i : ℕ) → i < length rs → Keeps panel (get_or rs i d)
    pub apart : (i j : ℕ) → j < i → i < length rs → Alike i j → ⊥

-- that record
abbrev pub beyond : Record
beyond = record { equation = 0; blank = 0; monomial = []; coefficient = pos 0 }

-- ---- totals
-- what a record adds to the coefficient of m in the derivative of z, and records one after the other; h makes their monomials those of the kind
module _ {M : Type 0} (k : Kind M) (h : Mono → M) where
  unfoldable pub adds : Record → M → M → ℤ
  adds r z m = cond (k.same (k.mul (k.over z (r.equation - 1)) (h r.monomial)) m) (k.power z (r.equation - 1) *ℤ r.coefficient) (pos 0)

  unfoldable pub added_up : List Record → M → M → ℤ
  added_up [] z m = pos 0
  added_up (r ∷ rs) z m = adds r z m +ℤ added_up rs z m

-- of plain monomials
abbrev pub summed : List Record → Mono → Mono → ℤ
summed = added_up plain (λ m. m)

-- no record is like one before it
abbrev pub Unlike : List Record → Type 0
Unlike [] = Unit {0}
Unlike (q ∷ rs) = ((r : Record) → r ∈ rs → T (alike r q) → ⊥) × Unlike rs

-- records of one width, coefficients at most c, no two alike
pub record Sized (w c : ℕ) (rs : List Record) : Type 0 where
  pub long : (r : Record) → r ∈ rs → length r.monomial ≡ w
  pub limited : (r : Record) → r ∈ rs → nat_abs r.coefficient ≤ c
  pub unlike : Unlike rs

-- ---- sets
-- monomials of the panel's width
abbrev pub Wide : List Mono → Type 0
Wide l = (m : Mono) → m ∈ l → length m ≡ width

-- V of the empty set: 1 and the first n variables
abbrev pub base : ℕ → List Mono
base n = take (suc n) (constants width)

-- what a set may hold: its monomials ascend strictly, none is 1 or a single variable, no exponent is too large, and those beyond xn are 0
pub record Permitted (n : ℕ) (s : List Mono) : Type 0 where
  pub ascends : Ascending before s
  pub new : (m : Mono) → m ∈ s → m ∈ constants width → ⊥
  pub small : (m : Mono) → m ∈ s → (i : ℕ) → get_or m i 0 ≤ set_exponent
  pub within : (m : Mono) → m ∈ s → (i : ℕ) → n ≤ i → get_or m i 0 ≡ 0

-- such a set of no more monomials than there are cards, of the panel's width
pub record Recordable (n : ℕ) (s : List Mono) : Type 0 where
  pub few : length s ≤ cards
  pub wide : (m : Mono) → m ∈ s → length m ≡ width
  pub permitted : Permitted n s

-- no monomial of the list holds a signal that is fed from outside
abbrev pub Free : ℕ → List Mono → Type 0
Free marks s = (m : Mono) → m ∈ s → (i : ℕ) → marked marks i ≡ true → get_or m i 0 ≡ 0

-- what the kit can build: none holds such a signal, and with a junior kit none has a total degree above its limit. With the full kit any powers will do
pub record Buildable (panel : Panel) (s : List Mono) : Type 0 where
  pub free : Free panel.marks s
  pub low : panel.degree < full_degree → (m : Mono) → m ∈ s → degree m ≤ panel.degree

-- what a set may hold and the kit can build, and zero bytes behind it
pub record RightRecord (panel : Panel) (bytes : List ℕ) : Type 0 where
  pub zeros : (k : ℕ) → width * size_of bytes ≤ k → get_or bytes k 0 ≡ 0
  pub permitted : Permitted panel.n (set_of bytes)
  pub buildable : Buildable panel (set_of bytes)

-- ---- the verdict
-- n is a number of variables, no bit at or above it marks one, and the kit is the full one or a junior one
pub record Ranged (panel : Panel) : Type 0 where
  pub low : 1 ≤ panel.n
  pub high : panel.n ≤ width
  pub known : (i : ℕ) → panel.n ≤ i → marked panel.marks i ≡ false
  pub kit : (panel.degree ≡ full_degree) ⊎ ((junior_least ≤ panel.degree) × (panel.degree ≤ junior_most))

pub record Lengths (terms set : List ℕ) : Type 0 where
  pub measured : Measured terms
  pub long : length set ≡ set_bytes

-- what all of them have to be for a set to be judged
pub record WellFormed (panel : Panel) (terms set : List ℕ) : Type 0 where
  pub ranged : Ranged panel
  pub lengths : Lengths terms set
  pub flawless : Flawless panel (records terms) beyond
  pub right : RightRecord panel set

-- V of the set
abbrev pub signals_in : Panel → List ℕ → List Mono
signals_in panel set = signals width panel.n (set_of set)

-- Definition 1 over the left variables that have an equation: the derivative of each member of v without signals is a list of products of two members
abbrev pub LeftLinked : ℕ → List (Poly Mono) → List Mono → Type 0
LeftLinked marks fs v = (z : Mono) → z ∈ v → T (free marks z) → Linked plain v (derivative plain fs z)

-- the derivative of what has one: 1, the variables that have an equation, and the monomials in these. Of what holds a signal nothing is asked, so
-- that Definition 1 by this derivation is `LeftLinked` (`over_the_left`)
unfoldable pub slope : ℕ → List (Poly Mono) → Mono → Poly Mono
slope marks fs z = cond (free marks z) (derivative plain fs z) []

-- gs is a system with the equations of fs, and any equations whatever of the signals
pub record Driven (marks : ℕ) (fs gs : List (Poly Mono)) : Type 0 where
  pub long : length gs ≡ length fs
  pub own : (i : ℕ) → marked marks i ≡ false → get_or gs i [] ≡ get_or fs i []

abbrev pub derivative_in : Panel → List ℕ → Mono → Poly Mono
derivative_in panel terms = slope panel.marks (system (records terms))

-- number i is the first member of v whose derivative by d is no list of products of two members; x stands for one beyond the last
pub record FirstUnlinked {M : Type 0} (k : Kind M) (v : List M) (d : M → Poly M) (x : M) (i : ℕ) : Type 0 where
  pub below : i < length v
  pub unlinked : Linked k v (d (get_or v i x)) → ⊥
  pub earlier : (j : ℕ) → j < i → Linked k v (d (get_or v j x))

-- what each verdict says: a refusal, or done where Definition 1 holds
abbrev pub VerdictSays : Panel → List ℕ → List ℕ → Reply → Type 0
VerdictSays panel terms set Setting = Ranged panel → ⊥
VerdictSays panel terms set Length = Ranged panel × ((Measured terms → ⊥) ⊎ (length set ≡ set_bytes → ⊥))
VerdictSays panel terms set (Term p) = Ranged panel × Lengths terms set × Breaks panel (records terms) beyond p
VerdictSays panel terms set (Twice p) = Ranged panel × Lengths terms set × Repeats panel (records terms) beyond p
VerdictSays panel terms set BadSet = Ranged panel × Lengths terms set × Flawless panel (records terms) beyond × (RightRecord panel set → ⊥)
VerdictSays panel terms set (NotQuadratic o p) =
    WellFormed panel terms set × (o ≡ length (set_of set)) × FirstUnlinked plain (signals_in panel set) (derivative_in panel terms) [] p
VerdictSays panel terms set (Done o c k) =
    WellFormed panel terms set × (o ≡ length (set_of set)) × (c ≡ 0) × (k ≡ 0) × Quadratic plain (signals_in panel set) (derivative_in panel terms)
VerdictSays panel terms set (Nothing o k) = ⊥
VerdictSays panel terms set (Full o k) = ⊥
VerdictSays panel terms set (Spent o k) = ⊥
VerdictSays panel terms set (Unreadable p) = ⊥
VerdictSays panel terms set (FalseLine p) = ⊥

-- ---- the wiring list
-- the product of the two signals of a record, and the record as a product of members of v
abbrev pub joined : {M : Type 0} → Kind M → List M → Wire → M
joined k v x = k.mul (signal k v x.a) (signal k v x.b)

abbrev pub as_product : {M : Type 0} → Kind M → List M → Wire → Product M
as_product k v x = record { a = signal k v x.a; b = signal k v x.b; coefficient = x.coefficient }

-- a record of left variable number i, whose derivative is p
pub record Wired {M : Type 0} (k : Kind M) (v : List M) (i : ℕ) (p : Poly M) (x : Wire) : Type 0 where
  pub left_is : x.left ≡ i
  pub a_below : x.a < length v
  pub b_below : x.b < length v
  pub ordered : x.a ≤ x.b
  pub least_a : (a b : ℕ) → b < length v → k.mul (signal k v a) (signal k v b) ≡ joined k v x → x.a ≤ a
  pub least_b : (b : ℕ) → k.mul (signal k v x.a) (signal k v b) ≡ joined k v x → x.b ≤ b
  pub total : x.coefficient ≡ coeff k p (joined k v x)
  pub nonzero : x.coefficient ≡ pos 0 → ⊥

-- all of them: one for each monomial of the derivative, ascending, and together they are the derivative
pub record Row {M : Type 0} (k : Kind M) (v : List M) (i : ℕ) (p : Poly M) (l : List Wire) : Type 0 where
  pub each : (x : Wire) → x ∈ l → Wired k v i p x
  pub monomials : map (joined k v) l ≡ support k p
  pub ascending : Ascending k.before (map (joined k v) l)
  pub equal : Same k (multiplied k v (map (as_product k v) l)) p

-- the records of left variable number i
abbrev pub row_of : ℕ → List Wire → List Wire
row_of i l = keep (λ x. eqb x.left i) l

-- the records of each left variable are its derivative, and the list is these rows by ascending left variable
pub record Correct {M : Type 0} (k : Kind M) (v : List M) (d : M → Poly M) (list : List Wire) : Type 0 where
  pub rows : (i : ℕ) → i < length v → Row k v i (d (signal k v i)) (row_of i list)
  pub ordered : list ≡ gather (λ i. row_of i list) (below (length v))

-- the bytes of a record say what it says
pub record Decodes (x : Wire) (bytes : List ℕ) : Type 0 where
  pub long : length bytes ≡ wire_bytes
  pub each : (k : ℕ) → get_or bytes k 0 < 256
  pub left_is : get_or bytes 0 0 ≡ x.left
  pub a_is : get_or bytes 1 0 ≡ x.a
  pub b_is : get_or bytes 2 0 ≡ x.b
  pub blank : get_or bytes 3 0 ≡ 0
  pub coefficient_is : signed (word bytes 4) ≡ x.coefficient

-- ---- wiring
-- the list of a set record
abbrev pub list_in : Panel → List ℕ → List ℕ → List Wire
list_in panel terms set = wires panel.n (system (records terms)) (set_of set)

-- what each reply says: a verdict that refuses, or whether the list fits a buffer of this size
abbrev pub WireSays : Panel → List ℕ → List ℕ → ℕ → Reply → Type 0
WireSays panel terms set size (Done o c k) =
    WellFormed panel terms set × Quadratic plain (signals_in panel set) (derivative_in panel terms)
    × (o ≡ length (set_of set)) × (c ≡ length (list_in panel terms set)) × (k ≡ 0) × (wire_bytes * length (list_in panel terms set) ≤ size)
WireSays panel terms set size (Full o k) =
    WellFormed panel terms set × Quadratic plain (signals_in panel set) (derivative_in panel terms)
    × (o ≡ length (set_of set)) × (k ≡ 0) × (size < wire_bytes * length (list_in panel terms set))
WireSays panel terms set size Setting = VerdictSays panel terms set Setting
WireSays panel terms set size Length = VerdictSays panel terms set Length
WireSays panel terms set size (Term p) = VerdictSays panel terms set (Term p)
WireSays panel terms set size (Twice p) = VerdictSays panel terms set (Twice p)
WireSays panel terms set size BadSet = VerdictSays panel terms set BadSet
WireSays panel terms set size (NotQuadratic o p) = VerdictSays panel terms set (NotQuadratic o p)
WireSays panel terms set size (Nothing o k) = ⊥
WireSays panel terms set size (Spent o k) = ⊥
WireSays panel terms set size (Unreadable p) = ⊥
WireSays panel terms set size (FalseLine p) = ⊥

-- and what it leaves in the buffer: the list, then zeros, or only zeros
abbrev pub wire_leaves : Panel → List ℕ → List ℕ → ℕ → Reply → List ℕ
wire_leaves panel terms set size r =
    cond (eqb (numbers r).code 0) (wire_list (list_in panel terms set) ++ replicate (size - wire_bytes * length (list_in panel terms set)) 0) (replicate size 0)

-- what the bytes of a list say: so many records, each in its place, then zeros; their list is correct
pub record Patch (panel : Panel) (terms set : List ℕ) (count : ℕ) (bytes : List ℕ) : Type 0 where
  pub list : List Wire
  pub counted : count ≡ length list
  pub most : count ≤ most_wires
  pub correct : Correct plain (signals_in panel set) (derivative_in panel terms) list
  pub written : (j : ℕ) (none : Wire) → j < count → Decodes (get_or list j none) (take wire_bytes (drop (wire_bytes * j) bytes))
  pub rest : (k : ℕ) → wire_bytes * count ≤ k → get_or bytes k 0 ≡ 0

-- ---- the verdict alone
-- what was given is well-formed, and quadratic by Definition 1
pub record QuadraticIn (panel : Panel) (terms set : List ℕ) : Type 0 where
  pub formed : WellFormed panel terms set
  pub quadratic : Quadratic plain (signals_in panel set) (derivative_in panel terms)

-- it is well-formed, and not quadratic
pub record Unquadratic (panel : Panel) (terms set : List ℕ) : Type 0 where
  pub formed : WellFormed panel terms set
  pub not : Quadratic plain (signals_in panel set) (derivative_in panel terms) → ⊥

-- the verdict that a reply tells, whatever the buffer: quadratic is done or full
pub record TellsVerdict (panel : Panel) (terms set : List ℕ) (r : Reply) : Type 0 where
  pub quadratic : (((numbers r).code ≡ 0) ⊎ ((numbers r).code ≡ 6)) ↔ QuadraticIn panel terms set
  pub not_quadratic : ((numbers r).code ≡ 9) ↔ Unquadratic panel terms set
  -- every other code says that what was given is not well-formed
  pub refused : (((numbers r).code ≡ 0 → ⊥) × ((numbers r).code ≡ 6 → ⊥) × ((numbers r).code ≡ 9 → ⊥)) ↔ (WellFormed panel terms set → ⊥)

-- and where the buffer is shorter than a record, done says besides that there is nothing to list, and full that there is something
pub record VerdictAlone (panel : Panel) (terms set : List ℕ) (r : Reply) : Type 0 where
  pub tells : TellsVerdict panel terms set r
  pub done : ((numbers r).code ≡ 0) ↔ (QuadraticIn panel terms set × (list_in panel terms set ≡ []))
  pub full : ((numbers r).code ≡ 6) ↔ (QuadraticIn panel terms set × (list_in panel terms set ≡ [] → ⊥))

-- ---- whatever the equations of the signals are
-- the rows of a list are the derivatives by gs of the left variables that have an equation, and there are no others
pub record DrivenList (marks : ℕ) (gs : List (Poly Mono)) (v : List Mono) (list : List Wire) : Type 0 where
  pub rows : (i : ℕ) → i < length v → T (free marks (signal plain v i)) → Row plain v i (derivative plain gs (signal plain v i)) (row_of i list)
  pub others : (i : ℕ) → i < length v → (T (free marks (signal plain v i)) → ⊥) → row_of i list ≡ []

-- ---- with the full kit each test is that of a panel without a limit, on monomials of the panel's width; that of a term record asks for no kit at all
pub record FullKit (n marks : ℕ) : Type 0 where
  pub settings : panel_right (panel_of n marks full_degree) ≡ count_right n && eqb (halved marks n) 0
  pub terms : (limit : ℕ) (r : Record) → term_right (panel_of n marks limit) r ≡ term_right (panel_of n marks full_degree) r
  pub sets : (m : Mono) → length m ≡ width → monomial_right (panel_of n marks full_degree) m
      ≡ not (any (same m) (constants width)) && exponents_right set_exponent n m && free marks m

-- ---- with no marks besides each test is document 01's, and the derivative is that of every monomial
pub record Unmarked (n : ℕ) : Type 0 where
  pub settings : panel_right (full_panel n) ≡ count_right n
  pub terms : (r : Record) → term_right (full_panel n) r
      ≡ leb 1 r.equation && leb r.equation n && eqb r.blank 0 && exponents_right term_exponent n r.monomial && coefficient_right r.coefficient
  pub sets : (m : Mono) → length m ≡ width → monomial_right (full_panel n) m ≡ not (any (same m) (constants width)) && exponents_right set_exponent n m
  pub slopes : (fs : List (Poly Mono)) → slope 0 fs ≡ derivative plain fs
