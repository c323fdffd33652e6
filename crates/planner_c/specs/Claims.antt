-- What the five numbers and the bytes that a call leaves mean, for each reply. Assumes nothing.
use Rattle.std.specs.Prelude.{◌≡◌, List, ℕ, ◌/◌, replicate}
use Rattle.wiring.specs.Panel.{set_bytes}
use Rattle.wiring.specs.Reply.{numbers, in_order}
use Rattle.wiring.specs.Terms.{records, system}
use Rattle.wiring.specs.declared.panel.Panel.{Panel}
use Rattle.wiring.specs.declared.reply.Reply.{Reply}
use Rattle.wiring.specs.declared.reply.Reply.TheVariants.{Done, Setting, Length, Term, Twice, Nothing, Full, Spent, BadSet, NotQuadratic, Unreadable, FalseLine}
use Rattle.wiring.specs.Answers.{verdict}
use Rattle.wiring.specs.Sets.{set_record}
use Rattle.wiring.specs.Claims.{WireSays, Patch, WellFormed}
use Rattle.roster.specs.Roster.{arranged}
use Rattle.desktop.specs.Claims.{names_in, ReadSays}
use Rattle.walk.specs.Walk.{rules_of}
use Rattle.walk.specs.Claims.{Lacks, Fills, Spends, Accepted, PlanSays, NoneBelow, Planned}
use Rattle.thin.specs.Claims.{ThinSays, Thinned, Overfull}

-- the reply of which these are the five numbers, and what it means
pub record Heard (Means : Reply → Type 0) (five : List ℕ) : Type 0 where
  pub reply : Reply
  pub numbered : five ≡ in_order (numbers reply)
  pub means : Means reply

module _ (panel : Panel) (cap limit : ℕ) (terms : List ℕ) (size : ℕ) where
  -- planning ended without sets: `how` says exactly where, by the order and the steps
  pub record Stopped (how : ℕ → ℕ → Type 0) (order steps : ℕ) (bytes : List ℕ) : Type 0 where
    pub accepted : Accepted panel cap limit terms
    -- no quadratic list of monomials without signals, of any powers, has fewer members than the order
    pub none_below : NoneBelow panel terms order
    pub exact : how order steps
    pub zeros : bytes ≡ replicate size 0

  -- planning: done lists all smallest quadratic sets; none, full and spent stop exactly by the steps of the walk; the refusals are those of the library
  abbrev pub PlanMeans : Reply → List ℕ → Type 0
  PlanMeans (Done o c k) bytes = Planned panel cap limit terms size o c k bytes
  PlanMeans (Nothing o k) bytes = Stopped (Lacks (rules_of panel) panel.n (system (records terms)) limit (size / set_bytes) cap) o k bytes
  PlanMeans (Full o k) bytes = Stopped (Fills (rules_of panel) panel.n (system (records terms)) limit (size / set_bytes) cap) o k bytes
  PlanMeans (Spent o k) bytes = Stopped (Spends (rules_of panel) panel.n (system (records terms)) limit (size / set_bytes) cap) o k bytes
  PlanMeans Setting bytes = PlanSays panel cap limit terms size Setting × (bytes ≡ replicate size 0)
  PlanMeans Length bytes = PlanSays panel cap limit terms size Length × (bytes ≡ replicate size 0)
  PlanMeans (Term p) bytes = PlanSays panel cap limit terms size (Term p) × (bytes ≡ replicate size 0)
  PlanMeans (Twice p) bytes = PlanSays panel cap limit terms size (Twice p) × (bytes ≡ replicate size 0)
  PlanMeans BadSet bytes = ⊥
  PlanMeans (NotQuadratic o p) bytes = ⊥
  PlanMeans (Unreadable p) bytes = ⊥
  PlanMeans (FalseLine p) bytes = ⊥

-- wiring: done writes a correct list; every other reply leaves zeros
module _ (panel : Panel) (terms set : List ℕ) (size : ℕ) where
  abbrev pub WireMeans : Reply → List ℕ → Type 0
  WireMeans (Done o c k) bytes = WireSays panel terms set size (Done o c k) × Patch panel terms set c bytes
  WireMeans (Full o k) bytes = WireSays panel terms set size (Full o k) × (bytes ≡ replicate size 0)
  WireMeans Setting bytes = WireSays panel terms set size Setting × (bytes ≡ replicate size 0)
  WireMeans Length bytes = WireSays panel terms set size Length × (bytes ≡ replicate size 0)
  WireMeans (Term p) bytes = WireSays panel terms set size (Term p) × (bytes ≡ replicate size 0)
  WireMeans (Twice p) bytes = WireSays panel terms set size (Twice p) × (bytes ≡ replicate size 0)
  WireMeans BadSet bytes = WireSays panel terms set size BadSet × (bytes ≡ replicate size 0)
  WireMeans (NotQuadratic o p) bytes = WireSays panel terms set size (NotQuadratic o p) × (bytes ≡ replicate size 0)
  WireMeans (Nothing o k) bytes = ⊥
  WireMeans (Spent o k) bytes = ⊥
  WireMeans (Unreadable p) bytes = ⊥
  WireMeans (FalseLine p) bytes = ⊥

-- thinning: done lists all smallest quadratic subsets of the given set, and full says that they are more than there is room for
module _ (panel : Panel) (terms set : List ℕ) (size : ℕ) where
  abbrev pub ThinMeans : Reply → List ℕ → Type 0
  ThinMeans (Done o c k) bytes = Thinned panel terms set size o c k bytes
  ThinMeans (Full o k) bytes = Overfull panel terms set size o k bytes
  ThinMeans Setting bytes = ThinSays panel terms set size Setting × (bytes ≡ replicate size 0)
  ThinMeans Length bytes = ThinSays panel terms set size Length × (bytes ≡ replicate size 0)
  ThinMeans (Term p) bytes = ThinSays panel terms set size (Term p) × (bytes ≡ replicate size 0)
  ThinMeans (Twice p) bytes = ThinSays panel terms set size (Twice p) × (bytes ≡ replicate size 0)
  ThinMeans BadSet bytes = ThinSays panel terms set size BadSet × (bytes ≡ replicate size 0)
  ThinMeans (NotQuadratic o p) bytes = ThinSays panel terms set size (NotQuadratic o p) × (bytes ≡ replicate size 0)
  ThinMeans (Nothing o k) bytes = ⊥
  ThinMeans (Spent o k) bytes = ⊥
  ThinMeans (Unreadable p) bytes = ⊥
  ThinMeans (FalseLine p) bytes = ⊥

-- reading: done gives the record of the set of a listing that is right, whatever else it says; every other reply leaves zeros
module _ (panel : Panel) (terms text : List ℕ) where
  -- the record is one that wiring takes, and it is quadratic
  pub record Listed (order : ℕ) (bytes : List ℕ) : Type 0 where
    pub right : ReadSays panel terms text (Done order 0 0)
    pub is : bytes ≡ set_record (arranged (names_in panel text))
    pub formed : WellFormed panel terms bytes
    pub quadratic : verdict panel terms bytes ≡ Done order 0 0

  abbrev pub ReadMeans : Reply → List ℕ → Type 0
  ReadMeans (Done o c k) bytes = (c ≡ 0) × (k ≡ 0) × Listed o bytes
  ReadMeans Setting bytes = ReadSays panel terms text Setting × (bytes ≡ replicate set_bytes 0)
  ReadMeans Length bytes = ReadSays panel terms text Length × (bytes ≡ replicate set_bytes 0)
  ReadMeans (Term p) bytes = ReadSays panel terms text (Term p) × (bytes ≡ replicate set_bytes 0)
  ReadMeans (Twice p) bytes = ReadSays panel terms text (Twice p) × (bytes ≡ replicate set_bytes 0)
  ReadMeans (Unreadable p) bytes = ReadSays panel terms text (Unreadable p) × (bytes ≡ replicate set_bytes 0)
  ReadMeans BadSet bytes = ReadSays panel terms text BadSet × (bytes ≡ replicate set_bytes 0)
  ReadMeans (FalseLine p) bytes = ReadSays panel terms text (FalseLine p) × (bytes ≡ replicate set_bytes 0)
  ReadMeans (NotQuadratic o p) bytes = ⊥
  ReadMeans (Nothing o k) bytes = ⊥
  ReadMeans (Full o k) bytes = ⊥
  ReadMeans (Spent o k) bytes = ⊥
