-- One turn of the pair runner: what is known of the nonsquare, of the pair, and of the child that is offered; and how the words of the opener and
-- of the runner fit together. Assumes nothing.
use mathlib.Core.Path.{◌≡◌, sym, ap, ◌∙◌, subst}
use mathlib.Core.Logic.{⊎_elim}
use mathlib.Core.Bool.{true, false}
use mathlib.Core.List.Memᴰ
use mathlib.Core.List.{List, [], ◌∷◌}
use Prim.Native.Nat.{ℕ, ◌+◌, ◌-◌, ◌*◌, ◌/◌, ◌<◌, ◌≤◌}
use native.Mathlib.Omega.{arith}
use lib.Dec.{T_not}
use lib.ListN.{length, take}
use lib.Seq.{length-take-le}
use Rattle.monomial.specs.Monomial.{Mono, one, width}
use Rattle.monomial.specs.Divisors.{pairs}
use Rattle.monomial.specs.Claims.{◌∈◌, Pair}
use Rattle.monomial.proofs.Tests.{is→T, n_t→is}
use Rattle.monomial.proofs.Members.{here, keep_out}
use Rattle.monomial.proofs.product.Laws.{mul_one}
use Rattle.wiring.specs.Panel.{cards, set_bytes}
use Rattle.wiring.specs.Choice.{chosen}
use Rattle.wiring.specs.Terms.{records, system, CleanTerms}
use Rattle.wiring.specs.Signals.{signals, tabled, listed}
use Rattle.wiring.proofs.signals.Laws.{base_in}
use Rattle.wiring.proofs.signals.Tables.{tabled_none}
use Rattle.lister.specs.Cheap.{cheap, of_kind}
use Rattle.lister.specs.Passes.{kind}
use Rattle.lister.proofs.cheap.Laws.{dear_out}
use Rattle.std.specs.Prelude.{Some}
use Rattle.walk.specs.declared.walk.State.{State}
use Rattle.walk.specs.Walk.{Finds, Rules, child, opens, Step, tried_all, opened, run}
use Rattle.walk.specs.Listing.{Shown}
use Rattle.walk.specs.Turns.{Child, Turn, Tells, Showing, Openable, Ready, PairsFollow, Splits}
use Rattle.walk.proofs.Rules.{opens_fits, below_its_level}
use Rattle.walk.proofs.children.Laws.{not_both, split_longer, nonsquare_fits, child_walked, child_new, empty_walked}
use Rattle.walk.proofs.children.Offers.{child_none, both_longer}
use Rattle.walk.proofs.walk.Laws.{open_tells, choice_member}

module _ (n : ℕ) (terms : List ℕ) (level : ℕ) (set : List ℕ) (m : Mono) (count : ℕ) (out₀ : List ℕ)
    (clean : CleanTerms terms) (ready : Ready n level set count out₀) (splits : Splits n terms level set m) where
  -- six exponents, and not 1: 1 is the product of 1 and 1, so it is in V2
  pub gap_wide : length m ≡ width
  gap_wide = (nonsquare_fits terms clean n (tabled set) ready.opening.walked m splits.member).0

  pub gap_proper : m ≡ one (length m) → ⊥
  gap_proper e =
      let is : m ≡ one width = e ∙ ap one gap_wide in
      not_both n (system (records terms)) (tabled set) m splits.member (one width, one width) (mul_one (one width) ∙ sym is)
      (base_in n (tabled set) here, base_in n (tabled set) here)

  -- the child by a pair of it, where it is opened
  module _ (p : Pair) (i : p ∈ pairs m) where
    abbrev born : List Mono
    born = child n (tabled set) p

    born_longer : length (tabled set) < length born
    born_longer = split_longer n (system (records terms)) (tabled set) m ready.opening.walked.recorded.ascending splits.member p i

    module _ (rules : Rules) (len : ℕ) (bytes : List ℕ) (c : Child (opens rules n level (tabled set) p) (child n (tabled set) p) (Some len) bytes) where
      born_within : length born ≤ level
      born_within = opens_fits rules n level (tabled set) p (is→T (opens rules n level (tabled set) p) c.0)

      -- it is larger, and again a set of the walk
      pub child_more : length (tabled set) < len
      child_more = omega (arith, c.1.size, born_longer)

      pub child_within : len ≤ level
      child_within = omega (arith, c.1.size, born_within)

      pub child_long : length (listed len bytes) ≡ len
      child_long = ap length c.1.is ∙ sym c.1.size

      pub child_ready : set_bytes ≤ length bytes → (count' : ℕ) (out : List ℕ) → Showing count' out → Ready n level (take (width * len) bytes) count' out
      child_ready room count' out showing =
          let few : length born ≤ cards = omega (arith, ready.opening.low, born_within) in
          let w = child_walked terms clean n (tabled set) ready.opening.walked m splits.member p i few in
          let fits : width * len ≤ length bytes = omega (arith, child_within, ready.opening.low) in
          record {
            opening = record {
              whole = length-take-le (width * len) bytes fits ∙ ap (λ (k : ℕ). width * k) (sym child_long);
              within = omega (arith, child_long, child_within);
              low = ready.opening.low;
              few = ready.opening.few;
              walked = rw c.1.is w;
              new = rw c.1.is (child_new n (tabled set) p ready.opening.new);
            };
            showing = showing;
          }

  -- with room for one more only, a pair of the rest opens nothing: it would add two, for what adds none is no pair of a nonsquare
  pub rest_shut : level ≤ length (tabled set) + 1 → (rules : Rules) (p : Pair) → p ∈ kind (signals width n (tabled set)) m true → opens rules n level (tabled set) p ≡ false
  rest_shut tight rules p h =
      let v : List Mono = signals width n (tabled set) in
      let k = keep_out (of_kind v true) (pairs m) h in
      let dear : cheap v p ≡ false = n_t→is (cheap v p) (T_not (cheap v p) k.1) in
      let up = ready.opening.walked.recorded.ascending in
      let longer : length (tabled set) < length (child n (tabled set) p) = born_longer p k.0 in
      n_t→is (opens rules n level (tabled set) p) (λ t.
      let fits = opens_fits rules n level (tabled set) p t in
      ⊎_elim
      (λ both. omega (arith, ap length (child_none n (tabled set) p.0 p.1 up both.1 both.0)))
      (λ neither. omega (arith, both_longer n (tabled set) p.0 p.1 neither.1 neither.0))
      (dear_out v p dear))

-- the empty set, with which every level begins
pub empty_openable : (n level : ℕ) → level ≤ cards → n ≤ width → Openable n level []
empty_openable n level low few = record {
  whole = omega (arith, ap length tabled_none);
  within = omega (arith, ap length tabled_none);
  low = low;
  few = few;
  walked = rw tabled_none empty_walked;
  new = λ m h. absurd (Memᴰ.not-nil (subst (λ (l : List Mono). m ∈ l) tabled_none h));
}

-- what the opener says of the child, in the words of the runner
pub told_as : (r : Rules) (n : ℕ) (terms : List ℕ) (level limit steps count len : ℕ) (s s' : List Mono) (out₀ out out' : List ℕ) (turn : Turn)
    → s' ≡ s → length s' ≡ len → length out ≡ length out₀
    → ((d : ℕ) (finds : Finds) → level - length s' < d → Shown finds count out
    → Tells turn out' (run limit (length out / set_bytes) (opened r n (system (records terms)) level d s') steps finds))
    → (d : ℕ) (finds : Finds) → level - len < d → Shown finds count out
    → Tells turn out' (run limit (length out₀ / set_bytes) (opened r n (system (records terms)) level d s) steps finds)
told_as r n terms level limit steps count len s s' out₀ out out' turn e long k f d finds h sh =
    subst (λ (b : ℕ). said b s) k (subst (said (length out)) e (f d finds (omega (arith, long)) sh))
  where
    said : ℕ → List Mono → Type 0
    said size x = Tells turn out' (run limit (size / set_bytes) (opened r n (system (records terms)) level d x) steps finds)

-- what the runner says of the pairs, in the words of the opener
module _ (r : Rules) (n : ℕ) (terms : List ℕ) (level limit : ℕ) (set : List ℕ) (st : State) (out₀ : List ℕ) (ready : Ready n level set st.count out₀)
    (m : Mono) (next : State) (out : List ℕ) (sp : PairsFollow r n terms level limit set st out₀ m next out) where
  pub split_member : Splits n terms level set m
  split_member = record {
    below = omega (arith, below_its_level r n level (tabled set) (sp.goes.first ∷ sp.goes.others) sp.goes.on);
    member = choice_member _ m sp.goes.first sp.goes.others sp.goes.are sp.goes.is;
  }

  pub split_ready : Ready n level set next.count out
  split_ready = rw (sp.count, sp.kept) ready

  -- the steps of the pairs of y, at a bound on the depth
  abbrev pub split_steps : ℕ → Mono → List Step
  split_steps d y = tried_all r n (system (records terms)) level (opened r n (system (records terms)) level d) (tabled set) y

  pub split_tells : (turn : Turn) (out' : List ℕ)
      → ((d : ℕ) (finds : Finds) → level - length (tabled set) ≤ d → Shown finds next.count out → Tells turn out' (run limit (length out / set_bytes) (split_steps d m) next.steps finds))
      → (d : ℕ) (finds : Finds) → level - length (tabled set) < d → Shown finds st.count out₀
      → Tells turn out' (run limit (length out₀ / set_bytes) (opened r n (system (records terms)) level d (tabled set)) st.steps finds)
  split_tells turn out' f d finds h sh =
      open_tells r n (system (records terms)) level limit (length out₀ / set_bytes) st.steps finds (tabled set) d (length (tabled set)) sp.goes.first sp.goes.others turn out'
      h sp.taken sp.goes.are sp.goes.on (λ g k. follows g (f g finds k))
    where
      said : List ℕ → Mono → ℕ → Type 0
      said o y g = Tells turn out' (run limit (length o / set_bytes) (split_steps g y) (st.steps + 1) finds)

      told : (g : ℕ) → (Shown finds next.count out → Tells turn out' (run limit (length out / set_bytes) (split_steps g m) next.steps finds)) → Shown finds st.count out → said out m g
      told g q = rw (sp.steps, sp.count) at q

      follows : (g : ℕ) → (Shown finds next.count out → Tells turn out' (run limit (length out / set_bytes) (split_steps g m) next.steps finds)) → said out₀ (chosen sp.goes.first sp.goes.others) g
      follows g q = subst (λ (y : Mono). said out₀ y g) sp.goes.is (subst (λ (o : List ℕ). Shown finds st.count o → said o m g) sp.kept (told g q) sh)
