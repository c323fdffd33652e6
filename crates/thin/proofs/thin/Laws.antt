-- Thinning, step by step: how it starts, how it ends, and what each check says of the outcome. Assumes nothing.
use mathlib.Core.Path.{◌≡◌, refl, sym, ap, ap₂, subst, ◌∙◌}
use mathlib.Core.List.Memᴰ
use mathlib.Core.List.{List, [], ◌++◌, map-id}
use Prim.Native.Nat.{ℕ, ◌*◌, ◌-◌, ◌/◌, ◌^◌, ◌<◌, ◌≤◌, min}
use native.Mathlib.Omega.{arith}
use native.Mathlib.Nat.{pow-le-pow_right}
use borrow.Author.Tests.{le-leb, lt-leb, ne_eqb}
use lib.ListN.{length, replicate}
use lib.Seq.{take_all}
use Rattle.monomial.specs.Monomial.{Mono, one, width}
use Rattle.wiring.specs.Panel.{cards, set_bytes}
use Rattle.wiring.specs.Poly.{Poly}
use Rattle.wiring.specs.Reply.{numbers, outcome, refused}
use Rattle.wiring.specs.Terms.{records, system}
use Rattle.wiring.specs.Sets.{set_of, monomials_of}
use Rattle.wiring.specs.Answers.{verdict, judged, Judgeable, Takes}
use Rattle.wiring.specs.declared.panel.Panel.{Panel}
use Rattle.wiring.specs.declared.reply.Reply.{Reply}
use Rattle.wiring.specs.declared.reply.Reply.TheVariants.{Done, Full}
use Rattle.wiring.specs.declared.held.Set.{Set}
use Rattle.wiring.proofs.signals.Arrays.{front_length}
use Rattle.walk.specs.Walk.{Finds}
use Rattle.walk.specs.Plan.{Ending, done, full_at, sets_bytes, said}
use Rattle.walk.proofs.plan.Laws.{said_done, said_full}
use Rattle.thin.specs.declared.subsets.Best.{Best}
use Rattle.thin.specs.Subsets.{subsets, Tally, tally, all_sifted, Holds, Sifting, Bounded, undecided, Deciding}
use Rattle.thin.specs.Thin.{least, thinnest, thinning, thinned_by, thinned}
use Rattle.thin.proofs.subsets.Laws.{subsets_count}
use Rattle.thin.proofs.subsets.Listing.{begun_none}
use Rattle.thin.proofs.thin.Tallies.{tally_thinnest}

-- ---- how it ends
module _ (n : ℕ) (fs : List (Poly Mono)) (s : List Mono) (size : ℕ) where
  pub thinning_done : length (thinnest n fs s) ≤ size / set_bytes → thinning n fs s (size / set_bytes) ≡ done (least n fs s) (2 ^ length s) (thinnest n fs s)
  unfolding thinning
  thinning_done h = rw (le-leb (length (thinnest n fs s)) (size / set_bytes) h)

  pub thinning_full : size / set_bytes < length (thinnest n fs s) → thinning n fs s (size / set_bytes) ≡ full_at (least n fs s) (2 ^ length s)
  unfolding thinning
  thinning_full h = rw (lt-leb (length (thinnest n fs s)) (size / set_bytes) h)

-- ---- a set and a buffer of zeros
-- the set without signals, as the code has it
abbrev no_signals : Set
no_signals = record { m = replicate cards (record { e = one width }); len = 0; few = omega arith }

module _ (n : ℕ) (terms : List ℕ) (set : Set) (out : List ℕ) (w : Judgeable n terms set) (blank : out ≡ replicate (length out) 0) (full : length set.m ≡ cards) where
  abbrev fs : List (Poly Mono)
  fs = system (records terms)

  abbrev s : List Mono
  s = monomials_of set

  abbrev start : Best
  start = record { order = set.len; count = 0; steps = 0 }

  size : set.len ≡ length s
  size = sym (front_length set.len set.m (omega (arith, set.few)))

  pub start_deciding : (few : 0 ≤ cards) → Deciding n terms set 0 (record no_signals { few = few })
  start_deciding few = record {
    whole = w;
    part = record { few = w.few; clean = w.clean; fits = λ m h. absurd (Memᴰ.not-nil h) };
    within = omega arith;
    fewer = omega arith;
  }

  all_subsets : undecided set 0 no_signals ≡ subsets s
  all_subsets = map-id (subsets s)

  pub start_bounded : Bounded start (length (undecided set 0 no_signals))
  start_bounded =
      let many : length (undecided set 0 no_signals) ≡ 2 ^ length s = ap length all_subsets ∙ subsets_count s in
      let most : 2 ^ length s ≤ 2 ^ cards = pow-le-pow_right {n = 2} (omega arith) {i = length s} {j = cards} (omega (arith, size, set.few)) in
      record { counted = omega arith; within = omega arith }

  -- when all subsets are sifted
  module _ (b : Best) (out' : List ℕ) (m : Sifting n terms (undecided set 0 no_signals) start out b out') where
    pub all-sifted : Holds (tally (least n fs s) (thinnest n fs s) (2 ^ length s)) b out'
    all-sifted =
        let begins : Holds (tally (length s) [] 0) start out = record { order = size; count = refl; steps = refl; list = begun_none out blank } in
        let all : all_sifted n fs (tally (length s) [] 0) (undecided set 0 no_signals) ≡ tally (least n fs s) (thinnest n fs s) (2 ^ length s) =
        ap (all_sifted n fs (tally (length s) [] 0)) all_subsets ∙ tally_thinnest n fs s in
        subst (λ (t : Tally). Holds t b out') all (m.tallied (tally (length s) [] 0) begins)

    module _ (same : length out' ≡ length out) where
      pub ended_done : b.count ≤ length out' / set_bytes → outcome (Done b.order b.count b.steps) out' ≡ said (thinning n fs s (length out / set_bytes)) (length out)
      ended_done h =
          let fits : length (thinnest n fs s) ≤ length out / set_bytes = omega (arith, all-sifted.count, same) in
          left ∙ said_done (least n fs s) (2 ^ length s) (thinnest n fs s) (length out) ∙ ap (λ (e : Ending). said e (length out)) (sym (thinning_done n fs s (length out) fits))
        where
          left : outcome (Done b.order b.count b.steps) out' ≡ outcome (Done (least n fs s) (length (thinnest n fs s)) (2 ^ length s))
              (sets_bytes (thinnest n fs s) ++ replicate (length out - set_bytes * length (thinnest n fs s)) 0)
          left =
              let many : length (thinnest n fs s) ≤ length out' / set_bytes = omega (arith, all-sifted.count) in
              let rest : length out' - set_bytes * min (length (thinnest n fs s)) (length out' / set_bytes) ≡ length out - set_bytes * length (thinnest n fs s) = omega (arith, same) in
              let bytes : out' ≡ sets_bytes (thinnest n fs s) ++ replicate (length out - set_bytes * length (thinnest n fs s)) 0 =
              all-sifted.list.bytes ∙ ap₂ (λ (l : Finds) (k : ℕ). sets_bytes l ++ replicate k 0) (take_all (length out' / set_bytes) (thinnest n fs s) many) rest in
              ap₂ (λ (o c : ℕ). outcome (Done o c b.steps) out') all-sifted.order all-sifted.count
              ∙ ap₂ (λ (k : ℕ) (l : List ℕ). outcome (Done (least n fs s) (length (thinnest n fs s)) k) l) all-sifted.steps bytes

      pub ended_full : length out' / set_bytes < b.count → (zeros : List ℕ) → zeros ≡ replicate (length out') 0
          → outcome (Full b.order b.steps) zeros ≡ said (thinning n fs s (length out / set_bytes)) (length out)
      ended_full h zeros z =
          let over : length out / set_bytes < length (thinnest n fs s) = omega (arith, all-sifted.count, same) in
          ap₂ (λ (o k : ℕ). outcome (Full o k) zeros) all-sifted.order all-sifted.steps
          ∙ ap (outcome (Full (least n fs s) (2 ^ length s))) (z ∙ ap (λ (k : ℕ). replicate k 0) same)
          ∙ said_full (least n fs s) (2 ^ length s) (length out) ∙ ap (λ (e : Ending). said e (length out)) (sym (thinning_full n fs s (length out) over))

-- ---- a verdict with the subsets
pub by_refused : (r : Reply) (ends : Ending) (size : ℕ) → ((numbers r).code ≡ 0 → ⊥) → thinned_by r ends size ≡ refused r size
unfolding thinned_by
by_refused r ends size k = rw (ne_eqb (numbers r).code 0 k)

pub by_done : (o c k : ℕ) (ends : Ending) (size : ℕ) → thinned_by (Done o c k) ends size ≡ said ends size
unfolding thinned_by
by_done o c k ends size = refl

module _ (panel : Panel) (terms set : List ℕ) (size : ℕ) where
  pub thinned_refused : (r : Reply) → verdict panel terms set ≡ r → ((numbers r).code ≡ 0 → ⊥) → thinned panel terms set size ≡ refused r size
  unfolding thinned
  thinned_refused r e k = rw e (by_refused r (thinning panel.n (system (records terms)) (set_of set) (size / set_bytes)) size k)

  pub thinned_done : (o c k : ℕ) → verdict panel terms set ≡ Done o c k → thinned panel terms set size ≡ said (thinning panel.n (system (records terms)) (set_of set) (size / set_bytes)) size
  unfolding thinned
  thinned_done o c k e = rw e (by_done o c k (thinning panel.n (system (records terms)) (set_of set) (size / set_bytes)) size)

-- the set that was read is the set that was given, and the verdict is about it
pub thinned_given : (panel : Panel) (terms bytes : List ℕ) (size size' : ℕ) (set : Set) → Takes panel terms bytes set → size' ≡ size
    → thinned_by (judged panel.n (system (records terms)) (monomials_of set)) (thinning panel.n (system (records terms)) (monomials_of set) (size' / set_bytes)) size' ≡ thinned panel terms bytes size
unfolding thinned
thinned_given panel terms bytes size size' set t e =
    ap₂ (λ (m : List Mono) (k : ℕ). thinned_by (judged panel.n (system (records terms)) m) (thinning panel.n (system (records terms)) m (k / set_bytes)) k) t.holds e
    ∙ ap (λ (r : Reply). thinned_by r (thinning panel.n (system (records terms)) (set_of bytes) (size / set_bytes)) size) (sym t.says)
