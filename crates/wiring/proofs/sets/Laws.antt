-- Set records: their places, the loops that judge and read them, and what a right record holds. Assumes nothing.
use mathlib.Core.Path.{◌≡◌, refl, sym, ap, ap₂, subst, ◌∙◌}
use mathlib.Core.Logic.{⊎_elim}
use mathlib.Core.Bool.{Bool, true, false, cond, ◌&&◌}
use mathlib.Core.List.Memᴰ
use mathlib.Core.List.{List, [], ◌∷◌}
use Prim.Native.Nat.{ℕ, zero, suc, ◌+◌, ◌*◌, ◌-◌, ◌<◌, ◌≤◌, min}
use native.Mathlib.Omega.{arith}
use lib.Dec.{T}
use lib.ListN.{length, get_or, take, drop, length-take, length-drop}
use lib.Seq.{length-take-le, get_or-take}
use Rattle.std.specs.List.{list_all, range_with_len}
use Rattle.monomial.specs.Lists.{any, all, place, below}
use Rattle.monomial.specs.Monomial.{Mono, one, constants, width}
use Rattle.monomial.specs.Order.{same, before}
use Rattle.monomial.specs.Claims.{◌∈◌, Ascending, empty, first}
use Rattle.monomial.proofs.Tests.{Tested, passed, failed, test, is→T, and_l, and_r, and_i, same_test}
use Rattle.monomial.proofs.Members.{here, all_in, all_out, take_in}
use Rattle.monomial.proofs.Counting.{below_out, below_at}
use Rattle.monomial.proofs.product.Laws.{at_most_all}
use Rattle.monomial.proofs.order.Laws.{mono_order}
use Rattle.monomial.proofs.order.Ascending.{head_first, tail_asc}
use Rattle.wiring.specs.Panel.{cards, set_bytes, set_exponent}
use Rattle.wiring.specs.Sockets.{can_build}
use Rattle.wiring.specs.declared.panel.Panel.{Panel}
use Rattle.wiring.specs.Signals.{Fitting}
use Rattle.wiring.specs.Terms.{exponents_right}
use Rattle.wiring.proofs.terms.Laws.{exponents_everywhere}
use Rattle.wiring.proofs.kit.Laws.{may_can}
use Rattle.wiring.specs.Sets.{places, size_of, set_of, ascending, monomial_right, set_right, monomials_of, IsSetOf}
use Rattle.wiring.specs.declared.held.Set.{Set}
use Rattle.wiring.proofs.terms.Laws.{all_small}

-- ---- the places of a record
-- the six bytes from place i on
abbrev pub place_at : List ℕ → ℕ → Mono
place_at bytes i = take width (drop (width * i) bytes)

pub places_length : (bytes : List ℕ) → length (places bytes) ≡ cards
unfolding places below
places_length bytes = refl

-- no more places are used than there are
place_most : {A : Type 0} (f : A → Bool) (l : List A) → place f l ≤ length l
unfolding place
place_most f [] = omega arith
place_most f (x ∷ l) = go (test (f x)) (place_most f l)
  where
    go : Tested (f x) → place f l ≤ length l → cond (f x) 0 (suc (place f l)) ≤ suc (length l)
    go (passed e) h = rw e (omega arith)
    go (failed e) h = rw e (omega arith)

pub size_few : (bytes : List ℕ) → size_of bytes ≤ cards
unfolding size_of
size_few bytes = omega (arith, place_most (same (one width)) (places bytes), places_length bytes)

pub places_at : (bytes : List ℕ) (i : ℕ) (d : Mono) → i < cards → get_or (places bytes) i d ≡ place_at bytes i
unfolding places
places_at bytes i d h = below_at (place_at bytes) cards i d h

pub places_width : (bytes : List ℕ) → length bytes ≡ set_bytes → (m : Mono) → m ∈ places bytes → length m ≡ width
unfolding places
places_width bytes l m h =
    let p : (i : ℕ) × (i ∈ below cards) × (place_at bytes i ≡ m) = Memᴰ.of_map (place_at bytes) (below cards) h in
    let i : p.0 < cards = below_out cards p.0 p.1 in
    let long : length (place_at bytes p.0) ≡ width = length-take-le width (drop (width * p.0) bytes) (simp length-drop (omega arith)) in
    ap length (sym p.2) ∙ long

-- none is wider, however long the record is
pub set_narrow : (bytes : List ℕ) (m : Mono) → m ∈ set_of bytes → length m ≤ width
unfolding set_of places
set_narrow bytes m h =
    let p : (i : ℕ) × (i ∈ below cards) × (place_at bytes i ≡ m) = Memᴰ.of_map (place_at bytes) (below cards) (take_in (size_of bytes) (places bytes) h) in
    let long : length (place_at bytes p.0) ≡ min width (length (drop (width * p.0) bytes)) = length-take width (drop (width * p.0) bytes) in
    omega (arith, ap length p.2)

module _ (bytes : List ℕ) (len : ℕ) (h : len ≤ cards) where
  pub used_length : length (take len (places bytes)) ≡ len
  used_length = length-take-le len (places bytes) (omega (arith, places_length bytes))

  pub used_at : (i : ℕ) (d : Mono) → i < len → get_or (take len (places bytes)) i d ≡ place_at bytes i
  used_at i d k = get_or-take len (places bytes) i d k ∙ places_at bytes i d (omega arith)

  -- the place before place i, by its bytes
  pub used_before : (i : ℕ) (d : Mono) → 1 ≤ i → i < len → get_or (take len (places bytes)) (i - 1) d ≡ take width (drop (width * i - width) bytes)
  used_before i d j k =
      let at : width * (i - 1) ≡ width * i - width = omega arith in
      used_at (i - 1) d (omega arith) ∙ ap (λ (a : ℕ). take width (drop a bytes)) at

-- ---- ascending lists: the test, the fact, and the test of neighbours
pub ascending_out : (l : List Mono) → T (ascending l) → Ascending before l
unfolding ascending
ascending_out [] t = empty
ascending_out (m ∷ l) t = first (λ y k. all_out (before m) (and_l (all (before m) l) (ascending l) t) k) (ascending_out l (and_r (all (before m) l) (ascending l) t))

pub ascending_in : (l : List Mono) → Ascending before l → T (ascending l)
unfolding ascending
ascending_in [] a = tt
ascending_in (m ∷ l) a = and_i (all (before m) l) (ascending l) (all_in (before m) l (head_first a)) (ascending_in l (tail_asc a))

-- what stands before the second stands before all behind it
pub ascending_step : (x y : Mono) (l : List Mono) → ascending (x ∷ y ∷ l) ≡ before x y && ascending (y ∷ l)
ascending_step x y l = same_test (ascending (x ∷ y ∷ l)) (before x y && ascending (y ∷ l)) fewer more
  where
    fewer : T (ascending (x ∷ y ∷ l)) → T (before x y && ascending (y ∷ l))
    fewer t =
        let a : Ascending before (x ∷ y ∷ l) = ascending_out (x ∷ y ∷ l) t in
        and_i (before x y) (ascending (y ∷ l)) (head_first a y here) (ascending_in (y ∷ l) (tail_asc a))

    more : T (before x y && ascending (y ∷ l)) → T (ascending (x ∷ y ∷ l))
    more t =
        let s : T (before x y) = and_l (before x y) (ascending (y ∷ l)) t in
        let a : Ascending before (y ∷ l) = ascending_out (y ∷ l) (and_r (before x y) (ascending (y ∷ l)) t) in
        let low : (z : Mono) → z ∈ (y ∷ l) → T (before x z) =
        λ z m. ⊎_elim (λ e. subst (λ u. T (before x u)) (sym e) s) (λ k. mono_order.trans x y z s (head_first a z k)) (Memᴰ.cases_cons m) in
        ascending_in (x ∷ y ∷ l) (first low a)

-- at most one entry
pub ascending_short : (l : List Mono) → length l ≤ 1 → ascending l ≡ true
unfolding ascending all
ascending_short [] h = refl
ascending_short (x ∷ []) h = refl
ascending_short (x ∷ y ∷ l) h = let z : ⊥ = omega arith in absurd z

-- a chain that from number a on compares neighbours
pub neighbours_ascend : (p : ℕ → Bool) (a : ℕ) (l : List Mono) (n : ℕ) → n ≡ length l - 1
    → ((i : ℕ) → suc i < length l → p (a + i) ≡ before (get_or l i []) (get_or l (suc i) [])) → list_all p (range_with_len a n) ≡ ascending l
neighbours_ascend p a [] n e h = rw e (sym (ascending_short [] (omega arith)))
neighbours_ascend p a (x ∷ []) n e h = rw e (sym (ascending_short (x ∷ []) (omega arith)))
neighbours_ascend p a (x ∷ y ∷ l) zero e h = absurd (omega arith)
neighbours_ascend p a (x ∷ y ∷ l) (suc n) e h =
    let here : a ≡ a + 0 = omega arith in
    let rest = neighbours_ascend p (a + 1) (y ∷ l) n (omega arith) (λ i k. let on : a + 1 + i ≡ a + suc i = omega arith in ap p on ∙ h (suc i) (omega arith)) in
    ap₂ ◌&&◌ (ap p here ∙ h 0 (omega arith)) rest ∙ sym (ascending_step x y l)

-- ---- a monomial of a record: what passes the first two tests is judged by the third
module _ (panel : Panel) (m : Mono) (new : any (same m) (constants width) ≡ false) where
  pub may_decides : length m ≡ width → exponents_right set_exponent panel.n m ≡ true → can_build panel m ≡ monomial_right panel m
  unfolding monomial_right
  may_decides long e =
      let fits = exponents_everywhere set_exponent panel.n m (is→T (exponents_right set_exponent panel.n m) e) in
      rw (new, e) (sym (may_can panel m (omega arith) (at_most_all set_exponent m (λ i. (fits i).small))))

-- ---- the set of a record whose size is known
pub holds_set : (bytes : List ℕ) (len : ℕ) → len ≡ size_of bytes → len ≤ cards → (s : Set) → monomials_of s ≡ take len (places bytes) → s.len ≡ len → IsSetOf bytes s
unfolding set_of
holds_set bytes len e h s is long =
    let whole : take len (places bytes) ≡ set_of bytes = ap (λ (k : ℕ). take k (places bytes)) e in
    record { holds = is ∙ whole; size = long ∙ sym (used_length bytes len h) ∙ ap length whole }

-- ---- what a right record holds
pub right_fits : (panel : Panel) (bytes : List ℕ) → length bytes ≡ set_bytes → T (set_right panel bytes) → Fitting set_exponent (set_of bytes)
unfolding set_right set_of monomial_right exponents_right
right_fits panel bytes l t m h =
    let r : T (monomial_right panel m) = all_out (monomial_right panel) (search (and_l, and_r, t)) h in
    (places_width bytes l m (take_in (size_of bytes) (places bytes) h), all_small set_exponent m (search (and_l, and_r, r)))

pub right_asc : (panel : Panel) (bytes : List ℕ) → T (set_right panel bytes) → Ascending before (set_of bytes)
unfolding set_right
right_asc panel bytes t = ascending_out (set_of bytes) (search (and_l, and_r, t))
