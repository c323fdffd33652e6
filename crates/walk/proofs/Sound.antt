-- By any rules: what is found is quadratic, holds the set that was opened and besides only what may be, and is a set of the walk: it has a record,
-- its exponents are small, and it says nothing of variables beyond xn. Assumes nothing.
use mathlib.Core.Path.{◌≡◌, sym, ◌∙◌, subst}
use mathlib.Core.Logic.{⊎_elim}
use mathlib.Core.List.Memᴰ
use mathlib.Core.List.{List, []}
use Prim.Native.Nat.{ℕ, ◌-◌, ◌≤◌}
use native.Mathlib.Omega.{arith}
use lib.Dec.{T}
use lib.ListN.{length, set}
use Rattle.monomial.specs.Monomial.{Mono, constants, width}
use Rattle.monomial.specs.Product.{mul}
use Rattle.monomial.specs.Quotient.{divides}
use Rattle.monomial.specs.Claims.{◌∈◌, IsPair, Within}
use Rattle.monomial.proofs.product.Laws.{mul_comm, at_most_at}
use Rattle.monomial.proofs.quotient.Laws.{factor_divides}
use Rattle.monomial.proofs.divisors.Pairs.{pairs_out}
use Rattle.monomial.proofs.Within.{within_at, at_within, within_mul, within_set, within_divides, first_within, within_first}
use Rattle.wiring.specs.Panel.{cards, set_exponent, term_exponent}
use Rattle.wiring.specs.Poly.{Poly}
use Rattle.wiring.specs.Derivative.{power}
use Rattle.wiring.specs.Sockets.{full_panel}
use Rattle.wiring.specs.Terms.{Record, records, system, CleanFor, CleanTerms}
use Rattle.wiring.specs.Answers.{missing}
use Rattle.wiring.specs.Claims.{Recordable, base}
use Rattle.wiring.proofs.terms.Laws.{Fields, fields_out, clean_right, clean_for, exponents_everywhere}
use Rattle.wiring.proofs.signals.Laws.{signals_cases}
use Rattle.walk.specs.Walk.{Rules, child, found, opened}
use Rattle.walk.specs.Turns.{Walked}
use Rattle.walk.specs.Claims.{Orderly, Extends, Proper, Sound}
use Rattle.walk.specs.Openings.{Inherited}
use Rattle.walk.proofs.Rules.{extends_self, extends_on, opens_fits, opens_extends}
use Rattle.walk.proofs.Openings.{steps_keep}
use Rattle.walk.proofs.children.Laws.{Grown, old, left, right, child_out, child_new, Imaged, imaged, child_walked, walked_fits}

-- ---- variables beyond xn
pub base_within : (n : ℕ) (x : Mono) → x ∈ base n → Within n x
base_within n x h = first_within n width x h

pub within_base : (n : ℕ) (x : Mono) → x ∈ constants width → Within n x → x ∈ base n
within_base n x h k = within_first n width x h k

-- ---- what is found
pub empty_proper : (n : ℕ) → Proper n []
empty_proper n = record { new = λ x i. absurd (Memᴰ.not-nil i); within = λ x i. absurd (Memᴰ.not-nil i) }

module _ (n : ℕ) (terms : List ℕ) (clean : CleanFor n terms) where
  abbrev fs : List (Poly Mono)
  fs = system (records terms)

  module _ (six : CleanTerms terms) where
    pub gap_within : (s : List Mono) → Proper n s → (m : Mono) → m ∈ missing n fs s → Within n m
    gap_within s q m h =
        let i : Imaged terms six n s m = imaged terms six n s m h in
        let r : Record = i.from.by in
        let at : ℕ = r.equation - 1 in
        let e : ℕ = power r i.of - 1 in
        let f : Fields (full_panel n) r = fields_out (full_panel n) r (clean_right (full_panel n) [] (records terms) clean r i.from.listed) in
        let own : Within n i.of = ⊎_elim (base_within n i.of) (q.within i.of) (signals_cases n s i.of_in) in
        let term : Within n r.monomial = at_within n r.monomial (λ j l. (exponents_everywhere term_exponent n r.monomial f.exponents j).zero l) in
        let low : 1 ≤ r.equation = f.low in
        let high : r.equation ≤ n = f.high in
        subst (Within n) i.from.is (within_mul n (set i.of at e) r.monomial (within_set n i.of at e (omega arith) own) term)

    pub keeps_proper : (r : Rules) (k : ℕ) → Inherited r n fs k (Proper n)
    keeps_proper r k s m p q h j f = record { new = child_new n s p q.new; within = λ x i. within_of x (child_out n s p i) }
      where
        two : IsPair p m
        two = pairs_out p m j

        gap : Within n m
        gap = gap_within s q m h

        factor : (a b : Mono) → length a ≡ length b → mul a b ≡ m → Within n a
        factor a b l e = within_divides n a m (subst (λ (y : Mono). T (divides a y)) e (factor_divides a b l)) gap

        within_of : (x : Mono) → Grown n s p x → Within n x
        within_of x (old i) = q.within x i
        within_of x (left e o) = subst (Within n) (sym e) (factor p.0 p.1 (two.left ∙ sym two.right) two.product)
        within_of x (right e o) = subst (Within n) (sym e) (factor p.1 p.0 (two.right ∙ sym two.left) (mul_comm p.1 p.0 ∙ two.product))

module _ (r : Rules) (o : Orderly r) (n : ℕ) (terms : List ℕ) (six : CleanTerms terms) (k : ℕ) (low : k ≤ cards) where
  pub record Climbed (s₀ s : List Mono) : Type 0 where
    pub extends : Extends r s₀ s
    pub short : length s ≤ k
    pub walked : Walked s

  keeps_climbed : (s₀ : List Mono) → Inherited r n (system (records terms)) k (Climbed s₀)
  keeps_climbed s₀ s m p c h j f =
      let fits : length (child n s p) ≤ k = opens_fits r n k s p f in
      record {
        extends = extends_on r s₀ s (child n s p) c.extends (opens_extends r n k s p f);
        short = fits;
        walked = child_walked terms six n s c.walked m h p j (omega arith);
      }

  -- for any set of the walk that is opened, at any depth
  pub opened_sound : (d : ℕ) (s t : List Mono) → Walked s → length s ≤ k → found t ∈ opened r n (system (records terms)) k d s → Sound r n terms k s t
  opened_sound d s t w l h =
      let start : Climbed s s = record { extends = extends_self r s; short = l; walked = w } in
      let x = steps_keep r o n (system (records terms)) k (Climbed s) (keeps_climbed s) d s (found t) start h in
      record { quadratic = x.1; extends = x.0.extends; short = x.0.short; walked = x.0.walked }

-- and what may stand in a record of n variables stands in one
module _ (r : Rules) (o : Orderly r) (n : ℕ) (terms : List ℕ) (few : n ≤ width) (clean : CleanFor n terms) where
  six : CleanTerms terms
  six = clean_for (full_panel n) width terms few clean

  recordable : (s : List Mono) → Walked s → Proper n s → Recordable n s
  recordable s w q = record {
    few = w.recorded.few;
    wide = w.recorded.wide;
    permitted = record {
      ascends = w.recorded.ascending;
      new = λ m h c. q.new m h (within_base n m c (q.within m h));
      small = λ m h i. at_most_at set_exponent m i (walked_fits s w m h);
      within = λ m h i l. within_at n m (q.within m h) i l;
    };
  }

  pub opened_recordable : (k d : ℕ) → k ≤ cards → (s t : List Mono) → Walked s → Proper n s → length s ≤ k
      → found t ∈ opened r n (system (records terms)) k d s → Recordable n t
  opened_recordable k d low s t w q l h =
      let x : Sound r n terms k s t = opened_sound r o n terms six k low d s t w l h in
      recordable t x.walked (steps_keep r o n (system (records terms)) k (Proper n) (keeps_proper n terms clean six r k) d s (found t) q h).0
