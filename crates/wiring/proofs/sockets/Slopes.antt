-- The derivative of a signal does not matter: a monomial without signals has the same derivative whatever the equations of the signals are, and
-- of a signal's own nothing is asked. Over clean records the derivative that the definitions take is that of what has one, on all of V.
-- Assumes nothing.
use Rattle.std.specs.Prelude.{Ok}
use mathlib.Core.Path.{◌≡◌, refl, sym, ap, ap₂, ◌∙◌, subst, fun_ext}
use mathlib.Core.Logic.{⊎_elim, ◌↔◌}
use mathlib.Core.Bool.{true, false}
use mathlib.Core.List.Memᴰ
use mathlib.Core.List.{List, [], ◌∷◌, ◌++◌}
use Prim.Native.Nat.{ℕ, zero, suc, ◌+◌, ◌-◌, ◌/◌, ◌<◌, ◌≤◌}
use native.Mathlib.Omega.{arith}
use borrow.Author.Tests.{eqb-true, eqb-false}
use lib.Dec.{T, eqb}
use lib.IntN.{pos}
use lib.ListN.{length, get_or, set}
use lib.Seq.{get_or-set_other}
use Rattle.monomial.specs.Monomial.{Mono, one, constants, width}
use Rattle.monomial.specs.Claims.{◌∈◌}
use Rattle.monomial.proofs.Tests.{Tested, passed, failed, test, T→is, is→T, n_t→is, is→n_t}
use Rattle.monomial.proofs.Members.{take_in}
use Rattle.monomial.proofs.Variables.{constants_quo}
use Rattle.monomial.proofs.product.Laws.{at_most_at}
use Rattle.wiring.specs.Sockets.{marked, free}
use Rattle.wiring.specs.declared.panel.Panel.{Panel}
use Rattle.wiring.specs.Poly.{Term, Poly, plain}
use Rattle.wiring.specs.Derivative.{part, parts_from, derivative}
use Rattle.wiring.specs.Quadratic.{multiplied, Linked, Quadratic}
use Rattle.wiring.specs.Signals.{signals}
use Rattle.wiring.specs.Terms.{records, fault, system}
use Rattle.wiring.specs.Claims.{Free, LeftLinked, slope, Driven, FirstUnlinked}
use Rattle.wiring.proofs.terms.Laws.{clean_right, fields_out}
use Rattle.wiring.proofs.signals.Laws.{signals_cases}
use Rattle.wiring.proofs.sockets.Laws.{marked_next, free_in, free_out}
use Rattle.wiring.proofs.derivative.Records.{Derived, derived}
use Rattle.wiring.proofs.derivative.Rules.{part_flat, one_rule}
use Rattle.wiring.proofs.kinds.Plain.{plain_lawful}
use Rattle.wiring.proofs.quadratic.Definition1.{no_members}

-- ---- the derivative of a monomial without signals, by two systems that differ in the equations of signals alone
module _ (marks : ℕ) (z : Mono) (none : (i : ℕ) → marked marks i ≡ true → get_or z i 0 ≡ 0) where
  part_free : (i : ℕ) (f g : Poly Mono) → (marked marks i ≡ false → g ≡ f) → part plain i z g ≡ part plain i z f
  part_free i f g own = go (test (marked marks i))
    where
      go : Tested (marked marks i) → part plain i z g ≡ part plain i z f
      go (failed e) = ap (part plain i z) (own e)
      go (passed e) = let flat = ap pos (none i e) in part_flat plain i z g flat ∙ sym (part_flat plain i z f flat)

  parts_free : (i : ℕ) (fs gs : List (Poly Mono)) → length gs ≡ length fs → ((j : ℕ) → marked marks (i + j) ≡ false → get_or gs j [] ≡ get_or fs j [])
      → parts_from plain i z gs ≡ parts_from plain i z fs
  unfolding parts_from
  parts_free i [] [] l own = refl
  parts_free i [] (g ∷ gs) l own = let x : ⊥ = omega arith in absurd x
  parts_free i (f ∷ fs) [] l own = let x : ⊥ = omega arith in absurd x
  parts_free i (f ∷ fs) (g ∷ gs) l own =
      let first : marked marks i ≡ false → g ≡ f = λ e. own 0 (ap (marked marks) (let q : i + 0 ≡ i = omega arith in q) ∙ e) in
      let next : (j : ℕ) → suc i + j ≡ i + suc j = λ j. omega arith in
      ap₂ ◌++◌ (part_free i f g first) (parts_free (suc i) fs gs (omega arith) (λ j e. own (suc j) (ap (marked marks) (sym (next j)) ∙ e)))

  pub derivative_free : (fs gs : List (Poly Mono)) → Driven marks fs gs → derivative plain gs z ≡ derivative plain fs z
  unfolding derivative
  derivative_free fs gs d = parts_free 0 fs gs d.long (λ j e. d.own j (ap (marked marks) (let q : j ≡ 0 + j = omega arith in q) ∙ e))

-- ---- so the derivative of what has one is the same, whatever the equations of the signals are
module _ (marks : ℕ) (fs : List (Poly Mono)) where
  pub slope_free : (z : Mono) → T (free marks z) → slope marks fs z ≡ derivative plain fs z
  unfolding slope
  slope_free z t = rw (T→is (free marks z) t)

  pub slope_held : (z : Mono) → (T (free marks z) → ⊥) → slope marks fs z ≡ []
  unfolding slope
  slope_held z f = rw (n_t→is (free marks z) f)

  slope_at : (gs : List (Poly Mono)) → Driven marks fs gs → (z : Mono) → slope marks gs z ≡ slope marks fs z
  unfolding slope
  slope_at gs d z = go (test (free marks z))
    where
      go : Tested (free marks z) → slope marks gs z ≡ slope marks fs z
      go (failed e) = rw e
      go (passed e) = rw e (derivative_free marks z (free_out marks z (is→T (free marks z) e)) fs gs d)

  -- what is said of the one derivation is said of the other
  pub slope_driven : (gs : List (Poly Mono)) → Driven marks fs gs → slope marks gs ≡ slope marks fs
  slope_driven gs d = fun_ext (slope_at gs d)

  -- ---- Definition 1 by it is over the left variables that have an equation
  nothing_linked : (v : List Mono) → Linked plain v []
  unfolding multiplied
  nothing_linked v = record { list = []; members = λ q h. absurd (Memᴰ.not-nil h); equal = λ m. refl }

  pub over_the_left : (v : List Mono) → Quadratic plain v (slope marks fs) ↔ LeftLinked marks fs v
  over_the_left v = (λ q z h t. subst (Linked plain v) (slope_free z t) (q z h), λ f z h. go z (f z h) (test (free marks z)))
    where
      go : (z : Mono) → (T (free marks z) → Linked plain v (derivative plain fs z)) → Tested (free marks z) → Linked plain v (slope marks fs z)
      go z f (passed e) = let t = is→T (free marks z) e in subst (Linked plain v) (sym (slope_free z t)) (f t)
      go z f (failed e) = subst (Linked plain v) (sym (slope_held z (is→n_t (free marks z) e))) (nothing_linked v)

-- ---- a signal that a monomial holds
record Held (marks : ℕ) (z : Mono) : Type 0 where
  place : ℕ
  signal : marked marks place ≡ true
  raised : 0 < get_or z place 0

held : (marks : ℕ) (z : Mono) → free marks z ≡ false → Held marks z
unfolding free
held marks [] e = absurd (is→n_t (free marks []) e tt)
held marks (x ∷ z) e = go (test (eqb x 0)) (test (marked marks 0)) (held (marks / 2) z)
  where
    later : (free (marks / 2) z ≡ false → Held (marks / 2) z) → free (marks / 2) z ≡ false → Held marks (x ∷ z)
    later f q = let r = f q in record { place = suc r.place; signal = marked_next marks r.place ∙ r.signal; raised = r.raised }

    go : Tested (eqb x 0) → Tested (marked marks 0) → (free (marks / 2) z ≡ false → Held (marks / 2) z) → Held marks (x ∷ z)
    go (passed p) q f = later f (rw p at e)
    go (failed p) (failed q) f = later f (rw (p, q) at e)
    go (failed p) (passed q) f = let n : x ≡ 0 → ⊥ = eqb-false x 0 p in record { place = 0; signal = q; raised = omega arith }

-- 1 and the variables have one exponent at the most
constant_one : (w i j : ℕ) (z : Mono) → z ∈ constants w → 0 < get_or z i 0 → 0 < get_or z j 0 → i ≡ j
constant_one w i j z h a b = go (test (eqb i j))
  where
    go : Tested (eqb i j) → i ≡ j
    go (passed e) = eqb-true i j e
    go (failed e) =
        let other : get_or (set z j (get_or z j 0 - 1)) i 0 ≡ get_or z i 0 = get_or-set_other z j i (get_or z j 0 - 1) 0 (eqb-false i j e) in
        let low : get_or (set z j (get_or z j 0 - 1)) i 0 ≤ 0 = at_most_at 0 (set z j (get_or z j 0 - 1)) i (constants_quo w j z h b) in
        absurd (omega arith)

-- ---- over clean records no signal has an equation, and its own derivative is nothing
module _ (panel : Panel) (terms : List ℕ) (clean : fault panel (records terms) ≡ Ok tt) where
  signal_flat : (z : Mono) → z ∈ constants width → free panel.marks z ≡ false → derivative plain (system (records terms)) z ≡ []
  signal_flat z h e = no_members (derivative plain (system (records terms)) z) (λ t k. none (derived (records terms) z t.1 (Memᴰ.map (λ (x : Term Mono). x.1) k)))
    where
      none : {m : Mono} → Derived (records terms) z m → ⊥
      none d =
          let own = held panel.marks z e in
          let f = fields_out panel d.by (clean_right panel [] (records terms) clean d.by d.listed) in
          let at : own.place ≡ d.by.equation - 1 = constant_one width own.place (d.by.equation - 1) z h own.raised d.raised in
          is→n_t (marked panel.marks own.place) (ap (marked panel.marks) at ∙ f.unfed) (is→T (marked panel.marks own.place) own.signal)

  -- so on V of a set without signals the derivative is that of what has one
  pub slope_is : (s : List Mono) → Free panel.marks s → (z : Mono) → z ∈ signals width panel.n s
      → derivative plain (system (records terms)) z ≡ slope panel.marks (system (records terms)) z
  slope_is s free_set z h = go (test (free panel.marks z))
    where
      fs : List (Poly Mono)
      fs = system (records terms)

      go : Tested (free panel.marks z) → derivative plain fs z ≡ slope panel.marks fs z
      go (passed e) = sym (slope_free panel.marks fs z (is→T (free panel.marks z) e))
      go (failed e) =
          let out = is→n_t (free panel.marks z) e in
          ⊎_elim (λ b. signal_flat z (take_in (suc panel.n) (constants width) b) e ∙ sym (slope_held panel.marks fs z out))
          (λ k. absurd (out (free_in panel.marks z (free_set z k)))) (signals_cases panel.n s h)

-- ---- the first signal whose derivative is not met: never 1, whose derivative is zero, and never what has none
pub first_unlinked_raised : (w n marks : ℕ) (fs : List (Poly Mono)) (s : List Mono) (i : ℕ) → FirstUnlinked plain (signals w n s) (slope marks fs) [] i → 1 ≤ i
unfolding signals
first_unlinked_raised w n marks fs s (suc i) f = omega arith
first_unlinked_raised w n marks fs s zero f = absurd (f.unlinked (subst (Linked plain (signals w n s)) (sym (go (test (free marks (one w))))) (nothing_linked marks fs (signals w n s))))
  where
    go : Tested (free marks (one w)) → slope marks fs (one w) ≡ []
    go (passed e) = slope_free marks fs (one w) (is→T (free marks (one w)) e) ∙ one_rule plain plain_lawful w fs
    go (failed e) = slope_held marks fs (one w) (is→n_t (free marks (one w)) e)

pub first_unlinked_free : (marks : ℕ) (fs : List (Poly Mono)) (v : List Mono) (i : ℕ) → FirstUnlinked plain v (slope marks fs) [] i → T (free marks (get_or v i []))
first_unlinked_free marks fs v i f = go (test (free marks (get_or v i [])))
  where
    go : Tested (free marks (get_or v i [])) → T (free marks (get_or v i []))
    go (passed e) = is→T (free marks (get_or v i [])) e
    go (failed e) = absurd (f.unlinked (subst (Linked plain v) (sym (slope_held marks fs (get_or v i []) (is→n_t (free marks (get_or v i [])) e))) (nothing_linked marks fs v)))
