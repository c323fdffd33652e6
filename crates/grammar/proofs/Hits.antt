-- What holds of each byte that leads on, with the reading that it leads to, holds of the byte that is read: step by step, for anything that may hold.
-- Assumes nothing.
use mathlib.Core.Path.{sym, subst}
use mathlib.Core.Bool.{cond, ◌&&◌}
use mathlib.Core.List.{List}
use Prim.Native.Nat.{ℕ, ◌+◌, ◌-◌, ◌≤◌, ◌<◌}
use lib.Dec.{leb, ltb, eqb, leb→le, ltb→lt}
use lib.ListN.{length, get_or}
use borrow.Author.Tests.{eqb-true, ltb-false}
use Rattle.monomial.proofs.Tests.{T→is, n_t→is, and_l, and_r, cond_cases}
use Rattle.reader.specs.Bytes.{newline, nought, nine}
use Rattle.listing.specs.Bytes.{letter_x, letter_w}
use Rattle.listing.specs.Machine.{state, to, one, span, ended, spell, begin_name, begin_term}
use Rattle.listing.specs.declared.machine.State.{State}
use Rattle.listing.specs.declared.machine.Reading.{Reading}
use Rattle.listing.specs.declared.machine.Reading.TheVariants.{Dead, At}
use Rattle.listing.specs.declared.machine.Place.{Place}
use Rattle.listing.specs.declared.machine.Place.TheVariants.{Coefficient, X1, W1}

module _ (P : ℕ → Reading → Type 0) (x : ℕ) (s : State) where
  pub ended_hits : (go other : Reading) → P newline go → P x other → P x (ended x go other)
  unfolding ended
  ended_hits go other h o = cond_cases (P x) (eqb x newline) go other (λ t. subst (λ y. P y go) (sym (eqb-true x newline (T→is _ t))) h) (λ u. o)

  pub one_hits : (c : ℕ) (p : Place) (other : Reading) → P c (to s p) → P x other → P x (one x c s p other)
  unfolding one
  one_hits c p other h o = cond_cases (P x) (eqb x c) (to s p) other (λ t. subst (λ y. P y (to s p)) (sym (eqb-true x c (T→is _ t))) h) (λ u. o)

  pub span_hits : (low high : ℕ) (p : Place) (other : Reading) → (low ≤ x → x ≤ high → P x (to s p)) → P x other → P x (span x low high s p other)
  unfolding span
  span_hits low high p other h o =
      cond_cases (P x) (leb low x && leb x high) (to s p) other
      (λ t. h (leb→le low x (and_l (leb low x) (leb x high) t)) (leb→le x high (and_r (leb low x) (leb x high) t))) (λ u. o)

  module _ (dead : P x Dead) where
    pub spell_hits : (word : List ℕ) (done : Reading) → (s.number + 1 < length word → P (get_or word s.number 0) (At (state s.at s.names s.line (s.number + 1))))
        → (length word ≤ s.number + 1 → P (get_or word s.number 0) done) → P x (spell word x s done)
    unfolding spell
    spell_hits word done f d =
        let on : Reading = At (state s.at s.names s.line (s.number + 1)) in
        let next : Reading = cond (ltb (s.number + 1) (length word)) on done in
        cond_cases (P x) (eqb x (get_or word s.number 0)) next Dead
        (λ t. subst (λ y. P y next) (sym (eqb-true x (get_or word s.number 0) (T→is _ t)))
        (cond_cases (P (get_or word s.number 0)) (ltb (s.number + 1) (length word)) on done (λ u. f (ltb→lt _ _ u)) (λ u. d (ltb-false _ _ (n_t→is _ u)))))
        (λ u. dead)

    pub name_hits : (p q : Place) → P letter_x (to s p) → (0 < s.names → P letter_w (to s q)) → P x (begin_name x s p q)
    unfolding begin_name
    name_hits p q h o =
        one_hits letter_x p _ h
        (cond_cases (P x) (ltb 0 s.names) (one x letter_w s q Dead) Dead (λ t. one_hits letter_w q Dead (o (ltb→lt _ _ t)) dead) (λ u. dead))

    pub term_hits : (nought + 1 ≤ x → x ≤ nine → P x (At (state Coefficient s.names s.line (x - nought)))) → P letter_x (to s X1) → (0 < s.names → P letter_w (to s W1)) → P x (begin_term x s)
    unfolding begin_term
    term_hits d h o =
        cond_cases (P x) (leb (nought + 1) x && leb x nine) (At (state Coefficient s.names s.line (x - nought))) (begin_name x s X1 W1)
        (λ t. d (leb→le (nought + 1) x (and_l (leb (nought + 1) x) (leb x nine) t)) (leb→le x nine (and_r (leb (nought + 1) x) (leb x nine) t))) (λ u. name_hits X1 W1 h o)
