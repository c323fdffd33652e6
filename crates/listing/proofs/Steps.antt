-- What holds of the readings that a step can lead to holds of the one that it leads to: step by step, for anything that may hold. Assumes nothing.
use mathlib.Core.Bool.{◌&&◌}
use mathlib.Core.List.{List}
use Prim.Native.Nat.{ℕ, ◌+◌, ◌-◌, ◌≤◌, ◌<◌}
use lib.Dec.{leb, ltb, eqb, leb→le, ltb→lt}
use lib.ListN.{length, get_or}
use Rattle.reader.specs.Bytes.{newline, nought, nine}
use Rattle.listing.specs.Bytes.{letter_x, letter_w}
use Rattle.listing.specs.Machine.{state, to, one, span, ended, spell, begin_name, begin_term}
use Rattle.listing.specs.declared.machine.State.{State}
use Rattle.listing.specs.declared.machine.Reading.{Reading}
use Rattle.listing.specs.declared.machine.Reading.TheVariants.{Dead, At}
use Rattle.listing.specs.declared.machine.Place.{Place}
use Rattle.listing.specs.declared.machine.Place.TheVariants.{Coefficient, X1, W1}
use Rattle.monomial.proofs.Tests.{and_r, cond_cases}

module _ (P : Reading → Type 0) where
  pub one_all : (x c : ℕ) (s : State) (p : Place) (other : Reading) → P (to s p) → P other → P (one x c s p other)
  unfolding one
  one_all x c s p other h k = cond_cases P (eqb x c) (to s p) other (λ t. h) (λ f. k)

  pub span_all : (x low high : ℕ) (s : State) (p : Place) (other : Reading) → P (to s p) → P other → P (span x low high s p other)
  unfolding span
  span_all x low high s p other h k = cond_cases P (leb low x && leb x high) (to s p) other (λ t. h) (λ f. k)

  pub ended_all : (x : ℕ) (go other : Reading) → P go → P other → P (ended x go other)
  unfolding ended
  ended_all x go other h k = cond_cases P (eqb x newline) go other (λ t. h) (λ f. k)

  module _ (dead : P Dead) (x : ℕ) (s : State) where
    pub spell_all : (word : List ℕ) (done : Reading) → (s.number + 1 < length word → P (At (state s.at s.names s.line (s.number + 1)))) → P done → P (spell word x s done)
    unfolding spell
    spell_all word done f d =
        cond_cases P (eqb x (get_or word s.number 0)) _ Dead
        (λ t. cond_cases P (ltb (s.number + 1) (length word)) (At (state s.at s.names s.line (s.number + 1))) done (λ u. f (ltb→lt _ _ u)) (λ u. d))
        (λ f. dead)

    pub name_all : (p q : Place) → P (to s p) → (0 < s.names → P (to s q)) → P (begin_name x s p q)
    unfolding begin_name
    name_all p q h k =
        one_all x letter_x s p _ h
        (cond_cases P (ltb 0 s.names) (one x letter_w s q Dead) Dead (λ t. one_all x letter_w s q Dead (k (ltb→lt _ _ t)) dead) (λ u. dead))

    pub term_all : (x ≤ nine → P (At (state Coefficient s.names s.line (x - nought)))) → P (to s X1) → (0 < s.names → P (to s W1)) → P (begin_term x s)
    unfolding begin_term
    term_all c h k =
        cond_cases P (leb (nought + 1) x && leb x nine) (At (state Coefficient s.names s.line (x - nought))) (begin_name x s X1 W1)
        (λ t. c (leb→le x nine (and_r (leb (nought + 1) x) (leb x nine) t))) (λ u. name_all X1 W1 h k)
