-- Each line of what is said of a listing by its number. Assumes nothing.
use mathlib.Core.Path.{◌≡◌, refl}
use mathlib.Core.List.{List, []}
use Prim.Native.Nat.{ℕ, zero, suc, ◌<◌}
use native.Mathlib.Omega.{arith}
use borrow.Author.Tests.{eq-eqb, ne_eqb}
use lib.ListN.{length, get_or}
use Rattle.monomial.proofs.Tests.{Tested, passed, failed, test}
use lib.Dec.{eqb}
use Rattle.wiring.specs.Reply.{Outcome, in_order}
use Rattle.lines.specs.Answer.{reply_line, set_line}
use Rattle.listed.specs.Reading.{heard_lines}

module _ (o : Outcome) where
  pub reply_first : (k : ℕ) → k ≡ 0 → reply_line (in_order o.said) ≡ get_or (heard_lines o) k []
  unfolding heard_lines
  reply_first k e = rw e

  pub refused_none : (k : ℕ) → (k ≡ 0 → ⊥) → (o.said.code ≡ 0 → ⊥) → [] ≡ get_or (heard_lines o) k []
  unfolding heard_lines
  refused_none zero h f = absurd (h refl)
  refused_none (suc k) h f = rw (ne_eqb o.said.code 0 f)

  pub set_told : {k : ℕ} {line : List ℕ} → k ≡ 1 → o.said.code ≡ 0 → line ≡ set_line o.bytes o.said.order → line ≡ get_or (heard_lines o) k []
  unfolding heard_lines
  set_told e z told = rw (e, eq-eqb o.said.code 0 z) told

  pub none_next : (k : ℕ) → (k ≡ 0 → ⊥) → (k ≡ 1 → ⊥) → [] ≡ get_or (heard_lines o) k []
  unfolding heard_lines
  none_next zero h i = absurd (h refl)
  none_next (suc zero) h i = absurd (i refl)
  none_next (suc (suc k)) h i = go (test (eqb o.said.code 0))
    where
      go : Tested (eqb o.said.code 0) → [] ≡ get_or (heard_lines o) (suc (suc k)) []
      go (passed t) = rw t
      go (failed t) = rw t

  -- how many there are
  pub heard_some : 0 < length (heard_lines o)
  unfolding heard_lines
  heard_some = omega arith

  pub heard_refused : (o.said.code ≡ 0 → ⊥) → length (heard_lines o) ≡ 1
  unfolding heard_lines
  heard_refused f = rw (ne_eqb o.said.code 0 f)

  pub heard_done : o.said.code ≡ 0 → length (heard_lines o) ≡ 2
  unfolding heard_lines
  heard_done z = rw (eq-eqb o.said.code 0 z)
