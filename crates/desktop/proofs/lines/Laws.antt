-- A term as its bytes say it, and what makes a term and a line whole. Assumes nothing.
use mathlib.Core.Path.{◌≡◌, refl, sym, ap}
use mathlib.Core.Bool.{Bool, true, false, not}
use mathlib.Core.List.{List, [], ◌∷◌, ◌++◌}
use Prim.Native.Nat.{ℕ, zero, suc, ◌<◌}
use native.Mathlib.Omega.{arith}
use lib.ListN.{length, get_or}
use Rattle.monomial.specs.Lists.{all, place}
use Rattle.listing.specs.Counted.{line_ends}
use Rattle.listing.specs.Meaning.{term, told}
use Rattle.listing.specs.declared.saying.Saying.{Saying}
use Rattle.listing.specs.declared.saying.Saying.TheVariants.{Silence, Variable, Raised, Digit, NameEnds, Minus, Number, Name, Again, TermEnds, LineEnds, ZeroLine}
use Rattle.desktop.specs.Lines.{Notes, Says, product_of, ends_line, with_term}
use Rattle.desktop.specs.declared.lines.Telling.{Telling}

pub ends_counts : (σ : Saying) → ends_line σ ≡ true → line_ends σ ≡ 1
ends_counts Silence e = cc
ends_counts (Variable v) e = cc
ends_counts Raised e = cc
ends_counts (Digit d) e = cc
ends_counts NameEnds e = cc
ends_counts Minus e = cc
ends_counts (Number v) e = cc
ends_counts (Name s) e = cc
ends_counts Again e = cc
ends_counts TermEnds e = cc
ends_counts LineEnds e = refl
ends_counts ZeroLine e = refl

-- ---- what is noted of a line: it is whole, or goes on
pub line_whole : (σ : Saying) (q : Notes) → ends_line σ ≡ true → (told σ q).lines ≡ q.lines ++ (with_term σ q.terms (term q) ∷ [])
unfolding told with_term
line_whole Silence q e = cc
line_whole (Variable v) q e = cc
line_whole Raised q e = cc
line_whole (Digit d) q e = cc
line_whole NameEnds q e = cc
line_whole Minus q e = cc
line_whole (Number v) q e = cc
line_whole (Name s) q e = cc
line_whole Again q e = cc
line_whole TermEnds q e = cc
line_whole LineEnds q e = refl
line_whole ZeroLine q e = refl

pub line_new : (σ : Saying) (q : Notes) → ends_line σ ≡ true → (told σ q).terms ≡ []
unfolding told
line_new Silence q e = cc
line_new (Variable v) q e = cc
line_new Raised q e = cc
line_new (Digit d) q e = cc
line_new NameEnds q e = cc
line_new Minus q e = cc
line_new (Number v) q e = cc
line_new (Name s) q e = cc
line_new Again q e = cc
line_new TermEnds q e = cc
line_new LineEnds q e = refl
line_new ZeroLine q e = refl

pub line_kept : (σ : Saying) (q : Notes) → ends_line σ ≡ false → (told σ q).lines ≡ q.lines
unfolding told
line_kept Silence q e = refl
line_kept (Variable v) q e = refl
line_kept Raised q e = refl
line_kept (Digit d) q e = refl
line_kept NameEnds q e = refl
line_kept Minus q e = refl
line_kept (Number v) q e = refl
line_kept (Name s) q e = refl
line_kept Again q e = refl
line_kept TermEnds q e = refl
line_kept LineEnds q e = cc
line_kept ZeroLine q e = cc

pub line_longer : (σ : Saying) (q : Notes) → ends_line σ ≡ false → (told σ q).terms ≡ with_term σ q.terms (term q)
unfolding told with_term
line_longer Silence q e = refl
line_longer (Variable v) q e = refl
line_longer Raised q e = refl
line_longer (Digit d) q e = refl
line_longer NameEnds q e = refl
line_longer Minus q e = refl
line_longer (Number v) q e = refl
line_longer (Name s) q e = refl
line_longer Again q e = refl
line_longer TermEnds q e = refl
line_longer LineEnds q e = cc
line_longer ZeroLine q e = cc

-- ---- the code's notes of a term
pub product_is : (q : Notes) (t : Telling) → Says q t → product_of t ≡ term q
product_is q t s = rw (s.negative, s.number, s.a, s.b)

pub says_fresh : (q : Notes) (t : Telling) → t ≡ record { negative = false; number = 0; a = 0; b = 0 } → q.negative ≡ false → q.number ≡ 0 → q.a ≡ 0 → q.b ≡ 0 → Says q t
says_fresh q t e n m a b =
    rw e (record { negative = sym n; number = sym m; a = sym a; b = sym b })

-- ---- tests in their order
-- the first that fails
pub first_off : (l : List Bool) (i : ℕ) → i < length l → ((j : ℕ) → j < i → get_or l j false ≡ true) → get_or l i false ≡ false → (all (λ b. b) l ≡ false) × (place not l ≡ i)
unfolding all place
first_off [] i h f e = absurd (omega arith)
first_off (b ∷ l) zero h f e = rw e (refl, refl)
first_off (b ∷ l) (suc i) h f e =
    let ih = first_off l i (omega arith) (λ j k. f (suc j) (omega arith)) e in
    rw (f 0 (omega arith)) (ih.0, ap suc ih.1)

pub all_on : (l : List Bool) → ((j : ℕ) → j < length l → get_or l j false ≡ true) → all (λ b. b) l ≡ true
unfolding all
all_on [] f = refl
all_on (b ∷ l) f = rw (f 0 (omega arith)) (all_on l (λ j k. f (suc j) (omega arith)))
