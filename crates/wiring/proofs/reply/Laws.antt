-- Two replies with the same numbers are the same reply: the numbers say which case it is and what it holds. Assumes nothing.
use mathlib.Core.Path.{◌≡◌, refl, sym, ap, ◌∙◌, subst}
use mathlib.Core.Bool.{cond}
use mathlib.Core.List.{List, [], ◌∷◌}
use Prim.Native.Nat.{ℕ}
use native.Mathlib.Omega.{arith}
use denote.Enum.Declared.{tag_of}
use lib.Dec.{eqb}
use types.Run.{OneOf, miss}
use Rattle.wiring.specs.Reply.{Numbers, numbers}
use Rattle.wiring.specs.contracts.reply.Reply.{the_type}
use Rattle.wiring.specs.declared.reply.Reply.{Reply}
use Rattle.wiring.specs.declared.reply.Reply.TheVariants.{Done, Setting, Length, Term, Twice, Nothing, Full, Spent, BadSet, NotQuadratic, Unreadable, FalseLine}

-- the reply with these numbers
back : Numbers → Reply
back x =
    cond (eqb x.code 0) (Done x.order x.count x.steps)
    (cond (eqb x.code 1) Setting
    (cond (eqb x.code 2) Length
    (cond (eqb x.code 3) (Term x.place)
    (cond (eqb x.code 4) (Twice x.place)
    (cond (eqb x.code 5) (Nothing x.order x.steps)
    (cond (eqb x.code 6) (Full x.order x.steps)
    (cond (eqb x.code 7) (Spent x.order x.steps)
    (cond (eqb x.code 8) BadSet
    (cond (eqb x.code 9) (NotQuadratic x.order x.place)
    (cond (eqb x.code 10) (Unreadable x.place)
    (FalseLine x.place)))))))))))

there_and_back : (r : Reply) → back (numbers r) ≡ r
unfolding back
there_and_back (Done order count steps) = refl
there_and_back Setting = refl
there_and_back Length = refl
there_and_back (Term place) = refl
there_and_back (Twice place) = refl
there_and_back (Nothing order steps) = refl
there_and_back (Full order steps) = refl
there_and_back (Spent order steps) = refl
there_and_back BadSet = refl
there_and_back (NotQuadratic order place) = refl
there_and_back (Unreadable place) = refl
there_and_back (FalseLine place) = refl

pub same_reply : (r r' : Reply) → numbers r ≡ numbers r' → r ≡ r'
same_reply r r' e = sym (there_and_back r) ∙ ap back e ∙ there_and_back r'

-- code 0 is done's
pub record IsDone (r : Reply) : Type 0 where
  pub order : ℕ
  pub count : ℕ
  pub steps : ℕ
  pub is : r ≡ Done order count steps

pub code_done : (r : Reply) → (numbers r).code ≡ 0 → IsDone r
code_done (Done o c k) e = record { order = o; count = c; steps = k; is = refl }
code_done Setting e = let z : ⊥ = omega arith in absurd z
code_done Length e = let z : ⊥ = omega arith in absurd z
code_done (Term p) e = let z : ⊥ = omega arith in absurd z
code_done (Twice p) e = let z : ⊥ = omega arith in absurd z
code_done (Nothing o s) e = let z : ⊥ = omega arith in absurd z
code_done (Full o s) e = let z : ⊥ = omega arith in absurd z
code_done (Spent o s) e = let z : ⊥ = omega arith in absurd z
code_done BadSet e = let z : ⊥ = omega arith in absurd z
code_done (NotQuadratic o p) e = let z : ⊥ = omega arith in absurd z
code_done (Unreadable p) e = let z : ⊥ = omega arith in absurd z
code_done (FalseLine p) e = let z : ⊥ = omega arith in absurd z

-- only done counts anything: what holds of 0 and of its count holds of what any reply counts
pub done_counts : (P : ℕ → Type 0) (r : Reply) → P 0 → ((o c k : ℕ) → r ≡ Done o c k → P c) → P (numbers r).count
done_counts P (Done o c k) z h = h o c k refl
done_counts P Setting z h = z
done_counts P Length z h = z
done_counts P (Term p) z h = z
done_counts P (Twice p) z h = z
done_counts P (Nothing o k) z h = z
done_counts P (Full o k) z h = z
done_counts P (Spent o k) z h = z
done_counts P BadSet z h = z
done_counts P (NotQuadratic o p) z h = z
done_counts P (Unreadable p) z h = z
done_counts P (FalseLine p) z h = z

-- a match that came to another kind of reply than not quadratic, number 9 of the twelve
abbrev others : List ℕ
others = 0 ∷ 1 ∷ 2 ∷ 3 ∷ 4 ∷ 5 ∷ 6 ∷ 7 ∷ 8 ∷ 10 ∷ 11 ∷ []

pub other_kinds : (r : Reply) → OneOf others (tag_of the_type r) → (o p : ℕ) → r ≡ NotQuadratic o p → ⊥
other_kinds r h o p e = miss others 9 tt (subst (λ (x : Reply). OneOf others (tag_of the_type x)) e h)
