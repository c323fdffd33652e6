-- `note` meets its contract: saying by saying; what is of no term changes nothing. Assumes nothing.
use mathlib.Core.Path.{◌≡◌, refl}
use mathlib.Core.Logic.{⊎_elim}
use mathlib.Core.Bool.{false}
use borrow.Author.Rules.{rules}
use Rattle.listing.specs.Meaning.{told}
use Rattle.listing.specs.declared.saying.Saying.{Saying}
use Rattle.listing.specs.declared.saying.Saying.TheVariants.{TermEnds, LineEnds, ZeroLine}
use Rattle.listing.proofs.saying.Laws.{told_none}
use Rattle.desktop.proofs.lines.Laws.{says_fresh}
use Rattle.desktop.proofs.lines.note.Goals as goal

pub returns-in-Minus : goal.returns-in-Minus
unfolding told
returns-in-Minus c = λ q s. rw c.in-Minus.is (record { negative = refl; number = s.number; a = s.a; b = s.b })

pub returns-in-Number : goal.returns-in-Number
unfolding told
returns-in-Number c = λ q s. rw c.in-Number.is (record { negative = s.negative; number = refl; a = s.a; b = s.b })

pub returns-in-Name : goal.returns-in-Name
unfolding told
returns-in-Name c = λ q s. rw c.in-Name.is (record { negative = s.negative; number = s.number; a = s.b; b = refl })

pub returns-in-Again : goal.returns-in-Again
unfolding told
returns-in-Again c = λ q s. rw c.in-Again.is (record { negative = s.negative; number = s.number; a = s.b; b = s.b })

pub returns-in-TermEnds : goal.returns-in-TermEnds
unfolding told
returns-in-TermEnds c = λ q s.
    let fresh = λ (σ : Saying) (n : (told σ q).negative ≡ false) (v : (told σ q).number ≡ 0) (a : (told σ q).a ≡ 0) (b : (told σ q).b ≡ 0). says_fresh (told σ q) _ c.no_term.ensures n v a b in
    ⊎_elim (λ e. rw e (fresh TermEnds refl refl refl refl)) (⊎_elim (λ e. rw e (fresh LineEnds refl refl refl refl)) (λ e. rw e (fresh ZeroLine refl refl refl refl))) c.in-TermEnds.is

pub returns-in_default : goal.returns-in_default
returns-in_default c = λ q s. let h = c.in_default in let e : told c.args.said q ≡ q = search (rules, told_none) in rw e s
