-- Two right trees that are written alike are one. Assumes nothing.
use mathlib.Core.Path.{◌≡◌, sym, ap, ap₂, ◌∙◌}
use mathlib.Core.List.{List}
use lib.ListN.{length}
use Rattle.listing.specs.Bytes.{heading}
use Rattle.listing.specs.Lines.{lefts}
use Rattle.listing.specs.declared.known.Known.{Known}
use Rattle.grammar.specs.Grammar.{Factor, Term, Tree, lines_from, text, TreeRight}
use Rattle.grammar.proofs.Apart.{same_front}
use Rattle.grammar.proofs.OneLine.{lines_are}
use Rattle.grammar.proofs.OneName.{names_are}

tree : List (List Factor) → List (List Term) → Tree
tree names lines = record { names = names; lines = lines }

pub one_tree : (k : Known) (a b : Tree) → TreeRight k a → TreeRight k b → text k a ≡ text k b → a ≡ b
unfolding text tree
one_tree k a b f g e =
    let r = names_are k 0 a.names b.names (λ fs m. (f.factors fs m).0) (λ fs m. (g.factors fs m).0) (same_front heading e) in
    let same : lefts k (length a.names) ≡ lefts k (length b.names) = ap (λ l. lefts k (length l)) r.0 in
    let written = sym (ap (λ ss. lines_from k ss a.lines) same) ∙ r.1 in
    let lines =
    lines_are k (lefts k (length b.names)) a.lines b.lines (λ ts m t i. (f.terms ts m t i).some) (λ ts m t i. (g.terms ts m t i).some) (f.told ∙ ap length same) g.told written in
    ap₂ tree r.0 lines
