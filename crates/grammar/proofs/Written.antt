-- What the grammar writes is read, and says what its tree means. Assumes nothing.
use mathlib.Core.Path.{◌≡◌, refl, sym, ap, ◌∙◌}
use mathlib.Core.Bool.{false}
use mathlib.Core.List.{[], ◌∷◌, map}
use Prim.Native.Nat.{ℕ, ◌+◌}
use native.Mathlib.Omega.{arith}
use lib.ListN.{length}
use Rattle.reader.specs.Bytes.{newline}
use Rattle.reader.specs.Reader.{run}
use Rattle.listing.specs.Bytes.{heading}
use Rattle.listing.specs.Lines.{lefts}
use Rattle.listing.specs.Machine.{ended, spell, line_from, begin_line, eat_at, eat, start}
use Rattle.listing.specs.Readable.{ends}
use Rattle.listing.specs.Saying.{saying_at, saying}
use Rattle.listing.specs.Meaning.{Naming, named, Telling, told, unnamed, untold, telling}
use Rattle.listing.specs.declared.known.Known.{Known}
use Rattle.listing.specs.declared.machine.Reading.TheVariants.{Ended}
use Rattle.listing.specs.declared.machine.Place.TheVariants.{Names as AtNames}
use Rattle.grammar.specs.Grammar.{Tree, monomial_of, product_of, names_from, lines_from, text, TreeRight}
use Rattle.grammar.specs.Claims.{Reads}
use Rattle.grammar.proofs.Noting.{with, at, Eats, then, noting_is}
use Rattle.grammar.proofs.NameLines.{lined, name-lines}
use Rattle.grammar.proofs.DerivativeLines.{derivative_lines}

module _ (k : Known) where
  headed : Eats k (with start unnamed untold) heading (at AtNames 0 0 0 unnamed untold)
  unfolding run eat eat_at spell saying saying_at named told
  headed = record { is = refl }

  -- the blank line
  parted : (i : ℕ) (n : Naming) (t : Telling) → Eats k (at AtNames i 0 0 n t) (newline ∷ []) (with (line_from k i 0) n t)
  unfolding run eat eat_at begin_line ended saying saying_at named told
  parted i n t = record { is = refl }

  module _ (t : Tree) (right : TreeRight k t) where
    named_first : Eats k (at AtNames 0 0 0 unnamed untold) (names_from k 0 t.names) (at AtNames (length t.names) 0 0 (lined (map monomial_of t.names)) untold)
    named_first =
        let e : 0 + length t.names ≡ length t.names = omega arith in
        rw e at (name-lines k untold t.names 0 [] (omega (arith, right.few)) right.factors)

    told_then : (n : Naming) → Eats k (with (line_from k (length t.names) 0) n untold) (lines_from k (lefts k (length t.names)) t.lines)
        (with Ended n (telling (map (map product_of) t.lines) [] false 0 0 0))
    told_then n = derivative_lines k (length t.names) n t.lines 0 [] (omega (arith, right.told)) right.terms

    whole : Eats k (with start unnamed untold) (text k t) (with Ended (lined (map monomial_of t.names)) (telling (map (map product_of) t.lines) [] false 0 0 0))
    unfolding text
    whole = then k (then k headed named_first) (then k (parted (length t.names) _ untold) (told_then (lined (map monomial_of t.names))))

-- the text of every right tree is readable, and says what the tree means
pub written : (k : Known) (t : Tree) → TreeRight k t → Reads k t
written k t right =
    let e = sym (noting_is k start unnamed untold (text k t)) ∙ (whole k t right).is in
    record { reads = ap (λ q. ends q.reading) e; named = ap (λ q. q.naming.whole) e; told = ap (λ q. q.telling.lines) e }
