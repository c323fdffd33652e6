-- The words of what is claimed of trees and texts. Assumes nothing.
use Rattle.std.specs.Prelude.{◌≡◌, true, List, map, ℕ}
use Rattle.reader.specs.Reader.{readable}
use Rattle.listing.specs.Readable.{listing}
use Rattle.listing.specs.Meaning.{names, lines}
use Rattle.listing.specs.declared.known.Known.{Known}
use Rattle.grammar.specs.Grammar.{Tree, monomial_of, product_of, text, TreeRight}

-- what a tree is written as is readable, and says what the tree means
pub record Reads (k : Known) (t : Tree) : Type 0 where
  pub reads : readable (listing k) (text k t) ≡ true
  pub named : names k (text k t) ≡ map monomial_of t.names
  pub told : lines k (text k t) ≡ map (map product_of) t.lines

-- a text is that of a right tree
pub record Tells (k : Known) (t : List ℕ) : Type 0 where
  pub tree : Tree
  pub right : TreeRight k tree
  pub is : t ≡ text k tree
