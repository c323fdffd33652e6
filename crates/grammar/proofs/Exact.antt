-- The machine reads the texts of right trees, and no others; each is the text of one tree alone. Assumes nothing.
use mathlib.Core.Path.{◌≡◌, sym, ap, ◌∙◌, subst}
use mathlib.Core.Logic.{◌↔◌}
use mathlib.Core.Bool.{true}
use mathlib.Core.List.{List, ◌∷◌, ◌++◌, map}
use Prim.Native.Nat.{ℕ, ◌+◌}
use native.Mathlib.Omega.{arith}
use lib.ListN.{length}
use Rattle.reader.specs.Bytes.{newline}
use Rattle.reader.specs.Reader.{readable}
use Rattle.listing.specs.Bytes.{heading}
use Rattle.listing.specs.Machine.{start}
use Rattle.listing.specs.Meaning.{names, lines}
use Rattle.listing.specs.Readable.{listing}
use Rattle.listing.specs.declared.known.Known.{Known}
use Rattle.grammar.specs.Grammar.{monomial_of, product_of, names_from, text}
use Rattle.grammar.specs.Claims.{Tells}
use Rattle.grammar.proofs.Rests.{Lines, NameLines}
use Rattle.grammar.proofs.Backwards.{rest_is}
use Rattle.grammar.proofs.Written.{written}
use Rattle.grammar.proofs.OneTree.{one_tree}

module _ (k : Known) where
  -- both parts behind the heading
  parts : (t : List ℕ) → NameLines k 0 t → Tells k (heading ++ t)
  unfolding text
  parts t n = go n.count n.counts n.on
    where
      go : (c : ℕ) → c ≡ 0 + length n.names → Lines k c 0 n.end → Tells k (heading ++ t)
      go c e h =
          let f : c ≡ length n.names = omega arith in
          let ls = subst (λ i. Lines k i 0 n.end) f h in
          record {
            tree = record { names = n.names; lines = ls.lines };
            right = record { few = omega (arith, n.counts, n.few (omega arith)); factors = n.factors; told = ls.told; terms = ls.terms };
            is = ap (λ r. heading ++ r) (n.is ∙ ap (λ r. names_from k 0 n.names ++ (newline ∷ r)) ls.is);
          }

  -- a text that is readable is that of a right tree
  pub read_written : (t : List ℕ) → readable (listing k) t ≡ true → Tells k t
  read_written t e =
      let p = rest_is k start t e (omega arith) in
      subst (Tells k) (sym p.is) (parts p.end p.on)

  pub readable_exact : (t : List ℕ) → (readable (listing k) t ≡ true) ↔ Tells k t
  readable_exact t = (read_written t, λ h. rw h.is (written k h.tree h.right).reads)

  module _ {t : List ℕ} (h : Tells k t) where
    -- no other tree is written so
    pub tells_one : (g : Tells k t) → g.tree ≡ h.tree
    tells_one g = one_tree k g.tree h.tree g.right h.right (sym g.is ∙ h.is)

    -- and the text says what the tree means
    pub tells_named : names k t ≡ map monomial_of h.tree.names
    tells_named = ap (names k) h.is ∙ (written k h.tree h.right).named

    pub tells_told : lines k t ≡ map (map product_of) h.tree.lines
    tells_told = ap (lines k) h.is ∙ (written k h.tree h.right).told
