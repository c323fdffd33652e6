-- The listing of a quadratic set is a right tree, and means the set and its wiring list. Assumes nothing.
use mathlib.Core.Path.{◌≡◌, refl, sym, ap, ◌∙◌, subst}
use mathlib.Core.Bool.{true}
use mathlib.Core.List.Memᴰ
use mathlib.Core.List.{List, map, map-map, map-id}
use Prim.Native.Nat.{ℕ, zero, suc, ◌+◌, ◌≤◌, ◌<◌}
use native.Mathlib.Omega.{arith}
use lib.IntN.{ℤ, pos, negsuc, nat_abs}
use lib.ListN.{length, length-map}
use Rattle.monomial.specs.Monomial.{Mono}
use Rattle.monomial.specs.Claims.{◌∈◌}
use Rattle.monomial.proofs.Members.{map_same}
use Rattle.monomial.proofs.Counting.{at_in}
use Rattle.wiring.specs.Panel.{set_exponent}
use Rattle.wiring.specs.Poly.{plain}
use Rattle.wiring.specs.Derivative.{derivative}
use Rattle.wiring.specs.Terms.{records, system}
use Rattle.wiring.specs.Sets.{set_of}
use Rattle.wiring.specs.Wires.{Wire, signal}
use Rattle.wiring.specs.Claims.{Recordable, signals_in, derivative_in, list_in, row_of, Row, Wired, joined, QuadraticIn}
use Rattle.wiring.specs.declared.panel.Panel.{Panel}
use Rattle.wiring.proofs.sets.Exact.{right_recordable}
use Rattle.wiring.proofs.signals.Laws.{signals_length}
use Rattle.wiring.proofs.derivative.Bounds.{clean_total}
use Rattle.wiring.proofs.answers.Limits.{well_clean, well_right, well_slope, signals_fit}
use Rattle.wiring.proofs.answers.Wired.{list_correct}
use Rattle.reader.specs.Reader.{readable}
use Rattle.listing.specs.Lines.{lefts}
use Rattle.listing.specs.Meaning.{names, lines}
use Rattle.listing.specs.Readable.{listing}
use Rattle.listing.specs.declared.known.Known.{Known}
use Rattle.grammar.specs.Grammar.{Factor, Term, Tree, FactorRight, TermRight, TreeRight, monomial_of, product_of}
use Rattle.grammar.specs.Claims.{Reads}
use Rattle.grammar.proofs.Written.{written}
use Rattle.typed.specs.Typed.{factors_of, term_of, terms_of, tree_of}
use Rattle.truth.proofs.truth.Laws.{as_term}
use Rattle.desktop.specs.Read.{known_to}
use Rattle.roundtrip.specs.Claims.{tree_in, text_in}
use Rattle.roundtrip.proofs.Back.{monomial_back, term_back}
use Rattle.listing.proofs.lines.Lefts.{left_member}
use Rattle.roundtrip.proofs.Pieces.{factors_some, factors_right, term-right}

abs_some : (c : ℤ) → (c ≡ pos 0 → ⊥) → 1 ≤ nat_abs c
abs_some (pos zero) n = absurd (n refl)
abs_some (pos (suc v)) n = omega arith
abs_some (negsuc v) n = omega arith

module _ (panel : Panel) (terms set : List ℕ) (given : QuadraticIn panel terms set) where
  abbrev k : Known
  k = known_to panel

  abbrev s : List Mono
  s = set_of set

  abbrev v : List Mono
  v = signals_in panel set

  abbrev list : List Wire
  list = list_in panel terms set

  pub recordable : Recordable panel.n s
  recordable = right_recordable panel set (well_right panel terms set given.formed) given.formed.lengths.long

  many : length v ≡ panel.n + 1 + length s
  many = signals_length panel.n s given.formed.ranged.high

  -- ---- the records of a signal that has a line
  module _ (l : ℕ) (h : l ∈ lefts k (length s)) where
    left_signal : l < length v
    left_signal = omega (arith, many, left_member k (length s) l h)

    pub own_row : Row plain v l (derivative_in panel terms (signal plain v l)) (row_of l list)
    own_row = (list_correct panel terms set given.formed given.quadratic).rows l left_signal

    -- a signal's derivative is that of what has one
    pub own_slope : derivative plain (system (records terms)) (signal plain v l) ≡ derivative_in panel terms (signal plain v l)
    own_slope = well_slope panel terms set given.formed (signal plain v l) (at_in v l (plain.one 0) left_signal)

    module _ (x : Wire) (i : x ∈ row_of l list) where
      own_wired : Wired plain v l (derivative_in panel terms (signal plain v l)) x
      own_wired = own_row.each x i

      own_limited : nat_abs x.coefficient ≤ 1000000000
      own_limited =
          let fits = signals_fit panel terms set given.formed (signal plain v l) (at_in v l (plain.one 0) left_signal) in
          let most = clean_total terms (well_clean panel terms set given.formed) set_exponent (signal plain v l) (joined plain v x) fits.0 fits.1 in
          rw (own_wired.total, ← own_slope) (omega arith)

      own_term : TermRight k (length s) (term_of x)
      own_term =
          term-right k (length s) x own_wired.ordered (omega (arith, many, own_wired.b_below)) (abs_some x.coefficient own_wired.nonzero) own_limited

    -- its line says them
    own_line : map product_of (terms_of list l) ≡ map as_term (row_of l list)
    unfolding terms_of
    own_line = map-map product_of term_of (row_of l list) ∙ map_same (λ x. product_of (term_of x)) as_term (row_of l list) (λ x i. term_back x (own_wired x i).nonzero)

  -- ---- the tree
  abbrev t : Tree
  t = tree_in panel terms set

  same_length : length t.names ≡ length s
  unfolding tree_of
  same_length = length-map s factors_of

  factors-of : (m : Mono) → m ∈ s → (1 ≤ length (factors_of m)) × ((f : Factor) → f ∈ factors_of m → FactorRight k f)
  factors-of m h =
      let p = recordable.permitted in
      (factors_some m (recordable.wide m h) (λ e. p.new m h (Memᴰ.head e)), factors_right k m (p.within m h))

  terms-of : (l : ℕ) → l ∈ lefts k (length s) → (x : Term) → x ∈ terms_of list l → TermRight k (length s) x
  unfolding terms_of
  terms-of l h x i = let w : (y : Wire) × (y ∈ row_of l list) × (term_of y ≡ x) = Memᴰ.of_map term_of (row_of l list) i in subst (TermRight k (length s)) w.2 (own_term l h w.0 w.1)

  pub tree_right : TreeRight k t
  unfolding tree_of
  tree_right = record {
    few = omega (arith, same_length, recordable.few);
    factors = λ fs h.
        let w : (m : Mono) × (m ∈ s) × (factors_of m ≡ fs) = Memᴰ.of_map factors_of s h in
        subst (λ (x : List Factor). (1 ≤ length x) × ((f : Factor) → f ∈ x → FactorRight k f)) w.2 (factors-of w.0 w.1);
    told = length-map (lefts k (length s)) (terms_of list) ∙ ap (λ (n : ℕ). length (lefts k n)) (sym same_length);
    terms = λ ts h.
        let w : (l : ℕ) × (l ∈ lefts k (length s)) × (terms_of list l ≡ ts) = Memᴰ.of_map (terms_of list) (lefts k (length s)) h in
        rw same_length (subst (λ (y : List Term). (x : Term) → x ∈ y → TermRight k (length s) x) w.2 (terms-of w.0 w.1));
  }

  -- ---- what its text says
  text_reads : Reads k t
  text_reads = written k t tree_right

  pub typed_readable : readable (listing k) (text_in panel terms set) ≡ true
  typed_readable = text_reads.reads

  pub typed_names : names k (text_in panel terms set) ≡ s
  unfolding tree_of
  typed_names =
      let own : map (λ m. monomial_of (factors_of m)) s ≡ map (λ m. m) s = map_same (λ m. monomial_of (factors_of m)) (λ m. m) s (λ m h. monomial_back m (recordable.wide m h)) in
      text_reads.named ∙ map-map monomial_of factors_of s ∙ own ∙ map-id s

  pub typed-lines : lines k (text_in panel terms set) ≡ map (λ l. map as_term (row_of l list)) (lefts k (length s))
  unfolding tree_of
  typed-lines =
      text_reads.told ∙ map-map (map product_of) (terms_of list) (lefts k (length s))
      ∙ map_same (λ l. map product_of (terms_of list l)) (λ l. map as_term (row_of l list)) (lefts k (length s)) own_line
