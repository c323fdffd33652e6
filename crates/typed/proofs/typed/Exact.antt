-- What the contract of `line_at` says to a caller: the lines one after the other are the text of the tree, none is told exactly behind the last
-- line, and the records that wiring leaves are those of its list. Assumes nothing.
use mathlib.Core.Path.{◌≡◌, refl, ap, subst, ◌∙◌}
use mathlib.Core.Logic.{◌↔◌}
use mathlib.Core.Bool.{Bool, false}
use mathlib.Core.List.{List, [], ◌∷◌, ◌++◌, map}
use Prim.Native.Nat.{ℕ, zero, suc, ◌+◌, ◌*◌, ◌≤◌, ◌<◌}
use native.Mathlib.Omega.{arith}
use lib.ListN.{length, get_or, take, drop, length-append, length-map, length-take, length-drop}
use lib.Seq.{ext_get_or}
use Rattle.std.specs.Bool.{IsTrue}
use Rattle.monomial.specs.Lists.{gather, below}
use Rattle.monomial.specs.Claims.{◌∈◌}
use Rattle.monomial.specs.Monomial.{Mono}
use Rattle.monomial.proofs.Members.{Gathered, gather_out, gather_append}
use Rattle.monomial.proofs.Counting.{below_out, at_in}
use Rattle.wiring.specs.Panel.{most_signals, wire_bytes}
use Rattle.wiring.specs.Wires.{Wire}
use Rattle.wiring.specs.Claims.{signals_in, row_of, Decodes, Patch}
use Rattle.wiring.specs.declared.panel.Panel.{Panel}
use Rattle.lines.proofs.Told.{Filled, filled_none, filled_first, filled_both, filled_made, line_none, line_told, line_stops}
use Rattle.reader.specs.Bytes.{newline}
use Rattle.listing.specs.Bytes.{heading}
use Rattle.listing.specs.Lines.{lefts}
use Rattle.listing.specs.declared.known.Known.{Known}
use Rattle.grammar.specs.Grammar.{name_text, line_text, names_from, lines_from, text}
use Rattle.typed.specs.Typed.{factors_of, terms_of, tree_of, name_lines, derivative_line, listing_lines, wire_of, wire_at, wires_in, Listed}
use Rattle.typed.proofs.typed.Laws.{wires_length, wires_at}
use Rattle.typed.proofs.typed.Numbers.{names_length}

abbrev itself : List ℕ → List ℕ
itself x = x

names-text : (k : Known) (i : ℕ) (s : List Mono) → gather itself (name_lines k i s) ≡ names_from k i (map factors_of s)
unfolding gather name_lines names_from
names-text k i [] = refl
names-text k i (m ∷ s) = ap (λ l. name_text k i (factors_of m) ++ l) (names-text k (i + 1) s)

derivatives_text : (k : Known) (ws : List Wire) (ls : List ℕ) → gather itself (map (derivative_line k ws) ls) ≡ lines_from k ls (map (terms_of ws) ls)
unfolding gather lines_from
derivatives_text k ws [] = refl
derivatives_text k ws (l ∷ ls) = ap (λ x. line_text k l (terms_of ws l) ++ x) (derivatives_text k ws ls)

-- the lines, one after the other, are the text of the tree
pub typed_text : (k : Known) (s : List Mono) (ws : List Wire) → gather (λ x. x) (listing_lines k s ws) ≡ text k (tree_of k s ws)
unfolding listing_lines gather text tree_of
typed_text k s ws =
    rw (
      gather_append itself (name_lines k 0 s) ((newline ∷ []) ∷ map (derivative_line k ws) (lefts k (length s))),
      names-text k 0 s,
      derivatives_text k ws (lefts k (length s)),
      length-map s factors_of,
    )

names_filled : (k : Known) (i : ℕ) (s : List Mono) → Filled (name_lines k i s)
unfolding name_lines name_text
names_filled k i [] = filled_none
names_filled k i (m ∷ s) = filled_first (name_text k i (factors_of m)) (name_lines k (i + 1) s) (omega arith) (names_filled k (i + 1) s)

derivatives_filled : (k : Known) (ws : List Wire) (ls : List ℕ) → Filled (map (derivative_line k ws) ls)
unfolding line_text
derivatives_filled k ws ls = filled_made (derivative_line k ws) (λ l. omega arith) ls

module _ (k : Known) (s : List Mono) (ws : List Wire) where
  abbrev derivatives : List (List ℕ)
  derivatives = map (derivative_line k ws) (lefts k (length s))

  -- so many lines there are
  pub typed_length : length (listing_lines k s ws) ≡ 2 + length s + length (lefts k (length s))
  unfolding listing_lines
  typed_length =
      let both : length (name_lines k 0 s ++ ((newline ∷ []) ∷ derivatives)) ≡ length (name_lines k 0 s) + suc (length derivatives) =
      length-append (name_lines k 0 s) ((newline ∷ []) ∷ derivatives) in
      omega (arith, names_length k 0 s, length-map (lefts k (length s)) (derivative_line k ws))

  -- each line has a byte, its newline
  pub lines_filled : Filled (listing_lines k s ws)
  unfolding listing_lines
  lines_filled =
      let rest : Filled ((newline ∷ []) ∷ derivatives) =
      filled_first (newline ∷ []) derivatives (omega arith) (derivatives_filled k ws (lefts k (length s))) in
      filled_first heading (name_lines k 0 s ++ ((newline ∷ []) ∷ derivatives)) (omega arith)
      (filled_both (name_lines k 0 s) ((newline ∷ []) ∷ derivatives) (names_filled k 0 s) rest)

  module _ (j : ℕ) {text : List ℕ} (told : text ≡ get_or (listing_lines k s ws) j []) where
    -- a line that is told is one of the listing
    pub typed_told : (text ≡ [] → ⊥) → j < length (listing_lines k s ws)
    typed_told = line_told (listing_lines k s ws) lines_filled j told

    -- none is told exactly behind the last line
    pub typed_none : (text ≡ []) ↔ (length (listing_lines k s ws) ≤ j)
    typed_none = line_none (listing_lines k s ws) lines_filled j told

    -- the same by the result, on which the program stops
    pub typed_stops : (there : Bool) → (IsTrue there ↔ (j < length (listing_lines k s ws))) → ((there ≡ false) ↔ (length (listing_lines k s ws) ≤ j)) × ((there ≡ false) ↔ (text ≡ []))
    typed_stops = line_stops (listing_lines k s ws) lines_filled j told

-- ---- the records that wiring leaves in a buffer are its list
wire_is : (x : Wire) (bytes : List ℕ) → Decodes x bytes → wire_of bytes ≡ x
wire_is x bytes d = rw (d.left_is, d.a_is, d.b_is, d.coefficient_is)

module _ {panel : Panel} {terms set : List ℕ} {count : ℕ} {bytes : List ℕ} (p : Patch panel terms set count bytes) where
  pub patch_wires : wires_in count bytes ≡ p.list
  patch_wires =
      let unwritten : Wire = wire_at bytes 0 in
      let each : (j : ℕ) → j < length (wires_in count bytes) → get_or (wires_in count bytes) j unwritten ≡ get_or p.list j unwritten =
      λ j h.
      let low : j < count = rw (wires_length count bytes) at h in
      wires_at count bytes j unwritten low ∙ wire_is (get_or p.list j unwritten) (take wire_bytes (drop (wire_bytes * j) bytes)) (p.written j unwritten low) in
      ext_get_or unwritten (wires_in count bytes) p.list (wires_length count bytes ∙ p.counted) each

  -- and they can be typed
  pub patch_listed : length (signals_in panel set) ≤ most_signals → Listed count bytes
  patch_listed few = record { few = p.most; room = room count (λ j h. h); signals = signals }
    where
      room : (n : ℕ) → ((j : ℕ) → j < n → j < count) → wire_bytes * n ≤ length bytes
      room zero h = omega arith
      room (suc j) h =
          let long : length (take wire_bytes (drop (wire_bytes * j) bytes)) ≡ wire_bytes = (p.written j (wire_at bytes 0) (h j (omega arith))).long in
          omega (arith, length-take wire_bytes (drop (wire_bytes * j) bytes), length-drop (wire_bytes * j) bytes)

      signals : (j : ℕ) → j < count → ((wire_at bytes j).a < most_signals) × ((wire_at bytes j).b < most_signals)
      signals j h =
          let x : Wire = get_or p.list j (wire_at bytes 0) in
          let v = signals_in panel set in
          let member : x ∈ p.list = at_in p.list j (wire_at bytes 0) (rw p.counted at h) in
          let placed : Gathered (λ i. row_of i p.list) x (below (length v)) =
          gather_out (λ i. row_of i p.list) (below (length v)) (subst (λ (l : List Wire). x ∈ l) p.correct.ordered member) in
          let wired = (p.correct.rows placed.entry (below_out (length v) placed.entry placed.member)).each x placed.inside in
          let d = p.written j (wire_at bytes 0) h in
          (omega (arith, d.a_is, wired.a_below), omega (arith, d.b_is, wired.b_below))
