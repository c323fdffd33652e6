-- No reply depends on what the equation of a signal would be: the verdict is Definition 1 over the left variables that have an equation, by the
-- system with any equations of the signals, and the list of a quadratic set is their derivatives by it. Assumes nothing.
use mathlib.Core.Path.{◌≡◌, refl, sym, ap, subst, ◌∙◌}
use mathlib.Core.Logic.{◌↔◌}
use mathlib.Core.List.Memᴰ
use mathlib.Core.List.{List, [], ◌∷◌, map}
use Prim.Native.Nat.{ℕ}
use native.Mathlib.Omega.{arith}
use lib.Dec.{T}
use lib.ListN.{length}
use Rattle.monomial.specs.Monomial.{Mono}
use Rattle.monomial.proofs.order.Laws.{mono_order}
use Rattle.wiring.specs.Sockets.{free}
use Rattle.wiring.specs.declared.panel.Panel.{Panel}
use Rattle.wiring.specs.Poly.{Poly, plain, support}
use Rattle.wiring.specs.Derivative.{derivative}
use Rattle.wiring.specs.Quadratic.{Quadratic}
use Rattle.wiring.specs.Terms.{records, system}
use Rattle.wiring.specs.Sets.{set_of}
use Rattle.wiring.specs.Wires.{Wire, signal}
use Rattle.wiring.specs.Answers.{verdict}
use Rattle.wiring.specs.declared.reply.Reply.TheVariants.{Done}
use Rattle.wiring.specs.Claims.{LeftLinked, slope, Driven, WellFormed, signals_in, list_in, joined, Row, row_of, DrivenList}
use Rattle.wiring.proofs.Poly.{support_out}
use Rattle.wiring.proofs.quadratic.Definition1.{no_members}
use Rattle.wiring.proofs.sockets.Slopes.{slope_free, slope_held, slope_driven, over_the_left}
use Rattle.wiring.proofs.answers.Exact.{says_done}
use Rattle.wiring.proofs.answers.Wired.{list_correct}

-- Definition 1 by the derivative of what has one, over any system with the same equations
pub quadratic_driven : (marks : ℕ) (fs gs : List (Poly Mono)) → Driven marks fs gs → (v : List Mono) → Quadratic plain v (slope marks fs) ↔ LeftLinked marks gs v
quadratic_driven marks fs gs d v = (
  (λ q. (over_the_left marks gs v).0 (subst (Quadratic plain v) (sym (slope_driven marks fs gs d)) q)),
  λ l. subst (Quadratic plain v) (slope_driven marks fs gs d) ((over_the_left marks gs v).1 l),
)

module _ (panel : Panel) (terms set : List ℕ) (w : WellFormed panel terms set) (gs : List (Poly Mono)) (d : Driven panel.marks (system (records terms)) gs) where
  pub verdict_driven : (verdict panel terms set ≡ Done (length (set_of set)) 0 0) ↔ LeftLinked panel.marks gs (signals_in panel set)
  verdict_driven =
      let means = quadratic_driven panel.marks (system (records terms)) gs d (signals_in panel set) in
      let says = says_done panel terms set (length (set_of set)) 0 0 in
      ((λ e. means.0 (says.0 e).4), λ l. says.1 (w, refl, refl, refl, means.1 l))

  -- nothing has no monomials, and a row of nothing is empty
  no_support : support plain [] ≡ []
  no_support = no_members (support plain []) (λ m h. Memᴰ.not-nil (support_out plain mono_order [] m h).0)

  no_row : (l : List Wire) → map (joined plain (signals_in panel set)) l ≡ [] → l ≡ []
  no_row [] e = refl
  no_row (x ∷ l) e = let z = ap length e in absurd (omega arith)

  abbrev v : List Mono
  v = signals_in panel set

  abbrev fs : List (Poly Mono)
  fs = system (records terms)

  own : (i : ℕ) → T (free panel.marks (signal plain v i)) → slope panel.marks fs (signal plain v i) ≡ derivative plain gs (signal plain v i)
  own i t =
      ap (λ (s : Mono → Poly Mono). s (signal plain v i)) (sym (slope_driven panel.marks fs gs d)) ∙ slope_free panel.marks gs (signal plain v i) t

  pub list_driven : LeftLinked panel.marks gs (signals_in panel set) → DrivenList panel.marks gs (signals_in panel set) (list_in panel terms set)
  list_driven l =
      let all = list_correct panel terms set w ((quadratic_driven panel.marks fs gs d v).1 l) in
      record {
        rows = λ i h t. subst (λ p. Row plain v i p (row_of i (list_in panel terms set))) (own i t) (all.rows i h);
        others = λ i h f. no_row (row_of i (list_in panel terms set)) ((all.rows i h).monomials ∙ ap (support plain) (slope_held panel.marks fs (signal plain v i) f) ∙ no_support);
      }
