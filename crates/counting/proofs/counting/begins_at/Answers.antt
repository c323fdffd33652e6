-- `begins_at` meets its contract: the tests of `begins`, one after the other. Assumes nothing.
use mathlib.Core.Path.{◌≡◌, sym, ap, ◌∙◌}
use mathlib.Core.Bool.{Bool, true, false, not}
use mathlib.Core.List.{List}
use Prim.Native.Nat.{ℕ, ◌+◌, ◌-◌}
use native.Mathlib.Omega.{arith}
use lib.Dec.{leb}
use lib.ListN.{get_or, take, drop}
use Rattle.monomial.specs.Monomial.{Mono, one, width}
use Rattle.monomial.specs.Quotient.{divides, quo}
use Rattle.wiring.specs.Signals.{tabled, signals_at}
use Rattle.wiring.specs.Sockets.{can_build}
use Rattle.wiring.proofs.signals.Tables.{tabled_at, tabled_take}
use Rattle.counting.specs.Counting.{hits, begins}
use Rattle.counting.proofs.counting.Begins.{begins_undivided, begins_barred, begins_rare, begins_first}
use Rattle.counting.proofs.counting.begins_at.Goals as goal
use Rattle.counting.proofs.counting.begins_at.Goals.{After-over-q, then-can_build, else-can_build}

pub returns-then-not-divides : goal.returns-then-not-divides
returns-then-not-divides c =
    let a = c.args in
    let l = a.list.now in
    let here = c.read-m.ensures ∙ sym (tabled_at l a.i (one width) c.requires.inside) in
    begins_undivided (can_build a.panel) _ _ _ _ _ _ (sym c.divides.ensures ∙ c.if-not-divides.true)
    ∙ ap (λ (m : Mono). begins (can_build a.panel) (signals_at a.v.n a.v.set.now) a.often (take a.i (tabled l)) (drop (a.i + 1) (tabled l)) m a.x.e) here

-- ---- the place where the quotient was made
module _ (c : After-over-q) where
  abbrev l : List ℕ
  l = c.args.list.now

  abbrev v : List Mono
  v = signals_at c.args.v.n c.args.v.set.now

  abbrev q : Mono
  q = c.over-q.result.e

  divided : divides c.args.x.e c.read-m.result.e ≡ true
  divided = sym c.divides.ensures ∙ c.if-not-divides.false

  -- what begins, by the test, with a monomial of the list
  abbrev begun : Mono → Bool
  begun m = begins (can_build c.args.panel) v c.args.often (take c.args.i (tabled l)) (drop (c.args.i + 1) (tabled l)) m c.args.x.e

  -- the one that was read is the one in the list
  at_list : begun c.read-m.result.e ≡ begun (get_or (tabled l) c.args.i (one width))
  at_list = ap begun (c.read-m.ensures ∙ sym (tabled_at l c.args.i (one width) c.requires.inside))

  built : (b : Bool) → can_build c.args.panel q ≡ b → can_build c.args.panel (quo c.read-m.result.e c.args.x.e) ≡ b
  built b e = ap (can_build c.args.panel) (sym c.over-q.ensures) ∙ e

  later : (b : Bool) → leb (c.args.often - 1) (hits v q (drop (c.args.i + 1) (tabled l))) ≡ b
      → leb (c.args.often - 1) (hits v (quo c.read-m.result.e c.args.x.e) (drop (c.args.i + 1) (tabled l))) ≡ b
  later b e = ap (λ (q : Mono). leb (c.args.often - 1) (hits v q (drop (c.args.i + 1) (tabled l)))) (sym c.over-q.ensures) ∙ e

pub returns-else-recurs : goal.returns-else-recurs
returns-else-recurs c =
    let o = (goal.at.returns-else-recurs c).After-over-q in
    let may = can_build c.args.panel in
    let missed : false ≡ begun o c.read-m.result.e =
    elim c.if-can_build.branch [
      | then-can_build w ↦
          begins_rare may _ _ _ _ _ _ (divided o) (built o true (sym c.can_build.ensures ∙ w.if-can_build.true)) (c.args.often - 1) (omega (arith, c.requires.some))
          (later o false (sym w.recurs.ensures ∙ sym w.value-is ∙ c.if-recurs.false))
      | else-can_build w ↦ begins_barred may _ _ _ _ _ _ (divided o) (built o false (sym c.can_build.ensures ∙ w.if-can_build.false))
    ] in
    c.if-recurs.false ∙ missed ∙ at_list o

pub returns-then-recurs : goal.returns-then-recurs
returns-then-recurs c =
    let o = (goal.at.returns-then-recurs c).After-over-q in
    let may = can_build c.args.panel in
    let near = c.requires.inside in
    let before : leb 1 (hits (v o) (quo c.read-m.result.e c.args.x.e) (take c.args.i (tabled (l o)))) ≡ c.recurs-then-recurs.result =
    ap (λ (q : Mono). leb 1 (hits (v o) q (take c.args.i (tabled (l o))))) (sym c.over-q.ensures)
    ∙ ap (λ (r : List Mono). leb 1 (hits (v o) (q o) r)) (sym (tabled_take (l o) c.args.i (omega arith)))
    ∙ sym c.recurs-then-recurs.ensures in
    let met : not (leb 1 (hits (v o) (quo c.read-m.result.e c.args.x.e) (take c.args.i (tabled (l o))))) ≡ begun o c.read-m.result.e =
    elim c.if-can_build.branch [
      | then-can_build w ↦
          begins_first may _ _ _ _ _ _ (divided o) (built o true (sym c.can_build.ensures ∙ w.if-can_build.true)) (c.args.often - 1) (omega (arith, c.requires.some))
          (later o true (sym w.recurs.ensures ∙ sym w.value-is ∙ c.if-recurs.true))
      | else-can_build w ↦ cc
    ] in
    ap not (sym before) ∙ met ∙ at_list o
