-- `pair_of` meets its contract: both loops look for the first that passes (`PairRow` outside, `Placing` inside). Assumes nothing.
use mathlib.Core.Path.{◌≡◌, sym, ap, ap₂, ◌∙◌}
use mathlib.Core.List.{[]}
use Prim.Native.Nat.{ℕ, ◌<◌, ◌≤◌}
use native.Mathlib.Omega.{arith}
use borrow.Author.Rules.{rules}
use lib.ListN.{length, get_or}
use Rattle.monomial.specs.Monomial.{Mono}
use Rattle.monomial.specs.Order.{same}
use Rattle.monomial.specs.Quotient.{quo, divides}
use Rattle.monomial.specs.Claims.{◌∈◌}
use Rattle.monomial.proofs.Tests.{T→is, n_t→is, is→T}
use Rattle.monomial.proofs.Counting.{at_in}
use Rattle.monomial.proofs.Loops.{placing_on}
use Rattle.wiring.specs.Panel.{set_exponent, most_signals}
use Rattle.wiring.specs.Poly.{plain}
use Rattle.wiring.specs.Quadratic.{in_v2}
use Rattle.wiring.specs.declared.held.Signals.{Signals}
use Rattle.wiring.specs.Signals.{Fitting, signals_of}
use Rattle.wiring.proofs.signals.Arrays.{array_length, front_length, front_at}
use Rattle.wiring.proofs.wires.Pairs.{beside, beside_quotient, row_skips, row_start, row_ends, pair_first, pair_second, pair_in, pair_there}
use Rattle.monomial.proofs.order.Derived.{same_from_eq}
use Rattle.wiring.proofs.wires.pair_of.Goals as goal
use Rattle.wiring.proofs.wires.pair_of.Goals.{then-divides+else-loop-b-test, else-divides}

-- The places in a scope of their own: `omega` reads all that is in sight, and at a need that is much.
module _ (v : Signals) (room : length v.m ≡ most_signals) (fits : v.len ≤ most_signals) (wide : Fitting set_exponent (signals_of v)) where
  long : length (signals_of v) ≡ v.len
  long = front_length v.len v.m (omega arith)

  at : (i : ℕ) → i < v.len → get_or (signals_of v) i [] ≡ (get_or v.m i (record { e = [] })).e
  at i h = front_at v.len v.m i [] h (omega arith)

  within : (i : ℕ) → i < v.len → i < length (signals_of v)
  within i h = omega (arith, long)

  beyond : (i : ℕ) → v.len ≤ i → length (signals_of v) ≤ i
  beyond i h = omega (arith, long)

  small : (i : ℕ) → i < v.len → i < most_signals
  small i h = omega arith

  -- all signals are of one length
  alike : (i : ℕ) → i < v.len → (y : Mono) → y ∈ signals_of v → length (get_or (signals_of v) i []) ≡ length y
  alike i h y m = (wide (get_or (signals_of v) i []) (at_in (signals_of v) i [] (within i h))).0 ∙ sym (wide y m).0

pub loop-b-init : goal.loop-b-init
loop-b-init c =
    let v = c.args.v in
    let k = c.loop-a in
    let room : length v.m ≡ most_signals = search (rules, array_length) in
    let ha : k.a < v.len = omega arith in
    let here = at v room v.few c.requires k.a ha in
    let divided = is→T _ (sym c.divides.ensures ∙ c.if-divides.true) in
    record {
      long = k.invariant.0;
      below = ha;
      divided = rw here divided;
      quotient = c.over-rest.ensures ∙ ap (quo c.args.m.e) (sym here);
      outer = k.invariant.1;
      inner = row_start (signals_of v) c.args.m.e k.a (within v room v.few c.requires k.a ha) k.invariant.1;
    }

pub loop-b-preserved : goal.loop-b-preserved
loop-b-preserved c =
    let v = c.args.v in
    let o = c.loop-a in
    let k = c.loop-b in
    let room : length v.m ≡ most_signals = search (rules, array_length) in
    let hb : k.b < v.len = omega (arith, k.invariant.long) in
    let in_b = within v room v.few c.requires k.b hb in
    let at_b = at v room v.few c.requires k.b hb in
    let long = alike v room v.few c.requires o.a k.invariant.below (get_or (signals_of v) k.b []) (at_in (signals_of v) k.b [] in_b) in
    let quotient = sym (beside_quotient (signals_of v) c.args.m.e (get_or (signals_of v) o.a []) (get_or (signals_of v) k.b []) long k.invariant.divided) in
    let told = quotient ∙ ap₂ same at_b (sym k.invariant.quotient) ∙ sym (same_from_eq _ _ _ c.eq.ensures) in
    let inner = placing_on (beside (signals_of v) c.args.m.e (get_or (signals_of v) o.a [])) [] k.invariant.inner in_b (told ∙ c.if-eq.false) in
    record { long = k.invariant.long; below = k.invariant.below; divided = k.invariant.divided; quotient = k.invariant.quotient; outer = k.invariant.outer; inner = inner }

pub loop-a-preserved : goal.loop-a-preserved
loop-a-preserved c =
    let v = c.args.v in
    let o = c.loop-a in
    let room : length v.m ≡ most_signals = search (rules, array_length) in
    let ha : o.a < v.len = omega arith in
    let in_a = within v room v.few c.requires o.a ha in
    elim c.if-divides.branch [
      | then-divides+else-loop-b-test w ↦
          let k = w.loop-b in
          let all = beyond v room v.few c.requires k.b (omega (arith, k.invariant.long, w.loop-b-test.false)) in
          (o.invariant.0, row_ends (signals_of v) c.args.m.e o.a in_a o.invariant.1 k.b k.invariant.inner all)
      | else-divides w ↦
          let no = ap (λ (x : Mono). divides x c.args.m.e) (at v room v.few c.requires o.a ha) ∙ sym c.divides.ensures ∙ w.if-divides.false in
          (o.invariant.0, row_skips (signals_of v) c.args.m.e o.a in_a o.invariant.1 (alike v room v.few c.requires o.a ha) no)
    ]

pub returns : goal.returns
returns c =
    let v = c.args.v in
    let k = c.loop-a in
    let room : length v.m ≡ most_signals = search (rules, array_length) in
    let ha : v.len ≤ k.a = omega arith in
    let no = n_t→is (in_v2 plain (signals_of v) c.args.m.e) (pair_there (signals_of v) c.args.m.e k.a k.invariant.1 (beyond v room v.few c.requires k.a ha)) in
    record { told = sym no; pair = tt }

pub returns-then-eq : goal.returns-then-eq
returns-then-eq c =
    let v = c.args.v in
    let o = c.loop-a in
    let k = c.loop-b in
    let room : length v.m ≡ most_signals = search (rules, array_length) in
    let hb : k.b < v.len = omega (arith, k.invariant.long) in
    let in_b = within v room v.few c.requires k.b hb in
    let at_b = at v room v.few c.requires k.b hb in
    let long = alike v room v.few c.requires o.a k.invariant.below (get_or (signals_of v) k.b []) (at_in (signals_of v) k.b [] in_b) in
    let quotient = sym (beside_quotient (signals_of v) c.args.m.e (get_or (signals_of v) o.a []) (get_or (signals_of v) k.b []) long k.invariant.divided) in
    let told = quotient ∙ ap₂ same at_b (sym k.invariant.quotient) ∙ sym (same_from_eq _ _ _ c.eq.ensures) in
    let hit = told ∙ c.if-eq.true in
    let in_a = within v room v.few c.requires o.a k.invariant.below in
    let first = pair_first (signals_of v) c.args.m.e o.a in_a k.invariant.outer k.b in_b k.invariant.inner hit in
    let second = pair_second (signals_of v) c.args.m.e o.a in_a k.invariant.outer k.b in_b k.invariant.inner hit in
    let met = pair_in (signals_of v) c.args.m.e o.a in_a k.invariant.outer k.b in_b k.invariant.inner hit in
    record {
      told = sym (T→is (in_v2 plain (signals_of v) c.args.m.e) met);
      pair = record {
        first = first;
        second = second;
        a_small = small v room v.few c.requires o.a k.invariant.below;
        b_small = small v room v.few c.requires k.b hb;
      };
    }
