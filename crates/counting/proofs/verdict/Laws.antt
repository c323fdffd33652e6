-- What follows for an opened set below its level: the nonsquares that a list need hold, and the answers. Assumes nothing.
use mathlib.Core.Path.{◌≡◌, refl, sym, ap}
use mathlib.Core.Bool.{Bool, true, false}
use mathlib.Core.List.Memᴰ
use mathlib.Core.List.{List, [], ◌∷◌, map}
use Prim.Native.Nat.{ℕ, zero, suc, ◌+◌, ◌-◌, ◌*◌, ◌/◌, ◌<◌, ◌≤◌}
use native.Mathlib.Omega.{arith}
use native.Mathlib.Numerals.{add-one}
use native.Mathlib.Nat.{mul-le-mul_left}
use borrow.Author.Tests.{ltb-true}
use lib.Dec.{T, leb, leb→le}
use lib.ListN.{length, length-map}
use Rattle.monomial.specs.Lists.{some, keep, gather, arrange_by}
use Rattle.monomial.specs.Monomial.{Mono, width}
use Rattle.monomial.specs.Order.{same, before}
use Rattle.monomial.specs.Product.{mul}
use Rattle.monomial.specs.Claims.{◌∈◌, ◌⊆◌, Ascending, Different, Rearranged}
use Rattle.monomial.proofs.Members.{keep_out, keep_none, Gathered, gather_out}
use Rattle.monomial.proofs.Different.{different_length, different_keep, ascending_different}
use Rattle.monomial.proofs.order.Laws.{mono_order}
use Rattle.monomial.proofs.order.Ascending.{arrange_out}
use Rattle.wiring.specs.Claims.{Wide}
use Rattle.wiring.specs.Panel.{cards}
use Rattle.wiring.specs.Signals.{signals_at}
use Rattle.wiring.specs.Choice.{Picked}
use Rattle.std.specs.Prelude.{Option, Some, None, IsSome}
use Rattle.monomial.specs.declared.Monomial.{Monomial}
use Rattle.wiring.proofs.signals.Tables.{tabled_length}
use Rattle.wiring.proofs.signals.Laws.{signals_at_length, signals_at_wide}
use Rattle.counting.specs.Counting.{quotients_of, count, least_from, needed, shares, hits, frequent, closes}
use Rattle.counting.specs.Verdict.{most_listed, Weighing, Split}
use Rattle.counting.proofs.Largest.{closes_rearranged}
use Rattle.counting.proofs.counting.Laws.{Shared, share_out}
use Rattle.counting.proofs.counting.Quotients.{IsQuotient, quotient_out, quotient_count}
use Rattle.counting.proofs.counting.Sums.{closes_rare}

-- ---- more nonsquares than a list need hold
module _ (may : Mono → Bool) (v : List Mono) (wide : Wide v) (once : Different v) (ns : List Mono) (up : Ascending before ns) where
  -- a quotient occurs at most once for each member of V
  hits_most : (q : Mono) → length q ≡ width → hits v q ns ≤ length v
  unfolding hits
  hits_most q long =
      let few : length (keep (shares v q) ns) ≤ length (map (λ x. mul x q) v) =
      different_length (keep (shares v q) ns) (map (λ x. mul x q) v) (different_keep (shares v q) ns (ascending_different mono_order ns up)) inside in
      omega (arith, length-map v (λ (x : Mono). mul x q))
    where
      inside : keep (shares v q) ns ⊆ map (λ x. mul x q) v
      inside m h =
          let s : Shared v wide q m long = share_out v wide q m long (keep_out (shares v q) ns h).1 in
          Memᴰ.cast (sym s.is) (Memᴰ.map (λ x. mul x q) s.in_v)

  none_more : frequent may v ns (suc (length v)) ≡ 0
  unfolding frequent
  none_more = ap length (keep_none (λ q. leb (suc (length v)) (count qs q)) (arrange_by same before qs) never)
    where
      qs : List Mono
      qs = gather (quotients_of may v) ns

      never : (q : Mono) → q ∈ arrange_by same before qs → T (leb (suc (length v)) (count qs q)) → ⊥
      never q h t =
          let g : Gathered (quotients_of may v) q ns = gather_out (quotients_of may v) ns (arrange_out mono_order qs h) in
          let i : IsQuotient may v wide g.entry q = quotient_out may v wide g.entry q g.inside in
          let many : suc (length v) ≤ count qs q = leb→le (suc (length v)) (count qs q) t in
          let few : hits v q ns ≤ length v = hits_most q i.long in
          let z : ⊥ = omega (arith, quotient_count may v wide once q i.long i.allowed ns) in
          z

  pub closes_over : (room : ℕ) → room * length v + room * suc room / 2 < length ns → closes may room v ns ≡ true
  closes_over room h =
      let own : ℕ = room * suc room / 2 in
      sym (closes_rare may v ns room (length ns - own) (omega arith) (length v) (omega arith) none_more)

-- where a set is closed there is a nonsquare: none needs no monomial
pub closes_some : (may : Mono → Bool) (room : ℕ) (v ns : List Mono) → closes may room v ns ≡ true → some ns ≡ true
unfolding closes needed least_from some
closes_some may room v [] e = let z : room < 0 = ltb-true room 0 e in let n : ⊥ = omega arith in absurd n
closes_some may room v (m ∷ ns) e = refl

-- a list of so many is long enough, whatever the number of cards: with less room there are fewer nonsquares
less_room : (room w d : ℕ) → room * (w + d) + room * (room + 1) / 2 ≤ (room + d) * w + (room + d) * (room + d + 1) / 2
less_room room w zero = omega arith
less_room room w (suc d) = let ih : room * (w + d) + room * (room + 1) / 2 ≤ (room + d) * w + (room + d) * (room + d + 1) / 2 = less_room room w d in omega arith

list_long : (w most room len : ℕ) → room ≤ most → len + room ≤ w + most → room * len + room * (room + 1) / 2 ≤ most * w + most * suc most / 2
list_long w most room len h k =
    let d : ℕ = most - room in
    let few : room * len ≤ room * (w + d) = mul-le-mul_left room (fits (most - room) (omega arith)) in
    let all : (room + d) * w + (room + d) * (room + d + 1) / 2 ≡ most * w + most * (most + 1) / 2 =
    ap (λ (c : ℕ). c * w + c * (c + 1) / 2) (whole h) in
    let last : most * (most + 1) / 2 ≡ most * suc most / 2 = ap (λ (c : ℕ). most * c / 2) (add-one most) in
    omega (arith, less_room room w d)
  where
    whole : room ≤ most → room + (most - room) ≡ most
    whole l = omega arith

    fits : (d : ℕ) → d ≡ most - room → len ≤ w + d
    fits d e = omega arith

-- ---- what is asked, and what follows from it
module _ {terms set : List ℕ} {n room : ℕ} {cancels : Bool} (w : Weighing terms n set cancels room) where
  -- as many members as V has
  pub list_fits : {members : ℕ} → members ≡ length (signals_at n set) → room * members + room * (room + 1) / 2 ≤ most_listed
  list_fits {members} long = list_long (suc width) cards room members w.high (omega (arith, long, w.within, w.few, signals_at_length n set w.few, tabled_length set))

  module _ (may : Mono → Bool) (ns : List Mono) where
    -- more than the list may hold
    pub over_closes : {members : ℕ} → members ≡ length (signals_at n set) → Ascending before ns → room * members + room * (room + 1) / 2 < length ns
        → closes may room (signals_at n set) ns ≡ true
    over_closes {members} long up h =
        let twos : room * (room + 1) / 2 ≡ room * suc room / 2 = ap (λ (k : ℕ). room * k / 2) (add-one room) in
        let size : room * length (signals_at n set) ≡ room * members = ap (λ (k : ℕ). room * k) (sym long) in
        closes_over may (signals_at n set) (signals_at_wide n set) w.different ns up room (omega arith)

    -- what is said of the list holds of the nonsquares
    pub list_closes : (l : List Mono) → Rearranged ns l → closes may room (signals_at n set) l ≡ closes may room (signals_at n set) ns
    list_closes l r = sym (closes_rearranged may room (signals_at n set) ns l r)

-- where there are nonsquares, one of them is split
pub picked_some : (ns : List Mono) (p : Option Monomial) → 0 < length ns → Picked ns p → IsSome p
picked_some [] p h q = let z : ⊥ = omega arith in absurd z
picked_some (x ∷ l) None h q = absurd q
picked_some (x ∷ l) (Some m) h q = refl

-- ---- the cheapest of some nonsquares is split
module _ (may : Mono → Bool) (room : ℕ) (v : List Mono) where
  pub split_cheapest : (ns : List Mono) (p : Option Monomial) (m : Monomial) → p ≡ Some m → 0 < length ns → closes may room v ns ≡ false → Picked ns p → Split may room v ns m.e
  split_cheapest [] p m e some on picked = let z : ⊥ = omega arith in absurd z
  split_cheapest (x ∷ l) p m e some on picked = record { first = x; others = l; are = refl; on = on; is = rw e at picked }
