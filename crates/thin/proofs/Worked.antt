-- Thinning computed by the definitions from the bytes of the records, beside replies and buffers that were worked outside the project: subsets of
-- every kind, both sides of the room, each refusal, signals and kits. One table, one claim. Assumes nothing.
use mathlib.Core.Path.{◌≡◌, refl, sym, ap, ◌∙◌}
use mathlib.Core.List.{List, [], ◌∷◌, ◌++◌, map}
use Prim.Native.Nat.{ℕ, ◌*◌, ◌-◌}
use native.Mathlib.Omega.{arith}
use lib.ListN.{length, replicate}
use Rattle.monomial.specs.Lists.{any, some, all, keep, place, gather, below, pairwise, pointwise, dictionary, insert_by, arrange_by}
use Rattle.monomial.specs.Monomial.{vars}
use Rattle.monomial.specs.Degree.{degree}
use Rattle.wiring.specs.Panel.{full_degree}
use Rattle.wiring.specs.Kit.{degree_right}
use Rattle.wiring.specs.Sockets.{panel_of, full_panel, halved, marked, count_right, panel_right, free, may_be}
use Rattle.wiring.specs.declared.panel.Panel.{Panel}
use Rattle.wiring.specs.Reply.{Numbers, five, Outcome}
use Rattle.wiring.specs.Coefficient.{signed, is_zero}
use Rattle.wiring.specs.Poly.{coeff, times, support}
use Rattle.wiring.specs.Derivative.{parts_from, derivative}
use Rattle.wiring.specs.Quadratic.{factor, in_v2, unmet, nonsquares}
use Rattle.wiring.specs.Signals.{signals}
use Rattle.wiring.specs.Terms.{records, length_right, exponents_right, coefficient_right, term_right, fault_from, equation, system}
use Rattle.wiring.specs.Sets.{places, size_of, set_of, ascending, monomial_right, set_right, set_record}
use Rattle.wiring.specs.Answers.{first_unmet, judged, record_judged, verdict}
use Rattle.walk.specs.Plan.{sets_bytes, said}
use Rattle.walk.proofs.Worked.{padded, plus, set}
use Rattle.thin.specs.Subsets.{subsets}
use Rattle.thin.specs.Thin.{least_size, quadratic_ones, least, thinnest, thinning, thinned_by, thinned}

record Row : Type 0 where
  got : Outcome
  want : Outcome

-- the bytes of a set, the five numbers, the subsets, and zeros to the end of the buffer
built : ℕ → ℕ → ℕ → List ℕ → List ℕ → ℕ → Numbers → List (List (List ℕ)) → Row
built n marks limit terms given size numbers sets = record {
  got = thinned (panel_of n marks limit) terms given size;
  want = record { said = numbers; bytes = gather set sets ++ replicate (size - 36 * length sets) 0 };
}

-- with the full kit, and with no marks
fed : ℕ → ℕ → List ℕ → List ℕ → ℕ → Numbers → List (List (List ℕ)) → Row
fed n marks = built n marks full_degree

row : ℕ → List ℕ → List ℕ → ℕ → Numbers → List (List (List ℕ)) → Row
row n = fed n 0

-- x' = x^4 + x^3
unfoldable pub quartic : List ℕ
quartic = plus 1 (4 ∷ []) ++ plus 1 (3 ∷ [])

-- {x^2, x^3, x^4}
unfoldable pub powers : List ℕ
powers = set ((2 ∷ []) ∷ (3 ∷ []) ∷ (4 ∷ []) ∷ [])

-- x1' = x2, x2' = x1
feeding : List ℕ
feeding = plus 1 (0 ∷ 1 ∷ []) ++ plus 2 (1 ∷ [])

table : List Row
table =
    -- x^4 + x^3: either of x^2 and x^4 can go. {x^2} alone is not quadratic, and {x^2, x^3} is
    row 1 quartic powers 72 (five 0 2 2 8 0) (((2 ∷ []) ∷ (3 ∷ []) ∷ []) ∷ ((3 ∷ []) ∷ (4 ∷ []) ∷ []) ∷ [])
    -- one byte less; room for the first alone; no room
    ∷ row 1 quartic powers 71 (five 6 2 0 8 0) []
    ∷ row 1 quartic powers 36 (five 6 2 0 8 0) []
    ∷ row 1 quartic powers 0 (five 6 2 0 8 0) []
    -- five variables more change nothing; three bytes stay zero
    ∷ row 6 quartic powers 75 (five 0 2 2 8 0) (((2 ∷ []) ∷ (3 ∷ []) ∷ []) ∷ ((3 ∷ []) ∷ (4 ∷ []) ∷ []) ∷ [])
    -- all can go: one empty set, for which there is room or not
    ∷ row 1 (plus 1 (1 ∷ [])) (set ((2 ∷ []) ∷ (3 ∷ []) ∷ [])) 36 (five 0 0 1 4 0) ([] ∷ [])
    ∷ row 1 (plus 1 (1 ∷ [])) (set ((2 ∷ []) ∷ (3 ∷ []) ∷ [])) 35 (five 6 0 0 4 0) []
    ∷ row 1 [] (set []) 40 (five 0 0 1 1 0) ([] ∷ [])
    -- nothing can go
    ∷ row 1 (plus 1 (3 ∷ [])) (set ((2 ∷ []) ∷ [])) 36 (five 0 1 1 2 0) (((2 ∷ []) ∷ []) ∷ [])
    -- a signal that nothing uses; five of six
    ∷ row 1 (plus 1 (3 ∷ [])) (set ((2 ∷ []) ∷ (4 ∷ []) ∷ [])) 36 (five 0 1 1 4 0) (((2 ∷ []) ∷ []) ∷ [])
    ∷ row 1 (plus 1 (3 ∷ [])) (set ((2 ∷ []) ∷ (3 ∷ []) ∷ (4 ∷ []) ∷ (5 ∷ []) ∷ (6 ∷ []) ∷ (7 ∷ []) ∷ [])) 36 (five 0 1 1 64 0) (((2 ∷ []) ∷ []) ∷ [])
    -- x1' = x2^2 x3^2: each of four is enough; {x3^2, x2^2} can lose neither signal, and is not smallest beside x2 x3
    ∷ row 3 (plus 1 (0 ∷ 2 ∷ 2 ∷ [])) (set ((0 ∷ 1 ∷ 1 ∷ []) ∷ (0 ∷ 1 ∷ 2 ∷ []) ∷ (0 ∷ 2 ∷ 1 ∷ []) ∷ (0 ∷ 2 ∷ 2 ∷ []) ∷ [])) 144
    (five 0 1 4 16 0) (((0 ∷ 1 ∷ 1 ∷ []) ∷ []) ∷ ((0 ∷ 1 ∷ 2 ∷ []) ∷ []) ∷ ((0 ∷ 2 ∷ 1 ∷ []) ∷ []) ∷ ((0 ∷ 2 ∷ 2 ∷ []) ∷ []) ∷ [])
    ∷ row 3 (plus 1 (0 ∷ 2 ∷ 2 ∷ [])) (set ((0 ∷ 0 ∷ 2 ∷ []) ∷ (0 ∷ 2 ∷ []) ∷ [])) 36 (five 0 2 1 4 0) (((0 ∷ 0 ∷ 2 ∷ []) ∷ (0 ∷ 2 ∷ []) ∷ []) ∷ [])
    ∷ row 3 (plus 1 (0 ∷ 2 ∷ 2 ∷ [])) (set ((0 ∷ 0 ∷ 2 ∷ []) ∷ (0 ∷ 1 ∷ 1 ∷ []) ∷ (0 ∷ 2 ∷ []) ∷ [])) 36 (five 0 1 1 8 0) (((0 ∷ 1 ∷ 1 ∷ []) ∷ []) ∷ [])
    -- the products of degree three of x1 and x2, which feed each other: none can go alone, and all can go together
    ∷ row 2 feeding (set ((0 ∷ 3 ∷ []) ∷ (1 ∷ 2 ∷ []) ∷ (2 ∷ 1 ∷ []) ∷ (3 ∷ []) ∷ [])) 36 (five 0 0 1 16 0) ([] ∷ [])
    -- not quadratic: x^2 itself; x without new signals
    ∷ row 1 (plus 1 (4 ∷ [])) (set ((2 ∷ []) ∷ [])) 36 (five 9 1 0 0 2) []
    ∷ row 1 (plus 1 (3 ∷ [])) (set []) 36 (five 9 0 0 0 1) []
    -- n is 0, 7
    ∷ row 0 (plus 1 (2 ∷ [])) (set []) 36 (five 1 0 0 0 0) []
    ∷ row 7 (plus 1 (2 ∷ [])) (set []) 36 (five 1 0 0 0 0) []
    -- 11 bytes of terms, 33 records, a set of 35 bytes
    ∷ row 1 (replicate 11 0) (set []) 36 (five 2 0 0 0 0) []
    ∷ row 1 (replicate 396 0) (set []) 36 (five 2 0 0 0 0) []
    ∷ row 1 (plus 1 (2 ∷ [])) (replicate 35 0) 36 (five 2 0 0 0 0) []
    -- a wrong record, and one that repeats the first; before the set, which is wrong too
    ∷ row 1 (plus 1 (2 ∷ []) ++ plus 1 (10 ∷ [])) (set ((1 ∷ []) ∷ [])) 36 (five 3 0 0 0 2) []
    ∷ row 1 (plus 1 (2 ∷ []) ++ plus 1 (2 ∷ [])) (set ((1 ∷ []) ∷ [])) 36 (five 4 0 0 0 2) []
    ∷ row 1 (plus 1 (2 ∷ [])) (set ((1 ∷ []) ∷ [])) 36 (five 8 0 0 0 0) []
    -- x1' = x1^3 + u x1 with {x1^2, x1^3}, u a signal; with a signal in the set; a mark at n; an equation of the signal
    ∷ fed 2 2 (plus 1 (3 ∷ []) ++ plus 1 (1 ∷ 1 ∷ [])) (set ((2 ∷ []) ∷ (3 ∷ []) ∷ [])) 36 (five 0 1 1 4 0) (((2 ∷ []) ∷ []) ∷ [])
    ∷ fed 2 2 (plus 1 (3 ∷ []) ++ plus 1 (1 ∷ 1 ∷ [])) (set ((1 ∷ 1 ∷ []) ∷ (2 ∷ []) ∷ [])) 36 (five 8 0 0 0 0) []
    ∷ fed 2 4 (plus 1 (3 ∷ [])) (set ((2 ∷ []) ∷ [])) 36 (five 1 0 0 0 0) []
    ∷ fed 2 2 (plus 1 (3 ∷ []) ++ plus 2 (1 ∷ [])) (set ((2 ∷ []) ∷ [])) 36 (five 3 0 0 0 2) []
    -- x^4 + x^3 with junior kits: one that can build all three powers, and one that cannot; a limit that no kit has
    ∷ built 1 0 4 quartic powers 72 (five 0 2 2 8 0) (((2 ∷ []) ∷ (3 ∷ []) ∷ []) ∷ ((3 ∷ []) ∷ (4 ∷ []) ∷ []) ∷ [])
    ∷ built 1 0 3 quartic powers 72 (five 8 0 0 0 0) []
    ∷ built 1 0 10 quartic powers 72 (five 1 0 0 0 0) []
    ∷ []

-- replies and buffers are as written
worked : map (λ r. r.got) table ≡ map (λ r. r.want) table
unfolding table built fed row quartic powers feeding plus set padded thinned thinned_by thinning thinnest least least_size quadratic_ones subsets said sets_bytes set_record
    verdict record_judged judged first_unmet halved marked count_right degree_right panel_right free degree may_be records length_right exponents_right coefficient_right term_right fault_from equation system places
    size_of set_of ascending monomial_right set_right signals factor in_v2 unmet nonsquares parts_from derivative coeff times support signed is_zero vars any
    some all keep place gather below pairwise pointwise dictionary insert_by arrange_by
worked = refl

-- one reply does not do for all: x^4 + x^3 with {x^2, x^3, x^4} has room for its subsets or not
pub record TwoRooms : Type 0 where
  pub enough : (thinned (full_panel 1) quartic powers 72).said ≡ five 0 2 2 8 0
  pub short : (thinned (full_panel 1) quartic powers 71).said ≡ five 6 2 0 8 0

pub two_rooms : TwoRooms
unfolding quartic powers plus set padded thinned thinned_by thinning thinnest least least_size quadratic_ones subsets said sets_bytes set_record verdict record_judged
    judged first_unmet halved marked count_right degree_right panel_right free degree may_be records length_right exponents_right coefficient_right term_right fault_from equation system places size_of set_of ascending
    monomial_right set_right signals factor in_v2 unmet nonsquares parts_from derivative coeff times support signed is_zero vars any some all keep place
    gather below pairwise pointwise dictionary insert_by arrange_by
two_rooms = record { enough = refl; short = refl }

pub thin_not_constant : (x : Numbers) → ((panel : Panel) (terms given : List ℕ) (size : ℕ) → x ≡ (thinned panel terms given size).said) → ⊥
thin_not_constant x h =
    let done : x ≡ five 0 2 2 8 0 = h (full_panel 1) quartic powers 72 ∙ two_rooms.enough in
    let full : x ≡ five 6 2 0 8 0 = h (full_panel 1) quartic powers 71 ∙ two_rooms.short in
    let codes : ◌≡◌ {A = ℕ} 0 6 = ap (λ (y : Numbers). y.code) (sym done ∙ full) in
    omega arith
