-- The counting rule of document 001, section 5.1: how many monomials more the nonsquares of a set need at the least, and whether a set is closed for
-- want of room. Assumes nothing.
use Rattle.std.specs.Prelude.{Bool, not, cond, ◌&&◌, List, [], ◌∷◌, map, ℕ, zero, suc, ◌+◌, ◌*◌, ◌/◌, leb, ltb, length, take}
use Rattle.monomial.specs.Lists.{any, keep, gather, arrange_by}
use Rattle.monomial.specs.Monomial.{Mono}
use Rattle.monomial.specs.Order.{same, before}
use Rattle.monomial.specs.Product.{mul}
use Rattle.monomial.specs.Quotient.{divides, quo}

-- the quotients m/v by those members v of V that divide m, where they may be new monomials
unfoldable pub quotients_of : (Mono → Bool) → List Mono → Mono → List Mono
quotients_of may v m = keep may (map (quo m) (keep (λ x. divides x m) v))

-- how often a monomial occurs in a list
unfoldable pub count : List Mono → Mono → ℕ
count l q = length (keep (same q) l)

-- numbers, the largest first
unfoldable pub insert_down : ℕ → List ℕ → List ℕ
insert_down x [] = x ∷ []
insert_down x (y ∷ l) = let r = insert_down x l in cond (leb y x) (x ∷ y ∷ l) (y ∷ r)

unfoldable pub sort_down : List ℕ → List ℕ
sort_down [] = []
sort_down (x ∷ l) = insert_down x (sort_down l)

-- how often each monomial of a list occurs in it, the largest number first
unfoldable pub counts : List Mono → List ℕ
counts l = sort_down (map (count l) (arrange_by same before l))

unfoldable pub sum : List ℕ → ℕ
sum [] = 0
sum (x ∷ l) = x + sum l

-- whether r monomials more may do for so many nonsquares: each of them stands for as many as its quotient's count, and two of them make one more
unfoldable pub may_do : ℕ → List ℕ → ℕ → Bool
may_do many cs r = leb many (sum (take r cs) + r * suc r / 2)

-- the least of d numbers from r on that passes a test; r + d where none does
unfoldable pub least_from : (ℕ → Bool) → ℕ → ℕ → ℕ
least_from test zero r = r
least_from test (suc d) r = let next = least_from test d (suc r) in cond (test r) r next

-- how many monomials more the nonsquares need at the least; as many as there are nonsquares always may do
unfoldable pub needed : (Mono → Bool) → List Mono → List Mono → ℕ
needed may v ns = let cs = counts (gather (quotients_of may v) ns) in least_from (may_do (length ns) cs) (length ns) 0

-- a set is closed where its nonsquares need more than there is room for below the level
unfoldable pub closes : (Mono → Bool) → ℕ → List Mono → List Mono → Bool
closes may room v ns = ltb room (needed may v ns)

-- m is q times a member of v
unfoldable pub shares : List Mono → Mono → Mono → Bool
shares v q m = any (λ x. same (mul x q) m) v

-- how many of a list are q times a member of v
unfoldable pub hits : List Mono → Mono → List Mono → ℕ
hits v q l = length (keep (shares v q) l)

-- how many quotients of a list by v occur at least so often
unfoldable pub frequent : (Mono → Bool) → List Mono → List Mono → ℕ → ℕ
frequent may v l often = let qs = gather (quotients_of may v) l in length (keep (λ q. leb often (count qs q)) (arrange_by same before qs))

-- the quotient of m by x is one that occurs so often, met for the first time: `done` are the monomials before m, `rest` those behind it
unfoldable pub begins : (Mono → Bool) → List Mono → ℕ → List Mono → List Mono → Mono → Mono → Bool
begins may v often done rest m x =
    let q = quo m x in
    divides x m && may q && leb often (suc (hits v q rest)) && not (leb 1 (hits v q done))

-- a number, or the cap where it is more
unfoldable pub up_to : ℕ → ℕ → ℕ
up_to cap k = cond (leb cap k) cap k
