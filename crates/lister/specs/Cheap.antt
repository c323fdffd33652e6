-- What a factor pair adds to V, and the order in which the pairs of a nonsquare are tried: document 02, [8]. Assumes nothing.
use Rattle.std.specs.Prelude.{◌≡◌, Bool, cond, not, ◌||◌, List, [], ◌++◌, eqb, length}
use Rattle.monomial.specs.Lists.{any, keep, insert_by}
use Rattle.monomial.specs.Monomial.{Mono}
use Rattle.monomial.specs.Order.{same, before}
use Rattle.monomial.specs.Divisors.{pairs}
use Rattle.lister.specs.declared.cheap.Held.{Held}

-- the set with m in it, unless m is in V already
unfoldable pub added : List Mono → Mono → List Mono → List Mono
added v m s = cond (any (same m) v) s (insert_by same before m s)

-- the set with those of a pair that are not in V
abbrev pub joined : List Mono → Mono × Mono → List Mono → List Mono
joined v p s = added v p.0 (added v p.1 s)

-- a pair is cheap where it adds a single monomial
unfoldable pub cheap : List Mono → Mono × Mono → Bool
cheap v p = eqb (length (joined v p [])) 1

-- the two kinds of pairs: the rest, and the cheap ones
abbrev pub of_kind : List Mono → Bool → Mono × Mono → Bool
of_kind v rest p = cond rest (not (cheap v p)) (cheap v p)

-- the factor pairs of m: the cheap ones by ascending m1, then the rest likewise
unfoldable pub cheap_first : List Mono → Mono → List (Mono × Mono)
cheap_first v m = keep (cheap v) (pairs m) ++ keep (λ p. not (cheap v p)) (pairs m)

-- what adds nothing of a pair, as it was asked: the first, which V has or which is the second once more; and the second, which V has
pub record Holds (v : List Mono) (p : Mono × Mono) (h : Held) : Type 0 where
  pub first : h.first ≡ same p.0 p.1 || any (same p.0) v
  pub second : h.second ≡ any (same p.1) v
