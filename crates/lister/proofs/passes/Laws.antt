-- A pass of the lister over the factor pairs of a monomial other than 1, by any test, and what is listed by two passes. Assumes nothing.
use mathlib.Core.Path.{◌≡◌, refl, sym, ap, ap₂, ◌∙◌, subst}
use mathlib.Core.Bool.{Bool, true, false, cond}
use mathlib.Core.List.{List, [], ◌∷◌, ◌++◌, append-nil}
use Prim.Native.Nat.{ℕ, suc, ◌+◌, ◌≤◌, ◌<◌}
use native.Mathlib.Omega.{arith}
use Rattle.std.specs.Prelude.{Option, None, Some, is_some, IfNone}
use lib.Dec.{T}
use lib.ListN.{length}
use Rattle.monomial.specs.Lists.{keep}
use Rattle.monomial.specs.Monomial.{Mono, one}
use Rattle.monomial.specs.Quotient.{divides}
use Rattle.monomial.specs.Divisors.{leads, pairs, next}
use Rattle.monomial.specs.Claims.{◌∈◌, Pair, split, pairs_from}
use Rattle.monomial.proofs.Tests.{T→is, is_not, is→T, is→n_t}
use Rattle.monomial.proofs.Members.{no_length, keep_yes, keep_no, keep_length, keep_split}
use Rattle.monomial.proofs.quotient.Laws.{one_divides}
use Rattle.monomial.proofs.divisors.Following.{next_divides}
use Rattle.monomial.proofs.divisors.Pairs.{leads_in, pairs_start, pairs_turn, pairs_end, none_between, none_later}
use Rattle.lister.specs.declared.cheap.Held.{Held}
use Rattle.lister.specs.declared.passes.Place.{Place}
use Rattle.lister.specs.declared.nearest.Near.{Near}
use Rattle.lister.specs.Cheap.{cheap, of_kind, cheap_first, Holds}
use Rattle.lister.specs.Nearest.{Nearest}
use Rattle.lister.specs.Passes.{Proper, kind_from, kind, Standing, Picked, Sought, list_from, put_off, Found}

-- ---- one pass, for the pairs that pass a test: from the divisor a₀ it has come to a, and has met none that it seeks
pub record Seeking (m : Mono) (f : Pair → Bool) (a₀ a : Mono) : Type 0 where
  pub divisor : T (divides a m)
  pub unmet : keep f (pairs_from m a₀) ≡ keep f (pairs_from m a)

-- ---- a pass that goes from divisor to divisor
module _ (m : Mono) (proper : Proper m) (f : Pair → Bool) where
  module _ (a : Mono) (d : T (divides a m)) (l : T (leads m a)) where
    sought_here : f (split m a) ≡ true → keep f (pairs_from m a) ≡ split m a ∷ keep f (pairs_from m (next m a))
    sought_here e = ap (keep f) (pairs_turn a m d proper l) ∙ keep_yes f (split m a) (pairs_from m (next m a)) (is→T (f (split m a)) e)

    sought_later : f (split m a) ≡ false → keep f (pairs_from m a) ≡ keep f (pairs_from m (next m a))
    sought_later e = ap (keep f) (pairs_turn a m d proper l) ∙ keep_no f (split m a) (pairs_from m (next m a)) (is→n_t (f (split m a)) e)

    -- fewer pairs are left
    pub fewer_pairs : (b : Mono) → b ≡ next m a → length (pairs_from m b) < length (pairs_from m a)
    fewer_pairs b e =
        let turn : length (pairs_from m a) ≡ suc (length (pairs_from m (next m a))) = ap length (pairs_turn a m d proper l) in
        let same_place : length (pairs_from m b) ≡ length (pairs_from m (next m a)) = ap (λ (x : Mono). length (pairs_from m x)) e in
        omega arith

  module _ {a₀ a : Mono} (w : Seeking m f a₀ a) where
    pub seeking_found : T (leads m a) → f (split m a) ≡ true → keep f (pairs_from m a₀) ≡ split m a ∷ keep f (pairs_from m (next m a))
    seeking_found l e = w.unmet ∙ sought_here a w.divisor l e

    pub seeking_by : T (leads m a) → f (split m a) ≡ false → Seeking m f a₀ (next m a)
    seeking_by l e = record { divisor = next_divides a m w.divisor; unmet = w.unmet ∙ sought_later a w.divisor l e }

    pub seeking_none : (T (leads m a) → ⊥) → keep f (pairs_from m a₀) ≡ []
    unfolding keep
    seeking_none l = w.unmet ∙ ap (keep f) (pairs_end a m w.divisor l)

-- ---- by the two kinds of pairs
module _ (v : List Mono) (m : Mono) where
  -- a pass begins
  pub standing_start : (rest : Bool) (a : Mono) → a ≡ one (length m) → Standing v m rest a 0
  standing_start rest a e = record {
    divisor = subst (λ (x : Mono). T (divides x m)) (sym e) (one_divides m);
    counted =
        let all : length (keep (of_kind v rest) (pairs_from m a)) ≡ length (keep (of_kind v rest) (pairs m)) =
        ap (λ (ps : List Pair). length (keep (of_kind v rest) ps)) (ap (pairs_from m) e ∙ pairs_start m) in
        omega arith;
  }

  -- the two kinds are all pairs
  pub kinds_count : length (kind v m false) + length (kind v m true) ≡ length (pairs m)
  kinds_count = keep_split (cheap v) (pairs m)

  -- no more are listed than there are
  pub standing_few : (rest : Bool) (a : Mono) (listed : ℕ) → Standing v m rest a listed → listed ≤ length (pairs m)
  standing_few rest a listed st = omega (arith, st.counted, keep_length (of_kind v rest) (pairs m))

  module _ (from : Place) (st : Standing v m from.rest from.a.e from.listed) (at : Place) (kept : at.rest ≡ from.rest) where
    -- the pass came to a pair, one more is listed
    module _ (d : T (divides at.a.e m)) (l : T (leads m at.a.e)) (held : Held) (q : Holds v (split m at.a.e) held)
        (comes : keep (of_kind v from.rest) (pairs_from m from.a.e) ≡ split m at.a.e ∷ keep (of_kind v from.rest) (pairs_from m (next m at.a.e)))
        (one_more : at.listed ≡ from.listed + 1) where
      later : Standing v m from.rest (next m at.a.e) at.listed
      later = record {
        divisor = next_divides at.a.e m d;
        counted = omega (arith, st.counted, ap length comes);
      }

      pub sought_found : Sought v m from (record { at = at; held = Some held })
      sought_found = record {
        kept = kept;
        picked = record { divisor = d; leading = l; held = q; behind = subst (λ (b : Bool). Standing v m b (next m at.a.e) at.listed) (sym kept) later };
        lists = comes;
        none = tt;
        over = tt;
      }

    -- it came to its end
    pub sought_none : keep (of_kind v from.rest) (pairs_from m from.a.e) ≡ [] → at.listed ≡ from.listed → Sought v m from (record { at = at; held = None })
    sought_none nothing no_more = record {
      kept = kept;
      picked = tt;
      lists = tt;
      none = nothing;
      over = omega (arith, st.counted, ap length nothing);
    }

  -- the first cheap pair from a on, as it was found by V
  module _ (proper : Proper m) (a : Mono) where
    pub nearest_comes : (near : Near) → Nearest v m a (Some near) → keep (cheap v) (pairs_from m a) ≡ split m near.a.e ∷ keep (cheap v) (pairs_from m (next m near.a.e))
    nearest_comes near w =
        let own = w.own.0 in
        none_between m (cheap v) a near.a.e own.later (λ d t l c h. w.least d (record { divisor = t; leading = l; cheap = c; later = h }))
        ∙ sought_here m proper (cheap v) near.a.e own.divisor own.leading (T→is (cheap v (split m near.a.e)) own.cheap)

    pub nearest_none : Nearest v m a None → keep (cheap v) (pairs_from m a) ≡ []
    nearest_none w = none_later m (cheap v) a (λ d t l c h. w.least d (record { divisor = t; leading = l; cheap = c; later = h }))

-- ---- what is said where there is none
pub at_none : {A : Type 0} (o : Option A) {P : Type 0} → is_some o ≡ false → IfNone o P → P
at_none None e p = p
at_none (Some x) e p = absurd (is_not true refl e)

-- ---- both passes
module _ (v : List Mono) (m : Mono) (all : Bool) where
  found_list : (rest : Bool) (a x : Mono) → kind_from v m rest a ≡ split m x ∷ kind_from v m rest (next m x) → list_from v m all rest a ≡ split m x ∷ list_from v m all rest (next m x)
  found_list true a x e = e
  found_list false a x e = ap (λ (ps : List Pair). ps ++ cond all (kind v m true) []) e

  none_list : (rest : Bool) (a : Mono) → kind_from v m rest a ≡ [] → (rest ≡ false → all ≡ false) → list_from v m all rest a ≡ []
  none_list true a e h = e
  none_list false a e h = rw (h refl) (ap (λ (ps : List Pair). ps ++ []) e)

  module _ (from : Place) (ask : all ≡ false → from.rest ≡ false) (at : Place) where
    -- nothing more is sought: a pair was found, or of the rest none is left, or no more is asked for
    pub found_of : (held : Option Held) → Sought v m from (record { at = at; held = held }) → (is_some held ≡ false → from.rest ≡ false → all ≡ false)
        → Found v m all from.rest from.a.e (record { at = at; held = held })
    found_of (Some held) w last = record {
      picked = w.picked;
      lists = found_list from.rest from.a.e at.a.e w.lists ∙ ap (λ (b : Bool). split m at.a.e ∷ list_from v m all b (next m at.a.e)) (sym w.kept);
      none = tt;
      cheap_only = λ c. w.kept ∙ ask c;
      over = λ c. tt;
    }
    found_of None w last = record {
      picked = tt;
      lists = tt;
      none = none_list from.rest from.a.e w.none (last refl);
      cheap_only = λ c. w.kept ∙ ask c;
      over = λ c. w.over ∙ ap (λ (b : Bool). length (kind v m b)) (ask c);
    }

    -- the cheap ones are through, and there are no others
    pub found_through : (held : Option Held) → Sought v m from (record { at = at; held = held }) → is_some held ≡ false → from.rest ≡ false → length (pairs m) ≤ at.listed
        → Found v m all from.rest from.a.e (record { at = at; held = held })
    found_through (Some held) w e b few = absurd (is_not true refl e)
    found_through None w e b few = record {
      picked = tt;
      lists = tt;
      none = rw b (ap₂ ◌++◌ (rw b at w.none) (no_rest all));
      cheap_only = λ c. w.kept ∙ ask c;
      over = λ c. w.over ∙ ap (λ (x : Bool). length (kind v m x)) (ask c);
    }
      where
        none_there : length (kind v m true) ≡ 0
        none_there = omega (arith, kinds_count v m, w.over, ap (λ (x : Bool). length (kind v m x)) b)

        no_rest : (c : Bool) → cond c (kind v m true) [] ≡ []
        no_rest true = no_length (kind v m true) none_there
        no_rest false = refl

    -- the cheap ones are through, and the rest is listed from its first pair on
    pub found_on : (held : Option Held) → Sought v m from (record { at = at; held = held }) → is_some held ≡ false → from.rest ≡ false → all ≡ true → (x : Mono) → x ≡ one (length m)
        → list_from v m all from.rest from.a.e ≡ list_from v m all true x
    found_on (Some held) w e b c x i = absurd (is_not true refl e)
    found_on None w e b c x i =
        rw (b, c) (ap (λ (ps : List Pair). ps ++ kind v m true) (rw b at w.none) ∙ sym (ap (keep (of_kind v true)) (ap (pairs_from m) i ∙ pairs_start m)))

  -- what is listed from a place on, where the same is listed from another
  pub found_same : (rest rest' : Bool) (a a' : Mono) (at : Place) (held : Option Held) → list_from v m all rest a ≡ list_from v m all rest' a'
      → Found v m all rest' a' (record { at = at; held = held }) → Found v m all rest a (record { at = at; held = held })
  found_same rest rest' a a' at (Some held) e w = record { picked = w.picked; lists = e ∙ w.lists; none = tt; cheap_only = w.cheap_only; over = w.over }
  found_same rest rest' a a' at None e w = record { picked = tt; lists = tt; none = e ∙ w.none; cheap_only = w.cheap_only; over = w.over }

  -- from the first cheap pair on all pairs are listed, or put off
  pub listed_first : (x : Mono) → x ≡ one (length m) → list_from v m all false x ++ put_off v m all ≡ cheap_first v m
  unfolding cheap_first
  listed_first x i = ap (λ (ps : List Pair). (keep (of_kind v false) ps ++ cond all (kind v m true) []) ++ put_off v m all) (ap (pairs_from m) i ∙ pairs_start m) ∙ go all
    where
      go : (b : Bool) → (kind v m false ++ cond b (kind v m true) []) ++ cond b [] (kind v m true) ≡ kind v m false ++ kind v m true
      go true = append-nil (kind v m false ++ kind v m true)
      go false = ap (λ (ps : List Pair). ps ++ kind v m true) (append-nil (kind v m false))

-- ---- the pair in hand is a factor pair
pub picked_member : (v : List Mono) (m : Mono) (at : Place) (held : Held) → Picked v m at held → split m at.a.e ∈ pairs m
picked_member v m at held k = leads_in at.a.e m k.divisor k.leading
