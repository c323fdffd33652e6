-- Arrays of monomials as lists: what their first places hold, and the loops that fill them. Assumes nothing.
use mathlib.Core.Path.{◌≡◌, refl, sym, ap, subst, ◌∙◌}
use mathlib.Core.List.{List, [], ◌∷◌, ◌++◌, map, append-nil}
use Prim.Native.Nat.{ℕ, zero, suc, ◌+◌, ◌<◌, ◌≤◌}
use native.Mathlib.Omega.{arith}
use native.Mathlib.Numerals.{add-one}
use lib.ListN.{length, get_or, take, drop, set, length-append, length-map, length-set, drop_of_length-le}
use lib.Seq.{length-take-le, get_or-take, take-set-lt, take-suc-set, drop-cons, append_snoc}
use Rattle.monomial.specs.Monomial.{Mono}
use Rattle.monomial.specs.Product.{AtMost}
use Rattle.monomial.specs.declared.Monomial.{Monomial}
use Rattle.monomial.proofs.Members.{map_at}
use Rattle.monomial.proofs.Counting.{at_in}
use Rattle.wiring.specs.Signals.{front, Fitting}

-- ---- an array and its first places
-- what owning an array of monomials tells of its length: `search (rules, array_length)`
pub array_length : (l : List Monomial) (n : ℕ) → length (map (Rattle.monomial.specs.contracts.Monomial.the_field).into l) ≡ n → length l ≡ n
array_length l n p = sym (length-map l (Rattle.monomial.specs.contracts.Monomial.the_field).into) ∙ p

module _ {A B : Type 0} (f : A → B) where
  map_set : (l : List A) (i : ℕ) (x : A) → map f (set l i x) ≡ set (map f l) i (f x)
  map_set [] i x = refl
  map_set (a ∷ l) zero x = refl
  map_set (a ∷ l) (suc i) x = ap (◌∷◌ (f a)) (map_set l i x)

-- an entry of an array
abbrev pub entry : List Monomial → ℕ → Mono
entry u i = (get_or u i (record { e = [] })).e

pub front_length : (k : ℕ) (m : List Monomial) → k ≤ length m → length (front k m) ≡ k
front_length k m h = length-take-le k (map (λ x. x.e) m) (omega (arith, length-map m (λ x. x.e)))

pub front_at : (k : ℕ) (m : List Monomial) (i : ℕ) (d : Mono) → i < k → k ≤ length m → get_or (front k m) i d ≡ (get_or m i (record { e = [] })).e
front_at k m i d h l = get_or-take k (map (λ x. x.e) m) i d h ∙ map_at (λ x. x.e) m i (record { e = [] }) d (omega arith)

pub front_drop : (k : ℕ) (m : List Monomial) (i : ℕ) → i < k → k ≤ length m → drop i (front k m) ≡ entry m i ∷ drop (i + 1) (front k m)
front_drop k m i h l =
    let long : length (front k m) ≡ k = front_length k m l in
    rw (add-one i) (drop-cons (front k m) i [] (omega arith) ∙ ap (λ (x : Mono). x ∷ drop (suc i) (front k m)) (front_at k m i [] h l))

pub front_set : (k : ℕ) (m : List Monomial) (i : ℕ) (x : Monomial) → i < k → front k (set m i x) ≡ set (front k m) i x.e
front_set k m i x h = ap (take k) (map_set (λ y. y.e) m i x) ∙ take-set-lt k (map (λ y. y.e) m) i x.e h

-- ---- a loop that writes the list t into an array, and has come to place at: what is written, then what is left, is the whole
pub record Writing (size : ℕ) (t : List Mono) (m : List Monomial) (at : ℕ) (left : List Mono) : Type 0 where
  pub long : length m ≡ size
  pub room : length t ≤ size
  pub within : at ≤ size
  pub whole : front at m ++ left ≡ t

pub writing_start : (size : ℕ) (t : List Mono) (m : List Monomial) → length m ≡ size → length t ≤ size → Writing size t m 0 t
writing_start size t m l h = record { long = l; room = h; within = omega arith; whole = refl }

module _ {size : ℕ} {t : List Mono} {m : List Monomial} {at : ℕ} where
  -- something is left, so there is room for it
  pub writing_room : {y : Mono} {left : List Mono} → Writing size t m at (y ∷ left) → at < size
  writing_room {y} {left} w =
      let front_is : length (front at m) ≡ at = front_length at m (omega (arith, w.long, w.within)) in
      let all : length (front at m) + length (y ∷ left) ≡ length t = sym (length-append (front at m) (y ∷ left)) ∙ ap length w.whole in
      omega (arith, w.room)

  pub writing_put : {y : Mono} {left : List Mono} (x : Monomial) → Writing size t m at (y ∷ left) → x.e ≡ y → Writing size t (set m at x) (at + 1) left
  writing_put {y} {left} x w e =
      let h : at < size = writing_room w in
      let place : at < length (map (λ z. z.e) m) = omega (arith, w.long, length-map m (λ z. z.e)) in
      let one_more : front (at + 1) (set m at x) ≡ front at m ++ (y ∷ []) =
      rw (add-one at, map_set (λ z. z.e) m at x, take-suc-set (map (λ z. z.e) m) at x.e place, e) in
      record {
        long = length-set m at x ∙ w.long;
        room = w.room;
        within = omega arith;
        whole = ap (λ l. l ++ left) one_more ∙ append_snoc (front at m) y left ∙ w.whole;
      }

  pub writing_end : Writing size t m at [] → front at m ≡ t
  writing_end w = sym (append-nil (front at m)) ∙ w.whole

-- the same where the list is written from its own entries: what is left is the rest of t
abbrev pub Copying : ℕ → List Mono → List Monomial → ℕ → Type 0
Copying size t m at = Writing size t m at (drop at t)

module _ {size : ℕ} {t : List Mono} {m : List Monomial} {at : ℕ} (w : Copying size t m at) where
  pub copying_next : (x : Monomial) (d : Mono) → at < length t → x.e ≡ get_or t at d → Copying size t (set m at x) (at + 1)
  copying_next x d h e =
      let next : drop at t ≡ get_or t at d ∷ drop (at + 1) t = rw (add-one at) (drop-cons t at d h) in
      writing_put x (rw next at w) e

  pub copying_end : length t ≤ at → front at m ≡ t
  copying_end h = writing_end (rw (drop_of_length-le t h) at w)

-- an entry of an array whose front fits
pub entry_fits : (b k : ℕ) (m : List Monomial) (i : ℕ) → i < k → k ≤ length m → Fitting b (front k m) → AtMost b (entry m i)
entry_fits b k m i h l f =
    subst (AtMost b) (front_at k m i [] h l) (f (get_or (front k m) i []) (at_in (front k m) i [] (omega (arith, front_length k m l)))).1
