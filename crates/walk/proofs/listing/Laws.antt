-- Records of one width in a buffer: those from a place on moved up, and one more put in their place; and the place of a new entry in a list.
-- Assumes nothing.
use mathlib.Core.Path.{◌≡◌, sym, ap, ap₂, ◌∙◌}
use mathlib.Core.List.{List, ◌∷◌, ◌++◌, append_assoc}
use Prim.Native.Nat.{ℕ, ◌+◌, ◌*◌, ◌-◌, ◌≤◌}
use native.Mathlib.Omega.{arith}
use lib.ListN.{length, take, drop, length-append}
use lib.Seq.{paste, take-take, take-append-le, take-append_seam, take_all, drop_at, drop-append-add, drop-append_seam, length-take-le}
use Rattle.monomial.specs.Lists.{gather}
use Rattle.monomial.specs.Claims.{◌∈◌}
use Rattle.monomial.proofs.Members.{gather_append}
use Rattle.monomial.proofs.Strips.{strip_length, strip_split, strip_front}

-- ---- a buffer in parts
-- b moves up by one record y, and r takes its place: what stands there is a, r, b and what stood behind y
module _ {A : Type 0} (w : ℕ) (a b y z r : List A) (gone : length y ≡ w) (new : length r ≡ w) where
  abbrev buffer : List A
  buffer = a ++ (b ++ (y ++ z))

  abbrev moved : List A
  moved = paste buffer (length a + w) (drop (length a) buffer) (length b)

  head : List A
  head = take (length a + w) buffer

  moved_is : moved ≡ head ++ (b ++ z)
  unfolding head
  moved_is =
      let skip : length a + w + length b ≡ length a + (length b + length y) = omega arith in
      let rest : drop (length a + w + length b) buffer ≡ z =
      ap (λ (k : ℕ). drop k buffer) skip ∙ drop-append-add a (b ++ (y ++ z)) (length b + length y)
      ∙ drop-append-add b (y ++ z) (length y) ∙ drop-append_seam y z in
      rw (rest, drop-append_seam a (b ++ (y ++ z)), take-append_seam b (y ++ z)) (append_assoc head b z)

  head_length : length head ≡ length a + w
  unfolding head
  head_length =
      length-take-le (length a + w) buffer (omega (arith, length-append a (b ++ (y ++ z)), length-append b (y ++ z), length-append y z))

  pub placed : paste moved (length a) r w ≡ a ++ (r ++ (b ++ z))
  unfolding head
  placed =
      let long = head_length in
      let front : take (length a) moved ≡ a =
      ap (take (length a)) moved_is ∙ take-append-le (length a) head (b ++ z) (omega arith)
      ∙ take-take (length a) (length a + w) buffer (omega arith) ∙ take-append_seam a (b ++ (y ++ z)) in
      let back : drop (length a + w) moved ≡ b ++ z = ap (drop (length a + w)) moved_is ∙ drop_at head (b ++ z) (length a + w) long in
      rw (front, back, take_all w r (omega arith)) (append_assoc a r (b ++ z))

-- ---- records of w bytes, one behind the other
module _ {A : Type 0} (f : A → List ℕ) where
  module _ (w : ℕ) (l : List A) (even : (x : A) → x ∈ l → length (f x) ≡ w) where
    -- one more record, at place p, where the bytes y are free behind the others
    pub gather_more : (x : A) (y z : List ℕ) (p : ℕ) → p ≤ length l → length y ≡ w → length (f x) ≡ w
        → let b = gather f l ++ (y ++ z) in
        paste (paste b (w * p + w) (drop (w * p) b) (w * length l - w * p)) (w * p) (f x) w ≡ gather f (take p l ++ x ∷ drop p l) ++ z
    unfolding gather
    gather_more x y z p h gone new =
        let a = gather f (take p l) in
        let b = gather f (drop p l) in
        let low : w * p ≡ length a = sym (strip_front f w l even p h) in
        let high : w * length l - w * p ≡ length b = omega (arith, strip_length f w l even, ap length (strip_split f w l even p), length-append a b, low) in
        let parts : gather f l ++ (y ++ z) ≡ a ++ (b ++ (y ++ z)) = ap (λ (u : List ℕ). u ++ (y ++ z)) (strip_split f w l even p) ∙ append_assoc a b (y ++ z) in
        let whole : gather f (take p l ++ x ∷ drop p l) ++ z ≡ a ++ (f x ++ (b ++ z)) =
        ap (λ (u : List ℕ). u ++ z) (gather_append f (take p l) (x ∷ drop p l)) ∙ append_assoc a (f x ++ b) z ∙ ap (λ (u : List ℕ). a ++ u) (append_assoc (f x) b z) in
        ap (λ (u : List ℕ). paste (paste u (w * p + w) (drop (w * p) u) (w * length l - w * p)) (w * p) (f x) w) parts
        ∙ ap₂ (λ (m n : ℕ). let u = a ++ (b ++ (y ++ z)) in paste (paste u (m + w) (drop m u) n) m (f x) w) low high
        ∙ placed w a b y z (f x) gone new ∙ sym whole
