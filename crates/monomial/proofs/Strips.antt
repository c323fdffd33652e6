-- Records of one width side by side: their length, the record at a place, and one more behind the others. Assumes nothing.
use mathlib.Core.Path.{◌≡◌, sym, ap, ◌∙◌}
use mathlib.Core.List.{List, [], ◌∷◌, ◌++◌, append-nil, append_assoc}
use Prim.Native.Nat.{ℕ, suc, ◌+◌, ◌*◌, ◌<◌, ◌≤◌}
use native.Mathlib.Omega.{arith}
use native.Mathlib.Nat.{mul-suc, mul-zero}
use lib.ListN.{length, get_or, take, drop, length-append, take-append-drop}
use lib.Seq.{paste, drop-cons, take_all, take_at, drop_at, length-take-le}
use Rattle.monomial.specs.Lists.{gather}
use Rattle.monomial.specs.Claims.{◌∈◌}
use Rattle.monomial.proofs.Members.{here, there, take_in, gather_append}
use Rattle.monomial.proofs.Counting.{at_in}

module _ {A : Type 0} (f : A → List ℕ) (w : ℕ) where
  pub strip_length : (l : List A) → ((x : A) → x ∈ l → length (f x) ≡ w) → length (gather f l) ≡ w * length l
  unfolding gather
  strip_length [] h = sym (mul-zero w)
  strip_length (x ∷ l) h =
      length-append (f x) (gather f l) ∙ omega (arith, h x here, strip_length l (λ y m. h y (there m)), mul-suc w (length l))

  module _ (l : List A) (even : (x : A) → x ∈ l → length (f x) ≡ w) where
    pub strip_split : (i : ℕ) → gather f l ≡ gather f (take i l) ++ gather f (drop i l)
    strip_split i = sym (ap (gather f) (take-append-drop i l)) ∙ gather_append f (take i l) (drop i l)

    pub strip_front : (i : ℕ) → i ≤ length l → length (gather f (take i l)) ≡ w * i
    strip_front i h = strip_length (take i l) (λ x m. even x (take_in i l m)) ∙ ap (λ (n : ℕ). w * n) (length-take-le i l h)

    -- record number i
    pub strip_at : (z : List ℕ) (i : ℕ) (d : A) → i < length l → take w (drop (w * i) (gather f l ++ z)) ≡ f (get_or l i d)
    unfolding gather
    strip_at z i d h =
        let a = gather f (take i l) in
        let x = get_or l i d in
        let c = gather f (drop (suc i) l) in
        let parts : gather f l ++ z ≡ a ++ (f x ++ (c ++ z)) =
        ap (λ (u : List ℕ). u ++ z) (strip_split i ∙ ap (λ (t : List A). a ++ gather f t) (drop-cons l i d h)) ∙ append_assoc a (f x ++ c) z
        ∙ ap (λ (u : List ℕ). a ++ u) (append_assoc (f x) c z) in
        rw (parts, drop_at a (f x ++ (c ++ z)) (w * i) (strip_front i (omega arith))) (take_at (f x) (c ++ z) w (even x (at_in l i d h)))

    -- one more record behind the others, where the bytes y are free
    pub strip_last : (x : A) (y z : List ℕ) → length y ≡ w → length (f x) ≡ w → paste (gather f l ++ (y ++ z)) (w * length l) (f x) w ≡ gather f (l ++ (x ∷ [])) ++ z
    unfolding gather
    strip_last x y z gone new =
        let a = gather f l in
        let long : length a ≡ w * length l = strip_length l even in
        let ends : length (a ++ y) ≡ w * length l + w = length-append a y ∙ omega arith in
        let back : drop (w * length l + w) (a ++ (y ++ z)) ≡ z = ap (drop (w * length l + w)) (sym (append_assoc a y z)) ∙ drop_at (a ++ y) z (w * length l + w) ends in
        let all : gather f (l ++ (x ∷ [])) ≡ a ++ f x = gather_append f l (x ∷ []) ∙ ap (λ (u : List ℕ). a ++ u) (append-nil (f x)) in
        rw (take_at a (y ++ z) (w * length l) long, take_all w (f x) (omega arith), back, all)
