-- Monomials side by side in bytes: what lies where, and loops that look through them from the first or from the last. Assumes nothing.
use mathlib.Core.Path.{◌≡◌, refl, sym, ap, ap₂, subst, ◌∙◌}
use mathlib.Core.Logic.{⊎_elim}
use mathlib.Core.Bool.{Bool, true, false}
use mathlib.Core.List.Memᴰ
use mathlib.Core.List.{List, [], ◌∷◌, ◌++◌, append-nil}
use Prim.Native.Nat.{ℕ, zero, suc, ◌+◌, ◌-◌, ◌*◌, ◌/◌, ◌<◌, ◌≤◌}
use native.Mathlib.Omega.{arith}
use borrow.Author.Tests.{ltb-true, ltb-false}
use lib.ListN.{length, get_or, take, drop, set, length-append, length-map, length-drop, take-append-drop, get_or-append}
use lib.Dec.{ltb}
use lib.Seq.{paste, length-paste, length_paste_head, take-paste}
use lib.Seq.{take-append-le, drop-append-le, drop-append-add, get_or-append-add, append_snoc, take_at, drop_at, length-take-le, ext_get_or}
use lib.Seq.{get_or-take, take-take, take-suc, take-add, take_all, take-set-lt, set_split}
use Rattle.monomial.specs.Lists.{any, gather, below}
use Rattle.monomial.specs.Monomial.{Mono, width}
use Rattle.monomial.proofs.Tests.{Tested, passed, failed, test}
use Rattle.monomial.proofs.Loops.{Seeking, seeking_found, seeking_on, seeking_ends, SeekingDown, down_found, down_on}
use Rattle.monomial.proofs.Members.{gather_append}
use Rattle.monomial.proofs.Counting.{below_length, below_out, below_at}
use Rattle.monomial.proofs.Strips.{strip_length, strip_at}
use Rattle.wiring.specs.Signals.{flat, tabled, listed}
use Rattle.wiring.specs.Claims.{Wide}

-- ---- what lies where
pub tabled_length : (bytes : List ℕ) → length (tabled bytes) ≡ length bytes / width
unfolding tabled
tabled_length bytes = length-map (below (length bytes / width)) (λ i. take width (drop (width * i) bytes)) ∙ below_length (length bytes / width)

pub tabled_none : tabled [] ≡ []
unfolding tabled below
tabled_none = refl

pub tabled_at : (bytes : List ℕ) (i : ℕ) (d : Mono) → i < length bytes / width → get_or (tabled bytes) i d ≡ take width (drop (width * i) bytes)
unfolding tabled
tabled_at bytes i d h = below_at (λ j. take width (drop (width * j) bytes)) (length bytes / width) i d h

-- each has the panel's width
pub tabled_wide : (bytes : List ℕ) → Wide (tabled bytes)
unfolding tabled
tabled_wide bytes m h =
    let p = Memᴰ.of_map (λ i. take width (drop (width * i) bytes)) (below (length bytes / width)) h in
    let few : p.0 < length bytes / width = below_out (length bytes / width) p.0 p.1 in
    let long : length (drop (width * p.0) bytes) ≡ length bytes - width * p.0 = length-drop (width * p.0) bytes in
    ap length (sym p.2) ∙ length-take-le width (drop (width * p.0) bytes) (omega arith)

pub tabled_flat : (l : List Mono) → Wide l → tabled (flat l) ≡ l
tabled_flat l w = ext_get_or [] (tabled (flat l)) l many at
  where
    long : length (flat l) ≡ width * length l
    long = strip_length (λ m. m) width l w

    many : length (tabled (flat l)) ≡ length l
    many = tabled_length (flat l) ∙ omega (arith, long)

    at : (i : ℕ) → i < length (tabled (flat l)) → get_or (tabled (flat l)) i [] ≡ get_or l i []
    at i h =
        let few : i < length (flat l) / width = omega (arith, tabled_length (flat l)) in
        tabled_at (flat l) i [] few
        ∙ ap (λ (u : List ℕ). take width (drop (width * i) u)) (sym (append-nil (flat l)))
        ∙ strip_at (λ m. m) width l w [] i [] (omega (arith, many))

-- n monomials, and more bytes behind them
pub tabled_append : (a b : List ℕ) (n : ℕ) → length a ≡ width * n → tabled (a ++ b) ≡ tabled a ++ tabled b
tabled_append a b n l = ext_get_or [] (tabled (a ++ b)) (tabled a ++ tabled b) alike at
  where
    many : length (tabled a) ≡ n
    many = tabled_length a ∙ omega (arith, l)

    long : length (a ++ b) ≡ width * n + length b
    long = length-append a b ∙ omega (arith, l)

    alike : length (tabled (a ++ b)) ≡ length (tabled a ++ tabled b)
    alike = omega (arith, tabled_length (a ++ b), long, many, tabled_length b, length-append (tabled a) (tabled b))

    old : (i : ℕ) → i < n → get_or (tabled (a ++ b)) i [] ≡ get_or (tabled a ++ tabled b) i []
    old i h =
        tabled_at (a ++ b) i [] (omega (arith, long))
        ∙ ap (take width) (drop-append-le (width * i) a b (omega (arith, l)))
        ∙ take-append-le width (drop (width * i) a) b (omega (arith, l, length-drop (width * i) a))
        ∙ sym (get_or-append (tabled a) (tabled b) [] i (omega (arith, many)) ∙ tabled_at a i [] (omega (arith, l)))

    new : (j : ℕ) → j < length b / width → get_or (tabled (a ++ b)) (length (tabled a) + j) [] ≡ get_or (tabled a ++ tabled b) (length (tabled a) + j) []
    new j h =
        let skip : width * (length (tabled a) + j) ≡ length a + width * j = omega (arith, l, many) in
        tabled_at (a ++ b) (length (tabled a) + j) [] (omega (arith, long, many))
        ∙ ap (λ (k : ℕ). take width (drop k (a ++ b))) skip
        ∙ ap (take width) (drop-append-add a b (width * j))
        ∙ sym (get_or-append-add (tabled a) (tabled b) j [] ∙ tabled_at b j [] h)

    at : (i : ℕ) → i < length (tabled (a ++ b)) → get_or (tabled (a ++ b)) i [] ≡ get_or (tabled a ++ tabled b) i []
    at i h = go (test (ltb i n))
      where
        go : Tested (ltb i n) → get_or (tabled (a ++ b)) i [] ≡ get_or (tabled a ++ tabled b) i []
        go (passed e) = old i (ltb-true i n e)
        go (failed e) =
            let behind : n ≤ i = ltb-false i n e in
            let q : length (tabled a) + (i - n) ≡ i = omega (arith, many) in
            let few : i - n < length b / width = omega (arith, tabled_length (a ++ b), long) in
            subst (λ (k : ℕ). get_or (tabled (a ++ b)) k [] ≡ get_or (tabled a ++ tabled b) k []) q (new (i - n) few)

tabled_one : (x : Mono) → length x ≡ width → tabled x ≡ x ∷ []
unfolding gather
tabled_one x w =
    let wide : Wide (x ∷ []) = λ m h. ⊎_elim (λ e. ap length e ∙ w) (λ k. absurd (Memᴰ.not-nil k)) (Memᴰ.cases_cons h) in
    ap (λ (u : List ℕ). tabled u) (sym (append-nil x)) ∙ tabled_flat (x ∷ []) wide

-- a monomial more behind n of them
pub tabled_more : (bytes : List ℕ) (n : ℕ) (x : Mono) → length bytes ≡ width * n → length x ≡ width → tabled (bytes ++ x) ≡ tabled bytes ++ (x ∷ [])
tabled_more bytes n x l w = tabled_append bytes x n l ∙ ap (λ (t : List Mono). tabled bytes ++ t) (tabled_one x w)

-- the first n monomials, and those behind them
module _ (bytes : List ℕ) (n : ℕ) (h : width * n ≤ length bytes) where
  front_long : length (take (width * n) bytes) ≡ width * n
  front_long = length-take-le (width * n) bytes h

  pub listed_length : length (listed n bytes) ≡ n
  listed_length = tabled_length (take (width * n) bytes) ∙ omega (arith, front_long)

  tabled_parts : tabled bytes ≡ listed n bytes ++ tabled (drop (width * n) bytes)
  tabled_parts =
      ap (λ (u : List ℕ). tabled u) (sym (take-append-drop (width * n) bytes)) ∙ tabled_append (take (width * n) bytes) (drop (width * n) bytes) n front_long

  pub tabled_take : tabled (take (width * n) bytes) ≡ take n (tabled bytes)
  tabled_take = sym (ap (take n) tabled_parts ∙ take_at (listed n bytes) (tabled (drop (width * n) bytes)) n listed_length)

  pub tabled_drop : tabled (drop (width * n) bytes) ≡ drop n (tabled bytes)
  tabled_drop = sym (ap (drop n) tabled_parts ∙ drop_at (listed n bytes) (tabled (drop (width * n) bytes)) n listed_length)

  pub listed_at : (i : ℕ) (d : Mono) → i < n → get_or (listed n bytes) i d ≡ take width (drop (width * i) bytes)
  listed_at i d k = ap (λ (t : List Mono). get_or t i d) tabled_take ∙ get_or-take n (tabled bytes) i d k ∙ tabled_at bytes i d (omega arith)

-- the first of the first ones
pub listed_less : (m n : ℕ) (bytes : List ℕ) → m ≤ n → width * n ≤ length bytes → take m (listed n bytes) ≡ listed m bytes
listed_less m n bytes h k =
    ap (take m) (tabled_take bytes n k) ∙ take-take m n (tabled bytes) h ∙ sym (tabled_take bytes m (omega arith))

-- a monomial written over another: this entry of the table is set
pub tabled_put : (bytes : List ℕ) (i : ℕ) (x : Mono) → length x ≡ width → width * i + width ≤ length bytes
    → tabled (paste bytes (width * i) x width) ≡ set (tabled bytes) i x
tabled_put bytes i x w h =
    tabled_append (low ++ take width x) (drop (width * i + width) bytes) (suc i) (head_long ∙ omega arith)
    ∙ ap₂ ◌++◌ new behind
    ∙ append_snoc (take i (tabled bytes)) x (drop (suc i) (tabled bytes))
    ∙ sym (set_split (tabled bytes) i x (omega (arith, tabled_length bytes)))
  where
    low : List ℕ
    low = take (width * i) bytes

    head_long : length (low ++ take width x) ≡ width * i + width
    head_long = length_paste_head bytes (width * i) x width (omega arith) (omega arith)

    new : tabled (low ++ take width x) ≡ take i (tabled bytes) ++ (x ∷ [])
    new =
        ap (λ (u : List ℕ). tabled (low ++ u)) (take_all width x (omega arith))
        ∙ tabled_more low i x (length-take-le (width * i) bytes (omega arith)) w
        ∙ ap (λ (t : List Mono). t ++ (x ∷ [])) (tabled_take bytes i (omega arith))

    behind : tabled (drop (width * i + width) bytes) ≡ drop (suc i) (tabled bytes)
    behind =
        let e : width * i + width ≡ width * suc i = omega arith in
        ap (λ (k : ℕ). tabled (drop k bytes)) e ∙ tabled_drop bytes (suc i) (omega arith)

-- the same among the first n
pub listed_put : (n : ℕ) (bytes : List ℕ) (i : ℕ) (x : Mono) → length x ≡ width → i < n → width * n ≤ length bytes
    → listed n (paste bytes (width * i) x width) ≡ set (listed n bytes) i x
listed_put n bytes i x w h k =
    let long : length (paste bytes (width * i) x width) ≡ length bytes = length-paste bytes (width * i) x width (omega arith) (omega arith) in
    tabled_take (paste bytes (width * i) x width) n (omega arith)
    ∙ ap (take n) (tabled_put bytes i x w (omega arith))
    ∙ take-set-lt n (tabled bytes) i x h
    ∙ ap (λ (t : List Mono). set t i x) (sym (tabled_take bytes n k))

-- n monomials written over the first ones
pub listed_copied : (n : ℕ) (out bytes : List ℕ) → length bytes ≡ width * n → listed n (paste out 0 bytes (length bytes)) ≡ tabled bytes
listed_copied n out bytes l =
    let copied : take (0 + length bytes) (paste out 0 bytes (length bytes)) ≡ take (length bytes) bytes =
    take-paste out 0 bytes (length bytes) (omega arith) (omega arith) in
    let e : width * n ≡ 0 + length bytes = omega (arith, l) in
    ap (λ (k : ℕ). tabled (take k (paste out 0 bytes (length bytes)))) e
    ∙ ap (λ (u : List ℕ). tabled u) (copied ∙ take_all (length bytes) bytes (omega arith))

-- ---- the bytes of what lies in bytes
-- the first k of a list, one behind the other, are the first bytes, where each entry lies at its place
pub flat_cuts : (bytes : List ℕ) (l : List Mono) → ((i : ℕ) → i < length l → get_or l i [] ≡ take width (drop (width * i) bytes))
    → (k : ℕ) → k ≤ length l → flat (take k l) ≡ take (width * k) bytes
unfolding gather
flat_cuts bytes l at zero h = refl
flat_cuts bytes l at (suc k) h =
    let x : Mono = take width (drop (width * k) bytes) in
    let next : take (suc k) l ≡ take k l ++ (x ∷ []) = take-suc l k [] (omega arith) ∙ ap (λ m. take k l ++ (m ∷ [])) (at k (omega arith)) in
    let e : width * suc k ≡ width * k + width = omega arith in
    ap flat next ∙ gather_append (λ m. m) (take k l) (x ∷ []) ∙ ap₂ ◌++◌ (flat_cuts bytes l at k (omega arith)) (append-nil x)
    ∙ sym (take-add (width * k) width bytes) ∙ ap (λ (j : ℕ). take j bytes) (sym e)

pub flat_tabled : (bytes : List ℕ) → length bytes ≡ width * length (tabled bytes) → flat (tabled bytes) ≡ bytes
flat_tabled bytes l =
    let t : List Mono = tabled bytes in
    ap flat (sym (take_all (length t) t (omega arith)))
    ∙ flat_cuts bytes t (λ i h. tabled_at bytes i [] (omega (arith, tabled_length bytes))) (length t) (omega arith)
    ∙ take_all (width * length t) bytes (omega (arith, l))

-- ---- a loop that looks through a table for a monomial that passes f, and has come to place i
module _ (f : Mono → Bool) (bytes : List ℕ) {i : ℕ} (s : Seeking f (tabled bytes) i) where
  pub tabled_found : i < length bytes / width → f (take width (drop (width * i) bytes)) ≡ true → true ≡ any f (tabled bytes)
  tabled_found h e = seeking_found f [] s (omega (arith, tabled_length bytes)) (ap f (tabled_at bytes i [] h) ∙ e)

  pub tabled_on : i < length bytes / width → f (take width (drop (width * i) bytes)) ≡ false → Seeking f (tabled bytes) (i + 1)
  tabled_on h e = seeking_on f [] s (omega (arith, tabled_length bytes)) (ap f (tabled_at bytes i [] h) ∙ e)

  pub tabled_ends : length bytes / width ≤ i → false ≡ any f (tabled bytes)
  tabled_ends h = seeking_ends f s (omega (arith, tabled_length bytes))

-- ---- the same from the last monomial down: the loop has come to place i + 1
module _ (f : Mono → Bool) (bytes : List ℕ) {j : ℕ} (s : SeekingDown f (tabled bytes) j) (i : ℕ) (e : j ≡ i + 1) where
  pub tabled_last : f (take width (drop (width * i) bytes)) ≡ true → true ≡ any f (tabled bytes)
  tabled_last t = down_found f [] s i e (ap f (tabled_at bytes i [] (omega (arith, s.within, tabled_length bytes))) ∙ t)

  pub tabled_down : f (take width (drop (width * i) bytes)) ≡ false → SeekingDown f (tabled bytes) i
  tabled_down t = down_on f [] s i e (ap f (tabled_at bytes i [] (omega (arith, s.within, tabled_length bytes))) ∙ t)
