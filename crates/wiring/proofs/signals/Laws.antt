-- V: its length, its members, and the two loops that write it. Assumes nothing.
use mathlib.Core.Path.{◌≡◌, sym, ap, subst, ◌∙◌}
use mathlib.Core.Logic.{◌⊎◌, ⊎_elim}
use mathlib.Core.Bool.{Bool}
use mathlib.Core.List.Memᴰ
use mathlib.Core.List.{List, [], ◌∷◌, ◌++◌}
use Prim.Native.Nat.{ℕ, suc, ◌+◌, ◌/◌, ◌<◌, ◌≤◌}
use native.Mathlib.Omega.{arith}
use native.Mathlib.Numerals.{add-one}
use lib.ListN.{length, get_or, take, set, length-append, get_or-append}
use lib.Seq.{length-take-le, get_or-take, get_or-append-add}
use Rattle.monomial.specs.Lists.{keep}
use Rattle.monomial.specs.Monomial.{Mono, one, vars, constants, width}
use Rattle.monomial.specs.declared.Monomial.{Monomial}
use Rattle.monomial.specs.Product.{AtMost}
use Rattle.monomial.specs.Quotient.{divides}
use Rattle.monomial.specs.Claims.{◌∈◌, Different, Within}
use Rattle.monomial.proofs.Counting.{at_in}
use Rattle.monomial.proofs.Members.{take_in, keep_append, keep_more}
use Rattle.monomial.proofs.product.Laws.{at_most_weaken}
use Rattle.monomial.proofs.Different.{different_take, different_append}
use Rattle.monomial.proofs.Within.{within_divides, vars_beyond}
use Rattle.monomial.proofs.Variables.{constants_fit, constants_different, vars_length}
use Rattle.wiring.specs.Panel.{cards, most_signals}
use Rattle.wiring.specs.Signals.{signals, front, tabled, signals_at, Fitting}
use Rattle.wiring.specs.Claims.{Wide, base}
use Rattle.wiring.proofs.signals.Tables.{tabled_length, tabled_wide}
use Rattle.wiring.proofs.signals.Arrays.{entry, front_length, front_at, Copying, copying_next, copying_end}

-- ---- its length and its members
pub signals_length : (n : ℕ) (s : List Mono) → n ≤ width → length (signals width n s) ≡ n + 1 + length s
unfolding signals
signals_length n s h =
    let front_is : length (take (suc n) (constants width)) ≡ suc n = length-take-le (suc n) (constants width) (omega (arith, vars_length width)) in
    length-append (take (suc n) (constants width)) s ∙ omega arith

-- the constants and then the set, each by its number
pub signals_constant : (n : ℕ) (s : List Mono) (i : ℕ) (d : Mono) → n ≤ width → i ≤ n → get_or (signals width n s) i d ≡ get_or (constants width) i d
unfolding signals
signals_constant n s i d h k =
    let front_is : length (take (suc n) (constants width)) ≡ suc n = length-take-le (suc n) (constants width) (omega (arith, vars_length width)) in
    get_or-append (take (suc n) (constants width)) s d i (omega arith) ∙ get_or-take (suc n) (constants width) i d (omega arith)

pub signals_new : (n : ℕ) (s : List Mono) (j : ℕ) (d : Mono) → n ≤ width → get_or (signals width n s) (n + 1 + j) d ≡ get_or s j d
unfolding signals
signals_new n s j d h =
    let front_is : length (take (suc n) (constants width)) ≡ n + 1 = length-take-le (suc n) (constants width) (omega (arith, vars_length width)) ∙ sym (add-one n) in
    ap (λ (k : ℕ). get_or (signals width n s) (k + j) d) (sym front_is) ∙ get_or-append-add (take (suc n) (constants width)) s j d

module _ (n : ℕ) where
  pub base_in : (s : List Mono) {x : Mono} → x ∈ base n → x ∈ signals width n s
  unfolding signals
  base_in s h = Memᴰ.append_left s h

  pub set-in : (s : List Mono) {x : Mono} → x ∈ s → x ∈ signals width n s
  unfolding signals
  set-in s h = Memᴰ.append_right (base n) h

  pub signals_cases : (s : List Mono) {x : Mono} → x ∈ signals width n s → (x ∈ base n) ⊎ (x ∈ s)
  unfolding signals
  signals_cases s h = Memᴰ.append_cases (base n) h

  -- each has the panel's width where those of the set do
  pub base_wide : Wide (base n)
  base_wide x h = (constants_fit 1 width (omega arith) x (take_in (suc n) (constants width) h)).0

  pub signals_wide : (s : List Mono) → Wide s → Wide (signals width n s)
  signals_wide s w x h = ⊎_elim (base_wide x) (w x) (signals_cases s h)

-- it has no member twice where none of the set is 1 or a variable: these are different
pub signals_different : (n : ℕ) (s : List Mono) → Different s → ((m : Mono) → m ∈ s → m ∈ base n → ⊥) → Different (signals width n s)
unfolding signals
signals_different n s once new = different_append (base n) s (different_take (suc n) (constants width) (constants_different width)) once (λ x i j. new x j i)

-- with more variables the same members divide a monomial that holds none of them
pub signals_divisors : (n b : ℕ) → n ≤ b → (s : List Mono) (m : Mono) → Within n m
    → keep (λ x. divides x m) (signals width n s) ≡ keep (λ x. divides x m) (signals width b s)
unfolding signals
signals_divisors n b more s m w =
    let f : Mono → Bool = λ x. divides x m in
    let e : keep f (base n) ≡ keep f (base b) = keep_more f (suc n) (suc b) (constants width) (omega arith) (λ x h t. vars_beyond n width x h (within_divides n x m t w)) in
    keep_append f (base n) s ∙ ap (λ (l : List Mono). l ++ keep f s) e ∙ sym (keep_append f (base b) s)

-- ---- V of a set whose monomials lie side by side
pub signals_at_length : (n : ℕ) (bytes : List ℕ) → n ≤ width → length (signals_at n bytes) ≡ n + 1 + length bytes / width
signals_at_length n bytes h = signals_length n (tabled bytes) h ∙ ap (λ (k : ℕ). n + 1 + k) (tabled_length bytes)

pub signals_at_wide : (n : ℕ) (bytes : List ℕ) → Wide (signals_at n bytes)
signals_at_wide n bytes = signals_wide n (tabled bytes) (tabled_wide bytes)

-- a member by its number keeps the bound of all
pub fitting_at : (b : ℕ) (l : List Mono) (j : ℕ) (d : Mono) → Fitting b l → j < length l → AtMost b (get_or l j d)
fitting_at b l j d f h = (f (get_or l j d) (at_in l j d h)).1

-- ---- two loops that write V of n variables and the first len places of u: the constants, then the set
pub record Signalling (n len : ℕ) (u m : List Monomial) (at : ℕ) : Type 0 where
  pub variables : n ≤ width
  pub source : len ≤ length u
  pub copying : Copying most_signals (signals width n (front len u)) m at

pub signalling_start : (n len : ℕ) (u m : List Monomial) → n ≤ width → len ≤ cards → length u ≡ cards → length m ≡ most_signals → front 1 m ≡ one width ∷ [] → Signalling n len u m 1
unfolding signals
signalling_start n len u m h k l long first =
    let source : len ≤ length u = omega arith in
    let s = front len u in
    let room : length (signals width n s) ≤ most_signals = omega (arith, signals_length n s h, front_length len u source) in
    let tail = take n (vars width) ++ s in
    record { variables = h; source = source; copying = record { long = long; room = room; within = omega arith; whole = ap (λ l. l ++ tail) first } }

module _ {n len : ℕ} {u m : List Monomial} {at : ℕ} (r : Signalling n len u m at) where
  many : length (signals width n (front len u)) ≡ n + 1 + len
  many = signals_length n (front len u) r.variables ∙ ap (λ (k : ℕ). n + 1 + k) (front_length len u r.source)

  pub signalling_constant : (x : Monomial) → at ≤ n → x.e ≡ get_or (constants width) at (one width) → Signalling n len u (set m at x) (at + 1)
  signalling_constant x h e =
      let same = e ∙ sym (signals_constant n (front len u) at (one width) r.variables h) in
      record { variables = r.variables; source = r.source; copying = copying_next r.copying x (one width) (omega (arith, many)) same }

  -- the constants are written
  pub signalling_turn : at ≡ n + 1 → Signalling n len u m (n + 1 + 0)
  signalling_turn p = let q : at ≡ n + 1 + 0 = omega arith in subst (λ (k : ℕ). Signalling n len u m k) q r

  pub signalling_new : (x : Monomial) (j : ℕ) → at ≡ n + 1 + j → j < len → x.e ≡ entry u j → Signalling n len u (set m at x) (n + 1 + (j + 1))
  signalling_new x j p h e =
      let s = front len u in
      let named : x.e ≡ get_or (signals width n s) at [] =
      e ∙ sym (front_at len u j [] h r.source) ∙ sym (signals_new n s j [] r.variables) ∙ ap (λ (k : ℕ). get_or (signals width n s) k []) (sym p) in
      let next : Copying most_signals (signals width n s) (set m at x) (at + 1) = copying_next r.copying x [] (omega (arith, many)) named in
      let q : at + 1 ≡ n + 1 + (j + 1) = omega arith in
      record { variables = r.variables; source = r.source; copying = subst (λ (k : ℕ). Copying most_signals (signals width n s) (set m at x) k) q next }

  pub signalling_end : at ≡ n + 1 + len → front (n + 1 + len) m ≡ signals width n (front len u)
  signalling_end p = subst (λ (k : ℕ). front k m ≡ signals width n (front len u)) p (copying_end r.copying (omega (arith, many)))

pub signals_fitting : (b n : ℕ) (s : List Mono) → 1 ≤ b → Fitting b s → Fitting b (signals width n s)
unfolding signals
signals_fitting b n s h f m k =
    ⊎_elim (λ j. constants_fit b width h m (take_in (suc n) (constants width) j)) (f m) (Memᴰ.append_cases (take (suc n) (constants width)) k)

pub fitting_weaken : (b c : ℕ) (s : List Mono) → b ≤ c → Fitting b s → Fitting c s
fitting_weaken b c s h f m k = ((f m k).0, at_most_weaken m h (f m k).1)
