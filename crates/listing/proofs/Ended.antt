-- What is noted of a readable text: no more names than there are cards, each of the panel's width, one line for each signal that has one, and only products of known
-- signals. Assumes nothing.
use mathlib.Core.Path.{◌≡◌, refl, sym, ap, ◌∙◌, subst}
use mathlib.Core.Bool.{true}
use mathlib.Core.List.{List, [], ◌∷◌}
use Prim.Native.Nat.{ℕ, suc, ◌+◌, ◌≤◌, ◌<◌}
use native.Mathlib.Omega.{arith}
use native.Mathlib.Numerals.{add-one}
use lib.ListN.{length, get_or, drop}
use lib.Seq.{drop-cons}
use Rattle.monomial.specs.Claims.{◌∈◌}
use Rattle.monomial.specs.Monomial.{Mono, width}
use Rattle.reader.specs.Reader.{run, Readable}
use Rattle.reader.proofs.Loop.{noting_ends}
use Rattle.listing.specs.Lines.{lefts}
use Rattle.listing.specs.Machine.{eat, start}
use Rattle.listing.specs.Meaning.{Naming, named, names, Product, Telling, told, lines}
use Rattle.listing.specs.Readable.{ends, listing}
use Rattle.listing.specs.Saying.{saying}
use Rattle.listing.specs.declared.known.Known.{Known}
use Rattle.listing.specs.declared.machine.Reading.{Reading}
use Rattle.listing.specs.declared.machine.Reading.TheVariants as reading
use Rattle.listing.proofs.Following.{Following, following_start, following_next}
use Rattle.listing.proofs.Notes.{KnowsAll, Noted}

module _ (r : Known) (text : List ℕ) where
  pub record Ended : Type 0 where
    pub few : length (names r text) ≤ r.cards
    pub wide : (m : Mono) → m ∈ names r text → length m ≡ width
    pub each : length (lines r text) ≡ length (lefts r (length (names r text)))
    pub known : (l : List Product) → l ∈ lines r text → KnowsAll (r.n + length (names r text)) l

  -- the notes behind the last byte
  record Behind (g : Reading) : Type 0 where
    naming : Naming
    telling : Telling
    follows : Following r text g (length text) naming telling

  behind_from : r.n ≤ width → (rest : List ℕ) (g : Reading) (i : ℕ) (k : Naming) (t : Telling) → Following r text g i k t → i + length rest ≡ length text → rest ≡ drop i text
      → Behind (run (listing r) g rest)
  unfolding run
  behind_from few [] g i k t f e d =
      let last : i ≡ length text = omega arith in
      record { naming = k; telling = t; follows = subst (λ (j : ℕ). Following r text g j k t) last f }
  behind_from few (x ∷ rest) g i k t f e d =
      let more : i < length text = omega arith in
      let next : x ∷ rest ≡ get_or text i 0 ∷ drop (suc i) text = d ∙ drop-cons text i 0 more in
      let this : x ≡ get_or text i 0 = cc in
      let behind : rest ≡ drop (suc i) text = cc in
      behind_from few rest (eat r g x) (i + 1) (named (saying r g x) k) (told (saying r g x) t) (following_next r text f few more x this) (omega arith)
      (behind ∙ ap (λ (j : ℕ). drop j text) (sym (add-one i)))

  ended_at : (g : Reading) → ends g ≡ true → Behind g → Ended
  ended_at reading.Dead e b = absurd (let z : ◌≡◌ {A = ℕ} 0 1 = cc in omega arith)
  ended_at (reading.At s) e b = absurd (let z : ◌≡◌ {A = ℕ} 0 1 = cc in omega arith)
  ended_at reading.Ended e b =
      let k = b.naming in
      let t = b.telling in
      let f = b.follows in
      let all : k.whole ≡ names r text = ap (λ (q : Naming). q.whole) (noting_ends (listing r) (saying r) named f.naming (omega arith)) in
      let every : t.lines ≡ lines r text = ap (λ (q : Telling). q.lines) (noting_ends (listing r) (saying r) told f.telling (omega arith)) in
      let n : Noted r.n k t = f.live refl in
      record {
        few = subst (λ (l : List Mono). length l ≤ r.cards) all f.few;
        wide = subst (λ (l : List Mono). (m : Mono) → m ∈ l → length m ≡ width) all n.wide;
        each = sym (ap length every) ∙ f.counts ∙ ap (λ (l : List Mono). length (lefts r (length l))) all;
        known = λ l h. subst (λ (ns : List Mono). KnowsAll (r.n + length ns) l) all (n.lines l (rw every h));
      }

  pub ended_of : r.n ≤ width → Readable (listing r) text → Ended
  ended_of few reads = ended_at (run (listing r) start text) reads (behind_from few text start 0 _ _ (following_start r text) (omega arith) refl)
