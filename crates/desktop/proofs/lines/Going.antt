-- A loop over a readable text that judges its lines. Assumes nothing.
use mathlib.Core.Path.{◌≡◌, refl, sym, ap, ◌∙◌, subst}
use mathlib.Core.Logic.{⊎_elim}
use mathlib.Core.Bool.{Bool, true, false, cond}
use mathlib.Core.List.Memᴰ
use mathlib.Core.List.{List, [], ◌∷◌, ◌++◌}
use Prim.Native.Nat.{ℕ, zero, suc, ◌+◌, ◌-◌, ◌≤◌, ◌<◌}
use native.Mathlib.Omega.{arith}
use native.Mathlib.Numerals.{add-one}
use borrow.Author.Tests.{ltb-true, ltb-false}
use lib.Dec.{ltb}
use lib.ListN.{length, length-append, get_or, drop, drop_of_length-le, get_or-append}
use lib.Seq.{drop-cons}
use Rattle.monomial.specs.Lists.{pointwise}
use Rattle.monomial.specs.Monomial.{Mono, width}
use Rattle.monomial.proofs.Loops.{pointwise_at, pointwise_length}
use Rattle.monomial.proofs.Tests.{Tested, passed, failed, test, is_not}
use Rattle.wiring.specs.Poly.{Poly}
use Rattle.wiring.specs.Signals.{signals, signals_of}
use Rattle.wiring.specs.Terms.{records, system}
use Rattle.wiring.proofs.signals.Laws.{signals_length}
use Rattle.wiring.specs.declared.held.Signals.{Signals}
use Rattle.reader.specs.Reader.{run, heard, noted}
use Rattle.reader.specs.Said.{whole, broken}
use Rattle.reader.proofs.Loop.{noting_ends}
use Rattle.reader.proofs.Places.{run_dead}
use Rattle.listing.specs.Counted.{Counts, InLines}
use Rattle.listing.specs.Lines.{lefts, left_of}
use Rattle.listing.specs.Machine.{eat, start}
use Rattle.listing.specs.Meaning.{Product, Naming, term, named, names, told, lines, unnamed, untold}
use Rattle.listing.specs.Readable.{alive, ends, listing}
use Rattle.listing.specs.Saying.{saying}
use Rattle.listing.specs.declared.known.Known.{Known}
use Rattle.listing.specs.declared.machine.Reading.{Reading}
use Rattle.listing.specs.declared.machine.Reading.TheVariants.{Dead, Ended, At}
use Rattle.listing.specs.declared.saying.Saying.{Saying}
use Rattle.listing.proofs.Counts.{line_here}
use Rattle.listing.proofs.lines.Laws.{lefts_length}
use Rattle.listing.proofs.Following.{Following, following_start, following_next, following_whole, following_more, following_grows, lived}
use Rattle.listing.proofs.Notes.{Noted, Knows}
use Rattle.listing.proofs.Places.{lively}
use Rattle.listing.proofs.Sounds.{line-ends}
use Rattle.truth.specs.Truth.{line_true}
use Rattle.truth.specs.Sums.{Summed, Told}
use Rattle.truth.specs.declared.truth.Sums.{Sums}
use Rattle.truth.proofs.truth.Cells.{summed_bound}
use Rattle.desktop.specs.Lines.{line_tests, false_line, lines_said, Notes, Says, product_of, ends_term, ends_line, with_term, Adding, Judging}
use Rattle.desktop.specs.declared.lines.Telling.{Telling}
use Rattle.desktop.proofs.lines.Laws.{ends_counts, line_whole, line_new, line_kept, line_longer, product_is, first_off, all_on}

last_at : {A : Type 0} (l : List A) (x d : A) → get_or (l ++ (x ∷ [])) (length l) d ≡ x
last_at [] x d = refl
last_at (y ∷ l) x d = last_at l x d

longer_both : {A B C : Type 0} (f : A → B → C) (a : List A) (b : List B) (k : ℕ) → k < length a → k < length b → k < length (pointwise f a b)
unfolding pointwise
longer_both f [] b k h i = absurd (omega arith)
longer_both f (x ∷ a) [] k h i = absurd (omega arith)
longer_both f (x ∷ a) (y ∷ b) zero h i = omega arith
longer_both f (x ∷ a) (y ∷ b) (suc k) h i = let ih = longer_both f a b k (omega arith) (omega arith) in omega arith

module _ (known : Known) (terms : List ℕ) (v : Signals) (text : List ℕ) (j : Judging known v text) where
  abbrev fs : List (Poly Mono)
  fs = system (records terms)

  abbrev count : ℕ
  count = length (names known text)

  -- as the code finds it
  pub going_named : v.len - known.n - 1 ≡ count
  going_named = omega (arith, j.size)

  -- line number i as it is told, from 0
  abbrev True : List (List Product) → ℕ → Type 0
  True told i = line_true (signals_of v) fs (left_of known count i) (get_or told i []) ≡ true

  pub record Going (g : Reading) (t : Telling) (sums : Sums) (line i : ℕ) : Type 0 where
    pub notes : Naming
    pub told : Notes
    pub follows : Following known text g i notes told
    pub reads : ends (run (listing known) g (drop i text)) ≡ true
    pub says : Says told t
    pub summed : Summed (signals_of v) told.terms sums
    pub counted : line ≡ length told.lines
    pub true_so_far : (k : ℕ) → k < length told.lines → True told.lines k

  -- the test of a line
  test_at : (k : ℕ) → k < length (lefts known count) → k < length (lines known text)
      → get_or (line_tests known fs text) k false ≡ line_true (signals_of v) fs (left_of known count k) (get_or (lines known text) k [])
  unfolding line_tests left_of
  test_at k h i = rw j.holds (pointwise_at (line_true (signals width known.n (names known text)) fs) (lefts known count) (lines known text) k 0 [] false h i)

  test_in : (k : ℕ) → k < length (lefts known count) → k < length (lines known text) → k < length (line_tests known fs text)
  unfolding line_tests
  test_in k h i = longer_both (line_true (signals width known.n (names known text)) fs) (lefts known count) (lines known text) k h i

  pub going_start : (t : Telling) (sums : Sums) → Says untold t → Summed (signals_of v) [] sums → Going start t sums 0 0
  going_start t sums s m = record {
    notes = unnamed;
    told = untold;
    follows = following_start known text;
    reads = j.reads;
    says = s;
    summed = m;
    counted = refl;
    true_so_far = λ k h. absurd (omega arith);
  }

  module _ {g : Reading} {t : Telling} {sums : Sums} {line i : ℕ} (a : Going g t sums line i) where
    -- ---- the text is read on
    module _ (h : i < length text) where
      abbrev x : ℕ
      x = get_or text i 0

      abbrev σ : Saying
      σ = saying known g x

      reads_on : ends (run (listing known) (eat known g x) (drop (i + 1) text)) ≡ true
      unfolding run
      reads_on = rw (add-one i) (rw (drop-cons text i 0 h) at a.reads)

      awake : alive (eat known g x) ≡ true
      awake = go (test (alive (eat known g x)))
        where
          go : Tested (alive (eat known g x)) → alive (eat known g x) ≡ true
          go (passed y) = y
          go (failed y) =
              let l = lively known j.fair in
              let rest = run (listing known) (eat known g x) (drop (i + 1) text) in
              absurd (is_not (ends rest) reads_on (l.never rest (run_dead (listing known) l (eat known g x) (drop (i + 1) text) y)))

      known_so_far : Noted known.n a.notes a.told
      known_so_far = a.follows.live (lived known text a.follows x awake)

      grown : length a.notes.whole ≤ count
      grown = following_grows known text a.follows

      signals_long : length (signals_of v) ≡ known.n + 1 + count
      signals_long = rw j.holds (signals_length known.n (names known text) j.few)

      pub going_adds : Adding v sums t
      going_adds = record {
        fits = j.fits;
        first = rw (a.says.a, j.size) (omega (arith, known_so_far.first, grown));
        second = rw (a.says.b, j.size) (omega (arith, known_so_far.second, grown));
        limited = rw a.says.number known_so_far.limited;
        bounded = summed_bound (signals_of v) a.told.terms sums (omega (arith, a.follows.short, j.short)) a.summed;
      }

      -- the line so far
      abbrev so_far : List Product
      so_far = with_term σ a.told.terms (term a.told)

      -- what is noted of it and added up, with what the byte says
      module _ (said : Saying) (heard_so : said ≡ σ) where
        pub going_summed : (sums' : Sums) → ((l : List Product) → Summed (signals_of v) l sums → Summed (signals_of v) (with_term said l (product_of t)) sums') → Summed (signals_of v) so_far sums'
        going_summed sums' f =
            subst (λ (u : Saying). Summed (signals_of v) (with_term u a.told.terms (term a.told)) sums') heard_so
            (subst (λ (q : Product). Summed (signals_of v) (with_term said a.told.terms q) sums') (product_is a.told t a.says) (f a.told.terms a.summed))

        pub going_says : (t' : Telling) → ((q : Notes) → Says q t → Says (told said q) t') → Says (told σ a.told) t'
        going_says t' f = subst (λ (u : Saying). Says (told u a.told) t') heard_so (f a.told a.says)

        pub going_ended : (b : Bool) → b ≡ ends_line said → ends_line σ ≡ b
        going_ended b e = ap ends_line (sym heard_so) ∙ sym e

      next : Following known text (eat known g x) (i + 1) (named σ a.notes) (told σ a.told)
      next = following_next known text a.follows j.few h x refl

      -- ---- where a line ends
      module _ (c : ends_line σ ≡ true) where
        in-lines : InLines g
        in-lines = ⊎_elim (λ z. absurd (omega (arith, ends_counts σ c))) (λ l. l) (line-ends known g x)

        all_named : a.notes.whole ≡ names known text
        all_named = following_whole known text a.follows in-lines

        -- it is one of those that are to come
        going_here : line < length (lefts known count)
        going_here =
            ⊎_elim (λ z. absurd (omega (arith, ends_counts σ c))) (λ l. rw (a.counted, ← ap length all_named) l)
            (line_here known (length a.notes.whole) (length a.told.lines) g x a.follows.counts in-lines)

        pub going_there : (c' : ℕ) → c' ≡ count → line < length (lefts known c')
        going_there c' n = rw n going_here

        pub going_low : line < known.n + count
        going_low = omega (arith, going_here, lefts_length known count)

        pub going_few : count ≤ known.cards
        going_few = rw (← ap length all_named) a.follows.few

        known_below : (p : Product) → Knows (known.n + length a.notes.whole) p → (p.a < length (signals_of v)) × (p.b < length (signals_of v))
        known_below p k =
            let long : length (signals_of v) ≡ known.n + 1 + count = signals_long in
            (omega (arith, k.first, grown), omega (arith, k.second, grown))

        here_told : Told (signals_of v) so_far
        unfolding with_term
        here_told = go (ends_term σ)
          where
            go : (b : Bool) → Told (signals_of v) (cond b (a.told.terms ++ (term a.told ∷ [])) a.told.terms)
            go false p m = known_below p (known_so_far.terms p m)
            go true p m =
                ⊎_elim (λ k. known_below p (known_so_far.terms p k)) (λ k. subst (λ q. (q.a < length (signals_of v)) × (q.b < length (signals_of v))) (sym (Memᴰ.eq_of_singleton k)) last)
                (Memᴰ.append_cases a.told.terms m)
              where
                last : (a.told.a < length (signals_of v)) × (a.told.b < length (signals_of v))
                last = (omega (arith, known_so_far.first, grown, signals_long), omega (arith, known_so_far.second, grown, signals_long))

        -- what the sums say of it
        pub going_verdict : (sums' : Sums) → Summed (signals_of v) so_far sums' → (c' left : ℕ) → c' ≡ count → left ≡ left_of known c' line → (b : Bool)
            → ((l : List Product) → Told (signals_of v) l → Summed (signals_of v) l sums' → b ≡ line_true (signals_of v) fs left l)
            → b ≡ line_true (signals_of v) fs (left_of known count line) so_far
        going_verdict sums' m c' left n e b f =
            f so_far here_told m ∙ ap (λ s. line_true (signals_of v) fs s so_far) (e ∙ ap (λ (k : ℕ). left_of known k line) n)

        told_here : (told σ a.told).lines ≡ a.told.lines ++ (so_far ∷ [])
        told_here = line_whole σ a.told c

        lines_longer : length (told σ a.told).lines ≡ length a.told.lines + 1
        lines_longer = ap length told_here ∙ length-append a.told.lines (so_far ∷ [])

        -- what is told of the lines before, and of this one
        before_at : (k : ℕ) → k < length a.told.lines → get_or (told σ a.told).lines k [] ≡ get_or a.told.lines k []
        before_at k o = rw told_here (get_or-append a.told.lines (so_far ∷ []) [] k o)

        here_at : get_or (told σ a.told).lines line [] ≡ so_far
        here_at = rw (told_here, a.counted) (last_at a.told.lines so_far [])

        -- the line is true: the next begins
        pub going_true : (t' : Telling) (sums' : Sums) → Says (told σ a.told) t' → Summed (signals_of v) [] sums' → line_true (signals_of v) fs (left_of known count line) so_far ≡ true
            → Going (eat known g x) t' sums' (line + 1) (i + 1)
        going_true t' sums' s m true_here = record {
          notes = named σ a.notes;
          told = told σ a.told;
          follows = next;
          reads = reads_on;
          says = s;
          summed = rw (line_new σ a.told c) m;
          counted = omega (arith, a.counted, lines_longer);
          true_so_far = λ k o. each k o (test (ltb k (length a.told.lines)));
        }
          where
            each : (k : ℕ) → k < length (told σ a.told).lines → Tested (ltb k (length a.told.lines)) → True (told σ a.told).lines k
            each k o (passed y) = rw (before_at k (ltb-true _ _ y)) (a.true_so_far k (ltb-true _ _ y))
            each k o (failed y) =
                let is : k ≡ line = omega (arith, a.counted, lines_longer, ltb-false k (length a.told.lines) y) in
                rw (is, here_at) true_here

        -- or it is false, and the first that is
        all_lines : (k : ℕ) → k < length (told σ a.told).lines → (k < length (lines known text)) × (get_or (lines known text) k [] ≡ get_or (told σ a.told).lines k [])
        all_lines k o =
            let m = following_more known text next in
            let longer = length-append (told σ a.told).lines m.rest in
            rw m.is (omega (arith, longer), get_or-append (told σ a.told).lines m.rest [] k o)

        pub going_false : line_true (signals_of v) fs (left_of known count line) so_far ≡ false → broken (count + 3 + line) ≡ lines_said known fs text
        unfolding lines_said false_line
        going_false off =
            let here = all_lines line (omega (arith, a.counted, lines_longer)) in
            let now = test_at line going_here here.0 ∙ ap (line_true (signals_of v) fs (left_of known count line)) (here.1 ∙ here_at) ∙ off in
            let first = first_off (line_tests known fs text) line (test_in line going_here here.0) earlier now in
            rw (first.0, first.1)
          where
            earlier : (k : ℕ) → k < line → get_or (line_tests known fs text) k false ≡ true
            earlier k o =
                let old : k < length a.told.lines = omega (arith, a.counted) in
                let there = all_lines k (omega (arith, lines_longer)) in
                test_at k (omega (arith, going_here)) there.0
                ∙ ap (line_true (signals_of v) fs (left_of known count k)) (there.1 ∙ before_at k old)
                ∙ a.true_so_far k old

      -- ---- where none ends
      pub going_on : ends_line σ ≡ false → (t' : Telling) (sums' : Sums) → Says (told σ a.told) t' → Summed (signals_of v) so_far sums' → Going (eat known g x) t' sums' line (i + 1)
      going_on c t' sums' s m = record {
        notes = named σ a.notes;
        told = told σ a.told;
        follows = next;
        reads = reads_on;
        says = s;
        summed = rw (line_longer σ a.told c) m;
        counted = rw (line_kept σ a.told c) a.counted;
        true_so_far = rw (line_kept σ a.told c) a.true_so_far;
      }

    -- ---- behind the last byte
    module _ (o : length text ≤ i) where
      over : ends g ≡ true
      unfolding run
      over = rw (drop_of_length-le text o) at a.reads

      told_all : a.told ≡ noted told untold (heard (listing known) (saying known) start text)
      told_all = noting_ends (listing known) (saying known) told a.follows.telling o

      named_all : a.notes ≡ noted named unnamed (heard (listing known) (saying known) start text)
      named_all = noting_ends (listing known) (saying known) named a.follows.naming o

      counts_end : (g : Reading) (c d : ℕ) → ends g ≡ true → Counts known c d g → d ≡ length (lefts known c)
      counts_end Dead c d e h = absurd (is_not false e refl)
      counts_end Ended c d e h = h
      counts_end (At s) c d e h = absurd (is_not false e refl)

      one_each : length (lefts known count) ≡ length (lines known text)
      one_each =
          sym (rw (named_all, told_all) at (counts_end g (length a.notes.whole) (length a.told.lines) over a.follows.counts))

      long : length (line_tests known fs text) ≡ length (lefts known count)
      unfolding line_tests
      long = pointwise_length (line_true (signals width known.n (names known text)) fs) (lefts known count) (lines known text) one_each

      pub going_ends : whole ≡ lines_said known fs text
      unfolding lines_said
      going_ends = rw (all_on (line_tests known fs text) each)
        where
          each : (k : ℕ) → k < length (line_tests known fs text) → get_or (line_tests known fs text) k false ≡ true
          each k h =
              let here : k < length (lefts known count) = omega (arith, long) in
              let there : k < length (lines known text) = omega (arith, one_each) in
              test_at k here there ∙ rw told_all at (a.true_so_far k (rw told_all there))
