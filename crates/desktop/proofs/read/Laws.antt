-- Reading, step by step: what each test of the code says of the outcome; and capped names form a set exactly where the names do, and are then the names.
-- Assumes nothing.
use Rattle.std.specs.Prelude.{Ok, Result, ⊤}
use mathlib.Core.Path.{◌≡◌, refl, sym, ap, ap₂, ◌∙◌, subst}
use mathlib.Core.Bool.{true, false}
use mathlib.Core.List.Memᴰ
use mathlib.Core.List.{List, [], ◌∷◌, map}
use Prim.Native.Nat.{ℕ, ◌+◌, ◌≤◌, ◌<◌}
use native.Mathlib.Omega.{arith}
use borrow.Author.Tests.{le-leb, lt-leb, leb-true, leb-false}
use lib.Dec.{T, leb}
use lib.ListN.{length}
use Rattle.monomial.specs.Monomial.{Mono, width}
use Rattle.monomial.specs.Product.{AtMost}
use Rattle.monomial.specs.Claims.{◌∈◌}
use Rattle.monomial.proofs.Tests.{Tested, passed, failed, test, is→T, same_test}
use Rattle.monomial.proofs.Members.{here, there}
use Rattle.monomial.proofs.product.Laws.{at_most_all}
use Rattle.wiring.specs.Panel.{set_exponent}
use Rattle.wiring.specs.Sockets.{panel_right}
use Rattle.wiring.specs.Reply.{Outcome, outcome}
use Rattle.wiring.specs.Poly.{Poly}
use Rattle.wiring.specs.Signals.{signals, signals_of, Fitting}
use Rattle.wiring.specs.Terms.{records, length_right, fault, system, CleanTerms}
use Rattle.wiring.specs.Sets.{monomials_of, set_record}
use Rattle.wiring.specs.Answers.{unless_fault}
use Rattle.wiring.specs.declared.panel.Panel.{Panel}
use Rattle.wiring.specs.declared.reply.Reply.TheVariants.{Done, Setting, Length, BadSet, Unreadable, FalseLine}
use Rattle.wiring.specs.declared.held.Set.{Set}
use Rattle.wiring.specs.declared.held.Signals.{Signals}
use Rattle.wiring.specs.declared.terms.Fault.{Fault}
use Rattle.wiring.proofs.signals.Laws.{signals_fitting}
use Rattle.wiring.proofs.terms.Laws.{clean_for}
use Rattle.wiring.proofs.answers.Exact.{panel_out}
use Rattle.reader.specs.Reader.{Readable}
use Rattle.reader.specs.Said.{Verdict, said}
use Rattle.listing.specs.Held.{Fair}
use Rattle.listing.specs.Meaning.{names}
use Rattle.listing.specs.Readable.{listing}
use Rattle.listing.specs.declared.known.Known.{Known}
use Rattle.listing.proofs.Ended.{ended_of}
use Rattle.roster.specs.Roster.{forms_set, arranged}
use Rattle.roster.proofs.roster.Laws.{right_names}
use Rattle.desktop.specs.Names.{above, cap, capped}
use Rattle.desktop.specs.Lines.{most_text, lines_said, Judging}
use Rattle.desktop.specs.Read.{known_to, refusal, unless_broken, judged, read_listing, Reading}
use Rattle.desktop.proofs.names.Laws.{cap_low, cap_over}

-- ---- capped exponents that a set may have are the exponents
cap_limit : (x : ℕ) → cap x ≤ set_exponent → x ≤ set_exponent
cap_limit x h = go (test (leb x set_exponent))
  where
    go : Tested (leb x set_exponent) → x ≤ set_exponent
    go (passed e) = leb-true x set_exponent e
    go (failed e) =
        let large : set_exponent < x = leb-false x set_exponent e in
        let most : cap x ≡ above = cap_over x (omega arith) in
        let z : ⊥ = omega arith in absurd z

capped_limit : (m : Mono) → AtMost set_exponent (capped m) → AtMost set_exponent m
capped_limit [] a = tt
capped_limit (x ∷ m) a = (cap_limit x a.0, capped_limit m a.1)

capped_small : (m : Mono) → AtMost set_exponent m → capped m ≡ m
capped_small [] a = refl
capped_small (x ∷ m) a = ap₂ ◌∷◌ (let h : x ≤ set_exponent = a.0 in cap_low x (omega arith)) (capped_small m a.1)

all_small : (l : List Mono) → ((m : Mono) → m ∈ l → AtMost set_exponent m) → map capped l ≡ l
all_small [] h = refl
all_small (m ∷ l) h = ap₂ ◌∷◌ (capped_small m (h m here)) (all_small l (λ x k. h x (there k)))

module _ (panel : Panel) (l : List Mono) where
  -- the names of a set
  pub forms_plain : T (forms_set panel l) → map capped l ≡ l
  forms_plain t = all_small l (λ m h. at_most_all set_exponent m ((right_names panel l t).small m h))

  capped_plain : T (forms_set panel (map capped l)) → map capped l ≡ l
  capped_plain t =
      all_small l
      (λ m h. capped_limit m (at_most_all set_exponent (capped m) ((right_names panel (map capped l) t).small (capped m) (Memᴰ.map capped h))))

  pub forms_capped : forms_set panel (map capped l) ≡ forms_set panel l
  forms_capped =
      same_test (forms_set panel (map capped l)) (forms_set panel l)
      (λ t. subst (λ (k : List Mono). T (forms_set panel k)) (capped_plain t) t)
      (λ t. subst (λ (k : List Mono). T (forms_set panel k)) (sym (forms_plain t)) t)

-- ---- what is known to the reader
pub fair_known : (panel : Panel) → 1 ≤ panel.n → panel.n ≤ width → Fair (known_to panel)
fair_known panel low high = record { one = low; few = omega arith; low = omega arith }

-- ---- a readable text
module _ (panel : Panel) (fs : List (Poly Mono)) (text : List ℕ) where
  abbrev found : List Mono
  found = names (known_to panel) text

  pub judged_bad : forms_set panel found ≡ false → refusal BadSet ≡ judged panel fs text
  unfolding judged
  judged_bad e = rw e

  abbrev yes : Outcome
  yes = outcome (Done (length found) 0 0) (set_record (arranged found))

  pub judged_lines : forms_set panel found ≡ true → (v : Verdict) → v ≡ lines_said (known_to panel) fs text → unless_broken FalseLine v yes ≡ judged panel fs text
  unfolding judged
  judged_lines e v i = rw (e, i)

-- its names, held by value
module _ (panel : Panel) (text : List ℕ) (q : Reading panel text) (reads : Readable (listing (known_to panel)) text) (set : Set)
    (held : monomials_of set ≡ map capped (names (known_to panel) text)) where
  pub names_right : forms_set panel (monomials_of set) ≡ forms_set panel (names (known_to panel) text)
  names_right = ap (forms_set panel) held ∙ forms_capped panel (names (known_to panel) text)

  module _ (forms : forms_set panel (monomials_of set) ≡ true) where
    forms_them : T (forms_set panel (names (known_to panel) text))
    forms_them = is→T _ (sym names_right ∙ forms)

    pub names_held : monomials_of set ≡ names (known_to panel) text
    names_held = held ∙ forms_plain panel (names (known_to panel) text) forms_them

    names_fit : Fitting set_exponent (monomials_of set)
    names_fit m h =
        let k : m ∈ names (known_to panel) text = rw names_held at h in
        ((ended_of (known_to panel) text q.high reads).wide m k, at_most_all set_exponent m ((right_names panel (names (known_to panel) text) forms_them).small m k))

    pub names_judging : (known : Known) → known ≡ known_to panel → set.len ≡ length (monomials_of set)
        → (v : Signals) → signals_of v ≡ signals width panel.n (monomials_of set) → v.len ≡ panel.n + 1 + set.len → Judging known v text
    names_judging known is long v are size = subst (λ (k : Known). Judging k v text) (sym is) (record {
      fair = fair_known panel q.low q.high;
      few = q.high;
      fits = subst (Fitting set_exponent) (sym are) (signals_fitting set_exponent panel.n (monomials_of set) (omega (arith, q.high)) names_fit);
      size = size ∙ ap (λ (k : ℕ). panel.n + 1 + k) (long ∙ ap length names_held);
      holds = are ∙ ap (signals width panel.n) names_held;
      short = q.short;
      reads = reads;
    })

-- ---- the checks in their order
module _ (panel : Panel) (terms text : List ℕ) where
  pub said_setting : panel_right panel ≡ false → refusal Setting ≡ read_listing panel terms text
  unfolding read_listing
  said_setting e = rw e

  module _ (e : panel_right panel ≡ true) where
    pub said_terms_length : length_right terms ≡ false → refusal Length ≡ read_listing panel terms text
    unfolding read_listing
    said_terms_length h = rw (e, h)

    pub said_text_length : length_right terms ≡ true → most_text < length text → refusal Length ≡ read_listing panel terms text
    unfolding read_listing
    said_text_length h k = rw (e, h, lt-leb (length text) most_text k)

    pub said_rest : length_right terms ≡ true → length text ≤ most_text → (f : Result ⊤ Fault) → f ≡ fault panel (records terms)
        → unless_fault refusal f (unless_broken Unreadable (said (listing (known_to panel)) text) (judged panel (system (records terms)) text)) ≡ read_listing panel terms text
    unfolding read_listing
    said_rest h k f q = rw (e, h, le-leb (length text) most_text k, q)

    -- what is not refused is read
    pub said_read : length_right terms ≡ true → length text ≤ most_text → Ok tt ≡ fault panel (records terms) → (answer : Outcome)
        → answer ≡ unless_broken Unreadable (said (listing (known_to panel)) text) (judged panel (system (records terms)) text) → answer ≡ read_listing panel terms text
    said_read h k q answer a = a ∙ said_rest h k (Ok tt) q

    -- what the text is read with
    pub reading_of : length text ≤ most_text → Reading panel text
    reading_of k = let r = panel_out panel (is→T _ e) in record { low = r.low; high = r.high; short = k }

    -- and what the records are
    pub clean_of : fault panel (records terms) ≡ Ok tt → CleanTerms terms
    clean_of clean = clean_for panel width terms (panel_out panel (is→T _ e)).high clean
