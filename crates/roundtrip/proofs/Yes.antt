-- A typed listing is said yes to: its names form the set whose record was given, and each of its lines is true. Assumes nothing.
use Rattle.std.specs.Prelude.{Ok}
use mathlib.Core.Path.{◌≡◌, sym, ap, ◌∙◌, subst}
use mathlib.Core.Bool.{Bool, true, false}
use mathlib.Core.List.{List, [], map}
use Prim.Native.Nat.{ℕ}
use native.Mathlib.Omega.{arith}
use borrow.Author.Tests.{le-leb}
use lib.Dec.{T}
use lib.ListN.{length, get_or, length-map}
use Rattle.monomial.specs.Lists.{all, pointwise}
use Rattle.monomial.specs.Monomial.{Mono}
use Rattle.monomial.specs.Claims.{◌∈◌}
use Rattle.monomial.proofs.Tests.{T→is}
use Rattle.monomial.proofs.Members.{map_at}
use Rattle.monomial.proofs.Counting.{at_in}
use Rattle.monomial.proofs.Loops.{pointwise_length, pointwise_at}
use Rattle.monomial.proofs.Different.{ascending_different}
use Rattle.monomial.proofs.order.Laws.{mono_order}
use Rattle.monomial.proofs.order.Ascending.{sub_equal}
use Rattle.wiring.specs.Poly.{Poly, plain}
use Rattle.wiring.specs.Reply.{outcome}
use Rattle.wiring.specs.Terms.{records, fault, system}
use Rattle.wiring.specs.Sets.{set_of, set_record}
use Rattle.wiring.specs.Claims.{beyond, list_in, signals_in, row_of, Row, QuadraticIn}
use Rattle.wiring.specs.declared.panel.Panel.{Panel}
use Rattle.wiring.specs.declared.reply.Reply.TheVariants.{Done}
use Rattle.wiring.proofs.terms.Exact.{length_exact, clean_exact}
use Rattle.wiring.proofs.sets.Exact.{right_record}
use Rattle.wiring.proofs.answers.Limits.{well_right}
use Rattle.wiring.proofs.answers.Exact.{panel-in}
use Rattle.reader.specs.Said.{whole, said}
use Rattle.reader.proofs.Exact.{whole_exact}
use Rattle.listing.specs.Lines.{lefts}
use Rattle.listing.specs.Readable.{listing}
use Rattle.listing.specs.declared.known.Known.{Known}
use Rattle.truth.specs.Truth.{line_true}
use Rattle.truth.proofs.truth.Laws.{as_term, row_true}
use Rattle.roster.specs.Roster.{forms_set, arranged}
use Rattle.roster.proofs.roster.Laws.{forms_exact, forms_ascending, forms_members, forms_length}
use Rattle.desktop.specs.Lines.{most_text, line_tests, lines_said}
use Rattle.desktop.specs.Read.{known_to, judged, read_listing}
use Rattle.desktop.proofs.lines.Laws.{all_on}
use Rattle.roundtrip.specs.Claims.{text_in, ReadsBack}
use Rattle.roundtrip.proofs.Trees.{recordable, own_row, own_slope, typed_readable, typed_names, typed-lines}

-- each entry beside what is made of it
beside : {A B : Type 0} (f : A → B → Bool) (g : A → B) (l : List A) (a : A) (b : B) → ((x : A) → x ∈ l → f x (g x) ≡ true) → all (λ x. x) (pointwise f l (map g l)) ≡ true
beside f g l a b h =
    let even : length l ≡ length (map g l) = sym (length-map l g) in
    let long = pointwise_length f l (map g l) even in
    all_on (pointwise f l (map g l)) (λ j i.
    pointwise_at f l (map g l) j a b false (omega arith) (omega arith) ∙ ap (f (get_or l j a)) (map_at g l j a b (omega arith)) ∙ h (get_or l j a) (at_in l j a (omega arith)))

module _ (panel : Panel) (terms set : List ℕ) (given : QuadraticIn panel terms set) where
  abbrev k : Known
  k = known_to panel

  abbrev fs : List (Poly Mono)
  fs = system (records terms)

  abbrev s : List Mono
  s = set_of set

  abbrev v : List Mono
  v = signals_in panel set

  abbrev t : List ℕ
  t = text_in panel terms set

  -- ---- the names
  forms : T (forms_set panel s)
  forms =
      let p = (recordable panel terms set given).permitted in
      (forms_exact panel s (recordable panel terms set given).wide).1 (record {
        new = p.new;
        small = p.small;
        within = p.within;
        buildable = given.formed.right.buildable;
        different = ascending_different mono_order s p.ascends;
      })

  -- an ascending list is its own arrangement
  arranged_same : arranged s ≡ s
  arranged_same =
      let long = forms_length panel s forms in
      sub_equal mono_order (arranged s) s (forms_ascending s) (recordable panel terms set given).permitted.ascends (forms_members s).1 (omega arith)

  record_back : set_record (arranged s) ≡ set
  record_back = ap set_record arranged_same ∙ right_record panel set (well_right panel terms set given.formed) given.formed.lengths.long

  -- ---- the lines
  line-true : (l : ℕ) → l ∈ lefts k (length s) → line_true v fs l (map as_term (row_of l (list_in panel terms set))) ≡ true
  line-true l h =
      let list = row_of l (list_in panel terms set) in
      let own = subst (λ p. Row plain v l p list) (sym (own_slope panel terms set given l h)) (own_row panel terms set given l h) in
      T→is (line_true v fs l (map as_term list)) (row_true v fs l list own)

  lines_true : all (λ b. b) (line_tests k fs t) ≡ true
  unfolding line_tests
  lines_true =
      rw (typed_names panel terms set given, typed-lines panel terms set given)
      (beside (line_true v fs) (λ l. map as_term (row_of l (list_in panel terms set))) (lefts k (length s)) 0 [] line-true)

  lines_whole : lines_said k fs t ≡ whole
  unfolding lines_said
  lines_whole = rw lines_true

  -- ---- the text
  judged_yes : judged panel fs t ≡ outcome (Done (length s) 0 0) set
  unfolding judged
  judged_yes = rw (typed_names panel terms set given, T→is (forms_set panel s) forms, lines_whole, record_back)

  pub reads_back : ReadsBack panel terms set t
  unfolding read_listing
  reads_back fits =
      let w = given.formed in
      let clean : fault panel (records terms) ≡ Ok tt = (clean_exact panel (records terms) beyond).1 w.flawless in
      let read : said (listing k) t ≡ whole = (whole_exact (listing k) t).1 (typed_readable panel terms set given) in
      rw (panel-in panel w.ranged, (length_exact terms).1 w.lengths.measured, le-leb (length t) most_text fits, clean, read) judged_yes
