-- What wiring leaves after code 0: a set and a wiring list that can be typed; and each line by its number. Assumes nothing.
use mathlib.Core.Path.{◌≡◌, refl, sym, ap, ◌∙◌, subst}
use mathlib.Core.List.{List, [], ◌∷◌, ◌++◌, append-nil}
use Prim.Native.Nat.{ℕ, zero, suc, ◌+◌, ◌*◌, ◌-◌, ◌≤◌, ◌<◌}
use native.Mathlib.Omega.{arith}
use native.Mathlib.Numerals.{add-one}
use borrow.Author.Tests.{eq-eqb, ne_eqb}
use lib.ListN.{length, get_or, take, drop, replicate}
use lib.Seq.{paste, take-length, ext_get_or}
use Rattle.monomial.specs.Monomial.{Mono, width}
use Rattle.monomial.proofs.Counting.{at_in}
use Rattle.wiring.specs.Panel.{cards, set_bytes, wire_bytes, wires_bytes}
use Rattle.wiring.specs.Sockets.{panel_of}
use Rattle.wiring.specs.Sets.{places, size_of, set_of}
use Rattle.wiring.specs.Wires.{Wire, wire_record, wire_list}
use Rattle.wiring.specs.Reply.{numbers, in_order, outcome}
use Rattle.wiring.specs.Answers.{wired}
use Rattle.wiring.specs.Claims.{signals_in, list_in, Decodes, WireSays}
use Rattle.wiring.specs.declared.panel.Panel.{Panel}
use Rattle.wiring.specs.declared.reply.Reply.{Reply}
use Rattle.wiring.specs.declared.reply.Reply.TheVariants.{Done}
use Rattle.wiring.proofs.reply.Laws.{code_done}
use Rattle.wiring.proofs.sets.Exact.{right_recordable}
use Rattle.wiring.proofs.signals.Laws.{signals_length}
use Rattle.wiring.proofs.wires.Correct.{list_at}
use Rattle.wiring.proofs.answers.Limits.{well_right}
use Rattle.wiring.proofs.answers.Wired.{wire_exact, wire_done, list_decodes}
use Rattle.lines.specs.Answer.{reply_line}
use Rattle.typed.specs.Typed.{listing_lines, wire_of, wire_at, wires_in, Listed}
use Rattle.typed.proofs.typed.Laws.{wires_length, wires_at}
use Rattle.typed.proofs.typed.Exact.{patch_listed}
use Rattle.desktop.specs.Read.{known_to}
use Rattle.listed.specs.declared.typing.Typing.{Typing}
use Rattle.listed.specs.Typing.{typed_lines, Typeable, Types}

-- ---- a set record in as many bytes as a whole one has
zeros_rest : (n m : ℕ) → drop n (replicate {A = ℕ} m 0) ≡ replicate (m - n) 0
zeros_rest zero m = let e : m ≡ m - 0 = omega arith in ap (λ (k : ℕ). replicate {A = ℕ} k 0) e
zeros_rest (suc n) zero = let e : 0 ≡ 0 - suc n = omega arith in ap (λ (k : ℕ). replicate {A = ℕ} k 0) e
zeros_rest (suc n) (suc m) = let e : m - n ≡ suc m - suc n = omega arith in zeros_rest n m ∙ ap (λ (k : ℕ). replicate {A = ℕ} k 0) e

pub held_padded : (set held : List ℕ) → held ≡ paste (replicate set_bytes 0) 0 set (length set) → held ≡ set ++ replicate (set_bytes - length set) 0
held_padded set held e =
    let at : 0 + length set ≡ length set = omega arith in
    e ∙ rw (at, take-length set) (ap (λ l. set ++ l) (zeros_rest (length set) set_bytes))

pub whole_held : (set : List ℕ) → length set ≡ set_bytes → set ++ replicate (set_bytes - length set) 0 ≡ set
whole_held set long = let none : set_bytes - length set ≡ 0 = omega arith in rw none (append-nil set)

-- ---- code 0 is done's
pub by_done : (P : Reply → Type 0) (r : Reply) → (numbers r).code ≡ 0 → ((o c k : ℕ) → r ≡ Done o c k → P (Done o c k)) → P r
by_done P r z h = let d = code_done r z in subst P (sym d.is) (h d.order d.count d.steps d.is)

-- ---- what done says of the set and of the list
used : (n : ℕ) (l : List Mono) → take (length (take n l)) l ≡ take n l
used zero l = refl
used (suc n) [] = refl
used (suc n) (m ∷ l) = ap (λ (r : List Mono). m ∷ r) (used n l)

wire_is : (x : Wire) (bytes : List ℕ) → Decodes x bytes → wire_of bytes ≡ x
wire_is x bytes d = rw (d.left_is, d.a_is, d.b_is, d.coefficient_is)

module _ (panel : Panel) (terms set wires : List ℕ) (o c k : ℕ) (e : outcome (Done o c k) wires ≡ wired panel terms set wires_bytes) where
  says : WireSays panel terms set wires_bytes (Done o c k)
  says = ((wire_exact panel terms set wires_bytes (Done o c k) wires).0 e).0

  pub done_few : panel.n ≤ width
  done_few = says.0.ranged.high

  pub done_long : length set ≡ set_bytes
  done_long = says.0.lengths.long

  pub done_small : o ≤ cards
  done_small = omega (arith, says.2, (right_recordable panel set (well_right panel terms set says.0) done_long).few)

  pub done_listed : Listed c wires
  done_listed =
      let many : length (signals_in panel set) ≡ panel.n + 1 + length (set_of set) = signals_length panel.n (set_of set) done_few in
      patch_listed (wire_done panel terms set wires_bytes o c k wires e) (omega (arith, says.2, done_few, done_small))

  pub done_set : take o (places set) ≡ set_of set
  unfolding set_of
  done_set = ap (λ (n : ℕ). take n (places set)) says.2 ∙ used (size_of set) (places set)

  pub done_wires : wires_in c wires ≡ list_in panel terms set
  done_wires =
      let list : List Wire = list_in panel terms set in
      let zeros : List ℕ = replicate (wires_bytes - wire_bytes * length list) 0 in
      let left : wires ≡ wire_list list ++ zeros = ((wire_exact panel terms set wires_bytes (Done o c k) wires).0 e).1 in
      let none : Wire = wire_at wires 0 in
      let each : (j : ℕ) → j < length (wires_in c wires) → get_or (wires_in c wires) j none ≡ get_or list j none =
      λ j h.
      let low : j < c = rw (wires_length c wires) at h in
      let inside : j < length list = rw (← says.3) low in
      let x : Wire = get_or list j none in
      let eight : take wire_bytes (drop (wire_bytes * j) wires) ≡ wire_record x =
      ap (λ (b : List ℕ). take wire_bytes (drop (wire_bytes * j) b)) left ∙ list_at list zeros j none inside in
      wires_at c wires j none low ∙ ap wire_of eight ∙ wire_is x (wire_record x) (list_decodes panel terms set says.0 says.1 x (at_in list j none inside)) in
      ext_get_or none (wires_in c wires) list (wires_length c wires ∙ says.3) each

-- ---- what was prepared
pub types : (n marks degree : ℕ) (terms set : List ℕ) (reply : Reply) (wires : List ℕ) (size : ℕ) → size ≡ wires_bytes
    → outcome reply wires ≡ wired (panel_of n marks degree) terms set size → (held : List ℕ) → held ≡ set ++ replicate (set_bytes - length set) 0
    → Types (panel_of n marks degree) terms set (record { reply = reply; known = known_to (panel_of n marks degree); set = held }) wires
types n marks degree terms set reply wires size long e held h =
    let panel : Panel = panel_of n marks degree in
    let left : outcome reply wires ≡ wired panel terms set wires_bytes = rw long at e in
    let made : Reply → Typing = λ r. record { reply = r; known = known_to panel; set = held } in
    record {
      left = left;
      known = refl;
      held = h;
      ready = λ z.
          by_done (λ r. Typeable (made r) wires) reply z
          (λ o c k is.
          let done = subst (λ (r : Reply). outcome r wires ≡ wired panel terms set wires_bytes) is left in
          record {
            few = done_few panel terms set wires o c k done;
            small = done_small panel terms set wires o c k done;
            listed = done_listed panel terms set wires o c k done;
          });
    }

-- ---- each line by its number
module _ (t : Typing) (wires : List ℕ) where
  abbrev pub typed_listing : List (List ℕ)
  typed_listing = listing_lines t.known (take (numbers t.reply).order (places t.set)) (wires_in (numbers t.reply).count wires)

  pub reply_first : (k : ℕ) → k ≡ 0 → reply_line (in_order (numbers t.reply)) ≡ get_or (typed_lines t wires) k []
  unfolding typed_lines
  reply_first k e = rw e

  pub refused_none : (k : ℕ) → (k ≡ 0 → ⊥) → ((numbers t.reply).code ≡ 0 → ⊥) → [] ≡ get_or (typed_lines t wires) k []
  unfolding typed_lines
  refused_none zero h f = absurd (h refl)
  refused_none (suc k) h f = rw (ne_eqb (numbers t.reply).code 0 f)

  later : (k : ℕ) → (k ≡ 0 → ⊥) → (numbers t.reply).code ≡ 0 → get_or typed_listing (k - 1) [] ≡ get_or (typed_lines t wires) k []
  unfolding typed_lines
  later zero h z = absurd (h refl)
  later (suc k) h z = rw (eq-eqb (numbers t.reply).code 0 z) (ap (λ (i : ℕ). get_or typed_listing i []) (omega arith))

  pub listing_told : {k : ℕ} {line : List ℕ} → (k ≡ 0 → ⊥) → (numbers t.reply).code ≡ 0 → line ≡ get_or typed_listing (k - 1) [] → line ≡ get_or (typed_lines t wires) k []
  listing_told {k} h z told = rw (← later k h z) told

  -- how many there are
  pub typed_some : 0 < length (typed_lines t wires)
  unfolding typed_lines
  typed_some = omega arith

  pub typed_refused : ((numbers t.reply).code ≡ 0 → ⊥) → length (typed_lines t wires) ≡ 1
  unfolding typed_lines
  typed_refused f = rw (ne_eqb (numbers t.reply).code 0 f)

  pub typed_done : (numbers t.reply).code ≡ 0 → length (typed_lines t wires) ≡ length typed_listing + 1
  unfolding typed_lines
  typed_done z = rw (eq-eqb (numbers t.reply).code 0 z, add-one)
