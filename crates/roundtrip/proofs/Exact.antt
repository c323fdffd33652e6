-- What is typed of a quadratic set is read with yes, whenever it fits, and the set that comes back is the one that was typed: of the set and its
-- wiring list, of the bytes that say them, and of what wiring replies and leaves. Assumes nothing.
use mathlib.Core.Path.{◌≡◌, refl, sym, ap, ◌∙◌, subst}
use mathlib.Core.List.{List, [], ◌∷◌}
use Prim.Native.Nat.{ℕ, zero, suc}
use lib.ListN.{length, take}
use Rattle.monomial.specs.Monomial.{Mono}
use Rattle.wiring.specs.Poly.{Poly, plain}
use Rattle.wiring.specs.Reply.{outcome}
use Rattle.wiring.specs.Derivative.{derivative}
use Rattle.wiring.specs.Terms.{records, system}
use Rattle.wiring.specs.Sets.{places, size_of, set_of}
use Rattle.wiring.specs.Wires.{Wire}
use Rattle.wiring.specs.Answers.{verdict, wired}
use Rattle.wiring.specs.Claims.{signals_in, derivative_in, list_in, Patch, QuadraticIn}
use Rattle.wiring.specs.declared.panel.Panel.{Panel}
use Rattle.wiring.specs.declared.reply.Reply.TheVariants.{Done}
use Rattle.wiring.proofs.kinds.Plain.{plain_lawful}
use Rattle.wiring.proofs.wires.Correct.{correct_one, correct_same}
use Rattle.wiring.proofs.answers.Limits.{well_slope}
use Rattle.wiring.proofs.answers.Exact.{says_done}
use Rattle.wiring.proofs.answers.Wired.{wire_exact, wire_done}
use Rattle.grammar.specs.Grammar.{text}
use Rattle.typed.specs.Typed.{tree_of, wires_in}
use Rattle.typed.proofs.typed.Exact.{typed_text, patch_wires}
use Rattle.desktop.specs.Read.{known_to}
use Rattle.roundtrip.specs.Claims.{text_in, text_from, ReadsBack}
use Rattle.roundtrip.proofs.Yes.{reads_back}

take_own : {A : Type 0} (n : ℕ) (l : List A) → take (length (take n l)) l ≡ take n l
take_own zero l = refl
take_own (suc n) [] = refl
take_own (suc n) (x ∷ l) = ap (◌∷◌ x) (take_own n l)

module _ (panel : Panel) (terms set : List ℕ) where
  done_in : (o c k : ℕ) → verdict panel terms set ≡ Done o c k → QuadraticIn panel terms set
  done_in o c k e = let h = (says_done panel terms set o c k).0 e in record { formed = h.0; quadratic = h.4 }

  -- the listing of a set that is judged quadratic
  pub typed_read : (o c k : ℕ) → verdict panel terms set ≡ Done o c k → ReadsBack panel terms set (text_in panel terms set)
  typed_read o c k e = reads_back panel terms set (done_in o c k e)

  -- ---- in bytes
  module _ (given : QuadraticIn panel terms set) (count : ℕ) (bytes : List ℕ) (p : Patch panel terms set count bytes) where
    -- records that are right are those of the wiring list
    records_list : wires_in count bytes ≡ list_in panel terms set
    records_list =
        let v : List Mono = signals_in panel set in
        let taken : Mono → Poly Mono = derivative plain (system (records terms)) in
        let same = correct_same plain v (derivative_in panel terms) taken (λ z h. sym (well_slope panel terms set given.formed z h)) p.list p.correct in
        patch_wires p ∙ correct_one plain v taken plain_lawful p.list same

    -- so that they are typed as it is
    from_bytes : text_from panel (size_of set) set count bytes ≡ text_in panel terms set
    unfolding set_of
    from_bytes =
        typed_text (known_to panel) (set_of set) (wires_in count bytes) ∙ ap (λ (ws : List Wire). text (known_to panel) (tree_of (known_to panel) (set_of set) ws)) records_list

    bytes_back : ReadsBack panel terms set (text_from panel (size_of set) set count bytes)
    bytes_back = subst (ReadsBack panel terms set) (sym from_bytes) (reads_back panel terms set given)

  pub typed_back : (o c k : ℕ) → verdict panel terms set ≡ Done o c k → (count : ℕ) (bytes : List ℕ) → Patch panel terms set count bytes
      → ReadsBack panel terms set (text_from panel (size_of set) set count bytes)
  typed_back o c k e = bytes_back (done_in o c k e)

  -- ---- what wiring replies and leaves, typed by the numbers of its reply
  pub wired_back : (size o c k : ℕ) (bytes : List ℕ) → outcome (Done o c k) bytes ≡ wired panel terms set size → ReadsBack panel terms set (text_from panel o set c bytes)
  unfolding set_of
  wired_back size o c k bytes e =
      let h = ((wire_exact panel terms set size (Done o c k) bytes).0 e).0 in
      let own : take o (places set) ≡ take (size_of set) (places set) = ap (λ (n : ℕ). take n (places set)) h.2 ∙ take_own (size_of set) (places set) in
      rw own (bytes_back (record { formed = h.0; quadratic = h.1 }) c bytes (wire_done panel terms set size o c k bytes e))
