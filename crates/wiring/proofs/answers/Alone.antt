-- The verdict, read from the one call: whatever the buffer, quadratic is done or full and 9 is not; and with a buffer that is shorter than a
-- record, the empty one among them, done says that there is nothing to list and full that there is something. Assumes nothing.
use mathlib.Core.Path.{◌≡◌, refl, ap}
use mathlib.Core.Logic.{◌⊎◌, inl, inr, ⊎_elim}
use mathlib.Core.List.{List, [], ◌∷◌}
use Prim.Native.Nat.{ℕ, ◌*◌, ◌<◌, ◌≤◌}
use native.Mathlib.Omega.{arith}
use borrow.Author.Tests.{leb-true, leb-false}
use lib.Dec.{leb}
use lib.ListN.{length, get_or}
use Rattle.monomial.proofs.Tests.{Tested, passed, failed, test}
use Rattle.monomial.proofs.Counting.{at_in}
use Rattle.wiring.specs.Panel.{wire_bytes}
use Rattle.wiring.specs.declared.panel.Panel.{Panel}
use Rattle.wiring.specs.declared.reply.Reply.{Reply}
use Rattle.wiring.specs.declared.reply.Reply.TheVariants.{Done, Setting, Length, Term, Twice, Nothing, Full, Spent, BadSet, NotQuadratic, Unreadable, FalseLine}
use Rattle.wiring.specs.Reply.{numbers, outcome}
use Rattle.wiring.specs.Poly.{plain}
use Rattle.wiring.specs.Quadratic.{Quadratic}
use Rattle.wiring.specs.Sets.{set_of}
use Rattle.wiring.specs.Wires.{Wire}
use Rattle.wiring.specs.Answers.{wired}
use Rattle.wiring.specs.Claims.{WellFormed, signals_in, derivative_in, list_in, WireSays, wire_leaves, QuadraticIn, Unquadratic, TellsVerdict, VerdictAlone}
use Rattle.wiring.proofs.answers.Exact.{met_or_not}
use Rattle.wiring.proofs.answers.Wired.{wire_exact, wire_determined}

-- quadratic is done or full
abbrev Quadratically : Reply → Type 0
Quadratically r = ((numbers r).code ≡ 0) ⊎ ((numbers r).code ≡ 6)

module _ (panel : Panel) (terms set : List ℕ) (size : ℕ) where
  -- a reply by its code: quadratic with or without room for the list, not quadratic, or a refusal of what was given
  data Coded (r : Reply) : Type 0 where
    fits : (numbers r).code ≡ 0 → QuadraticIn panel terms set → wire_bytes * length (list_in panel terms set) ≤ size → Coded r
    over : (numbers r).code ≡ 6 → QuadraticIn panel terms set → size < wire_bytes * length (list_in panel terms set) → Coded r
    not_so : (numbers r).code ≡ 9 → Unquadratic panel terms set → Coded r
    refusal : ((numbers r).code ≡ 0 → ⊥) → ((numbers r).code ≡ 6 → ⊥) → ((numbers r).code ≡ 9 → ⊥) → Coded r

  coded : (r : Reply) → WireSays panel terms set size r → Coded r
  coded (Done o c k) h = fits refl (record { formed = h.0; quadratic = h.1 }) h.5
  coded (Full o k) h = over refl (record { formed = h.0; quadratic = h.1 }) h.4
  coded (NotQuadratic o p) h =
      not_so refl (record { formed = h.0; not = λ q. h.2.unlinked (q (get_or (signals_in panel set) p []) (at_in (signals_in panel set) p [] h.2.below)) })
  coded Setting h = refusal (λ e. omega arith) (λ e. omega arith) (λ e. omega arith)
  coded Length h = refusal (λ e. omega arith) (λ e. omega arith) (λ e. omega arith)
  coded (Term p) h = refusal (λ e. omega arith) (λ e. omega arith) (λ e. omega arith)
  coded (Twice p) h = refusal (λ e. omega arith) (λ e. omega arith) (λ e. omega arith)
  coded BadSet h = refusal (λ e. omega arith) (λ e. omega arith) (λ e. omega arith)
  coded (Nothing o k) h = absurd h
  coded (Spent o k) h = absurd h
  coded (Unreadable p) h = absurd h
  coded (FalseLine p) h = absurd h

  module _ (r : Reply) (bytes : List ℕ) (e : outcome r bytes ≡ wired panel terms set size) where
    says : WireSays panel terms set size r
    says = ((wire_exact panel terms set size r bytes).0 e).0

    -- a reply that says what holds is the reply
    is_reply : (q : Reply) → WireSays panel terms set size q → r ≡ q
    is_reply q h =
        let leaves : List ℕ = wire_leaves panel terms set size q in
        (wire_determined panel terms set size r q bytes leaves e ((wire_exact panel terms set size q leaves).1 (h, refl))).0

    quadratic_code : QuadraticIn panel terms set → Quadratically r
    quadratic_code q = go (test (leb (wire_bytes * length (list_in panel terms set)) size))
      where
        go : Tested (leb (wire_bytes * length (list_in panel terms set)) size) → Quadratically r
        go (passed t) =
            let done = is_reply (Done (length (set_of set)) (length (list_in panel terms set)) 0) (q.formed, q.quadratic, refl, refl, refl, leb-true (wire_bytes * length (list_in panel terms set)) size t) in
            inl (ap (λ (x : Reply). (numbers x).code) done)
        go (failed t) =
            let full = is_reply (Full (length (set_of set)) 0) (q.formed, q.quadratic, refl, refl, leb-false (wire_bytes * length (list_in panel terms set)) size t) in
            inr (ap (λ (x : Reply). (numbers x).code) full)

    unquadratic_code : Unquadratic panel terms set → (numbers r).code ≡ 9
    unquadratic_code u =
        ⊎_elim (λ q. absurd (u.not q)) (λ f. ap (λ (x : Reply). (numbers x).code) (is_reply (NotQuadratic (length (set_of set)) f.0) (u.formed, refl, f.1)))
        (met_or_not panel terms set u.formed)

    -- ---- the verdict, whatever the buffer
    pub wire_verdict : TellsVerdict panel terms set r
    wire_verdict = record { quadratic = (yes (coded r says), quadratic_code); not_quadratic = (no (coded r says), unquadratic_code); refused = (unformed, unsaid (coded r says)) }
      where
        unformed : ((numbers r).code ≡ 0 → ⊥) × ((numbers r).code ≡ 6 → ⊥) × ((numbers r).code ≡ 9 → ⊥) → WellFormed panel terms set → ⊥
        unformed f w =
            let unmet : Quadratic plain (signals_in panel set) (derivative_in panel terms) → ⊥ = λ q. ⊎_elim f.0 f.1 (quadratic_code (record { formed = w; quadratic = q })) in
            f.2 (unquadratic_code (record { formed = w; not = unmet }))

        unsaid : Coded r → (WellFormed panel terms set → ⊥) → ((numbers r).code ≡ 0 → ⊥) × ((numbers r).code ≡ 6 → ⊥) × ((numbers r).code ≡ 9 → ⊥)
        unsaid (fits c q h) k = absurd (k q.formed)
        unsaid (over c q h) k = absurd (k q.formed)
        unsaid (not_so c u) k = absurd (k u.formed)
        unsaid (refusal f g h) k = (f, g, h)

        yes : Coded r → Quadratically r → QuadraticIn panel terms set
        yes (fits c q h) k = q
        yes (over c q h) k = q
        yes (not_so c u) k = absurd (⊎_elim (λ z. omega arith) (λ z. omega arith) k)
        yes (refusal f g h) k = absurd (⊎_elim f g k)

        no : Coded r → (numbers r).code ≡ 9 → Unquadratic panel terms set
        no (fits c q h) k = let z : ⊥ = omega arith in absurd z
        no (over c q h) k = let z : ⊥ = omega arith in absurd z
        no (not_so c u) k = u
        no (refusal f g h) k = absurd (h k)

    -- ---- and alone: no record has room
    module _ (short : size < wire_bytes) where
      -- done has room for its list, so there is nothing to list; full has none, so there is something
      nothing : Coded r → (numbers r).code ≡ 0 → list_in panel terms set ≡ []
      nothing (fits c q h) k = empty (list_in panel terms set) h
        where
          empty : (l : List Wire) → wire_bytes * length l ≤ size → l ≡ []
          empty [] b = refl
          empty (x ∷ l) b = let z : ⊥ = omega arith in absurd z
      nothing (over c q h) k = let z : ⊥ = omega arith in absurd z
      nothing (not_so c u) k = let z : ⊥ = omega arith in absurd z
      nothing (refusal f g h) k = absurd (f k)

      something : Coded r → (numbers r).code ≡ 6 → list_in panel terms set ≡ [] → ⊥
      something (fits c q h) k l = omega arith
      something (over c q h) k l = let z = ap length l in omega arith
      something (not_so c u) k l = omega arith
      something (refusal f g h) k l = g k

      pub verdict_alone : VerdictAlone panel terms set r
      verdict_alone = record {
        tells = wire_verdict;
        done = (
          (λ c. (wire_verdict.quadratic.0 (inl c), nothing (coded r says) c)),
          λ h. ⊎_elim (λ c. c) (λ c. absurd (something (coded r says) c h.1)) (quadratic_code h.0),
        );
        full = (
          (λ c. (wire_verdict.quadratic.0 (inr c), something (coded r says) c)),
          λ h. ⊎_elim (λ c. absurd (h.1 (nothing (coded r says) c))) (λ c. c) (quadratic_code h.0),
        );
      }
