-- Definition 1 of document 001 over any kind of monomials: a derivative is a list of products of two members of v exactly when all its monomials
-- are in V2, and so for all members of v exactly when there is no nonsquare. Then what the first signal with a nonsquare is, and that derivations that agree on v say the same. Assumes nothing.
use mathlib.Core.Path.{◌≡◌, refl, sym, ap, ap₂, ◌∙◌, subst}
use mathlib.Core.Logic.{⊎_elim, ◌↔◌}
use mathlib.Core.Bool.{Bool}
use mathlib.Core.List.Memᴰ
use mathlib.Core.List.{List, [], ◌∷◌}
use Prim.Native.Nat.{ℕ, ◌<◌}
use native.Mathlib.Omega.{arith}
use lib.Dec.{T}
use lib.IntN.{ℤ, pos}
use lib.ListN.{get_or}
use Rattle.monomial.specs.Lists.{any, some, place}
use Rattle.monomial.specs.Claims.{◌∈◌, Order}
use Rattle.monomial.proofs.Tests.{Tested, passed, failed, test, is→T, is→n_t}
use Rattle.monomial.proofs.Members.{here, there, some_none, some_out}
use Rattle.monomial.proofs.Counting.{place_lt, place_passes, place_least, at_in}
use Rattle.wiring.specs.Poly.{Kind, Poly, coeff, monos, support}
use Rattle.wiring.specs.Quadratic.{Product, multiplied, in_v2, unmet, nonsquares, Linked, Quadratic}
use Rattle.wiring.specs.Claims.{FirstUnlinked}
use Rattle.wiring.proofs.Poly.{coeff_listed, support_out, graph, graph_support}
use Rattle.wiring.proofs.quadratic.Laws.{Factors, in_v2_in, in_v2_out, unmet_in, unmet_out, nonsquares_in, nonsquares_out, Nonsquare, some_nonsquares}

-- a list without members is empty
pub no_members : {A : Type 0} (l : List A) → ((x : A) → x ∈ l → ⊥) → l ≡ []
no_members [] n = refl
no_members (x ∷ l) n = absurd (n x here)

module _ {M : Type 0} (k : Kind M) (o : Order k.same k.before) (v : List M) where
  -- ---- a list of products has no monomial outside V2
  pub record Factored (l : List (Product M)) (m : M) : Type 0 where
    pub entry : Product M
    pub member : entry ∈ l
    pub is : k.mul entry.a entry.b ≡ m

  listed : (l : List (Product M)) (m : M) → m ∈ monos (multiplied k v l) → Factored l m
  unfolding multiplied
  listed [] m h = absurd (Memᴰ.not-nil h)
  listed (r ∷ l) m h = ⊎_elim (λ e. record { entry = r; member = here; is = sym e }) (λ n. later (listed l m n)) (Memᴰ.cases_cons h)
    where
      later : Factored l m → Factored (r ∷ l) m
      later q = record { entry = q.entry; member = there q.member; is = q.is }

  pub linked_met : (p : Poly M) → Linked k v p → (m : M) → m ∈ support k p → T (in_v2 k v m)
  linked_met p l m h = in_v2_in k o v m (record { a = q.entry.a; b = q.entry.b; a_in = both.0; b_in = both.1; is = q.is })
    where
      nonzero : coeff k (multiplied k v l.list) m ≡ pos 0 → ⊥
      nonzero e = (support_out k o p m h).1 (sym (l.equal m) ∙ e)

      q : Factored l.list m
      q = listed l.list m (coeff_listed k o (multiplied k v l.list) m nonzero)

      both : (q.entry.a ∈ v) × (q.entry.b ∈ v)
      both = l.members q.entry q.member

  -- ---- and where all monomials are in V2, their factors make such a list
  module _ (c : M → ℤ) where
    factored : (l : List M) → ((m : M) → m ∈ l → Factors k o v m) → List (Product M)
    factored [] f = []
    factored (m ∷ l) f = record { a = (f m here).a; b = (f m here).b; coefficient = c m } ∷ factored l (λ x h. f x (there h))

    factored_members : (l : List M) (f : (m : M) → m ∈ l → Factors k o v m) (q : Product M) → q ∈ factored l f → (q.a ∈ v) × (q.b ∈ v)
    unfolding factored
    factored_members [] f q h = absurd (Memᴰ.not-nil h)
    factored_members (m ∷ l) f q h =
        ⊎_elim
        (λ e. subst (λ (r : Product M). (r.a ∈ v) × (r.b ∈ v)) (sym e) ((f m here).a_in, (f m here).b_in))
        (λ n. factored_members l (λ x i. f x (there i)) q n)
        (Memᴰ.cases_cons h)

    factored_graph : (l : List M) (f : (m : M) → m ∈ l → Factors k o v m) → multiplied k v (factored l f) ≡ graph c l
    unfolding factored multiplied
    factored_graph [] f = refl
    factored_graph (m ∷ l) f = ap₂ ◌∷◌ (ap (λ (x : M). (c m, x)) (f m here).is) (factored_graph l (λ x h. f x (there h)))

  pub met_linked : (p : Poly M) → ((m : M) → m ∈ support k p → T (in_v2 k v m)) → Linked k v p
  met_linked p h = record {
    list = factored (coeff k p) (support k p) pair;
    members = factored_members (coeff k p) (support k p) pair;
    equal = λ m. ap (λ (r : Poly M). coeff k r m) (factored_graph (coeff k p) (support k p) pair) ∙ graph_support k o p m;
  }
    where
      pair : (m : M) → m ∈ support k p → Factors k o v m
      pair m n = in_v2_out k o v m (h m n)

  -- a monomial of p is in V2 where none is outside
  none_unmet : (p : Poly M) → unmet k v p ≡ [] → (m : M) → m ∈ support k p → T (in_v2 k v m)
  none_unmet p e m h = go (test (in_v2 k v m))
    where
      go : Tested (in_v2 k v m) → T (in_v2 k v m)
      go (passed t) = is→T (in_v2 k v m) t
      go (failed t) = absurd (Memᴰ.not-nil (subst (λ l. m ∈ l) e (unmet_in k o v p m h (is→n_t (in_v2 k v m) t))))

  linked_none : (p : Poly M) → Linked k v p → unmet k v p ≡ []
  linked_none p l = no_members (unmet k v p) (λ m h. let u = unmet_out k o v p m h in u.1 (linked_met p l m u.0))

  pub linked_iff : (p : Poly M) → Linked k v p ↔ (unmet k v p ≡ [])
  linked_iff p = (linked_none p, λ e. met_linked p (none_unmet p e))

  -- ---- Definition 1
  module _ (d : M → Poly M) where
    quadratic_none : Quadratic k v d → nonsquares k v d ≡ []
    quadratic_none q = no_members (nonsquares k v d) missing
      where
        missing : (m : M) → m ∈ nonsquares k v d → ⊥
        missing m h =
            let n : Nonsquare k o v d m = nonsquares_out k o v d m h in
            Memᴰ.not-nil (subst (λ l. m ∈ l) (linked_none (d n.of) (q n.of n.of_in)) n.missing)

    none_quadratic : nonsquares k v d ≡ [] → Quadratic k v d
    none_quadratic e z h = (linked_iff (d z)).1 (no_members (unmet k v (d z)) (λ m n. Memᴰ.not-nil (subst (λ l. m ∈ l) e (nonsquares_in k o v d z m h n))))

    pub definition1 : Quadratic k v d ↔ (nonsquares k v d ≡ [])
    definition1 = (quadratic_none, none_quadratic)

    -- ---- the first member whose derivative is no list of products
    module _ (x : M) where
      pub first_unlinked : T (some (nonsquares k v d)) → FirstUnlinked k v d x (place (λ z. some (unmet k v (d z))) v)
      first_unlinked t = record { below = place_lt has v found; unlinked = here_not; earlier = linked_before }
        where
          has : M → Bool
          has z = some (unmet k v (d z))

          found : T (any has v)
          found = subst T (some_nonsquares k o v d) t

          here_not : Linked k v (d (get_or v (place has v) x)) → ⊥
          here_not l =
              let z : M = get_or v (place has v) x in
              let m : (y : M) × (y ∈ unmet k v (d z)) = some_out (unmet k v (d z)) (place_passes has v x found) in
              Memᴰ.not-nil (subst (λ u. m.0 ∈ u) (linked_none (d z) l) m.1)

          linked_before : (j : ℕ) → j < place has v → Linked k v (d (get_or v j x))
          linked_before j h = let z : M = get_or v j x in (linked_iff (d z)).1 (some_none (unmet k v (d z)) (place_least has v x j h))

      -- there is one such number
      pub first_unlinked_one : (i j : ℕ) → FirstUnlinked k v d x i → FirstUnlinked k v d x j → i ≡ j
      first_unlinked_one i j f g = omega (arith, not_before i j f g, not_before j i g f)
        where
          not_before : (a b : ℕ) → FirstUnlinked k v d x a → FirstUnlinked k v d x b → a < b → ⊥
          not_before a b p q h = p.unlinked (q.earlier a h)

-- ---- of two derivations that agree on the members of v the same is said
module _ {M : Type 0} (k : Kind M) (v : List M) (d e : M → Poly M) (same : (z : M) → z ∈ v → d z ≡ e z) where
  pub quadratic_same : Quadratic k v d → Quadratic k v e
  quadratic_same q z h = subst (Linked k v) (same z h) (q z h)

  pub first_unlinked_same : (x : M) {i : ℕ} → FirstUnlinked k v d x i → FirstUnlinked k v e x i
  first_unlinked_same x {i} f = record {
    below = f.below;
    unlinked = λ l. f.unlinked (subst (Linked k v) (sym (same (get_or v i x) (at_in v i x f.below))) l);
    earlier = λ j h. subst (Linked k v) (same (get_or v j x) (at_in v j x (let b = f.below in omega arith))) (f.earlier j h);
  }
