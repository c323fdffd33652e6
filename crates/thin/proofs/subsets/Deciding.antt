-- Deciding the next signal: the subsets ahead are those with it and those without. Assumes nothing.
use mathlib.Core.Path.{◌≡◌, sym, ap, subst, ◌∙◌}
use mathlib.Core.Logic.{⊎_elim}
use mathlib.Core.List.Memᴰ
use mathlib.Core.List.{List, [], ◌∷◌, ◌++◌, map}
use Prim.Native.Nat.{ℕ, ◌+◌, ◌≤◌, ◌<◌}
use native.Mathlib.Omega.{arith}
use lib.ListN.{length, drop, drop_of_length-le, length-append}
use Rattle.monomial.specs.Monomial.{Mono, width}
use Rattle.monomial.specs.Product.{AtMost}
use Rattle.monomial.specs.Claims.{◌∈◌}
use Rattle.monomial.proofs.Counting.{at_in}
use Rattle.wiring.specs.Panel.{cards, set_exponent}
use Rattle.wiring.specs.Signals.{Fitting}
use Rattle.wiring.specs.Sets.{monomials_of}
use Rattle.wiring.specs.declared.held.Set.{Set}
use Rattle.wiring.proofs.signals.Arrays.{entry, front_length, front_at, front_drop}
use Rattle.thin.specs.declared.subsets.Best.{Best}
use Rattle.thin.specs.Subsets.{subsets, Sifting, Bounded, undecided, Deciding}
use Rattle.thin.proofs.subsets.Laws.{behind_none, behind_first}
use Rattle.thin.proofs.subsets.Sifting.{sifting_append}

module _ (n : ℕ) (terms : List ℕ) (given : Set) (at : ℕ) (kept : Set) (d : Deciding n terms given at kept) (full : length given.m ≡ cards) where
  -- all are decided
  pub decided : given.len ≤ at → undecided given at kept ≡ monomials_of kept ∷ []
  decided h =
      let small : length (monomials_of given) ≤ at = omega (arith, front_length given.len given.m (omega (arith, given.few))) in
      ap (λ (l : List Mono). map (λ (s : List Mono). monomials_of kept ++ s) (subsets l)) (drop_of_length-le (monomials_of given) small) ∙ behind_none (monomials_of kept)

  -- one is kept, or dropped
  module _ (h : at < given.len) (more : Set) (is : monomials_of more ≡ monomials_of kept ++ (entry given.m at ∷ [])) (size : more.len ≡ kept.len + 1) where
    pub either : undecided given at kept ≡ undecided given (at + 1) more ++ undecided given (at + 1) kept
    either =
        let rest = drop (at + 1) (monomials_of given) in
        let next : drop at (monomials_of given) ≡ entry given.m at ∷ rest = front_drop given.len given.m at h (omega (arith, given.few)) in
        ap (λ (l : List Mono). map (λ (s : List Mono). monomials_of kept ++ s) (subsets l)) next
        ∙ behind_first (monomials_of kept) (entry given.m at) rest
        ∙ ap (λ (u : List Mono). map (λ (s : List Mono). u ++ s) (subsets rest) ++ undecided given (at + 1) kept) (sym is)

    joined_fits : Fitting set_exponent (monomials_of more)
    joined_fits m k = ⊎_elim (d.part.fits m) last (Memᴰ.append_cases (monomials_of kept) (subst (λ (l : List Mono). m ∈ l) is k))
      where
        inside : entry given.m at ∈ monomials_of given
        inside =
            let low : at < length (monomials_of given) = omega (arith, front_length given.len given.m (omega (arith, given.few))) in
            subst (λ (x : Mono). x ∈ monomials_of given) (front_at given.len given.m at [] h (omega (arith, given.few))) (at_in (monomials_of given) at [] low)

        last : m ∈ (entry given.m at ∷ []) → (length m ≡ width) × AtMost set_exponent m
        last j = ⊎_elim (λ e. d.whole.fits m (subst (λ (x : Mono). x ∈ monomials_of given) (sym e) inside)) (λ z. absurd (Memᴰ.not-nil z)) (Memᴰ.cases_cons j)

    pub keeping : Deciding n terms given (at + 1) more
    keeping = record {
      whole = d.whole;
      part = record { few = d.part.few; clean = d.part.clean; fits = joined_fits };
      within = omega arith;
      fewer = omega (arith, d.fewer);
    }

    pub dropping : Deciding n terms given (at + 1) kept
    dropping = record { whole = d.whole; part = d.part; within = omega arith; fewer = omega (arith, d.fewer) }

    -- the numbers have room for both parts
    module _ (b : Best) (a : Bounded b (length (undecided given at kept))) where
      parts : length (undecided given at kept) ≡ length (undecided given (at + 1) more) + length (undecided given (at + 1) kept)
      parts = ap length either ∙ length-append (undecided given (at + 1) more) (undecided given (at + 1) kept)

      pub bounded_first : Bounded b (length (undecided given (at + 1) more))
      bounded_first = record { counted = a.counted; within = omega (arith, a.within, parts) }

      module _ (out : List ℕ) (b' : Best) (out' : List ℕ) (m : Sifting n terms (undecided given (at + 1) more) b out b' out') where
        pub bounded_then : Bounded b' (length (undecided given (at + 1) kept))
        bounded_then = record { counted = m.counted; within = omega (arith, a.within, m.steps, parts) }

        pub sifting_both : (b'' : Best) (out'' : List ℕ) → Sifting n terms (undecided given (at + 1) kept) b' out' b'' out'' → Sifting n terms (undecided given at kept) b out b'' out''
        sifting_both b'' out'' k =
            subst (λ l. Sifting n terms l b out b'' out'') (sym either)
            (sifting_append n terms (undecided given (at + 1) more) (undecided given (at + 1) kept) b out b' out' b'' out'' m k)
