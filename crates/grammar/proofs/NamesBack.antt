-- A byte in front of what is left of a tree is what is left before it: factors, and lines of the first part. Assumes nothing.
use mathlib.Core.Path.{◌≡◌, refl, ap, ◌∙◌}
use mathlib.Core.List.{List, [], ◌∷◌, ◌++◌, map}
use Prim.Native.Nat.{ℕ, ◌+◌, ◌-◌, ◌≤◌, ◌<◌}
use native.Mathlib.Omega.{arith}
use borrow.Author.Tests.{ne_eqb}
use lib.ListN.{length}
use Rattle.monomial.specs.Lists.{gather}
use Rattle.monomial.specs.Claims.{◌∈◌}
use Rattle.lines.specs.Text.{decimal, joined}
use Rattle.reader.specs.Bytes.{newline, blank, nought}
use Rattle.listing.specs.Bytes.{star, letter_w, letter_x, equals}
use Rattle.listing.specs.declared.known.Known.{Known}
use Rattle.grammar.specs.Grammar.{Factor, exponent_text, factor_text, name_text, names_from, FactorRight}
use Rattle.grammar.proofs.Gluing.{glued, each, each_none}
use Rattle.grammar.proofs.Rests.{Spelled, Lines, NameLines, Factors, FactorsOn, Raised}

module _ (k : Known) where
  pub joined_more : (fs : List Factor) → 1 ≤ length fs → gather (λ y. star ∷ y) (map (factor_text k) fs) ≡ star ∷ joined star (map (factor_text k) fs)
  unfolding gather joined
  joined_more [] h = absurd (omega arith)
  joined_more (f ∷ fs) h = refl

  module _ (i : ℕ) {text : List ℕ} where
    -- ---- the factors of a name, up to its line's end
    pub factors_none : NameLines k (i + 1) text → FactorsOn k i (newline ∷ text)
    unfolding gather
    factors_none h = record { what = []; right = each_none (FactorRight k); end = text; on = h; is = refl }

    pub factors_more : Factors k i text → FactorsOn k i (star ∷ text)
    factors_more f = record {
      what = f.what;
      right = f.right.1;
      end = f.end;
      on = f.on;
      is = rw (joined_more f.what f.right.0) (ap (λ r. star ∷ r) f.is);
    }

    -- no exponent, or one
    pub raised_not : FactorsOn k i text → Raised k i text
    unfolding exponent_text
    raised_not f = record { what = 0; right = tt; end = text; on = f; is = refl }

    pub raised-by : (e : ℕ) → 1 ≤ e → FactorsOn k i text → Raised k i (star ∷ star ∷ decimal e ++ text)
    unfolding exponent_text
    raised-by e h f = record { what = e; right = tt; end = text; on = f; is = rw (ne_eqb e 0 (omega arith)) }

    pub factors-of : (x : ℕ) → nought + 1 ≤ x → x ≤ nought + k.n → Raised k i text → Factors k i (letter_x ∷ x ∷ text)
    unfolding joined factor_text
    factors-of x low high p =
        let f = p.on in
        let e : nought + (x - nought) ≡ x = omega arith in
        let more : List ℕ = gather (λ y. star ∷ y) (map (factor_text k) f.what) in
        record {
          what = record { variable = x - nought; exponent = p.what } ∷ f.what;
          right = (omega arith, each (FactorRight k) (record { low = omega arith; high = omega arith }) f.right);
          end = f.end;
          on = f.on;
          is = rw e (ap (λ r. letter_x ∷ x ∷ r) (glued (exponent_text k p.what) more (newline ∷ f.end) p.is f.is));
        }

    -- ---- name lines
    pub names_none : Lines k i 0 text → NameLines k i (newline ∷ text)
    unfolding names_from
    names_none h = record {
      names = [];
      count = i;
      counts = omega arith;
      few = λ c. c;
      factors = each_none (λ fs. (1 ≤ length fs) × ((f : Factor) → f ∈ fs → FactorRight k f));
      end = text;
      on = h;
      is = refl;
    }

    pub names_more : i < k.cards → Spelled equals 0 (λ end. Factors k i (letter_x ∷ end)) text → NameLines k i (letter_w ∷ (nought + i) ∷ text)
    unfolding names_from name_text
    names_more h w =
        let p = w (omega arith) in
        let f = p.on in
        let n = f.on in
        let factors : List ℕ = joined star (map (factor_text k) f.what) ++ (newline ∷ []) in
        let more : List ℕ = names_from k (i + 1) n.names in
        let name : letter_x ∷ p.end ≡ factors ++ (more ++ (newline ∷ n.end)) =
        glued (joined star (map (factor_text k) f.what)) (newline ∷ []) (more ++ (newline ∷ n.end)) f.is (ap (λ r. newline ∷ r) n.is) in
        record {
          names = f.what ∷ n.names;
          count = n.count;
          counts = omega (arith, n.counts);
          few = λ c. n.few (omega arith);
          factors = each (λ fs. (1 ≤ length fs) × ((g : Factor) → g ∈ fs → FactorRight k g)) f.right n.factors;
          end = n.end;
          on = n.on;
          is = ap (λ r. letter_w ∷ (nought + i) ∷ r) (p.is ∙ ap (λ r. blank ∷ 61 ∷ blank ∷ r) (glued factors more (newline ∷ n.end) name refl));
        }
