-- The derivative of every system that bytes hold obeys its rules, in six variables, and is the only one that does. Assumes nothing.
use mathlib.Core.Path.{◌≡◌, sym, ap, ◌∙◌}
use mathlib.Core.List.Memᴰ
use mathlib.Core.List.{List}
use Prim.Native.Nat.{ℕ}
use lib.ListN.{length}
use Rattle.monomial.specs.Lists.{below}
use Rattle.monomial.specs.Monomial.{Mono, width}
use Rattle.monomial.specs.Claims.{◌∈◌}
use Rattle.wiring.specs.Poly.{Term, Poly, plain, Same}
use Rattle.wiring.specs.Derivative.{derivative}
use Rattle.wiring.specs.Terms.{Record, records, equation, system}
use Rattle.wiring.specs.Kinds.{Derivation, OfWidth}
use Rattle.wiring.proofs.terms.Laws.{Numbered, records_out, record_long}
use Rattle.wiring.proofs.derivative.Records.{Stated, equation_out}
use Rattle.wiring.proofs.kinds.Plain.{plain_lawful}
use Rattle.wiring.proofs.derivative.Rules.{derivative_rules, rules_fix}

module _ (bytes : List ℕ) where
  abbrev fs : List (Poly Mono)
  fs = system (records bytes)

  stated_long : (i : ℕ) (t : Term Mono) → t ∈ equation (records bytes) i → length t.1 ≡ width
  stated_long i t h =
      let from : Stated (records bytes) i t = equation_out (records bytes) i t h in
      let own : Numbered bytes from.by = records_out bytes from.by from.listed in
      sym (ap (λ (x : Term Mono). length x.1) from.is) ∙ sym (ap (λ (r : Record). length r.monomial) own.is) ∙ record_long bytes own.number own.counted

  pub panel_sized : OfWidth plain width (system (records bytes))
  unfolding system
  panel_sized f m hf hm =
      let e : (i : ℕ) × (i ∈ below width) × (equation (records bytes) i ≡ f) = Memᴰ.of_map (equation (records bytes)) (below width) hf in
      let t : (x : Term Mono) × (x ∈ f) × (x.1 ≡ m) = Memᴰ.of_map (λ (x : Term Mono). x.1) f hm in
      sym (ap length t.2) ∙ stated_long e.0 t.0 (rw e.2 t.1)

  -- 1' is 0, the derivative of a variable is its equation, and products follow the product rule
  pub panel_rules : Derivation plain width (system (records bytes)) (derivative plain (system (records bytes)))
  panel_rules = derivative_rules plain plain_lawful width fs panel_sized

  pub panel_fixed : (D : Mono → Poly Mono) → Derivation plain width (system (records bytes)) D → (z : Mono) → length z ≡ width
      → Same plain (D z) (derivative plain (system (records bytes)) z)
  panel_fixed D r = rules_fix plain plain_lawful r panel_rules
