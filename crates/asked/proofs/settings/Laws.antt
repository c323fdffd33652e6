-- Settings that are right have a room that the buffer has. Assumes nothing.
use Prim.Native.Nat.{ℕ}
use lib.Dec.{leb, leb→le}
use Rattle.monomial.proofs.Tests.{cond_cases}
use Rattle.asked.specs.Settings.{most_sets, Roomy, numbered, panelled, within, asked, asked_thin, asked_wire}
use Rattle.std.specs.Prelude.{Option, Some, None}
use Rattle.report.specs.declared.prepare.Settings.{Settings}
use Rattle.asked.specs.declared.settings.Asked.{Asked}
use Rattle.asked.specs.declared.settings.Asked.TheVariants.{Plan, Thin, Wire}

numbered_roomy : (x : Option ℕ) (f : ℕ → Option Asked) → ((v : ℕ) → Roomy (f v)) → Roomy (numbered x f)
numbered_roomy (Some v) f h = h v
numbered_roomy None f h = tt

panelled_roomy : (x y z : Option ℕ) (f : ℕ → ℕ → ℕ → Option Asked) → ((n marks degree : ℕ) → Roomy (f n marks degree)) → Roomy (panelled x y z f)
panelled_roomy x y z f h = numbered_roomy x _ (λ n. numbered_roomy y _ (λ marks. numbered_roomy z (f n marks) (h n marks)))

within_roomy : (n marks degree cap limit sets which : ℕ) → Roomy (within n marks degree cap limit sets which)
within_roomy n marks degree cap limit sets which =
    let s : Settings = record { n = n; marks = marks; degree = degree; cap = cap; limit = limit; room = sets; which = which } in
    cond_cases Roomy (leb sets most_sets) (Some (Plan s)) None (leb→le sets most_sets) (λ _. tt)

pub asked_roomy : (a b c d e f g : Option ℕ) → Roomy (asked a b c d e f g)
unfolding asked
asked_roomy a b c d e f g =
    panelled_roomy a b c _
    (λ n marks degree. numbered_roomy d _ (λ cap. numbered_roomy e _ (λ limit. numbered_roomy f _ (λ sets. numbered_roomy g _ (within_roomy n marks degree cap limit sets)))))

pub thin_roomy : (a b c d : Option ℕ) → Roomy (asked_thin a b c d)
unfolding asked_thin
thin_roomy a b c d = panelled_roomy a b c _ (λ n marks degree. numbered_roomy d (λ which. Some (Thin n marks degree which)) (λ which. tt))

pub wire_roomy : (a b c : Option ℕ) → Roomy (asked_wire a b c)
unfolding asked_wire
wire_roomy a b c = panelled_roomy a b c (λ n marks degree. Some (Wire n marks degree)) (λ n marks degree. tt)
