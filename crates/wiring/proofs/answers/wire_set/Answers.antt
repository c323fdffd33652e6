-- `wire_set` meets its contract: what the pass comes to is the verdict, with the list where there is room for it. Assumes nothing.
use mathlib.Core.Path.{◌≡◌, refl, sym, ap, ◌∙◌, subst}
use mathlib.Core.List.{List}
use Prim.Native.Nat.{ℕ}
use native.Mathlib.Omega.{arith}
use borrow.Author.Rules.{rules}
use lib.ListN.{length, replicate}
use Rattle.std.specs.Prelude.{Option, Result}
use Rattle.monomial.specs.Monomial.{Mono, width}
use Rattle.wiring.specs.Panel.{cards, set_exponent}
use Rattle.wiring.specs.Poly.{plain}
use Rattle.wiring.specs.Derivative.{derivative}
use Rattle.wiring.specs.Signals.{signals, Fitting}
use Rattle.wiring.specs.Sets.{monomials_of}
use Rattle.wiring.specs.Terms.{records, system}
use Rattle.wiring.specs.Reply.{outcome}
use Rattle.wiring.specs.Wires.{Passed}
use Rattle.wiring.specs.Answers.{wires}
use Rattle.wiring.specs.declared.reply.Reply.TheVariants.{Done, Full, NotQuadratic}
use Rattle.wiring.specs.declared.wires.Unmet.{Unmet}
use Rattle.wiring.proofs.signals.Arrays.{array_length, front_length}
use Rattle.wiring.proofs.signals.Laws.{signals_fitting}
use Rattle.wiring.proofs.wires.Sheets.{sheet_start}
use Rattle.wiring.proofs.answers.Laws.{first_as, listed_done, listed_full, told_met, told_unmet}
use Rattle.wiring.proofs.answers.wire_set.Goals as goal

pub wire_rows-requires : goal.wire_rows-requires
wire_rows-requires c =
    let q = c.requires.0 in
    let v = c.signals_of-v.ensures in
    let fits = signals_fitting set_exponent c.args.n (monomials_of c.args.set) (omega arith) q.fits in
    record { fits = subst (Fitting set_exponent) (sym v.0) fits; blank = sheet_start c.args.out.now c.requires.1 }

pub returns-in-Ok-Some : goal.returns-in-Ok-Some
returns-in-Ok-Some c =
    let a = c.args in
    let room : length a.set.m ≡ cards = search (rules, array_length) in
    let m = monomials_of a.set in
    let size : a.set.len ≡ length m = sym (front_length a.set.len a.set.m (omega (arith, a.set.few))) in
    let fs = system (records a.terms.now) in
    let w = c.wire_rows in
    let out = w.new.out in
    let all = subst (λ (l : List Mono). Passed plain l (derivative plain fs) w.result out) c.signals_of-v.ensures.0 w.ensures in
    let passed = subst (λ (p : Result (Option ℕ) Unmet). Passed plain (signals width a.n m) (derivative plain fs) p out) c.in-Ok-Some.is all in
    let stands = rw c.in-Ok-Some.field-0-is at passed.1 in
    let list = wires a.n fs m in
    let met = sym (first_as a.n fs m (signals width a.n m) (length (signals width a.n m)) refl (sym passed.0)) in
    let written = c.in-Ok-Some.count in
    ap (λ (k : ℕ). outcome (Done k written 0) out) size
    ∙ listed_done (length m) list written (length a.out.now) out stands w.auto.out
    ∙ told_met a.n fs m (length a.out.now) met

pub returns-in-Ok-None : goal.returns-in-Ok-None
returns-in-Ok-None c =
    let a = c.args in
    let room : length a.set.m ≡ cards = search (rules, array_length) in
    let m = monomials_of a.set in
    let size : a.set.len ≡ length m = sym (front_length a.set.len a.set.m (omega (arith, a.set.few))) in
    let fs = system (records a.terms.now) in
    let w = c.wire_rows in
    let out = w.new.out in
    let all = subst (λ (l : List Mono). Passed plain l (derivative plain fs) w.result out) c.signals_of-v.ensures.0 w.ensures in
    let passed = subst (λ (p : Result (Option ℕ) Unmet). Passed plain (signals width a.n m) (derivative plain fs) p out) c.in-Ok-None.is all in
    let long = rw c.in-Ok-None.field-0-is at passed.1 in
    let list = wires a.n fs m in
    let met = sym (first_as a.n fs m (signals width a.n m) (length (signals width a.n m)) refl (sym passed.0)) in
    let cleared = c.clear in
    let blank = cleared.ensures ∙ ap (λ (k : ℕ). replicate k 0) w.auto.out in
    ap (λ (k : ℕ). outcome (Full k 0) cleared.new.out) size
    ∙ listed_full (length m) list (length a.out.now) out cleared.new.out long w.auto.out blank
    ∙ told_met a.n fs m (length a.out.now) met

pub returns-in-Err : goal.returns-in-Err
returns-in-Err c =
    let a = c.args in
    let room : length a.set.m ≡ cards = search (rules, array_length) in
    let m = monomials_of a.set in
    let size : a.set.len ≡ length m = sym (front_length a.set.len a.set.m (omega (arith, a.set.few))) in
    let fs = system (records a.terms.now) in
    let w = c.wire_rows in
    let out = w.new.out in
    let all = subst (λ (l : List Mono). Passed plain l (derivative plain fs) w.result out) c.signals_of-v.ensures.0 w.ensures in
    let passed = subst (λ (p : Result (Option ℕ) Unmet). Passed plain (signals width a.n m) (derivative plain fs) p out) c.in-Err.is all in
    let at = c.in-Err.field-0.left in
    let cleared = c.clear-in-Err in
    let blank = cleared.ensures ∙ ap (λ (k : ℕ). replicate k 0) w.auto.out in
    ap (λ (k : ℕ). outcome (NotQuadratic k at) cleared.new.out) size
    ∙ told_unmet a.n fs m (length a.out.now) at cleared.new.out (first_as a.n fs m (signals width a.n m) at refl passed.0) passed.1 blank
