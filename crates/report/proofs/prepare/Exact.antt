-- What was prepared tells the lines of the report, and the promise leaves nothing open. Assumes nothing.
use mathlib.Core.Path.{◌≡◌, refl, sym, ap, ◌∙◌}
use mathlib.Core.List.{List, [], ◌∷◌}
use Prim.Native.Nat.{ℕ}
use lib.ListN.{length, take, drop, take-append-drop}
use Rattle.wiring.specs.Reply.{numbers, in_order}
use Rattle.wiring.specs.declared.panel.Panel.{Panel}
use Rattle.wiring.specs.declared.reply.Reply.{Reply}
use Rattle.wiring.specs.declared.reply.Reply.TheVariants.{Setting}
use Rattle.wiring.proofs.reply.Laws.{same_reply}
use Rattle.lines.specs.Answer.{reply_line}
use Rattle.report.specs.declared.prepare.Settings.{Settings}
use Rattle.report.specs.declared.prepare.Prepared.{Prepared}
use Rattle.report.specs.Prepare.{Results, results_in, Leaves, Prepares, PreparesThin, PreparesWire}
use Rattle.report.specs.Report.{lines_of, report, thin_report, wire_report}

abbrev made : Reply → ℕ → ℕ → Prepared
made reply lent wires = record { reply = reply; lent = lent; wires = wires }

same : (p q : Prepared) → p.reply ≡ q.reply → p.lent ≡ q.lent → p.wires ≡ q.wires → p ≡ q
same p q e f g =
    ap (λ (r : Reply). made r p.lent p.wires) e ∙ ap (λ (n : ℕ). made q.reply n p.wires) f ∙ ap (made q.reply q.lent) g

module _ {p : Prepared} {sets after wires : List ℕ} where
  pub prepared_lines : (s : Settings) (terms : List ℕ) → Prepares s terms p sets after wires → lines_of (results_in p after wires) ≡ report s terms
  unfolding report
  prepared_lines s terms a = ap lines_of a.left

  pub thin_prepared_lines : (panel : Panel) (which : ℕ) (terms set : List ℕ) → PreparesThin panel which terms set p sets after wires
      → lines_of (results_in p after wires) ≡ thin_report panel which terms set (length sets)
  unfolding thin_report
  thin_prepared_lines panel which terms set a = ap lines_of a.left

  pub wire_prepared_lines : (panel : Panel) (terms set : List ℕ) → PreparesWire panel terms set p sets after wires
      → lines_of (results_in p after wires) ≡ wire_report panel terms set
  unfolding wire_report
  wire_prepared_lines panel terms set a = ap lines_of a.left

  -- two outcomes that a promise allows are equal: what is given, and every byte that was lent
  pub prepare_determined : {size : ℕ} {r : Results} {q : Prepared} {b w : List ℕ} → Leaves size r p sets after wires → Leaves size r q sets b w
      → (p ≡ q) × (after ≡ b) × (wires ≡ w)
  prepare_determined {size} {r} {q} {b} {w} a c =
      let both : results_in p after wires ≡ results_in q b w = a.left ∙ sym c.left in
      let replies : p.reply ≡ q.reply = same_reply p.reply q.reply (ap (λ (r : Results). r.listed.said) both) in
      let counts : p.wires ≡ q.wires = ap (λ (r : Results). r.wiring.count) both in
      let lent : p.lent ≡ q.lent = a.lent ∙ sym c.lent in
      let front : take p.lent after ≡ take q.lent b = ap (λ (r : Results). r.listed.bytes) both in
      let rest : drop p.lent after ≡ drop q.lent b = a.rest ∙ rw lent (sym c.rest) in (
        same p q replies lent counts,
        sym (take-append-drop p.lent after) ∙ rw (front, rest) (take-append-drop q.lent b),
        ap (λ (r : Results). r.wiring.bytes) both,
      )

-- so too of wiring, which no buffer is lent for sets
pub wire_prepare_determined : (panel : Panel) (terms set : List ℕ) {p q : Prepared} {w v : List ℕ} → ((sets : List ℕ) → PreparesWire panel terms set p sets sets w)
    → ((sets : List ℕ) → PreparesWire panel terms set q sets sets v) → (p ≡ q) × (w ≡ v)
wire_prepare_determined panel terms set a c = let both = prepare_determined (a []) (c []) in (both.0, both.2)

-- of a refused setting only the reply is told
pub setting_line : (sets wires : List ℕ)
    → lines_of (results_in (record { reply = Setting; lent = 0; wires = 0 }) sets wires) ≡ reply_line (in_order (numbers Setting)) ∷ []
unfolding lines_of
setting_line sets wires = refl
