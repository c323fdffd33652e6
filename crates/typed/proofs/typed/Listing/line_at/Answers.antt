-- `line_at` meets its contract: by its number the heading, a name's line, the blank line, a derivative's line, or none. Assumes nothing.
use Rattle.std.proofs.Common.{◌≡◌, refl, [], suc, ◌+◌, ◌-◌, ◌<◌, length, take, sym, ◌∙◌, arith}
use Rattle.wiring.specs.Sets.{places}
use Rattle.wiring.proofs.sets.Laws.{used_length, used_at}
use Rattle.lines.proofs.Told.{told_yes, told_no}
use Rattle.listing.specs.Lines.{left_of}
use Rattle.listing.proofs.lines.Laws.{left_none, left_here}
use Rattle.typed.specs.Typed.{wires_in}
use Rattle.typed.proofs.typed.Numbers.{heading_first, name_next, blank_next, derivative_next, none_next}
use Rattle.typed.proofs.typed.Exact.{typed_length}
use Rattle.typed.proofs.typed.Listing.line_at.Goals as goal

pub returns-then-j-eq0-clause-text : goal.returns-then-j-eq0-clause-text
returns-then-j-eq0-clause-text c =
    let q = c.args in
    let s = take q.self.size (places q.self.set.now) in
    rw (c.put_text.ensures, c.clear.ensures) (heading_first q.self.known s (wires_in q.self.count q.self.wires.now) q.j c.if-j-eq0.true)

pub returns-then-j-eq0-clause-there : goal.returns-then-j-eq0-clause-there
returns-then-j-eq0-clause-there c =
    let q = c.args in
    let long = typed_length q.self.known (take q.self.size (places q.self.set.now)) (wires_in q.self.count q.self.wires.now) in
    told_yes (omega arith)

pub returns-then-i-self-clause-text : goal.returns-then-i-self-clause-text
returns-then-i-self-clause-text c =
    let q = c.args in
    let s = take q.self.size (places q.self.set.now) in
    let ws = wires_in q.self.count q.self.wires.now in
    let inside : q.j - 1 < length s = rw (used_length q.self.set.now q.self.size c.args.self.small) c.if-i-self.true in
    let at = used_at q.self.set.now q.self.size c.args.self.small (q.j - 1) [] c.if-i-self.true in
    rw (← at, name_next q.self.known s ws q.j [] c.if-j-eq0.false inside) at (c.name_line.ensures q.self.known)

pub returns-then-i-self-clause-there : goal.returns-then-i-self-clause-there
returns-then-i-self-clause-there c =
    let q = c.args in
    let size = used_length q.self.set.now q.self.size c.args.self.small in
    let long = typed_length q.self.known (take q.self.size (places q.self.set.now)) (wires_in q.self.count q.self.wires.now) in
    told_yes (omega arith)

pub returns-then-i-self-2-clause-text : goal.returns-then-i-self-2-clause-text
returns-then-i-self-2-clause-text c =
    let q = c.args in
    let s = take q.self.size (places q.self.set.now) in
    let last : q.j - 1 ≡ length s = c.if-i-self-2.true ∙ sym (used_length q.self.set.now q.self.size c.args.self.small) in
    rw (c.put_text-then-i-self-2.ensures, c.clear.ensures) (blank_next q.self.known s (wires_in q.self.count q.self.wires.now) q.j c.if-j-eq0.false last)

pub returns-then-i-self-2-clause-there : goal.returns-then-i-self-2-clause-there
returns-then-i-self-2-clause-there c =
    let q = c.args in
    let size = used_length q.self.set.now q.self.size c.args.self.small in
    let long = typed_length q.self.known (take q.self.size (places q.self.set.now)) (wires_in q.self.count q.self.wires.now) in
    told_yes (omega arith)

pub returns-in_default-clause-text : goal.returns-in_default-clause-text
returns-in_default-clause-text c =
    let q = c.args in
    let s = take q.self.size (places q.self.set.now) in
    let i = q.j - 1 - q.self.size - 1 in
    let long : length s ≡ q.self.size = used_length q.self.set.now q.self.size c.args.self.small in
    let at : q.j - 1 ≡ length s + suc i = omega (arith, c.if-i-self.false, c.if-i-self-2.false) in
    let number : 0 ≡ left_of q.self.known q.self.size i = rw c.in_default.is at c.left_of.ensures.number in
    let is : 0 ≡ left_of q.self.known (length s) i = rw long number in
    c.clear.ensures ∙ none_next q.self.known s (wires_in q.self.count q.self.wires.now) q.j i 0 c.if-j-eq0.false at is refl

pub returns-in_default-clause-there : goal.returns-in_default-clause-there
returns-in_default-clause-there c =
    let q = c.args in
    let s = take q.self.size (places q.self.set.now) in
    let i = q.j - 1 - q.self.size - 1 in
    let size : length s ≡ q.self.size = used_length q.self.set.now q.self.size c.args.self.small in
    let number : 0 ≡ left_of q.self.known q.self.size i = rw c.in_default.is at c.left_of.ensures.number in
    let is : 0 ≡ left_of q.self.known (length s) i = rw size number in
    let past = left_none q.self.known (length s) i (sym is) in
    let long = typed_length q.self.known s (wires_in q.self.count q.self.wires.now) in
    told_no (omega (arith, c.if-i-self.false, c.if-i-self-2.false))

pub returns-clause-text : goal.returns-clause-text
returns-clause-text c =
    let q = c.args in
    let s = take q.self.size (places q.self.set.now) in
    let i = q.j - 1 - q.self.size - 1 in
    let long : length s ≡ q.self.size = used_length q.self.set.now q.self.size c.args.self.small in
    let at : q.j - 1 ≡ length s + suc i = omega (arith, c.if-i-self.false, c.if-i-self-2.false) in
    let l = c.in-Some.l in
    let number : l ≡ left_of q.self.known q.self.size i = rw c.in-Some.is at c.left_of.ensures.number in
    let is : l ≡ left_of q.self.known (length s) i = rw long number in
    let within = rw c.in-Some.is at c.left_of.ensures.within in
    c.derivative_line.ensures ∙ derivative_next q.self.known s (wires_in q.self.count q.self.wires.now) q.j i l c.if-j-eq0.false at is (λ z. omega (arith, within.0))

pub returns-clause-there : goal.returns-clause-there
returns-clause-there c =
    let q = c.args in
    let s = take q.self.size (places q.self.set.now) in
    let i = q.j - 1 - q.self.size - 1 in
    let size : length s ≡ q.self.size = used_length q.self.set.now q.self.size c.args.self.small in
    let number : c.in-Some.l ≡ left_of q.self.known q.self.size i = rw c.in-Some.is at c.left_of.ensures.number in
    let is : c.in-Some.l ≡ left_of q.self.known (length s) i = rw size number in
    let within = rw c.in-Some.is at c.left_of.ensures.within in
    let here = left_here q.self.known (length s) i (λ g. let z : c.in-Some.l ≡ 0 = is ∙ g in omega (arith, within.0)) in
    let long = typed_length q.self.known s (wires_in q.self.count q.self.wires.now) in
    told_yes (omega (arith, c.if-i-self.false, c.if-i-self-2.false))
