-- `put_hex` meets its contract: the kit's digits, in just so many places. Assumes nothing.
use Rattle.std.proofs.Common.{length, ap, arith, length-append}
use Rattle.lines.proofs.case.Laws.{hex_places}
use Rattle.lines.proofs.case.put_hex.Goals as goal

pub put_text-requires : goal.put_text-requires
put_text-requires c =
    let p = c.requires in
    let made = c.hex-k.ensures in
    let all = hex_places _ _ _ p.some p.few p.fits made.len in
    omega (arith, made.in_bounds.1)

pub returns-clause-text : goal.returns-clause-text
returns-clause-text c =
    let p = c.requires in
    let made = c.hex-k.ensures in
    let all = hex_places _ _ _ p.some p.few p.fits made.len in
    rw (made.digits, all) at c.put_text.ensures

pub returns-clause-long : goal.returns-clause-long
returns-clause-long c =
    let p = c.requires in
    let made = c.hex-k.ensures in
    let all = hex_places _ _ _ p.some p.few p.fits made.len in
    omega (arith, simp length-append at (ap length c.put_text.ensures), made.in_bounds.1)
