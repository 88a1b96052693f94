use Rattle.std.proofs.Common.{◌≡◌, ◌-◌, ◌<◌, refl, arith, length}
use Rattle.nm_chronicle.proofs.Boards.{marked_out, marked_at}
use Rattle.nm_chronicle.proofs.chronicle.mark_line.Goals as goal

pub returns-in-Some : goal.returns-in-Some
returns-in-Some c =
    let at = c.in-Some.ensures in
    let inside = at.variant.0 refl in
    let within : c.get.result - 1 < length c.args.lines.now.items = omega (arith, inside) in
    marked_at c.args.lines.now.items c.get.result c.args.change c.args.mark.now c.in-Some.line.now c.take.new.self c.take.result c.get.ensures.value within at.value c.take.ensures.taken c.take.ensures.keeps c.requires.holds

pub returns-in-None : goal.returns-in-None
returns-in-None c =
    marked_out c.args.lines.now.items c.get.result c.args.change c.args.mark.now c.get.ensures.value (λ inside. c.in-None.ensures.variant.1 (omega (arith, inside))) c.requires.holds
