use Rattle.std.proofs.Common.{◌≡◌, ◌≤◌, ◌∙◌, ap, length, take, arith}
use Rattle.std.proofs.lemmas.List.{length-map}
use Rattle.nm_wire.specs.Link.{closed_link, greatest_number}
use Rattle.nm_wire.specs.Wire.{AreClosed}
use Rattle.nm_wire.proofs.Changed.{closed_now}
use Rattle.nm_wire.proofs.wire.Wire.restart.Goals as goal

pub invariant_of-self : goal.invariant_of-self
invariant_of-self c =
    let e = c.close_from.ensures in
    let long : length c.close_from.new.links.items ≡ length c.self.inside.links.items = ap length e ∙ length-map c.self.inside.links.items closed_link in
    let held : length c.self.inside.links.items ≤ greatest_number = c.self.invariant.0 in
    let closed : AreClosed (take c.len-self-inside.result c.close_from.new.links.items) = rw e (closed_now c.len-self-inside.result c.self.inside.links.items) in
    (omega (arith, long, held), omega (arith, c.len-self-inside.ensures), closed)
