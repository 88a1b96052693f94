use Rattle.std.proofs.Common.{◌≡◌, Some}
use Rattle.nm_partial.specs.Partial.{PartialState, next_id}
use Rattle.nm_partial.proofs.Numbered.{numbered-next}
use Rattle.nm_partial.proofs.locks.PartialLocks.grant.Goals as goal

pub invariant_of-self-2 : goal.invariant_of-self-2
invariant_of-self-2 g c =
    let partials : PartialState g.row.C-Node.Denot = record { locks = c.self.inside.locks.items; last = c.self.inside.last } in
    let next : next_id partials ≡ Some c.in-Some-id_after.id = cc in
    numbered-next partials c.args.session c.in-Some-id_after.id c.args.nodes.items c.push.new.self.items c.self.invariant next c.in_ok-push.ensures.items
