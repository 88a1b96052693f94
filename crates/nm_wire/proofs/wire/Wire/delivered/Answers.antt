use Rattle.nm_wire.proofs.Links.{stays_sound, told_closed}
use Rattle.nm_wire.proofs.wire.Wire.delivered.Goals as goal

pub invariant_of-self : goal.invariant_of-self
invariant_of-self c =
    stays_sound c.self.inside.links.items _ c.self.inside.closed c.index_mut.result.now c.tell.new.self c.index_mut.ensures.value
    (told_closed c.args.reply c.index_mut.result.now c.tell.new.self c.tell.ensures) c.self.invariant
