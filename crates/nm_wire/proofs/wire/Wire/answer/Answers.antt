use Rattle.nm_wire.proofs.Links.{stays_sound, handled_closed}
use Rattle.nm_wire.proofs.wire.Wire.answer.Goals as goal

pub invariant_of-self : goal.invariant_of-self
invariant_of-self c =
    stays_sound c.self.inside.links.items _ c.self.inside.closed c.index_mut.result.now c.handle.new.self c.index_mut.ensures.value
    (handled_closed c.index_mut.result.now c.handle.new.self c.handle.ensures) c.self.invariant
