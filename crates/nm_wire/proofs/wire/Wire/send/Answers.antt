use Rattle.nm_wire.proofs.Links.{stays_sound, sent_closed}
use Rattle.nm_wire.proofs.wire.Wire.send.Goals as goal

pub invariant_of-self : goal.invariant_of-self
invariant_of-self c =
    stays_sound c.self.inside.links.items _ c.self.inside.closed c.index_mut.result.now c.send.new.self c.index_mut.ensures.value
    (sent_closed c.send.result c.args.request c.index_mut.result.now c.send.new.self c.send.ensures.sent c.send.ensures.unchanged) c.self.invariant
