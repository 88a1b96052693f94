use Rattle.std.proofs.Common.{◌≤◌, List, length, take, subst}
use Rattle.nm_wire.specs.Link.{LinkState}
use Rattle.nm_wire.specs.Wire.{AreClosed}
use Rattle.nm_wire.proofs.Links.{stays_sound, closed_closed}
use Rattle.nm_wire.proofs.wire.Wire.drop_link.Goals as goal

pub invariant_of-self : goal.invariant_of-self
invariant_of-self c =
    let stays = stays_sound c.self.inside.links.items _ c.self.inside.closed c.index_mut.result.now c.close.new.self c.index_mut.ensures.value
    (closed_closed c.index_mut.result.now c.close.new.self c.close.ensures) c.self.invariant in
    let front = c.first_open-self-inside.result in (
      stays.0,
      subst (λ (links : List LinkState). front ≤ length links) c.as_slice.ensures.value c.first_open-self-inside.ensures.within,
      subst (λ (links : List LinkState). AreClosed (take front links)) c.as_slice.ensures.value c.first_open-self-inside.ensures.closed,
    )
