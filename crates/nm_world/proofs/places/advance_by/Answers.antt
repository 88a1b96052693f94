use Rattle.nm_world.proofs.Clocks.{later_within}
use Rattle.nm_world.proofs.places.advance_by.Goals as goal

pub returns-clause-clock : goal.returns-clause-clock
returns-clause-clock g c =
    later_within (g.C.Content.meaning c.args.content.now) c.args.device.now c.advance.new.self c.args.seconds c.in_ok-undone.ensures.advanced.1
