use Rattle.nm_schema_keys.specs.Kept.{members_at}
use Rattle.nm_schema_keys.proofs.Keeping.{keeps_none}
use Rattle.nm_schema_keys.proofs.finder.Finder.make_room.Goals as goal

pub invariant_of-self-2 : goal.invariant_of-self-2
invariant_of-self-2 c = (c.self.invariant.0, keeps_none (members_at c.self.inside.shape.now.rows c.self.inside.shape.now.groupings) c.clear.new.self c.clear.ensures.empty, c.self.invariant.2)
