use Rattle.nm_schema_uses.specs.Config.{is_state}
use Rattle.nm_schema_keys.specs.Kept.{members_at}
use Rattle.nm_schema_keys.proofs.Keeping.{keeps_none}
use Rattle.nm_schema_keys.proofs.finder.Finder.new.Goals as goal

pub invariant_of-result : goal.invariant_of-result
invariant_of-result c = (c.requires, keeps_none (members_at c.args.shape.now.rows c.args.shape.now.groupings) c.new.result c.new.ensures.empty, keeps_none (is_state c.args.shape.now.rows) c.new-2.result c.new-2.ensures.empty)
