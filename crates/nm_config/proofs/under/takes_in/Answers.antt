use Rattle.nm_types.specs.Chosen.{choice_of}
use Rattle.nm_config.proofs.Steps.{taken_same}
use Rattle.nm_config.proofs.under.takes_in.Goals as goal

pub returns-else-is_whole : goal.returns-else-is_whole
returns-else-is_whole c = taken_same (choice_of c.args.chosen.now) (choice_of c.args.other.now) _ _ c.is_whole.ensures c.if-is_whole.false c.same.ensures
