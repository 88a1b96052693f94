use Rattle.nm_validate_unique.proofs.Down.{way_at}
use Rattle.nm_validate_unique.proofs.unique.values_along.Goals as goal

pub value_in-requires-clause-down : goal.value_in-requires-clause-down
value_in-requires-clause-down g c = way_at c.args.schema.now c.args.ways.now c.loop-way.way-index c.way-item.result c.loop-way-test.true c.way-item.is c.requires.down
