use Rattle.std.proofs.Common.{length, ap}
use Rattle.nm_validate_places.proofs.Tabled.{choices_are}
use Rattle.nm_validate_places.proofs.tables.by_choice.Goals as goal

pub returns : goal.returns
returns c = choices_are c.args.schema.now (length c.choices.result.now) c.in_ok-groups.groups.items (ap length c.choices.ensures) c.in_ok-groups.ensures
