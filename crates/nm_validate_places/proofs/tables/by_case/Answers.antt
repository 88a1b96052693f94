use Rattle.std.proofs.Common.{length, ap}
use Rattle.nm_validate_places.proofs.Tabled.{cases_are}
use Rattle.nm_validate_places.proofs.tables.by_case.Goals as goal

pub returns : goal.returns
returns c = cases_are c.args.schema.now (length c.cases.result.now) c.in_ok-groups.groups.items (ap length c.cases.ensures) c.in_ok-groups.ensures
