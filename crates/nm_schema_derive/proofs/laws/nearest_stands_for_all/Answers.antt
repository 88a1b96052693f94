use Rattle.nm_schema_derive.proofs.Nearness.{meets_all}
use Rattle.nm_schema_derive.proofs.laws.nearest_stands_for_all.Goals as goal

pub returns : goal.returns
returns c = record { meets_all = meets_all }
