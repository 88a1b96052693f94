use Rattle.nm_json.proofs.Least.{rows_law}
use Rattle.nm_json.proofs.laws.all_rows.Goals as goal

pub returns : goal.returns
returns c = rows_law
