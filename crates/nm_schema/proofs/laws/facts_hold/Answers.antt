use Rattle.nm_schema_statements.specs.Rows.{rows_of}
use Rattle.nm_schema.proofs.Known.{rows_laws}
use Rattle.nm_schema.proofs.FactsAre.{facts_are}
use Rattle.nm_schema.proofs.laws.facts_hold.Goals as goal

pub returns : goal.returns
returns c = λ modules. facts_are (rows_of modules) (rows_laws modules)
