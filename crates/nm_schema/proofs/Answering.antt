-- What is answered.
use Rattle.std.proofs.Common.{List, Result, Ok, Err, sym}
use Rattle.nm_schema_statements.specs.declared.row.Row.{Row}
use Rattle.nm_schema_tree.specs.Nodes.{SchemaTree}
use Rattle.nm_schema_faults.specs.Facts.{Facts, AreFacts}
use Rattle.nm_schema.specs.declared.fault.SchemaFault.{SchemaFault}
use Rattle.nm_schema.specs.declared.fault.SchemaFault.TheVariants as schema
use Rattle.nm_schema.specs.Built.{built, Gives, Answered}

pub answered : (rows : List Row) (facts : Facts) (answer : Result SchemaTree SchemaFault) → AreFacts rows facts → Gives answer (built rows facts) → Answered rows answer
answered rows facts (Ok t) are gives = record { facts = facts; facts_are = are; given_is = sym gives }
answered rows facts (Err (schema.Flawed f m place)) are gives = record { facts = facts; facts_are = are; given_is = sym gives }
answered rows facts (Err (schema.TooLarge m place)) are gives = record { facts = facts; facts_are = are; given_is = sym gives }
answered rows facts (Err schema.NoMemory) are gives = tt
