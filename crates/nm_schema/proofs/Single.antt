-- What modules give is one.
use Rattle.std.proofs.Common.{◌≡◌, List, Result, ap, sym, ◌∙◌}
use Rattle.nm_yang.specs.Tree.{Tree}
use Rattle.nm_schema_statements.specs.Rows.{rows_of}
use Rattle.nm_schema_tree.specs.Nodes.{SchemaTree}
use Rattle.nm_schema_faults.specs.declared.fault.Fault.{Fault}
use Rattle.nm_schema_faults.proofs.Single.{one_truth}
use Rattle.nm_schema.specs.Built.{Builds, built}

pub one_given : (modules : List Tree) (given other : Result SchemaTree Fault) → Builds modules given → Builds modules other → given ≡ other
one_given modules given other a b =
    let facts = one_truth (rows_of modules) a.facts b.facts a.facts_are b.facts_are in
    a.given_is ∙ ap (built (rows_of modules)) facts ∙ sym b.given_is
