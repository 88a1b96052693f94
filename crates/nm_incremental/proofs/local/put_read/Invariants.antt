use Rattle.std.proofs.Common.{◌≡◌, List, ◌++◌, map}
use Rattle.std.specs.Prelude.{filter}
use Rattle.nm_types.specs.Path.{PathStep}
use Rattle.nm_validate_rules.specs.Reads.{reads}
use Rattle.nm_incremental.specs.Read.{present}
use Rattle.nm_incremental.proofs.local.put_read.Given as goal

abbrev pub invariant-loop-path : goal.invariant-loop-path
invariant-loop-path l =
    l.all.items ++ map present (filter (λ (path : List PathStep). reads l.schema l.rule path l.row) l.path-iterator.rest.items)
    ≡ l.fn.all.items ++ map present (filter (λ (path : List PathStep). reads l.schema l.rule path l.row) l.fn.paths.items)
