use Rattle.std.proofs.Common.{◌≡◌, fold}
use Rattle.std.specs.FinMap.{empty}
use Rattle.nm_config.specs.Rows.{with_entries}
use Rattle.nm_json.specs.Places.{lesser}
use Rattle.nm_json.specs.Noted.{repeated}
use Rattle.nm_json.proofs.config.put_rows.Given as goal

-- what is left goes on from what was put
abbrev pub invariant-loop-path : goal.invariant-loop-path
invariant-loop-path l =
    (with_entries l.config l.path-iterator.rest.items ≡ with_entries empty l.fn.rows.items)
    × (fold lesser l.least (repeated l.config l.path-iterator.rest.items) ≡ fold lesser l.fn.least (repeated empty l.fn.rows.items))
