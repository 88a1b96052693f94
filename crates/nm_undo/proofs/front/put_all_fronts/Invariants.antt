use Rattle.std.proofs.Common.{◌≡◌, drop}
use Rattle.std.specs.List.{flat_map}
use Rattle.nm_config.specs.Rows.{with_entries}
use Rattle.nm_undo.specs.Inverse.{fronts_of}
use Rattle.nm_undo.proofs.front.put_all_fronts.Given as goal

abbrev pub invariant-loop-path : goal.invariant-loop-path
invariant-loop-path l = with_entries l.nodes (flat_map (fronts_of l.schema) (drop l.path-index l.said)) ≡ with_entries l.fn.nodes (flat_map (fronts_of l.schema) l.said)
