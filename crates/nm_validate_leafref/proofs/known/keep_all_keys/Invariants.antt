use Rattle.std.proofs.Common.{◌≡◌, map, drop}
use Rattle.nm_validate_rules.specs.Values.{key_in_entry}
use Rattle.nm_validate_leafref.specs.Kept.{with_values}
use Rattle.nm_validate_leafref.proofs.known.keep_all_keys.Given as goal

abbrev pub invariant-loop-entry : goal.invariant-loop-entry
invariant-loop-entry l =
    with_values l.at l.depth (key_in_entry l.schema l.at) l.kept (map (λ entry. entry.now) (drop l.entry-index l.entries))
    ≡ with_values l.at l.depth (key_in_entry l.schema l.at) l.fn.kept (map (λ entry. entry.now) l.entries)
