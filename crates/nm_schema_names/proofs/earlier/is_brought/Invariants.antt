use Rattle.std.proofs.Common.{◌≡◌, drop}
use Rattle.std.specs.List.{list_any}
use Rattle.nm_schema_names.specs.Clash.{brings}
use Rattle.nm_schema_names.proofs.earlier.is_brought.Given as goal

abbrev pub invariant-loop-at : goal.invariant-loop-at
invariant-loop-at l = list_any (brings l.known l.name) (drop l.at-index l.wide) ≡ list_any (brings l.known l.name) l.wide
