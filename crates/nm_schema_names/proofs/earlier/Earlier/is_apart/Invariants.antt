use Rattle.std.proofs.Common.{take}
use Rattle.nm_schema_names.specs.Clash.{AreApart, brought_by, has_part, parts}
use Rattle.nm_schema_names.proofs.earlier.Earlier.is_apart.Given as goal

abbrev pub invariant-loop-wide : goal.invariant-loop-wide
invariant-loop-wide l = AreApart (has_part l.known (parts l.self.names (take l.wide-index l.wide-items))) (brought_by l.known l.at)
