use Rattle.std.proofs.Common.{◌≡◌, take, map}
use Rattle.nm_schema_derive.specs.Kinds.{member_name}
use Rattle.nm_schema_derive.proofs.ordered.listed_names.Given as goal

-- the names so far
abbrev pub invariant-loop-member : goal.invariant-loop-member
invariant-loop-member l = l.names.items ≡ map member_name (take l.member-index l.members)
