use Rattle.std.proofs.Common.{◌≡◌, length}
use Rattle.nm_access.specs.Rule.{matches_operation}
use Rattle.nm_access.specs.Judged.{first_of}
use Rattle.nm_access.proofs.access.first_operation_of.Given as goal

abbrev pub invariant-lists : goal.invariant-lists
invariant-lists l = first_of (matches_operation l.name) l.groups l.user l.rest ≡ first_of (matches_operation l.name) l.groups l.user l.lists

abbrev pub decreases-lists : goal.decreases-lists
decreases-lists l = length l.rest
