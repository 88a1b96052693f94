use Rattle.std.proofs.Common.{◌≡◌, ◌++◌, length}
use Rattle.nm_explain.specs.Types as spec
use Rattle.nm_explain.proofs.types.put_others.Given as goal

abbrev pub invariant-names : goal.invariant-names
invariant-names l = l.out.items ++ spec.others_text l.rest ≡ l.initial.out.items ++ spec.others_text l.fn.names

abbrev pub decreases-names : goal.decreases-names
decreases-names l = length l.rest
