use Rattle.std.proofs.Common.{◌≡◌, length}
use Rattle.nm_path.specs.Spelling.{predicate_of}
use Rattle.nm_path.proofs.choice.predicate_of.Given as goal

abbrev pub invariant-predicates : goal.invariant-predicates
invariant-predicates l = predicate_of l.rest l.key ≡ predicate_of l.predicates l.key

abbrev pub decreases-predicates : goal.decreases-predicates
decreases-predicates l = length l.rest
