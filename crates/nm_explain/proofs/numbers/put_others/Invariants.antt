use Rattle.std.proofs.Common.{◌≡◌, ◌++◌, length}
use Rattle.nm_explain.specs.Numbers as spec
use Rattle.nm_explain.proofs.numbers.put_others.Given as goal

abbrev pub invariant-parts : goal.invariant-parts
invariant-parts l = l.out.items ++ spec.others_text l.numbers l.rest ≡ l.initial.out.items ++ spec.others_text l.numbers l.fn.parts

abbrev pub decreases-parts : goal.decreases-parts
decreases-parts l = length l.rest
