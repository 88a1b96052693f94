use Rattle.std.proofs.Common.{◌≡◌, ◌++◌, take}
use Rattle.std.specs.List.{flat_map}
use Rattle.nm_yang.specs.Written.{spaced}
use Rattle.nm_yang.proofs.writing.+write.Given as goal

abbrev pub invariant-put_each-loop-statement : goal.invariant-put_each-loop-statement
invariant-put_each-loop-statement l = l.out.items ≡ l.initial.out.items ++ flat_map spaced (take l.statement-index l.statements)
