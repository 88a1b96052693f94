use Rattle.std.proofs.Common.{◌≡◌, drop}
use Rattle.nm_yang.specs.Module.{any_says_1_1}
use Rattle.nm_yang.proofs.text.any_says_1_1.Given as goal

abbrev pub invariant-loop-statement : goal.invariant-loop-statement
invariant-loop-statement l = any_says_1_1 (drop l.statement-index l.statements) ≡ any_says_1_1 l.statements
