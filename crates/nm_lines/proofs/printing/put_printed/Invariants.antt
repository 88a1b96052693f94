use Rattle.std.proofs.Common.{◌≡◌, ◌++◌, length}
use Rattle.nm_lines.specs.Printed.{printed_behind}
use Rattle.nm_lines.proofs.printing.put_printed.Given as goal

abbrev pub invariant-loop-rest : goal.invariant-loop-rest
invariant-loop-rest l = l.out.items ++ printed_behind l.done l.rest ≡ l.initial.out.items ++ printed_behind 0 l.fn.text

abbrev pub decreases-loop-rest : goal.decreases-loop-rest
decreases-loop-rest l = length l.rest
