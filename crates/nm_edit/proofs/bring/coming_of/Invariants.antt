use Rattle.std.proofs.Common.{◌≡◌, ◌++◌}
use Rattle.nm_edit.specs.Acts.{coming}
use Rattle.nm_edit.proofs.bring.coming_of.Given as goal

abbrev pub invariant-loop-act : goal.invariant-loop-act
invariant-loop-act l = l.rows.items ++ coming l.act-iterator.rest.items ≡ coming l.fn.acts.items
