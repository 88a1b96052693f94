use Rattle.std.proofs.Common.{◌≡◌, ◌++◌, drop}
use Rattle.nm_edit.specs.Edited.{gone}
use Rattle.nm_edit.proofs.clear.gone_of.Given as goal

abbrev pub invariant-loop-act : goal.invariant-loop-act
invariant-loop-act l = l.nodes.items ++ gone (drop l.act-index l.acts) ≡ gone l.acts
