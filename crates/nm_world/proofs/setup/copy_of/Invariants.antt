use Rattle.std.proofs.Common.{◌≡◌, take}
use Rattle.nm_world.proofs.setup.copy_of.Given as goal

-- the edits so far
abbrev pub invariant-loop-edit : goal.invariant-loop-edit
invariant-loop-edit l = l.edits ≡ take l.edit-index l.planned
