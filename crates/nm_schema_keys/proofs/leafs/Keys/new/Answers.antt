use Rattle.std.proofs.Common.{refl}
use Rattle.nm_schema_keys.specs.Leafs.{HasSame}
use Rattle.nm_schema_keys.proofs.leafs.Keys.new.Goals as goal

pub invariant_of-result : goal.invariant_of-result
unfolding HasSame
invariant_of-result c = λ i. rw (c.new.ensures.items, c.new-2.ensures.empty) refl
