use Rattle.nm_flat.proofs.MarkLemmas.{no_marks}
use Rattle.nm_flat.proofs.flat.FlatConfig.new.Goals as goal

pub invariant_of-result : goal.invariant_of-result
invariant_of-result c = no_marks c.new.result c.new.ensures
