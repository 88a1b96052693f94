use Rattle.std.proofs.Common.{◌∙◌, ◌++◌, ◌∷◌, [], List, Option, None, slice_index_or, ap}
use Rattle.std.proofs.lemmas.List.{replicate_more}
use Rattle.nm_schema_leafref.specs.declared.fault.PathFault.{PathFault}
use Rattle.nm_schema_leafref.proofs.Lists.{one_value}
use Rattle.nm_schema_leafref.proofs.fault.no_faults.Goals as goal

pub loop-preserved : goal.loop-preserved
loop-preserved c = c.in_ok-push.ensures.items ∙ ap (λ (l : List (Option PathFault)). l ++ None ∷ []) c.loop.invariant ∙ replicate_more c.loop.counter None

pub returns-clause-none : goal.returns-clause-none
returns-clause-none c = λ p. ap (λ (l : List (Option PathFault)). slice_index_or l p None) c.loop.invariant ∙ one_value c.loop.counter p None
