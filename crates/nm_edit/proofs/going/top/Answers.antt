use Rattle.std.proofs.Common.{[], ◌∷◌, ◌++◌, ap, ◌∙◌}
use Rattle.nm_edit.specs.Edited.{all_without}
use Rattle.nm_edit.proofs.Nodes.{nothing_left}
use Rattle.nm_edit.proofs.going.top.Goals as goal

pub returns : goal.returns
returns c = λ rows others. ap (all_without rows) (c.in_ok-push.ensures.items ∙ (λ i. c.new-nodes.ensures.items i ++ c.new.ensures.items i ∷ [])) ∙ nothing_left rows others
