use Rattle.std.proofs.Common.{rules}
use Rattle.std.proofs.lemmas.Map.Made.{filter_same_pairs}
use Rattle.nm_config.specs.Under.{row_is_outside}
use Rattle.nm_config.proofs.config.keep_outside.Goals as goal

pub returns : goal.returns
returns c = filter_same_pairs _ (row_is_outside c.args.node.now) _ (λ k v b w f' t. search rules) _ _ c.retain.ensures.filtered
