use Rattle.std.proofs.Common.{refl}
use Rattle.nm_proto.specs.declared.message.Reply.TheVariants.{Done}
use Rattle.nm_safety.proofs.Answered.{committed_by}
use Rattle.nm_safety.proofs.device_side.commits_keep_pairs.Goals as goal

pub returns : goal.returns
returns g c = λ change decided seat wire request session before after out is at now begins pair.
    committed_by change decided seat wire 1 request Done out refl before after pair session at now is refl begins
