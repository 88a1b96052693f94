use Rattle.std.proofs.Common.{ap}
use Rattle.nm_proto.specs.declared.message.Reply.TheVariants.{Done}
use Rattle.nm_safety.specs.Told.{is_plain}
use Rattle.nm_safety.proofs.Told.{renewal_pair, confirm_pair, cancel_pair}
use Rattle.nm_safety.proofs.Answered.{told_plain, confirm_fits, cancel_fits}
use Rattle.nm_safety.proofs.device_side.follow_ups_keep_pairs.Goals as goal

pub returns-clause-renewed : goal.returns-clause-renewed
returns-clause-renewed g c = λ change decided seat wire number request before after out is renews pair.
    told_plain change decided seat wire number request Done out after (ap (λ a. is_plain a Done) is) (renewal_pair change decided seat wire before after renews pair)

pub returns-clause-confirmed : goal.returns-clause-confirmed
returns-clause-confirmed g c = λ change decided seat wire number request before after out is confirms pair.
    told_plain change decided seat wire number request Done out after (ap (λ a. is_plain a Done) is)
    (confirm_pair change decided seat wire before after confirms (confirm_fits change decided seat wire number request out before pair is) pair)

pub returns-clause-cancelled : goal.returns-clause-cancelled
returns-clause-cancelled g c = λ change decided seat wire number request before after out is cancels pair.
    told_plain change decided seat wire number request Done out after (ap (λ a. is_plain a Done) is)
    (cancel_pair change decided seat wire before after cancels (cancel_fits change decided seat wire number request out before pair is) pair)
