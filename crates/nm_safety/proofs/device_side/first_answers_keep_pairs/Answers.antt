use Rattle.std.proofs.Common.{refl}
use Rattle.nm_proto.specs.declared.message.Reply.TheVariants.{Done, Opened}
use Rattle.nm_safety.proofs.Answered.{opened_by, locked_by}
use Rattle.nm_safety.proofs.device_side.first_answers_keep_pairs.Goals as goal

pub returns-clause-opened : goal.returns-clause-opened
returns-clause-opened g c = λ change decided seat wire request id entry before after out opens pair.
    opened_by change decided seat wire 1 request (Opened id) out refl before after entry opens.plainly.history opens.plainly.token pair id refl opens.fresh opens.plainly.session

pub returns-clause-locked : goal.returns-clause-locked
returns-clause-locked g c = λ change decided seat wire request session entry before after out is at locks pair.
    locked_by change decided seat wire 1 request Done out refl before after entry locks.history locks.token pair session at is refl locks.takes
