use Rattle.nm_safety.proofs.PairSteps.{sent_stays, renewed_stays}
use Rattle.nm_safety.proofs.pair_laws.requests_go_out.Goals as goal

pub returns-clause-sent : goal.returns-clause-sent
returns-clause-sent c = λ change devices entries slot plan device what in_step planned next.
    let out = sent_stays change devices entries slot in_step plan planned device what next in (out.stays, out.sent)

pub returns-clause-renewed : goal.returns-clause-renewed
returns-clause-renewed c = λ change devices entries slot plan device in_step planned numbered may.
    let out = renewed_stays change devices entries slot in_step plan planned device numbered may in (out.stays, out.sent)
