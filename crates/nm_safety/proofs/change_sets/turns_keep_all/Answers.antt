use Rattle.nm_safety.proofs.Slots.{sent_holds, renewed_holds}
use Rattle.nm_safety.proofs.change_sets.turns_keep_all.Goals as goal

pub returns-clause-renewed : goal.returns-clause-renewed
returns-clause-renewed g c = λ change members decided entries slot devices plan device in_step of_journal all.
    renewed_holds change decided devices slot all members entries in_step of_journal plan device

pub returns-clause-sent : goal.returns-clause-sent
returns-clause-sent g c = λ change members decided entries slot devices plan device what in_step of_journal next all.
    sent_holds change decided devices slot all members entries in_step of_journal plan device what next
