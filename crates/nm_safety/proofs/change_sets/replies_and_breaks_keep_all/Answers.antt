use Rattle.nm_safety.proofs.Slots.{received_holds, broken_holds, forgotten_holds, anew_holds}
use Rattle.nm_safety.proofs.change_sets.replies_and_breaks_keep_all.Goals as goal

pub returns-clause-handled : goal.returns-clause-handled
returns-clause-handled g c = λ change members decided entries slot devices device link number in_step of_journal all.
    received_holds change decided devices slot all members entries in_step of_journal device link number

pub returns-clause-broken : goal.returns-clause-broken
returns-clause-broken g c = λ change members decided entries slot devices device in_step of_journal all.
    broken_holds change decided devices slot all members entries in_step of_journal device

pub returns-clause-forgotten : goal.returns-clause-forgotten
returns-clause-forgotten g c = λ change members decided found entries slot devices in_step of_journal all.
    forgotten_holds change decided devices slot all members entries in_step of_journal found

pub returns-clause-anew : goal.returns-clause-anew
returns-clause-anew g c = λ change members decided entries slot devices in_step of_journal none all.
    anew_holds change decided devices slot all members entries in_step of_journal none
