use Rattle.nm_safety.proofs.Basics.{not_one}
use Rattle.nm_safety.proofs.Told.{plain_pair}
use Rattle.nm_safety.proofs.Answered.{told_plain, told_later}
use Rattle.nm_safety.proofs.device_side.answers_keep_pairs.Goals as goal

pub returns-clause-plain : goal.returns-clause-plain
returns-clause-plain g c = λ change decided seat wire number request reply entry before after out plain answers pair.
    told_plain change decided seat wire number request reply out after plain (plain_pair change decided seat wire before after entry answers pair)

pub returns-clause-later : goal.returns-clause-later
returns-clause-later g c = λ change decided seat wire number request reply entry before after out later answers pair.
    told_later change decided seat wire number request reply out after (not_one number later) (plain_pair change decided seat wire before after entry answers pair)
