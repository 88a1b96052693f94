use Rattle.nm_safety.proofs.PairDelivered.{asked_pair, entered_pair}
use Rattle.nm_safety.proofs.device_side.deliveries_keep_pairs.Goals as goal

pub returns-clause-asked : goal.returns-clause-asked
returns-clause-asked g c = λ tables change decided seat wire number session request reply r h at d pair.
    asked_pair (g.C.Content.meaning c.args.content.now) (g.met.C.Content.laws c.args.content.now) tables change decided seat wire number r session h at pair request reply d

pub returns-clause-entered : goal.returns-clause-entered
returns-clause-entered g c = λ tables change decided seat wire number user reply r h d pair.
    entered_pair (g.C.Content.meaning c.args.content.now) tables change decided seat wire number r user h pair reply d
