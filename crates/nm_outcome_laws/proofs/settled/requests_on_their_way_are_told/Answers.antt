use Rattle.nm_safety.proofs.Tells.{safe_tells}
use Rattle.nm_outcome_laws.proofs.settled.Ways.{told_unsettled}
use Rattle.nm_outcome_laws.proofs.settled.requests_on_their_way_are_told.Goals as goal

pub returns : goal.returns
returns g c = λ setting running events w safe.
    told_unsettled setting w (safe_tells (g.C.Content.meaning c.args.content.now) setting running events w safe)
