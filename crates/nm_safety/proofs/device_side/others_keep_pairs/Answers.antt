use Rattle.std.proofs.Common.{refl}
use Rattle.nm_base.specs.Token.{token_of}
use Rattle.nm_history.specs.History.{noted, recorded_with}
use Rattle.nm_device_laws.proofs.Keeping.{session_kept}
use Rattle.nm_device_laws.proofs.Tokens.{token_kept}
use Rattle.nm_safety.proofs.Moved.{moved_pair}
use Rattle.nm_safety.proofs.device_side.others_keep_pairs.Goals as goal

pub returns : goal.returns
returns g c = λ tables change decided seat wire event r h happens numbered opened others leaves pair.
    moved_pair change wire (noted event h) r (recorded_with r event h)
    (record {
      history = refl;
      opened = opened;
      session = λ session e. session_kept (g.C.Content.meaning c.args.content.now) tables r.device numbered session event h happens (others session e);
      token = token_kept (g.C.Content.meaning c.args.content.now) tables (token_of change) r.device event h happens leaves;
    })
    decided seat pair
