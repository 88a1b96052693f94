use Rattle.nm_device_laws.proofs.Lasting.{tokens_last}
use Rattle.nm_device_laws.proofs.laws.tokens_outlive_sessions.Goals as goal

pub returns : goal.returns
returns g c tables token running history legal = tokens_last (g.C.Content.meaning c.args.content.now) tables token running history legal
