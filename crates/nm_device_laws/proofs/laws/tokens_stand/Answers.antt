use Rattle.nm_device_laws.proofs.Tokens.{token_kept}
use Rattle.nm_device_laws.proofs.laws.tokens_stand.Goals as goal

pub returns : goal.returns
returns g c s at token leaves = token_kept (g.C.Content.meaning c.args.content.now) at.tables token s at.event at.h at.happens leaves
