use Rattle.nm_device_laws.proofs.Owns.{refused_same, tells_mark}
use Rattle.nm_device_laws.proofs.Tokens.{refused_kept}
use Rattle.nm_device_laws.proofs.laws.answers_change_nothing.Goals as goal

pub returns-clause-refused : goal.returns-clause-refused
returns-clause-refused g c s session request a refused = refused_same (g.C.Content.meaning c.args.content.now) a.tables s session request a.h a.happens refused

pub returns-clause-tokens : goal.returns-clause-tokens
returns-clause-tokens g c s session request a refused token = refused_kept (g.C.Content.meaning c.args.content.now) a.tables token s session request a.h a.happens refused

pub returns-clause-mark : goal.returns-clause-mark
returns-clause-mark g c s session change a = tells_mark (g.C.Content.meaning c.args.content.now) a.tables s session change a.h a.happens
