use Rattle.nm_audit.proofs.Decided.{ends_decided}
use Rattle.nm_audit.proofs.laws.ended_as_decided.Goals as goal

pub returns : goal.returns
returns g c a tables devices changes agree board n place slot cell line at there stands member high legal =
    ends_decided (g.C.Content.meaning c.args.content.now) tables a devices changes agree board n place slot cell line at there stands member high legal
