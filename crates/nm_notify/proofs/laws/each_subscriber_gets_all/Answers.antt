use Rattle.nm_notify.proofs.Gets.{gets_all}
use Rattle.nm_notify.proofs.laws.each_subscriber_gets_all.Goals as goal

pub returns : goal.returns
returns g c tables s stream n left acts there stays =
    gets_all (g.C.Content.meaning c.args.content.now) tables n s stream left acts there stays
