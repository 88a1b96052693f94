use Rattle.nm_device_laws.proofs.Openers.{managers_commit}
use Rattle.nm_device_laws.proofs.laws.reserved_tokens_are_the_managers.Goals as goal

pub returns : goal.returns
returns g c tables token running history legal reserved place session request entry at asks gives done =
    managers_commit (g.C.Content.meaning c.args.content.now) tables token reserved running history legal place session request entry at asks gives done
