use Rattle.nm_config.proofs.Maps.{empty_by_len}
use Rattle.nm_config.proofs.config.Config.is_empty.Goals as goal

pub returns : goal.returns
returns c = empty_by_len c.args.self.now c.len.result c.len.ensures
