use Rattle.nm_flat.proofs.Maps.{empty_by_len}
use Rattle.nm_flat.proofs.number_map.NumberMap.is_empty.Goals as goal

pub returns : goal.returns
returns g c = empty_by_len c.args.self.now c.len.result c.len.ensures
