use Rattle.std.proofs.Common.{◌-◌, arith}
use Rattle.nm_base.proofs.Masks.{contains_is}
use Rattle.nm_base.proofs.mask.DeviceMask.contains.Goals as goal

pub returns : goal.returns
returns c = contains_is c.args.self.0 c.from.result c.args.device (omega arith)
