use Rattle.std.proofs.Common.{◌-◌, arith}
use Rattle.std.specs.Int.{w32}
use Rattle.nm_base.proofs.Masks.{without_is}
use Rattle.nm_base.proofs.mask.DeviceMask.without.Goals as goal

pub returns : goal.returns
returns c = without_is w32 c.args.self.0 c.from.result c.args.device (omega arith) (omega arith) (omega arith) (omega arith)
