use Rattle.std.proofs.Common.{◌-◌, arith}
use Rattle.std.specs.Int.{w32}
use Rattle.nm_base.proofs.Masks.{with_is}
use Rattle.nm_base.proofs.mask.DeviceMask.with.Goals as goal

pub returns : goal.returns
returns c = with_is w32 c.args.self.0 c.from.result c.args.device (omega arith) (omega arith) (omega arith)
