use Rattle.std.proofs.Common.{◌-◌, arith}
use Rattle.std.specs.Int.{w64}
use Rattle.nm_base.proofs.Masks.{without_is}
use Rattle.nm_base.proofs.mask.ChangeMask.without.Goals as goal

pub returns : goal.returns
returns c = without_is w64 c.args.self.0 (c.get.result - 1) c.args.change (omega arith) (omega arith) (omega arith) (omega arith)
