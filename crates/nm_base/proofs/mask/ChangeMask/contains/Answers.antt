use Rattle.std.proofs.Common.{◌-◌, arith}
use Rattle.nm_base.proofs.Masks.{contains_is}
use Rattle.nm_base.proofs.mask.ChangeMask.contains.Goals as goal

pub returns : goal.returns
returns c = contains_is c.args.self.0 (c.get.result - 1) c.args.change (omega arith)
