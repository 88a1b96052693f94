use Rattle.std.proofs.Common.{◌+◌, arith}
use Rattle.std.specs.Int.{w64, trailing_zeros}
use Rattle.nm_base.proofs.Masks.{least_if}
use Rattle.nm_base.proofs.mask.ChangeMask.first.Goals as goal

pub returns-clause-least : goal.returns-clause-least
returns-clause-least c = least_if w64 c.args.self.0 (trailing_zeros w64 c.args.self.0 + 1) c.new.result (λ h. c.if-self-eq0.false h) (omega arith) (omega arith) c.new.ensures.value
