use Rattle.std.proofs.Common.{rules}
use Rattle.nm_order.specs.Queue.{share_device}
use Rattle.nm_order.proofs.queue.share_device.Goals as goal

pub returns : goal.returns
unfolding share_device
returns c = search rules
