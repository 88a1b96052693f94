use Rattle.nm_manager.proofs.Queues.{comes_once, came_before}
use Rattle.nm_manager.proofs.journal_queues.follow.Goals as goal

pub submit-requires-clause-once : goal.submit-requires-clause-once
submit-requires-clause-once c = comes_once c.args._before.now c.args.order.now c.args.entry.now c.in-Started.change c.in-Started.devices c.in-Started.timeout c.requires.queues c.in-Started.is c.requires.may

pub finish-requires-clause-submitted : goal.finish-requires-clause-submitted
finish-requires-clause-submitted c = came_before c.args._before.now c.args.order.now c.args.entry.now c.in-Ended.change c.in-Ended.kept c.requires.queues c.in-Ended.is c.requires.may
