use Rattle.std.proofs.Common.{ap, ◌∙◌}
use Rattle.nm_manager.specs.Queues.{is_ready_in}
use Rattle.nm_manager.proofs.Queues.{order_ready}
use Rattle.nm_manager.proofs.journal_queues.JournalQueues.is_ready.Goals as goal

pub returns-clause-value : goal.returns-clause-value
returns-clause-value c =
    c.is_ready.ensures ∙ order_ready c.self.inside.journal.entries c.self.inside.order c.args.change c.self.invariant.0
    ∙ ap (λ (journal_queues : _). is_ready_in journal_queues.entries c.args.change) c.self.view_is
