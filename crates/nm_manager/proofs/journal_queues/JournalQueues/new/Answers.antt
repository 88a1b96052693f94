use Rattle.std.proofs.Common.{List, [], subst, sym, ap}
use Rattle.nm_proto.specs.declared.journal.Entry.{Entry}
use Rattle.nm_journal.specs.Fits.{JournalState}
use Rattle.nm_order.specs.Queue.{OrderState}
use Rattle.nm_manager.specs.Queues.{IsOrderOf}
use Rattle.nm_manager.proofs.Queues.{no_order}
use Rattle.nm_manager.proofs.journal_queues.JournalQueues.new.Goals as goal

pub invariant_of-result : goal.invariant_of-result
invariant_of-result c = (
  subst (λ (entries : List Entry). IsOrderOf entries c.new.result) (sym (ap (λ (journal : JournalState). journal.entries) c.requires.empty))
      (subst (λ (order : OrderState). IsOrderOf [] order) (sym c.new.ensures) no_order),
  λ h. ap (λ (journal : JournalState). journal.failed) c.requires.empty,
)
