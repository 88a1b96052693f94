use Rattle.std.proofs.Common.{◌∙◌, [], ap, subst, sym, length, take, ◌<◌, arith}
use Rattle.nm_journal.specs.Entries.{may_follow}
use Rattle.nm_order.specs.Queue.{OrderState}
use Rattle.nm_manager.specs.Queues.{IsOrderOf}
use Rattle.nm_manager.proofs.Queues.{no_order, follows_at}
use Rattle.nm_manager.proofs.journal_queues.order_of.Goals as goal

pub loop-place-init : goal.loop-place-init
loop-place-init c = subst (λ (order : OrderState). IsOrderOf [] order) (sym c.new-order.ensures) no_order

pub follow-requires-clause-may : goal.follow-requires-clause-may
follow-requires-clause-may c =
    let within : c.loop-place.place < length c.args.entries.now = omega arith in
    ap (may_follow (take c.loop-place.place c.args.entries.now)) c.index-entries-place.is
    ∙ follows_at [] c.args.entries.now c.loop-place.place c.index-entries-place.result within c.requires
