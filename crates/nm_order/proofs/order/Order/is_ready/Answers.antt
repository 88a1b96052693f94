use Rattle.std.proofs.Common.{[], sym, ap, ◌∙◌}
use Rattle.nm_order.specs.Queue.{is_ready}
use Rattle.nm_order.proofs.Finished.{not_ready}
use Rattle.nm_order.proofs.order.Order.is_ready.Goals as goal

pub returns-then-contains : goal.returns-then-contains
returns-then-contains c =
    sym (not_ready c.self.inside.finished.0 c.args.change (sym c.contains.ensures ∙ c.if-contains.true) [] c.self.inside.tickets.items)
    ∙ ap (λ order. is_ready order c.args.change) c.self.view_is
