use Rattle.std.proofs.Common.{◌≡◌, false, ◌++◌, ◌∷◌, [], sym, ◌∙◌, ap, subst, arith, length-append, lit<}
use Rattle.std.specs.List.{list_any}
use Rattle.nm_order.specs.Queue.{is_of, IsOnce}
use Rattle.nm_order.specs.declared.ticket.Ticket.{Ticket}
use Rattle.nm_order.proofs.Once.{once_push, at_most}
use Rattle.nm_order.proofs.order.Order.submit.Goals as goal

pub push-requires : goal.push-requires
push-requires c =
    let tickets = c.self.inside.tickets.items in
    let ticket : Ticket = record { change = c.args.change; devices = c.args.devices } in
    let absent : list_any (is_of c.args.change) tickets ≡ false = ap (λ order. list_any (is_of c.args.change) order.tickets) c.self.view_is ∙ c.requires.once in
    let once = once_push tickets ticket c.self.invariant (omega arith) (omega arith) absent in
    (lit< tt, omega (arith, at_most (tickets ++ ticket ∷ []) once, length-append tickets (ticket ∷ [])))

pub invariant_of-self : goal.invariant_of-self
invariant_of-self c =
    let tickets = c.self.inside.tickets.items in
    let ticket : Ticket = record { change = c.args.change; devices = c.args.devices } in
    let absent : list_any (is_of c.args.change) tickets ≡ false = ap (λ order. list_any (is_of c.args.change) order.tickets) c.self.view_is ∙ c.requires.once in
    subst IsOnce (sym c.push.ensures.items) (once_push tickets ticket c.self.invariant (omega arith) (omega arith) absent)
