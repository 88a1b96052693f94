use Rattle.std.proofs.Common.{◌≡◌, true, [], ◌∷◌, ◌++◌, sym, ap, subst, ◌∙◌}
use Rattle.nm_proto.specs.declared.journal.Entry.{Entry}
use Rattle.nm_journal.specs.Entries.{may_follow}
use Rattle.nm_order.specs.Queue.{OrderState}
use Rattle.nm_manager.specs.Queues.{IsOrderOf}
use Rattle.nm_manager.proofs.Queues.{comes_once, came_before, goes_once, order_follows, order_ended, order_decided}
use Rattle.nm_manager.proofs.Entered.{entered_sound}
use Rattle.nm_manager.proofs.journal_queues.JournalQueues.enter.Goals as goal

pub submit-requires-clause-once : goal.submit-requires-clause-once
submit-requires-clause-once g c =
    let may : may_follow c.self.inside.journal.entries c.args.entry ≡ true =
    sym (c.may_follow.ensures ∙ ap (λ l. may_follow l c.args.entry) c.entries.ensures.entries) ∙ c.if-not-may_follow.false in
    comes_once c.self.inside.journal.entries c.self.inside.order c.args.entry c.in-Started.change c.in-Started.devices c.in-Started.timeout c.self.invariant.0 c.in-Started.is may

pub finish-requires-clause-submitted : goal.finish-requires-clause-submitted
finish-requires-clause-submitted g c =
    let may : may_follow c.self.inside.journal.entries c.args.entry ≡ true =
    sym (c.may_follow.ensures ∙ ap (λ l. may_follow l c.args.entry) c.entries.ensures.entries) ∙ c.if-not-may_follow.false in
    came_before c.self.inside.journal.entries c.self.inside.order c.args.entry c.in-Ended.change c.in-Ended.kept c.self.invariant.0 c.in-Ended.is may

pub finish-requires-clause-unfinished : goal.finish-requires-clause-unfinished
finish-requires-clause-unfinished g c =
    let may : may_follow c.self.inside.journal.entries c.args.entry ≡ true =
    sym (c.may_follow.ensures ∙ ap (λ l. may_follow l c.args.entry) c.entries.ensures.entries) ∙ c.if-not-may_follow.false in
    goes_once c.self.inside.journal.entries c.self.inside.order c.args.entry c.in-Ended.change c.in-Ended.kept c.self.invariant.0 c.in-Ended.is may

pub invariant_of-self : goal.invariant_of-self
invariant_of-self g c =
    let entries = c.self.inside.journal.entries in
    let may : may_follow entries c.args.entry ≡ true = sym (c.may_follow.ensures ∙ ap (λ l. may_follow l c.args.entry) c.entries.ensures.entries) ∙ c.if-not-may_follow.false in
    let follows = order_follows entries c.self.inside.order c.args.entry c.in-Started.change c.in-Started.devices c.in-Started.timeout c.self.invariant.0 c.in-Started.is may in
    entered_sound c.append.new.self entries c.self.inside.journal.failed c.args.entry c.submit.new.self c.in-Ok.ensures.added c.self.invariant.1
    (subst (λ (order : OrderState). IsOrderOf (entries ++ c.args.entry ∷ []) order) (sym c.submit.ensures) follows)

pub invariant_of-self-in-Ended : goal.invariant_of-self-in-Ended
invariant_of-self-in-Ended g c =
    let entries = c.self.inside.journal.entries in
    let ended = order_ended entries c.self.inside.order c.finish.new.self c.in-Ended.change c.in-Ended.kept c.finish.ensures.finished c.finish.ensures.others c.self.invariant.0 in
    entered_sound c.append.new.self entries c.self.inside.journal.failed c.args.entry c.finish.new.self c.in-Ok.ensures.added c.self.invariant.1
    (subst (λ (entry : Entry). IsOrderOf (entries ++ entry ∷ []) c.finish.new.self) (sym c.in-Ended.is) ended)

pub invariant_of-self-in-Decided : goal.invariant_of-self-in-Decided
invariant_of-self-in-Decided g c =
    let entries = c.self.inside.journal.entries in
    let decided = order_decided entries c.self.inside.order c.in-Decided.change c.in-Decided.verdict c.self.invariant.0 in
    entered_sound c.append.new.self entries c.self.inside.journal.failed c.args.entry c.self.inside.order c.in-Ok.ensures.added c.self.invariant.1
    (subst (λ (entry : Entry). IsOrderOf (entries ++ entry ∷ []) c.self.inside.order) (sym c.in-Decided.is) decided)
