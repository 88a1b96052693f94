use Rattle.std.proofs.Common.{sym, ◌∙◌}
use Rattle.nm_proto.proofs.Events.{same_events}
use Rattle.nm_proto.proofs.plan.Event.same.Goals as goal

pub returns : goal.returns
returns c = (λ h. (same_events c.args.self.now c.args.other.now).0 (sym c.eq.ensures ∙ h), λ e. c.eq.ensures ∙ (same_events c.args.self.now c.args.other.now).1 e)
