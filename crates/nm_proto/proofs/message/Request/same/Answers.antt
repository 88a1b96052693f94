use Rattle.std.proofs.Common.{sym, ◌∙◌}
use Rattle.nm_proto.proofs.Requests.{same_requests}
use Rattle.nm_proto.proofs.message.Request.same.Goals as goal

pub returns : goal.returns
returns c = (λ h. (same_requests c.args.self.now c.args.other.now).0 (sym c.eq.ensures ∙ h), λ e. c.eq.ensures ∙ (same_requests c.args.self.now c.args.other.now).1 e)
