use Rattle.std.proofs.Common.{◌∙◌}
use Rattle.nm_sessions.proofs.Tables.{key_tells}
use Rattle.nm_sessions.proofs.sessions.Sessions.is_open.Goals as goal

pub returns : goal.returns
returns c = rw (← c.self.view_is) (c.is_some.ensures
    ∙ key_tells c.self.inside.table.slots c.self.inside.last c.key_of.result c.args.session c.self.invariant c.key_of.ensures.found c.key_of.ensures.absent)
