use Rattle.nm_sessions.specs.Table.{users_in}
use Rattle.nm_sessions.proofs.Tables.{empty_sound}
use Rattle.nm_sessions.proofs.sessions.Sessions.clear.Goals as goal

pub invariant_of-self : goal.invariant_of-self
invariant_of-self c = rw c.clear.ensures.empty (empty_sound _)

pub returns : goal.returns
unfolding users_in
returns c = rw (c.clear.ensures.empty, ← c.self.view_is)
