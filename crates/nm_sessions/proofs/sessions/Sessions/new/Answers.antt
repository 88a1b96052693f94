use Rattle.nm_sessions.specs.Table.{users_in}
use Rattle.nm_sessions.proofs.Tables.{empty_sound}
use Rattle.nm_sessions.proofs.sessions.Sessions.new.Goals as goal

pub invariant_of-result : goal.invariant_of-result
invariant_of-result c = rw c.new.ensures.empty (empty_sound 0)

pub returns : goal.returns
unfolding users_in
returns c = rw c.new.ensures.empty
