use Rattle.nm_sessions.proofs.Tables.{table_of}
use Rattle.nm_sessions.proofs.sessions.Sessions.count.Goals as goal

pub returns-clause-table : goal.returns-clause-table
returns-clause-table c = rw (← c.self.view_is) (table_of c.self.inside.table.slots c.self.inside.last c.self.invariant)
