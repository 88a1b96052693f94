use Rattle.std.proofs.Common.{is_some, sym, ap}
use Rattle.nm_sessions.specs.Table.{users_in}
use Rattle.nm_sessions.proofs.Tables.{is_found, nowhere_found, take_sound, take_users, without_absent}
use Rattle.nm_sessions.proofs.sessions.Sessions.leave.Goals as goal

pub invariant_of-self : goal.invariant_of-self
invariant_of-self c = let found = c.in-Some.ensures.found in
    take_sound c.self.inside.table c.remove.new.self c.in-Some.key c.self.inside.last c.self.invariant c.args.session found.0 found.1 c.remove.ensures.updates c.remove.ensures.len

pub returns-in-Some-clause-answer : goal.returns-in-Some-clause-answer
returns-in-Some-clause-answer c = let found = c.in-Some.ensures.found in
    rw (← c.self.view_is) (ap is_some (sym (is_found c.self.inside.table.slots c.self.invariant.distinct c.in-Some.key c.args.session found.0 found.1)))

pub returns-in-Some-clause-after : goal.returns-in-Some-clause-after
returns-in-Some-clause-after c = let found = c.in-Some.ensures.found in
    let users = take_users c.self.inside.table c.remove.new.self c.in-Some.key c.self.inside.last c.self.invariant c.args.session found.0 found.1 c.remove.ensures.updates in
    rw (← c.self.view_is, users)

pub returns-in-None-clause-answer : goal.returns-in-None-clause-answer
returns-in-None-clause-answer c =
    rw (← c.self.view_is) (ap is_some (sym (nowhere_found c.self.inside.table.slots c.args.session c.in-None.ensures.absent)))

pub returns-in-None-clause-after : goal.returns-in-None-clause-after
returns-in-None-clause-after c =
    let none = nowhere_found c.self.inside.table.slots c.args.session c.in-None.ensures.absent in
    rw (← c.self.view_is, without_absent (users_in c.self.inside.table.slots) c.args.session none)
