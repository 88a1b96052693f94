use Rattle.std.proofs.Common.{◌≡◌, ◌+◌, ◌<◌, ap, ◌∙◌, arith}
use Rattle.slab.specs.Slab.{slab_len}
use Rattle.nm_sessions.specs.Sessions.{session_limit}
use Rattle.nm_sessions.specs.Table.{IsSound}
use Rattle.nm_sessions.proofs.Tables.{put_sound, put_users, above_last, next_is}
use Rattle.nm_sessions.proofs.sessions.Sessions.enter.Goals as goal

-- the room that was taken changes no slot
pub invariant_of-self-2 : goal.invariant_of-self-2
invariant_of-self-2 c =
    let kept = ap (λ s. s.slots) c.reserve.ensures.rest_kept in
    let sound : IsSound c.reserve.new.self.slots c.self.inside.last = rw kept c.self.invariant in
    let next = next_is c.len.result c.self.inside.last c.in-Some.session c.in-Some.ensures in
    let few : slab_len c.self.inside.table < session_limit = omega (arith, c.len.ensures, next.1) in
    let given : c.get-self-inside.result ≡ c.in-Some.session = c.get-self-inside.ensures.value in
    rw given (put_sound c.reserve.new.self c.insert_reserved.new.self c.insert_reserved.result c.self.inside.last sound c.in-Some.session c.args.user (omega arith)
    c.insert_reserved.ensures.updates c.insert_reserved.ensures.was_vacant (omega arith) c.insert_reserved.ensures.len (rw kept few))

pub returns-clause-fresh : goal.returns-clause-fresh
returns-clause-fresh c =
    let next = next_is c.len.result c.self.inside.last c.in-Some.session c.in-Some.ensures in
    rw (← c.self.view_is) (above_last c.self.inside.table.slots c.self.inside.last c.in-Some.session c.self.invariant (omega arith))

pub returns-clause-after : goal.returns-clause-after
returns-clause-after c =
    let kept = ap (λ s. s.slots) c.reserve.ensures.rest_kept in
    let sound : IsSound c.reserve.new.self.slots c.self.inside.last = rw kept c.self.invariant in
    let next = next_is c.len.result c.self.inside.last c.in-Some.session c.in-Some.ensures in
    let users = put_users c.reserve.new.self c.insert_reserved.new.self c.insert_reserved.result c.self.inside.last sound c.in-Some.session c.args.user (omega arith)
    c.insert_reserved.ensures.updates c.insert_reserved.ensures.was_vacant in
    let given : c.get-self-inside.result ≡ c.self.inside.last + 1 = c.get-self-inside.ensures.value ∙ next.0 in
    rw (← c.self.view_is, users, kept, given, next.0)
