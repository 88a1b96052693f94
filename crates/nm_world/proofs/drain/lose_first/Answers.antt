use Rattle.std.proofs.Common.{◌≡◌, ℕ, IfSome, IfNone, true, false, ◌<◌, ◌≤◌, subst}
use Rattle.nm_wire.specs.Wire.{is_left_open}
use Rattle.nm_manager.specs.Manager.{wire_in}
use Rattle.nm_world.proofs.Skipping.{none_lost, none_before}
use Rattle.nm_world.proofs.drain.lose_first.Goals as goal

pub lose_behind-requires-clause-none : goal.lose_behind-requires-clause-none
lose_behind-requires-clause-none g c link le =
    let links = wire_in c.args.manager.now.state c.args.change c.args.number in
    none_before c.args.device.now links c.args.change c.args.number c.in-Some.first
    (subst (λ found. IfSome found (λ number. is_left_open links number ≡ true)) c.in-Some.is c.first_left_open.ensures.found)
    (subst (λ found. IfSome found (λ number. (other : ℕ) → other < number → is_left_open links other ≡ false)) c.in-Some.is c.first_left_open.ensures.least) link (subst (λ passed. link ≤ passed) c.saturating_sub.ensures le)

pub returns-in-None : goal.returns-in-None
returns-in-None g c =
    let links = wire_in c.args.manager.now.state c.args.change c.args.number in
    none_lost c.args.device.now links c.args.change c.args.number
    (subst (λ found. IfNone found ((other : ℕ) → is_left_open links other ≡ false)) c.in-None.is c.first_left_open.ensures.none)
