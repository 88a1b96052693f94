use Rattle.std.proofs.Common.{◌≡◌, ℕ, ◌<◌, true, false, IfSome, IfNone, subst}
use Rattle.nm_wire.specs.Wire.{is_left_open}
use Rattle.nm_manager.proofs.manager.Manager.first_left_open.Goals as goal

pub returns-clause-found : goal.returns-clause-found
returns-clause-found c = subst (λ wire. IfSome c.first_left_open.result (λ number. is_left_open wire number ≡ true)) c.wire.ensures c.first_left_open.ensures.found

pub returns-clause-least : goal.returns-clause-least
returns-clause-least c =
    subst (λ wire. IfSome c.first_left_open.result (λ number. (other : ℕ) → other < number → is_left_open wire other ≡ false)) c.wire.ensures c.first_left_open.ensures.least

pub returns-clause-none : goal.returns-clause-none
returns-clause-none c = subst (λ wire. IfNone c.first_left_open.result ((other : ℕ) → is_left_open wire other ≡ false)) c.wire.ensures c.first_left_open.ensures.none
