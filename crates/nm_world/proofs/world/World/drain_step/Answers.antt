use Rattle.std.proofs.Common.{◌≡◌, Some, sym, ap, subst, ◌∙◌, length, arith, rules}
use Rattle.nm_world.specs.Runs.{seconds_in}
use Rattle.nm_world.specs.World.{WorldValue, manager_in}
use Rattle.nm_world.specs.Drain.{drain_by, drain_event}
use Rattle.nm_world.proofs.Clocks.{time_more}
use Rattle.nm_world.proofs.Numbered.{step_is_among}
use Rattle.nm_world.proofs.world.World.drain_step.Goals as goal

pub apply-requires-clause-given : goal.apply-requires-clause-given
apply-requires-clause-given g c =
    let core = c.self.inside.core in
    let among = step_is_among core.state.devices (manager_in core.state) (length core.setting.plans) core.state.operators c.in-Some.event (sym c.next_step.ensures ∙ c.in-Some.is) in
    rw (← c.self.view_is) among.few

pub returns-in_err-apply-clause-no_memory : goal.returns-in_err-apply-clause-no_memory
returns-in_err-apply-clause-no_memory g c = λ is.
    let core = c.self.inside.core in
    let among = step_is_among core.state.devices (manager_in core.state) (length core.setting.plans) core.state.operators c.in-Some.event (sym c.next_step.ensures ∙ c.in-Some.is) in
    c.in_err-apply.ensures.no_memory (search (rules, is)) among.no_crash

pub returns-clause-time : goal.returns-clause-time
returns-clause-time g c =
    let core = c.self.inside.core in
    let among = step_is_among core.state.devices (manager_in core.state) (length core.setting.plans) core.state.operators c.in-Some.event (sym c.next_step.ensures ∙ c.in-Some.is) in
    time_more (seconds_in c.in-Some.event) 0 c.args.self.now.state.devices c.apply.new.self.state.devices (omega (arith, among.at_once)) c.apply.ensures.time

pub returns-in_err-apply-clause-read : goal.returns-in_err-apply-clause-read
returns-in_err-apply-clause-read g c = λ offset is.
    let core = c.self.inside.core in
    let among = step_is_among core.state.devices (manager_in core.state) (length core.setting.plans) core.state.operators c.in-Some.event (sym c.next_step.ensures ∙ c.in-Some.is) in
    c.in_err-apply.ensures.read among.no_crash offset (search (rules, is))

pub returns-clause-exact : goal.returns-clause-exact
returns-clause-exact g c =
    let core = c.self.inside.core in
    let among = step_is_among core.state.devices (manager_in core.state) (length core.setting.plans) core.state.operators c.in-Some.event (sym c.next_step.ensures ∙ c.in-Some.is) in
    let now = c.args.self.now in
    let next = subst (λ (w : WorldValue _ _ _ _). drain_event w.setting w.state ≡ Some c.in-Some.event) c.self.view_is (sym c.next_step.ensures ∙ c.in-Some.is) in
    c.in_ok-apply.ensures.came.does among.no_crash ∙ sym (ap (drain_by (g.C.Content.meaning now.content) now.setting now.state) next)
