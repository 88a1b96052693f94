use Rattle.std.proofs.Common.{◌≡◌, ◌∙◌, ℕ, Option, None, false, length, map, replicate, ap, subst}
use Rattle.nm_history.specs.History.{recorded}
use Rattle.nm_manager.specs.Manager.{fresh_manager}
use Rattle.nm_world.specs.World.{CoreValue, SetupState, AreSound}
use Rattle.nm_world.proofs.Staging.{core_value}
use Rattle.nm_world.proofs.Passing.{err_always}
use Rattle.nm_world.proofs.world_core.WorldCore.begin_again.Goals as goal

pub invariant_of-self-2 : goal.invariant_of-self-2
invariant_of-self-2 g c = (
  subst (λ (u : SetupState _ _ _). AreSound (g.C.Content.meaning u.content) c.in-Ok-fresh_devices.devices.items) c.deref-setup.ensures c.in-Ok-fresh_devices.ensures.sound,
  c.in-Ok-fresh_devices.ensures.few,
)

pub returns-clause-begun : goal.returns-clause-begun
returns-clause-begun g c =
    let s = c.self.inside in
    let first = s.setup.value in
    let operators = c.in-Ok.ensures.operators
    ∙ ap (λ users. replicate (length users) (replicate {A = Option ℕ} (length c.first_configs.result.now) None)) (c.users-users.ensures ∙ ap (λ (u : SetupState _ _ _). u.setting.users) c.deref-setup.ensures)
    ∙ ap (λ configs. replicate (length first.setting.users) (replicate {A = Option ℕ} (length configs) None))
    (c.first_configs.ensures.value ∙ ap (λ (u : SetupState _ _ _). u.first_configs) c.deref-setup.ensures) in
    let devices = c.in-Ok-fresh_devices.ensures.begun ∙ ap (λ (u : SetupState _ _ _). map recorded u.first_configs) c.deref-setup.ensures in
    rw (← c.self.view_is) (ap (λ manager. core_value first false manager c.in-Ok-fresh_devices.devices.items c.in-Ok.operators.items) c.in_ok-begin_again.ensures.begun
    ∙ ap (λ ds. core_value first false (fresh_manager s.manager.plans) ds c.in-Ok.operators.items) devices
    ∙ ap (core_value first false (fresh_manager s.manager.plans) (map recorded first.first_configs)) operators)

pub returns-clause-fits : goal.returns-clause-fits
returns-clause-fits g c = c.in_ok-begin_again.ensures.fits

pub returns-in_err-begin_again-clause-unchanged : goal.returns-in_err-begin_again-clause-unchanged
returns-in_err-begin_again-clause-unchanged g c =
    let s = c.self.inside in
    err_always _ (subst (λ (w : CoreValue _ _ _ _). core_value s.setup.value s.has_diverged c.begin_again.new.self s.devices.items s.operators.items ≡ w) c.self.view_is
    (ap (λ manager. core_value s.setup.value s.has_diverged manager s.devices.items s.operators.items) c.in_err-begin_again.ensures.unchanged))
