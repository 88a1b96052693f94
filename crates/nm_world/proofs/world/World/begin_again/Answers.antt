use Rattle.std.proofs.Common.{◌≡◌, ◌∙◌, refl, ap, sym, subst, arith}
use Rattle.nm_world.specs.Runs.{HasTime}
use Rattle.nm_world.specs.World.{CoreValue, core_anew}
use Rattle.nm_world.proofs.Clocks.{fresh_time, time_now}
use Rattle.nm_world.proofs.Passing.{whole_of}
use Rattle.nm_world.proofs.world.World.begin_again.Goals as goal

pub returns-clause-begun : goal.returns-clause-begun
returns-clause-begun g c =
    rw (← c.self.view_is) (ap (λ core. whole_of core c.clear.new.self.items) c.in_ok-begin_again.ensures.begun ∙ ap (whole_of (core_anew c.self.inside.core)) c.clear.ensures.items)

pub returns-clause-in_time : goal.returns-clause-in_time
returns-clause-in_time g c = λ seconds enough.
    subst (HasTime seconds) (sym (ap (λ (w : CoreValue _ _ _ _). w.state.devices) c.in_ok-begin_again.ensures.begun)) (fresh_time seconds c.self.inside.core.first_configs enough)

pub returns-clause-ready : goal.returns-clause-ready
returns-clause-ready g c =
    let begun = c.in_ok-begin_again.ensures.begun in
    record {
      in_time = time_now 0 c.begin_again.new.self.state.devices
          (subst (HasTime 0) (sym (ap (λ (w : CoreValue _ _ _ _). w.state.devices) begun)) (fresh_time 0 c.self.inside.core.first_configs (omega arith)));
      going = ap (λ (w : CoreValue _ _ _ _). w.has_failed) begun;
      whole = ap (λ (w : CoreValue _ _ _ _). w.failed) begun;
      fits = c.in_ok-begin_again.ensures.fits;
    }
