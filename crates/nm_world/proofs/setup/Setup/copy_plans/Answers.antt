use Rattle.std.proofs.Common.{◌≤◌, ◌∙◌, List, length, sym, subst}
use Rattle.std.specs.List.{All}
use Rattle.nm_proto.specs.declared.plan.ChangePlan.{ChangePlan}
use Rattle.nm_manager.specs.Requests.{IsWellFormed}
use Rattle.nm_world.proofs.setup.Setup.copy_plans.Goals as goal

pub returns-clause-well_formed : goal.returns-clause-well_formed
returns-clause-well_formed g c = subst (All IsWellFormed) (sym (c.in_ok-copies.ensures ∙ c.as_slice.ensures)) c.self.invariant.well_formed

pub returns-clause-few : goal.returns-clause-few
returns-clause-few g c = subst (λ (plans : List ChangePlan). length plans ≤ 64) (sym (c.in_ok-copies.ensures ∙ c.as_slice.ensures)) c.self.invariant.few
