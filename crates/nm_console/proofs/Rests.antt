-- The world of a scenario that is to be brought to rest is at rest.
use Rattle.std.proofs.Common.{◌≡◌, ℕ, ◌+◌, ◌≤◌, List, [], ◌∷◌, map, refl, arith}
use Rattle.std.specs.List.{All, sum_by, fold}
use Rattle.std.proofs.lemmas.List.Elements.{All-cons, All-nil}
use Rattle.nm_proto.specs.declared.plan.ChangePlan.{ChangePlan}
use Rattle.nm_proto.specs.declared.plan.Event.{Event}
use Rattle.nm_proto.specs.declared.plan.Event.TheVariants.{Submit, Turn, Deliver, Answer, Break, Lose, Advance, Restart, Forget, Crash, Renew, Foreign, Leave, Round}
use Rattle.nm_proto.specs.declared.plan.PlannedEdit.{PlannedEdit}
use Rattle.nm_scenario_events.specs.Kept.{weight}
use Rattle.nm_scenario_laws.specs.Kept.{Ascend, ChangeKeeps, device_of_plan}
use Rattle.nm_rest_laws.specs.Rest.{IsWithin, elementary_count, events_count}

-- ---- events

-- an event counts as many elementary ones as it weighs
weighs_as : (event : Event) → elementary_count event ≡ weight event
weighs_as (Submit change) = refl
weighs_as (Turn change) = refl
weighs_as (Deliver change device link) = refl
weighs_as (Answer change device link number) = refl
weighs_as (Break change device) = refl
weighs_as (Lose change device link) = refl
weighs_as (Advance device seconds) = refl
weighs_as (Restart device) = refl
weighs_as (Forget change) = refl
weighs_as Crash = refl
weighs_as (Renew change device) = refl
weighs_as (Foreign operator device request) = refl
weighs_as (Leave operator device) = refl
weighs_as (Round change turns) = refl

counted : (events : List Event) (so_far : ℕ) → events_count events + so_far ≡ fold (λ a x. a + weight x) so_far events
counted [] so_far = omega arith
counted (event ∷ events) so_far =
    let same = weighs_as event in
    let rest : events_count events + (so_far + weight event) ≡ fold (λ a x. a + weight x) (so_far + weight event) events = counted events (so_far + weight event) in
    omega (arith, same, rest)

pub few_elementary : (events : List Event) (most : ℕ) → sum_by weight events ≤ most → events_count events ≤ most
few_elementary events most few = let all : events_count events + 0 ≡ sum_by weight events = counted events 0 in omega (arith, all, few)

-- ---- devices

within : (low high : ℕ) (edits : List PlannedEdit) → Ascend low high (map device_of_plan edits) → All (IsWithin high) edits
within low high [] h = All-nil (IsWithin high)
within low high (edit ∷ edits) h =
    let above = h.0 in
    let below = h.1 in
    All-cons (IsWithin high) edit edits (omega (arith, above), below) (within edit.device high edits h.2)

-- each change set is of devices that there are
pub has_devices : (devices : ℕ) (plan : ChangePlan) → ChangeKeeps devices plan → All (IsWithin devices) plan.edits
has_devices devices plan keeps = within 0 devices plan.edits keeps.ascending
