use Rattle.nm_scenario_events.proofs.Order.{events_placed}
use Rattle.nm_scenario_events.proofs.laws.event_places_are_parts.Goals as goal

pub returns : goal.returns
returns g c = λ order counts whole cause place wrong. events_placed _ order counts whole cause place wrong
