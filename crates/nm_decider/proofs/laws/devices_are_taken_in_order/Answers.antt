use Rattle.nm_decider.proofs.Actions.{in_order}
use Rattle.nm_decider.proofs.laws.devices_are_taken_in_order.Goals as goal

pub returns : goal.returns
returns c course = in_order course
