use Rattle.nm_scenario_form.proofs.Pointers.{pointer_short}
use Rattle.nm_scenario_form.proofs.pointer_laws.pointers_are_short.Goals as goal

pub returns : goal.returns
returns c = pointer_short
