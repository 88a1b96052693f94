use Rattle.nm_scenario_form.proofs.Pointers.{pointer_longest}
use Rattle.nm_scenario_form.proofs.pointer_laws.pointers_are_longest.Goals as goal

pub returns : goal.returns
returns c = pointer_longest
