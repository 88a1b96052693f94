use Rattle.nm_scenario_form.proofs.Pointers.{pointer_printable}
use Rattle.nm_scenario_form.proofs.pointer_laws.pointers_end_no_line.Goals as goal

pub returns : goal.returns
returns c = pointer_printable
