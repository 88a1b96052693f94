-- Findings that are noted one after another.
use Rattle.std.specs.Prelude.{List, fold, Option, None, is_some, if◌then◌else◌}
use Rattle.std.specs.FinMap.{insert, get, empty}
use Rattle.nm_types.specs.Path.{PathStep}
use Rattle.nm_edit_json.specs.declared.fault.FaultKind.TheVariants.{Invalid}
use Rattle.nm_edit_json.specs.declared.fault.Fault.{Fault}
use Rattle.nm_edit_json.specs.declared.gathered.Gathered.{Gathered}
use Rattle.nm_edit_json.specs.Findings.{Finding, named, wrong, fault_at}
use Rattle.nm_edit_json.specs.Whole.{NodeMap, lesser, told_of}

-- the least fault once there is a node with a path: a second one is repeated
abbrev pub with_node : NodeMap → Option Fault → List PathStep → Option Fault
with_node m least path = if is_some (get m path) then lesser least (fault_at path Invalid) else least

-- a finding more: a node besides the others, or another fault
abbrev pub noted : Gathered → Finding → Gathered
noted g (named n) = record { nodes = insert g.nodes n.path (told_of n); least = with_node g.nodes g.least n.path }
noted g (wrong fault) = record { nodes = g.nodes; least = lesser g.least fault }

-- no nodes and no fault
abbrev pub nothing : Gathered
nothing = record { nodes = empty; least = None }

-- findings more, one after another
unfoldable pub gathered : Gathered → List Finding → Gathered
gathered g findings = fold noted g findings
