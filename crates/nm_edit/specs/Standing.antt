-- The operation that stands at each node of an edit: its own, and without one that of the node above it, at the top the
-- default operation (RFC 6241 section 7.2).
use Rattle.std.specs.Prelude.{List, [], ◌∷◌, ◌++◌, fold, true, false, ◌||◌, Option, Some, None}
use Rattle.std.specs.FinMap.{FinMap, empty, get, insert}
use Rattle.nm_types.specs.Path.{PathStep, path_cmp}
use Rattle.nm_proto.specs.declared.message.DefaultOperation.{DefaultOperation}
use Rattle.nm_edit.specs.declared.operation.Operation.{Operation}
use Rattle.nm_edit.specs.declared.edit.EditNode.{EditNode}
use Rattle.nm_edit.specs.declared.standing.Standing.{Standing}
use Rattle.nm_edit.specs.Words.{effective, of_default, takes_away}

-- what an edit says of nodes themselves, by their paths
abbrev pub Sayings : Type 0
Sayings = FinMap path_cmp Operation

-- what is said with the operation of one node more, where that says one
abbrev pub with_operation : Sayings → List PathStep → Option Operation → Sayings
with_operation said path None = said
with_operation said path (Some operation) = insert said path operation

-- with what one node more says of itself
abbrev pub with_node : Sayings → EditNode → Sayings
with_node said n = with_operation said n.path n.operation

-- what the nodes of an edit say of themselves
abbrev pub said : List EditNode → Sayings
said nodes = fold with_node empty nodes

-- above all nodes stands the default operation
abbrev pub at_top : DefaultOperation → Standing
at_top d = record { operation = of_default d; is_explicit = false; is_cut = false }

-- what stands at a node, by its own operation and what stands above it; below a node that goes with all below it nothing is looked at
abbrev pub stepped : Option Operation → Standing → Standing
stepped None s = record { operation = s.operation; is_explicit = false; is_cut = s.is_cut || takes_away s.operation }
stepped (Some own) s = record { operation = effective own; is_explicit = true; is_cut = s.is_cut || takes_away s.operation }

-- what stands at the end of some steps, by what stands above them
abbrev pub standing_from : Sayings → Standing → List PathStep → List PathStep → Standing
standing_from said s above [] = s
standing_from said s above (step ∷ steps) = standing_from said (stepped (get said (above ++ step ∷ [])) s) (above ++ step ∷ []) steps

-- what stands at a path
abbrev pub standing : Sayings → DefaultOperation → List PathStep → Standing
standing said d path = standing_from said (at_top d) [] path
