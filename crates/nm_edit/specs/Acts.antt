-- What an edit does at each of its nodes (RFC 6241 section 7.2).
use Rattle.std.specs.Prelude.{List, [], ◌∷◌, Bool, true, false, Option, Some, None, if◌then◌else◌}
use Rattle.std.specs.List.{flat_map}
use Rattle.nm_types.specs.Path.{PathStep}
use Rattle.nm_types.specs.declared.value.Value.{Value}
use Rattle.nm_proto.specs.declared.message.DefaultOperation.{DefaultOperation}
use Rattle.nm_edit.specs.declared.edit.EditNode.{EditNode}
use Rattle.nm_edit.specs.declared.standing.Standing.{Standing}
use Rattle.nm_edit.specs.declared.act.Act.{Act}
use Rattle.nm_edit.specs.Words.{brings}
use Rattle.nm_edit.specs.Standing.{Sayings, said, standing}

-- what is done at a node at which this stands
abbrev pub act_of : EditNode → Standing → Act
act_of n s = record { path = n.path; operation = s.operation; is_explicit = s.is_explicit; value = n.value }

-- what is done at a node; nothing where a node above it goes as a whole
abbrev pub act_if : Standing → EditNode → List Act
act_if s n = if s.is_cut then [] else act_of n s ∷ []

-- what is done at a node, and nothing below one that goes with all below it
abbrev pub acts_at : Sayings → DefaultOperation → EditNode → List Act
acts_at told d n = act_if (standing told d n.path) n

-- what is done at the nodes of an edit, in their order
abbrev pub acts : List EditNode → DefaultOperation → List Act
acts nodes d = flat_map (acts_at (said nodes) d) nodes

-- the row of a path, where it comes and has a value
abbrev pub rows_if : Bool → List PathStep → Option Value → List (List PathStep × Value)
rows_if false path value = []
rows_if true path None = []
rows_if true path (Some value) = (path, value) ∷ []

-- the row of a node, where it comes
abbrev pub row_of : Act → List (List PathStep × Value)
row_of a = rows_if (brings a.operation) a.path a.value

-- the rows that come: those of all nodes with merge, replace or create
abbrev pub coming : List Act → List (List PathStep × Value)
coming acts = flat_map row_of acts
