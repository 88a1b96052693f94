-- The edit that a JSON value holds, or its least fault (this project's own).
use Rattle.std.specs.Prelude.{◌≡◌, ℕ, List, [], ◌∷◌, map, fold, nat_lt, Bool, true, false, Option, Some, None, is_some, Result, Ok, Err, if◌then◌else◌}
use Rattle.std.specs.Ordering.{on, then_cmp, nat_cmp, is_lt}
use Rattle.std.specs.Cmp.Lexicographic.{slice_cmp}
use Rattle.std.specs.declared.cmp.Ordering.{Ordering}
use Rattle.std.specs.FinMap.{FinMap, insert, get, empty, len, entries}
use Rattle.serde_json.specs.Data.{Data}
use Rattle.nm_base.specs.declared.tag.Tag.{Tag}
use Rattle.nm_base.specs.declared.tag.Tag.TheVariants.{UnknownElement, MissingElement, InvalidValue, BadAttribute, ResourceDenied}
use Rattle.nm_types.specs.Path.{PathStep, path_cmp, step_cmp}
use Rattle.nm_proto.specs.Content.{Refusal}
use Rattle.nm_schema_tree.specs.Nodes.{SchemaTree}
use Rattle.nm_json.specs.Places.{place_steps, place_text}
use Rattle.nm_edit.specs.declared.edit.EditNode.{EditNode}
use Rattle.nm_edit.specs.declared.fault.EditFault.{EditFault}
use Rattle.nm_edit.specs.declared.fault.EditFault.TheVariants.{Refused, NoMemory}
use Rattle.nm_edit_json.specs.declared.fault.FaultKind.{FaultKind}
use Rattle.nm_edit_json.specs.declared.fault.FaultKind.TheVariants.{Unknown, Missing, Invalid, Annotation}
use Rattle.nm_edit_json.specs.declared.fault.Fault.{Fault}
use Rattle.nm_edit_json.specs.declared.nodes.Told.{Told}
use Rattle.nm_edit_json.specs.Findings.{Finding, named, wrong, fault_at, whole_found}

-- ---- faults

-- kinds of faults in their order at one place
abbrev pub kind_rank : FaultKind → ℕ
kind_rank Unknown = 0
kind_rank Missing = 1
kind_rank Invalid = 2
kind_rank Annotation = 3

-- the error tag of a kind of fault (RFC 6241 appendix A)
abbrev pub tag_of : FaultKind → Tag
tag_of Unknown = UnknownElement
tag_of Missing = MissingElement
tag_of Invalid = InvalidValue
tag_of Annotation = BadAttribute

-- faults are ordered by their places, as paths are, and at one place by their kinds
unfoldable pub fault_cmp : Fault → Fault → Ordering
fault_cmp = then_cmp (on (λ f. place_steps f.place) (slice_cmp step_cmp)) (on (λ f. kind_rank f.kind) nat_cmp)

-- the lesser of two faults, if there was one before
abbrev pub lesser : Option Fault → Fault → Option Fault
lesser None f = Some f
lesser (Some least) f = if is_lt (fault_cmp f least) then Some f else Some least

-- the least of faults
abbrev pub least_of : List Fault → Option Fault
least_of faults = fold lesser None faults

-- ---- nodes

-- the nodes of an edit by their paths
abbrev pub NodeMap : Type 0
NodeMap = FinMap path_cmp Told

-- what a node has besides its path
abbrev pub told_of : EditNode → Told
told_of n = record { operation = n.operation; value = n.value }

-- the node of a path
abbrev pub node_at : List PathStep × Told → EditNode
node_at e = record { path = e.0; operation = e.1.operation; value = e.1.value }

-- the nodes in path order
abbrev pub nodes_in : NodeMap → List EditNode
nodes_in m = map node_at (entries m)

-- the nodes among findings, behind others
abbrev pub nodes_of : NodeMap → List Finding → NodeMap
nodes_of m [] = m
nodes_of m (named n ∷ findings) = nodes_of (insert m n.path (told_of n)) findings
nodes_of m (wrong fault ∷ findings) = nodes_of m findings

-- a node's path is repeated, before other faults
abbrev pub if_repeated : Bool → List PathStep → List Fault → List Fault
if_repeated true path faults = fault_at path Invalid ∷ faults
if_repeated false path faults = faults

-- the faults among findings, and that a node is repeated where there is one with its path before it
abbrev pub faults_found : NodeMap → List Finding → List Fault
faults_found m [] = []
faults_found m (named n ∷ findings) = if_repeated (is_some (get m n.path)) n.path (faults_found (insert m n.path (told_of n)) findings)
faults_found m (wrong fault ∷ findings) = fault ∷ faults_found m findings

-- ---- the whole

-- how many nodes an edit may have
abbrev pub node_limit : ℕ
node_limit = 5000

-- the nodes, unless there is a fault, or too many of them
abbrev pub answered : SchemaTree → Option Fault → NodeMap → Result (List EditNode) Refusal
answered t (Some f) m = Err (record { tag = tag_of f.kind; path = place_text t f.place })
answered t None m = if nat_lt node_limit (len m) then Err (record { tag = ResourceDenied; path = [] }) else Ok (nodes_in m)

-- the edit that a JSON value holds by a schema, or its least fault
abbrev pub edit_read : SchemaTree → Data → Result (List EditNode) Refusal
edit_read t d = answered t (least_of (faults_found empty (whole_found t d))) (nodes_of empty (whole_found t d))

-- an answer is what reading gives, unless memory ran out
abbrev pub Gives : Result (List EditNode) EditFault → Result (List EditNode) Refusal → Type 0
Gives (Ok nodes) given = given ≡ Ok nodes
Gives (Err (Refused tag path)) given = given ≡ Err (record { tag = tag; path = path })
Gives (Err NoMemory) given = Unit {0}
