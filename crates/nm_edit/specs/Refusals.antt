-- What an edit is refused for (RFC 6241 section 7.2).
use Rattle.std.specs.Prelude.{◌≡◌, ℕ, List, [], ◌∷◌, Bool, false, not, ◌||◌, Option, Some, None, Result, Ok, Err, slice_get, if◌then◌else◌}
use Rattle.nm_types.specs.Path.{PathStep}
use Rattle.nm_base.specs.declared.tag.Tag.{Tag}
use Rattle.nm_base.specs.declared.tag.Tag.TheVariants.{DataExists, DataMissing}
use Rattle.nm_proto.specs.Content.{Refusal}
use Rattle.nm_schema_tree.specs.declared.node.Node.{Node}
use Rattle.nm_schema_tree.specs.declared.node.NodeKind.{NodeKind}
use Rattle.nm_schema_tree.specs.declared.node.NodeKind.TheVariants.{Container}
use Rattle.nm_schema_tree.specs.Nodes.{SchemaTree}
use Rattle.nm_path.specs.Spelling.{node_of}
use Rattle.nm_path.specs.Written.{path_text}
use Rattle.nm_config.specs.Rows.{Rows}
use Rattle.nm_config.specs.Under.{has_under}
use Rattle.nm_edit.specs.declared.operation.Effective.{Effective}
use Rattle.nm_edit.specs.declared.operation.Effective.TheVariants.{Create, Delete, Nothing}
use Rattle.nm_edit.specs.declared.act.Act.{Act}
use Rattle.nm_edit.specs.declared.fault.EditFault.{EditFault}
use Rattle.nm_edit.specs.declared.fault.EditFault.TheVariants.{Refused, NoMemory}

-- a container without presence (RFC 7950 section 7.5.1)
abbrev pub is_passed : NodeKind → Bool
is_passed (Container presence) = not presence
is_passed _ = false

-- a node is a container without presence
abbrev pub is_passed_in : Option Node → Bool
is_passed_in None = false
is_passed_in (Some n) = is_passed n.kind

-- the node with a number, if there is one, is a container without presence
abbrev pub is_passed_at : List Node → Option ℕ → Bool
is_passed_at nodes None = false
is_passed_at nodes (Some x) = is_passed_in (slice_get nodes x)

-- by whether a node exists, and whether it is a container without presence, which needn't exist where nothing is done to it (this project's own)
abbrev pub refused_by : Effective → Bool → Bool → Option Tag
refused_by Create exists passed = if exists then Some DataExists else None
refused_by Delete exists passed = if exists then None else Some DataMissing
refused_by Nothing exists passed = if exists || passed then None else Some DataMissing
refused_by _ exists passed = None

-- the tag with which what is done at a node is refused; a node exists where a row is at or below it
abbrev pub refused_at : SchemaTree → Rows → Act → Option Tag
refused_at t old a = refused_by a.operation (has_under old a.path) (is_passed_at t.nodes (node_of t a.path))

-- a node's refusal comes before those of later nodes; its path is told as text
abbrev pub refusal_or : SchemaTree → List PathStep → Option Tag → Option Refusal → Option Refusal
refusal_or t path None others = others
refusal_or t path (Some tag) others = Some (record { tag = tag; path = path_text t path })

-- the refusal at the first node that has one
abbrev pub first_refusal : SchemaTree → Rows → List Act → Option Refusal
first_refusal t old [] = None
first_refusal t old (a ∷ more) = refusal_or t a.path (refused_at t old a) (first_refusal t old more)

-- an answer: Ok where there is no refusal, or the refusal, unless memory ran out
abbrev pub Passes : Result Unit EditFault → Option Refusal → Type 0
Passes (Ok _) given = given ≡ None
Passes (Err (Refused tag path)) given = given ≡ Some (record { tag = tag; path = path })
Passes (Err NoMemory) given = Unit {0}
