-- What is answered of the JSON of an edit in terms of all its faults and nodes.
use Rattle.std.specs.Prelude.{◌≡◌, ◌<◌, ◌≤◌, List, [], ◌∷◌, ◌⊎◌, length, false}
use Rattle.std.specs.List.{AllByRecursion}
use Rattle.std.specs.Ordering.{is_lt}
use Rattle.std.specs.FinMap.{empty}
use Rattle.serde_json.specs.Data.{Data}
use Rattle.nm_base.specs.declared.tag.Tag.TheVariants.{ResourceDenied}
use Rattle.nm_proto.specs.Content.{Refusal}
use Rattle.nm_schema_tree.specs.Nodes.{SchemaTree}
use Rattle.nm_json.specs.Places.{place_text}
use Rattle.nm_edit.specs.declared.edit.EditNode.{EditNode}
use Rattle.nm_edit_json.specs.declared.fault.Fault.{Fault}
use Rattle.nm_edit_json.specs.Findings.{whole_found}
use Rattle.nm_edit_json.specs.Whole.{fault_cmp, tag_of, nodes_in, nodes_of, faults_found, node_limit}

-- all faults of the JSON of an edit
abbrev pub all_faults : SchemaTree → Data → List Fault
all_faults t d = faults_found empty (whole_found t d)

-- all nodes that it names, in path order
abbrev pub all_nodes : SchemaTree → Data → List EditNode
all_nodes t d = nodes_in (nodes_of empty (whole_found t d))

-- a fault is one of these
abbrev pub IsAmong : Fault → List Fault → Type 0
IsAmong f [] = ⊥
IsAmong f (g ∷ gs) = (f ≡ g) ⊎ IsAmong f gs

-- a fault doesn't stand after another
abbrev pub IsUpto : Fault → Fault → Type 0
IsUpto f g = is_lt (fault_cmp g f) ≡ false

-- a fault is one of these, and none stands before it
pub record IsLeast (f : Fault) (fs : List Fault) : Type 0 where
  pub among : IsAmong f fs
  pub least : AllByRecursion (IsUpto f) fs

-- the least fault has this tag, and its place this text
pub record HasLeast (t : SchemaTree) (fs : List Fault) (refusal : Refusal) : Type 0 where
  pub fault : Fault
  pub least : IsLeast fault fs
  pub tag_is : tag_of fault.kind ≡ refusal.tag
  pub text_is : place_text t fault.place ≡ refusal.path

-- there is no fault, and there are too many nodes
pub record HasTooMany (t : SchemaTree) (d : Data) (refusal : Refusal) : Type 0 where
  pub faultless : all_faults t d ≡ []
  pub many : node_limit < length (all_nodes t d)
  pub tag_is : refusal.tag ≡ ResourceDenied
  pub path_is : refusal.path ≡ []

-- there is no fault, and these are all nodes
pub record HasNodes (t : SchemaTree) (d : Data) (nodes : List EditNode) : Type 0 where
  pub faultless : all_faults t d ≡ []
  pub all : nodes ≡ all_nodes t d
  pub within : length nodes ≤ node_limit
