-- What is wanted at a node (this project's own).
use Rattle.std.specs.Prelude.{ℕ, List, [], ◌++◌, codes, Bool, true, false, Option, Some, None, slice_get}
use Rattle.nm_types.specs.LeafType.{TypeOfLeaf}
use Rattle.nm_schema_tree.specs.declared.node.Node.{Node}
use Rattle.nm_schema_tree.specs.declared.node.NodeKind.{NodeKind}
use Rattle.nm_schema_tree.specs.declared.node.NodeKind.TheVariants as kind
use Rattle.nm_schema_tree.specs.Nodes.{SchemaTree}
use Rattle.nm_explain.specs.Place.{node_at}
use Rattle.nm_explain.specs.Types.{type_text, form_text}

-- the form of values of a type, where it is to be told
abbrev pub form_of : Bool → List ℕ → TypeOfLeaf → List ℕ
form_of false lead t = []
form_of true lead t = lead ++ form_text t.kind

-- a type behind a text, and the form of its values behind another
abbrev pub values_wanted : Bool → List ℕ → List ℕ → TypeOfLeaf → List ℕ
values_wanted form front lead t = front ++ type_text t ++ form_of form lead t

-- what a node is, and in which form, where it is to be told (RFC 7951 section 5). A leafref has the type that it leads to
abbrev pub kind_wanted : Bool → NodeKind → List ℕ
kind_wanted form (kind.Container presence) = codes "a container, as a JSON object"
kind_wanted form (kind.List keys uniques elements) = codes "a list, as a JSON array of objects"
kind_wanted form (kind.Leaf t default mandatory reference) = values_wanted form [] (codes "; as ") t
kind_wanted form (kind.LeafList t reference elements) = values_wanted form (codes "a leaf-list, as a JSON array of ") (codes "; each as ") t

-- a line with what is wanted, and none without a node
abbrev pub node_wanted : Bool → Option Node → List ℕ
node_wanted form None = []
node_wanted form (Some n) = codes "wanted: " ++ kind_wanted form n.kind ++ codes "\n"

-- the line of node i
abbrev pub node_at_wanted : Bool → SchemaTree → ℕ → List ℕ
node_at_wanted form tree i = node_wanted form (slice_get tree.nodes i)

-- the line of a node, where there is one
abbrev pub wanted_of : Bool → SchemaTree → Option ℕ → List ℕ
wanted_of form tree None = []
wanted_of form tree (Some i) = node_at_wanted form tree i

-- what is wanted where the text of a path leads
abbrev pub wanted_text : Bool → SchemaTree → List ℕ → List ℕ
wanted_text form tree path = wanted_of form tree (node_at tree path)
