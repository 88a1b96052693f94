-- Schema trees as lists of nodes, and the nodes that names lead to (RFC 7950 sections 3 and 7.5 to 7.8).
use Rattle.std.specs.Prelude.{◌≡◌, ℕ, suc, ◌<◌, List, [], ◌∷◌, length, Bool, true, false, ◌==◌, ◌&&◌, Option, Some, None, if◌then◌else◌, slice_get, slice_set, ◌++◌}
use Rattle.std.specs.List.{position_from, list_any}
use Rattle.std.specs.Str.{bytes_eq}
use Rattle.nm_base.specs.Numbers.{is_among}
use Rattle.nm_types.specs.LeafType.{TypeOfLeaf}
use Rattle.nm_types.specs.declared.value.Value.{Value}
use Rattle.nm_schema_tree.specs.declared.node.Node.{Node}
use Rattle.nm_schema_tree.specs.declared.node.NodeKind.{NodeKind}
use Rattle.nm_schema_tree.specs.declared.node.NodeKind.TheVariants as kind
use Rattle.nm_schema_tree.specs.declared.node.Reference.{Reference}
use Rattle.nm_schema_tree.specs.declared.node.Elements.{Elements}
use Rattle.nm_schema_tree.specs.declared.choice.ChoiceNode.{ChoiceNode}
use Rattle.nm_schema_tree.specs.declared.choice.CaseNode.{CaseNode}

-- a schema tree: the names of its modules, its nodes, each after the one that it stands in, and its choices and their cases,
-- which are in no path (this project's own)
pub record SchemaTree : Type 0 where
  pub modules : List (List ℕ)
  pub nodes : List Node
  pub choices : List ChoiceNode
  pub cases : List CaseNode

-- ---- what stands in what

-- two nodes stand in the same node, or both at the top
abbrev pub same_parent : Option ℕ → Option ℕ → Bool
same_parent None None = true
same_parent None (Some j) = false
same_parent (Some i) None = false
same_parent (Some i) (Some j) = i == j

-- a node stands in a node, or at the top, and has a name
abbrev pub is_named : Option ℕ → List ℕ → Node → Bool
is_named parent name n = same_parent n.parent parent && bytes_eq n.name name

-- a node stands at the top, and has a module and a name
abbrev pub is_top : List ℕ → List ℕ → Node → Bool
is_top owner name n = bytes_eq n.«module» owner && is_named None name n

-- the first node directly in node i that has a name
unfoldable pub first_named : List Node → ℕ → List ℕ → Option ℕ
first_named nodes i name = position_from (is_named (Some i) name) 0 nodes

-- the first node at the top that has a module and a name (RFC 7950 section 5.5: names at the top belong to their module)
unfoldable pub first_top : List Node → List ℕ → List ℕ → Option ℕ
first_top nodes owner name = position_from (is_top owner name) 0 nodes

-- the nodes, of which the first is node n, that stand directly in `parent`
unfoldable pub those_in : ℕ → Option ℕ → List Node → List ℕ
those_in n parent [] = []
those_in n parent (r ∷ nodes) = if same_parent r.parent parent then n ∷ those_in (suc n) parent nodes else those_in (suc n) parent nodes

-- the nodes directly in node i, in order
abbrev pub children : List Node → ℕ → List ℕ
children nodes i = those_in 0 (Some i) nodes

-- the nodes at the top, in order
abbrev pub tops : List Node → List ℕ
tops nodes = those_in 0 None nodes

-- ---- what a node says

-- the type of a leaf or a leaf-list (RFC 7950 sections 7.6.3 and 7.7.3)
abbrev pub type_of : NodeKind → Option TypeOfLeaf
type_of (kind.Leaf t d m r) = Some t
type_of (kind.LeafList t r e) = Some t
type_of _ = None

-- the type of a node, where there is a node that has one
abbrev pub type_in : Option Node → Option TypeOfLeaf
type_in None = None
type_in (Some n) = type_of n.kind

-- the type of node i
abbrev pub type_at : List Node → ℕ → Option TypeOfLeaf
type_at nodes i = type_in (slice_get nodes i)

-- the keys of a list (RFC 7950 section 7.8.2)
abbrev pub keys_of : NodeKind → List ℕ
keys_of (kind.List keys uniques e) = keys
keys_of _ = []

-- the keys of a node; none where it is no list
abbrev pub keys_in : Option Node → List ℕ
keys_in None = []
keys_in (Some n) = keys_of n.kind

-- the keys of a node, if there is one
abbrev pub keys_at : List Node → Option ℕ → List ℕ
keys_at nodes None = []
keys_at nodes (Some i) = keys_in (slice_get nodes i)

-- the leafs that each unique statement of a list names (RFC 7950 section 7.8.3)
abbrev pub uniques_of : NodeKind → List (List ℕ)
uniques_of (kind.List keys uniques e) = uniques
uniques_of _ = []

-- the leafs that each unique statement of a node names; none where it is no list
abbrev pub uniques_in : Option Node → List (List ℕ)
uniques_in None = []
uniques_in (Some n) = uniques_of n.kind

-- the leafs that each unique statement of node i names
abbrev pub uniques_at : List Node → ℕ → List (List ℕ)
uniques_at nodes i = uniques_in (slice_get nodes i)

-- the default of a leaf (RFC 7950 section 7.6.4)
abbrev pub default_of : NodeKind → Option Value
default_of (kind.Leaf t d m r) = d
default_of _ = None

-- the default of a node, where there is a node that has one
abbrev pub default_in : Option Node → Option Value
default_in None = None
default_in (Some n) = default_of n.kind

-- the default of node i
abbrev pub default_at : List Node → ℕ → Option Value
default_at nodes i = default_in (slice_get nodes i)

-- it is a leaf that has to be there (RFC 7950 section 7.6.5)
abbrev pub is_mandatory : NodeKind → Bool
is_mandatory (kind.Leaf t d m r) = m
is_mandatory _ = false

-- a node is a leaf that has to be there
abbrev pub is_mandatory_in : Option Node → Bool
is_mandatory_in None = false
is_mandatory_in (Some n) = is_mandatory n.kind

-- node i is a leaf that has to be there
abbrev pub is_mandatory_at : List Node → ℕ → Bool
is_mandatory_at nodes i = is_mandatory_in (slice_get nodes i)

-- where a leaf or a leaf-list of type leafref leads (RFC 7950 section 9.9)
abbrev pub reference_of : NodeKind → Option Reference
reference_of (kind.Leaf t d m r) = r
reference_of (kind.LeafList t r e) = r
reference_of _ = None

-- where a node leads, where it is of type leafref
abbrev pub reference_in : Option Node → Option Reference
reference_in None = None
reference_in (Some n) = reference_of n.kind

-- where node i leads
abbrev pub reference_at : List Node → ℕ → Option Reference
reference_at nodes i = reference_in (slice_get nodes i)

-- any number of entries
abbrev pub any_number : Elements
any_number = record { min = None; max = None }

-- how many entries a list or a leaf-list may have (RFC 7950 sections 7.7.5 and 7.7.6)
abbrev pub elements_of : NodeKind → Elements
elements_of (kind.LeafList t r e) = e
elements_of (kind.List keys uniques e) = e
elements_of _ = any_number

-- how many entries a node may have; any number where there is no node
abbrev pub elements_in : Option Node → Elements
elements_in None = any_number
elements_in (Some n) = elements_of n.kind

-- how many entries node i may have
abbrev pub elements_at : List Node → ℕ → Elements
elements_at nodes i = elements_in (slice_get nodes i)

-- a list or a container with presence: what may or has to stand below it depends on whether it exists (RFC 7950 sections 7.5.1, 7.6.1 and 7.6.5)
abbrev pub is_guard : NodeKind → Bool
is_guard (kind.Container presence) = presence
is_guard (kind.List keys uniques e) = true
is_guard _ = false

-- a node is a list or a container with presence
abbrev pub is_guard_in : Option Node → Bool
is_guard_in None = false
is_guard_in (Some n) = is_guard n.kind

-- node i is a list or a container with presence
abbrev pub is_guard_at : List Node → ℕ → Bool
is_guard_at nodes i = is_guard_in (slice_get nodes i)

-- the node that a node stands in
abbrev pub parent_in : Option Node → Option ℕ
parent_in None = None
parent_in (Some n) = n.parent

-- the node that node i stands in
abbrev pub parent_of : List Node → ℕ → Option ℕ
parent_of nodes i = parent_in (slice_get nodes i)

-- node i is a key of the list that it stands in (RFC 7950 section 7.8.2)
abbrev pub is_key : List Node → ℕ → Bool
is_key nodes i = is_among i (keys_at nodes (parent_of nodes i))

-- ---- the cases that a node stands in

-- the innermost case that a node stands in
abbrev pub case_of : Option Node → Option ℕ
case_of None = None
case_of (Some n) = n.case_in

-- the innermost case that node i stands in, among the choices of the node that it stands in (RFC 7950 section 7.9.2)
abbrev pub case_at : List Node → ℕ → Option ℕ
case_at nodes i = case_of (slice_get nodes i)

-- the choice that a case is of
abbrev pub choice_of : Option CaseNode → Option ℕ
choice_of None = None
choice_of (Some c) = Some c.choice

-- the choice that case c is of
abbrev pub choice_at : List CaseNode → ℕ → Option ℕ
choice_at cases c = choice_of (slice_get cases c)

-- the case that a choice is nested in
abbrev pub around_choice : Option ChoiceNode → Option ℕ
around_choice None = None
around_choice (Some k) = k.case_in

-- the case that the choice of a number is nested in
abbrev pub around_case : List ChoiceNode → Option ℕ → Option ℕ
around_case choices None = None
around_case choices (Some k) = around_choice (slice_get choices k)

-- the case that the choice of case c stands in
abbrev pub outer_case : List ChoiceNode → List CaseNode → ℕ → Option ℕ
outer_case choices cases c = around_case choices (choice_at cases c)

-- choices and cases stand in one another: each case is of a choice that is there, each choice stands in no case or in one
-- that is there, and outwards the numbers of cases fall
pub record AreNested (choices : List ChoiceNode) (cases : List CaseNode) : Type 0 where
  pub of_choices : (c k : ℕ) → choice_at cases c ≡ Some k → k < length choices
  pub within : (k c : ℕ) → around_choice (slice_get choices k) ≡ Some c → c < length cases
  pub outwards : (c o : ℕ) → outer_case choices cases c ≡ Some o → o < c

-- ---- what changes in a node

-- the same leaf or leaf-list with another reference; others have none (RFC 7950 section 9.9)
abbrev pub with_reference : Option Reference → NodeKind → NodeKind
with_reference to (kind.Leaf t d m r) = kind.Leaf t d m to
with_reference to (kind.LeafList t r e) = kind.LeafList t to e
with_reference to k = k

-- the tree with one node more
abbrev pub with_node : SchemaTree → Node → SchemaTree
with_node t n = record { modules = t.modules; nodes = t.nodes ++ n ∷ []; choices = t.choices; cases = t.cases }

-- the tree with one choice more
abbrev pub with_choice : SchemaTree → ChoiceNode → SchemaTree
with_choice t k = record { modules = t.modules; nodes = t.nodes; choices = t.choices ++ k ∷ []; cases = t.cases }

-- the tree with one case more
abbrev pub with_case : SchemaTree → CaseNode → SchemaTree
with_case t c = record { modules = t.modules; nodes = t.nodes; choices = t.choices; cases = t.cases ++ c ∷ [] }

-- the same node of another kind
abbrev pub of_kind : NodeKind → Node → Node
of_kind k n = record { parent = n.parent; case_in = n.case_in; «module» = n.«module»; name = n.name; kind = k }

-- the nodes once node i leads where a leafref says; unchanged where there is no such node
abbrev pub referring : List Node → ℕ → Option Reference → Option Node → List Node
referring nodes i to None = nodes
referring nodes i to (Some n) = slice_set nodes i (of_kind (with_reference to n.kind) n)

-- the nodes once node i has another reference
abbrev pub with_reference_at : List Node → ℕ → Option Reference → List Node
with_reference_at nodes i to = referring nodes i to (slice_get nodes i)

-- the tree once node i has another reference
abbrev pub with_reference_in : SchemaTree → ℕ → Option Reference → SchemaTree
with_reference_in t i to = record { modules = t.modules; nodes = with_reference_at t.nodes i to; choices = t.choices; cases = t.cases }

-- the same list with other keys and unique statements; others have none (RFC 7950 sections 7.8.2 and 7.8.3)
abbrev pub with_keys : List ℕ → List (List ℕ) → NodeKind → NodeKind
with_keys keys uniques (kind.List k u e) = kind.List keys uniques e
with_keys keys uniques k = k

-- the nodes once node i has these keys and unique statements; unchanged where there is no such node
abbrev pub keying : List Node → ℕ → List ℕ → List (List ℕ) → Option Node → List Node
keying nodes i keys uniques None = nodes
keying nodes i keys uniques (Some n) = slice_set nodes i (of_kind (with_keys keys uniques n.kind) n)

-- the nodes once node i has other keys and unique statements
abbrev pub with_keys_at : List Node → ℕ → List ℕ → List (List ℕ) → List Node
with_keys_at nodes i keys uniques = keying nodes i keys uniques (slice_get nodes i)

-- the tree once node i has other keys and unique statements
abbrev pub with_keys_in : SchemaTree → ℕ → List ℕ → List (List ℕ) → SchemaTree
with_keys_in t i keys uniques = record { modules = t.modules; nodes = with_keys_at t.nodes i keys uniques; choices = t.choices; cases = t.cases }

-- ---- what holds of a schema tree

-- the name of the module that a node is of
abbrev pub module_in : Option Node → Option (List ℕ)
module_in None = None
module_in (Some n) = Some n.«module»

-- the module of node i
abbrev pub module_at : List Node → ℕ → Option (List ℕ)
module_at nodes i = module_in (slice_get nodes i)

-- a node may stand after these: at the top, or in one of them that has its module
abbrev pub may_follow : List Node → Option ℕ → List ℕ → Type 0
may_follow nodes None owner = Unit {0}
may_follow nodes (Some p) owner = module_at nodes p ≡ Some owner
