-- Which paths of a schema there are, and how their texts are spelled (RFC 7950 sections 6.4 and 9.13; the text is this project's own).
use Rattle.std.specs.Prelude.{◌≡◌, ℕ, ◌<◌, List, [], ◌∷◌, length, codes, Bool, true, false, ◌&&◌, Option, Some, None, is_some, if◌then◌else◌, slice_get, ⊤}
use Rattle.std.specs.List.{find}
use Rattle.std.specs.Str.{bytes_eq}
use Rattle.nm_types.specs.declared.value.Value.{Value}
use Rattle.nm_types.specs.LeafType.{TypeOfLeaf}
use Rattle.nm_types.specs.Spells.{SpellsValue}
use Rattle.nm_types.specs.Limits.{MeetsLimits}
use Rattle.nm_types.specs.Path.{Choice, whole, keys, entry, PathStep}
use Rattle.nm_schema_tree.specs.declared.node.Node.{Node}
use Rattle.nm_schema_tree.specs.declared.node.NodeKind.{NodeKind}
use Rattle.nm_schema_tree.specs.declared.node.NodeKind.TheVariants as kind
use Rattle.nm_schema_tree.specs.Nodes.{SchemaTree, first_top, first_named, type_at}
use Rattle.nm_path.specs.declared.place.Place.{Place}
use Rattle.nm_path.specs.declared.place.Place.TheVariants.{Top, Within, Nowhere}
use Rattle.nm_path.specs.declared.form.Predicate.{Predicate}
use Rattle.nm_path.specs.Form.{WrittenStep, HasForm}

-- ---- the nodes that names lead to

-- a node is of the module with this name
abbrev pub is_module : List ℕ → Option Node → Bool
is_module owner None = false
is_module owner (Some n) = bytes_eq n.«module» owner

-- a node, if it is of the module with this name
abbrev pub if_of : List Node → List ℕ → Option ℕ → Option ℕ
if_of nodes owner None = None
if_of nodes owner (Some at) = if is_module owner (slice_get nodes at) then Some at else None

-- the node of a module and a name at a place
abbrev pub found_of : List Node → Place → List ℕ → List ℕ → Option ℕ
found_of nodes Top owner name = first_top nodes owner name
found_of nodes (Within i) owner name = if_of nodes owner (first_named nodes i name)
found_of nodes Nowhere owner name = None

-- the node of a name below the top, where all have the module of their top
abbrev pub found_bare : List Node → Place → List ℕ → Option ℕ
found_bare nodes Top name = None
found_bare nodes (Within i) name = first_named nodes i name
found_bare nodes Nowhere name = None

-- the node that a step leads to, with its module written or not
abbrev pub found : List Node → Place → Option (List ℕ) → List ℕ → Option ℕ
found nodes place None name = found_bare nodes place name
found nodes place (Some owner) name = found_of nodes place owner name

-- where the step after one is looked for
abbrev pub below : Option ℕ → Place
below None = Nowhere
below (Some at) = Within at

-- the node that a path leads to from a place, whatever its steps choose
abbrev pub node_from : List Node → Place → Option ℕ → List PathStep → Option ℕ
node_from nodes place last [] = last
node_from nodes place last (s ∷ ss) = node_from nodes (below (found_of nodes place s.«module» s.name)) (found_of nodes place s.«module» s.name) ss

-- the node that a path leads to
unfoldable pub node_of : SchemaTree → List PathStep → Option ℕ
node_of tree path = node_from tree.nodes Top None path

-- ---- the spelling of a path

-- the first predicate of a key
unfoldable pub predicate_of : List Predicate → List ℕ → Option Predicate
predicate_of ps key = find (λ p. bytes_eq p.key key) ps

-- the name of a node
abbrev pub name_in : Option Node → List ℕ
name_in None = []
name_in (Some n) = n.name

-- the name of node i
abbrev pub name_at : List Node → ℕ → List ℕ
name_at nodes i = name_in (slice_get nodes i)

-- the predicate of a key spells a value of the leaf or leaf-list `at`
pub record SpellsKey (nodes : List Node) (at : ℕ) (key : List ℕ) (ps : List Predicate) (v : Value) : Type 0 where
  pub leaf_type : TypeOfLeaf
  pub predicate : Predicate
  pub typed : type_at nodes at ≡ Some leaf_type
  pub given : predicate_of ps key ≡ Some predicate
  pub spelled : SpellsValue leaf_type.kind predicate.value v
  pub within : MeetsLimits leaf_type v

-- there is a predicate for each key, by the name of its leaf; these spell the values in the order of the keys
abbrev pub SpellsKeys : List Node → List Predicate → List ℕ → List Value → Type 0
SpellsKeys nodes ps [] [] = ⊤
SpellsKeys nodes ps (k ∷ ks) (v ∷ vs) = SpellsKey nodes k (name_at nodes k) ps v × SpellsKeys nodes ps ks vs
SpellsKeys nodes ps _ _ = ⊥

-- Predicates spell what is chosen of node `at`: an entry of a list by one predicate for each key and no more, in any
-- order, an entry of a leaf-list by `[.='value']` alone. A leaf and a container have none, and no predicates choose
-- nothing of a list.
abbrev pub SpellsChoice : List Node → ℕ → NodeKind → List Predicate → Choice → Type 0
SpellsChoice nodes at (kind.Container p) ps whole = length ps ≡ 0
SpellsChoice nodes at (kind.Leaf t d m r) ps whole = length ps ≡ 0
SpellsChoice nodes at (kind.LeafList t r e) ps (entry v) = (length ps ≡ 1) × SpellsKey nodes at (codes ".") ps v
SpellsChoice nodes at (kind.List ks u e) ps (keys vs) = (0 < length ps) × (length ps ≡ length ks) × SpellsKeys nodes ps ks vs
SpellsChoice nodes at _ ps _ = ⊥

-- a written step leads to node `at` of a schema, and is this step of a path
pub record SpellsStep (nodes : List Node) (place : Place) (w : WrittenStep) (s : PathStep) (at : ℕ) : Type 0 where
  pub node : Node
  pub leads : found nodes place w.owner w.name ≡ Some at
  pub there : slice_get nodes at ≡ Some node
  pub «module» : s.«module» ≡ node.«module»
  pub name : s.name ≡ w.name
  pub chosen : SpellsChoice nodes at node.kind w.predicates s.chosen

-- written steps lead through the schema from a place, and are these steps of a path
abbrev pub SpellsSteps : List Node → Place → List WrittenStep → List PathStep → Type 0
SpellsSteps nodes place [] [] = ⊤
SpellsSteps nodes place (w ∷ ws) (s ∷ ss) = (at : ℕ) × SpellsStep nodes place w s at × SpellsSteps nodes (Within at) ws ss
SpellsSteps nodes place _ _ = ⊥

-- a text spells a path of a schema: it has the form of a path, and its steps lead through the schema from the top
pub record SpellsPath (tree : SchemaTree) (text : List ℕ) (path : List PathStep) : Type 0 where
  pub steps : List WrittenStep
  pub form : HasForm text steps
  pub spelled : SpellsSteps tree.nodes Top steps path

-- whether the names of written steps lead through the schema, whatever their predicates
abbrev pub are_named : List Node → Place → List WrittenStep → Bool
are_named nodes place [] = true
are_named nodes place (w ∷ ws) = is_some (found nodes place w.owner w.name) && are_named nodes (below (found nodes place w.owner w.name)) ws

-- a text has the form of a path, and a name in it isn't in the schema
pub record IsUnknown (tree : SchemaTree) (text : List ℕ) : Type 0 where
  pub steps : List WrittenStep
  pub form : HasForm text steps
  pub lost : are_named tree.nodes Top steps ≡ false

-- ---- the paths of a schema

-- a value is one of the type of the leaf or leaf-list `at`: something spells it
pub record HasType (nodes : List Node) (at : ℕ) (v : Value) : Type 0 where
  pub leaf_type : TypeOfLeaf
  pub text : List ℕ
  pub typed : type_at nodes at ≡ Some leaf_type
  pub spelled : SpellsValue leaf_type.kind text v
  pub within : MeetsLimits leaf_type v

-- there is a value for each key, of its type
abbrev pub HaveTypes : List Node → List ℕ → List Value → Type 0
HaveTypes nodes [] [] = ⊤
HaveTypes nodes (k ∷ ks) (v ∷ vs) = HasType nodes k v × HaveTypes nodes ks vs
HaveTypes nodes _ _ = ⊥

-- what may be chosen of node `at`: an entry of a list or leaf-list, of other nodes nothing; a list or leaf-list may be bare where that is said
abbrev pub IsChoice : List Node → Bool → ℕ → NodeKind → Choice → Type 0
IsChoice nodes bare at (kind.Container p) whole = ⊤
IsChoice nodes bare at (kind.Leaf t d m r) whole = ⊤
IsChoice nodes bare at (kind.LeafList t r e) (entry v) = HasType nodes at v
IsChoice nodes bare at (kind.List ks u e) (keys vs) = (0 < length ks) × HaveTypes nodes ks vs
IsChoice nodes bare at (kind.LeafList t r e) whole = bare ≡ true
IsChoice nodes bare at (kind.List ks u e) whole = bare ≡ true
IsChoice nodes bare at _ _ = ⊥

-- a step of a path leads to node `at`
pub record IsStep (nodes : List Node) (bare : Bool) (place : Place) (s : PathStep) (at : ℕ) : Type 0 where
  pub node : Node
  pub leads : found_of nodes place s.«module» s.name ≡ Some at
  pub there : slice_get nodes at ≡ Some node
  pub chosen : IsChoice nodes bare at node.kind s.chosen

-- no step follows
abbrev pub is_last : List PathStep → Bool
is_last [] = true
is_last (s ∷ ss) = false

-- steps lead through the schema from a place; the last may be a bare list or leaf-list where that is said
abbrev pub AreSteps : List Node → Bool → Place → List PathStep → Type 0
AreSteps nodes bare place [] = ⊤
AreSteps nodes bare place (s ∷ ss) = (at : ℕ) × IsStep nodes (bare && is_last ss) place s at × AreSteps nodes bare (Within at) ss

-- a path has at least one step
abbrev pub HasSteps : List PathStep → Type 0
HasSteps [] = ⊥
HasSteps (s ∷ ss) = ⊤

-- a path of a schema; its last step may be a bare list or leaf-list
pub record IsPath (tree : SchemaTree) (path : List PathStep) : Type 0 where
  pub some : HasSteps path
  pub steps : AreSteps tree.nodes true Top path

-- a path of a schema without a bare list or leaf-list
pub record IsFullPath (tree : SchemaTree) (path : List PathStep) : Type 0 where
  pub some : HasSteps path
  pub steps : AreSteps tree.nodes false Top path
