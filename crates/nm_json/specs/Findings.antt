-- What is found in a JSON value by a schema: rows and faults (RFC 7951 sections 4 and 5; the faults are this project's own).
use Rattle.std.specs.Prelude.{◌≡◌, ℕ, ◌==◌, ◌&&◌, List, [], ◌∷◌, ◌++◌, map, length, Bool, true, false, Option, Some, None, is_some, Result, Ok, Err, if◌then◌else◌, slice_get}
use Rattle.std.specs.List.{list_any, before_first, after_first}
use Rattle.serde_json.specs.Data.{Data, array, object, Items, no_items, item, Members, no_members, member}
use Rattle.serde_json.specs.Find.{get_member}
use Rattle.nm_types.specs.LeafType.{TypeOfLeaf}
use Rattle.nm_types.specs.Path.{PathStep, Choice, whole, keys, entry}
use Rattle.nm_types.specs.declared.value.Value.{Value}
use Rattle.nm_types.specs.declared.value.Value.TheVariants.{Present}
use Rattle.nm_schema_tree.specs.declared.node.Node.{Node}
use Rattle.nm_schema_tree.specs.declared.node.NodeKind.{NodeKind}
use Rattle.nm_schema_tree.specs.declared.node.NodeKind.TheVariants.{Container, Leaf, LeafList, List as ListOf}
use Rattle.nm_schema_tree.specs.Nodes.{SchemaTree, first_named, first_top, is_key, type_of}
use Rattle.nm_path.specs.Spelling.{is_module}
use Rattle.nm_json.specs.declared.fault.JsonKind.{JsonKind}
use Rattle.nm_json.specs.declared.fault.JsonKind.TheVariants.{Unknown, BadForm, MissingKey, Repeated}
use Rattle.nm_json.specs.declared.fault.Fault.{Fault}
use Rattle.nm_json.specs.declared.fault.Stop.{Stop}
use Rattle.nm_json.specs.declared.fault.Stop.TheVariants.{Bad, NoMemory}
use Rattle.nm_json.specs.Values.{leaf_value}

-- a row of the configuration, or a fault
pub data Finding : Type 0 where
  row : List PathStep → Value → Finding
  bad : Fault → Finding

-- a node with its number, and the path that it is looked for below
pub record Spot : Type 0 where
  pub above : List PathStep
  pub number : ℕ
  pub node : Node

-- a path with one step more, which leads to a node
abbrev pub step_below : List PathStep → Node → Choice → List PathStep
step_below above n choice = above ++ record { «module» = n.«module»; name = n.name; chosen = choice } ∷ []

-- the path of a spot's node without a choice
abbrev pub bare : Spot → List PathStep
bare s = step_below s.above s.node whole

-- a fault at a path
abbrev pub fault_at : List PathStep → JsonKind → Fault
fault_at path kind = record { kind = kind; place = record { path = path; below = None } }

-- a fault at a name below a path
abbrev pub fault_below : List PathStep → List ℕ → JsonKind → Fault
fault_below path name kind = record { kind = kind; place = record { path = path; below = Some name } }

-- ---- names of members (RFC 7951 section 4)

-- the byte between a module's name and a name
abbrev pub is_colon : ℕ → Bool
is_colon b = b == 58

-- whether a name has its module's name before it
unfoldable pub has_colon : List ℕ → Bool
has_colon name = list_any is_colon name

-- the node in node i that a name and perhaps the module's name lead to
unfoldable pub named_in : SchemaTree → ℕ → List ℕ → Option ℕ
named_in t i name =
    if has_colon name
    then (if is_module (before_first is_colon name) (slice_get t.nodes i) then first_named t.nodes i (after_first is_colon name) else None)
    else first_named t.nodes i name

-- the node at the top that a module and a name lead to
unfoldable pub named_top : SchemaTree → List ℕ → Option ℕ
named_top t name = if has_colon name then first_top t.nodes (before_first is_colon name) (after_first is_colon name) else None

-- the node that the name of a member leads to, in an object of node `within` or at the top
abbrev pub node_named : SchemaTree → Option ℕ → List ℕ → Option ℕ
node_named t None name = named_top t name
node_named t (Some i) name = named_in t i name

-- below the top a member with the module's name stands for the one without it, if both are there
unfoldable pub is_twice : Option ℕ → List ℕ → Members → Bool
is_twice None name all = false
is_twice (Some i) name all = has_colon name && is_some (get_member (after_first is_colon name) all)

-- a fault where the path to a node ends
abbrev pub twice_found : List PathStep → Bool → Option Node → List Finding
twice_found above twice None = []
twice_found above false (Some n) = []
twice_found above true (Some n) = bad (fault_at (step_below above n whole) Repeated) ∷ []

-- a fault where a name leads to no node, or to one that a second member leads to
abbrev pub named_found : SchemaTree → List PathStep → Bool → List ℕ → Option ℕ → List Finding
named_found t above twice name None = bad (fault_below above name Unknown) ∷ []
named_found t above twice name (Some i) = twice_found above twice (slice_get t.nodes i)

-- the fault of a member's name
abbrev pub name_found : SchemaTree → List PathStep → Option ℕ → Members → List ℕ → List Finding
name_found t above within all name = named_found t above (is_twice within name all) name (node_named t within name)

-- ---- the keys of an entry (RFC 7950 section 7.8.2)

-- the fault of a key: where it lacks it is at the list, and else at the name of the key in the list (this project's own)
abbrev pub key_fault : List PathStep → List ℕ → JsonKind → Fault
key_fault path name MissingKey = fault_at path MissingKey
key_fault path name kind = fault_below path name kind

-- the value of a key, or its fault
abbrev pub or_fault : List PathStep → List ℕ → Result Value JsonKind → Result Value Fault
or_fault path name (Ok v) = Ok v
or_fault path name (Err kind) = Err (key_fault path name kind)

-- a value of the type of a node, which a node that is no leaf hasn't
abbrev pub typed_value : Option TypeOfLeaf → Data → Result Value JsonKind
typed_value None d = Err BadForm
typed_value (Some t) d = leaf_value t d

-- the value of a key: of the one member that has it
abbrev pub key_value : Option TypeOfLeaf → Option Data → Option Data → Result Value JsonKind
key_value t None None = Err MissingKey
key_value t (Some d) None = typed_value t d
key_value t None (Some d) = typed_value t d
key_value t (Some d) (Some e) = Err Repeated

-- the member of a name, with or without the module's name
abbrev pub key_from : List PathStep → Members → Option Node → Result Value Fault
key_from path ms None = Err (fault_at path MissingKey)
key_from path ms (Some n) = or_fault path n.name (key_value (type_of n.kind) (get_member n.name ms) (get_member (n.«module» ++ 58 ∷ n.name) ms))

-- the value of key k of an entry, or its fault
unfoldable pub key_read : SchemaTree → List PathStep → Members → ℕ → Result Value Fault
key_read t path ms k = key_from path ms (slice_get t.nodes k)

-- the values among what was read of keys
abbrev pub values_of : List (Result Value Fault) → List Value
values_of [] = []
values_of (Ok v ∷ reads) = v ∷ values_of reads
values_of (Err fault ∷ reads) = values_of reads

-- the faults among what was read of keys
abbrev pub faults_of : List (Result Value Fault) → List Finding
faults_of [] = []
faults_of (Ok v ∷ reads) = faults_of reads
faults_of (Err fault ∷ reads) = bad fault ∷ faults_of reads

-- the path of an entry by what was read of its keys
abbrev pub entry_path : Spot → List (Result Value Fault) → List PathStep
entry_path s reads = step_below s.above s.node (keys (values_of reads))

-- the faults of an entry's keys, and where there are none its row and what is in it
abbrev pub entry_found : Spot → List (Result Value Fault) → List Finding → List Finding
entry_found s reads inner = faults_of reads ++ (if length (values_of reads) == length reads then row (entry_path s reads) Present ∷ inner else [])

-- ---- values

-- a row with the value of a leaf, or its fault
abbrev pub leaf_found : List PathStep → Result Value JsonKind → List Finding
leaf_found path (Ok v) = row path v ∷ []
leaf_found path (Err kind) = bad (fault_at path kind) ∷ []

-- a row for a value of a leaf-list, or its fault
abbrev pub value_found : Spot → Result Value JsonKind → List Finding
value_found s (Ok v) = row (step_below s.above s.node (entry v)) v ∷ []
value_found s (Err kind) = bad (fault_at (bare s) kind) ∷ []

-- a row for a container with presence (RFC 7950 section 7.5.1)
abbrev pub presence_found : Spot → Bool → List Finding
presence_found s false = []
presence_found s true = row (bare s) Present ∷ []

-- what a JSON value is looked at for: as the value of a container, of which it says whether it has presence, of a leaf or
-- leaf-list of a type, or of a list with keys; as an item of the array of one of the two; or not at all
pub data Wanted : Type 0 where
  ignored : Wanted
  container : Spot → Bool → Wanted
  leaf : Spot → TypeOfLeaf → Wanted
  leaf_list : Spot → TypeOfLeaf → Wanted
  list : Spot → List ℕ → Wanted
  leaf_item : Spot → TypeOfLeaf → Wanted
  list_item : Spot → List ℕ → Wanted

-- what is wanted of the value of a node, by what the node is
abbrev pub wanted_as : Spot → NodeKind → Wanted
wanted_as s (Container presence) = container s presence
wanted_as s (Leaf leaf_type default mandatory reference) = leaf s leaf_type
wanted_as s (LeafList leaf_type reference elements) = leaf_list s leaf_type
wanted_as s (ListOf ks uniques elements) = list s ks

-- what is wanted of the value of node i, if there is one
abbrev pub wanted_of : List PathStep → ℕ → Option Node → Wanted
wanted_of above i None = ignored
wanted_of above i (Some n) = wanted_as (record { above = above; number = i; node = n }) n.kind

-- a member is the value of the node that it leads to. The keys of an entry are read before.
abbrev pub wanted : SchemaTree → List PathStep → Option ℕ → Wanted
wanted t above None = ignored
wanted t above (Some i) = if is_key t.nodes i then ignored else wanted_of above i (slice_get t.nodes i)

-- a JSON value of another kind than the node wants
abbrev pub misfit : Spot → List Finding
misfit s = bad (fault_at (bare s) BadForm) ∷ []

abbrev mutual
  -- what is found in a JSON value
  pub found : SchemaTree → Wanted → Data → List Finding
  found t ignored d = []
  found t (leaf s leaf_type) d = leaf_found (bare s) (leaf_value leaf_type d)
  found t (leaf_item s leaf_type) d = value_found s (leaf_value leaf_type d)
  found t (container s presence) (object ms) = presence_found s presence ++ members_found t (bare s) (Some s.number) ms ms
  found t (leaf_list s leaf_type) (array ds) = items_found t (leaf_item s leaf_type) ds
  found t (list s ks) (array ds) = items_found t (list_item s ks) ds
  found t (list_item s ks) (object ms) =
      entry_found s (map (key_read t (bare s) ms) ks) (members_found t (entry_path s (map (key_read t (bare s) ms) ks)) (Some s.number) ms ms)
  found t (container s presence) d = misfit s
  found t (leaf_list s leaf_type) d = misfit s
  found t (list s ks) d = misfit s
  found t (list_item s ks) d = misfit s

  -- what is found in the items of an array
  pub items_found : SchemaTree → Wanted → Items → List Finding
  items_found t w no_items = []
  items_found t w (item d ds) = found t w d ++ items_found t w ds

  -- what is found in members of an object, which has them all, of node `within` or at the top
  pub members_found : SchemaTree → List PathStep → Option ℕ → Members → Members → List Finding
  members_found t above within all no_members = []
  members_found t above within all (member name d rest) =
      (name_found t above within all name ++ found t (wanted t above (node_named t within name)) d) ++ members_found t above within all rest

-- what is found in a whole configuration
abbrev pub whole_found : SchemaTree → Data → List Finding
whole_found t (object ms) = members_found t [] None ms ms
whole_found t _ = bad (fault_at [] BadForm) ∷ []

-- a key is as it was read, unless memory ran out
abbrev pub IsKeyRead : Result Value Stop → Result Value Fault → Type 0
IsKeyRead (Ok v) given = given ≡ Ok v
IsKeyRead (Err (Bad fault)) given = given ≡ Err fault
IsKeyRead (Err NoMemory) given = Unit {0}
