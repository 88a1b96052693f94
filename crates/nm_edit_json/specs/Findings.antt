-- What is found in the JSON of an edit by a schema: nodes and faults (RFC 6241 section 7.2, RFC 7951, RFC 7952; the faults are this project's own).
use Rattle.std.specs.Prelude.{ℕ, ◌==◌, ◌&&◌, ◌||◌, List, [], ◌∷◌, ◌++◌, map, length, codes, Bool, true, false, Option, Some, None, is_some, Result, Ok, Err, if◌then◌else◌, slice_get}
use Rattle.serde_json.specs.Data.{Data, null, array, object, Items, no_items, item, Members, no_members, member}
use Rattle.serde_json.specs.Find.{get_member}
use Rattle.nm_types.specs.LeafType.{TypeOfLeaf}
use Rattle.nm_types.specs.Path.{PathStep, whole, entry}
use Rattle.nm_types.specs.declared.value.Value.{Value}
use Rattle.nm_types.specs.declared.value.Value.TheVariants.{Present}
use Rattle.nm_schema_tree.specs.declared.node.Node.{Node}
use Rattle.nm_schema_tree.specs.declared.node.NodeKind.{NodeKind}
use Rattle.nm_schema_tree.specs.declared.node.NodeKind.TheVariants.{Container, Leaf, LeafList, List as ListOf}
use Rattle.nm_schema_tree.specs.Nodes.{SchemaTree, is_key}
use Rattle.nm_json.specs.declared.fault.JsonKind.{JsonKind}
use Rattle.nm_json.specs.declared.fault.JsonKind.TheVariants as json
use Rattle.nm_json.specs.declared.fault.Fault.{Fault as JsonFault}
use Rattle.nm_json.specs.Findings.{Spot, step_below, bare, node_named, is_twice, key_read, values_of, entry_path}
use Rattle.nm_json.specs.Values.{leaf_value}
use Rattle.nm_edit.specs.declared.operation.Operation.{Operation}
use Rattle.nm_edit.specs.declared.operation.Operation.TheVariants.{Merge}
use Rattle.nm_edit.specs.declared.edit.EditNode.{EditNode}
use Rattle.nm_edit.specs.EditOf.{is_removal}
use Rattle.nm_edit_json.specs.declared.said.Said.{Said}
use Rattle.nm_edit_json.specs.declared.said.Said.TheVariants.{Unsaid, Says, Misread}
use Rattle.nm_edit_json.specs.declared.fault.FaultKind.{FaultKind}
use Rattle.nm_edit_json.specs.declared.fault.FaultKind.TheVariants.{Unknown, Missing, Invalid, Annotation}
use Rattle.nm_edit_json.specs.declared.fault.Fault.{Fault}
use Rattle.nm_edit_json.specs.Annotations.{said_in, said_in_one}

-- a node that the edit names, or a fault
pub data Finding : Type 0 where
  named : EditNode → Finding
  wrong : Fault → Finding

-- an object of JSON: the path and the number of the container or entry that it is the value of, whether an operation other
-- than merge is said there or above, and all its members
pub record Around : Type 0 where
  pub above : List PathStep
  pub within : Option ℕ
  pub held : Bool
  pub all : Members

-- ---- faults

-- a fault at a path
abbrev pub fault_at : List PathStep → FaultKind → Fault
fault_at path kind = record { kind = kind; place = record { path = path; below = None } }

-- a fault at a name below a path
abbrev pub fault_below : List PathStep → List ℕ → FaultKind → Fault
fault_below path name kind = record { kind = kind; place = record { path = path; below = Some name } }

-- what of an edit is wrong as it is of a configuration
abbrev pub kind_of : JsonKind → FaultKind
kind_of json.Unknown = Unknown
kind_of json.MissingKey = Missing
kind_of json.BadForm = Invalid
kind_of json.BadValue = Invalid
kind_of json.Repeated = Invalid

-- a fault of a configuration as one of an edit
abbrev pub fault_of : JsonFault → Fault
fault_of f = record { kind = kind_of f.kind; place = f.place }

-- ---- what is said of a node

-- the operation that is said
abbrev pub told : Said → Option Operation
told Unsaid = None
told (Says operation) = Some operation
told Misread = None

-- below these operations only merge may be said (this project's own)
abbrev pub is_strong : Operation → Bool
is_strong Merge = false
is_strong _ = true

-- whether such an operation is said of a node or above it
abbrev pub held_by : Bool → Said → Bool
held_by held Unsaid = held
held_by held (Says operation) = held || is_strong operation
held_by held Misread = held

-- what may not be said of a node
abbrev pub is_misplaced : Bool → Said → Bool
is_misplaced held Unsaid = false
is_misplaced held (Says operation) = held && is_strong operation
is_misplaced held Misread = true

-- a fault of an annotation, if it has one
abbrev pub misplaced_found : List PathStep → Bool → List Finding
misplaced_found path false = []
misplaced_found path true = wrong (fault_at path Annotation) ∷ []

-- a node with what is said of it
abbrev pub node_found : List PathStep → Bool → Said → Option Value → List Finding
node_found path held said value = named (record { path = path; operation = told said; value = value }) ∷ misplaced_found path (is_misplaced held said)

-- ---- annotations of children (RFC 7952 section 5.2)

-- what a member belongs to whose name begins with an at sign: a name, and the object itself where nothing more stands there
abbrev pub annotated : List ℕ → Option (List ℕ)
annotated [] = None
annotated (b ∷ name) = if b == 64 then Some name else None

-- a name with its module's name before it (RFC 7951 section 4)
abbrev pub long_name : Node → List ℕ
long_name n = n.«module» ++ 58 ∷ n.name

-- the member of a name without its module's, which none has at the top
abbrev pub short_member : Option ℕ → List ℕ → Members → Option Data
short_member None name all = None
short_member (Some i) name all = get_member name all

-- whether a child has a member
abbrev pub is_there : Around → Node → Bool
is_there o n = is_some (short_member o.within n.name o.all) || is_some (get_member (long_name n) o.all)

-- what is said of a leaf
abbrev pub said_of : Around → Node → Said
said_of o n = said_in_one (short_member o.within (64 ∷ n.name) o.all) (get_member (64 ∷ long_name n) o.all)

-- what is said of the container or entry that an object is the value of
abbrev pub own_said : Members → Said
own_said ms = said_in (get_member (codes "@") ms)

-- the annotations of a leaf-list's entries, if it is an array
abbrev pub notes_in : Option Data → Option Items
notes_in None = Some no_items
notes_in (Some (array notes)) = Some notes
notes_in (Some _) = None

-- the same where there may be one with and one without the module's name: not both (this project's own)
abbrev pub notes_in_one : Option Data → Option Data → Option Items
notes_in_one None long = notes_in long
notes_in_one (Some d) None = notes_in (Some d)
notes_in_one (Some d) (Some e) = None

-- the annotations of the entries of a leaf-list
abbrev pub notes_of : Around → Node → Option Items
notes_of o n = notes_in_one (short_member o.within (64 ∷ n.name) o.all) (get_member (64 ∷ long_name n) o.all)

-- what is said of an entry of a leaf-list: nothing by null (RFC 7952 section 5.2.3)
abbrev pub said_item : Data → Said
said_item null = Unsaid
said_item d = said_in (Some d)

-- what is said where there may be an annotation of an entry
abbrev pub said_next : Option Data → Said
said_next None = Unsaid
said_next (Some d) = said_item d

-- the next annotation
abbrev pub first : Items → Option Data
first no_items = None
first (item d notes) = Some d

-- the annotations of the entries after the next
abbrev pub later : Items → Items
later no_items = no_items
later (item d notes) = notes

-- there are more annotations than entries
abbrev pub is_longer : Items → Items → Bool
is_longer no_items ds = false
is_longer (item e notes) no_items = true
is_longer (item e notes) (item d ds) = is_longer notes ds

-- ---- values. A bad one is the lesser fault at its place than one of its annotation.

-- a leaf, or the fault of its value
abbrev pub leaf_found : Spot → Bool → Said → Result Value JsonKind → List Finding
leaf_found s held said (Ok v) = node_found (bare s) held said (Some v)
leaf_found s held said (Err kind) = wrong (fault_at (bare s) (kind_of kind)) ∷ []

-- an entry of a leaf-list, or the fault of its value
abbrev pub value_found : Spot → Bool → Said → Result Value JsonKind → List Finding
value_found s held said (Ok v) = node_found (step_below s.above s.node (entry v)) held said (Some v)
value_found s held said (Err kind) = wrong (fault_at (bare s) (kind_of kind)) ∷ []

-- the entries of a leaf-list, with the annotations at the same positions
abbrev pub values_found : Spot → TypeOfLeaf → Bool → Items → Items → List Finding
values_found s leaf_type held no_items notes = []
values_found s leaf_type held (item d ds) notes =
    value_found s held (said_next (first notes)) (leaf_value leaf_type d) ++ values_found s leaf_type held ds (later notes)

-- the same where there may be no such annotations, or too many
abbrev pub noted_found : Spot → TypeOfLeaf → Bool → Option Items → Items → List Finding
noted_found s leaf_type held None ds = misplaced_found (bare s) true ++ values_found s leaf_type held ds no_items
noted_found s leaf_type held (Some notes) ds = misplaced_found (bare s) (is_longer notes ds) ++ values_found s leaf_type held ds notes

-- a JSON value of another kind than the node wants
abbrev pub misfit : Spot → List Finding
misfit s = wrong (fault_at (bare s) Invalid) ∷ []

-- the array of a leaf-list
abbrev pub leaf_list_found : Spot → TypeOfLeaf → Bool → Option Items → Data → List Finding
leaf_list_found s leaf_type held notes (array ds) = noted_found s leaf_type held notes ds
leaf_list_found s leaf_type held notes d = misfit s

-- ---- annotations where there is no member for the child

-- a leaf that is only taken away needs no value
abbrev pub removed_found : List PathStep → Bool → Said → List Finding
removed_found path held said = if is_removal (told said) then node_found path held said None else misplaced_found path true

-- a leaf-list without a member has no entries
abbrev pub empty_found : Around → Node → TypeOfLeaf → List Finding
empty_found o n leaf_type = noted_found (record { above = o.above; number = 0; node = n }) leaf_type o.held (notes_of o n) no_items

-- by what the child is; nothing else carries an annotation beside it
abbrev pub absent_found : Around → Node → NodeKind → List Finding
absent_found o n (Leaf leaf_type default mandatory reference) = removed_found (step_below o.above n whole) o.held (said_of o n)
absent_found o n (LeafList leaf_type reference elements) = empty_found o n leaf_type
absent_found o n _ = misplaced_found (step_below o.above n whole) true

-- whether a child of this kind is read with its annotation, which stands beside it
abbrev pub is_carrier : NodeKind → Bool
is_carrier (Container presence) = false
is_carrier (Leaf leaf_type default mandatory reference) = true
is_carrier (LeafList leaf_type reference elements) = true
is_carrier (ListOf ks uniques elements) = false

-- the annotation of a child that is no key, which is read with the child if that is there
abbrev pub carried_found : Around → Node → List Finding
carried_found o n = if is_carrier n.kind && is_there o n then [] else absent_found o n n.kind

-- the annotation of node i, if there is one
abbrev pub child_found : Around → Bool → Option Node → List Finding
child_found o key None = []
child_found o false (Some n) = carried_found o n
child_found o true (Some n) = misplaced_found (step_below o.above n whole) true

-- the annotation of a name, which may lead nowhere
abbrev pub name_noted : SchemaTree → Around → List ℕ → Option ℕ → List Finding
name_noted t o name None = wrong (fault_below o.above name Annotation) ∷ []
name_noted t o name (Some i) = child_found o (is_key t.nodes i) (slice_get t.nodes i)

-- the annotation of the object itself, which is read with its node; at the top there is none
abbrev pub own_found : Around → Option ℕ → List Finding
own_found o None = misplaced_found o.above true
own_found o (Some i) = []

-- a member whose name begins with an at sign, by what follows
abbrev pub annotation_found : SchemaTree → Around → List ℕ → List Finding
annotation_found t o [] = own_found o o.within
annotation_found t o (b ∷ name) = name_noted t o (b ∷ name) (node_named t o.within (b ∷ name))

-- ---- names of members (RFC 7951 section 4)

-- a fault where a second member leads to a node
abbrev pub twice_found : Around → Bool → Option Node → List Finding
twice_found o twice None = []
twice_found o false (Some n) = []
twice_found o true (Some n) = wrong (fault_at (step_below o.above n whole) Invalid) ∷ []

-- a fault where a name leads to no node, or to one that a second member leads to
abbrev pub named_found : SchemaTree → Around → List ℕ → Option ℕ → List Finding
named_found t o name None = wrong (fault_below o.above name Unknown) ∷ []
named_found t o name (Some i) = twice_found o (is_twice o.within name o.all) (slice_get t.nodes i)

-- the faults of a member's name, or of the annotation that it is
abbrev pub name_found : SchemaTree → Around → List ℕ → Option (List ℕ) → List Finding
name_found t o name None = named_found t o name (node_named t o.within name)
name_found t o name (Some rest) = annotation_found t o rest

-- ---- containers and lists

-- the value of the row of a container
abbrev pub presence_value : Bool → Option Value
presence_value presence = if presence then Some Present else None

-- the faults among what was read of keys
abbrev pub faults_of : List (Result Value JsonFault) → List Finding
faults_of [] = []
faults_of (Ok v ∷ reads) = faults_of reads
faults_of (Err fault ∷ reads) = wrong (fault_of fault) ∷ faults_of reads

-- the faults of an entry's keys, and where there are none the entry and what is in it
abbrev pub entry_found : Spot → List (Result Value JsonFault) → Bool → Said → List Finding → List Finding
entry_found s reads held said inner =
    faults_of reads ++ (if length (values_of reads) == length reads then node_found (entry_path s reads) held said (Some Present) ++ inner else [])

-- what a JSON value is looked at for: as the value of a leaf with what is said of it, of a leaf-list with its annotations, of a
-- container or of a list; as an item of the array of a list; or not at all
pub data Wanted : Type 0 where
  ignored : Wanted
  leaf : Spot → TypeOfLeaf → Bool → Said → Wanted
  leaf_list : Spot → TypeOfLeaf → Bool → Option Items → Wanted
  container : Spot → Bool → Bool → Wanted
  list : Spot → List ℕ → Bool → Wanted
  list_item : Spot → List ℕ → Bool → Wanted

-- what is wanted of the value of a node, by what the node is
abbrev pub wanted_as : Around → Spot → NodeKind → Wanted
wanted_as o s (Container presence) = container s presence o.held
wanted_as o s (Leaf leaf_type default mandatory reference) = leaf s leaf_type o.held (said_of o s.node)
wanted_as o s (LeafList leaf_type reference elements) = leaf_list s leaf_type o.held (notes_of o s.node)
wanted_as o s (ListOf ks uniques elements) = list s ks o.held

-- what is wanted of the value of node i, if there is one
abbrev pub wanted_of : Around → ℕ → Option Node → Wanted
wanted_of o i None = ignored
wanted_of o i (Some n) = wanted_as o (record { above = o.above; number = i; node = n }) n.kind

-- the same of a node that is no key: the keys of an entry are read before
abbrev pub wanted_at : SchemaTree → Around → Option ℕ → Wanted
wanted_at t o None = ignored
wanted_at t o (Some i) = if is_key t.nodes i then ignored else wanted_of o i (slice_get t.nodes i)

-- a member is the value of the node that it leads to, or an annotation
abbrev pub wanted : SchemaTree → Around → List ℕ → Option (List ℕ) → Wanted
wanted t o name None = wanted_at t o (node_named t o.within name)
wanted t o name (Some rest) = ignored

-- the object of a container, or of an entry at a path
abbrev pub inside : List PathStep → ℕ → Bool → Members → Around
inside path number held ms = record { above = path; within = Some number; held = held_by held (own_said ms); all = ms }

abbrev mutual
  -- what is found in a JSON value
  pub found : SchemaTree → Wanted → Data → List Finding
  found t ignored d = []
  found t (leaf s leaf_type held said) d = leaf_found s held said (leaf_value leaf_type d)
  found t (leaf_list s leaf_type held notes) d = leaf_list_found s leaf_type held notes d
  found t (container s presence held) (object ms) =
      node_found (bare s) held (own_said ms) (presence_value presence) ++ members_found t (inside (bare s) s.number held ms) ms
  found t (list s ks held) (array ds) = items_found t (list_item s ks held) ds
  found t (list_item s ks held) (object ms) =
      entry_found s (map (key_read t (bare s) ms) ks) held (own_said ms)
      (members_found t (inside (entry_path s (map (key_read t (bare s) ms) ks)) s.number held ms) ms)
  found t (container s presence held) d = misfit s
  found t (list s ks held) d = misfit s
  found t (list_item s ks held) d = misfit s

  -- what is found in the items of an array
  pub items_found : SchemaTree → Wanted → Items → List Finding
  items_found t w no_items = []
  items_found t w (item d ds) = found t w d ++ items_found t w ds

  -- what is found in members of an object
  pub members_found : SchemaTree → Around → Members → List Finding
  members_found t o no_members = []
  members_found t o (member name d rest) =
      (name_found t o name (annotated name) ++ found t (wanted t o name (annotated name)) d) ++ members_found t o rest

-- the object of the whole
abbrev pub top : Members → Around
top ms = record { above = []; within = None; held = false; all = ms }

-- what is found in a whole edit
abbrev pub whole_found : SchemaTree → Data → List Finding
whole_found t (object ms) = members_found t (top ms) ms
whole_found t _ = wrong (fault_at [] Invalid) ∷ []
