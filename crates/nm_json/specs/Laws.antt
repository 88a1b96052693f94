-- What is answered of a JSON value in terms of all its faults, which orders make no difference, and which values are read back.
use Rattle.std.specs.Prelude.{◌≡◌, ℕ, ◌≤◌, negsuc, ◌≤ℤ◌, List, [], ◌∷◌, ◌⊎◌, true, false, ⊤}
use Rattle.std.specs.List.{AllByRecursion}
use Rattle.std.specs.Ordering.{is_lt}
use Rattle.std.specs.FinMap.{empty, len}
use Rattle.serde_json.specs.Data.{Data, array, object, Items, item, Members, no_members, member}
use Rattle.nm_types.specs.LeafType.{Kind, integer, TypeOfLeaf}
use Rattle.nm_types.specs.Limits.{MeetsLimits}
use Rattle.nm_types.specs.Canonical.{IsHeld}
use Rattle.nm_types.specs.Spells.{SpellsValue, HasDistinctNames}
use Rattle.nm_types.specs.declared.value.Value.{Value}
use Rattle.nm_schema_tree.specs.Nodes.{SchemaTree}
use Rattle.nm_config.specs.Rows.{Rows}
use Rattle.nm_json.specs.declared.fault.JsonKind.{JsonKind}
use Rattle.nm_json.specs.declared.fault.Fault.{Fault}
use Rattle.nm_json.specs.Places.{fault_cmp, place_text}
use Rattle.nm_json.specs.Values.{is_narrow}
use Rattle.nm_json.specs.Findings.{whole_found}
use Rattle.nm_json.specs.Whole.{rows_of, faults_found, row_limit}

-- all faults of a JSON value
abbrev pub all_faults : SchemaTree → Data → List Fault
all_faults t d = faults_found empty (whole_found t d)

-- a fault is one of these
abbrev pub IsAmong : Fault → List Fault → Type 0
IsAmong f [] = ⊥
IsAmong f (g ∷ gs) = (f ≡ g) ⊎ IsAmong f gs

-- a fault doesn't stand after another
abbrev pub IsUpto : Fault → Fault → Type 0
IsUpto f g = is_lt (fault_cmp g f) ≡ false

-- a fault is one of these, and none stands before it
pub record IsLeast (f : Fault) (fs : List Fault) : Type 0 where
  pub among : IsAmong f fs
  pub least : AllByRecursion (IsUpto f) fs

-- the least fault has this kind, and its place this text
pub record HasLeast (t : SchemaTree) (fs : List Fault) (kind : JsonKind) (text : List ℕ) : Type 0 where
  pub fault : Fault
  pub least : IsLeast fault fs
  pub kind_is : fault.kind ≡ kind
  pub text_is : place_text t fault.place ≡ text

-- there is no fault, and these are all rows
pub record HasRows (t : SchemaTree) (d : Data) (rows : Rows) : Type 0 where
  pub faultless : all_faults t d ≡ []
  pub all : rows ≡ rows_of empty (whole_found t d)
  pub within : len rows ≤ row_limit

-- ---- the order of the items of arrays

mutual
  -- the same value, where in each array the items may stand in another order
  pub data Reordered : Data → Data → Type 0 where
    same : {d : Data} → Reordered d d
    in_array : {ds es : Items} → ReorderedItems ds es → Reordered (array ds) (array es)
    in_object : {ms ns : Members} → ReorderedMembers ms ns → Reordered (object ms) (object ns)

  -- the same items in another order, each perhaps reordered within: two neighbours change places, or that and more
  pub data ReorderedItems : Items → Items → Type 0 where
    as_before : {ds : Items} → ReorderedItems ds ds
    neighbours : {d e : Data} {ds : Items} → ReorderedItems (item d (item e ds)) (item e (item d ds))
    within : {d e : Data} {ds es : Items} → Reordered d e → ReorderedItems ds es → ReorderedItems (item d ds) (item e es)
    further : {ds fs : Items} (es : Items) → ReorderedItems ds es → ReorderedItems es fs → ReorderedItems ds fs

  -- the same members, each perhaps reordered within
  pub data ReorderedMembers : Members → Members → Type 0 where
    no_more : ReorderedMembers no_members no_members
    another : {k : List ℕ} {d e : Data} {ms ns : Members} → Reordered d e → ReorderedMembers ms ns → ReorderedMembers (member k d ms) (member k e ns)

-- ---- values

-- an integer type whose highest number has at most 32 bits has no number below those that 32 bits hold (RFC 7950 section 9.2)
abbrev pub HasLow : Kind → Type 0
HasLow (integer low high) = is_narrow high ≡ true → negsuc 2147483647 ≤ℤ low
HasLow _ = ⊤

-- a type as YANG has it: its integers fit as said, and its bits have names of their own (RFC 7950 sections 9.2 and 9.7.4)
pub record IsYangType (t : TypeOfLeaf) : Type 0 where
  pub low : HasLow t.kind
  pub names : HasDistinctNames t.kind

-- a value of a type: a text spells it, it is within the limits, and its number is one that a `Value` holds
pub record IsOfType (t : TypeOfLeaf) (v : Value) : Type 0 where
  pub text : List ℕ
  pub spelled : SpellsValue t.kind text v
  pub within : MeetsLimits t v
  pub held : IsHeld v
