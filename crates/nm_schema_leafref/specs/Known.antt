-- What is known of the nodes of a tree as leafrefs.
use Rattle.std.specs.Prelude.{◌≡◌, ℕ, ◌<◌, ◌==◌, List, [], ◌∷◌, length, Bool, Option, Some, None, All, if◌then◌else◌, slice_index_or}
use Rattle.nm_schema_statements.specs.declared.row.Row.{Row}
use Rattle.nm_graph.specs.Graph.{Graph, Leads}
use Rattle.nm_types.specs.LeafType.{TypeOfLeaf}
use Rattle.nm_schema_typing.specs.Leafref.{LeafrefPath}
use Rattle.nm_schema_uses.specs.Config.{Marks}
use Rattle.nm_schema_nodes.specs.Expansion.{Expanded}
use Rattle.nm_schema_leafref.specs.declared.led.Led.{Led}
use Rattle.nm_schema_leafref.specs.declared.fault.PathFault.{PathFault}
use Rattle.nm_schema_typing.specs.Meaning.{Meaning}
use Rattle.nm_schema_leafref.specs.declared.led.Led.TheVariants as led
use Rattle.nm_schema_leafref.specs.declared.fault.PathFault.TheVariants as fault
use Rattle.nm_schema_leafref.specs.Walk.{path_at, led_to}
use Rattle.nm_schema_leafref.specs.Target.{IsCircular, plain_in, target_in, type_of_node, up_of}
use Rattle.nm_schema_leafref.specs.Fault.{HasFault}

-- for each node where it leads, how far up its path goes, whether it leads to itself, and its type; for each row what is wrong with its path
pub record Known : Type 0 where
  pub leds : List (Option Led)
  pub ups : List ℕ
  pub circular : List Bool
  pub types : List (Option TypeOfLeaf)
  pub faults : List (Option PathFault)

-- they are known rightly
pub record AreLeafrefs (typedefs : List (Option ℕ)) (t : Expanded) (known : Known) : Type 0 where
  pub led : (x : ℕ) → slice_index_or known.leds x None ≡ led_to typedefs t x
  pub up : (x : ℕ) → slice_index_or known.ups x 0 ≡ up_of typedefs t x
  pub circular : Marks (IsCircular typedefs t) known.circular
  pub leaf_type : (x : ℕ) → slice_index_or known.types x None ≡ type_of_node typedefs t x
  pub fault : (p : ℕ) → p < length t.rows → HasFault typedefs t p (slice_index_or known.faults p None)

-- the paths of all rows
abbrev pub ArePaths : List Row → List (Option LeafrefPath) → Type 0
ArePaths rows paths = (p : ℕ) → slice_index_or paths p None ≡ path_at rows p

-- the typedef of each type, and a tree of modules
pub record Scene : Type 0 where
  pub typedefs : List (Option ℕ)
  pub tree : Expanded

-- a tree of modules with the typedef of each type
abbrev pub scene : List (Option ℕ) → Expanded → Scene
scene typedefs t = record { typedefs = typedefs; tree = t }

-- ---- on the way

-- what a node leads to, where it is given how each is led
unfoldable pub targets_in : List (Option Led) → ℕ → List ℕ
targets_in leds x = target_in (slice_index_or leds x None)

-- each node leads to nodes
abbrev pub AreWithin : List (Option Led) → Type 0
AreWithin leds = (x : ℕ) → All (λ y. y < length leds) (targets_in leds x)

-- a node of a graph leads to itself
abbrev pub LeadsBack : Graph → ℕ → Type 0
LeadsBack graph x = Leads graph x x

-- the type of a node by that of the node that it leads to, where the own types of nodes are given
abbrev pub known_step : List (Option TypeOfLeaf) → ℕ → List TypeOfLeaf → Option TypeOfLeaf
known_step plain x [] = slice_index_or plain x None
known_step plain x (known ∷ others) = Some known

-- the own type of a row, if there is one, where the meanings are given
abbrev pub own_in : List (Option Meaning) → Option ℕ → Option TypeOfLeaf
own_in meanings None = None
own_in meanings (Some i) = plain_in (slice_index_or meanings i None)

-- the types that are kept for rows are their own
abbrev pub AreOwnTypes : List (Option Meaning) → List (Option TypeOfLeaf) → Type 0
AreOwnTypes meanings kept = (i : ℕ) (t : TypeOfLeaf) → slice_index_or kept i None ≡ Some t → plain_in (slice_index_or meanings i None) ≡ Some t

-- what is wrong with a node, by where it leads and whether it leads to itself
abbrev pub fault_of : Option Led → Bool → Option PathFault
fault_of None circular = None
fault_of (Some (led.Node y)) circular = if circular then Some fault.Circular else None
fault_of (Some led.Missing) circular = Some fault.Missing
fault_of (Some led.Unknown) circular = None

-- what is wrong with row p, once the fault of a node is noted at the row of its path
abbrev pub noted : ℕ → Option ℕ → Option PathFault → Option PathFault → Option PathFault
noted p None f found = found
noted p (Some row) f (Some earlier) = Some earlier
noted p (Some row) f None = if row == p then f else None
