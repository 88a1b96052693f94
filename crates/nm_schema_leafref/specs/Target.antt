-- What leafrefs lead to, and the types of nodes (RFC 7950 section 9.9).
use Rattle.std.specs.Prelude.{ℕ, List, [], ◌∷◌, length, Option, Some, None}
use Rattle.nm_schema_statements.specs.declared.row.Row.{Row}
use Rattle.nm_types.specs.LeafType.{TypeOfLeaf}
use Rattle.nm_schema_derive.specs.Kinds.{leaf_type_of}
use Rattle.nm_schema_typing.specs.declared.leafref.Start.{Start}
use Rattle.nm_schema_typing.specs.declared.leafref.Start.TheVariants.{Root, Up}
use Rattle.nm_schema_typing.specs.Leafref.{LeafrefPath}
use Rattle.nm_schema_typing.specs.Meaning.{Meaning, plain, reference}
use Rattle.nm_schema_typing.specs.Along.{meaning_of}
use Rattle.nm_schema_uses.specs.Worth.{worth_of}
use Rattle.nm_schema_uses.specs.Config.{LeadsBy}
use Rattle.nm_schema_nodes.specs.Expansion.{Expanded, row_of}
use Rattle.nm_schema_leafref.specs.declared.led.Led.{Led}
use Rattle.nm_schema_leafref.specs.declared.led.Led.TheVariants as led
use Rattle.nm_schema_leafref.specs.Place.{levels_of}
use Rattle.nm_schema_leafref.specs.Walk.{path_at, path_row, led_to}

-- ---- the graph of leafrefs

-- the node that a leafref leads to, as a list of at most one
abbrev pub target_in : Option Led → List ℕ
target_in None = []
target_in (Some (led.Node y)) = y ∷ []
target_in (Some led.Missing) = []
target_in (Some led.Unknown) = []

-- the node that node x leads to, if there is one
unfoldable pub targets : List (Option ℕ) → Expanded → ℕ → List ℕ
targets typedefs t x = target_in (led_to typedefs t x)

-- node x leads to itself, in one step or more
abbrev pub IsCircular : List (Option ℕ) → Expanded → ℕ → Type 0
IsCircular typedefs t x = LeadsBy (targets typedefs t) x x

-- ---- types

-- the type that a meaning gives a leaf; none for a leafref, whose type is that of its target (RFC 7950 section 9.9)
abbrev pub plain_in : Option Meaning → Option TypeOfLeaf
plain_in None = None
plain_in (Some (plain d)) = leaf_type_of d
plain_in (Some (reference p)) = None

-- the type of a leaf's row that is no leafref
unfoldable pub plain_type : List Row → List (Option ℕ) → ℕ → Option TypeOfLeaf
plain_type rows typedefs i = plain_in (meaning_of rows typedefs i)

-- the type of a leaf's row that is no leafref, where there is a row
abbrev pub plain_at : List Row → List (Option ℕ) → Option ℕ → Option TypeOfLeaf
plain_at rows typedefs None = None
plain_at rows typedefs (Some i) = plain_type rows typedefs i

-- the type of node x, by that of the node that it leads to: the same; else its own
abbrev pub type_step : List (Option ℕ) → Expanded → ℕ → List TypeOfLeaf → Option TypeOfLeaf
type_step typedefs t x [] = plain_at t.rows typedefs (row_of t.nodes x)
type_step typedefs t x (known ∷ others) = Some known

-- the type of node x: its own, or for a leafref that of the node that it leads to, and so on; none where that leads to nothing or to a cycle, and where
-- a type has no meaning (RFC 7950 section 9.9)
unfoldable pub type_of_node : List (Option ℕ) → Expanded → ℕ → Option TypeOfLeaf
type_of_node typedefs t x = worth_of (type_step typedefs t) (targets typedefs t) (length t.nodes) x

-- ---- how far up

-- how many nodes above node x a path begins: a path from the root above all of them
abbrev pub ups_from : Expanded → ℕ → Start → ℕ
ups_from t x Root = levels_of t.nodes x
ups_from t x (Up n) = n

-- the same of a path that could be read; none of another
abbrev pub ups_by : Expanded → ℕ → Option LeafrefPath → ℕ
ups_by t x None = 0
ups_by t x (Some p) = ups_from t x p.start

-- the same of the path in row p
abbrev pub ups_at : Expanded → ℕ → Option ℕ → ℕ
ups_at t x None = 0
ups_at t x (Some p) = ups_by t x (path_at t.rows p)

-- how many nodes the path of node x goes up, an absolute one up to above all nodes; 0 where it is no leafref
unfoldable pub up_of : List (Option ℕ) → Expanded → ℕ → ℕ
up_of typedefs t x = ups_at t x (path_row typedefs t x)
