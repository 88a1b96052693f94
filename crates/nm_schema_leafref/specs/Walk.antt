-- Where the path of a leafref leads (RFC 7950 sections 6.4.1 and 9.9.2).
use Rattle.std.specs.Prelude.{ℕ, suc, zero, Bool, true, false, List, [], ◌∷◌, Option, Some, None, if◌then◌else◌, slice_get}
use Rattle.nm_schema_statements.specs.declared.row.Row.{Row}
use Rattle.nm_schema_statements.specs.declared.word.Word.TheVariants as word
use Rattle.nm_schema_statements.specs.Word.{same_word}
use Rattle.nm_schema_statements.specs.Flaw.{text_of}
use Rattle.nm_schema_statements.specs.Rows.{module_at}
use Rattle.nm_schema_names.specs.Named.{prefix_leads}
use Rattle.nm_schema_typing.specs.declared.leafref.NodeName.{NodeName}
use Rattle.nm_schema_typing.specs.declared.leafref.Start.{Start}
use Rattle.nm_schema_typing.specs.declared.leafref.Start.TheVariants.{Root, Up}
use Rattle.nm_schema_typing.specs.Leafref.{LeafrefPath, path_read}
use Rattle.nm_schema_typing.specs.Meaning.{Meaning, path_of}
use Rattle.nm_schema_typing.specs.Along.{meaning_of}
use Rattle.nm_schema_nodes.specs.Expansion.{Expanded, row_of, owner_of}
use Rattle.nm_schema_nodes.specs.Named.{child_named, top_named}
use Rattle.nm_schema_leafref.specs.declared.led.Led.{Led}
use Rattle.nm_schema_leafref.specs.declared.led.Led.TheVariants as led
use Rattle.nm_schema_leafref.specs.declared.led.Spot.{Spot}
use Rattle.nm_schema_leafref.specs.declared.led.Spot.TheVariants as spot
use Rattle.nm_schema_leafref.specs.Place.{parent_of, is_leaf_node, is_known_node, is_known_module, is_of_module}

-- ---- up

-- where a node is, as a place on the way of a path; above all nodes where there is none
abbrev pub spot_at : Option ℕ → Spot
spot_at None = spot.Root
spot_at (Some i) = spot.Node i

-- one node up: above a node at the top is the root, and above that there is nothing
unfoldable pub above : Expanded → Spot → Spot
above t spot.Root = spot.Missing
above t (spot.Node i) = spot_at (parent_of t.nodes i)
above t spot.Missing = spot.Missing
above t spot.Unknown = spot.Unknown

-- so many nodes up
abbrev pub raised : Expanded → ℕ → Spot → Spot
raised t zero s = s
raised t (suc n) s = raised t n (above t s)

-- where a path of node x begins: at the root, or so many nodes above x (RFC 7950 section 9.9.2)
abbrev pub begun : Expanded → ℕ → Start → Spot
begun t x Root = spot.Root
begun t x (Up n) = raised t n (spot.Node x)

-- ---- down

-- the module that a row is of, where there is a row
abbrev pub module_led : List Row → Option ℕ → Option ℕ
module_led rows None = None
module_led rows (Some i) = module_at rows i

-- the module of a name: the one that its prefix leads to in module w, where the path is written; without a prefix module m, that of the leafref, which is
-- the using one for a leafref of a grouping (RFC 7950 section 6.4.1)
unfoldable pub named_module : List Row → ℕ → ℕ → Option (List ℕ) → Option ℕ
named_module rows w m None = Some m
named_module rows w m (Some prefix) = module_led rows (prefix_leads rows w prefix)

-- the node of a name; without one nothing is said where what stands there isn't known (this project's own)
abbrev pub found_or : Option ℕ → Bool → Spot
found_or (Some i) known = spot.Node i
found_or None true = spot.Missing
found_or None false = spot.Unknown

-- from the root to the top of module q
unfoldable pub into_module : Expanded → ℕ → List ℕ → Spot
into_module t q name = found_or (top_named t.rows t.nodes q name) (is_known_module t q)

-- from node i to one that stands in it
unfoldable pub into_node : Expanded → ℕ → ℕ → List ℕ → Spot
into_node t i q name = if is_of_module t i q then found_or (child_named t.rows t.nodes i name) (is_known_node t i) else spot.Missing

-- one node down, to the name of a module
abbrev pub down : Expanded → Spot → Option ℕ → List ℕ → Spot
down t spot.Root None name = spot.Missing
down t spot.Root (Some q) name = into_module t q name
down t (spot.Node i) None name = spot.Missing
down t (spot.Node i) (Some q) name = into_node t i q name
down t spot.Missing q name = spot.Missing
down t spot.Unknown q name = spot.Unknown

-- the next place on the way: one node down, to a name whose prefix means what it means in module w
unfoldable pub stepped : Expanded → ℕ → ℕ → Spot → NodeName → Spot
stepped t w m s n = down t s (named_module t.rows w m n.prefix) n.name

-- down by each of some names
abbrev pub walked : Expanded → ℕ → ℕ → Spot → List NodeName → Spot
walked t w m s [] = s
walked t w m s (n ∷ ns) = walked t w m (stepped t w m s n) ns

-- ---- the end

-- a path leads to a leaf or leaf-list (RFC 7950 section 9.9)
abbrev pub ended : Expanded → Spot → Led
ended t spot.Root = led.Missing
ended t (spot.Node i) = if is_leaf_node t i then led.Node i else led.Missing
ended t spot.Missing = led.Missing
ended t spot.Unknown = led.Unknown

-- where a path that is written in module w leads from node x of module m
unfoldable pub led_along : Expanded → ℕ → ℕ → ℕ → LeafrefPath → Led
led_along t w m x p = ended t (walked t w m (begun t x p.start) p.nodes)

-- ---- leafrefs

-- the path of a row, if it is a `path` statement that can be read
abbrev pub path_in : Option Row → Option LeafrefPath
path_in None = None
path_in (Some r) = if same_word r.word word.Path then path_read (text_of r.argument) else None

-- the path that the `path` statement of row p has
unfoldable pub path_at : List Row → ℕ → Option LeafrefPath
path_at rows p = path_in (slice_get rows p)

-- the row of the path of a leafref's meaning, where there is one
abbrev pub path_row_of : Option Meaning → Option ℕ
path_row_of None = None
path_row_of (Some meaning) = path_of meaning

-- the meaning of a row's type, where there is a row
abbrev pub meaning_at : List Row → List (Option ℕ) → Option ℕ → Option Meaning
meaning_at rows typedefs None = None
meaning_at rows typedefs (Some i) = meaning_of rows typedefs i

-- the row of the `path` statement of node x, where that is a leafref
unfoldable pub path_row : List (Option ℕ) → Expanded → ℕ → Option ℕ
path_row typedefs t x = path_row_of (meaning_at t.rows typedefs (row_of t.nodes x))

-- where a path leads from node x, once the module that it is written in, the node's module and the path are known; nowhere where one is missing
abbrev pub led_if : Expanded → ℕ → Option ℕ → Option ℕ → Option LeafrefPath → Led
led_if t x None m p = led.Missing
led_if t x (Some w) None p = led.Missing
led_if t x (Some w) (Some m) None = led.Missing
led_if t x (Some w) (Some m) (Some p) = led_along t w m x p

-- where the path of row p leads from node x
unfoldable pub led_by : Expanded → ℕ → ℕ → Led
led_by t x p = led_if t x (module_at t.rows p) (owner_of t.nodes x) (path_at t.rows p)

-- where the path of a row leads, where there is one
abbrev pub led_from : Expanded → ℕ → Option ℕ → Option Led
led_from t x None = None
led_from t x (Some p) = Some (led_by t x p)

-- where node x leads, if it is a leafref (RFC 7950 section 9.9)
unfoldable pub led_to : List (Option ℕ) → Expanded → ℕ → Option Led
led_to typedefs t x = led_from t x (path_row typedefs t x)
