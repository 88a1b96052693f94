-- The nodes of the marker module stand in the tree that modules give.
use Rattle.std.proofs.Common.{◌≡◌, ◌∙◌, ◌+◌, ℕ, List, ◌++◌, length, Option, Some, None, Result, Ok, Err, IfOk, slice_get, sym, ap, subst, arith}
use Rattle.nm_yang.specs.Tree.{Tree}
use Rattle.nm_schema_statements.specs.declared.row.Row.{Row}
use Rattle.nm_schema_statements.specs.Rows.{rows_of}
use Rattle.nm_schema_tree.specs.declared.node.Node.{Node}
use Rattle.nm_schema_tree.specs.Nodes.{SchemaTree}
use Rattle.nm_schema_faults.specs.declared.fault.Fault.{Fault}
use Rattle.nm_schema_faults.specs.Facts.{Facts}
use Rattle.nm_schema_faults.specs.Fault.{first_fault}
use Rattle.nm_schema.specs.declared.fault.SchemaFault.{SchemaFault}
use Rattle.nm_schema.specs.Node.{known_nodes}
use Rattle.nm_schema.specs.Marker.{changes_node, marker_nodes, HasMarker}
use Rattle.nm_schema.specs.Built.{tree_of, outcome, built, AreBuilt, Builds, Answered}
use Rattle.nm_schema.proofs.Sound.{behind}

marker_behind : (known : List Node) (k : ℕ) → slice_get (known ++ marker_nodes (length known)) (length known + k) ≡ slice_get (marker_nodes (length known)) k
marker_behind known k = behind known (marker_nodes (length known)) k

first_behind : (known : List Node) → slice_get (known ++ marker_nodes (length known)) (length known) ≡ Some changes_node
first_behind known =
    let at : length known ≡ length known + 0 = omega arith in
    ap (slice_get (known ++ marker_nodes (length known))) at ∙ marker_behind known 0

of_tree : (rows : List Row) (facts : Facts) → HasMarker (tree_of rows facts)
of_tree rows facts = record {
  at = length (known_nodes rows facts);
  changes = first_behind (known_nodes rows facts);
  applied = marker_behind (known_nodes rows facts) 1;
  change = marker_behind (known_nodes rows facts) 2;
}

of_outcome : (rows : List Row) (facts : Facts) (t : SchemaTree) → (f : Option Fault) → Ok t ≡ outcome rows facts f → HasMarker t
of_outcome rows facts t (Some f) e = absurd (cc)
of_outcome rows facts t None e =
    let same : t ≡ tree_of rows facts = cc in
    subst HasMarker (sym same) (of_tree rows facts)

rows_marked : (rows : List Row) (t : SchemaTree) → AreBuilt rows (Ok t) → HasMarker t
unfolding built
rows_marked rows t b = of_outcome rows b.facts t (first_fault rows b.facts) b.given_is

-- the tree that modules give has the nodes of the marker module
pub modules_marked : (modules : List Tree) (t : SchemaTree) → Builds modules (Ok t) → HasMarker t
modules_marked modules t b = rows_marked (rows_of modules) t b

-- a tree that is answered has the nodes of the marker module
pub answer_marked : (rows : List Row) (answer : Result SchemaTree SchemaFault) → Answered rows answer → IfOk answer HasMarker
answer_marked rows (Ok t) a = rows_marked rows t a
answer_marked rows (Err fault) a = tt
