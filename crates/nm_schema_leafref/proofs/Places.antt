-- Places of a tree.
use Rattle.std.proofs.Common.{◌≡◌, ◌≤◌, ◌∙◌, ℕ, List, length, Bool, true, false, ◌&&◌, Option, Some, None, slice_get, refl}
use Rattle.std.proofs.lemmas.Option.{slice_get_past}
use Rattle.nm_schema_statements.specs.declared.row.Row.{Row}
use Rattle.nm_schema_statements.specs.Rows.{roots}
use Rattle.nm_schema_nodes.specs.declared.instance.Instance.{Instance}
use Rattle.nm_schema_nodes.specs.Expansion.{Expanded, row_of, module_row, is_grown}
use Rattle.nm_schema_leafref.specs.Place.{is_known, is_known_node, is_known_module}
use Rattle.nm_schema_leafref.specs.Walk.{path_at}

-- there are no rows past the last node
pub row-past : (nodes : List Instance) (i : ℕ) → length nodes ≤ i → row_of nodes i ≡ None
unfolding row_of
row-past nodes i le = rw (slice_get_past nodes i le) refl

pub row-at : (nodes : List Instance) (i : ℕ) (n : Instance) → slice_get nodes i ≡ Some n → row_of nodes i ≡ Some n.row
unfolding row_of
row-at nodes i n e = rw e refl

pub node-unknown : (t : Expanded) (i : ℕ) → length t.nodes ≤ i → is_known_node t i ≡ false
unfolding is_known_node
node-unknown t i le = rw (row-past t.nodes i le) refl

pub node-known : (t : Expanded) (i : ℕ) (rows : List Row) (groupings : List (Option ℕ)) (at : Option ℕ) (b : Bool) → rows ≡ t.rows → groupings ≡ t.groupings → at ≡ row_of t.nodes i → b ≡ is_known rows groupings at → b ≡ is_known_node t i
unfolding is_known_node
node-known t i rows groupings at b r g a e = e ∙ rw (r, g, a) refl

and-false : (b : Bool) → (b && false) ≡ false
and-false true = refl
and-false false = refl

pub module-unknown : (t : Expanded) (m : ℕ) → length (roots t.rows) ≤ m → is_known_module t m ≡ false
unfolding is_known_module module_row
module-unknown t m le = rw (slice_get_past (roots t.rows) m le) (and-false (is_grown t.rows t.groupings m))

pub module-known : (t : Expanded) (m : ℕ) (rows names : List Row) (groupings : List (Option ℕ)) (at : Option ℕ) → rows ≡ t.rows → groupings ≡ t.groupings → names ≡ t.rows → at ≡ slice_get (roots names) m → is_grown t.rows t.groupings m ≡ true
    → is_known rows groupings at ≡ is_known_module t m
unfolding is_known_module module_row
module-known t m rows names groupings at r g n a grown = rw (r, g, a, n, grown) refl

pub path_at-past : (rows : List Row) (p : ℕ) → length rows ≤ p → path_at rows p ≡ None
unfolding path_at
path_at-past rows p le = rw (slice_get_past rows p le) refl
