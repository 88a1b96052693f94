-- Nodes of a configuration: what names them, and what it has there (this project's own).
use Rattle.std.specs.Prelude.{ℕ, List, Bool, true, false, not, ◌&&◌, ◌||◌, Option, Some, None, if◌then◌else◌}
use Rattle.std.specs.List.{list_all}
use Rattle.std.specs.Result.{result_ok}
use Rattle.std.specs.Ordering.{eq_by_cmp}
use Rattle.std.specs.FinMap.{get, keys, retain_keys}
use Rattle.nm_types.specs.Path.{PathStep, path_cmp}
use Rattle.nm_types.specs.Value.{is_same_value}
use Rattle.nm_types.specs.declared.value.Value.{Value}
use Rattle.nm_schema_tree.specs.Nodes.{SchemaTree, is_key}
use Rattle.nm_path.specs.Spelling.{node_of}
use Rattle.nm_path.specs.Reading.{path_of}
use Rattle.nm_config.specs.Rows.{Rows}
use Rattle.nm_config.specs.Under.{is_under, has_under}
use Rattle.nm_validate_rules.specs.Guards.{front}
use Rattle.nm_content_place.specs.declared.place.YangNode.{YangNode}

-- ---- nodes

-- a node is a key leaf
abbrev pub is_key_at : SchemaTree → Option ℕ → Bool
is_key_at t None = false
is_key_at t (Some x) = is_key t.nodes x

-- where the row is that a node exists by: a key leaf has none of its own, and exists where its entry does
abbrev pub row_of : SchemaTree → List PathStep → List PathStep
row_of t path = if is_key_at t (node_of t path) then front path else path

-- the node at a path, where there is a path
abbrev pub node_at : SchemaTree → Option (List PathStep) → Option YangNode
node_at t None = None
node_at t (Some path) = Some (record { path = path; row = row_of t path })

-- the path that a text spells
abbrev pub path_found : SchemaTree → List ℕ → Option (List PathStep)
path_found t text = result_ok (path_of t text)

-- the node that a text names: the text spells its path
abbrev pub found : SchemaTree → List ℕ → Option YangNode
found t text = node_at t (path_found t text)

-- a node exists where a row is at or below it
abbrev pub exists : Rows → YangNode → Bool
exists rows node = has_under rows node.row

-- one of two nodes is the other, or lies below it
abbrev pub overlaps : YangNode → YangNode → Bool
overlaps one other = is_under one.path other.path || is_under other.path one.path

-- ---- what is at and below a node

-- a row is part of a node: it is at or below it, or it is the row that the node exists by, of a key leaf its entry's own
abbrev pub is_part : YangNode → List PathStep → Bool
is_part node row = is_under node.path row || eq_by_cmp path_cmp node.row row

-- what a configuration has at a node: the rows at and below it, and of a key leaf, whose value is in the path of its entry, that entry's own row
abbrev pub part : Rows → YangNode → Rows
part rows node = retain_keys rows (is_part node)

-- two values are the same, or both are missing
abbrev pub same_value : Option Value → Option Value → Bool
same_value None None = true
same_value (Some value) (Some other) = is_same_value value other
same_value _ _ = false

-- a row isn't at or below a node, or two configurations have it alike
abbrev pub is_shared : Rows → Rows → List PathStep → List PathStep → Bool
is_shared one other path row = not (is_under path row) || same_value (get one row) (get other row)

-- each row of the one at and below a node is a row of the other
abbrev pub has_part_of : Rows → Rows → List PathStep → Bool
has_part_of other one path = list_all (is_shared one other path) (keys one)

-- two configurations have the same rows at and below a node, and the same row that it exists by
abbrev pub same_at : Rows → Rows → YangNode → Bool
same_at one other node = has_part_of other one node.path && has_part_of one other node.path && same_value (get one node.row) (get other node.row)
