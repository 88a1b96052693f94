-- Nodes by their names (RFC 7950 section 6.2.1).
use Rattle.std.specs.Prelude.{ℕ, List, Bool, ◌&&◌, Option}
use Rattle.std.specs.Str.{bytes_eq}
use Rattle.std.specs.List.{position_from}
use Rattle.nm_schema_statements.specs.declared.row.Row.{Row}
use Rattle.nm_schema_uses.specs.Arguments.{argument_at}
use Rattle.nm_schema_nodes.specs.declared.instance.Instance.{Instance}
use Rattle.nm_schema_nodes.specs.Expansion.{is_below, is_top}

-- a node has a name: the argument of its row
unfoldable pub has_name : List Row → List ℕ → Instance → Bool
has_name rows name node = bytes_eq (argument_at rows node.row) name

-- a node stands directly in node i and has the name
abbrev pub is_child_named : List Row → ℕ → List ℕ → Instance → Bool
is_child_named rows i name node = is_below i node && has_name rows name node

-- a node stands at the top of module m and has the name
abbrev pub is_top_named : List Row → ℕ → List ℕ → Instance → Bool
is_top_named rows m name node = is_top m node && has_name rows name node

-- the first node directly in node i that has the name
unfoldable pub child_named : List Row → List Instance → ℕ → List ℕ → Option ℕ
child_named rows nodes i name = position_from (is_child_named rows i name) 0 nodes

-- the first node at the top of module m that has the name
unfoldable pub top_named : List Row → List Instance → ℕ → List ℕ → Option ℕ
top_named rows nodes m name = position_from (is_top_named rows m name) 0 nodes
