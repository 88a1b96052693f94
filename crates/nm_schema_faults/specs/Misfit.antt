-- Defaults that don't fit the types that nodes have in the tree (RFC 7950 sections 7.6.1 and 9.9).
use Rattle.std.specs.Prelude.{◌≡◌, ℕ, ◌<◌, List, length, Bool, true, false, not, ◌&&◌, ◌||◌, ◌==◌, Option, Some, None, is_some, unwrap_or, slice_get, slice_index_or}
use Rattle.std.specs.List.{list_any, range_with_len}
use Rattle.nm_schema_statements.specs.declared.row.Row.{Row}
use Rattle.nm_schema_statements.specs.declared.word.Word.TheVariants as word
use Rattle.nm_schema_statements.specs.Rows.{has_word, first_below}
use Rattle.nm_types.specs.LeafType.{TypeOfLeaf}
use Rattle.nm_schema_names.specs.Leads.{leads_to}
use Rattle.nm_schema_typing.specs.Defaults.{fits_type, is_default, default_of}
use Rattle.nm_schema_keys.specs.Keys.{has_known, keys_of}
use Rattle.nm_schema_nodes.specs.declared.instance.Instance.{Instance}
use Rattle.nm_schema_nodes.specs.Expansion.{row_of}
use Rattle.nm_schema_leafref.specs.Target.{type_of_node}
use Rattle.nm_schema_faults.specs.Facts.{Facts, definitions, standing, tree}

-- the keys of the list around a node, where it stands in one
abbrev pub keys_above : List Row → Facts → Option ℕ → Option (List ℕ)
keys_above rows facts None = None
keys_above rows facts (Some l) = keys_of rows (definitions rows) (standing facts) l

-- the row of the node that a node stands in
abbrev pub row_above : List Instance → Option ℕ → Option ℕ
row_above nodes None = None
row_above nodes (Some p) = row_of nodes p

-- a node is a key of the list that it stands in (RFC 7950 section 7.8.2)
unfoldable pub is_key_node : List Row → Facts → Instance → Bool
is_key_node rows facts node = has_known (keys_above rows facts (row_above facts.nodes node.parent)) node.row

-- the typedef or grouping that a row leads to, where there is a row
abbrev pub leads_in : List Row → Option ℕ → Option ℕ
leads_in rows None = None
leads_in rows (Some i) = leads_to rows i

-- the typedef that the type of row i names
unfoldable pub base_of : List Row → ℕ → Option ℕ
base_of rows i = leads_in rows (first_below rows i word.«Type»)

-- a text may be a default of the typedef that a type names; where there is no typedef or no default, nothing is to be judged
abbrev pub base_takes : List Row → Option ℕ → Option (List ℕ) → Bool
base_takes rows None text = true
base_takes rows (Some base) None = true
base_takes rows (Some base) (Some text) = is_default rows (definitions rows) base text

-- row i has a default itself, or takes one over from a typedef that takes it: else that is told at the typedef alone (this project's own)
unfoldable pub is_meant : List Row → ℕ → Bool
is_meant rows i = is_some (first_below rows i word.Default) || base_takes rows (base_of rows i) (default_of rows (definitions rows) i)

-- a text, if there is one, may be a default of the type, if there is one
abbrev pub suits : Option (List ℕ) → Option TypeOfLeaf → Bool
suits None t = true
suits (Some text) t = fits_type text t

-- node x is a leaf, but no key, and its default doesn't fit the type that it has in the tree
abbrev pub misfits : List Row → Facts → ℕ → Option Instance → Bool
misfits rows facts x None = false
misfits rows facts x (Some node) =
    has_word word.Leaf (slice_get rows node.row) && (not (is_key_node rows facts node) &&
    (is_meant rows node.row && not (suits (default_of rows (definitions rows) node.row) (type_of_node (definitions rows) (tree rows facts) x))))

-- node x has a default that doesn't fit its type in the tree
unfoldable pub is_misfit : List Row → Facts → ℕ → Bool
is_misfit rows facts x = misfits rows facts x (slice_get facts.nodes x)

-- row `at` is where the bad default of a node is told: at its own `default` statement, and at the leaf where the default is its type's
abbrev pub told_in : List Row → Option Instance → ℕ → Bool
told_in rows None at = false
told_in rows (Some node) at = unwrap_or (first_below rows node.row word.Default) node.row == at

-- node x is a misfit that is told at this row: at the leaf's own `default`, or at the leaf where it has none (this project's own)
unfoldable pub is_misfit_told : List Row → Facts → ℕ → ℕ → Bool
is_misfit_told rows facts at x = is_misfit rows facts x && told_in rows (slice_get facts.nodes x) at

-- a misfit is told at this row
unfoldable pub has_misfit : List Row → Facts → ℕ → Bool
has_misfit rows facts at = list_any (is_misfit_told rows facts at) (range_with_len 0 (length facts.nodes))

-- for each row whether a misfit is told there
pub record AreMisfits (rows : List Row) (facts : Facts) (marks : List Bool) : Type 0 where
  pub size : length marks ≡ length rows
  pub each : (at : ℕ) → at < length rows → slice_index_or marks at false ≡ has_misfit rows facts at
