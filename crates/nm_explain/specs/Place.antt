-- The node that the text of a path leads to, whatever its predicates choose (this project's own). Such a text has a slash before each
-- step, the module before the first name, and values in single quotes, which are doubled in them.
use Rattle.std.specs.Prelude.{ℕ, List, [], ◌∷◌, ◌++◌, Bool, ◌==◌, Option, Some, None, option_and_then}
use Rattle.std.specs.List.{before_first, after_first, slice_split}
use Rattle.nm_schema_tree.specs.Nodes.{SchemaTree}
use Rattle.nm_json.specs.Findings.{node_named}

-- the byte `'`, around what predicates choose
abbrev pub is_quote : ℕ → Bool
is_quote byte = byte == 39

-- the byte `/`
abbrev pub is_slash : ℕ → Bool
is_slash byte = byte == 47

-- the byte `[`, where predicates begin
abbrev pub is_bracket : ℕ → Bool
is_bracket byte = byte == 91

-- every other part, from the first on
unfoldable pub every_other : List (List ℕ) → List ℕ
every_other [] = []
every_other (part ∷ []) = part
every_other (part ∷ other ∷ parts) = part ++ every_other parts

-- what stands outside quotes
abbrev pub outside : List ℕ → List ℕ
outside text = every_other (slice_split is_quote text)

-- the name of a step: what stands before its predicates
abbrev pub name_in : List ℕ → List ℕ
name_in step = before_first is_bracket step

-- the node that steps lead to from node i
abbrev pub led_below : SchemaTree → List (List ℕ) → ℕ → Option ℕ
led_below tree [] i = Some i
led_below tree (step ∷ steps) i = option_and_then (led_below tree steps) (node_named tree (Some i) (name_in step))

-- the node that steps lead to from a node, or from the top
abbrev pub led : SchemaTree → Option ℕ → List (List ℕ) → Option ℕ
led tree within [] = within
led tree within (step ∷ steps) = option_and_then (led_below tree steps) (node_named tree within (name_in step))

-- the steps behind the first slash
abbrev pub steps_in : List ℕ → List (List ℕ)
steps_in text = slice_split is_slash (after_first is_slash text)

-- the node of a path's text
abbrev pub node_at : SchemaTree → List ℕ → Option ℕ
node_at tree text = led tree None (steps_in (outside text))
