-- Children of another case than the first child of their choice (RFC 7950 section 7.9).
use Rattle.std.specs.Prelude.{ℕ, List, [], ◌∷◌, Bool, false, not, ◌==◌, Option, Some, None, if◌then◌else◌}
use Rattle.std.specs.List.{find, flat_map, list_any}
use Rattle.nm_types.specs.Path.{PathStep}
use Rattle.nm_schema_tree.specs.Nodes.{SchemaTree, same_parent, parent_of}
use Rattle.nm_path.specs.Spelling.{node_of}
use Rattle.nm_config.specs.Rows.{Rows}
use Rattle.nm_validate_rules.specs.Guards.{front}
use Rattle.nm_validate_rules.specs.Values.{is_same_path}
use Rattle.nm_validate_rules.specs.Violated.{Child, children_of, first_other}

-- a child is of another case than the first child, if there was one
abbrev pub is_other : Option ℕ → Option Child → Bool
is_other None child = false
is_other (Some c) None = false
is_other (Some c) (Some e) = not (e.case_is == c)

-- the case of the first child, once one child more was come to
abbrev pub first_case : Option ℕ → Option Child → Option ℕ
first_case (Some c) child = Some c
first_case None None = None
first_case None (Some e) = Some e.case_is

-- the first child of another case than the first child, once that was come to, or not yet
abbrev pub other_from : Option ℕ → List Child → Option Child
other_from (Some c) es = find (λ other. not (other.case_is == c)) es
other_from None es = first_other es

-- the path of a child, where it stands directly at a place
abbrev pub path_if_at : List PathStep → Option Child → List (List PathStep)
path_if_at above None = []
path_if_at above (Some e) = if is_same_path (front e.path) above then e.path ∷ [] else []

-- the path of the first child that is of another case than the first child of a choice at a place, where it stands directly below that very place
abbrev pub other_at : SchemaTree → Rows → ℕ → List PathStep → List (List PathStep)
other_at t rows k above = path_if_at above (first_other (children_of t rows k above))

-- one of these nodes stands directly in a node, or at the top for none
abbrev pub any_in : SchemaTree → List ℕ → Option ℕ → Bool
any_in t nodes within = list_any (λ x. same_parent (parent_of t.nodes x) within) nodes

-- one of these nodes stands directly in the node of a place, or at the top, where the place leads to none
abbrev pub any_below : SchemaTree → List ℕ → List PathStep → Bool
any_below t nodes above = any_in t nodes (node_of t above)

-- the same, where one of these nodes may stand there
abbrev pub other_below : SchemaTree → Rows → ℕ → List ℕ → List PathStep → List (List PathStep)
other_below t rows k nodes above = if any_below t nodes above then other_at t rows k above else []

-- of the places below which these paths stand, all such children of a choice
abbrev pub others_of : SchemaTree → Rows → ℕ → List (List PathStep) → List (List PathStep)
others_of t rows k places = flat_map (other_at t rows k) places
