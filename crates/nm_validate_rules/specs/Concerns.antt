-- Which rows concern leafrefs and unique statements anywhere, told by the nodes that rows lead to (RFC 7950 sections 7.8.3 and 9.9).
use Rattle.std.specs.Prelude.{ℕ, suc, List, [], ◌∷◌, ◌++◌, take, length, Bool, true, false, not, ◌&&◌, ◌||◌, Option, Some, None, is_some}
use Rattle.std.specs.List.{list_any, range_with_len}
use Rattle.nm_types.specs.Path.{PathStep}
use Rattle.nm_schema_tree.specs.declared.node.Reference.{Reference}
use Rattle.nm_schema_tree.specs.Nodes.{SchemaTree, is_key, default_at, reference_at, uniques_at}
use Rattle.nm_validate_rules.specs.declared.rule.Rule.{Rule}
use Rattle.nm_validate_rules.specs.declared.rule.Rule.TheVariants.{Leafref, Unique}
use Rattle.nm_validate_rules.specs.Cases.{bare, numbers}
use Rattle.nm_validate_rules.specs.Guards.{front, leads_to}
use Rattle.nm_validate_rules.specs.Values.{is_same_path}
use Rattle.nm_validate_rules.specs.Reads.{has_value_of, default_reads}

-- a row is at or below a path that leads to node x
unfoldable pub passes : SchemaTree → ℕ → List PathStep → Bool
passes t x row = list_any (λ n. leads_to t x (take n row)) (range_with_len 0 (suc (length row)))

-- a row ends with the step of node x
abbrev pub ends_at : SchemaTree → ℕ → List PathStep → Bool
ends_at t x row = is_same_path row (front row ++ bare t.nodes x ∷ [])

-- a row in an entry may tell the value of leaf x there: it is that of the leaf, or any where the leaf has a default
abbrev pub leaf_concerns : SchemaTree → ℕ → List PathStep → Bool
leaf_concerns t x row = not (is_key t.nodes x) && (ends_at t x row || is_some (default_at t.nodes x))

-- a row concerns a unique statement of list l: it is an entry, or in one, where it may tell the value of one of these leafs
abbrev pub unique_concerns : SchemaTree → ℕ → List ℕ → List PathStep → Bool
unique_concerns t l leafs row = leads_to t l row || passes t l row && list_any (λ x. leaf_concerns t x row) leafs

-- a row concerns the leafref of node z: it has a value of the node or of the target, or the target's default may hang on it
abbrev pub reference_concerns : SchemaTree → ℕ → Option Reference → List PathStep → Bool
reference_concerns t z None row = false
reference_concerns t z (Some r) row = has_value_of t z row || has_value_of t r.target row || default_reads t r.target row

-- a row concerns a rule: some leafref or some unique statement; the rules on single places are told by what they read
unfoldable pub concerns : SchemaTree → Rule → List PathStep → Bool
concerns t Leafref row = list_any (λ z. reference_concerns t z (reference_at t.nodes z) row) (numbers t.nodes)
concerns t Unique row = list_any (λ l. list_any (λ leafs. unique_concerns t l leafs row) (uniques_at t.nodes l)) (numbers t.nodes)
concerns t _ row = true
