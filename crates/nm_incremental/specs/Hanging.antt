-- What defaults in use hang on.
use Rattle.std.specs.Prelude.{ℕ, List, Bool, ◌&&◌}
use Rattle.nm_types.specs.Path.{PathStep}
use Rattle.nm_schema_tree.specs.Nodes.{SchemaTree, parent_of}
use Rattle.nm_validate_rules.specs.Violated.{is_area_of}
use Rattle.nm_validate_rules.specs.Reads.{case_reads}

-- a row tells that case c of node z holds at a place at which the node may stand
abbrev pub tells_case : SchemaTree → ℕ → ℕ → List PathStep → List PathStep → Bool
tells_case t z c above row = is_area_of t (parent_of t.nodes z) above && case_reads t above c row
