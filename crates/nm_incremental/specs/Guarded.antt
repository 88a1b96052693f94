-- What is read of the last step of a path.
use Rattle.std.specs.Prelude.{List, Bool, false, ◌&&◌, ◌||◌, ℕ, Option, Some, None}
use Rattle.nm_types.specs.Path.{PathStep}
use Rattle.nm_schema_tree.specs.Nodes.{SchemaTree, case_at}
use Rattle.nm_path.specs.Spelling.{node_of}
use Rattle.nm_config.specs.Under.{is_whole}
use Rattle.nm_validate_rules.specs.Violated.{last_chosen}
use Rattle.nm_validate_rules.specs.Reads.{allowed_reads}

-- the last step of a path is read: it chooses no entry, and a row is read for what is above it, or for its case
abbrev pub open_at : SchemaTree → Bool → List PathStep → List PathStep → Option ℕ → List PathStep → Bool
open_at t so_far above path None row = false
open_at t so_far above path (Some x) row = is_whole (last_chosen path) && (so_far || allowed_reads t above (case_at t.nodes x) row)

-- the last step of a path hands on what is read above it where it is open, and its case is read
abbrev pub open_by : SchemaTree → Bool → List PathStep → List PathStep → List PathStep → Bool
open_by t so_far above path row = open_at t so_far above path (node_of t path) row
