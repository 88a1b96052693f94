-- Entries that are wanted and aren't there.
use Rattle.std.specs.Prelude.{ℕ, List, Bool, not, ◌&&◌, Option, Vec, nat_lt}
use Rattle.std.specs.declared.alloc.Global.{Global}
use Rattle.nm_types.specs.Path.{PathStep}
use Rattle.nm_schema_tree.specs.Nodes.{SchemaTree}
use Rattle.nm_config.specs.Rows.{Rows}
use Rattle.nm_validate_rules.specs.Guards.{front}
use Rattle.nm_validate_rules.specs.Values.{count_at}
use Rattle.nm_validate_places.specs.Members.{is_allowed_by}

-- a list or leaf-list has at least so many entries
abbrev pub has_at_least : Rows → ℕ → List PathStep → Bool
has_at_least rows min path = not (nat_lt (count_at rows path) min)

-- it has fewer, and one of these nodes stands beside it, or nothing is asked
abbrev pub is_short : SchemaTree → Rows → ℕ → Option (Vec ℕ Global) → List PathStep → Bool
is_short t rows min others path = not (has_at_least rows min path) && is_allowed_by t rows (front path) others
