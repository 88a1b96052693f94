-- Entries behind the path of their list.
use Rattle.std.specs.Prelude.{ℕ, List, length, Bool, ◌&&◌, ◌==◌, filter}
use Rattle.std.specs.List.{count_by}
use Rattle.std.specs.Ordering.{is_lt}
use Rattle.std.specs.FinMap.{keys}
use Rattle.nm_types.specs.Path.{PathStep, path_cmp}
use Rattle.nm_config.specs.Rows.{Rows}
use Rattle.nm_config.specs.Under.{is_under}

-- a path is that of an entry of the list or leaf-list at a path, or that path itself
abbrev pub is_entry_of : List PathStep → List PathStep → Bool
is_entry_of path other = length other == length path && is_under path other

-- of some paths those that stand after a path
abbrev pub behind : List PathStep → List (List PathStep) → List (List PathStep)
behind path paths = filter (λ other. is_lt (path_cmp path other)) paths

-- how many entries of a list or leaf-list stand after its path
abbrev pub count_behind : Rows → List PathStep → ℕ
count_behind rows path = count_by (is_entry_of path) (behind path (keys rows))
