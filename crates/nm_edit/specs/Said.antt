-- What the moves of an edit say of paths, one after another.
use Rattle.std.specs.Prelude.{List, [], ◌∷◌, ◌++◌, Bool, Some, map as each, filter, if◌then◌else◌}
use Rattle.std.specs.List.{flat_map}
use Rattle.std.specs.FinMap.{get, keys}
use Rattle.nm_types.specs.Path.{PathStep}
use Rattle.nm_types.specs.declared.value.Value.{Value}
use Rattle.nm_config.specs.Rows.{Rows}
use Rattle.nm_config.specs.Under.{is_under}
use Rattle.nm_edit.specs.Edited.{RowMoves}
use Rattle.nm_overlay.specs.Differences.{differs}
use Rattle.nm_overlay.specs.Places.{Pair, gone_at}

-- each row at or below a node is gone
abbrev pub gone_below : Rows → List PathStep → List Pair
gone_below rows node = each gone_at (filter (is_under node) (keys rows))

-- a row is there
abbrev pub there : List PathStep × Value → Pair
there row = (row.0, Some row.1)

-- what moves say: each row that goes is gone, and then each row that is held or comes is there
abbrev pub said : Rows → RowMoves → List Pair
said rows moves = flat_map (gone_below rows) moves.goes ++ each there moves.held ++ each there moves.comes

-- what is said of a path isn't so of some rows
abbrev pub is_change : Rows → Pair → Bool
is_change rows pair = differs (get rows pair.0) pair.1

-- what is said of a path, where it isn't so
abbrev pub change_at : Rows → Pair → List Pair
change_at rows pair = if is_change rows pair then pair ∷ [] else []
