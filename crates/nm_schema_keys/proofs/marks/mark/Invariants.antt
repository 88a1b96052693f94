use Rattle.std.proofs.Common.{◌≡◌, ◌||◌, ℕ, length, slice_index_or, false, take}
use Rattle.nm_schema_keys.specs.Keys.{has_row}
use Rattle.nm_schema_keys.proofs.marks.mark.Given as goal

-- the rows so far are marked
abbrev pub invariant-loop-row : goal.invariant-loop-row
invariant-loop-row l = record {
  size : length l.marks.items ≡ length l.initial.marks.items;
  marked : (i : ℕ) → slice_index_or l.marks.items i false ≡ (has_row (take l.row-index l.rows) i || slice_index_or l.initial.marks.items i false);
}
