-- How many rows the running configuration of a device has, as they are counted.
use Rattle.std.specs.Prelude.{ℕ}
use Rattle.nm_proto.specs.Content.{Meaning, counted_rows}
use Rattle.nm_config.specs.Rows.{Rows}
use Rattle.nm_content.specs.Mark.{outside_rows}

-- the rows outside the marks of change sets, of flat contents the cells
abbrev pub rows_told : {Config TheEdit Node : Type 0} → Meaning Config TheEdit Node → Config → ℕ
rows_told m config = counted_rows (m.rows config)

-- the same of YANG data by themselves, as they are read
abbrev pub data_rows_told : Rows → ℕ
data_rows_told rows = counted_rows (outside_rows rows)
