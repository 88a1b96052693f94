-- What is known of rows as configuration and state, and of their sizes.
use Rattle.std.specs.Prelude.{◌≡◌, ℕ, List, length}
use Rattle.nm_schema_statements.specs.declared.row.Row.{Row}
use Rattle.nm_schema_uses.specs.declared.settings.Settings.{Settings}
use Rattle.nm_schema_uses.specs.Config.{Marks, IsRooted, IsBelowState, kept_of}
use Rattle.nm_schema_uses.specs.Sizes.{capped_count, capped_height}
use Rattle.nm_schema_uses.specs.Worth.{worth_of, AreWorth}

-- what is known of rows, by what each leads to
pub record AreSettings (next : ℕ → List ℕ) (rows : List Row) (settings : Settings) : Type 0 where
  pub configured : Marks (IsRooted (kept_of next rows) rows) settings.configured.items
  pub in_state : Marks (IsBelowState next rows) settings.in_state.items
  pub configured_rows : length settings.configured.items ≡ length rows
  pub in_state_rows : length settings.in_state.items ≡ length rows
  pub counts : AreWorth (worth_of (capped_count rows 20001) (kept_of next rows) (length rows)) (length rows) settings.counts.items
  pub heights : AreWorth (worth_of (capped_height rows 66) (kept_of next rows) (length rows)) (length rows) settings.heights.items
