-- How many nodes of configuration stand in rows, and how deep (this project's own).
use Rattle.std.specs.Prelude.{ℕ, ◌+◌, List, [], ◌∷◌, length, min, max, Option, Some, None, if◌then◌else◌, slice_get}
use Rattle.std.specs.Option.{option_map}
use Rattle.nm_schema_statements.specs.declared.row.Row.{Row}
use Rattle.nm_schema_statements.specs.Flaw.{is_data}
use Rattle.nm_schema_uses.specs.Config.{configuring}
use Rattle.nm_schema_uses.specs.Worth.{worth_of}

-- one for a node of data, and nothing for another row
abbrev pub unit_in : Option Row → ℕ
unit_in None = 0
unit_in (Some r) = if is_data r.word then 1 else 0

-- a node of data counts once
unfoldable pub unit_at : List Row → ℕ → ℕ
unit_at rows i = unit_in (slice_get rows i)

-- the sum of some numbers
abbrev pub total_of : List ℕ → ℕ
total_of [] = 0
total_of (n ∷ ns) = n + total_of ns

-- the greatest of some numbers, and 0 of none
abbrev pub greatest : List ℕ → ℕ
greatest [] = 0
greatest (n ∷ ns) = max n (greatest ns)

-- how many nodes of configuration row i and what stands in it are, from the counts of what it leads to
unfoldable pub count_step : List Row → ℕ → List ℕ → Option ℕ
count_step rows i known = Some (unit_at rows i + total_of known)

-- how deep nodes of configuration stand in row i, itself counted, from the depths of what it leads to
unfoldable pub height_step : List Row → ℕ → List ℕ → Option ℕ
height_step rows i known = Some (unit_at rows i + greatest known)

-- the nodes of configuration at and below row i, each as often as it is used
unfoldable pub count_of : List Row → List (Option ℕ) → ℕ → Option ℕ
count_of rows groupings i = worth_of (count_step rows) (configuring rows groupings) (length rows) i

-- the most nodes of configuration that stand one in another at and below row i
unfoldable pub height_of : List Row → List (Option ℕ) → ℕ → Option ℕ
height_of rows groupings i = worth_of (height_step rows) (configuring rows groupings) (length rows) i

-- no more than a limit
abbrev pub capped : ℕ → Option ℕ → Option ℕ
capped limit number = option_map (min limit) number

-- the same count, no more than a limit
unfoldable pub capped_count : List Row → ℕ → ℕ → List ℕ → Option ℕ
capped_count rows limit i known = Some (min limit (unit_at rows i + total_of known))

-- the same depth, no more than a limit
unfoldable pub capped_height : List Row → ℕ → ℕ → List ℕ → Option ℕ
capped_height rows limit i known = Some (min limit (unit_at rows i + greatest known))

-- the sum of some numbers and one more, no more than a limit
abbrev pub summed : ℕ → ℕ → Option (List ℕ) → Option ℕ
summed limit total None = None
summed limit total (Some known) = Some (min limit (total + total_of known))

-- the greatest of some numbers and one more
abbrev pub highest : ℕ → Option (List ℕ) → Option ℕ
highest top None = None
highest top (Some known) = Some (max top (greatest known))
