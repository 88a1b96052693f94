-- How many change sets, devices and operators a scenario has (this project's own), by its own members: whatever is wrong there.
use Rattle.std.specs.Prelude.{ℕ, List, Option, Some, None, codes}
use Rattle.serde_json.specs.Data.{Data}
use Rattle.serde_json.specs.Find.{get}
use Rattle.nm_scenario_form.specs.Words.{item_count}
use Rattle.nm_scenario_events.specs.declared.arguments.Counts.{Counts}

-- how many items a member has
abbrev pub items_of : Option Data → ℕ
items_of None = 0
items_of (Some part) = item_count part

-- how many items the member of this name has; none where it is no list
abbrev pub count_in : List ℕ → Data → ℕ
count_in name whole = items_of (get name whole)

-- how many change sets, devices and operators there are, whatever is wrong in them
abbrev pub counts_of : Data → Counts
counts_of whole = record {
  changes = count_in (codes "changes") whole;
  devices = count_in (codes "devices") whole;
  operators = count_in (codes "operators") whole;
}
