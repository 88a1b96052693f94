-- Tables that have the first row of each key.
use Rattle.std.specs.Prelude.{◌≡◌, ℕ, List, Option, Some, if◌then◌else◌}
use Rattle.std.specs.Option.{option_cmp}
use Rattle.std.specs.declared.cmp.Ordering.{Ordering}
use Rattle.std.specs.Ordering.{nat_cmp, ordering_then}
use Rattle.std.specs.Cmp.Lexicographic.{slice_cmp}
use Rattle.std.specs.BTreeMap.{BTreeMap, get}
use Rattle.nm_schema_statements.specs.declared.row.Row.{Row}
use Rattle.nm_schema_names.specs.declared.key.Reach.{Reach}
use Rattle.nm_schema_names.specs.declared.key.Key.{Key}
use Rattle.nm_schema_names.specs.declared.table.Table.{Table}
use Rattle.nm_schema_names.specs.Named.{has_key, first_keyed}

-- keys are ordered by their space, their number and the bytes of their name
abbrev pub key_cmp : Key → Key → Ordering
key_cmp x y = ordering_then (option_cmp nat_cmp x.space y.space) (ordering_then (nat_cmp x.number y.number) (slice_cmp nat_cmp x.name.now y.name.now))

-- what a table has for a key
abbrev pub found : Table → Key → Option ℕ
found t key = get key_cmp t.map key

-- a table has the first row of each key
unfoldable pub IsTable : Reach → List Row → Table → Type 0
IsTable reach rows t = (key : Key) → found t key ≡ first_keyed reach rows key.space key.number key.name.now

-- a row's key leads to the row, and others lead where they led
abbrev pub Puts : Reach → Row → ℕ → BTreeMap Key ℕ → BTreeMap Key ℕ → Type 0
Puts reach r at before after = (key : Key)
    → get key_cmp after key ≡ (if has_key reach key.space key.number key.name.now r then Some at else get key_cmp before key)
