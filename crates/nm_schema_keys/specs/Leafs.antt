-- Lists of rows, with what tells whether a row is one of them.
use Rattle.std.specs.Prelude.{◌≡◌, ℕ, List}
use Rattle.std.specs.Ordering.{nat_cmp}
use Rattle.std.specs.BTreeSet.{BTreeSet, contains}
use Rattle.nm_schema_keys.specs.Keys.{has_row}

-- a set has the rows of a list
unfoldable pub HasSame : BTreeSet ℕ → List ℕ → Type 0
HasSame set rows = (i : ℕ) → contains nat_cmp set i ≡ has_row rows i
