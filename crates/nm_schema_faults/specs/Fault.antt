-- The first fault of modules.
use Rattle.std.specs.Prelude.{ℕ, ◌+◌, List, [], ◌∷◌, length, map, Bool, true, ◌&&◌, Option, Some, None, is_none, if◌then◌else◌, slice_get}
use Rattle.std.specs.Option.{option_or}
use Rattle.std.specs.List.{range_with_len}
use Rattle.nm_schema_statements.specs.declared.row.Row.{Row}
use Rattle.nm_schema_statements.specs.declared.flaw.Flaw.{Flaw}
use Rattle.nm_schema_names.specs.Named.{top, row_at}
use Rattle.nm_schema_typing.specs.Listing.{is_at}
use Rattle.nm_schema_nodes.specs.Expansion.{first_large}
use Rattle.nm_schema_faults.specs.declared.fault.Fault.{Fault}
use Rattle.nm_schema_faults.specs.declared.fault.Fault.TheVariants as fault
use Rattle.nm_schema_faults.specs.Facts.{Facts, definitions}
use Rattle.nm_schema_faults.specs.Flaw.{flaw_at}

-- the first of these that is there
abbrev pub first_some : {X : Type 0} → List (Option X) → Option X
first_some [] = None
first_some (None ∷ xs) = first_some xs
first_some (Some x ∷ xs) = Some x

-- a flaw of a row, with the row's module and place
abbrev pub flawed : Option Row → Option Flaw → Option Fault
flawed None found = None
flawed (Some r) None = None
flawed (Some r) (Some f) = Some (fault.Flawed f r.«module» r.place)

-- a row stands in no other: it is a module, or there is none
abbrev pub is_outermost : Option Row → Bool
is_outermost None = true
is_outermost (Some r) = is_none r.parent

-- row `at` is the last one of its module
unfoldable pub is_last : List Row → ℕ → Bool
is_last rows at = is_outermost (slice_get rows (at + 1))

-- a module is too large, which is told at its own row
abbrev pub large_by : ℕ → Option Row → Option Fault
large_by m None = None
large_by m (Some r) = Some (fault.TooLarge m r.place)

-- the fault that a module is too large, which is found at the module's last row
abbrev pub large_in : List Row → ℕ → Option Row → Option Fault
large_in rows at None = None
large_in rows at (Some r) =
    if is_last rows at && is_at (first_large rows (definitions rows)) r.«module» then large_by r.«module» (row_at rows (top rows r.«module»)) else None

-- row `at` is the last one of the first module that is too large (this project's own)
unfoldable pub large_at : List Row → ℕ → Option Fault
large_at rows at = large_in rows at (slice_get rows at)

-- the fault of a row: its flaw; or that its module ends with it, and is too large
unfoldable pub fault_at : List Row → Facts → ℕ → Option Fault
fault_at rows facts at = option_or (flawed (slice_get rows at) (flaw_at rows facts at)) (large_at rows at)

-- the first fault of modules, in the order of modules and places
unfoldable pub first_fault : List Row → Facts → Option Fault
first_fault rows facts = first_some (map (fault_at rows facts) (range_with_len 0 (length rows)))
