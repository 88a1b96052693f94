-- A configuration as a finite map, and what stands next in it.
use Rattle.std.specs.Prelude.{ℕ, ◌^◌, ◌-◌, min, List, [], ◌∷◌, Option, Some, None, filter, slice_get}
use Rattle.std.specs.Ordering.{is_lt}
use Rattle.std.specs.declared.cmp.Ordering.{Ordering}
use Rattle.std.specs.FinMap.{FinMap, insert, keys}
use Rattle.nm_types.specs.Path.{PathStep, path_cmp}
use Rattle.nm_types.specs.declared.value.Value.{Value}

-- a configuration: one row for each leaf that isn't a key, list entry, leaf-list entry and presence container, from its path to its value (RFC 7950)
abbrev pub Rows : Type 0
Rows = FinMap path_cmp Value

-- a map once entries are put into it, one after another
abbrev pub with_entries : {K X : Type 0} {R : K → K → Ordering} → FinMap R X → List (K × X) → FinMap R X
with_entries m [] = m
with_entries m (e ∷ es) = with_entries (insert m e.0 e.1) es

-- the first path of a configuration that stands after a path (this project's own)
abbrev pub next_path : Rows → List PathStep → Option (List PathStep)
next_path rows path = slice_get (filter (λ other. is_lt (path_cmp path other)) (keys rows)) 0

-- the first path of a configuration after a path, and the first of all where there is none to stand after (this project's own)
abbrev pub next_of : Rows → Option (List PathStep) → Option (List PathStep)
next_of rows None = slice_get (keys rows) 0
next_of rows (Some path) = next_path rows path

-- how many rows are told: at most the greatest number of 32 bits (this project's own)
abbrev pub counted : ℕ → ℕ
counted rows = min rows (2 ^ 32 - 1)
