-- What the nodes that rows bring rest on, but for state.
use Rattle.std.proofs.Common.{◌≡◌, ◌<◌, ◌≤◌, ◌∙◌, ℕ, List, [], length, All, Option, Bool, true, false, filter, refl, sym, ap, subst, if◌then◌else◌}
use Rattle.std.proofs.lemmas.List.Elements.{All-filter, All-nil}
use Rattle.nm_schema_statements.specs.declared.row.Row.{Row}
use Rattle.nm_schema_uses.specs.Holding.{holding, bringing, is_data_at, AreLeading}
use Rattle.nm_schema_uses.specs.Config.{is_kept, kept_of, configuring}
use Rattle.nm_schema_uses.proofs.Graphs.{bringing-past}

unless_all : (b : Bool) (P : ℕ → Type 0) (nodes : List ℕ) → All P nodes → All P (if b then [] else nodes)
unless_all true P nodes h = All-nil P
unless_all false P nodes h = h

pub bringing-leading : (rows : List Row) (groupings : List (Option ℕ)) → AreLeading rows groupings → (i : ℕ) → All (λ next. next < length rows) (kept_of (bringing rows groupings) rows i)
unfolding kept_of bringing
bringing-leading rows groupings h i = All-filter (is_kept rows) (λ next. next < length rows) (if is_data_at rows i then [] else holding rows groupings i) (unless_all (is_data_at rows i) (λ next. next < length rows) (holding rows groupings i) (h i))

pub configuring-leading : (rows : List Row) (groupings : List (Option ℕ)) → AreLeading rows groupings → (i : ℕ) → All (λ next. next < length rows) (configuring rows groupings i)
unfolding kept_of
configuring-leading rows groupings h i = All-filter (is_kept rows) (λ next. next < length rows) (holding rows groupings i) (h i)

pub kept_bringing-past : (rows : List Row) (groupings : List (Option ℕ)) (i : ℕ) → length rows ≤ i → kept_of (bringing rows groupings) rows i ≡ []
unfolding kept_of
kept_bringing-past rows groupings i le = rw (bringing-past rows groupings i le) refl
