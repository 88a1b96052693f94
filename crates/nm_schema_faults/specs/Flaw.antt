-- What is wrong with a row of modules (RFC 7950 sections 5 to 9).
use Rattle.std.specs.Prelude.{ℕ, List, Bool, true, false, not, ◌&&◌, Option, Some, None, is_some, if◌then◌else◌, slice_get, slice_index_or}
use Rattle.std.specs.Option.{option_or}
use Rattle.nm_schema_statements.specs.declared.row.Row.{Row}
use Rattle.nm_schema_statements.specs.declared.word.Word.{Word}
use Rattle.nm_schema_statements.specs.declared.word.Word.TheVariants as word
use Rattle.nm_schema_statements.specs.declared.flaw.Flaw.{Flaw}
use Rattle.nm_schema_statements.specs.declared.flaw.Flaw.TheVariants as flaw
use Rattle.nm_schema_statements.specs.Word.{word_text}
use Rattle.nm_schema_statements.specs.Rows.{first_below}
use Rattle.nm_schema_statements.specs.Flaw.{grammar_flaw}
use Rattle.nm_schema_names.specs.Named.{parent_of}
use Rattle.nm_schema_names.specs.Flaw.{name_flaw}
use Rattle.nm_schema_names.specs.Clash.{clash_flaw}
use Rattle.nm_schema_uses.specs.Config.{claim_at, is_keyless}
use Rattle.nm_schema_typing.specs.TypeFlaw.{type_flaw, cycle_flaw}
use Rattle.nm_schema_typing.specs.Defaults.{is_default, default_flaw, default_of}
use Rattle.nm_schema_keys.specs.Keys.{key_flaw}
use Rattle.nm_schema_keys.specs.Uniques.{unique_flaw}
use Rattle.nm_schema_leafref.specs.Fault.{flaw_in}
use Rattle.nm_schema_faults.specs.Facts.{Facts, definitions, is_marked, standing}
use Rattle.nm_schema_faults.specs.Misfit.{base_of, has_misfit}

-- a bad argument by its keyword, where something holds
abbrev pub bad_if : Bool → Word → Option Flaw
bad_if true w = Some (flaw.BadArgument (word_text w))
bad_if false w = None

-- a row is marked, where there is one
abbrev pub is_marked_in : List Bool → Option ℕ → Bool
is_marked_in marks None = false
is_marked_in marks (Some i) = is_marked marks i

-- a `config true` that stands in state (RFC 7950 section 7.21.1)
unfoldable pub config_flaw : List Row → Facts → ℕ → Option Flaw
config_flaw rows facts at = bad_if (is_marked_in facts.in_state (claim_at rows at)) word.Config

-- a list of configuration without a key (RFC 7950 section 7.8.2)
unfoldable pub list_flaw : List Row → Facts → ℕ → Option Flaw
list_flaw rows facts at = bad_if (is_keyless rows at && is_marked facts.configured at) word.Key

-- a default that its leaf or typedef doesn't take; one of a key is ignored (RFC 7950 sections 7.3.4, 7.6.4 and 7.8.2)
unfoldable pub own_flaw : List Row → Facts → ℕ → Option Flaw
own_flaw rows facts at = if is_marked_in facts.keys (parent_of rows at) then None else default_flaw rows (definitions rows) at

-- what has a default
abbrev pub is_defaulted : Word → Bool
is_defaulted word.Leaf = true
is_defaulted word.Typedef = true
is_defaulted _ = false

-- a row is what has a default
abbrev pub is_defaulted_in : Option Row → Bool
is_defaulted_in None = false
is_defaulted_in (Some r) = is_defaulted r.word

-- a text is a default of a typedef, and none of row `at`
abbrev pub is_narrowed : List Row → ℕ → Option ℕ → Option (List ℕ) → Bool
is_narrowed rows at None text = false
is_narrowed rows at (Some base) None = false
is_narrowed rows at (Some base) (Some text) = is_default rows (definitions rows) base text && not (is_default rows (definitions rows) at text)

-- row `at` may take over a default: a leaf or typedef that has none of its own, and no key (RFC 7950 section 7.6.1)
unfoldable pub takes_over : List Row → Facts → ℕ → Bool
takes_over rows facts at = is_defaulted_in (slice_get rows at) && (not (is_some (first_below rows at word.Default)) && not (is_marked facts.keys at))

-- a default that a leaf or typedef takes over from its type, which the type takes and the leaf or typedef does not (RFC 7950 sections 7.3.4 and 7.6.1)
unfoldable pub inherited_flaw : List Row → Facts → ℕ → Option Flaw
inherited_flaw rows facts at = bad_if (takes_over rows facts at && is_narrowed rows at (base_of rows at) (default_of rows (definitions rows) at)) word.Default

-- a path that leads nowhere or back, from a node that has it (RFC 7950 section 9.9)
unfoldable pub path_flaw : List Row → Facts → ℕ → Option Flaw
path_flaw rows facts at = flaw_in (slice_get rows at) (slice_index_or facts.paths at None)

-- a default that a node doesn't take by the type that it has in the tree (RFC 7950 section 9.9)
unfoldable pub misfit_flaw : List Row → Facts → ℕ → Option Flaw
misfit_flaw rows facts at = bad_if (has_misfit rows facts at) word.Default

-- ---- the flaw of a row

-- of its keyword and argument, of its names, and of what its name leads to
unfoldable pub said_flaw : List Row → Facts → ℕ → Option Flaw
said_flaw rows facts at = option_or (grammar_flaw rows at) (option_or (name_flaw rows at) (cycle_flaw rows facts.cycle at))

-- of its type, of nodes of one name, and of what is configuration and state
unfoldable pub placed_flaw : List Row → Facts → ℕ → Option Flaw
placed_flaw rows facts at =
    option_or (type_flaw rows (definitions rows) at) (
    option_or (clash_flaw rows (definitions rows) at) (
    option_or (config_flaw rows facts at) (list_flaw rows facts at)))

-- of a list's keys and what is unique in it
unfoldable pub listed_flaw : List Row → Facts → ℕ → Option Flaw
listed_flaw rows facts at =
    option_or (key_flaw rows (definitions rows) (standing facts) at) (unique_flaw rows (definitions rows) (standing facts) at)

-- of its default and of its path
unfoldable pub valued_flaw : List Row → Facts → ℕ → Option Flaw
valued_flaw rows facts at =
    option_or (own_flaw rows facts at) (
    option_or (inherited_flaw rows facts at) (
    option_or (path_flaw rows facts at) (misfit_flaw rows facts at)))

-- the first flaw of a row (the order is this project's own)
unfoldable pub flaw_at : List Row → Facts → ℕ → Option Flaw
flaw_at rows facts at =
    option_or (said_flaw rows facts at) (
    option_or (placed_flaw rows facts at) (
    option_or (listed_flaw rows facts at) (valued_flaw rows facts at)))
