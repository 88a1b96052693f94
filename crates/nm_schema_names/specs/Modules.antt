-- The given modules by name.
use Rattle.std.specs.Prelude.{◌≡◌, ℕ, List, Option, Some, None, if◌then◌else◌}
use Rattle.std.specs.Borrow.{Bor}
use Rattle.std.specs.Option.{option_or}
use Rattle.std.specs.Str.{bytes_eq}
use Rattle.indexmap.specs.IndexMap.{IndexMap, get_by}
use Rattle.nm_schema_statements.specs.declared.word.Word.TheVariants as word
use Rattle.nm_schema_statements.specs.declared.row.Row.{Row}
use Rattle.nm_schema_statements.specs.Word.{word_number}
use Rattle.nm_schema_names.specs.declared.key.Reach.TheVariants as reach
use Rattle.nm_schema_names.specs.Named.{has_key, named}

-- what a map has for a name
abbrev pub module_found : {S : Type 0} → IndexMap (Bor (List ℕ)) ℕ S → List ℕ → Option ℕ
module_found modules name = get_by (λ k. bytes_eq name k.now) modules

-- a map has the row of the first module of each name
unfoldable pub AreModules : {S : Type 0} → List Row → IndexMap (Bor (List ℕ)) ℕ S → Type 0
AreModules rows modules = (name : List ℕ) → module_found modules name ≡ named rows None word.Module name

-- the name of a module leads to its row, unless it leads to an earlier one, and others lead where they led
abbrev pub PutsModule : {S : Type 0} → Row → ℕ → IndexMap (Bor (List ℕ)) ℕ S → IndexMap (Bor (List ℕ)) ℕ S → Type 0
PutsModule r at before after = (name : List ℕ) → module_found after name
    ≡ option_or (module_found before name) (if has_key reach.Statement None (word_number word.Module) name r then Some at else None)
