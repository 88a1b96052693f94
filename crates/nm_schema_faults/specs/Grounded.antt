-- What is known of modules when their faults are looked for.
use Rattle.std.specs.Prelude.{◌≡◌, ℕ, List, Bool, false, Option, None, is_some, slice_index_or}
use Rattle.nm_schema_statements.specs.declared.row.Row.{Row}
use Rattle.nm_schema_uses.specs.Outline.{Outline, outline}
use Rattle.nm_schema_typing.specs.Cycle.{Typings}
use Rattle.nm_schema_typing.specs.Flaws.{AreMeanings}
use Rattle.nm_schema_typing.specs.Listing.{AreJudgements}
use Rattle.nm_schema_typing.specs.declared.listing.Judgement.{Judgement}
use Rattle.nm_schema_typing.specs.Defaults.{joined, default_of}
use Rattle.nm_schema_keys.specs.Keys.{keys_of}
use Rattle.nm_schema_keys.specs.Uniques.{unique_flaw}
use Rattle.nm_schema_nodes.specs.Expansion.{Expanded}
use Rattle.nm_schema_leafref.specs.Known.{Known, AreLeafrefs}
use Rattle.nm_schema_faults.specs.Facts.{Facts, AreFacts, definitions, standing, tree}

-- the rows of modules, and what is so in them
pub record Grounded : Type 0 where
  pub rows : List Row
  pub facts : Facts

-- rows with what is so in them
abbrev pub grounded : List Row → Facts → Grounded
grounded rows facts = record { rows = rows; facts = facts }

-- the default of each row
abbrev pub AreDefaults : List Row → List (Option (Option (List ℕ))) → Type 0
AreDefaults rows texts = (i : ℕ) → joined (slice_index_or texts i None) ≡ default_of rows (definitions rows) i

-- the key leafs of each list
abbrev pub AreKeys : List Row → Facts → List (Option (List ℕ)) → Type 0
AreKeys rows facts keys = (i : ℕ) → slice_index_or keys i None ≡ keys_of rows (definitions rows) (standing facts) i

-- which rows are `unique` statements that have a flaw
abbrev pub AreFlawed : List Row → Facts → List Bool → Type 0
AreFlawed rows facts marks = (i : ℕ) → slice_index_or marks i false ≡ is_some (unique_flaw rows (definitions rows) (standing facts) i)

-- what is known is so
pub record AreGrounds (rows : List Row) (facts : Facts) (named : List (Option ℕ)) (shape clashes : Outline)
    (expansion : Expanded) (types : Typings) (judgements : List Judgement) (texts : List (Option (Option (List ℕ))))
    (known : Known) (keys : List (Option (List ℕ))) (flawed : List Bool) : Type 0 where
  pub named_are : named ≡ definitions rows
  pub shape_is : shape ≡ outline rows (definitions rows)
  pub clashes_are : clashes ≡ outline rows (definitions rows)
  pub tree_is : expansion ≡ tree rows facts
  pub meanings : AreMeanings rows (definitions rows) types.meanings
  pub judgements_are : AreJudgements rows (definitions rows) judgements
  pub defaults : AreDefaults rows texts
  pub leafrefs : AreLeafrefs (definitions rows) (tree rows facts) known
  pub keys_are : AreKeys rows facts keys
  pub flawed_are : AreFlawed rows facts flawed
  pub facts_are : AreFacts rows facts
