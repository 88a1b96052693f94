-- Where what a name leads to stands (RFC 7950 sections 5.5, 7.3 and 7.13).
use Rattle.std.specs.Prelude.{◌≡◌, ℕ, List, Some, slice_get, ◌⊎◌, Contains}
use Rattle.nm_schema_statements.specs.declared.word.Word.{Word}
use Rattle.nm_schema_statements.specs.declared.row.Row.{Row}
use Rattle.nm_schema_statements.specs.Rows.{module_at}
use Rattle.nm_schema_statements.specs.Text.{prefix_of, name_of}
use Rattle.nm_schema_names.specs.Named.{prefix_leads}
use Rattle.nm_schema_names.specs.Leads.{enclosing}

-- the prefix of a text at row `at` leads to the module `around`
pub record IsLedTo (rows : List Row) (at : ℕ) (text : List ℕ) (around : ℕ) : Type 0 where
  pub owner : ℕ
  pub prefix : List ℕ
  pub owner_is : module_at rows at ≡ Some owner
  pub prefix_is : prefix_of text ≡ Some prefix
  pub leads : prefix_leads rows owner prefix ≡ Some around

-- a definition has the word and the name, and stands directly in a statement around row `at`, or in the module of the prefix
pub record Stands (rows : List Row) (at : ℕ) (w : Word) (text : List ℕ) (found : ℕ) : Type 0 where
  pub row : Row
  pub around : ℕ
  pub there : slice_get rows found ≡ Some row
  pub word : row.word ≡ w
  pub called : row.argument ≡ Some (name_of text)
  pub within : row.parent ≡ Some around
  pub scope : Contains (enclosing rows at) around ⊎ IsLedTo rows at text around
