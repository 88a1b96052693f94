-- Modules in which nothing is wrong.
use Rattle.std.specs.Prelude.{◌≡◌, ℕ, List, Some, None, slice_get}
use Rattle.nm_yang.specs.Tree.{Tree}
use Rattle.nm_schema_statements.specs.declared.row.Row.{Row}
use Rattle.nm_schema_statements.specs.Flaw.{grammar_flaw}
use Rattle.nm_schema_statements.specs.Rows.{rows_of}
use Rattle.nm_schema_names.specs.Flaw.{name_flaw}
use Rattle.nm_schema_names.specs.Clash.{clash_flaw}
use Rattle.nm_schema_typing.specs.TypeFlaw.{type_flaw, cycle_flaw}
use Rattle.nm_schema_keys.specs.Keys.{key_flaw}
use Rattle.nm_schema_keys.specs.Uniques.{unique_flaw}
use Rattle.nm_schema_nodes.specs.Expansion.{first_large}
use Rattle.nm_schema_faults.specs.Facts.{Facts, definitions, standing}
use Rattle.nm_schema_faults.specs.Flaw.{config_flaw, list_flaw, own_flaw, inherited_flaw, path_flaw, misfit_flaw}
use Rattle.nm_schema.specs.FactsOf.{facts_in}

-- nothing is wrong with the statement of row i
pub record IsFaultless (rows : List Row) (facts : Facts) (i : ℕ) : Type 0 where
  -- it may stand where it stands, as often as it does, nothing is lacking in it, and its argument has its form (RFC 7950 sections 7 and 14)
  pub grammar : grammar_flaw rows i ≡ None
  -- its name is free where it stands, and leads to what it names (RFC 7950 sections 5.5, 6.2.1, 7.1.4, 7.1.5, 7.4 and 7.13)
  pub name : name_flaw rows i ≡ None
  -- it isn't the first that leads to itself through typedefs or groupings (RFC 7950 sections 7.3, 7.12 and 7.13)
  pub cycle : cycle_flaw rows facts.cycle i ≡ None
  -- as a type, or in one, it restricts what can be so restricted, and nothing is lacking (RFC 7950 sections 7.4 and 9)
  pub typed : type_flaw rows (definitions rows) i ≡ None
  -- no other node has its name where it brings nodes (RFC 7950 sections 6.2.1, 7.9 and 7.13)
  pub clash : clash_flaw rows (definitions rows) i ≡ None
  -- it says no `config true` in state (RFC 7950 section 7.21.1)
  pub config : config_flaw rows facts i ≡ None
  -- as a list of configuration it has a key (RFC 7950 section 7.8.2)
  pub list : list_flaw rows facts i ≡ None
  -- as a key it names leafs of its list, each once (RFC 7950 section 7.8.2)
  pub key : key_flaw rows (definitions rows) (standing facts) i ≡ None
  -- as a unique statement it leads to leafs below its list (RFC 7950 section 7.8.3)
  pub unique : unique_flaw rows (definitions rows) (standing facts) i ≡ None
  -- as a default it is a value of the leaf or typedef that it stands in (RFC 7950 sections 7.3.4 and 7.6.4)
  pub own : own_flaw rows facts i ≡ None
  -- the default that it takes over from its type is one of its values (RFC 7950 sections 7.3.4 and 7.6.1)
  pub inherited : inherited_flaw rows facts i ≡ None
  -- as a path it leads from each node that has it to a leaf or leaf-list, and not back (RFC 7950 section 9.9)
  pub path : path_flaw rows facts i ≡ None
  -- each node that has it as its default takes it, by the type that the node has in the tree (RFC 7950 section 9.9)
  pub misfit : misfit_flaw rows facts i ≡ None

-- nothing is wrong with any statement, and no module is too large (this project's own: the limits)
pub record AreFaultless (rows : List Row) (facts : Facts) : Type 0 where
  pub each : (i : ℕ) (r : Row) → slice_get rows i ≡ Some r → IsFaultless rows facts i
  pub small : first_large rows (definitions rows) ≡ None

-- nothing is wrong with modules
abbrev pub HaveNoFault : List Tree → Type 0
HaveNoFault modules = AreFaultless (rows_of modules) (facts_in (rows_of modules))
