-- Which constraints are reached by touched paths; a constraint is a rule at one place (this project's own).
use Rattle.std.specs.Prelude.{◌≡◌, List, Bool, true, ◌||◌, Contains}
use Rattle.std.specs.FinMap.{get, contains_key}
use Rattle.nm_types.specs.Path.{PathStep}
use Rattle.nm_schema_tree.specs.Nodes.{SchemaTree}
use Rattle.nm_config.specs.Rows.{Rows}
use Rattle.nm_config.specs.Under.{is_under}
use Rattle.nm_validate_rules.specs.declared.rule.Rule.{Rule}
use Rattle.nm_validate_rules.specs.Reads.{reads}

-- two configurations agree on the rows of a test
abbrev pub AgreeOn : (List PathStep → Bool) → Rows → Rows → Type 0
AgreeOn test one other = (row : List PathStep) → test row ≡ true → get one row ≡ get other row

-- two configurations differ at no other rows than these
abbrev pub DifferAmong : List (List PathStep) → Rows → Rows → Type 0
DifferAmong differing base next = (row : List PathStep) → (Contains differing row → ⊥) → get base row ≡ get next row

-- a row is at or below a touched path
pub record IsTouched (touched : List (List PathStep)) (row : List PathStep) : Type 0 where
  pub by : List PathStep
  pub among : Contains touched by
  pub under : is_under by row ≡ true

-- touched paths cover what two configurations differ in
abbrev pub Covers : List (List PathStep) → Rows → Rows → Type 0
Covers touched base next = (row : List PathStep) → (get base row ≡ get next row → ⊥) → IsTouched touched row

-- a constraint is reached: a row of the one or the other configuration that it reads lies above, at or below a touched path
pub record Reaches (t : SchemaTree) (base next : Rows) (touched : List (List PathStep)) (rule : Rule) (path : List PathStep) : Type 0 where
  pub row : List PathStep
  pub by : List PathStep
  pub there : (contains_key base row || contains_key next row) ≡ true
  pub read : reads t rule path row ≡ true
  pub touched_by : Contains touched by
  pub meets : (is_under by row || is_under row by) ≡ true
