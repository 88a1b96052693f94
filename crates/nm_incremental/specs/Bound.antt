-- How many steps a check takes (this project's own).
use Rattle.std.specs.Prelude.{◌≡◌, ◌≤◌, ◌+◌, ◌||◌, ℕ, List, [], ◌∷◌, take, drop, length, Bool, true, Contains}
use Rattle.std.specs.List.{list_all}
use Rattle.std.specs.FinMap.{contains_key}
use Rattle.nm_types.specs.Path.{PathStep}
use Rattle.nm_schema_tree.specs.Nodes.{SchemaTree}
use Rattle.nm_config.specs.Rows.{Rows}
use Rattle.nm_config.specs.Under.{is_whole}
use Rattle.nm_validate_rules.specs.Violation.{Violation}
use Rattle.nm_validate_rules.specs.Reaches.{Reaches}

-- none of some constraints comes twice; a constraint is a rule at one place
abbrev pub AreApart : List Violation → Type 0
AreApart [] = Unit {0}
AreApart (c ∷ cs) = (Contains cs c → ⊥) × AreApart cs

-- a step that chooses no entry
abbrev pub is_open : PathStep → Bool
is_open step = is_whole step.chosen

-- a path begins as a row's path does, and goes on by steps that choose no entry: it is that of the row, or of what the row stands in, or of a
-- place below one of these
pub record Continues (row path : List PathStep) : Type 0 where
  pub size : ℕ
  pub within : size ≤ length path
  pub begins : take size path ≡ take size row
  pub goes_on : list_all is_open (drop size path) ≡ true

-- a path is one of a row of the one or the other configuration, or of a place in it
pub record IsPlace (base next : Rows) (path : List PathStep) : Type 0 where
  pub row : List PathStep
  pub there : (contains_key base row || contains_key next row) ≡ true
  pub place : Continues row path

-- no more steps are taken than there are constraints that touched paths reach, each at a row or a place of one of the two configurations; what
-- is nowhere isn't counted
pub record IsBounded (t : SchemaTree) (base next : Rows) (touched : List (List PathStep)) (before after : ℕ) : Type 0 where
  pub constraints : List Violation
  pub reached : (c : Violation) → Contains constraints c → Reaches t base next touched c.rule c.path
  pub placed : (c : Violation) → Contains constraints c → IsPlace base next c.path
  pub apart : AreApart constraints
  pub bound : after ≤ before + length constraints
