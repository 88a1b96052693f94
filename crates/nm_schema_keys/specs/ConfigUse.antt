-- Which rows are used as configuration and which stand in state, and which nodes are lost for it.
use Rattle.std.specs.Prelude.{◌≡◌, ◌↔◌, ℕ, List, Bool, true, not, ◌&&◌, ◌||◌, Option}
use Rattle.nm_schema_statements.specs.declared.row.Row.{Row}
use Rattle.nm_schema_uses.specs.Config.{IsConfiguration, IsInState, is_state}

-- which rows are used as configuration, and which stand in state
pub record ConfigUse : Type 0 where
  pub configured : ℕ → Bool
  pub in_state : ℕ → Bool

-- it tells what holds of rows (RFC 7950 section 7.21.1)
pub record IsConfigUse (rows : List Row) (groupings : List (Option ℕ)) (standing : ConfigUse) : Type 0 where
  pub configured : (i : ℕ) → (standing.configured i ≡ true) ↔ IsConfiguration rows groupings i
  pub in_state : (i : ℕ) → (standing.in_state i ≡ true) ↔ IsInState rows groupings i

-- state is lost in list l: it is used as configuration, or it stands in no state (RFC 7950 section 7.8.2)
abbrev pub loses_state : ConfigUse → ℕ → Bool
loses_state standing l = standing.configured l || not (standing.in_state l)

-- row i says `config false` itself where state is lost (RFC 7950 sections 7.8.2 and 7.8.3)
unfoldable pub is_lost : List Row → Bool → ℕ → Bool
is_lost rows loses i = loses && is_state rows i
