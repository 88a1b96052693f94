-- Types that lead to themselves (RFC 7950 section 7.3).
use Rattle.std.specs.Prelude.{ℕ, ◌<◌, List, Option, Contains}
use Rattle.nm_schema_statements.specs.declared.row.Row.{Row}
use Rattle.nm_schema_typing.specs.TypeGraph.{leads}
use Rattle.nm_schema_typing.specs.Meaning.{Meaning}

-- a row leads to another in one step, or in one step and further ones
pub data LeadsOn (rows : List Row) (typedefs : List (Option ℕ)) : ℕ → ℕ → Type 0 where
  one : {i j : ℕ} → Contains (leads rows typedefs i) j → LeadsOn rows typedefs i j
  further : {i j : ℕ} (k : ℕ) → Contains (leads rows typedefs i) k → LeadsOn rows typedefs k j → LeadsOn rows typedefs i j

-- the first row that leads to itself
pub record IsTypeCycle (rows : List Row) (typedefs : List (Option ℕ)) (i : ℕ) : Type 0 where
  pub leads_back : LeadsOn rows typedefs i i
  pub least : (j : ℕ) → j < i → ¬ (LeadsOn rows typedefs j j)

-- no row leads to itself
abbrev pub HaveNoCycle : List Row → List (Option ℕ) → Type 0
HaveNoCycle rows typedefs = (i : ℕ) → ¬ (LeadsOn rows typedefs i i)

-- the meaning of each row, and the first row that leads to itself
pub record Typings : Type 0 where
  pub meanings : List (Option Meaning)
  pub cycle : Option ℕ
