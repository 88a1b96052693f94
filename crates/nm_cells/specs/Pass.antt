-- What one caller keeps of its own calls (this project's own).
use Rattle.std.specs.Prelude.{Bool, true, false, List, [], ◌∷◌, ◌++◌}
use Rattle.nm_cells.specs.declared.pass.PassOwner.{PassOwner}
use Rattle.nm_cells.specs.declared.pass.PassOwner.TheVariants.{Coordinator, Operator}
use Rattle.nm_cells.specs.declared.pass.PassEntry.{PassEntry}

-- whose pass it is, and its entries
pub record PassState : Type 0 where
  pub owner : PassOwner
  pub entries : List PassEntry

-- a pass without entries
abbrev pub fresh_pass : PassOwner → PassState
fresh_pass owner = record { owner = owner; entries = [] }

-- one more entry was found
abbrev pub seen : PassState → PassEntry → PassState
seen pass entry = record pass { entries = pass.entries ++ entry ∷ [] }

-- it is an operator's
abbrev pub is_operator : PassOwner → Bool
is_operator (Coordinator change) = false
is_operator (Operator number) = true
