use Rattle.std.proofs.Common.{◌≡◌, List, ℕ, take}
use Rattle.std.specs.List.{position_from}
use Rattle.nm_schema_names.specs.Modules.{module_found}
use Rattle.nm_schema_names.proofs.Givens.{is_given}
use Rattle.nm_schema_names.proofs.modules.modules_of.Given as goal

-- the map has the first of the modules so far for each name
abbrev pub invariant-loop-at : goal.invariant-loop-at
invariant-loop-at l = (name : List ℕ) → module_found l.modules name ≡ position_from (is_given name) 0 (take l.at l.rows)
