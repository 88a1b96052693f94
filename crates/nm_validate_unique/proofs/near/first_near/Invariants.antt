use Rattle.nm_config.specs.Rows.{Rows}
use Rattle.nm_validate_places.specs.Listed.{AreRows}
use Rattle.nm_validate_unique.proofs.near.first_near.Given as goal

abbrev pub invariant-rows : goal.invariant-rows
invariant-rows l = (m : Rows) → AreRows m l.fn.rows → AreRows m l.rest

abbrev pub decreases-rows : goal.decreases-rows
decreases-rows l = l.left
