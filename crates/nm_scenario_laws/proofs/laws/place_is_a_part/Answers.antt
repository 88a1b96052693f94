use Rattle.nm_scenario_laws.proofs.Places.{whole_placed, bytes_placed}
use Rattle.nm_scenario_laws.proofs.laws.place_is_a_part.Goals as goal

pub returns-clause-all : goal.returns-clause-all
returns-clause-all c = whole_placed

pub returns-clause-first : goal.returns-clause-first
returns-clause-first c = bytes_placed
