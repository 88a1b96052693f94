use Rattle.std.proofs.Common.{Some, [], ◌∷◌}
use Rattle.nm_cell_tests.proofs.play.is_row.Given as goal

-- the run: one change set, three devices, of which one has a beginning
abbrev pub ghosts-story-N-Ledger : goal.ghosts-story-N-Ledger
ghosts-story-N-Ledger g a = record { name = a.blank.name; parts = a.blank.parts }

abbrev pub ghosts-story-N-RunPlans : goal.ghosts-story-N-RunPlans
ghosts-story-N-RunPlans g a = record { devices = 3; changes = a.world.now.changes.items; disk_faults = 0 }

abbrev pub ghosts-story-N-RunName : goal.ghosts-story-N-RunName
ghosts-story-N-RunName g a = record { run = record { content = Some a.world.now.content; tables = a.world.now.tables; starts = a.running ∷ []; faults = a.plan.items ∷ []; operators = [] } }
