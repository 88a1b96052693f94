use Rattle.nm_world.proofs.setup.Setup.tables.Goals as goal

pub returns-clause-belong : goal.returns-clause-belong
returns-clause-belong g c = rw (← c.self.view_is) c.self.invariant.edits
