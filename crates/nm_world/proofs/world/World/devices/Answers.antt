use Rattle.nm_world.proofs.world.World.devices.Goals as goal

pub returns-clause-sound : goal.returns-clause-sound
returns-clause-sound g c = rw (← c.self.view_is) c.devices.ensures.sound
