use Rattle.nm_schema.proofs.Sound.{modules_sound}
use Rattle.nm_schema.proofs.laws.sound_nodes.Goals as goal

pub returns : goal.returns
returns c = modules_sound
