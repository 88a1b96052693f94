use Rattle.nm_content.specs.PlaceLaws.{entry_kept}
use Rattle.nm_content.proofs.laws.a_key_leaf_keeps_its_entry.Goals as goal

pub returns : goal.returns
returns c = entry_kept
