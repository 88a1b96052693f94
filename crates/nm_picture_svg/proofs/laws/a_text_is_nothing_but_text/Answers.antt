use Rattle.nm_picture_svg.proofs.Escapes.{means_itself}
use Rattle.nm_picture_svg.proofs.laws.a_text_is_nothing_but_text.Goals as goal

pub returns : goal.returns
returns c = means_itself
