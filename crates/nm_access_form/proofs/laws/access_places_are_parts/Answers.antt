use Rattle.nm_access_form.proofs.Order.{access_placed}
use Rattle.nm_access_form.proofs.laws.access_places_are_parts.Goals as goal

pub returns : goal.returns
returns c = λ path there whole cause place wrong. access_placed path there whole cause place wrong
