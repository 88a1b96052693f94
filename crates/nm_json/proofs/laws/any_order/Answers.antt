use Rattle.nm_json.proofs.AnyOrder.{order_law}
use Rattle.nm_json.proofs.laws.any_order.Goals as goal

pub returns : goal.returns
returns c = order_law
