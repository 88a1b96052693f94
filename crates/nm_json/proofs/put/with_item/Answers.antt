use Rattle.std.proofs.Common.{◌≡◌, IfOk, subst}
use Rattle.serde_json.specs.Data.{array}
use Rattle.serde_json.specs.View.{view}
use Rattle.nm_json.specs.Writing.{append}
use Rattle.nm_json.proofs.put.with_item.Goals as goal

pub returns : goal.returns
returns c = subst (λ ds. IfOk c.array_with.result (λ all. view all ≡ array (append ds (view c.args.part)))) c.items_in-items.ensures c.array_with.ensures
