use Rattle.std.proofs.Common.{ap, ◌∙◌}
use Rattle.serde_json.specs.Data.{array}
use Rattle.serde_json.specs.View.{items_view}
use Rattle.serde_json.proofs.Views.{view-Array}
use Rattle.nm_json.proofs.Putting.{items_push}
use Rattle.nm_json.proofs.put.array_with.Goals as goal

pub returns-in-Ok : goal.returns-in-Ok
returns-in-Ok c = view-Array c.push.new.self ∙ ap (λ us. array (items_view us)) c.in-Ok.ensures.items ∙ ap array (items_push c.args.items.items c.args.part)
