use Rattle.std.proofs.Common.{◌∙◌, List, ℕ, ap}
use Rattle.nm_schema_keys.specs.Keys.{has_row}
use Rattle.nm_schema_keys.specs.Leafs.{HasSame}
use Rattle.nm_schema_keys.proofs.leafs.Keys.has.Goals as goal

pub returns : goal.returns
unfolding HasSame
returns c = c.contains.ensures ∙ c.self.invariant c.args.row ∙ ap (λ (rows : List ℕ). has_row rows c.args.row) c.self.view_is
