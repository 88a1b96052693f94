use Rattle.std.proofs.Common.{◌∙◌, List, ℕ, ap}
use Rattle.nm_schema_names.specs.Clash.{has_name}
use Rattle.nm_schema_names.proofs.Naming.{contained}
use Rattle.nm_schema_names.proofs.name_set.NameSet.has.Goals as goal

pub returns : goal.returns
returns c = c.contains.ensures ∙ contained c.self.inside.set.keys c.args.name.now ∙ ap (λ (k : List (List ℕ)). has_name k c.args.name.now) c.self.view_is
