use Rattle.std.proofs.Common.{◌≡◌, ◌||◌, List, ℕ, subst}
use Rattle.std.specs.Str.{bytes_eq}
use Rattle.nm_schema_names.specs.Clash.{has_name}
use Rattle.nm_schema_names.proofs.Naming.{added}
use Rattle.nm_schema_names.proofs.name_set.NameSet.add.Goals as goal

pub returns : goal.returns
returns c = λ n. subst (λ (k : List (List ℕ)). has_name c.insert.new.self.keys n ≡ (bytes_eq n c.args.name || has_name k n)) c.self.view_is (added c.self.inside.set.keys c.insert.new.self.keys c.args.name n (c.in_ok-insert.ensures.updates.0 n))
