use Rattle.std.proofs.Common.{List, ℕ, sym, subst}
use Rattle.nm_schema_keys.specs.Leafs.{HasSame}
use Rattle.nm_schema_keys.proofs.Having.{pushed}
use Rattle.nm_schema_keys.proofs.leafs.Keys.push.Goals as goal

pub invariant_of-self-in-Ok : goal.invariant_of-self-in-Ok
invariant_of-self-in-Ok c = subst (λ (rows : List ℕ). HasSame c.insert.new.self rows) (sym c.in_ok-push.ensures.items) (pushed c.self.inside.set c.insert.new.self c.self.inside.all.items c.args.leaf c.self.invariant c.in-Ok.ensures.updates.0)
