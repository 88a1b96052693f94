use Rattle.std.proofs.Common.{◌≡◌, IfOk, subst}
use Rattle.nm_schema_keys.specs.Uniques.{uniques_of}
use Rattle.nm_schema_faults.specs.Facts.{definitions, standing}
use Rattle.nm_schema_faults.specs.Grounded.{Grounded}
use Rattle.nm_schema_faults.proofs.Standings.{by_facts}
use Rattle.nm_schema_faults.proofs.grounds.Grounds.uniques_of.Goals as goal

pub returns : goal.returns
returns c = subst (λ (g : Grounded). IfOk c.uniques_of.result (λ f. f ≡ uniques_of g.rows (definitions g.rows) (standing g.facts) c.args.list)) c.self.view_is
    (by_facts (λ rows groupings s. IfOk c.uniques_of.result (λ f. f ≡ uniques_of rows groupings s c.args.list)) _ _ _ c.self.invariant.shape_is c.self.invariant.facts_are c.uniques_of.ensures)
