use Rattle.std.proofs.Common.{◌∙◌, sym, ap, drop}
use Rattle.nm_schema_leafref.specs.Walk as spec
use Rattle.nm_schema_leafref.specs.declared.led.Spot.{Spot}
use Rattle.nm_schema_leafref.proofs.Walks.{walked-missing, walked-unknown}
use Rattle.nm_schema_leafref.proofs.tree.Tree.walked.Goals as goal

pub returns-in-Missing : goal.returns-in-Missing
returns-in-Missing c = sym (walked-missing c.args.self.now c.args.written c.args.owner (drop c.loop-name.name-index c.args.names.now)) ∙ ap (λ (s : Spot). spec.walked c.args.self.now c.args.written c.args.owner s (drop c.loop-name.name-index c.args.names.now)) (sym c.in-Missing.is) ∙ c.loop-name.invariant

pub returns-in-Unknown : goal.returns-in-Unknown
returns-in-Unknown c = sym (walked-unknown c.args.self.now c.args.written c.args.owner (drop c.loop-name.name-index c.args.names.now)) ∙ ap (λ (s : Spot). spec.walked c.args.self.now c.args.written c.args.owner s (drop c.loop-name.name-index c.args.names.now)) (sym c.in-Unknown.is) ∙ c.loop-name.invariant
