use Rattle.std.proofs.Common.{◌++◌, refl, sym, ap, ◌∙◌, append-nil}
use Rattle.std.proofs.lemmas.List.{drop_all}
use Rattle.nm_validate.specs.Led.{paths_of}
use Rattle.nm_validate.proofs.Lead.{met_on}
use Rattle.nm_validate.proofs.places.with_nodes.Goals as goal

pub loop-path-preserved : goal.loop-path-preserved
loop-path-preserved c =
    met_on c.args.schema.now c.args.paths.now c.loop-path.path-index c.path-item.result c.loop-path.places.items c.push.new.self.items _ c.loop-path-test.true c.path-item.is refl c.node_of-node.ensures.value c.in_ok-push.ensures.items
    c.loop-path.invariant

pub returns-clause-paths : goal.returns-clause-paths
returns-clause-paths c =
    let paths = paths_of c.loop-path.places.items in
    sym (append-nil paths) ∙ ap (λ ps. paths ++ ps) (sym (drop_all c.loop-path.path-index c.args.paths.now c.loop-path-test.false)) ∙ c.loop-path.invariant.paths
