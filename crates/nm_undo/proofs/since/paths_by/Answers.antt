use Rattle.std.proofs.Common.{◌∙◌}
use Rattle.nm_undo.specs.Since.{paths_by}
use Rattle.nm_undo.proofs.since.paths_by.Goals as goal

pub returns : goal.returns
returns g c =
    let made = g.M.RowMap.rows c.args.made.now in
    let later = g.M.RowMap.rows c.args.later.now in
    record {
      nodes = c.in_ok-nodes.nodes.items;
      once = c.in_ok-nodes.ensures;
      all = c.in_ok-paths.ensures ∙ (λ i. paths_by c.args.schema.now c.args.inverse.now.rows (c.deref.ensures.value i) made later (c.deref-2.ensures.value i));
    }
