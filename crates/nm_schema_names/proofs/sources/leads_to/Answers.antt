use Rattle.std.proofs.Common.{◌∙◌, sym}
use Rattle.nm_schema_uses.proofs.Graphs.{successors-read, successors-past}
use Rattle.nm_schema_names.proofs.sources.leads_to.Goals as goal

pub returns-then-at-graph : goal.returns-then-at-graph
returns-then-at-graph c = c.as_slice.ensures.value ∙ successors-read c.args.graph.now c.args.at c.index-graph-at.result c.if-at-graph.true c.index-graph-at.is

pub returns : goal.returns
returns c = sym (successors-past c.args.graph.now c.args.at c.if-at-graph.false)
