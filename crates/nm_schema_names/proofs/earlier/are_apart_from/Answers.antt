use Rattle.std.proofs.Common.{◌∙◌, sym}
use Rattle.nm_schema_names.proofs.Parts.{not_true, names-apart, names-apart-turned}
use Rattle.nm_schema_names.proofs.earlier.are_apart_from.Goals as goal

pub returns-then-len-nodes : goal.returns-then-len-nodes
returns-then-len-nodes c = λ apart. names-apart c.args.known.now c.args.names.now c.args.at (sym c.meet-meet.ensures ∙ not_true c.meet-meet.result apart)

pub returns : goal.returns
returns c = λ apart. names-apart-turned c.args.known.now c.args.names.now c.args.at (sym c.in_ok-meet.ensures ∙ not_true c.in_ok-meet.meet apart)
