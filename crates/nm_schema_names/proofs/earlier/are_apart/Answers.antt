use Rattle.std.proofs.Common.{◌∙◌, sym}
use Rattle.nm_schema_names.proofs.Parts.{not_true, meet-apart, meet-apart-turned}
use Rattle.nm_schema_names.proofs.earlier.are_apart.Goals as goal

pub returns-then-nodes : goal.returns-then-nodes
returns-then-nodes c = λ apart. meet-apart c.args.known.now c.args.other c.args.at (sym c.in_ok-meet.ensures ∙ not_true c.in_ok-meet.meet apart)

pub returns : goal.returns
returns c = λ apart. meet-apart-turned c.args.known.now c.args.other c.args.at (sym c.in_ok-meet-2.ensures ∙ not_true c.in_ok-meet-2.meet apart)
