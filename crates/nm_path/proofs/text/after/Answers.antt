use Rattle.std.proofs.Common.{◌∙◌, ap, Some, sym}
use Rattle.nm_path.proofs.Texts.{begins-after, begins-none, begins-boundary}
use Rattle.nm_path.proofs.text.after.Goals as goal

pub returns-then-not-begins-clause-rest : goal.returns-then-not-begins-clause-rest
returns-then-not-begins-clause-rest c = begins-none c.args.text.now c.args.byte (sym c.begins.ensures ∙ c.if-not-begins.true)

pub range_from-requires : goal.range_from-requires
range_from-requires c = λ _. begins-boundary c.args.text.now c.args.byte c.utf8.text c.requires (sym c.begins.ensures ∙ c.if-not-begins.false)

pub returns-clause-rest : goal.returns-clause-rest
returns-clause-rest c = begins-after c.args.text.now c.args.byte (sym c.begins.ensures ∙ c.if-not-begins.false) ∙ ap Some (sym c.range_from.ensures.value)
