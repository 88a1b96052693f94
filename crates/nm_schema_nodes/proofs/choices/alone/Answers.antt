use Rattle.std.proofs.Common.{◌∷◌, [], ◌∙◌, Some, Option, sym, ap}
use Rattle.nm_schema_nodes.specs.Forks.{Forking, is_within}
use Rattle.nm_schema_nodes.specs.Choices.{joined_all}
use Rattle.nm_schema_nodes.proofs.Joining.{alone_few, alone_many}
use Rattle.nm_schema_nodes.proofs.choices.alone.Goals as goal

pub returns-then-not-is_within : goal.returns-then-not-is_within
returns-then-not-is_within c =
    alone_many c.args.limit c.in-Some.value (ap (λ (f : Forking). is_within c.args.limit f) (sym c.get.ensures) ∙ sym c.is_within.ensures ∙ c.if-not-is_within.true)
    ∙ ap (λ (o : Option Forking). joined_all c.args.limit (o ∷ [])) (sym c.in-Some.is)

pub returns-in_ok-copy-in-Some : goal.returns-in_ok-copy-in-Some
returns-in_ok-copy-in-Some c =
    ap Some c.in_ok-copy-in-Some.ensures
    ∙ alone_few c.args.limit c.in-Some.value (ap (λ (f : Forking). is_within c.args.limit f) (sym c.get.ensures) ∙ sym c.is_within.ensures ∙ c.if-not-is_within.false)
    ∙ ap (λ (o : Option Forking). joined_all c.args.limit (o ∷ [])) (sym c.in-Some.is)
