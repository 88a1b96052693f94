use Rattle.std.proofs.Common.{◌≡◌, ◌∙◌, Option, None, sym, subst}
use Rattle.nm_tell.specs.declared.command.Command.{Command}
use Rattle.nm_tell.specs.Told.{Says}
use Rattle.nm_tell.specs.Words.{command_of, texts_of}
use Rattle.nm_tell.proofs.Saying.{usage_says}
use Rattle.nm_tell.proofs.program.say.Goals as goal

pub returns-in_ok-say_usage-in-None-clause-says : goal.returns-in_ok-say_usage-in-None-clause-says
returns-in_ok-say_usage-in-None-clause-says g c =
    let said = c.in_ok-say_usage-in-None.field-0 in
    let none : command_of (texts_of c.args.words.now) ≡ None = sym c.command_of.ensures ∙ c.in-None.is in
    subst (λ (command : Option Command). Says command (g.S.Source.left c.args.input.now) said.status said.text.items) (sym none)
    (usage_says (g.S.Source.left c.args.input.now) said.status said.text.items c.in_ok-say_usage-in-None.ensures)
