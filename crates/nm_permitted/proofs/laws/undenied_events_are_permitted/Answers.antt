use Rattle.nm_permitted.proofs.Judged.{all_permitted}
use Rattle.nm_permitted.proofs.Told.{none_denied}
use Rattle.nm_permitted.proofs.laws.undenied_events_are_permitted.Goals as goal

pub returns-clause-all : goal.returns-clause-all
returns-clause-all g c setting = all_permitted (g.C.Content.meaning c.args.content.now) setting

pub returns-clause-none : goal.returns-clause-none
returns-clause-none g c setting = none_denied (g.C.Content.meaning c.args.content.now) setting
