use Rattle.std.proofs.Common.{Some, sym, ap, ◌∙◌}
use Rattle.std.proofs.lemmas.Option.{same_Some}
use Rattle.nm_sessions.proofs.Tables.{is_found, nowhere_found}
use Rattle.nm_sessions.proofs.sessions.Sessions.user_of.Goals as goal

pub returns-in-Some-get : goal.returns-in-Some-get
returns-in-Some-get c = let found = c.in-Some.ensures.found in
    let here = is_found c.self.inside.table.slots c.self.invariant.distinct c.in-Some.key c.args.session found.0 found.1 in
    let stored = same_Some _ _ (c.in-Some-get.ensures ∙ found.1) in
    rw (← c.self.view_is) (ap Some (ap (λ p. p.1) (c.stored.view_is ∙ stored)) ∙ sym here)

pub returns-in-None : goal.returns-in-None
returns-in-None c =
    rw (← c.self.view_is) (sym (nowhere_found c.self.inside.table.slots c.args.session c.in-None.ensures.absent))
