use Rattle.nm_device_laws.proofs.Owns.{takes_running, takes_candidate, edits, discards, validates, closes}
use Rattle.nm_device_laws.proofs.laws.requests_do.Goals as goal

pub returns-clause-lock_running : goal.returns-clause-lock_running
returns-clause-lock_running g c s session a d = takes_running (g.C.Content.meaning c.args.content.now) a.tables s session a.h (record { happens = a.happens; done = d })

pub returns-clause-lock_candidate : goal.returns-clause-lock_candidate
returns-clause-lock_candidate g c s session a d = takes_candidate (g.C.Content.meaning c.args.content.now) a.tables s session a.h (record { happens = a.happens; done = d })

pub returns-clause-edit : goal.returns-clause-edit
returns-clause-edit g c s session edit operation marks a d = edits (g.C.Content.meaning c.args.content.now) a.tables s session edit operation marks a.h (record { happens = a.happens; done = d })

pub returns-clause-discard : goal.returns-clause-discard
returns-clause-discard g c s session a d = discards (g.C.Content.meaning c.args.content.now) a.tables s session a.h (record { happens = a.happens; done = d })

pub returns-clause-validate : goal.returns-clause-validate
returns-clause-validate g c s session a d = validates (g.C.Content.meaning c.args.content.now) a.tables s session a.h (record { happens = a.happens; done = d })

pub returns-clause-close : goal.returns-clause-close
returns-clause-close g c s session a d = closes (g.C.Content.meaning c.args.content.now) a.tables s session a.h (record { happens = a.happens; done = d })
