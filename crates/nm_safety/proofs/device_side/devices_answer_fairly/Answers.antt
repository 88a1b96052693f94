use Rattle.nm_proto.specs.declared.ask.Ask.TheVariants as ask
use Rattle.nm_wire.specs.Asks.{ask_of}
use Rattle.nm_safety.proofs.Fair.{asked_fair, entered_fair, fair_answers, fair_is}
use Rattle.nm_safety.proofs.device_side.devices_answer_fairly.Goals as goal

pub returns-clause-asked : goal.returns-clause-asked
returns-clause-asked g c = λ tables s session request reply h belong edits happens told known.
    let fair = asked_fair (g.C.Content.meaning c.args.content.now) (g.met.C.Content.laws c.args.content.now) tables s session request h reply belong edits happens told known in
    (fair_is (ask_of request) reply fair, fair_answers (ask_of request) reply fair)

pub returns-clause-entered : goal.returns-clause-entered
returns-clause-entered g c = λ tables s user reply h happens told.
    let fair = entered_fair (g.C.Content.meaning c.args.content.now) (g.met.C.Content.laws c.args.content.now) tables s user h reply happens told in
    (fair_is ask.OpenSession reply fair, fair_answers ask.OpenSession reply fair)
