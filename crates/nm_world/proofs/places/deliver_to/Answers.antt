use Rattle.std.proofs.Common.{ap, option_copied}
use Rattle.nm_manager.specs.Manager.{wire_in}
use Rattle.nm_world.proofs.Meetings.{delivers_so}
use Rattle.nm_world.proofs.places.deliver_to.Goals as goal

pub returns-clause-met : goal.returns-clause-met
returns-clause-met g c =
    delivers_so (g.C.Content.meaning c.args.content.now) c.args.tables.now c.args.device.now c.serve.new.self c.args.manager.now c.delivered.new.self
    c.args.change c.args.number c.args.link (wire_in c.args.manager.now.state c.args.change c.args.number) c.session_of.result c.session_of-session.result
    c.is_session_open.result (option_copied c.outstanding.result) c.in-Some.request.now c.in_ok-told.field-0 c.in-Some-2.told
    c.session_of.ensures c.is_session_open.ensures c.if-not-is_session_open.false c.session_of-session.ensures
    c.outstanding.ensures (ap option_copied c.in-Some.is) c.in_ok-told.ensures.served c.in-Some-2.is c.delivered.ensures.told
