use Rattle.nm_device.proofs.Sound.{step_sound, does_move}
use Rattle.nm_device.proofs.device.Device.step.Goals as goal

pub returns-clause-moves : goal.returns-clause-moves
returns-clause-moves g c =
    does_move (g.C.Content.meaning c.args.content.now) c.args.tables.now c.answer.result c.args.self.now c.answer.new.self c.args.session c.args.request.now c.answer.ensures.stepped

pub returns-clause-sound : goal.returns-clause-sound
returns-clause-sound g c =
    step_sound (g.C.Content.meaning c.args.content.now) (g.met.C.Content.laws c.args.content.now) c.args.tables.now c.requires.edits_belong c.answer.result c.args.self.now c.answer.new.self c.args.session
    c.args.request.now c.requires.sound c.answer.ensures.stepped
