use Rattle.std.proofs.Common.{sym, subst}
use Rattle.nm_cells.specs.Grows.{GrowsBy}
use Rattle.nm_cells.proofs.Grows.{grows_same, entering_grows, asking_grows}
use Rattle.nm_cells.proofs.kept.KeptDevice.serve.Goals.{in-Some-session, in-None}
use Rattle.nm_cells.proofs.kept.KeptDevice.serve.Goals as goal

pub returns-in-Some-clause-grows : goal.returns-in-Some-clause-grows
returns-in-Some-clause-grows g c =
    entering_grows (g.C.Content.meaning c.args.content.now) c.args.device c.args.self.now c.serve_opening.new.self _ _ c.in-Some.user.now c.serve_opening.result c.serve_opening.ensures.served c.serve_opening.ensures.no_memory

pub returns-clause-grows : goal.returns-clause-grows
returns-clause-grows g c = elim c.match-session.branch [
  | in-Some-session w ↦
      subst (λ s. GrowsBy 3 c.args.self.now.recorded.history s.recorded.history) (sym w.self-is)
      (asking_grows (g.C.Content.meaning c.args.content.now) c.args.device c.args.self.now w.serve_session.new.self _ _ c.args.tables.now _ _ c.args.request.now w.serve_session.result w.serve_session.ensures.served w.serve_session.ensures.no_memory)
  | in-None w ↦ subst (λ s. GrowsBy 3 c.args.self.now.recorded.history s.recorded.history) (sym w.self-is) (grows_same c.args.self.now.recorded.history)
]
