use Rattle.nm_cells.proofs.Finds.{change_finds}
use Rattle.nm_cells.proofs.cell.DeviceCell.ask_change.Goals as goal

pub returns-clause-found : goal.returns-clause-found
returns-clause-found g c =
    change_finds (g.C.Content.meaning c.args.content.now) c.args.tables.now c.args.self.now.device c.args.pass.now.owner _ _ c.args.pass.now.entries _ c.args.session c.args.request.now _ _ c.serve_change.result c.requires.turn c.serve_change.ensures.served
