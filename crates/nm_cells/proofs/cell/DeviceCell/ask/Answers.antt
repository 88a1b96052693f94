use Rattle.nm_cells.proofs.Finds.{ask_finds}
use Rattle.nm_cells.proofs.cell.DeviceCell.ask.Goals as goal

pub returns-clause-found : goal.returns-clause-found
returns-clause-found g c =
    ask_finds (g.C.Content.meaning c.args.content.now) c.args.tables.now c.args.self.now.device c.args.pass.now.owner _ _ c.args.pass.now.entries _ c.args.session c.args.request.now c.serve.result c.requires.operator c.serve.ensures.served
