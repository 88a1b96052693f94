use Rattle.std.proofs.Common.{sym, ◌∙◌}
use Rattle.nm_world.proofs.Skipping.{none_anywhere}
use Rattle.nm_world.proofs.search.loses_of.Goals as goal

pub returns-then-not-has_left_open : goal.returns-then-not-has_left_open
returns-then-not-has_left_open g c =
    none_anywhere c.args.devices.now c.args.manager.now.state c.args.change (c.has_left_open.ensures c.if-not-has_left_open.true)
