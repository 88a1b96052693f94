use Rattle.std.proofs.Common.{rules, ◌≡◌}
use Rattle.nm_types.specs.Names.{place_in}
use Rattle.nm_types.proofs.Places.{placed_within}
use Rattle.nm_types.proofs.names.Names.place.Goals as goal

pub returns-clause-within : goal.returns-clause-within
returns-clause-within c =
    let placed : c.copied.result ≡ place_in c.args.name.now c.args.self.now = search rules in
    placed_within c.args.name.now c.args.self.now c.copied.result placed
