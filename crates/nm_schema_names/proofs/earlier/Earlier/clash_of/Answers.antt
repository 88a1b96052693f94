use Rattle.nm_schema_names.proofs.Parts.{apart-none}
use Rattle.nm_schema_names.proofs.earlier.Earlier.clash_of.Goals as goal

pub returns-then-branch : goal.returns-then-branch
returns-then-branch c = apart-none c.args.known.now c.args.self.now c.args.at (c.in_ok-is_apart.ensures c.if-branch.true)
