use Rattle.std.proofs.Common.{List, length, ap, arith}
use Rattle.nm_schema_nodes.specs.declared.fork.Fork.{Fork}
use Rattle.nm_schema_nodes.specs.declared.fork.Branch.{Branch}
use Rattle.nm_schema_nodes.proofs.Walks.{have-room}
use Rattle.nm_schema_nodes.proofs.forks.Forks.room.Goals as goal

pub returns : goal.returns
returns c = have-room c.args.self.now c.args.other.now c.laws.ensures
    (omega (arith, c.choices-choices.type_inv, c.choices-others.type_inv, ap (λ (l : List Fork). length l) c.choices-choices.ensures, ap (λ (l : List Fork). length l) c.choices-others.ensures))
    (omega (arith, c.cases-cases.type_inv, c.cases-other_cases.type_inv, ap (λ (l : List Branch). length l) c.cases-cases.ensures, ap (λ (l : List Branch). length l) c.cases-other_cases.ensures))
