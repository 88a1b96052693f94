use Rattle.std.proofs.Common.{◌≡◌, ◌∙◌, ◌<◌, ◌≤◌, length, true, false, sym, arith}
use Rattle.nm_schema_faults.specs.Misfit.{is_misfit}
use Rattle.nm_schema_faults.proofs.Marking.{unmarked, marked, past}
use Rattle.nm_schema_faults.proofs.grounds.Grounds.mark.Goals as goal

pub returns-then-not-branch-clause-marked : goal.returns-then-not-branch-clause-marked
returns-then-not-branch-clause-marked c =
    let fits : is_misfit c.args.self.now.rows c.args.self.now.facts c.args.number ≡ false = sym c.in_ok-is_misfit.ensures ∙ c.if-not-branch.true in
    λ at lt. unmarked c.args.self.now.rows c.args.self.now.facts _ at c.args.number fits

pub returns-then-told-len-clause-marked : goal.returns-then-told-len-clause-marked
returns-then-told-len-clause-marked c =
    let is : is_misfit c.args.self.now.rows c.args.self.now.facts c.args.number ≡ true = sym c.in_ok-is_misfit.ensures ∙ c.if-not-branch.false in
    let within : c.told-told.result < length c.args.marks.now.items = omega arith in
    λ at lt. marked c.args.self.now.rows c.args.self.now.facts c.args.number c.args.node is c.requires.node c.args.marks.now.items c.told-told.result at c.told-told.ensures within

pub returns-else-told-len-clause-marked : goal.returns-else-told-len-clause-marked
returns-else-told-len-clause-marked c =
    let is : is_misfit c.args.self.now.rows c.args.self.now.facts c.args.number ≡ true = sym c.in_ok-is_misfit.ensures ∙ c.if-not-branch.false in
    let beyond : length c.args.marks.now.items ≤ c.told-told.result = omega arith in
    λ at lt. past c.args.self.now.rows c.args.self.now.facts c.args.number c.args.node is c.requires.node c.args.marks.now.items c.told-told.result at c.told-told.ensures beyond lt
