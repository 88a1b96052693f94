use Rattle.std.proofs.Common.{length, ap, arith}
use Rattle.nm_schema_nodes.specs.declared.fork.Branch.{Branch}
use Rattle.nm_schema_tree.specs.declared.choice.CaseNode.{CaseNode}
use Rattle.nm_schema_tree.specs.Nodes.{SchemaTree}
use Rattle.nm_schema.specs.Choices.{case_node}
use Rattle.nm_schema.proofs.choice.put_cases.Goals as goal

pub push_case-requires : goal.push_case-requires
unfolding case_node
push_case-requires c =
    let none : Branch = record { choice = 0; row = 0 } in
    let there = c.requires c.loop-branch.branch-index none c.loop-branch-test.true in
    let choice = ap (λ (n : CaseNode). n.choice) c.in_ok-case.ensures in
    let same = ap (λ (t : SchemaTree). length t.choices) c.loop-branch.invariant in
    omega (arith, there, choice, same)
