use Rattle.std.proofs.Common.{◌≡◌, map, take}
use Rattle.nm_schema.specs.Choices as spec
use Rattle.nm_schema.proofs.choice.put_cases.Given as goal

-- the cases so far are put
abbrev pub invariant-loop-branch : goal.invariant-loop-branch
invariant-loop-branch l = l.schema ≡ spec.with_cases l.fn.schema (map (spec.case_node l.rows l.choices) (take l.branch-index l.branches))
