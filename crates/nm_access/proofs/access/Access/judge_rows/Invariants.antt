use Rattle.std.proofs.Common.{◌≡◌, length}
use Rattle.nm_access.specs.Judged.{judged_rows}
use Rattle.nm_access.proofs.access.Access.judge_rows.Given as goal

abbrev pub invariant-rows : goal.invariant-rows
invariant-rows l = judged_rows l.self l.user l.rest ≡ judged_rows l.self l.user l.rows

abbrev pub decreases-rows : goal.decreases-rows
decreases-rows l = length l.rest
