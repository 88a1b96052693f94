use Rattle.std.proofs.Common.{◌≡◌, ◌+◌, ◌-◌, ◌^◌, ◌≤◌}
use Rattle.std.specs.List.{count_by}
use Rattle.nm_proto.specs.Content.{counted_rows}
use Rattle.nm_content.specs.Mark.{is_counted, outside_rows}
use Rattle.nm_content.proofs.mark.outside_rows.Given as goal

-- the count so far and what is left make the whole count
abbrev pub invariant-loop-path : goal.invariant-loop-path
invariant-loop-path l = record {
  goes_on : counted_rows (l.count + count_by is_counted l.path-iterator) ≡ counted_rows (outside_rows l.fn.config);
  small : l.count ≤ 2 ^ 32 - 1;
}
