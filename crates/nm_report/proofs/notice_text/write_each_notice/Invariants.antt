use Rattle.std.proofs.Common.{◌≡◌, ◌++◌, drop}
use Rattle.std.specs.List.{flat_map}
use Rattle.nm_report.specs.Notices.{notice_line}
use Rattle.nm_report.proofs.notice_text.write_each_notice.Given as goal

-- the lines so far and those that are left make all
abbrev pub invariant-loop-notice : goal.invariant-loop-notice
invariant-loop-notice l = l.out.items ++ flat_map (notice_line l.device) (drop l.notice-index l.notices)
    ≡ l.initial.out.items ++ flat_map (notice_line l.initial.device) l.initial.notices
