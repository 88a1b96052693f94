use Rattle.nm_report.proofs.Breaks.{notices_counted}
use Rattle.nm_report.proofs.laws.each_notice_is_one_line.Goals as goal

pub returns : goal.returns
returns c = notices_counted
