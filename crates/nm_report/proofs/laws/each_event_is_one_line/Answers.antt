use Rattle.nm_report.proofs.Breaks.{lines_counted}
use Rattle.nm_report.proofs.laws.each_event_is_one_line.Goals as goal

pub returns : goal.returns
returns c = lines_counted
