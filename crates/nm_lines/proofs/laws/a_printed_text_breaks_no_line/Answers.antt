use Rattle.nm_lines.proofs.Breaks.{no_break}
use Rattle.nm_lines.proofs.laws.a_printed_text_breaks_no_line.Goals as goal

pub returns : goal.returns
returns c = no_break 0
