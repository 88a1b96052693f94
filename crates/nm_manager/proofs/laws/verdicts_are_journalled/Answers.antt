use Rattle.nm_manager.proofs.Kept.{verdict_enters}
use Rattle.nm_manager.proofs.laws.verdicts_are_journalled.Goals as goal

pub returns : goal.returns
returns c = λ plans state change verdict h. verdict_enters verdict plans state change h
