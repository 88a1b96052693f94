use Rattle.nm_access.proofs.Decisions.{may_close}
use Rattle.nm_access.proofs.laws.anybody_may_close_his_session.Goals as goal

pub returns : goal.returns
returns c = may_close
