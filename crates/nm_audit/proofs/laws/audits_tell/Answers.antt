use Rattle.nm_audit.proofs.Agreed.{agreed}
use Rattle.nm_audit.proofs.Exact.{agree_audits}
use Rattle.nm_audit.proofs.One.{found_apart, found_alone}
use Rattle.nm_audit.proofs.laws.audits_tell.Goals as goal

pub returns-clause-nothing : goal.returns-clause-nothing
returns-clause-nothing g c a = ((λ nothing. agreed a nothing), (λ agree. agree_audits a agree))

pub returns-clause-something : goal.returns-clause-something
returns-clause-something g c a found it agree = found_apart a found it agree

pub returns-clause-one : goal.returns-clause-one
returns-clause-one g c a found other one its = found_alone a found other one its
