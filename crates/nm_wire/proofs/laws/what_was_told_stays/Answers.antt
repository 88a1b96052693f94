use Rattle.nm_wire.proofs.Kept.{kept_begun, kept_sent, kept_told, kept_handled, kept_lost, kept_restarted}
use Rattle.nm_wire.proofs.laws.what_was_told_stays.Goals as goal

pub returns-clause-begun : goal.returns-clause-begun
returns-clause-begun c wire request = kept_begun wire request

pub returns-clause-sent : goal.returns-clause-sent
returns-clause-sent c wire request h = kept_sent wire request h

pub returns-clause-told : goal.returns-clause-told
returns-clause-told c wire link reply = kept_told wire link reply

pub returns-clause-handled : goal.returns-clause-handled
returns-clause-handled c wire link number = kept_handled wire link number

pub returns-clause-lost : goal.returns-clause-lost
returns-clause-lost c wire link = kept_lost wire link

pub returns-clause-restarted : goal.returns-clause-restarted
returns-clause-restarted c wire = kept_restarted wire
