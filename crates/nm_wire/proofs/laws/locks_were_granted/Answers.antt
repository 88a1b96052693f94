use Rattle.nm_proto.specs.declared.ask.Ask.TheVariants as ask
use Rattle.nm_wire.specs.Asks.{ask_of}
use Rattle.nm_wire.specs.Words.{holds_after, owns_after, done_again}
use Rattle.nm_wire.proofs.Granted.{implied, running_granted, candidate_granted}
use Rattle.nm_wire.proofs.laws.locks_were_granted.Goals as goal

pub returns-clause-running : goal.returns-clause-running
returns-clause-running c link held = implied holds_after (done_again ask.LockRunning) (λ a b x h t. running_granted a b (ask_of x.request) x.reply h t) link held

pub returns-clause-candidate : goal.returns-clause-candidate
returns-clause-candidate c link held = implied owns_after (done_again ask.LockCandidate) (λ a b x h t. candidate_granted a b (ask_of x.request) x.reply h t) link held
