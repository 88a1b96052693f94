use Rattle.nm_decider.proofs.Frame.{StaysSettled, StaysMember, framed, settled_stay, members_stay}
use Rattle.nm_decider.proofs.laws.settled_devices_stay.Goals as goal

pub returns-clause-settled : goal.returns-clause-settled
returns-clause-settled c place course move kept h = framed StaysSettled settled_stay place course move kept h

pub returns-clause-members : goal.returns-clause-members
returns-clause-members c place course move = framed StaysMember members_stay place course move
