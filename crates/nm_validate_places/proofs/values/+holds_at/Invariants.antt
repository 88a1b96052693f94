use Rattle.nm_validate_places.proofs.values.+holds_at.Given as goal

abbrev pub decreases-holds_at : goal.decreases-holds_at
decreases-holds_at g l = l.count
