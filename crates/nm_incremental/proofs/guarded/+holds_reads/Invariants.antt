use Rattle.nm_incremental.proofs.guarded.+holds_reads.Given as goal

abbrev pub decreases-holds_reads : goal.decreases-holds_reads
decreases-holds_reads l = l.count
