use Rattle.std.proofs.Common.{◌≡◌, ℕ, ◌<◌, ◌&&◌, take, fold}
use Rattle.std.specs.List.{list_any}
use Rattle.nm_base.specs.Mask.{mask_contains}
use Rattle.nm_journal.specs.Entries.{ends}
use Rattle.nm_recovery.specs.Recovery.{with_ended}
use Rattle.nm_recovery.proofs.words.ended_on.Given as goal

-- the change sets of the device that the entries so far end
abbrev pub invariant-loop-entry : goal.invariant-loop-entry
invariant-loop-entry l = record {
  value : l.ended ≡ fold (with_ended l.on.0) 0 (take l.entry-index l.entries);
  contains : (change : ℕ) → 0 < change → mask_contains l.ended change ≡ (list_any (ends change) (take l.entry-index l.entries) && mask_contains l.on.0 change);
}
