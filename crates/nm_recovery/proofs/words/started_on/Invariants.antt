use Rattle.std.proofs.Common.{◌≡◌, ℕ, ◌<◌, take, fold}
use Rattle.std.specs.List.{list_any}
use Rattle.nm_base.specs.Mask.{mask_contains}
use Rattle.nm_recovery.specs.Recovery.{starts_on, with_started}
use Rattle.nm_recovery.proofs.words.started_on.Given as goal

-- the change sets of the device that the entries so far start
abbrev pub invariant-loop-entry : goal.invariant-loop-entry
invariant-loop-entry l = record {
  value : l.on ≡ fold (with_started l.device) 0 (take l.entry-index l.entries);
  contains : (change : ℕ) → 0 < change → mask_contains l.on change ≡ list_any (starts_on l.device change) (take l.entry-index l.entries);
}
