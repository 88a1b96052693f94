use Rattle.std.proofs.Common.{◌≤◌, [], length, vec_capacity}
use Rattle.nm_journal.specs.Entries.{IsInOrder}
use Rattle.nm_journal.proofs.Reach.{GoesOnFrom}
use Rattle.nm_journal.proofs.reading.read_into.Given as goal

-- what is left of the bytes is read behind the entries so far
abbrev pub invariant-loop-rest : goal.invariant-loop-rest
invariant-loop-rest l = record {
  goes_on : GoesOnFrom (length l.bytes) [] l.entries.items l.bytes l.rest;
  in_order : IsInOrder l.entries.items;
  room : 192 ≤ vec_capacity l.entries;
}

abbrev pub decreases-loop-rest : goal.decreases-loop-rest
decreases-loop-rest l = length l.rest
