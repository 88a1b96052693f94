use Rattle.std.proofs.Common.{◌≡◌, ◌≤◌, ◌-◌, vec_len, vec_capacity}
use Rattle.std.specs.Io.KnownBytes.{prepend_known}
use Rattle.nm_io.proofs.reading.fill.Given as goal

-- the bytes are what was read so far, within the limit, and there is room for as many as the limit
abbrev pub invariant-loop-bytes : goal.invariant-loop-bytes
invariant-loop-bytes g l = record {
  within : vec_len l.bytes ≤ l.limit;
  room : l.limit ≤ vec_capacity l.bytes;
  read : g.S.Source.left l.initial.from ≡ prepend_known l.bytes.items (g.S.Source.left l.from);
  count : g.S.Source.faults l.initial.from ≤ g.S.Source.faults l.from;
}

abbrev pub decreases-loop-bytes : goal.decreases-loop-bytes
decreases-loop-bytes g l = l.limit - vec_len l.bytes
