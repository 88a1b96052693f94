use Rattle.std.proofs.Common.{◌≡◌, ◌≤◌, ◌-◌, length, take}
use Rattle.std.specs.Io.KnownBytes.{append_known}
use Rattle.nm_io.proofs.writing.write_all.Given as goal

-- what was written so far is the front of that length
abbrev pub invariant-loop-done : goal.invariant-loop-done
invariant-loop-done g l = record {
  within : l.done ≤ length l.bytes;
  taken : g.K.Sink.taken l.to ≡ append_known (g.K.Sink.taken l.initial.to) (take l.done l.bytes);
  count : g.K.Sink.faults l.initial.to ≤ g.K.Sink.faults l.to;
}

abbrev pub decreases-loop-done : goal.decreases-loop-done
decreases-loop-done g l = length l.bytes - l.done
