use Rattle.std.proofs.Common.{rules}
use Rattle.nm_io.proofs.Bytes.{append_known-front}
use Rattle.nm_io.proofs.writing.write_all.Goals as goal

pub loop-done-preserved : goal.loop-done-preserved
loop-done-preserved g c = record {
  within = search rules;
  taken = append_known-front _ _ _ _ _ _ c.loop-done.invariant.taken c.in-Ok.ensures.appended;
  count = search rules;
}
