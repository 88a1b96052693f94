use Rattle.std.proofs.Common.{◌≡◌, drop}
use Rattle.std.specs.Prelude.{option_copied}
use Rattle.std.specs.FinMap as map
use Rattle.nm_config.specs.Rows.{next_of}
use Rattle.nm_overlay.specs.Differences.{overridden}
use Rattle.nm_overlay.proofs.Following.{after}
use Rattle.nm_overlay.proofs.rows.next_after.Given as goal

abbrev pub invariant-loop-changed : goal.invariant-loop-changed
invariant-loop-changed l = record {
  same : next_of (overridden l.base l.pairs) (option_copied l.passed) ≡ next_of (overridden l.base l.pairs) (option_copied l.path);
  rest : after (option_copied l.passed) (map.entries l.pairs) ≡ drop l.changed-index l.later;
}
