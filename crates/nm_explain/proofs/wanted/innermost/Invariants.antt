use Rattle.std.proofs.Common.{◌≡◌, drop, None}
use Rattle.std.specs.Prelude.{option_copied}
use Rattle.nm_explain.specs.Wanted.{innermost}
use Rattle.nm_explain.proofs.wanted.innermost.Given as goal

abbrev pub invariant-loop-step : goal.invariant-loop-step
invariant-loop-step l = innermost (option_copied l.found) (drop l.step-index l.fn.place) ≡ innermost None l.fn.place
