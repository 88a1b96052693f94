use Rattle.std.proofs.Common.{◌≡◌, drop}
use Rattle.nm_types.specs.Names.{is_once}
use Rattle.nm_types.proofs.names.is_once.Given as goal

-- the names so far are others than those behind them
abbrev pub invariant-loop-place : goal.invariant-loop-place
invariant-loop-place l = is_once (drop l.place l.names) ≡ is_once l.names
