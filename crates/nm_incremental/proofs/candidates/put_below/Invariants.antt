use Rattle.std.proofs.Common.{◌≡◌, List, ◌++◌, drop, map}
use Rattle.std.specs.Prelude.{filter}
use Rattle.nm_types.specs.Path.{PathStep}
use Rattle.nm_validate_rules.specs.Values.{path_in}
use Rattle.nm_validate_rules.specs.Candidates.{is_above}
use Rattle.nm_incremental.proofs.candidates.put_below.Given as goal

abbrev pub invariant-loop-above : goal.invariant-loop-above
invariant-loop-above l =
    l.paths.items ++ map (λ (above : List PathStep). path_in l.schema above l.at) (filter (is_above l.schema l.at) (drop l.above-index l.fronts))
    ≡ l.fn.paths.items ++ map (λ (above : List PathStep). path_in l.schema above l.at) (filter (is_above l.schema l.at) l.fronts)
