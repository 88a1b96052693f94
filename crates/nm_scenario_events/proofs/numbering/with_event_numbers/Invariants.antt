use Rattle.std.proofs.Common.{◌≡◌, ◌++◌, length}
use Rattle.std.specs.Vec.Iter.{into_iter_items, into_iter_len}
use Rattle.nm_scenario_events.specs.Numbered.{events_from, edits_of_events, selects_of_events}
use Rattle.nm_scenario_events.proofs.numbering.with_event_numbers.Given as goal

-- what was numbered and what is left make the whole
abbrev pub invariant-loop-read : goal.invariant-loop-read
invariant-loop-read g l =
    (l.events ++ events_from l.fn.users (length l.edits) (length l.selects) (into_iter_items l.rest) ≡ events_from l.fn.users (length l.fn.edits) (length l.fn.selects) l.fn.reads)
    × (l.edits ++ edits_of_events (into_iter_items l.rest) ≡ l.fn.edits ++ edits_of_events l.fn.reads)
    × (l.selects ++ selects_of_events (into_iter_items l.rest) ≡ l.fn.selects ++ selects_of_events l.fn.reads)

abbrev pub decreases-loop-read : goal.decreases-loop-read
decreases-loop-read g l = into_iter_len l.rest
