-- What is numbered in a scenario: the edits of its change sets and then those of its events, and its selections (this project's own).
use Rattle.std.specs.Prelude.{List, ◌++◌, length}
use Rattle.nm_scenario_events.specs.Numbered.{events_from, edits_of_events, selects_of_events}
use Rattle.nm_scenario.specs.declared.numbering.Numbered.{Numbered}
use Rattle.nm_scenario.specs.declared.scenario.ReadChange.{ReadChange}
use Rattle.nm_scenario.specs.declared.members.Rest.{Rest}
use Rattle.nm_scenario.specs.Changes.{plans_from, edits_of}

-- what was read, once it is numbered
abbrev pub numbered : {E : Type 0} → List (ReadChange E) → Rest E → Numbered E
numbered changes rest = record {
  edits = edits_of changes ++ edits_of_events rest.events;
  changes = plans_from 0 changes;
  operators = rest.operators;
  events = events_from rest.operators (length (edits_of changes)) 0 rest.events;
  selects = selects_of_events rest.events;
  drain = rest.drain;
  trace = rest.trace;
  notices = rest.notices;
}
