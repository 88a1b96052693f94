-- Worlds whose events are judged by access rules.
use Rattle.std.proofs.Common.{◌≡◌, ℕ, List, [], ◌∷◌, Bool, true, false, Option, None, Some, slice_get, refl}
use Rattle.std.specs.FinMap.{get}
use Rattle.nm_types.specs.Path.{PathStep}
use Rattle.nm_types.specs.declared.value.Value.{Value}
use Rattle.nm_proto.specs.declared.plan.Event.{Event}
use Rattle.nm_proto.specs.declared.plan.Event.TheVariants.{Submit, Turn, Deliver, Answer, Break, Lose, Advance, Restart, Forget, Crash, Renew, Foreign, Leave, Round}
use Rattle.nm_schema_tree.specs.Nodes.{SchemaTree}
use Rattle.nm_edit.specs.declared.edit.EditNode.{EditNode}
use Rattle.nm_overlay.specs.Differences.{Overlaid}
use Rattle.nm_content_place.specs.declared.place.YangNode.{YangNode}
use Rattle.nm_content.specs.Mark.{is_in_marker}
use Rattle.nm_content.specs.Meaning.{yang_meaning}
use Rattle.nm_content.specs.Laws.{yang_laws}
use Rattle.nm_device.specs.Device.{fresh_device}
use Rattle.nm_history.specs.History.{RecordedState, replayed}
use Rattle.nm_access.specs.declared.rule.AccessRules.{AccessRules}
use Rattle.nm_access_judge.specs.Judging.{event_denied}
use Rattle.nm_world.specs.World.{Setting, CoreState, core_of, start}
use Rattle.nm_safety.specs.Along.{Along, HistoryAt, IsAlong}
use Rattle.nm_safety.specs.Safe.{IsProper}
use Rattle.nm_safety.proofs.Lists.{some_is}
use Rattle.nm_access_laws.specs.Allowed.{IsAllowed}
use Rattle.nm_access_laws.specs.Rows.{IsClosed, ManagersKeep, MayAsk, is_foreign, judged_world}
use Rattle.nm_access_laws.proofs.Asked.{permits}
use Rattle.nm_access_laws.proofs.Closed.{closed_stays}
use Rattle.nm_access_laws.proofs.Runs.{IsKept, permitted_kept, starts_kept}

pub only_foreign : (access : AccessRules) (t : SchemaTree) (setting : Setting (List EditNode)) (w : CoreState Overlaid YangNode) (event : Event) → is_foreign event ≡ false
    → event_denied access t setting w event ≡ None
only_foreign access t setting w (Foreign operator device request) e = absurd (let no : true ≡ false = e in cc)
only_foreign access t setting w event e = refl

module _ (access : AccessRules) (t : SchemaTree) (setting : Setting (List EditNode)) (running : List Overlaid) (events : List Event) (proper : IsProper {Node = YangNode} (yang_meaning t) setting running events) where
  pub at_first : IsProper {Node = YangNode} (yang_meaning t) setting running []
  at_first = record { first = proper.first; edits = proper.edits; few_devices = proper.few_devices; few = proper.few; strangers = proper.strangers; given = tt }

  pub kept : IsKept (yang_meaning t) (yang_laws t) setting running (MayAsk access t setting.tables setting.users) (event_denied access t setting) (permits access t setting) at_first
      (judged_world access t setting running events)
  kept =
      permitted_kept (yang_meaning t) (yang_laws t) setting running (MayAsk access t setting.tables setting.users) (event_denied access t setting) (permits access t setting) at_first
      (start setting running) events proper.given
      (starts_kept (yang_meaning t) (yang_laws t) setting running (MayAsk access t setting.tables setting.users) (event_denied access t setting) (permits access t setting) at_first)

  pub closed_row : (path : List PathStep) (test : Option Value → Bool) (place : ℕ) (first : Overlaid) (r : RecordedState Overlaid YangNode) → IsClosed access setting.users path
      → is_in_marker path ≡ false → slice_get running place ≡ Some first → slice_get (judged_world access t setting running events).devices place ≡ Some r
      → test (get first.rows path) ≡ true
      → Along (replayed (yang_meaning t) setting.tables) (ManagersKeep t setting.tables test path) (fresh_device first) r.history → test (get r.device.stores.running.rows path) ≡ true
  closed_row path test place first r closed out begins there passes managers =
      let at = some_is r (HistoryAt (yang_meaning t) setting.tables (IsAllowed (MayAsk access t setting.tables setting.users)) running place)
      (slice_get (judged_world access t setting running events).devices place) there (kept.allowed place) in
      let along = some_is first (λ one. IsAlong (yang_meaning t) setting.tables (IsAllowed (MayAsk access t setting.tables setting.users)) (fresh_device one) r)
      (slice_get running place) begins at in
      closed_stays access t setting.tables setting.users path closed out test first r along managers passes
