-- What access rules let operators do in a world of YANG data (RFC 8341 sections 3.4.4 and 3.4.5).
use Rattle.std.specs.Prelude.{◌≡◌, ℕ, List, Bool, true, false, Option, Some, is_some, Result, Ok, slice_get}
use Rattle.std.specs.FinMap.{get}
use Rattle.nm_types.specs.Path.{PathStep}
use Rattle.nm_types.specs.declared.value.Value.{Value}
use Rattle.nm_base.specs.declared.number.EditNo.{EditNo}
use Rattle.nm_proto.specs.Content.{TablesState}
use Rattle.nm_proto.specs.declared.message.DefaultOperation.{DefaultOperation}
use Rattle.nm_proto.specs.declared.message.Marks.{Marks}
use Rattle.nm_proto.specs.declared.message.Request.{Request}
use Rattle.nm_proto.specs.declared.message.Request.TheVariants.{Edit}
use Rattle.nm_proto.specs.declared.message.RowAccess.{RowAccess}
use Rattle.nm_schema_tree.specs.Nodes.{SchemaTree}
use Rattle.nm_config.specs.Rows.{Rows}
use Rattle.nm_edit.specs.declared.edit.EditNode.{EditNode}
use Rattle.nm_edit.specs.Edited.{edited_rows}
use Rattle.nm_overlay.specs.Differences.{Overlaid}
use Rattle.nm_content_place.specs.declared.place.YangNode.{YangNode}
use Rattle.nm_content.specs.Mark.{with_marks}
use Rattle.nm_sessions.specs.Sessions.{user_of}
use Rattle.nm_stores.specs.Stores.{candidate_of}
use Rattle.nm_device.specs.Device.{DeviceState, is_manager}
use Rattle.nm_history.specs.declared.event.DeviceEvent.TheVariants.{Asked}
use Rattle.nm_history.specs.declared.event.Noted.{Noted}
use Rattle.nm_access.specs.declared.rule.AccessRules.{AccessRules}
use Rattle.nm_access.specs.declared.access.Judgement.TheVariants.{Permit}
use Rattle.nm_access.specs.Judged.{row_denial}
use Rattle.nm_access_judge.specs.Judging.{event_denied, request_judged}
use Rattle.nm_proto.specs.declared.plan.Event.{Event}
use Rattle.nm_proto.specs.declared.plan.Event.TheVariants.{Foreign}
use Rattle.nm_content.specs.Meaning.{yang_meaning}
use Rattle.nm_permitted.specs.Permitted.{permitted}
use Rattle.nm_world.specs.World.{Setting, WorldState, run, start}

-- a user is an operator's, and the rules permit what it asks for, by candidate as it stands
pub record MayAsk (access : AccessRules) (t : SchemaTree) (tables : TablesState (List EditNode)) (users : List (List ℕ)) (user : List ℕ)
    (s : DeviceState Overlaid YangNode) (request : Request) : Type 0 where
  pub place : ℕ
  pub named : slice_get users place ≡ Some user
  pub permitted : request_judged access t tables user (candidate_of s.stores).rows request ≡ Permit

-- no operator may do anything to a row
abbrev pub IsClosed : AccessRules → List (List ℕ) → List PathStep → Type 0
IsClosed access users path = (place : ℕ) (user : List ℕ) (kind : RowAccess) → slice_get users place ≡ Some user
    → is_some (row_denial access user (path, kind)) ≡ true

-- what an edit of the manager's makes of candidate passes a test of a row's value where candidate does
abbrev pub ManagersKeep : SchemaTree → TablesState (List EditNode) → (Option Value → Bool) → List PathStep → DeviceState Overlaid YangNode → Noted → Type 0
ManagersKeep t tables test path s entry =
    (session : ℕ) (edit : EditNo) (operation : DefaultOperation) (marks : Option Marks) (nodes : List EditNode) (made : Rows)
    → entry.event ≡ Asked session (Edit edit operation marks) → is_manager (user_of s.sessions session) ≡ true
    → slice_get tables.edits edit.0 ≡ Some nodes → test (get (candidate_of s.stores).rows path) ≡ true
    → with_marks (edited_rows t (candidate_of s.stores).rows nodes operation) marks ≡ Ok made → test (get made path) ≡ true

-- ---- a world whose events are judged by access rules

-- the world that these events lead to, those that are denied left out
abbrev pub judged_world : AccessRules → SchemaTree → Setting (List EditNode) → List Overlaid → List Event → WorldState Overlaid YangNode
judged_world access t setting running events =
    run (yang_meaning t) setting (start setting running) (permitted (yang_meaning t) setting (event_denied access t setting) (start setting running) events)

-- an operator asks
abbrev pub is_foreign : Event → Bool
is_foreign (Foreign operator device request) = true
is_foreign _ = false
