-- What access rules say to the events of a world of YANG data (RFC 8341 sections 3.4.4 and 3.4.5).
use Rattle.std.specs.Prelude.{ℕ, ◌-◌, ◌==◌, List, Option, Some, None, option_map, Result, Ok, Err, slice_get, codes, if◌then◌else◌}
use Rattle.nm_types.specs.Path.{PathStep}
use Rattle.nm_proto.specs.Content.{Refusal, TablesState}
use Rattle.nm_proto.specs.declared.message.DefaultOperation.{DefaultOperation}
use Rattle.nm_proto.specs.declared.message.Request.{Request}
use Rattle.nm_proto.specs.declared.message.Request.TheVariants.{Edit, Discard, Kill}
use Rattle.nm_proto.specs.declared.plan.Event.{Event}
use Rattle.nm_proto.specs.declared.plan.Event.TheVariants.{Foreign}
use Rattle.nm_proto.specs.Message.{word_of, word_text}
use Rattle.nm_schema_tree.specs.Nodes.{SchemaTree}
use Rattle.nm_path.specs.Written.{path_text}
use Rattle.nm_config.specs.Rows.{Rows}
use Rattle.nm_edit.specs.declared.edit.EditNode.{EditNode}
use Rattle.nm_overlay.specs.Differences.{Overlaid}
use Rattle.nm_content_place.specs.declared.place.YangNode.{YangNode}
use Rattle.nm_touched.specs.Touched.{Touch, touched}
use Rattle.nm_access.specs.declared.rule.AccessRules.{AccessRules}
use Rattle.nm_access.specs.declared.access.Judgement.{Judgement}
use Rattle.nm_access.specs.declared.access.Judgement.TheVariants.{Permit, Deny}
use Rattle.nm_access.specs.Judged.{judged_operation, judged_rows}
use Rattle.nm_stores.specs.Stores.{candidate_of}
use Rattle.nm_device.specs.Table.{is_opening}
use Rattle.nm_history.specs.History.{RecordedState}
use Rattle.nm_world.specs.World.{Setting, CoreState, device_at, operator_session}
use Rattle.nm_permitted.specs.declared.judge.Denial.{Denial}

-- the name of the operation of a request: its own word, but where NETCONF has another (RFC 6241 sections 7.2, 7.9 and 8.3.4.2)
abbrev pub operation_of : Request → List ℕ
operation_of (Edit edit operation marks) = codes "edit-config"
operation_of Discard = codes "discard-changes"
operation_of (Kill session) = codes "kill-session"
operation_of request = word_text (word_of request)

-- ---- one request

-- the rows that an edit touches are judged. One that is refused goes on to its device, which tells why (this project's own)
abbrev pub touches_judged : AccessRules → List ℕ → Result (List Touch) Refusal → Judgement
touches_judged access user (Ok touches) = judged_rows access user touches
touches_judged access user (Err refusal) = Permit

-- an edit of candidate; one of a number that the tables lack goes on to its device too
abbrev pub edit_judged : AccessRules → SchemaTree → List ℕ → Rows → DefaultOperation → Option (List EditNode) → Judgement
edit_judged access t user rows operation None = Permit
edit_judged access t user rows operation (Some nodes) = touches_judged access user (touched t rows nodes operation)

-- the rows that a request changes: only an edit changes any that are judged
abbrev pub changes_judged : AccessRules → SchemaTree → TablesState (List EditNode) → List ℕ → Rows → Request → Judgement
changes_judged access t tables user rows (Edit edit operation marks) = edit_judged access t user rows operation (slice_get tables.edits edit.0)
changes_judged access t tables user rows request = Permit

-- one judgement after another: the first denial answers
abbrev pub then_judged : Judgement → Judgement → Judgement
then_judged Permit after = after
then_judged (Deny by path) after = Deny by path

-- the operation is judged first, and then the rows. A request for a session isn't judged (this project's own)
abbrev pub request_judged : AccessRules → SchemaTree → TablesState (List EditNode) → List ℕ → Rows → Request → Judgement
request_judged access t tables user rows request =
    if is_opening request then Permit
    else then_judged (judged_operation access user (operation_of request)) (changes_judged access t tables user rows request)

-- ---- an event

-- the user of an operator, by its number from 1
abbrev pub user_at : List (List ℕ) → ℕ → Option (List ℕ)
user_at users operator = if operator == 0 then None else slice_get users (operator - 1)

-- a request of a session of a user at a device, where all of them are there
abbrev pub session_judged : AccessRules → SchemaTree → TablesState (List EditNode) → Request → Option ℕ → Option (List ℕ)
    → Option (RecordedState Overlaid YangNode) → Judgement
session_judged access t tables request None user r = Permit
session_judged access t tables request (Some session) None r = Permit
session_judged access t tables request (Some session) (Some user) None = Permit
session_judged access t tables request (Some session) (Some user) (Some r) =
    request_judged access t tables user (candidate_of r.device.stores).rows request

-- a request of an operator, which is judged where the operator has a session, by its user and by candidate as it stands (this project's own)
abbrev pub asked_judged : AccessRules → SchemaTree → Setting (List EditNode) → CoreState Overlaid YangNode → ℕ → ℕ → Request → Judgement
asked_judged access t setting w operator device request =
    session_judged access t setting.tables request (operator_session w operator device) (user_at setting.users operator) (device_at w device)

-- a judgement as what is told of a denied event, the path as its text (RFC 7951 section 6.11)
abbrev pub denial_of : SchemaTree → Judgement → Option Denial
denial_of t Permit = None
denial_of t (Deny by path) = Some (record { by = by; path = option_map (path_text t) path })

-- why an event is denied: what operators ask for is judged, and nothing else is, so nothing that the manager does
abbrev pub event_denied : AccessRules → SchemaTree → Setting (List EditNode) → CoreState Overlaid YangNode → Event → Option Denial
event_denied access t setting w (Foreign operator device request) = denial_of t (asked_judged access t setting w operator device request)
event_denied access t setting w event = None

-- the same where there may be no rules: then nothing is denied
abbrev pub denied_by : Option AccessRules → SchemaTree → Setting (List EditNode) → CoreState Overlaid YangNode → Event → Option Denial
denied_by None t setting w event = None
denied_by (Some access) t setting w event = event_denied access t setting w event
