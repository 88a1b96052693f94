-- A row that no operator may write stays as it was first, but for what the manager's edits make of it.
use Rattle.std.proofs.Common.{◌≡◌, ◌∙◌, ℕ, List, [], ◌∷◌, Bool, true, false, ◌&&◌, Option, None, Some, IfSome, is_some, length, Result, Ok, Err, slice_get, refl, sym, ap, subst, if◌then◌else◌}
use Rattle.std.specs.FinMap.{get}
use Rattle.std.proofs.lemmas.Option.{none-some, same_Some}
use Rattle.nm_types.specs.Path.{PathStep}
use Rattle.nm_types.specs.declared.value.Value.{Value}
use Rattle.nm_base.specs.declared.number.EditNo.{EditNo}
use Rattle.nm_proto.specs.Content.{Refusal, TablesState}
use Rattle.nm_proto.specs.declared.message.DefaultOperation.{DefaultOperation}
use Rattle.nm_proto.specs.declared.message.Marks.{Marks}
use Rattle.nm_proto.specs.declared.message.Request.{Request}
use Rattle.nm_proto.specs.declared.message.Request.TheVariants.{Edit}
use Rattle.nm_proto.specs.declared.message.RowAccess.{RowAccess}
use Rattle.nm_schema_tree.specs.Nodes.{SchemaTree}
use Rattle.nm_config.specs.Rows.{Rows}
use Rattle.nm_edit.specs.declared.edit.EditNode.{EditNode}
use Rattle.nm_edit.specs.Edited.{edited_rows}
use Rattle.nm_overlay.specs.Differences.{Overlaid}
use Rattle.nm_content_place.specs.declared.place.YangNode.{YangNode}
use Rattle.nm_content.specs.Mark.{is_in_marker, marked, with_marks}
use Rattle.nm_content.specs.Meaning.{over, yang_meaning}
use Rattle.nm_sessions.specs.Sessions.{is_open, user_of}
use Rattle.nm_stores.specs.Stores.{candidate_of}
use Rattle.nm_device.specs.Device.{DeviceState, fresh_device, is_manager}
use Rattle.nm_history.specs.declared.event.DeviceEvent.TheVariants.{Asked}
use Rattle.nm_history.specs.declared.event.DeviceEvent.{DeviceEvent}
use Rattle.nm_history.specs.declared.event.Noted.{Noted}
use Rattle.nm_history.specs.History.{Happened, RecordedState, replay, replayed}
use Rattle.nm_device_laws.specs.Moment.{Happens}
use Rattle.nm_device_laws.proofs.Events.{is_asked}
use Rattle.nm_access.specs.declared.rule.AccessRules.{AccessRules}
use Rattle.nm_access.specs.declared.access.Judgement.{Judgement}
use Rattle.nm_access.specs.declared.access.Judgement.TheVariants.{Permit, Deny}
use Rattle.nm_access.specs.Judged.{judged_operation, row_denial}
use Rattle.nm_access_judge.specs.Judging.{changes_judged, edit_judged, operation_of, request_judged, then_judged}
use Rattle.nm_safety.specs.Along.{Along, IsAlong}
use Rattle.nm_access_laws.specs.Allowed.{IsAllowed}
use Rattle.nm_access_laws.specs.Configs.{AllAre, EditsKeep, KeepsAt}
use Rattle.nm_access_laws.specs.Rows.{IsClosed, ManagersKeep, MayAsk}
use Rattle.nm_access_laws.proofs.Configs.{replay_keeps}
use Rattle.nm_access_laws.proofs.Rows.{edit_leaves, marked_elsewhere}

-- two facts of each entry make a third
along_both : {A : Type 0} (next : A → Noted → A) (P R T : A → Noted → Type 0) → ((so_far : A) (entry : Noted) → P so_far entry → R so_far entry → T so_far entry)
    → (so_far : A) (history : List Noted) → Along next P so_far history → Along next R so_far history → Along next T so_far history
along_both next P R T step so_far [] p r = tt
along_both next P R T step so_far (entry ∷ history) p r = (step so_far entry p.0 r.0, along_both next P R T step (next so_far entry) history p.1 r.1)

then_permits : (first after : Judgement) → then_judged first after ≡ Permit → after ≡ Permit
then_permits Permit after e = e
then_permits (Deny by path) after e = absurd cc

-- what is made lies over what it lay over
over_made : (base : Rows) (given : Result Rows Refusal) (made : Overlaid) → over base given ≡ Ok made → given ≡ Ok made.rows
over_made base (Ok rows) made e = let is : record { base = base; rows = rows } ≡ made = cc in ap (λ (o : Overlaid). Ok o.rows) is
over_made base (Err refusal) made e = absurd cc

-- and is marked
marks_made : (given : Result Rows Refusal) (marks : Option Marks) (made : Rows) → with_marks given marks ≡ Ok made → (rows : Rows) × (given ≡ Ok rows) × (made ≡ marked rows marks)
marks_made (Ok rows) marks made e = let is : marked rows marks ≡ made = cc in (rows, refl, sym is)
marks_made (Err refusal) marks made e = absurd cc

module _ (access : AccessRules) (t : SchemaTree) (tables : TablesState (List EditNode)) (users : List (List ℕ)) (path : List PathStep) (closed : IsClosed access users path)
    (out : is_in_marker path ≡ false) (test : Option Value → Bool) where
  abbrev Passes : Overlaid → Type 0
  Passes config = test (get config.rows path) ≡ true

  abbrev S : Type 0
  S = DeviceState Overlaid YangNode

  -- an operator's edit
  allowed_keeps : (s : S) (user : List ℕ) (edit : EditNo) (operation : DefaultOperation) (marks : Option Marks) (nodes : List EditNode) (made : Rows)
      → MayAsk access t tables users user s (Edit edit operation marks) → slice_get tables.edits edit.0 ≡ Some nodes
      → with_marks (edited_rows t (candidate_of s.stores).rows nodes operation) marks ≡ Ok made → get made path ≡ get (candidate_of s.stores).rows path
  allowed_keeps s user edit operation marks nodes made may found makes =
      let rows = (candidate_of s.stores).rows in
      let m = marks_made (edited_rows t rows nodes operation) marks made makes in
      let judged : edit_judged access t user rows operation (slice_get tables.edits edit.0) ≡ Permit =
      then_permits (judged_operation access user (operation_of (Edit edit operation marks))) (changes_judged access t tables user rows (Edit edit operation marks)) may.permitted in
      let permitted : edit_judged access t user rows operation (Some nodes) ≡ Permit = subst (λ o. edit_judged access t user rows operation o ≡ Permit) found judged in
      ap (λ (r : Rows). get r path) m.2 ∙ marked_elsewhere m.0 marks path out
      ∙ edit_leaves access user path (λ kind. closed may.place user kind may.named) t rows nodes operation m.0 m.1 permitted

  -- whoever asks
  edit_keeps : (s : S) (entry : Noted) → IsAllowed (MayAsk access t tables users) s entry → ManagersKeep t tables test path s entry
      → (session : ℕ) (edit : EditNo) (operation : DefaultOperation) (marks : Option Marks) (nodes : List EditNode) (made : Rows)
      → entry.event ≡ Asked session (Edit edit operation marks) → is_open s.sessions session ≡ true → slice_get tables.edits edit.0 ≡ Some nodes
      → test (get (candidate_of s.stores).rows path) ≡ true → with_marks (edited_rows t (candidate_of s.stores).rows nodes operation) marks ≡ Ok made
      → (user : Option (List ℕ)) → user_of s.sessions session ≡ user → (managed : Bool) → is_manager user ≡ managed → test (get made path) ≡ true
  edit_keeps s entry allowed managers session edit operation marks nodes made asked opened found passes makes None is managed managed_is =
      absurd (let no : false ≡ true = sym (ap is_some is) ∙ opened in cc)
  edit_keeps s entry allowed managers session edit operation marks nodes made asked opened found passes makes (Some user) is true managed_is =
      managers session edit operation marks nodes made asked (ap is_manager is ∙ managed_is) found passes makes
  edit_keeps s entry allowed managers session edit operation marks nodes made asked opened found passes makes (Some user) is false managed_is =
      ap test (allowed_keeps s user edit operation marks nodes made (allowed session (Edit edit operation marks) user asked is managed_is) found makes) ∙ passes

  keeps_at : (s : S) (entry : Noted) → IsAllowed (MayAsk access t tables users) s entry → ManagersKeep t tables test path s entry → KeepsAt (yang_meaning t) tables Passes s entry
  keeps_at s entry allowed managers h happens = record {
    makes = λ session edit operation marks nodes made asked found passes makes.
        let opened = (is_asked (yang_meaning t) tables s session (Edit edit operation marks) h (subst (λ event. Happens (yang_meaning t) tables s event h) asked happens)).asker in
        edit_keeps s entry allowed managers session edit operation marks nodes made.rows asked opened found passes
        (over_made (candidate_of s.stores).base (with_marks (edited_rows t (candidate_of s.stores).rows nodes operation) marks) made makes)
        (user_of s.sessions session) refl (is_manager (user_of s.sessions session)) refl;
  }

  -- so running passes the test where the first configuration does
  pub closed_stays : (first : Overlaid) (r : RecordedState Overlaid YangNode) → IsAlong (yang_meaning t) tables (IsAllowed (MayAsk access t tables users)) (fresh_device first) r
      → Along (replayed (yang_meaning t) tables) (ManagersKeep t tables test path) (fresh_device first) r.history → test (get first.rows path) ≡ true
      → test (get r.device.stores.running.rows path) ≡ true
  closed_stays first r allowed managers begins =
      let all = replay_keeps (yang_meaning t) tables Passes (fresh_device first) r.history
      (along_both (replayed (yang_meaning t) tables) (IsAllowed (MayAsk access t tables users)) (ManagersKeep t tables test path) (KeepsAt (yang_meaning t) tables Passes) keeps_at
      (fresh_device first) r.history allowed.along managers)
      (record { running = begins; candidate = tt; before = tt }) in
      subst (λ (s : S). test (get s.stores.running.rows path) ≡ true) allowed.reaches all.running
