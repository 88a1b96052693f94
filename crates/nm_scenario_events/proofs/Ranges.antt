-- What is kept of an elementary event, line by line of the table.
use Rattle.std.proofs.Common.{◌≡◌, ◌≤◌, ◌<◌, ℕ, List, [], ◌∷◌, false, Some, min, refl, All, arith}
use Rattle.std.proofs.lemmas.List.Elements.{All-nil, All-cons}
use Rattle.nm_proto.specs.declared.message.DefaultOperation.{DefaultOperation}
use Rattle.nm_proto.specs.declared.message.DefaultOperation.TheVariants.{Merge}
use Rattle.nm_proto.specs.declared.message.Request.{Request}
use Rattle.nm_proto.specs.declared.plan.Event.{Event}
use Rattle.nm_proto.specs.declared.plan.Event.TheVariants.{Crash}
use Rattle.nm_scenario_form.specs.Form.{Form, Key, Parts, slot, done, or_else}
use Rattle.nm_scenario_form.specs.Kept.{Holds, HoldsParts}
use Rattle.nm_scenario_form.proofs.Keeping.{always, implied}
use Rattle.nm_scenario_form.proofs.Ranges.{slot_holds, missing_holds, done_holds, object_holds, arguments_hold, number_holds, line_holds, no_line_holds}
use Rattle.nm_scenario_events.specs.declared.event.ReadRequest.{ReadRequest}
use Rattle.nm_scenario_events.specs.declared.event.ReadRequest.TheVariants.{Open, Known, WithEdit, WithSelect}
use Rattle.nm_scenario_events.specs.declared.event.ReadEvent.{ReadEvent}
use Rattle.nm_scenario_events.specs.declared.event.ReadEvent.TheVariants.{Other, Asked}
use Rattle.nm_scenario_events.specs.declared.arguments.Counts.{Counts}
use Rattle.nm_scenario_events.specs.Arguments.{operation}
use Rattle.nm_scenario_events.specs.Requests.{asked_edit, commit_form, plain_commit, cancel_form, plain_cancel, request_form}
use Rattle.nm_scenario_events.specs.Events.{elementary_form}
use Rattle.nm_scenario_events.specs.Kept.{IsWithin, EventKeeps, is_asked, names_any, NamesNone, ReadKeeps, weight, read_weight}
use Rattle.nm_scenario_events.specs.Numbered.{edit_of_request, edit_of_event}

-- ---- requests: their edits and sessions

-- a request names nothing by itself, and its edit has this, if there is one
pub record RequestKeeps {E : Type 0} (Q : E → Type 0) (request : ReadRequest E) : Type 0 where
  pub unsaid : NamesNone request
  pub edits : All Q (edit_of_request request)

open_keeps : {E : Type 0} (Q : E → Type 0) → RequestKeeps Q Open
open_keeps Q = record { unsaid = tt; edits = All-nil Q }

known_keeps : {E : Type 0} (Q : E → Type 0) (request : Request) → names_any request ≡ false → RequestKeeps Q (Known request)
known_keeps Q request silent = record { unsaid = silent; edits = All-nil Q }

edit_keeps : {E : Type 0} (Q : E → Type 0) (operation : DefaultOperation) (edit : E) → Q edit → RequestKeeps Q (WithEdit operation edit)
edit_keeps Q operation edit q = record { unsaid = tt; edits = All-cons Q edit [] q (All-nil Q) }

-- an edit with its default operation
asked_edit_holds : {E : Type 0} (edit : Form E) (Q : E → Type 0) → Holds edit Q → Holds (asked_edit edit) (RequestKeeps Q)
unfolding Holds
asked_edit_holds edit Q holds = (
  (tt, implied edit Q _ holds (λ e q. edit_keeps Q Merge e q)),
  always operation _ (λ o. (tt, implied edit Q _ holds (λ e q. edit_keeps Q o e q))),
)

select_keeps : {E : Type 0} (Q : E → Type 0) (texts : List (List ℕ)) → RequestKeeps Q (WithSelect texts)
select_keeps Q texts = record { unsaid = tt; edits = All-nil Q }

-- a part that may be left out and may be anything
any_holds : {B F A : Type 0} (key : Key) (missing : B) (form : Form B) (parts : Parts F A) (make : B → F) (P : A → Type 0)
    → ((b : B) → HoldsParts parts (make b) P) → HoldsParts (slot key (Some missing) form parts) make P
any_holds key missing form parts make P all =
    missing_holds key missing form parts make P (all missing) (always form (λ b. HoldsParts parts (make b) P) all)

commit_opens : Holds commit_form (λ request. names_any request ≡ false)
commit_opens =
    object_holds _ _ _ _
    (any_holds _ _ _ _ _ _ (λ confirmed. any_holds _ _ _ _ _ _ (λ timeout.
    any_holds _ _ _ _ _ _ (λ persist. any_holds _ _ _ _ _ _ (λ id. done_holds _ _ refl)))))

cancel_opens : Holds cancel_form (λ request. names_any request ≡ false)
cancel_opens = object_holds _ _ _ _ (any_holds _ _ _ _ _ _ (λ id. done_holds _ _ refl))

-- a request that may be left out
or_else_keeps : {E : Type 0} (Q : E → Type 0) (plain : Request) (form : Form Request) → names_any plain ≡ false
    → Holds form (λ request. names_any request ≡ false) → HoldsParts (or_else plain form done) Known (RequestKeeps {E = E} Q)
or_else_keeps Q plain form silent holds =
    missing_holds _ _ _ _ _ _ (done_holds _ _ (known_keeps Q plain silent))
    (implied form (λ request. names_any request ≡ false) _ holds (λ request is. done_holds _ _ (known_keeps Q request is)))

ruleset requests = (slot_holds, done_holds, arguments_hold, always, open_keeps, known_keeps, select_keeps)

request_holds : {E : Type 0} (edit : Form E) (Q : E → Type 0) → Holds edit Q → Holds (request_form edit) (RequestKeeps Q)
unfolding request_form
request_holds edit Q holds =
    line_holds _ _ _ _ _ (search requests depth 12)
    (line_holds _ _ _ _ _ (search requests depth 12)
    (line_holds _ _ _ _ _ (search requests depth 12)
    (line_holds _ _ _ _ _ (search requests depth 12)
    (line_holds _ _ _ _ _ (search requests depth 12)
    (line_holds _ _ _ _ _ (slot_holds _ _ _ _ _ (implied (asked_edit edit) (RequestKeeps Q) _ (asked_edit_holds edit Q holds)
    (λ request is. done_holds _ _ is)))
    (line_holds _ _ _ _ _ (search requests depth 12)
    (line_holds _ _ _ _ _ (or_else_keeps Q plain_commit commit_form refl commit_opens)
    (line_holds _ _ _ _ _ (or_else_keeps Q plain_cancel cancel_form refl cancel_opens)
    (line_holds _ _ _ _ _ (search requests depth 12)
    (line_holds _ _ _ _ _ (search requests depth 12)
    (line_holds _ _ _ _ _ (search requests depth 12)
    (line_holds _ _ _ _ _ (search requests depth 12)
    (line_holds _ _ _ _ _ (search requests depth 12) (no_line_holds _))))))))))))))

-- ---- elementary events

-- an elementary event speaks of what there is, and its edit has this, if there is one
pub record IsKept {E : Type 0} (Q : E → Type 0) (c : Counts) (event : ReadEvent E) : Type 0 where
  pub keeps : ReadKeeps c event
  pub light : read_weight event ≡ 1
  pub edits : All Q (edit_of_event event)

other_keeps : {E : Type 0} (Q : E → Type 0) (c : Counts) (event : Event) → EventKeeps c event → weight event ≡ 1
    → is_asked event ≡ false → IsKept Q c (Other event)
other_keeps Q c event keeps light other = record { keeps = (keeps, other); light = light; edits = All-nil Q }

asked_keeps : {E : Type 0} (Q : E → Type 0) (c : Counts) (operator device : ℕ) (request : ReadRequest E) → IsWithin 1 c.operators operator
    → IsWithin 1 c.devices device → RequestKeeps Q request → IsKept Q c (Asked operator device request)
asked_keeps Q c operator device request first second is = record { keeps = (first, second, is.unsaid); light = refl; edits = is.edits }

pub within_first : (high limit n : ℕ) → 1 ≤ n → n ≤ min high limit → IsWithin 1 high n
within_first high limit n least most = (least, omega (arith, most))

ruleset events = (slot_holds, done_holds, number_holds, always, other_keeps, within_first)

pub elementary_holds : {E : Type 0} (edit : Form E) (c : Counts) (Q : E → Type 0) → Holds edit Q → Holds (elementary_form edit c) (IsKept Q c)
unfolding elementary_form
elementary_holds edit c Q holds =
    line_holds _ _ _ _ _ (search events depth 12)
    (line_holds _ _ _ _ _ (search events depth 12)
    (line_holds _ _ _ _ _ (search events depth 12)
    (line_holds _ _ _ _ _ (search events depth 12)
    (line_holds _ _ _ _ _ (search events depth 12)
    (line_holds _ _ _ _ _ (search events depth 12)
    (line_holds _ _ _ _ _ (search events depth 12)
    (line_holds _ _ _ _ _ (search events depth 12)
    (line_holds _ _ _ _ _ (search events depth 12)
    (line_holds _ _ _ _ _ (done_holds _ _ (other_keeps Q c Crash tt refl refl))
    (line_holds _ _ _ _ _ (slot_holds _ _ _ _ _ (number_holds _ _ _ (λ o low high.
    slot_holds _ _ _ _ _ (number_holds _ _ _ (λ d least most.
    slot_holds _ _ _ _ _ (implied (request_form edit) (RequestKeeps Q) _ (request_holds edit Q holds)
    (λ request is. done_holds _ _ (asked_keeps Q c o d request (within_first _ _ o low high) (within_first _ _ d least most) is))))))))
    (line_holds _ _ _ _ _ (search events depth 12)
    (line_holds _ _ _ _ _ (search events depth 12) (no_line_holds _)))))))))))))
