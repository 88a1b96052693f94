-- What holds of events that are read, also when their edits have numbers.
use Rattle.std.proofs.Common.{◌≡◌, ℕ, zero, suc, ◌+◌, ◌-◌, ◌≤◌, ◌<◌, List, [], ◌∷◌, length, false, Some, refl, sym, subst, arith, length-append}
use Rattle.std.specs.Prelude.{slice_get, unwrap_or}
use Rattle.std.specs.List.{All, sum_by}
use Rattle.std.proofs.lemmas.List.Elements.{All-nil, All-cons, All-head, All-tail}
use Rattle.std.proofs.lemmas.List.Sums.{sum_by-append}
use Rattle.serde_json.specs.Data.{Data}
use Rattle.nm_scenario_form.specs.Form.{Form}
use Rattle.nm_scenario_form.specs.Kept.{Holds}
use Rattle.nm_scenario_form.specs.Says.{Says}
use Rattle.nm_proto.specs.declared.message.Request.{Request}
use Rattle.nm_proto.specs.declared.message.Request.TheVariants.{OpenSession, Lock, Unlock, PartialLock, PartialUnlock, Edit, Validate, Commit, CancelCommit, Discard, HasMark, GetConfig, Kill, CloseSession}
use Rattle.nm_proto.specs.declared.plan.Event.{Event}
use Rattle.nm_proto.specs.declared.plan.Event.TheVariants.{Submit, Turn, Deliver, Answer, Break, Lose, Advance, Restart, Forget, Crash, Renew, Foreign, Leave, Round}
use Rattle.nm_scenario_events.specs.declared.arguments.Counts.{Counts}
use Rattle.nm_scenario_events.specs.declared.event.ReadRequest.{ReadRequest}
use Rattle.nm_scenario_events.specs.declared.event.ReadRequest.TheVariants.{Open, Known, WithEdit, WithSelect}
use Rattle.nm_scenario_events.specs.declared.event.ReadEvent.{ReadEvent}
use Rattle.nm_scenario_events.specs.declared.event.ReadEvent.TheVariants.{Other, Asked}
use Rattle.nm_scenario_events.specs.Events.{events_form}
use Rattle.nm_scenario_events.specs.Kept.{IsWithin, EventKeeps, is_asked, names_any, NamesNone, ReadKeeps, EventsKeep, weight, read_weight}
use Rattle.nm_scenario_events.specs.Numbered.{user_of, numbered_request, numbered_event, edit_of_request, edit_of_event, select_of_request, select_of_event, events_from, edits_of_events, selects_of_events}
use Rattle.nm_scenario_events.proofs.Weights.{events_keep, edits_keep}
use Rattle.nm_scenario_laws.specs.Kept.{IsOwnOpening, OpensOwn, RequestNames, EventNames}

-- the events of a scenario, and what holds of the edits of operators
pub record EventsAre {E : Type 0} (Q : E → Type 0) (c : Counts) (events : List (ReadEvent E)) : Type 0 where
  pub keeps : EventsKeep c events
  pub edits : All Q (edits_of_events events)

pub no_events : {E : Type 0} (Q : E → Type 0) (c : Counts) → EventsAre Q c []
no_events Q c = record { keeps = record { keep = All-nil _; weigh = omega arith }; edits = All-nil Q }

pub events_are : {E : Type 0} (edit : Form E) (Q : E → Type 0) → Holds edit Q → (c : Counts) (part : Data) (events : List (ReadEvent E))
    → Says (events_form edit c) part events → EventsAre Q c events
events_are edit Q holds c part events says = record { keeps = events_keep edit c part events says; edits = edits_keep edit Q c part events holds says }

-- ---- events with numbers

numbered_keeps : {E : Type 0} (c : Counts) (users : List (List ℕ)) (n s : ℕ) (event : ReadEvent E) → ReadKeeps c event
    → EventKeeps c (numbered_event users n s event)
numbered_keeps c users n s (Other event) k = k.0
numbered_keeps c users n s (Asked operator device request) k = (k.0, k.1)

numbered_weight : {E : Type 0} (users : List (List ℕ)) (n s : ℕ) (event : ReadEvent E) → weight (numbered_event users n s event) ≡ read_weight event
numbered_weight users n s (Other event) = refl
numbered_weight users n s (Asked operator device request) = refl

pub numbered_all : {E : Type 0} (c : Counts) (users : List (List ℕ)) (n s : ℕ) (events : List (ReadEvent E)) → All (ReadKeeps c) events
    → All (EventKeeps c) (events_from users n s events)
numbered_all c users n s [] k = All-nil (EventKeeps c)
numbered_all c users n s (e ∷ es) k =
    All-cons (EventKeeps c) (numbered_event users n s e) (events_from users (n + length (edit_of_event e)) (s + length (select_of_event e)) es)
    (numbered_keeps c users n s e (All-head (ReadKeeps c) e es k))
    (numbered_all c users (n + length (edit_of_event e)) (s + length (select_of_event e)) es (All-tail (ReadKeeps c) e es k))

pub numbered_total : {E : Type 0} (users : List (List ℕ)) (n s : ℕ) (events : List (ReadEvent E))
    → sum_by weight (events_from users n s events) ≡ sum_by read_weight events
numbered_total users n s [] = refl
numbered_total users n s (e ∷ es) =
    omega (
      arith,
      numbered_weight users n s e,
      numbered_total users (n + length (edit_of_event e)) (s + length (select_of_event e)) es,
      sum_by-append weight (numbered_event users n s e ∷ []) (events_from users (n + length (edit_of_event e)) (s + length (select_of_event e)) es),
      sum_by-append read_weight (e ∷ []) es,
    )

-- ---- the users of sessions

there : (users : List (List ℕ)) (n : ℕ) → n < length users → slice_get users n ≡ Some (unwrap_or (slice_get users n) [])
there [] n less = absurd (omega (arith, less))
there (user ∷ users) zero less = refl
there (user ∷ users) (suc n) less = there users n (omega (arith, less))

-- a request that names no user opens no session of another one
opens_none : (users : List (List ℕ)) (operator : ℕ) (request : Request) → names_any request ≡ false → IsOwnOpening users operator request
opens_none users operator (OpenSession user) silent = cc
opens_none users operator (Lock store) silent = tt
opens_none users operator (Unlock store) silent = tt
opens_none users operator (PartialLock select) silent = tt
opens_none users operator (PartialUnlock id) silent = tt
opens_none users operator (Edit edit operation marks) silent = tt
opens_none users operator Validate silent = tt
opens_none users operator (Commit confirmed timeout persist id) silent = tt
opens_none users operator (CancelCommit id) silent = tt
opens_none users operator Discard silent = tt
opens_none users operator (HasMark change) silent = tt
opens_none users operator GetConfig silent = tt
opens_none users operator (Kill session) silent = tt
opens_none users operator CloseSession silent = tt

request_opens : {E : Type 0} (users : List (List ℕ)) (operator n s : ℕ) (request : ReadRequest E) → IsWithin 1 (length users) operator
    → NamesNone request → IsOwnOpening users operator (numbered_request (user_of users operator) n s request)
request_opens users operator n s Open within unsaid = there users (operator - 1) (omega (arith, within.0, within.1))
request_opens users operator n s (Known request) within unsaid = opens_none users operator request unsaid
request_opens users operator n s (WithEdit operation edit) within unsaid = tt
request_opens users operator n s (WithSelect texts) within unsaid = tt

-- nobody opens a session in an event without an operator's request
unasked : (users : List (List ℕ)) (event : Event) → is_asked event ≡ false → OpensOwn users event
unasked users (Submit change) silent = tt
unasked users (Turn change) silent = tt
unasked users (Deliver change device link) silent = tt
unasked users (Answer change device link number) silent = tt
unasked users (Break change device) silent = tt
unasked users (Lose change device link) silent = tt
unasked users (Advance device seconds) silent = tt
unasked users (Restart device) silent = tt
unasked users (Forget change) silent = tt
unasked users Crash silent = tt
unasked users (Renew change device) silent = tt
unasked users (Foreign operator device request) silent = cc
unasked users (Leave operator device) silent = tt
unasked users (Round change turns) silent = tt

numbered_opens : {E : Type 0} (c : Counts) (users : List (List ℕ)) (n s : ℕ) (event : ReadEvent E) → length users ≡ c.operators → ReadKeeps c event
    → OpensOwn users (numbered_event users n s event)
numbered_opens c users n s (Other event) are k = unasked users event k.1
numbered_opens c users n s (Asked operator device request) are k =
    request_opens users operator n s request (subst (λ m. IsWithin 1 m operator) (sym are) k.0) k.2

pub numbered_own : {E : Type 0} (c : Counts) (users : List (List ℕ)) (n s : ℕ) (events : List (ReadEvent E)) → length users ≡ c.operators
    → All (ReadKeeps c) events → All (OpensOwn users) (events_from users n s events)
numbered_own c users n s [] are k = All-nil (OpensOwn users)
numbered_own c users n s (e ∷ es) are k =
    All-cons (OpensOwn users) (numbered_event users n s e) (events_from users (n + length (edit_of_event e)) (s + length (select_of_event e)) es)
    (numbered_opens c users n s e are (All-head (ReadKeeps c) e es k))
    (numbered_own c users (n + length (edit_of_event e)) (s + length (select_of_event e)) es are (All-tail (ReadKeeps c) e es k))

-- ---- the numbers of edits and selections

-- a request that names none names none that isn't there
names_none : (edits selects : ℕ) (request : Request) → names_any request ≡ false → RequestNames edits selects request
names_none edits selects (OpenSession user) silent = tt
names_none edits selects (Lock store) silent = tt
names_none edits selects (Unlock store) silent = tt
names_none edits selects (PartialLock select) silent = cc
names_none edits selects (PartialUnlock id) silent = tt
names_none edits selects (Edit edit operation marks) silent = cc
names_none edits selects Validate silent = tt
names_none edits selects (Commit confirmed timeout persist id) silent = tt
names_none edits selects (CancelCommit id) silent = tt
names_none edits selects Discard silent = tt
names_none edits selects (HasMark change) silent = tt
names_none edits selects GetConfig silent = tt
names_none edits selects (Kill session) silent = tt
names_none edits selects CloseSession silent = tt

request_names : {E : Type 0} (edits selects : ℕ) (user : List ℕ) (n s : ℕ) (request : ReadRequest E) → n + length (edit_of_request request) ≤ edits
    → s + length (select_of_request request) ≤ selects → NamesNone request → RequestNames edits selects (numbered_request user n s request)
request_names edits selects user n s Open few little unsaid = tt
request_names edits selects user n s (Known request) few little unsaid = names_none edits selects request unsaid
request_names edits selects user n s (WithEdit operation edit) few little unsaid = omega (arith, few)
request_names edits selects user n s (WithSelect texts) few little unsaid = omega (arith, little)

unasked_names : (edits selects : ℕ) (event : Event) → is_asked event ≡ false → EventNames edits selects event
unasked_names edits selects (Submit change) silent = tt
unasked_names edits selects (Turn change) silent = tt
unasked_names edits selects (Deliver change device link) silent = tt
unasked_names edits selects (Answer change device link number) silent = tt
unasked_names edits selects (Break change device) silent = tt
unasked_names edits selects (Lose change device link) silent = tt
unasked_names edits selects (Advance device seconds) silent = tt
unasked_names edits selects (Restart device) silent = tt
unasked_names edits selects (Forget change) silent = tt
unasked_names edits selects Crash silent = tt
unasked_names edits selects (Renew change device) silent = tt
unasked_names edits selects (Foreign operator device request) silent = cc
unasked_names edits selects (Leave operator device) silent = tt
unasked_names edits selects (Round change turns) silent = tt

event_names : {E : Type 0} (edits selects : ℕ) (c : Counts) (users : List (List ℕ)) (n s : ℕ) (event : ReadEvent E) → n + length (edit_of_event event) ≤ edits
    → s + length (select_of_event event) ≤ selects → ReadKeeps c event → EventNames edits selects (numbered_event users n s event)
event_names edits selects c users n s (Other event) few little k = unasked_names edits selects event k.1
event_names edits selects c users n s (Asked operator device request) few little k =
    request_names edits selects (user_of users operator) n s request few little k.2

pub numbered_names : {E : Type 0} (edits selects : ℕ) (c : Counts) (users : List (List ℕ)) (n s : ℕ) (events : List (ReadEvent E))
    → n + length (edits_of_events events) ≤ edits → s + length (selects_of_events events) ≤ selects → All (ReadKeeps c) events
    → All (EventNames edits selects) (events_from users n s events)
numbered_names edits selects c users n s [] few little k = All-nil (EventNames edits selects)
numbered_names edits selects c users n s (e ∷ es) few little k =
    let one : length (edits_of_events (e ∷ es)) ≡ length (edit_of_event e) + length (edits_of_events es) = length-append (edit_of_event e) (edits_of_events es) in
    let two : length (selects_of_events (e ∷ es)) ≡ length (select_of_event e) + length (selects_of_events es) = length-append (select_of_event e) (selects_of_events es) in
    All-cons (EventNames edits selects) (numbered_event users n s e) (events_from users (n + length (edit_of_event e)) (s + length (select_of_event e)) es)
    (event_names edits selects c users n s e (omega (arith, few, one)) (omega (arith, little, two)) (All-head (ReadKeeps c) e es k))
    (numbered_names edits selects c users (n + length (edit_of_event e)) (s + length (select_of_event e)) es (omega (arith, few, one)) (omega (arith, little, two)) (All-tail (ReadKeeps c) e es k))
