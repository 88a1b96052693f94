-- What is kept of the links of a change set, at each step of the manager and at each device's side.
use Rattle.std.proofs.Common.{◌≡◌, ◌∙◌, ℕ, suc, ◌-◌, ◌≤◌, Bool, true, false, List, [], ◌∷◌, ◌++◌, Option, Some, None, IfSome, option_map, slice_get, refl, ap, sym, subst, arith}
use Rattle.std.proofs.lemmas.List.{append-nil, append_assoc}
use Rattle.std.proofs.lemmas.Option.{none-some}
use Rattle.nm_base.specs.declared.number.EditNo.{EditNo}
use Rattle.nm_proto.specs.declared.ask.Ask.{Ask}
use Rattle.nm_proto.specs.declared.ask.Ask.TheVariants as ask
use Rattle.nm_proto.specs.declared.message.DefaultOperation.{DefaultOperation}
use Rattle.nm_proto.specs.declared.message.Marks.{Marks}
use Rattle.nm_proto.specs.declared.message.Request.{Request}
use Rattle.nm_proto.specs.declared.message.Request.TheVariants.{OpenSession, Lock, Unlock, PartialLock, PartialUnlock, Edit, Validate, Commit, CancelCommit, Discard, HasMark, GetConfig, Kill, CloseSession}
use Rattle.nm_proto.specs.declared.journal.Entry.{Entry}
use Rattle.nm_proto.specs.declared.plan.ChangePlan.{ChangePlan}
use Rattle.nm_proto.specs.declared.plan.PlannedEdit.{PlannedEdit}
use Rattle.nm_proto.specs.Content.{Meaning}
use Rattle.nm_journal.specs.Record.{is_change}
use Rattle.nm_device.specs.Device.{DeviceState}
use Rattle.nm_history.specs.History.{RecordedState}
use Rattle.nm_recovery.specs.Recovery.{ended_on, is_ended_in, verdict_in}
use Rattle.nm_decider.specs.Course as course
use Rattle.nm_decider.specs.Course.{CourseState}
use Rattle.nm_wire.specs.declared.link.Exchange.{Exchange}
use Rattle.nm_wire.specs.declared.link.Way.{Way}
use Rattle.nm_wire.specs.declared.link.Way.TheVariants.{Quiet, Asked, Told}
use Rattle.nm_wire.specs.Asks.{same_ask}
use Rattle.nm_wire.specs.Link.{LinkState, asked_on, closed_link, fresh_link, handled_by, handled_on, is_quiet_way, sent_on, session_of}
use Rattle.nm_manager.specs.Requests.{edit_for, edit_request, request_for}
use Rattle.nm_manager.specs.Slot.{SideState, SlotState, asked_in_fact, gone, may_go, opens, renews, renews_if, sends, sends_if, sends_request, with_pair, with_wire, on_side, sends_pair, renews_pair}
use Rattle.nm_safety.proofs.Gone.{each_gone}
use Rattle.nm_safety.proofs.Links.{did_handled, did_sent_on}
use Rattle.nm_safety.specs.Support.{AllLinks}
use Rattle.nm_safety.proofs.Lists.{some_is, to_some}
use Rattle.nm_safety.proofs.SlotLinks.{links_at, same_links, set_links}
use Rattle.nm_world.specs.World.{Setting}
use Rattle.nm_commit_laws.specs.Brings.{Brings, IsOwnEdit}
use Rattle.nm_commit_laws.specs.Course.{steps_of}
use Rattle.nm_commit_laws.specs.BringsSupport.{EditsOwn, IsEdited, IsOwnLink, IsPrepared, IsPreparedOn}
use Rattle.nm_commit_laws.proofs.brings.Marked.{only_ended}
use Rattle.nm_commit_laws.proofs.brings.Words.{steps_handled, steps_sent}

-- ---- entries come

pub own_later : (plans : List ChangePlan) (entries : List Entry) (entry : Entry) (change device : ℕ) (number : EditNo)
    (operation : DefaultOperation) (marks : Option Marks)
    → IsOwnEdit plans entries change device number operation marks
    → IsOwnEdit plans (entries ++ entry ∷ []) change device number operation marks
own_later plans entries entry change device number operation marks own = record {
  numbered = own.numbered;
  plan = own.plan;
  plan_is = own.plan_is;
  planned = own.planned;
  planned_is = own.planned_is;
  number_is = own.number_is;
  operation_is = own.operation_is;
  gone = own.gone;
  marks_are = own.marks_are;
  earlier = own.earlier;
  later = own.later ++ entry ∷ [];
  journal = ap (λ all. all ++ entry ∷ []) own.journal ∙ append_assoc own.earlier own.later (entry ∷ []);
  undecided = own.undecided;
  only_ended = own.only_ended;
}

edits_later : (plans : List ChangePlan) (entries : List Entry) (entry : Entry) (change device : ℕ) (request : Request)
    → EditsOwn plans entries change device request → EditsOwn plans (entries ++ entry ∷ []) change device request
edits_later plans entries entry change device (Edit number operation marks) own =
    own_later plans entries entry change device number operation marks own
edits_later plans entries entry change device (OpenSession user) own = tt
edits_later plans entries entry change device (Lock store) own = tt
edits_later plans entries entry change device (Unlock store) own = tt
edits_later plans entries entry change device (PartialLock select) own = tt
edits_later plans entries entry change device (PartialUnlock id) own = tt
edits_later plans entries entry change device Validate own = tt
edits_later plans entries entry change device (Commit confirmed timeout persist persist_id) own = tt
edits_later plans entries entry change device (CancelCommit persist_id) own = tt
edits_later plans entries entry change device Discard own = tt
edits_later plans entries entry change device (HasMark mark) own = tt
edits_later plans entries entry change device GetConfig own = tt
edits_later plans entries entry change device (Kill other) own = tt
edits_later plans entries entry change device CloseSession own = tt

module _ {Config TheEdit Node : Type 0} (m : Meaning Config TheEdit Node) (setting : Setting TheEdit) (entries : List Entry) (entry : Entry)
    (change device : ℕ) where
  pub brings_later : (before now : Config) → Brings m setting entries change device before now
      → Brings m setting (entries ++ entry ∷ []) change device before now
  brings_later before now b = record {
    number = b.number;
    operation = b.operation;
    marks = b.marks;
    own = own_later setting.plans entries entry change device b.number b.operation b.marks b.own;
    edit = b.edit;
    found = b.found;
    makes = b.makes;
  }

  edited_later : (s : DeviceState Config Node) → IsEdited m setting entries change device s
      → IsEdited m setting (entries ++ entry ∷ []) change device s
  edited_later s e = record { config = e.config; candidate = e.candidate; brings = brings_later s.stores.running e.config e.brings }

  prepared_later : (steps session : ℕ) (s : DeviceState Config Node) → IsPrepared m setting entries change device steps session s
      → IsPrepared m setting (entries ++ entry ∷ []) change device steps session s
  prepared_later steps session s p = record {
    owner = p.owner;
    unmodified = p.unmodified;
    edited = λ three. edited_later s
        (p.edited three);
  }

  pub link_later : (r : Option (RecordedState Config Node)) (place : ℕ) (link : LinkState)
      → IsOwnLink m setting entries change device r place link → IsOwnLink m setting (entries ++ entry ∷ []) change device r place link
  link_later r place link own = record {
    asked = to_some (EditsOwn setting.plans (entries ++ entry ∷ []) change device) (asked_on link.way)
        (λ request is. edits_later setting.plans entries entry change device request
        (some_is request (EditsOwn setting.plans entries change device) (asked_on link.way) is own.asked));
    prepared = λ first.
        to_some (IsPreparedOn m setting (entries ++ entry ∷ []) change device link) r
        (λ one is session at opened. prepared_later (steps_of link) session one.device
        (some_is one (IsPreparedOn m setting entries change device link) r is (own.prepared first) session at opened));
  }

-- ---- what is asked for

module _ (plans : List ChangePlan) (entries : List Entry) (change : ℕ) (numbered : 1 ≤ change) (plan : ChangePlan)
    (planned_now : slice_get plans (change - 1) ≡ Some plan)
    (all : (c : ℕ) → is_ended_in c entries ≡ true → is_change c ≡ true) where
  edit_own : verdict_in change entries ≡ None → (device : ℕ) (found : Option PlannedEdit) → edit_for plan device ≡ found
      → IfSome (option_map (edit_request entries change) found) (EditsOwn plans entries change device)
  edit_own undecided device None e = tt
  edit_own undecided device (Some planned) e = record {
    numbered = numbered;
    plan = plan;
    plan_is = planned_now;
    planned = planned;
    planned_is = e;
    number_is = refl;
    operation_is = refl;
    gone = record { 0 = ended_on planned.device entries };
    marks_are = refl;
    earlier = entries;
    later = [];
    journal = sym (append-nil entries);
    undecided = undecided;
    only_ended = λ n one there. only_ended planned.device n entries all one there;
  }

  -- each edit that the manager asks for is the change set's own
  pub request_own : (device : ℕ) (what : Ask) → (same_ask what ask.Edit ≡ true → verdict_in change entries ≡ None)
      → IfSome (request_for plan entries change device what) (EditsOwn plans entries change device)
  request_own device ask.OpenSession undecided = tt
  request_own device ask.LockRunning undecided = tt
  request_own device ask.LockCandidate undecided = tt
  request_own device ask.Edit undecided = edit_own (undecided refl) device (edit_for plan device) refl
  request_own device ask.Validate undecided = tt
  request_own device ask.CommitConfirmed undecided = tt
  request_own device ask.Renew undecided = tt
  request_own device ask.Confirm undecided = tt
  request_own device ask.Cancel undecided = tt
  request_own device ask.HasMark undecided = tt
  request_own device ask.Discard undecided = tt
  request_own device ask.CloseSession undecided = tt
  request_own device ask.Resync undecided = tt

-- ---- one link

module _ {Config TheEdit Node : Type 0} (m : Meaning Config TheEdit Node) (setting : Setting TheEdit) (entries : List Entry)
    (change device : ℕ) where
  abbrev Own : Option (RecordedState Config Node) → ℕ → LinkState → Type 0
  Own r place link = IsOwnLink m setting entries change device r place link

  -- it has come as far, on the same session
  prepared_as : (before after : LinkState) (r : Option (RecordedState Config Node)) → session_of after ≡ session_of before
      → steps_of after ≡ steps_of before → IfSome r (IsPreparedOn m setting entries change device before)
      → IfSome r (IsPreparedOn m setting entries change device after)
  prepared_as before after None same steps p = tt
  prepared_as before after (Some r) same steps p = λ session at opened.
      subst (λ n. IsPrepared m setting entries change device n session r.device) (sym steps) (p session (sym same ∙ at) opened)

  pub fresh_own : (r : Option (RecordedState Config Node)) (place : ℕ) → Own r place fresh_link
  fresh_own r place = record {
    asked = tt;
    prepared =
        λ first. to_some (IsPreparedOn m setting entries change device fresh_link) r
        (λ one is session at opened. absurd (none-some session at));
  }

  pub sent_own : (r : Option (RecordedState Config Node)) (place : ℕ) (request : Request) (link : LinkState)
      → EditsOwn setting.plans entries change device request → is_quiet_way link.way ≡ true → Own r place link
      → Own r place (sent_on request link)
  sent_own r place request link edits quiet own = record {
    asked = edits;
    prepared =
        λ first. prepared_as link (sent_on request link) r (did_sent_on request link quiet).session (steps_sent request link quiet)
        (own.prepared first);
  }

  handled_asked : (past : List Exchange) (way : Way) (is_open : Bool) → IfSome (asked_on way) (EditsOwn setting.plans entries change device)
      → IfSome (asked_on (handled_by (record { past = past; way = way; is_open = is_open }) way).way)
      (EditsOwn setting.plans entries change device)
  handled_asked past Quiet is_open edits = edits
  handled_asked past (Asked request) is_open edits = edits
  handled_asked past (Told exchange) is_open edits = tt

  pub handled_own : (r : Option (RecordedState Config Node)) (place : ℕ) (link : LinkState) → Own r place link
      → Own r place (handled_on link)
  handled_own r place link own = record {
    asked = handled_asked link.past link.way link.is_open own.asked;
    prepared = λ first. prepared_as link (handled_on link) r (did_handled link).session (steps_handled link) (own.prepared first);
  }

  pub closed_own : (r : Option (RecordedState Config Node)) (place : ℕ) (link : LinkState) → Own r place link
      → Own r place (closed_link link)
  closed_own r place link own = record {
    asked = own.asked;
    prepared = λ first. prepared_as link (closed_link link) r refl refl
        (own.prepared first);
  }

-- ---- a request goes out

module _ {Config TheEdit Node : Type 0} (m : Meaning Config TheEdit Node) (setting : Setting TheEdit) (entries : List Entry) (change : ℕ)
    (devices : List (RecordedState Config Node)) (slot : SlotState) where
  abbrev P : ℕ → ℕ → LinkState → Type 0
  P d = IsOwnLink m setting entries change (suc d) (slice_get devices d)

  module _ (all : AllLinks P slot.sides) (device : ℕ) (numbered : 1 ≤ device) (side : SideState)
      (there : slice_get slot.sides (device - 1) ≡ Some side) where
    same_number : device ≡ suc (device - 1)
    same_number = omega (arith, numbered)

    out_if : (before now : CourseState) (new : Bool) (request : Request) → EditsOwn setting.plans entries change device request → (b : Bool)
        → may_go new side.wire ≡ b
        → AllLinks P (with_pair slot device (sends_if b new device before now side request)).slot.sides
    out_if before now new request edits false e = same_links P slot all (device - 1) side there
    out_if before now new request edits true e =
        set_links P slot all (device - 1) side (with_wire side (gone new side.wire request)) there
        (each_gone (P (device - 1)) new side.wire request e
        (fresh_own m setting entries change (suc (device - 1)) (slice_get devices (device - 1)))
        (λ place link current quiet p.
        sent_own m setting entries change (suc (device - 1)) (slice_get devices (device - 1)) place request link
        (subst (λ n. EditsOwn setting.plans entries change n request) same_number edits) quiet p)
        (links_at P slot all (device - 1) side there))

    out_by : (before now : CourseState) (new : Bool) (found : Option Request) → IfSome found (EditsOwn setting.plans entries change device)
        → AllLinks P (with_pair slot device (sends_request new device before now side found)).slot.sides
    out_by before now new None edits = same_links P slot all (device - 1) side there
    out_by before now new (Some request) edits = out_if before now new request edits (may_go new side.wire) refl

    pub renewed_if : (plan : ChangePlan)
        → IfSome (request_for plan entries slot.course.change device ask.Renew) (EditsOwn setting.plans entries change device)
        → (b : Bool)
        → AllLinks P (with_pair slot device (renews_if b plan entries slot.course side device)).slot.sides
    renewed_if plan edits false = same_links P slot all (device - 1) side there
    renewed_if plan edits true =
        out_by slot.course (course.with_renewed slot.course device) false (request_for plan entries slot.course.change device ask.Renew)
        edits

  module _ (all : AllLinks P slot.sides) (plan : ChangePlan) (device : ℕ) (numbered : 1 ≤ device)
      (edits : (what : Ask) → (same_ask what ask.Edit ≡ true → verdict_in change entries ≡ None)
      → IfSome (request_for plan entries slot.course.change device what) (EditsOwn setting.plans entries change device)) where
    -- an edit goes out before the verdict
    abbrev EditsBefore : Ask → Type 0
    EditsBefore what = (side : SideState) → slice_get slot.sides (device - 1) ≡ Some side
        → same_ask (asked_in_fact side.resync what) ask.Edit ≡ true → verdict_in change entries ≡ None

    sent_on_own : (what : Ask) → EditsBefore what → (found : Option SideState) → slice_get slot.sides (device - 1) ≡ found
        → AllLinks P (on_side (sends_pair plan entries device what) slot device found).slot.sides
    sent_on_own what before None there = all
    sent_on_own what before (Some side) there =
        out_by all device numbered side there slot.course (course.with_sent slot.course device) (opens (asked_in_fact side.resync what))
        (request_for plan entries slot.course.change device (asked_in_fact side.resync what))
        (edits (asked_in_fact side.resync what) (before side there))

    pub sent_all : (what : Ask) → EditsBefore what → AllLinks P (sends plan entries slot device what).slot.sides
    sent_all what before = sent_on_own what before (slice_get slot.sides (device - 1)) refl

    renewed_on_own : (found : Option SideState) → slice_get slot.sides (device - 1) ≡ found
        → AllLinks P (on_side (renews_pair plan entries device) slot device found).slot.sides
    renewed_on_own None there = all
    renewed_on_own (Some side) there =
        renewed_if all device numbered side there plan (edits ask.Renew (λ e. absurd (let g : false ≡ true = e in cc)))
        (course.may_renew slot.course device)

    pub renewed_all : AllLinks P (renews plan entries slot device).slot.sides
    renewed_all = renewed_on_own (slice_get slot.sides (device - 1)) refl
