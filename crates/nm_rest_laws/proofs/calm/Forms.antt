-- Where the manager, a link and a device stand together in a calm run, and what is found there.
use Rattle.std.proofs.Common.{◌≡◌, ℕ, List, [], ◌∷◌, ◌++◌, Bool, true, false, not, Option, Some, None, refl}
use Rattle.std.proofs.lemmas.Option.{none-some, same_Some}
use Rattle.nm_base.specs.declared.mask.DeviceMask.{DeviceMask}
use Rattle.nm_proto.specs.declared.ask.Ask.{Ask}
use Rattle.nm_proto.specs.declared.ask.Ask.TheVariants as ask
use Rattle.nm_proto.specs.declared.journal.Verdict.{Verdict}
use Rattle.nm_proto.specs.declared.journal.Verdict.TheVariants as verdict
use Rattle.nm_proto.specs.declared.message.Request.{Request}
use Rattle.nm_proto.specs.declared.plan.Event.{Event}
use Rattle.nm_proto.specs.declared.plan.Event.TheVariants.{Deliver, Answer}
use Rattle.nm_proto.specs.declared.plan.PlannedEdit.{PlannedEdit}
use Rattle.nm_proto.specs.Content.{Meaning, TablesState}
use Rattle.nm_sessions.specs.Sessions.{without}
use Rattle.nm_decider_stage.specs.declared.stage.Stage.{Stage}
use Rattle.nm_decider_stage.specs.declared.stage.Stage.TheVariants.{Live, Leaving, Settled}
use Rattle.nm_decider_stage.specs.Stages.{next_ask, learnt, trouble_in, is_acknowledged, is_settled}
use Rattle.nm_resync.specs.Resync.{ResyncState}
use Rattle.nm_wire.specs.declared.link.Exchange.{Exchange}
use Rattle.nm_wire.specs.declared.link.Way.TheVariants.{Quiet, Asked, Told}
use Rattle.nm_wire.specs.Link.{LinkState}
use Rattle.nm_wire.specs.Wire.{WireState, no_links, session_at, due, told, handled}
use Rattle.nm_manager.specs.Slot.{opens, may_go, gone, is_resync, asked_in_fact}
use Rattle.nm_history.specs.History.{RecordedState}
use Rattle.nm_world.specs.World.{undelivered, replies_on}
use Rattle.nm_world.specs.Drain.{first_from, lose_link, lose_first, break_on, deliver_on, answer_on}
use Rattle.nm_rest_laws.proofs.calm.Legs.{Leg, Stop, before, reply_to, asker, request_of, at}
use Rattle.nm_rest_laws.proofs.calm.Legs.Leg.{Opens, TakesRunning, TakesCandidate, Edits, Validates, Commits, Confirms, Closes}
use Rattle.nm_rest_laws.proofs.calm.Legs.Stop.{First, After}

-- nothing is on its way; a request is; its reply is
pub data Form : Type 0 where
  Rests : (stop : Stop) → Form
  Asks : (leg : Leg) → Form
  Tells : (leg : Leg) → Form

-- what the journal has
pub data Phase : Type 0 where
  Undecided : Phase
  Committed : Phase
  Over : (kept : DeviceMask) → Phase

abbrev pub verdict_of : Phase → Option Verdict
verdict_of Undecided = None
verdict_of Committed = Some verdict.Commit
verdict_of (Over kept) = Some verdict.Commit

-- how far the manager knows the device to be
abbrev pub known : Form → Stop
known (Rests stop) = stop
known (Asks leg) = before leg
known (Tells leg) = before leg

-- and how far it is
abbrev pub reached : Form → Stop
reached (Rests stop) = stop
reached (Asks leg) = before leg
reached (Tells leg) = After leg

abbrev pub ask_by : Leg → Ask
ask_by Opens = ask.OpenSession
ask_by TakesRunning = ask.LockRunning
ask_by TakesCandidate = ask.LockCandidate
ask_by Edits = ask.Edit
ask_by Validates = ask.Validate
ask_by Commits = ask.CommitConfirmed
ask_by Confirms = ask.Confirm
ask_by Closes = ask.CloseSession

abbrev pub awaited_in : Form → Option Ask
awaited_in (Rests stop) = None
awaited_in (Asks leg) = Some (ask_by leg)
awaited_in (Tells leg) = Some (ask_by leg)

abbrev pub stage_at : Stop → Stage
stage_at First = Live 0
stage_at (After Opens) = Live 1
stage_at (After TakesRunning) = Live 2
stage_at (After TakesCandidate) = Live 3
stage_at (After Edits) = Live 4
stage_at (After Validates) = Live 5
stage_at (After Commits) = Live 6
stage_at (After Confirms) = Leaving true
stage_at (After Closes) = Settled true

-- the requests before the verdict
abbrev pub is_early : Leg → Bool
is_early Confirms = false
is_early Closes = false
is_early _ = true

-- what may be while the journal has this
abbrev pub fits : Phase → Form → Bool
fits Undecided (Rests First) = true
fits Undecided (Rests (After leg)) = is_early leg
fits Undecided (Asks leg) = is_early leg
fits Undecided (Tells leg) = is_early leg
fits Committed (Rests First) = false
fits Committed (Rests (After Commits)) = true
fits Committed (Rests (After leg)) = not (is_early leg)
fits Committed (Asks leg) = not (is_early leg)
fits Committed (Tells leg) = not (is_early leg)
fits (Over kept) (Rests (After Closes)) = true
fits (Over kept) _ = false

pub never : {A : Type 0} → false ≡ true → A
never e = absurd (let f : false ≡ true = e in cc)

pub told_may : (phase : Phase) (leg : Leg) → fits phase (Asks leg) ≡ true → fits phase (Tells leg) ≡ true
told_may Undecided leg f = f
told_may Committed leg f = f
told_may (Over kept) leg f = never f

-- ---- links

module _ (token : List ℕ) (timeout : ℕ) (planned : PlannedEdit) where
  abbrev pub asks_by : Leg → Request
  asks_by leg = request_of token timeout planned leg

  abbrev pub exchange : Leg → Exchange
  exchange leg = record { request = asks_by leg; reply = reply_to leg }

  abbrev past_1 : List Exchange
  past_1 = exchange Opens ∷ []

  abbrev past_2 : List Exchange
  past_2 = past_1 ++ exchange TakesRunning ∷ []

  abbrev past_3 : List Exchange
  past_3 = past_2 ++ exchange TakesCandidate ∷ []

  abbrev past_4 : List Exchange
  past_4 = past_3 ++ exchange Edits ∷ []

  abbrev past_5 : List Exchange
  past_5 = past_4 ++ exchange Validates ∷ []

  abbrev past_6 : List Exchange
  past_6 = past_5 ++ exchange Commits ∷ []

  abbrev past_7 : List Exchange
  past_7 = past_6 ++ exchange Confirms ∷ []

  abbrev past_8 : List Exchange
  past_8 = past_7 ++ exchange Closes ∷ []

  abbrev past : Stop → List Exchange
  past First = []
  past (After Opens) = past_1
  past (After TakesRunning) = past_2
  past (After TakesCandidate) = past_3
  past (After Edits) = past_4
  past (After Validates) = past_5
  past (After Commits) = past_6
  past (After Confirms) = past_7
  past (After Closes) = past_8

  abbrev stays_open : Leg → Bool
  stays_open Closes = false
  stays_open _ = true

  abbrev current_after : Leg → Option ℕ
  current_after Closes = None
  current_after _ = Some 1

  abbrev link_in : Form → LinkState
  link_in (Rests First) = record { past = []; way = Quiet; is_open = true }
  link_in (Rests (After leg)) = record { past = past (After leg); way = Quiet; is_open = stays_open leg }
  link_in (Asks leg) = record { past = past (before leg); way = Asked (asks_by leg); is_open = true }
  link_in (Tells leg) = record { past = past (before leg); way = Told (exchange leg); is_open = stays_open leg }

  -- the links of the change set to the device
  abbrev pub wire_in : Form → WireState
  wire_in (Rests First) = no_links
  wire_in (Rests (After leg)) = record { links = link_in (Rests (After leg)) ∷ []; current = current_after leg }
  wire_in (Asks leg) = record { links = link_in (Asks leg) ∷ []; current = Some 1 }
  wire_in (Tells leg) = record { links = link_in (Tells leg) ∷ []; current = Some 1 }

  -- the number of the reply that is told
  abbrev pub number_of : Leg → ℕ
  number_of leg = replies_on (wire_in (Tells leg)) 1

  -- ---- a request, from its sending to its answer

  pub record IsLeg (leg : Leg) : Type 0 where
    pub plain : is_resync (Some (ask_by leg)) ≡ false
    pub in_fact : (now : ResyncState) → asked_in_fact now (ask_by leg) ≡ ask_by leg
    pub goes : may_go (opens (ask_by leg)) (wire_in (Rests (before leg))) ≡ true
    pub sent : gone (opens (ask_by leg)) (wire_in (Rests (before leg))) (asks_by leg) ≡ wire_in (Asks leg)
    pub session : session_at (wire_in (Asks leg)) 1 ≡ asker leg
    pub told_it : told (wire_in (Asks leg)) 1 (reply_to leg) ≡ wire_in (Tells leg)
    pub due_then : due (wire_in (Tells leg)) 1 (number_of leg) ≡ Some (exchange leg)
    pub handled_then : handled (wire_in (Tells leg)) 1 (number_of leg) ≡ wire_in (Rests (After leg))
    pub untroubled : (device : ℕ) → trouble_in device (ask_by leg) (reply_to leg) ≡ None

  abbrev legs : {leg : Leg} → is_resync (Some (ask_by leg)) ≡ false → ((now : ResyncState) → asked_in_fact now (ask_by leg) ≡ ask_by leg)
      → may_go (opens (ask_by leg)) (wire_in (Rests (before leg))) ≡ true
      → gone (opens (ask_by leg)) (wire_in (Rests (before leg))) (asks_by leg) ≡ wire_in (Asks leg)
      → session_at (wire_in (Asks leg)) 1 ≡ asker leg → told (wire_in (Asks leg)) 1 (reply_to leg) ≡ wire_in (Tells leg)
      → due (wire_in (Tells leg)) 1 (number_of leg) ≡ Some (exchange leg) → handled (wire_in (Tells leg)) 1 (number_of leg) ≡ wire_in (Rests (After leg))
      → ((device : ℕ) → trouble_in device (ask_by leg) (reply_to leg) ≡ None) → IsLeg leg
  legs plain in_fact goes sent session told_it due_then handled_then untroubled = record {
    plain = plain;
    in_fact = in_fact;
    goes = goes;
    sent = sent;
    session = session;
    told_it = told_it;
    due_then = due_then;
    handled_then = handled_then;
    untroubled = untroubled;
  }

  pub is_leg : (leg : Leg) → IsLeg leg
  is_leg Opens = legs {leg = Opens} refl (λ now. refl) refl refl refl refl refl refl (λ device. refl)
  is_leg TakesRunning = legs {leg = TakesRunning} refl (λ now. refl) refl refl refl refl refl refl (λ device. refl)
  is_leg TakesCandidate = legs {leg = TakesCandidate} refl (λ now. refl) refl refl refl refl refl refl (λ device. refl)
  is_leg Edits = legs {leg = Edits} refl (λ now. refl) refl refl refl refl refl refl (λ device. refl)
  is_leg Validates = legs {leg = Validates} refl (λ now. refl) refl refl refl refl refl refl (λ device. refl)
  is_leg Commits = legs {leg = Commits} refl (λ now. refl) refl refl refl refl refl refl (λ device. refl)
  is_leg Confirms = legs {leg = Confirms} refl (λ now. refl) refl refl refl refl refl refl (λ device. refl)
  is_leg Closes = legs {leg = Closes} refl (λ now. refl) refl refl refl refl refl refl (λ device. refl)

-- ---- the manager

-- what is learnt of a reply
pub record IsLearnt (phase : Phase) (leg : Leg) : Type 0 where
  pub stage : learnt (verdict_of phase) (stage_at (before leg)) (ask_by leg) (reply_to leg) ≡ stage_at (After leg)
  pub still : fits phase (Rests (After leg)) ≡ true

pub is_learnt : (phase : Phase) (leg : Leg) → fits phase (Tells leg) ≡ true → IsLearnt phase leg
is_learnt Undecided Opens f = record { stage = refl; still = refl }
is_learnt Undecided TakesRunning f = record { stage = refl; still = refl }
is_learnt Undecided TakesCandidate f = record { stage = refl; still = refl }
is_learnt Undecided Edits f = record { stage = refl; still = refl }
is_learnt Undecided Validates f = record { stage = refl; still = refl }
is_learnt Undecided Commits f = record { stage = refl; still = refl }
is_learnt Undecided Confirms f = never f
is_learnt Undecided Closes f = never f
is_learnt Committed Opens f = never f
is_learnt Committed TakesRunning f = never f
is_learnt Committed TakesCandidate f = never f
is_learnt Committed Edits f = never f
is_learnt Committed Validates f = never f
is_learnt Committed Commits f = never f
is_learnt Committed Confirms f = record { stage = refl; still = refl }
is_learnt Committed Closes f = record { stage = refl; still = refl }
is_learnt (Over kept) leg f = never f

-- what is asked next
pub record IsNext (phase : Phase) (stop : Stop) (what : Ask) : Type 0 where
  pub leg : Leg
  pub at_it : before leg ≡ stop
  pub is : ask_by leg ≡ what
  pub may : fits phase (Asks leg) ≡ true

next_by : (phase : Phase) (leg : Leg) (what : Ask) → fits phase (Asks leg) ≡ true → Some (ask_by leg) ≡ Some what → IsNext phase (before leg) what
next_by phase leg what may e = record { leg = leg; at_it = refl; is = same_Some (ask_by leg) what e; may = may }

pub is_next : (phase : Phase) (stop : Stop) (what : Ask) → fits phase (Rests stop) ≡ true → next_ask (verdict_of phase) (stage_at stop) ≡ Some what
    → IsNext phase stop what
is_next Undecided First what f e = next_by Undecided Opens what refl e
is_next Undecided (After Opens) what f e = next_by Undecided TakesRunning what refl e
is_next Undecided (After TakesRunning) what f e = next_by Undecided TakesCandidate what refl e
is_next Undecided (After TakesCandidate) what f e = next_by Undecided Edits what refl e
is_next Undecided (After Edits) what f e = next_by Undecided Validates what refl e
is_next Undecided (After Validates) what f e = next_by Undecided Commits what refl e
is_next Undecided (After Commits) what f e = absurd (none-some what e)
is_next Undecided (After Confirms) what f e = never f
is_next Undecided (After Closes) what f e = never f
is_next Committed First what f e = never f
is_next Committed (After Opens) what f e = never f
is_next Committed (After TakesRunning) what f e = never f
is_next Committed (After TakesCandidate) what f e = never f
is_next Committed (After Edits) what f e = never f
is_next Committed (After Validates) what f e = never f
is_next Committed (After Commits) what f e = next_by Committed Confirms what refl e
is_next Committed (After Confirms) what f e = next_by Committed Closes what refl e
is_next Committed (After Closes) what f e = absurd (none-some what e)
is_next (Over kept) First what f e = never f
is_next (Over kept) (After Opens) what f e = never f
is_next (Over kept) (After TakesRunning) what f e = never f
is_next (Over kept) (After TakesCandidate) what f e = never f
is_next (Over kept) (After Edits) what f e = never f
is_next (Over kept) (After Validates) what f e = never f
is_next (Over kept) (After Commits) what f e = never f
is_next (Over kept) (After Confirms) what f e = never f
is_next (Over kept) (After Closes) what f e = absurd (none-some what e)

-- where a device that awaits nothing has acknowledged
pub acknowledged_at : (form : Form) → awaited_in form ≡ None → is_acknowledged (stage_at (known form)) ≡ true → form ≡ Rests (After Commits)
acknowledged_at (Rests First) q a = never a
acknowledged_at (Rests (After Opens)) q a = never a
acknowledged_at (Rests (After TakesRunning)) q a = never a
acknowledged_at (Rests (After TakesCandidate)) q a = never a
acknowledged_at (Rests (After Edits)) q a = never a
acknowledged_at (Rests (After Validates)) q a = never a
acknowledged_at (Rests (After Commits)) q a = refl
acknowledged_at (Rests (After Confirms)) q a = never a
acknowledged_at (Rests (After Closes)) q a = never a
acknowledged_at (Asks leg) q a = absurd (let f : Some (ask_by leg) ≡ None = q in cc)
acknowledged_at (Tells leg) q a = absurd (let f : Some (ask_by leg) ≡ None = q in cc)

-- where it is settled
settled_stop : (stop : Stop) → is_settled (stage_at stop) ≡ true → stop ≡ After Closes
settled_stop First a = never a
settled_stop (After Opens) a = never a
settled_stop (After TakesRunning) a = never a
settled_stop (After TakesCandidate) a = never a
settled_stop (After Edits) a = never a
settled_stop (After Validates) a = never a
settled_stop (After Commits) a = never a
settled_stop (After Confirms) a = never a
settled_stop (After Closes) a = refl

not_before : {A : Type 0} (leg : Leg) → is_settled (stage_at (before leg)) ≡ true → A
not_before Opens a = never a
not_before TakesRunning a = never a
not_before TakesCandidate a = never a
not_before Edits a = never a
not_before Validates a = never a
not_before Commits a = never a
not_before Confirms a = never a
not_before Closes a = never a

pub settled_at : (form : Form) → is_settled (stage_at (known form)) ≡ true → form ≡ Rests (After Closes)
settled_at (Rests stop) a = let is = settled_stop stop a in rw is refl
settled_at (Asks leg) a = not_before leg a
settled_at (Tells leg) a = not_before leg a

-- ---- a drain

module _ {Config TheEdit Node : Type 0} (m : Meaning Config TheEdit Node) (tables : TablesState TheEdit)
    (token : List ℕ) (timeout : ℕ) (planned : PlannedEdit) (first made : Config) (device : ℕ) where
  abbrev device_in : Form → RecordedState Config Node
  device_in form = at m tables token timeout planned first made (reached form)

  abbrev links : Form → WireState
  links form = wire_in token timeout planned form

  abbrev pub delivers : Form → Option Event
  delivers (Rests stop) = None
  delivers (Asks leg) = Some (Deliver 1 device 1)
  delivers (Tells leg) = None

  abbrev pub answers : Form → Option Event
  answers (Rests stop) = None
  answers (Asks leg) = None
  answers (Tells leg) = Some (Answer 1 device 1 (number_of token timeout planned leg))

  -- no link is left or stranded; what is asked is delivered, and what is told is answered
  pub record IsFair (form : Form) : Type 0 where
    pub kept : lose_first (device_in form) (links form) 1 device ≡ None
    pub whole : break_on (device_in form) (links form) 1 device ≡ None
    pub delivered : deliver_on (device_in form) (links form) 1 device ≡ delivers form
    pub answered : answer_on (links form) 1 device ≡ answers form

  abbrev fair : {form : Form} → lose_first (device_in form) (links form) 1 device ≡ None → break_on (device_in form) (links form) 1 device ≡ None
      → deliver_on (device_in form) (links form) 1 device ≡ delivers form → answer_on (links form) 1 device ≡ answers form → IsFair form
  fair kept whole delivered answered = record { kept = kept; whole = whole; delivered = delivered; answered = answered }

  pub is_fair : (form : Form) → IsFair form
  unfolding first_from lose_link without
  is_fair (Rests First) = fair {form = Rests First} refl refl refl refl
  is_fair (Rests (After Opens)) = fair {form = Rests (After Opens)} refl refl refl refl
  is_fair (Rests (After TakesRunning)) = fair {form = Rests (After TakesRunning)} refl refl refl refl
  is_fair (Rests (After TakesCandidate)) = fair {form = Rests (After TakesCandidate)} refl refl refl refl
  is_fair (Rests (After Edits)) = fair {form = Rests (After Edits)} refl refl refl refl
  is_fair (Rests (After Validates)) = fair {form = Rests (After Validates)} refl refl refl refl
  is_fair (Rests (After Commits)) = fair {form = Rests (After Commits)} refl refl refl refl
  is_fair (Rests (After Confirms)) = fair {form = Rests (After Confirms)} refl refl refl refl
  is_fair (Rests (After Closes)) = fair {form = Rests (After Closes)} refl refl refl refl
  is_fair (Asks Opens) = fair {form = Asks Opens} refl refl refl refl
  is_fair (Asks TakesRunning) = fair {form = Asks TakesRunning} refl refl refl refl
  is_fair (Asks TakesCandidate) = fair {form = Asks TakesCandidate} refl refl refl refl
  is_fair (Asks Edits) = fair {form = Asks Edits} refl refl refl refl
  is_fair (Asks Validates) = fair {form = Asks Validates} refl refl refl refl
  is_fair (Asks Commits) = fair {form = Asks Commits} refl refl refl refl
  is_fair (Asks Confirms) = fair {form = Asks Confirms} refl refl refl refl
  is_fair (Asks Closes) = fair {form = Asks Closes} refl refl refl refl
  is_fair (Tells Opens) = fair {form = Tells Opens} refl refl refl refl
  is_fair (Tells TakesRunning) = fair {form = Tells TakesRunning} refl refl refl refl
  is_fair (Tells TakesCandidate) = fair {form = Tells TakesCandidate} refl refl refl refl
  is_fair (Tells Edits) = fair {form = Tells Edits} refl refl refl refl
  is_fair (Tells Validates) = fair {form = Tells Validates} refl refl refl refl
  is_fair (Tells Commits) = fair {form = Tells Commits} refl refl refl refl
  is_fair (Tells Confirms) = fair {form = Tells Confirms} refl refl refl refl
  is_fair (Tells Closes) = fair {form = Tells Closes} refl refl refl refl

  -- the device has what it is asked
  pub asked_there : (leg : Leg) → undelivered (device_in (Asks leg)) (links (Asks leg)) 1 ≡ Some (asks_by token timeout planned leg)
  asked_there Opens = refl
  asked_there TakesRunning = refl
  asked_there TakesCandidate = refl
  asked_there Edits = refl
  asked_there Validates = refl
  asked_there Commits = refl
  asked_there Confirms = refl
  asked_there Closes = refl
