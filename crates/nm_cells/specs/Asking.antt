-- What a caller finds that asked at a device which it doesn't see, behind its lock (this project's own): what its pass gains.
use Rattle.std.specs.Prelude.{◌≡◌, ◌≤◌, ℕ, Bool, true, false, not, ◌&&◌, nat_lt, List, [], ◌∷◌, ◌++◌, Option, Some, None}
use Rattle.std.specs.Str.{bytes_eq}
use Rattle.nm_base.specs.Tag.{tag_number}
use Rattle.nm_base.specs.Words.{manager}
use Rattle.nm_proto.specs.declared.message.Request.{Request}
use Rattle.nm_proto.specs.declared.message.Reply.{Reply}
use Rattle.nm_proto.specs.declared.message.Reply.TheVariants.{Error}
use Rattle.nm_history.specs.declared.event.DeviceEvent.{DeviceEvent}
use Rattle.nm_history.specs.declared.event.DeviceEvent.TheVariants.{Entered, Asked as IsAsked, Lost, Restarted}
use Rattle.nm_history.specs.declared.event.Noted.{Noted}
use Rattle.nm_cells.specs.declared.asked.Asked.{Asked}
use Rattle.nm_cells.specs.declared.asked.Asked.TheVariants.{Answered, Broken}
use Rattle.nm_cells.specs.declared.pass.PassOwner.{PassOwner}
use Rattle.nm_cells.specs.declared.pass.PassOwner.TheVariants.{Coordinator, Operator}
use Rattle.nm_cells.specs.declared.pass.PassEntry.{PassEntry}
use Rattle.nm_cells.specs.Kept.{opens}
use Rattle.nm_cells.specs.Ended.{ends, holds, opened_in, is_kill, operator_knows, lost_nowhere}

-- ---- what breaks a call

-- the entry of an opening opened this session
abbrev pub opened_by_own : List PassEntry → ℕ → Bool
opened_by_own [] session = false
opened_by_own (entry ∷ later) session = opens session entry.noted.reply

-- a restart breaks an opening, and so does the loss of the session that it opened
abbrev pub breaks_opening : List PassEntry → DeviceEvent → Bool
breaks_opening own (Lost session) = opened_by_own own session
breaks_opening own Restarted = true
breaks_opening own _ = false

-- what ends the session that was asked breaks a call on it
abbrev pub breaks : DeviceEvent → List PassEntry → Noted → Bool
breaks (IsAsked session request) own noted = ends session noted
breaks (Entered user) own noted = breaks_opening own noted.event
breaks _ own noted = false

-- at no place there is the loss of the session that was asked
abbrev pub IsNowhere : DeviceEvent → Noted → Type 0
IsNowhere (IsAsked session request) noted = noted ≡ (lost_nowhere session).noted
IsNowhere _ noted = ⊥

-- ---- what a caller may know

-- a kill on a session that the caller didn't open
abbrev pub kills_from_outside : ℕ → List PassEntry → ℕ → Request → Bool
kills_from_outside device entries asker request = is_kill request && not (opened_in device asker entries)

-- what a coordinator may find new: a restart, the loss of its session, and another's kill
abbrev pub coordinator_finds : ℕ → List PassEntry → DeviceEvent → Bool
coordinator_finds device entries (IsAsked asker request) = kills_from_outside device entries asker request
coordinator_finds device entries (Lost session) = true
coordinator_finds device entries Restarted = true
coordinator_finds device entries _ = false

-- what a caller may find that its pass doesn't hold: an operator finds what it may know of
abbrev pub is_known : PassOwner → ℕ → List PassEntry → DeviceEvent → Bool
is_known (Coordinator change) device entries event = coordinator_finds device entries event
is_known (Operator number) device entries event = operator_knows event

-- ---- what a pass gains

-- somebody else than the manager asks for a session
abbrev pub opens_for_other : DeviceEvent → Bool
opens_for_other (Entered user) = not (bytes_eq user manager)
opens_for_other _ = false

-- the caller's own request, where it was done
abbrev pub IsOwn : ℕ → DeviceEvent → List PassEntry → Type 0
IsOwn device event [] = Unit {0}
IsOwn device event (entry ∷ []) = (entry.device ≡ device) × (1 ≤ entry.position) × (entry.noted.event ≡ event)
IsOwn device event (entry ∷ other ∷ later) = ⊥

module _ (owner : PassOwner) (device position : ℕ) (event : DeviceEvent) (entries : List PassEntry) where
  -- what broke the call, at the place that is told, and the caller may know of it
  pub record IsBreaking (own : List PassEntry) (entry : PassEntry) : Type 0 where
    pub device_is : entry.device ≡ device
    pub position_is : entry.position ≡ position
    pub nowhere : position ≡ 0 → IsNowhere event entry.noted
    pub breaks_it : 1 ≤ position → breaks event own entry.noted ≡ true
    pub known : 1 ≤ position → is_known owner device (entries ++ own) entry.noted.event ≡ true

  -- unless the pass held the entry at that place
  abbrev pub IsFound : List PassEntry → List PassEntry → Type 0
  IsFound own [] = (1 ≤ position) × (holds device position entries ≡ true)
  IsFound own (entry ∷ []) = IsBreaking own entry
  IsFound own (entry ∷ other ∷ later) = ⊥

  -- the call was broken: the pass gained the request's entry, where it was done, and what broke the call. Who asks for a
  -- session as another than the manager is always answered
  pub record FindsBroken (after : List PassEntry) : Type 0 where
    pub own : List PassEntry
    pub found : List PassEntry
    pub after_is : after ≡ entries ++ (own ++ found)
    pub own_is : IsOwn device event own
    pub found_is : IsFound own found
    pub managers : opens_for_other event ≡ false

-- what a caller finds that asked: where the call was answered, its pass gains the request's entry with the reply, at the place
-- that is told. Who asks on no session finds nothing
abbrev pub FindsBy : PassOwner → Option DeviceEvent → Asked → List PassEntry → List PassEntry → ℕ → Type 0
FindsBy owner None asked entries after device = (asked ≡ Broken 0) × (after ≡ entries)
FindsBy owner (Some event) (Broken position) entries after device = FindsBroken owner device position event entries after
FindsBy owner (Some event) (Answered position reply) entries after device =
    (1 ≤ position)
    × ((undone : Bool)
    × (after ≡ entries
    ++ record { device = device; position = position; noted = record { event = event; reply = Some reply; undone = undone } } ∷ []))

-- ---- tags

-- an error's tag is one of those that a journal can record
abbrev pub has_plain_tag : Reply → Bool
has_plain_tag (Error tag session path) = nat_lt (tag_number tag) 9
has_plain_tag _ = true

-- an answer fits a call that no fault meets
abbrev pub is_plain : Asked → Bool
is_plain (Answered position reply) = has_plain_tag reply
is_plain (Broken position) = true
