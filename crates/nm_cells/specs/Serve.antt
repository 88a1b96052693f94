-- A request at a device of a run, under the faults that are planned for it (this project's own, over RFC 6241 sections 7, 8 and
-- 8.4.1): what is told of it, what happens at the device, and what the caller's pass gets. A fault comes at just the request
-- of the manager that it names.
use Rattle.std.specs.Prelude.{◌≡◌, ℕ, ◌+◌, Bool, true, false, not, ◌&&◌, List, [], ◌∷◌, ◌++◌, length, Option, Some, None, ◌⊎◌, if◌then◌else◌}
use Rattle.std.specs.Str.{bytes_eq}
use Rattle.nm_base.specs.Words.{manager}
use Rattle.nm_proto.specs.declared.message.Request.{Request}
use Rattle.nm_proto.specs.declared.message.Reply.{Reply}
use Rattle.nm_proto.specs.declared.message.Reply.TheVariants.{Opened}
use Rattle.nm_proto.specs.Content.{Meaning, TablesState}
use Rattle.nm_sessions.specs.Sessions.{is_open}
use Rattle.nm_device.specs.Table.{device_step, opening_user}
use Rattle.nm_history.specs.declared.event.DeviceEvent.{DeviceEvent}
use Rattle.nm_history.specs.declared.event.DeviceEvent.TheVariants.{Entered, Asked, Lost, Advanced, Restarted}
use Rattle.nm_history.specs.History.{Happened, noted, entering, answered, losing, advancing, restarting, recorded_with}
use Rattle.nm_proto.specs.declared.fault.PlanFault.{PlanFault}
use Rattle.nm_proto.specs.declared.fault.PlanFault.TheVariants.{Drop, Cut, Restart, Advance}
use Rattle.nm_cells.specs.declared.asked.Asked.{Asked as Told}
use Rattle.nm_cells.specs.declared.asked.Asked.TheVariants.{Answered, Broken}
use Rattle.nm_cells.specs.declared.pass.PassOwner.{PassOwner}
use Rattle.nm_cells.specs.declared.pass.PassEntry.{PassEntry}
use Rattle.nm_cells.specs.Pass.{is_operator}
use Rattle.nm_cells.specs.Faults.{due, come}
use Rattle.nm_cells.specs.Kept.{KeptState, kept_with, kept_after, with_room, with_faults, is_managers}
use Rattle.nm_cells.specs.declared.ended.Found.{Found}
use Rattle.nm_cells.specs.Ended.{found, with_found}

-- ---- before the request

-- the seconds of an advance
abbrev pub advance_of : Option PlanFault → Option ℕ
advance_of None = None
advance_of (Some Drop) = None
advance_of (Some Cut) = None
advance_of (Some Restart) = None
advance_of (Some (Advance seconds)) = Some seconds

module _ {Config TheEdit Node : Type 0} (m : Meaning Config TheEdit Node) where
  -- the clock rises by what the plan asks, where it asks
  abbrev pub advanced_by : KeptState Config Node → Option ℕ → KeptState Config Node
  advanced_by kept None = kept
  advanced_by kept (Some seconds) =
      with_faults (kept_with kept (recorded_with kept.recorded (Advanced seconds) (advancing m kept.recorded.device seconds))) (come kept.faults)

  -- the clock rises first, where an advance is planned for the next request of the manager and hasn't been done
  abbrev pub prepared : KeptState Config Node → KeptState Config Node
  prepared kept = advanced_by kept (advance_of (due kept.faults))

-- ---- what a call leaves

-- what is told of a call, the device after it, and the entries of the caller's pass
pub record Left (Config Node : Type 0) : Type 0 where
  pub told : Told
  pub kept : KeptState Config Node
  pub entries : List PassEntry

-- what is told of an event by its reply. One without a reply broke the call
abbrev pub told_by : ℕ → Option Reply → Told
told_by position (Some reply) = Answered position reply
told_by position None = Broken position

module _ {Config Node : Type 0} (device : ℕ) where
  -- the entry of what happens next, as a pass holds it
  abbrev pub entry_of : KeptState Config Node → DeviceEvent → Happened Config Node → PassEntry
  entry_of kept event h = record { device = device; position = length kept.recorded.history + 1; noted = noted event h }

  -- an event happens: its entry stands at the end of the history, and in the pass at the same place
  abbrev pub happens : Bool → KeptState Config Node → List PassEntry → DeviceEvent → Happened Config Node → Left Config Node
  happens counts kept entries event h = record {
    told = told_by (length kept.recorded.history + 1) h.reply;
    kept = kept_after counts kept event h;
    entries = entries ++ entry_of kept event h ∷ [];
  }

  -- nothing happens on a session that isn't open, and the caller finds what ended it
  abbrev pub tells_end : KeptState Config Node → List PassEntry → Found → Left Config Node
  tells_end kept entries it = record { told = Broken it.position; kept = kept; entries = with_found device entries it }

-- ---- with the request

-- the session that a request is asked on
abbrev pub asked_on : DeviceEvent → Option ℕ
asked_on (Asked session request) = Some session
asked_on _ = None

-- the session that a call was told to have opened
abbrev pub opened_session : Told → Option ℕ
opened_session (Answered position (Opened session)) = Some session
opened_session _ = None

-- the session that is lost with a reply: the one that was asked, and where there is none the one that was opened
abbrev pub lost_with : Option ℕ → Told → Option ℕ
lost_with (Some session) told = Some session
lost_with None told = opened_session told

module _ {Config TheEdit Node : Type 0} (m : Meaning Config TheEdit Node) (device : ℕ) where
  -- a session is lost, which breaks the call
  abbrev pub loses : Bool → KeptState Config Node → List PassEntry → ℕ → Left Config Node
  loses counts kept entries session = happens device counts kept entries (Lost session) (losing m kept.recorded.device session)

  -- the device restarts, which breaks the call
  abbrev pub restarts : KeptState Config Node → List PassEntry → Left Config Node
  restarts kept entries = happens device true kept entries Restarted (restarting m kept.recorded.device)

  -- the session is lost after what was done, where it is open then, and so is the reply. Where it isn't, the reply comes
  abbrev pub cut_off : Option ℕ → Left Config Node → Left Config Node
  cut_off None done = done
  cut_off (Some session) done =
      if is_open done.kept.recorded.device.sessions session then loses false done.kept done.entries session else done

  -- a cut: the request is done, and then its reply and the session are lost
  abbrev pub cut : Option ℕ → Left Config Node → Left Config Node
  cut on done = cut_off (lost_with on done.told) done

  -- a drop loses the session in place of the request. Who asks for a session has none before it: there it is as a cut
  abbrev pub dropped : Option ℕ → KeptState Config Node → List PassEntry → Left Config Node → Left Config Node
  dropped (Some session) kept entries done = loses true kept entries session
  dropped None kept entries done = cut None done

  -- a request of the manager, by the fault that comes with it. An advance has come already
  abbrev pub by_fault : Option PlanFault → KeptState Config Node → List PassEntry → DeviceEvent → Happened Config Node → Left Config Node
  by_fault None kept entries event h = happens device true kept entries event h
  by_fault (Some (Advance seconds)) kept entries event h = happens device true kept entries event h
  by_fault (Some Drop) kept entries event h = dropped (asked_on event) kept entries (happens device true kept entries event h)
  by_fault (Some Cut) kept entries event h = cut (asked_on event) (happens device true kept entries event h)
  by_fault (Some Restart) kept entries event h = restarts kept entries

  -- the manager asks for a session
  abbrev pub manager_enters : KeptState Config Node → List PassEntry → List ℕ → Left Config Node
  manager_enters kept entries user = by_fault (due kept.faults) kept entries (Entered user) (entering kept.recorded.device user)

  -- somebody does
  abbrev pub enters : KeptState Config Node → List PassEntry → List ℕ → Left Config Node
  enters kept entries user =
      if bytes_eq user manager then manager_enters (prepared m kept) entries user
      else happens device false kept entries (Entered user) (entering kept.recorded.device user)

module _ {Config Node : Type 0} where
  -- the caller may ask on the session: it is open, and no operator asks on one of the manager's
  abbrev pub may_ask : PassOwner → KeptState Config Node → ℕ → Bool
  may_ask owner old session = is_open old.recorded.device.sessions session && not (is_operator owner && is_managers session old.recorded.history)

module _ {Config TheEdit Node : Type 0} (m : Meaning Config TheEdit Node) (tables : TablesState TheEdit) where
  -- what a device does with a request of a session
  abbrev pub asking : KeptState Config Node → ℕ → Request → Happened Config Node
  asking kept session request = answered kept.recorded.device request (device_step m tables kept.recorded.device session request)

  module _ (device : ℕ) where
    -- the manager asks something on its session
    abbrev pub manager_asks : KeptState Config Node → List PassEntry → ℕ → Request → Left Config Node
    manager_asks kept entries session request =
        by_fault m device (due kept.faults) kept entries (Asked session request) (asking kept session request)

    -- a request of an open session
    abbrev pub asks : KeptState Config Node → List PassEntry → ℕ → Request → Left Config Node
    asks kept entries session request =
        if is_managers session kept.recorded.history then manager_asks (prepared m kept) entries session request
        else happens device false kept entries (Asked session request) (asking kept session request)

    module _ (owner : PassOwner) where
      -- a request of a session, which may not be open
      abbrev pub serve_on : KeptState Config Node → List PassEntry → ℕ → Request → Left Config Node
      serve_on kept entries session request =
          if may_ask owner kept session then asks (with_room kept) entries session request
          else tells_end device kept entries (found owner device session entries kept.recorded.history)

      -- by the user who asks for a session, whatever session it is asked on, and by the session where nobody does. Without one
      -- nothing happens
      abbrev pub serve_by : Option (List ℕ) → Option ℕ → KeptState Config Node → List PassEntry → Request → Left Config Node
      serve_by (Some user) session kept entries request = enters m device (with_room kept) entries user
      serve_by None (Some session) kept entries request = serve_on kept entries session request
      serve_by None None kept entries request = record { told = Broken 0; kept = kept; entries = entries }

      -- what a call leaves that is served
      abbrev pub serve_of : KeptState Config Node → List PassEntry → Option ℕ → Request → Left Config Node
      serve_of kept entries session request = serve_by (opening_user request) session kept entries request

-- a call left this, as it was told, of the device and in the pass
pub record Leaves {Config Node : Type 0} (told : Told) (new : KeptState Config Node) (after : List PassEntry) (left : Left Config Node) : Type 0 where
  pub told_is : told ≡ left.told
  pub kept_is : new ≡ left.kept
  pub entries_is : after ≡ left.entries

module _ {Config TheEdit Node : Type 0} (m : Meaning Config TheEdit Node) where
  -- where there is no memory: the clock may have risen as it was planned for this request, and nothing else has changed
  abbrev pub StaysOrAdvances : KeptState Config Node → KeptState Config Node → Type 0
  StaysOrAdvances old new = (new ≡ old) ⊎ ((new ≡ with_room old) ⊎ (new ≡ prepared m (with_room old)))
