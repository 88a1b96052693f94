-- An operator hangs up at a device (this project's own, over RFC 6241 section 8.4.1).
use Rattle.std.specs.Prelude.{◌≡◌, ◌≤◌, ℕ, ◌+◌, ◌&&◌, Bool, false, not, length, Option, Some, None, MatchBool}
use Rattle.nm_proto.specs.Content.{Meaning}
use Rattle.nm_sessions.specs.Sessions.{is_open}
use Rattle.nm_history.specs.declared.event.DeviceEvent.TheVariants.{Lost}
use Rattle.nm_history.specs.History.{noted, losing}
use Rattle.nm_cells.specs.Kept.{KeptState, kept_after, with_room, is_managers}
use Rattle.nm_cells.specs.Pass.{PassState, seen}

module _ {Config TheEdit Node : Type 0} (m : Meaning Config TheEdit Node) where
  -- an operator may hang up a session that is open and not the manager's
  abbrev pub may_end : KeptState Config Node → ℕ → Bool
  may_end old session = is_open old.recorded.device.sessions session && not (is_managers session old.recorded.history)

  -- the loss at the end of the history, and in the operator's pass at the same place
  pub record HangsUp (position : Option ℕ) (old new : KeptState Config Node) (pass after : PassState) (device session : ℕ) : Type 0 where
    pub position_is : position ≡ Some (length old.recorded.history + 1)
    pub device_is : new ≡ kept_after false (with_room old) (Lost session) (losing m old.recorded.device session)
    pub pass_is : after
        ≡ seen pass (record {
          device = device;
          position = length old.recorded.history + 1;
          noted = noted (Lost session)
              (losing m old.recorded.device session);
        })

  -- nothing happens, and nothing comes into the pass
  pub record Stays (position : Option ℕ) (old new : KeptState Config Node) (pass after : PassState) : Type 0 where
    pub position_is : position ≡ None
    pub device_is : new ≡ old
    pub pass_is : after ≡ pass

  -- a call that hangs up: None exactly where the operator may not
  abbrev pub Ends : Option ℕ → KeptState Config Node → KeptState Config Node → PassState → PassState → ℕ → ℕ → Type 0
  Ends position old new pass after device session =
      MatchBool (may_end old session) (HangsUp position old new pass after device session) (Stays position old new pass after)

-- what a caller finds that hung up, of a device that it doesn't see: the loss of this session at the place that is told, or
-- nothing
abbrev pub FoundHungUp : Option ℕ → PassState → PassState → ℕ → ℕ → Type 0
FoundHungUp None pass after device session = after ≡ pass
FoundHungUp (Some position) pass after device session =
    (1 ≤ position)
    × ((undone : Bool)
    × (after ≡ seen pass
    (record { device = device; position = position; noted = record { event = Lost session; reply = None; undone = undone } })))
