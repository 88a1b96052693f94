-- The marks of a device tell what has become of change sets there (this project's own, over RFC 6241 sections 8.3 and 8.4).
use Rattle.std.specs.Prelude.{◌≡◌, ℕ, List, Bool, true, false, Some, None, IfSome, slice_get}
use Rattle.std.specs.List.{All}
use Rattle.nm_base.specs.Token.{token_of}
use Rattle.nm_proto.specs.declared.plan.ChangePlan.{ChangePlan}
use Rattle.nm_proto.specs.Content.{Meaning}
use Rattle.nm_history.specs.declared.outcome.Outcome.{Outcome}
use Rattle.nm_history.specs.declared.outcome.Outcome.TheVariants.{Never, Pending, Confirmed, Undone}
use Rattle.nm_history.specs.Outcome.{outcome_of}
use Rattle.nm_history.specs.History.{RecordedState}
use Rattle.nm_world.specs.World.{Setting, WorldState}

-- the change set is at the device, for good or until it is undone
abbrev pub is_there : Outcome → Bool
is_there Never = false
is_there Pending = true
is_there Confirmed = true
is_there (Undone by) = false

-- ---- what a plain scenario has

-- no edit that a change set plans names a mark
abbrev pub ArePlain : {Config Edit Node : Type 0} → Meaning Config Edit Node → Setting Edit → Type 0
ArePlain m setting = (place : ℕ) (plan : ChangePlan) → slice_get setting.plans place ≡ Some plan
    → All (λ planned. IfSome (slice_get setting.tables.edits planned.edit.0) m.is_plain) plan.edits

-- no device begins with a mark
abbrev pub AreUnmarked : {Config Edit Node : Type 0} → Meaning Config Edit Node → List Config → Type 0
AreUnmarked {Config} m running = (place : ℕ) (first : Config) → slice_get running place ≡ Some first → (n : ℕ) → m.has_mark first n ≡ false

-- ---- what marks tell

module _ {Config Edit Node : Type 0} (m : Meaning Config Edit Node) where
  -- of a device with its history
  pub record TellsMarks (r : RecordedState Config Node) : Type 0 where
    -- a mark in running is that of a change set that is there
    pub there : (n : ℕ) → m.has_mark r.device.stores.running n ≡ true → is_there (outcome_of (token_of n) r.history) ≡ true
    -- where nothing is pending, of one that is there for good
    pub for_good : r.device.pending ≡ None → (n : ℕ) → m.has_mark r.device.stores.running n ≡ true
        → outcome_of (token_of n) r.history ≡ Confirmed
    -- and so is a mark in what running was before what is pending, to which an undoing leads back (RFC 6241 section 8.4.1)
    pub before : IfSome r.device.pending (λ p. (n : ℕ) → m.has_mark p.before n ≡ true → outcome_of (token_of n) r.history ≡ Confirmed)

  -- so at each device of a world
  abbrev pub MarksTell : WorldState Config Node → Type 0
  MarksTell w = (place : ℕ) (r : RecordedState Config Node) → slice_get w.devices place ≡ Some r → TellsMarks r
