-- The mark of a change set stays where the change set is, until that is ended: no other change set comes to the device meanwhile, whose
-- edit could take it or replace all (this project's own).
use Rattle.std.specs.Prelude.{◌≡◌, ℕ, ◌<◌, ◌^◌, List, [], true, false, Some, slice_get}
use Rattle.nm_base.specs.Token.{token_of}
use Rattle.nm_proto.specs.declared.journal.Entry.{Entry}
use Rattle.nm_proto.specs.Content.{Meaning}
use Rattle.nm_history.specs.declared.event.Noted.{Noted}
use Rattle.nm_history.specs.Outcome.{outcome_of}
use Rattle.nm_history.specs.History.{RecordedState}
use Rattle.nm_recovery.specs.Recovery.{is_ended_in}
use Rattle.nm_device_laws.specs.Token.{is_commit_done}
use Rattle.nm_world.specs.World.{WorldState}
use Rattle.nm_safety.specs.Along.{Along}
use Rattle.nm_commit_laws.specs.Marks.{is_there}
use Rattle.nm_commit_laws.specs.Waits.{then_noted}

module _ (entries : List Entry) (n : ℕ) where
  -- an entry after others: where it brings another change set than this one, and this one is there, this one is ended
  abbrev pub FindsEnded : List Noted → Noted → Type 0
  FindsEnded past entry = (change : ℕ) → change < 2 ^ 32 → is_commit_done (token_of change) entry ≡ true
      → is_commit_done (token_of n) entry ≡ false → is_there (outcome_of (token_of n) past) ≡ true → is_ended_in n entries ≡ true

  -- each entry of a history, after others
  abbrev pub EachFindsEnded : List Noted → List Noted → Type 0
  EachFindsEnded past history = Along then_noted FindsEnded past history

module _ {Config Edit Node : Type 0} (m : Meaning Config Edit Node) where
  -- at the devices of a world. Numbers of change sets have 32 bits
  pub record MarksStay (w : WorldState Config Node) : Type 0 where
    -- change sets come one after another: each finds ended all others that are there
    pub one_by_one : (n : ℕ) → n < 2 ^ 32 → (place : ℕ) (r : RecordedState Config Node) → slice_get w.devices place ≡ Some r
        → EachFindsEnded w.entries n [] r.history
    -- of one that isn't ended, the mark is in running wherever the change set is there
    pub stays : (n : ℕ) → n < 2 ^ 32 → is_ended_in n w.entries ≡ false → (place : ℕ) (r : RecordedState Config Node)
        → slice_get w.devices place ≡ Some r → is_there (outcome_of (token_of n) r.history) ≡ true
        → m.has_mark r.device.stores.running n ≡ true
