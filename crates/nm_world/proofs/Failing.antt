-- Where a turn fails, and where it hasn't begun.
use Rattle.std.proofs.Common.{◌≡◌, ℕ, Bool, List, Option, Some, None, Result, Err, IsSome, ◌⊎◌, inl, inr, sym, ap, ◌∙◌, subst, arith}
use Rattle.nm_disk.specs.Image.{DiskState, AnyMoment}
use Rattle.nm_proto.specs.declared.journal.Entry.{Entry}
use Rattle.nm_journal.specs.Fits.{JournalState, Fits, ReadsAs}
use Rattle.nm_history.specs.History.{RecordedState}
use Rattle.nm_manager.specs.declared.action.Action.{Action}
use Rattle.nm_manager.specs.declared.action.TurnFault.{TurnFault}
use Rattle.nm_manager.specs.declared.action.TurnFault.TheVariants as fault
use Rattle.nm_manager.specs.Manager.{Managing, MayRead, FailsAt}
use Rattle.nm_world.specs.declared.happened.Happened.{Happened}
use Rattle.nm_world.specs.World.{CoreValue, SetupState, Came, ComesOrFails}
use Rattle.nm_world.proofs.Order.{reads_whole}
use Rattle.nm_world.proofs.Staging.{core_value}

reads_may : (entries : List Entry) (entry : Option Entry) (image : List ℕ) → ReadsAs entries image → MayRead entries entry image
reads_may entries None image reads = reads
reads_may entries (Some entry) image reads = inl reads

-- no call
pub nothing_moves : (journal : JournalState) (disk : DiskState) (entry : Option Entry) → journal.failed ≡ None → Fits journal disk
    → ((image : List ℕ) → disk.images_since disk.moment image → disk.crash_images image) → IsSome disk.contents → AnyMoment disk disk (MayRead journal.entries entry)
nothing_moves journal disk entry whole fits only there = record {
  later = omega arith;
  each = λ image left. reads_may journal.entries entry image (reads_whole journal.failed journal.entries image whole (fits there image (only image left)));
  before = λ start image le left. inl left;
}

abbrev Only : Managing → Managing → Managing
Only before after = record before { failed = after.failed; has_failed = after.has_failed }

fails_only : (entry : Option Entry) (before after : Managing) → FailsAt entry before after → after ≡ Only before after
fails_only None before after is = absurd is
fails_only (Some entry) before after is = is ∙ ap (Only before) (sym is)

abbrev Failed : TurnFault → Result Action TurnFault
Failed why = Err why

-- a turn that fails changes nothing but that the journal stopped
turn_only : (why : TurnFault) (entry : Option Entry) (before after : Managing) → (why ≡ fault.NoMemory) ⊎ (why ≡ fault.DiskFault)
    → (Failed why ≡ Failed fault.NoMemory → after ≡ before) → (Failed why ≡ Failed fault.DiskFault → FailsAt entry before after) → after ≡ Only before after
turn_only why entry before after (inl memory) same fails = let is = same (ap Failed memory) in is ∙ ap (Only before) (sym is)
turn_only why entry before after (inr disk) same fails = fails_only entry before after (fails (ap Failed disk))

module _ {TheContent Config TheEdit Node : Type 0} (setup : SetupState TheContent Config TheEdit) (has_diverged : Bool)
    (devices : List (RecordedState Config Node)) (operators : List (List (Option ℕ))) where
  abbrev At : Managing → CoreValue TheContent Config TheEdit Node
  At manager = core_value setup has_diverged manager devices operators

  pub turn_fails : (result : Result Happened TurnFault) (why : TurnFault) (entry : Option Entry) (before after : Managing) (c : Came Config Node) → result ≡ Err why
      → (why ≡ fault.NoMemory) ⊎ (why ≡ fault.DiskFault) → (Failed why ≡ Failed fault.NoMemory → after ≡ before) → (Failed why ≡ Failed fault.DiskFault → FailsAt entry before after)
      → ComesOrFails result (At before) (At after) c
  turn_fails result why entry before after c is other same fails =
      subst (λ r. ComesOrFails r (At before) (At after) c) (sym is) (ap At (turn_only why entry before after other same fails))
