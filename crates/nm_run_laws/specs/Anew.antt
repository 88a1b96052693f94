-- What a manager that starts anew goes on from (this project's own).
use Rattle.std.specs.Prelude.{◌≡◌, ◌⊎◌, ℕ, List}
use Rattle.nm_proto.specs.Content.{Meaning}
use Rattle.nm_proto.specs.declared.journal.Entry.{Entry}
use Rattle.nm_proto.specs.declared.plan.ChangePlan.{ChangePlan}
use Rattle.nm_proto.specs.declared.plan.Event.{Event}
use Rattle.nm_proto.specs.declared.plan.Event.TheVariants.{Crash}
use Rattle.nm_journal.specs.Fits.{ReadsAs}
use Rattle.nm_manager.specs.Manager.{start_anew}
use Rattle.nm_world.specs.World.{Setting, CoreState, elementary}

-- what stands where the manager starts anew and reads these entries: of what was known nothing is left
abbrev pub started_from : {Config Node : Type 0} → List ChangePlan → CoreState Config Node → List Entry → CoreState Config Node
started_from plans w entries = record w { entries = entries; slots = start_anew entries 1 plans w.slots }

-- a manager that starts anew from these bytes, which a crash left during an event, goes on as the world does after a crash: as if the event had
-- not come, or as if it had
pub record GoesOnFrom {Config TheEdit Node : Type 0} (m : Meaning Config TheEdit Node) (setting : Setting TheEdit) (w : CoreState Config Node)
    (event : Event) (image : List ℕ) : Type 0 where
  pub entries : List Entry
  pub reads : ReadsAs entries image
  pub anew : (started_from setting.plans w entries ≡ (elementary m setting w Crash).after)
      ⊎ (started_from setting.plans w entries ≡ (elementary m setting (elementary m setting w event).after Crash).after)
