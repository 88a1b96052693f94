-- What a crash leaves of a journal's disk in which nothing stood, from one part of a run to the whole.
use Rattle.std.proofs.Common.{◌≡◌, ℕ, List, [], map, Option, Some, None, Result, Ok, IsSome, IfSome, unwrap_or, refl, sym, subst, arith, inl}
use Rattle.nm_disk.specs.Image.{DiskState, AnyMoment, LeavesOnly}
use Rattle.nm_disk.specs.Moments.{and_then, weaker}
use Rattle.nm_proto.specs.declared.journal.Entry.{Entry}
use Rattle.nm_journal.specs.Fits.{Fits, ReadsAs}
use Rattle.nm_scenario.specs.declared.scenario.Scenario.{Scenario}
use Rattle.nm_scenario.specs.declared.scenario.Body.TheVariants.{Flat, Yang}
use Rattle.nm_scenario.specs.Scenario.{ReadsBytes}
use Rattle.nm_scenario.proofs.Whole.{one_of_bytes}
use Rattle.nm_scenario_form.specs.declared.fault.Fault.{Fault}
use Rattle.nm_flat.specs.FlatContent.{flat_meaning}
use Rattle.nm_content.specs.Meaning.{lifted, yang_meaning}
use Rattle.nm_world.specs.Runs.{GoesOnAs, IsBetween}
use Rattle.nm_console.specs.Console.{LeavesSoFar, LeavesSoFarBy, LeavesSoFarOf, entries_by, world_of}

-- nothing was written, or these entries are to come
goes : (entries : List Entry) → GoesOnAs [] entries
goes entries = record { more = entries; is = refl }

still : GoesOnAs [] []
still = record { more = []; is = refl }

-- an image without entries is one of the entries so far
none_yet : (entries : List Entry) (image : List ℕ) → ReadsAs [] image → IsBetween [] entries image
none_yet entries image reads = record { so_far = []; reads = reads; began = still; goes_on = goes entries }

-- and so is an image that holds nothing
nothing_yet : (entries : List Entry) (image : List ℕ) → image ≡ [] → IsBetween [] entries image
nothing_yet entries image is = none_yet entries image (subst (ReadsAs []) (sym is) refl)

abbrev OnlyNow : DiskState → Type 0
OnlyNow disk = (image : List ℕ) → disk.images_since disk.moment image → disk.crash_images image

-- the disk isn't touched
pub untouched : (disk : DiskState) (P : List ℕ → Type 0) → OnlyNow disk → ((image : List ℕ) → disk.crash_images image → P image) → AnyMoment disk disk P
untouched disk P only holds = record {
  later = omega arith;
  each = λ image left. holds image (only image left);
  before = λ start image le left. inl left;
}

-- nothing is run over a disk that holds nothing
pub not_run : (disk : DiskState) (entries : List Entry) → OnlyNow disk → LeavesOnly [] disk → AnyMoment disk disk (IsBetween [] entries)
not_run disk entries only empty = untouched disk (IsBetween [] entries) only (λ image left. nothing_yet entries image (empty image left))

-- no event came over a journal without entries
pub not_begun : (disk : DiskState) (entries : List Entry) → OnlyNow disk → IsSome disk.contents → Fits (record { entries = []; failed = None }) disk
    → AnyMoment disk disk (IsBetween [] entries)
not_begun disk entries only there fits = untouched disk (IsBetween [] entries) only (λ image left. none_yet entries image (fits there image left).reads)

-- the journal was opened, or wasn't
pub opened_so : (old new : DiskState) (entries : List Entry) → AnyMoment old new (ReadsAs []) → AnyMoment old new (IsBetween [] entries)
opened_so old new entries moments = weaker old new (ReadsAs []) (IsBetween [] entries) (none_yet entries) moments

-- it was opened, and a run came
pub run_so : (old mid new : DiskState) (entries : List Entry) → AnyMoment old mid (ReadsAs []) → AnyMoment mid new (IsBetween [] entries)
    → AnyMoment old new (IsBetween [] entries)
run_so old mid new entries first second = and_then old mid new (IsBetween [] entries) (opened_so old mid entries first) second

-- the entries of a scenario are those of its world
pub flat_so : (s : Scenario) (devices : _) (edits : _) (old new : DiskState) → s.body ≡ Flat devices edits
    → AnyMoment old new (IsBetween [] (world_of flat_meaning devices edits s).entries)
    → AnyMoment old new (LeavesSoFar (Ok s))
flat_so s devices edits old new is moments =
    subst (λ body. AnyMoment old new (IsBetween [] (unwrap_or (entries_by [] body s) []))) (sym is) moments

pub yang_so : (s : Scenario) (modules : _) (tree : _) (devices : _) (edits : _) (old new : DiskState) → s.body ≡ Yang modules tree devices edits
    → AnyMoment old new (IsBetween [] (world_of (yang_meaning tree) (map lifted devices) edits s).entries)
    → AnyMoment old new (LeavesSoFar (Ok s))
yang_so s modules tree devices edits old new is moments =
    subst (λ body. AnyMoment old new (IsBetween [] (unwrap_or (entries_by [] body s) []))) (sym is) moments

-- what is left of what bytes are read as is left of the bytes
pub read_so : (bytes : List ℕ) (given : Result Scenario Fault) (old new : DiskState) → ReadsBytes bytes given → AnyMoment old new (LeavesSoFar given)
    → AnyMoment old new (LeavesSoFarBy bytes)
read_so bytes given old new is moments =
    weaker old new (LeavesSoFar given) (LeavesSoFarBy bytes) (λ image so_far outcome reads. subst (λ o. LeavesSoFar o image) (one_of_bytes bytes given outcome is reads) so_far) moments

-- what is left is that of the bytes of the input
pub input_so : (left : Option (List ℕ)) (bytes : List ℕ) (old new : DiskState) → IfSome left (λ held. held ≡ bytes)
    → AnyMoment old new (LeavesSoFarBy bytes) → AnyMoment old new (LeavesSoFarOf left)
input_so left bytes old new held moments =
    weaker old new (LeavesSoFarBy bytes) (LeavesSoFarOf left) (λ image so_far. record { bytes = bytes; held = held; so_far = so_far }) moments

held_by : (left : Option (List ℕ)) → IfSome left (λ told. told ≡ unwrap_or left [])
held_by None = tt
held_by (Some told) = refl

-- the input wasn't read whole
pub not_read : (left : Option (List ℕ)) (disk : DiskState) → OnlyNow disk → LeavesOnly [] disk
    → AnyMoment disk disk (LeavesSoFarOf left)
not_read left disk only empty =
    untouched disk (LeavesSoFarOf left) only
    (λ image now. record { bytes = unwrap_or left []; held = held_by left; so_far = λ outcome reads. nothing_yet _ image (empty image now) })
