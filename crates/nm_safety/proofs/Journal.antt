-- What a course decides may come into the journal.
use Rattle.std.proofs.Common.{◌≡◌, ◌∙◌, ℕ, Bool, true, false, not, ◌&&◌, ◌||◌, cond, List, [], ◌∷◌, find, Option, Some, None, IfSome, option_and_then, refl, sym, ap}
use Rattle.std.specs.List.{list_any}
use Rattle.nm_base.specs.declared.mask.DeviceMask.{DeviceMask}
use Rattle.nm_proto.specs.declared.journal.AbortCause.{AbortCause}
use Rattle.nm_proto.specs.declared.journal.Verdict.{Verdict}
use Rattle.nm_proto.specs.declared.journal.Verdict.TheVariants as verdict
use Rattle.nm_proto.specs.declared.journal.Entry.{Entry}
use Rattle.nm_proto.specs.declared.journal.Entry.TheVariants.{Started, Decided, Ended}
use Rattle.nm_journal.specs.Entries.{starts, decides, has_named, starts_with, verdict_has_record, may_follow}
use Rattle.nm_journal.specs.Record.{is_change}
use Rattle.nm_recovery.specs.Recovery.{devices_of, devices_in}
use Rattle.nm_manager.specs.Slot.{SlotState}
use Rattle.nm_safety.specs.Step.{IsInStep, is_recorded}
use Rattle.nm_safety.proofs.Basics.{never}

both_of : (a b : Bool) → (a && b) ≡ true → (a ≡ true) × (b ≡ true)
both_of true b h = (refl, h)
both_of false b h = never h

all_of : (a b c d : Bool) → a ≡ true → b ≡ true → c ≡ true → d ≡ false → ((a && b) && (c && not d)) ≡ true
all_of true true true false ha hb hc hd = refl
all_of false b c d ha hb hc hd = never ha
all_of true false c d ha hb hc hd = never hb
all_of true true false d ha hb hc hd = never hc
all_of true true true true ha hb hc hd = absurd (let e : true ≡ false = hd in cc)

or_left : (a b : Bool) → a ≡ true → (a || b) ≡ true
or_left true b h = refl
or_left false b h = never h

or_right : (a b : Bool) → b ≡ true → (a || b) ≡ true
or_right true b h = refl
or_right false b h = h

-- an entry that starts a change set for devices among which the named one is
names_here : (change : ℕ) (v : Verdict) (mask : DeviceMask) (entry : Entry) → starts change entry ≡ true → devices_of entry ≡ Some mask → has_named mask.0 v ≡ true → starts_with change v entry ≡ true
names_here change v mask (Started other devices timeout) s d n =
    let same : devices ≡ mask = cc in
    ap (λ b. b && has_named devices.0 v) s ∙ ap (λ m. has_named m.0 v) same ∙ n
names_here change v mask (Decided other decided) s d n = never s
names_here change v mask (Ended other kept) s d n = never s

names_first : (change : ℕ) (v : Verdict) (mask : DeviceMask) (entry : Entry) (entries : List Entry) (b : Bool) → starts change entry ≡ b → has_named mask.0 v ≡ true
    → (devices_in change entries ≡ Some mask → list_any (starts_with change v) entries ≡ true)
    → option_and_then devices_of (cond b (Some entry) (find (starts change) entries)) ≡ Some mask → list_any (starts_with change v) (entry ∷ entries) ≡ true
names_first change v mask entry entries true s n rest d = or_left (starts_with change v entry) (list_any (starts_with change v) entries) (names_here change v mask entry s d n)
names_first change v mask entry entries false s n rest d = or_right (starts_with change v entry) (list_any (starts_with change v) entries) (rest d)

names_in : (change : ℕ) (v : Verdict) (mask : DeviceMask) (entries : List Entry) → has_named mask.0 v ≡ true → devices_in change entries ≡ Some mask → list_any (starts_with change v) entries ≡ true
names_in change v mask [] n d = absurd (let e : None ≡ Some mask = d in cc)
names_in change v mask (entry ∷ entries) n d = names_first change v mask entry entries (starts change entry) refl n (names_in change v mask entries n) d

follows : (change : ℕ) (v : Verdict) (mask : DeviceMask) (entries : List Entry) → is_change change ≡ true → verdict_has_record v ≡ true → has_named mask.0 v ≡ true → devices_in change entries ≡ Some mask
    → list_any (decides change) entries ≡ false → may_follow entries (Decided change v) ≡ true
follows change v mask entries c r n d first =
    all_of (is_change change) (verdict_has_record v) (list_any (starts_with change v) entries) (list_any (decides change) entries) c r (names_in change v mask entries n d) first

pub commit_follows : (change : ℕ) (mask : DeviceMask) (entries : List Entry) → is_change change ≡ true → devices_in change entries ≡ Some mask → list_any (decides change) entries ≡ false
    → may_follow entries (Decided change verdict.Commit) ≡ true
commit_follows change mask entries c d first = follows change verdict.Commit mask entries c refl refl d first

noted_is : (devices : ℕ) (trouble : Option AbortCause) (why : AbortCause) → trouble ≡ Some why → IfSome trouble (λ one. is_recorded devices one ≡ true) → is_recorded devices why ≡ true
noted_is devices None why e h = absurd (let g : None ≡ Some why = e in cc)
noted_is devices (Some one) why e h = let same : one ≡ why = cc in ap (is_recorded devices) (sym same) ∙ h

pub abort_follows : (change : ℕ) (mask : DeviceMask) (entries : List Entry) (slot : SlotState) (why : AbortCause) → IsInStep change mask.0 entries slot → slot.course.trouble ≡ Some why
    → is_change change ≡ true → devices_in change entries ≡ Some mask → list_any (decides change) entries ≡ false → may_follow entries (Decided change (verdict.Abort why)) ≡ true
abort_follows change mask entries slot why in_step noted c d first =
    let recorded = both_of (has_named mask.0 (verdict.Abort why)) (verdict_has_record (verdict.Abort why)) (noted_is mask.0 slot.course.trouble why noted in_step.trouble) in
    follows change (verdict.Abort why) mask entries c recorded.1 recorded.0 d first
