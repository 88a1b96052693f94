-- Where a change set that was to be committed is ended, it is over at its devices, and kept by just those where it is confirmed.
use Rattle.std.proofs.Common.{◌≡◌, ◌∙◌, ℕ, zero, suc, ◌+◌, ◌-◌, ◌<◌, ◌==◌, min, Bool, true, false, cond, List, [], ◌∷◌, ◌++◌, length, find, Option, Some, None, IfSome, is_some, option_and_then, slice_get, slice_set, bit_and, refl, sym, ap, subst, arith}
use Rattle.std.specs.Int.{bit_at}
use Rattle.std.specs.Option.{option_or}
use Rattle.std.proofs.lemmas.Bool.Decides.{nat_tests}
use Rattle.std.proofs.lemmas.List.Folds.{find-append}
use Rattle.std.proofs.lemmas.Nat.Bits.{bit_at-lt, bit_at_and}
use Rattle.std.proofs.lemmas.Option.{none-some, same_Some}
use Rattle.nm_base.specs.declared.mask.DeviceMask.{DeviceMask}
use Rattle.nm_base.specs.Mask.{mask_contains}
use Rattle.nm_proto.specs.declared.journal.Entry.{Entry}
use Rattle.nm_proto.specs.declared.journal.Entry.TheVariants.{Started, Decided, Ended}
use Rattle.nm_proto.specs.declared.journal.Verdict.TheVariants as verdict
use Rattle.nm_proto.specs.declared.plan.ChangePlan.{ChangePlan}
use Rattle.nm_proto.specs.declared.plan.Event.{Event}
use Rattle.nm_proto.specs.Content.{Meaning}
use Rattle.nm_proto.specs.Plan.{devices_in}
use Rattle.nm_journal.specs.Entries.{ends, is_within}
use Rattle.nm_history.specs.declared.event.DeviceEvent.{DeviceEvent}
use Rattle.nm_history.specs.declared.event.DeviceEvent.TheVariants.{Entered, Asked, Lost, Advanced, Restarted}
use Rattle.nm_history.specs.declared.outcome.Outcome.{Outcome}
use Rattle.nm_history.specs.Outcome.{is_final}
use Rattle.nm_history.specs.History.{Happened, RecordedState, advancing, recorded_with, restarting}
use Rattle.nm_recovery.specs.Recovery.{is_ended_in, kept_in, kept_of, verdict_in}
use Rattle.nm_decider.specs.declared.course.NextAction.TheVariants as next
use Rattle.nm_decider.specs.declared.seat.Seat.{Seat}
use Rattle.nm_decider.specs.Course.{next_action, seat_count}
use Rattle.nm_manager.specs.Manager.{change_of, start_of}
use Rattle.nm_manager.specs.Queues.{is_ready_in}
use Rattle.nm_manager.specs.Slot.{SideState, SlotState, to_commit}
use Rattle.nm_world.specs.World.{Setting, Came, CoreState}
use Rattle.nm_safety.specs.Cases.{Cases, IsSlot}
use Rattle.nm_safety.specs.Keeping.{AreKept}
use Rattle.nm_safety.specs.Pair.{is_confirmed}
use Rattle.nm_safety.proofs.Places.{verdict_same}
use Rattle.nm_safety.proofs.PairSteps.{pair_at}
use Rattle.nm_safety.specs.Support.{IsKept, IsSupported}
use Rattle.nm_safety.proofs.Entries.{nat_same, ready_is_open, verdict_stays}
use Rattle.nm_safety.proofs.Lists.{some_is, to_some, down}
use Rattle.nm_safety.proofs.Managed.{kept_here}
use Rattle.nm_outcome_laws.specs.RecordsSupport.{AllKnown, IsRecorded, OfNone, OfRecorded, outcome_in, outcomes_at}
use Rattle.nm_outcome_laws.proofs.records.Entries.{some_ended}
use Rattle.nm_outcome_laws.proofs.records.Finishing.{finishes_final, finishes_so}
use Rattle.nm_outcome_laws.proofs.records.Later.{IsLater, outcomes_later}

-- ---- masks

none_of : (a b : ℕ) → a ≡ min a b → b < 2 → (b == 1) ≡ false → (a == 1) ≡ false
none_of zero b e small other = refl
none_of (suc a) zero e small other = absurd (omega (arith, e))
none_of (suc a) (suc zero) e small other = absurd (let g : true ≡ false = other in cc)
none_of (suc a) (suc (suc b)) e small other = absurd (omega (arith, small))

-- who isn't in a mask is in none within it
pub outside : (kept members d : ℕ) → is_within kept members ≡ true → mask_contains members d ≡ false → mask_contains kept d ≡ false
unfolding mask_contains is_within
outside kept members d within out =
    none_of (bit_at kept (d - 1)) (bit_at members (d - 1))
    (sym (ap (λ n. bit_at n (d - 1)) (number (bit_and kept members) kept within)) ∙ bit_at_and kept members (d - 1))
    (bit_at-lt members (d - 1)) out
  where
    number : (a b : ℕ) → (a == b) ≡ true → a ≡ b
    number a b e = grind (arith, nat_tests)

-- ---- the entry that ends it

last_end : (change : ℕ) (kept : DeviceMask) (entry : Entry) (b : Bool) → ends change entry ≡ b
    → option_and_then kept_of (cond b (Some entry) None) ≡ Some kept → entry ≡ Ended change kept
last_end change kept entry false here e = absurd (none-some kept e)
last_end change kept (Started other devices timeout) true here e = absurd (let g : false ≡ true = here in cc)
last_end change kept (Decided other decided) true here e = absurd (let g : false ≡ true = here in cc)
last_end change kept (Ended other others) true here e =
    ap (λ c. Ended c others) (sym (nat_same change other here)) ∙ ap (Ended change) (same_Some others kept e)

-- the manager is done with a change set, which is ready, and ends it so
record IsEnding {Config Node : Type 0} (w : CoreState Config Node) (change : ℕ) (kept : DeviceMask) : Type 0 where
  slot : SlotState
  there : slice_get w.slots (change - 1) ≡ Some slot
  ready : is_ready_in w.entries change ≡ true
  finishes : next_action slot.course ≡ next.Finish kept

-- ---- a device of a change set that was to be committed and is ended

pub record IsSo (kept : DeviceMask) (d : ℕ) (outcome : Outcome) : Type 0 where
  pub over : is_final outcome ≡ true
  pub same : mask_contains kept.0 (suc d) ≡ is_confirmed outcome

so_later : (kept : DeviceMask) (d : ℕ) (before now : Option Outcome) → IsLater before now → IfSome before (IsSo kept d)
    → IfSome now (IsSo kept d)
so_later kept d before None later so = tt
so_later kept d None (Some now) later so = absurd later
so_later kept d (Some before) (Some now) later so = subst (IsSo kept d) (sym (later so.over)) so

-- each device of each
abbrev pub AllSo : {Config Node : Type 0} → List ChangePlan → List Entry → List (RecordedState Config Node) → Type 0
AllSo plans entries devices = (place : ℕ) (plan : ChangePlan) (kept : DeviceMask) → slice_get plans place ≡ Some plan
    → kept_in (suc place) entries ≡ Some kept → verdict_in (suc place) entries ≡ Some verdict.Commit → (d : ℕ)
    → mask_contains (devices_in plan.edits) (suc d) ≡ true → IfSome (outcomes_at (suc place) devices d) (IsSo kept d)

-- after an event
abbrev pub SoThen : {Config TheEdit Node : Type 0} → Setting TheEdit → Event → Came Config Node → Type 0
SoThen setting event c = AllSo setting.plans c.after.entries c.after.devices

there_within : {A : Type 0} (xs : List A) (i : ℕ) → i < length xs → is_some (slice_get xs i) ≡ true
there_within [] i within = absurd (omega (arith, within))
there_within (x ∷ xs) zero within = refl
there_within (x ∷ xs) (suc i) within = there_within xs i (omega (arith, within))

module _ {Config TheEdit Node : Type 0} (m : Meaning Config TheEdit Node) (setting : Setting TheEdit) (w : CoreState Config Node)
    (s : IsSupported m setting w) (recorded : AreKept setting OfRecorded OfNone w)
    (few : (d : ℕ) → IfSome (slice_get w.devices d) (λ _. d < 32)) (before : AllSo setting.plans w.entries w.devices) where
  -- ---- at the end

  module _ (place : ℕ) (plan : ChangePlan) (planned : slice_get setting.plans place ≡ Some plan) (kept : DeviceMask)
      (e : IsEnding w (suc place) kept) (commit : verdict_in (suc place) w.entries ≡ Some verdict.Commit) where
    abbrev members : ℕ
    members = devices_in plan.edits

    abbrev O : ℕ → Option Outcome
    O = outcomes_at (suc place) w.devices

    k : IsKept (suc place) members w.entries s.owners w.devices e.slot
    k = kept_here m setting w s (suc place) (omega arith) plan e.slot (down setting.plans place ∙ planned) e.there

    all : AllKnown O e.slot
    all =
        (some_is e.slot (IsRecorded (suc place) w.devices) (slice_get w.slots place) (sym (down w.slots place) ∙ e.there)
        (recorded.slots place plan planned)).known

    commits : to_commit e.slot.course.verdict ≡ true
    commits = ap to_commit (k.in_step.decided (ready_is_open w.entries (suc place) e.ready) ∙ commit)

    module _ (d : ℕ) (member : mask_contains members (suc d) ≡ true) (outcome : Outcome) (has : O d ≡ Some outcome) where
      next_is : d + 1 ≡ suc d
      next_is = omega arith

      so_with : (side : SideState) → slice_get e.slot.sides d ≡ Some side → (seat : Option Seat) → slice_get e.slot.course.seats d ≡ seat
          → IsSo kept d outcome
      so_with side there None here = absurd (pair_at (suc place) members w.entries e.slot k.in_step d None (Some side) here there)
      so_with side there (Some seat) here =
          let is_member : seat.is_member ≡ true =
          (pair_at (suc place) members w.entries e.slot k.in_step d (Some seat) (Some side) here there).0.member
          ∙ ap (mask_contains members) next_is ∙ member in
          record {
            over =
                finishes_final O (suc place) members w.entries e.slot k.in_step all commits kept e.finishes d seat here is_member side
                there outcome has;
            same =
                sym (ap (mask_contains kept.0) next_is)
                ∙ finishes_so O (suc place) members w.entries e.slot k.in_step all commits kept e.finishes d seat here is_member side
                there outcome has;
          }

      so_by : (side : Option SideState) → slice_get e.slot.sides d ≡ side → is_some side ≡ true → IsSo kept d outcome
      so_by None there some = absurd (let g : false ≡ true = some in cc)
      so_by (Some side) there some = so_with side there (slice_get e.slot.course.seats d) refl

      within_by : (found : Option (RecordedState Config Node)) → slice_get w.devices d ≡ found → outcome_in (suc place) found ≡ Some outcome
          → d < 32
      within_by None there e = absurd (none-some outcome e)
      within_by (Some r) there e = some_is r (λ _. d < 32) (slice_get w.devices d) there (few d)

      so_now : IsSo kept d outcome
      so_now =
          let within : d < 32 = within_by (slice_get w.devices d) refl has in
          let long : length e.slot.sides ≡ seat_count = k.in_step.sides in
          so_by (slice_get e.slot.sides d) refl (there_within e.slot.sides d (subst (λ n. d < n) (sym long) within))

    ends_so : (d : ℕ) → mask_contains members (suc d) ≡ true → IfSome (O d) (IsSo kept d)
    ends_so d member = to_some (IsSo kept d) (O d) (so_now d member)

  -- ---- an entry comes

  module _ (entry : Entry) (comes : (place : ℕ) (kept : DeviceMask) → Ended (suc place) kept ≡ entry → IsEnding w (suc place) kept) where
    module _ (place : ℕ) (plan : ChangePlan) (kept : DeviceMask) (planned : slice_get setting.plans place ≡ Some plan) where
      abbrev change : ℕ
      change = suc place

      abbrev So : Type 0
      So = (d : ℕ) → mask_contains (devices_in plan.edits) (suc d) ≡ true → IfSome (outcomes_at change w.devices d) (IsSo kept d)

      ended_before : is_ended_in change w.entries ≡ true → kept_in change w.entries ≡ Some kept
          → verdict_in change (w.entries ++ entry ∷ []) ≡ Some verdict.Commit → So
      ended_before ended had commit =
          before place plan kept planned had
          (sym (verdict_stays change w.entries entry ((s.entries change).ended ended)) ∙ commit)

      ends_now : Ended change kept ≡ entry → verdict_in change (w.entries ++ entry ∷ []) ≡ Some verdict.Commit → So
      ends_now is commit =
          ends_so place plan planned kept (comes place kept is)
          (sym (verdict_same change w.entries (Ended change kept) refl)
          ∙ ap (λ one. verdict_in change (w.entries ++ one ∷ [])) is ∙ commit)

      by_found : (found : Option Entry) → find (ends change) w.entries ≡ found
          → option_and_then kept_of (option_or found (find (ends change) (entry ∷ []))) ≡ Some kept
          → verdict_in change (w.entries ++ entry ∷ []) ≡ Some verdict.Commit → So
      by_found None there had commit = ends_now (sym (last_end change kept entry (ends change entry) refl had)) commit
      by_found (Some one) there had commit =
          ended_before (some_ended change w.entries (ap is_some there)) (ap (option_and_then kept_of) there ∙ had) commit

      so_entered : kept_in change (w.entries ++ entry ∷ []) ≡ Some kept
          → verdict_in change (w.entries ++ entry ∷ []) ≡ Some verdict.Commit → So
      so_entered had commit =
          by_found (find (ends change) w.entries) refl
          (sym (ap (option_and_then kept_of) (find-append (ends change) w.entries (entry ∷ []))) ∙ had) commit

    entered : AllSo setting.plans (w.entries ++ entry ∷ []) w.devices
    entered place plan kept planned had commit = so_entered place plan kept planned had commit

  -- it is the end of a change set
  ended_now : (change : ℕ) (a : IsSlot w change) → is_ready_in w.entries change ≡ true → (others : DeviceMask)
      → next_action a.slot.course ≡ next.Finish others → (place : ℕ) (kept : DeviceMask) → Ended (suc place) kept ≡ Ended change others
      → IsEnding w (suc place) kept
  ended_now change a ready others acts place kept e =
      let number : suc place ≡ change = ap change_of e in
      let same : kept ≡ others = same_Some kept others (ap kept_of e) in
      record {
        slot = a.slot;
        there = ap (λ c. slice_get w.slots (c - 1)) number ∙ a.there;
        ready = ap (is_ready_in w.entries) number ∙ ready;
        finishes = acts ∙ ap next.Finish (sym same);
      }

  -- ---- something happens at a device

  happened : (d : ℕ) (r : RecordedState Config Node) → slice_get w.devices d ≡ Some r → (event : DeviceEvent) (h : Happened Config Node)
      → AllSo setting.plans w.entries (slice_set w.devices d (recorded_with r event h))
  happened d r here event h place plan kept planned had commit j member =
      so_later kept j (outcomes_at (suc place) w.devices j) (outcomes_at (suc place) (slice_set w.devices d (recorded_with r event h)) j)
      (outcomes_later (suc place) w.devices d r here event h j) (before place plan kept planned had commit j member)

  -- ---- every event

  pub so_cases : Cases m setting w (SoThen setting)
  so_cases = record {
    nothing = λ event. before;
    starts = λ change numbered plan planned may.
        entered (start_of change plan) (λ place kept e. absurd (let g : Ended (suc place) kept ≡ start_of change plan = e in cc));
    decides = λ change a ready v acts may.
        entered (Decided change v) (λ place kept e. absurd (let g : Ended (suc place) kept ≡ Decided change v = e in cc));
    finishes = λ change a ready others acts may. entered (Ended change others) (ended_now change a ready others acts);
    sends_out = λ change a ready device what acts. before;
    renews_timer = λ change device a known ready. before;
    hears = λ change device link number a known. before;
    breaks_off = λ change device a known. before;
    forgets = λ change a begun going. before;
    crashes = before;
    tells = λ change device link l request out plain session is d. happened (device - 1) l.r l.here (Asked session request) d.h;
    opens = λ change device link l user out d. happened (device - 1) l.r l.here (Entered user) d.h;
    loses_session = λ change device link l opened session is h happens. happened (device - 1) l.r l.here (Lost session) h;
    closes = λ change device link l opened is. before;
    restarts = λ device r here. happened (device - 1) r here Restarted (restarting m r.device);
    passes = λ device seconds r here. happened (device - 1) r here (Advanced seconds) (advancing m r.device seconds);
    asks = λ number device a request plain session given opened d. happened (device - 1) a.r a.here (Asked session request) d.h;
    enters = λ number device a user own free d. happened (device - 1) a.r a.here (Entered user) d.h;
    leaves = λ number device a session given opened h happens. happened (device - 1) a.r a.here (Lost session) h;
  }
