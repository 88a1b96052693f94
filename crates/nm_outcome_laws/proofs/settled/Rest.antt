-- A world that is at rest has ended every change set that was submitted, and has nothing unsettled where ends are as they are recorded.
use Rattle.std.proofs.Common.{◌≡◌, ◌≢◌, ◌∙◌, ◌⊎◌, inl, inr, ℕ, zero, suc, ◌+◌, ◌-◌, ◌≤◌, ◌<◌, Bool, true, false, cond, not, ◌&&◌, ◌||◌, List, [], ◌∷◌, ◌++◌, length, find, get_or, Option, Some, None, option_and_then, slice_get, refl, sym, ap, subst, arith}
use Rattle.std.proofs.lemmas.Option.{slice_get_cases}
use Rattle.nm_base.specs.declared.mask.DeviceMask.{DeviceMask}
use Rattle.nm_base.specs.Token.{token_of}
use Rattle.nm_proto.specs.declared.journal.Entry.{Entry}
use Rattle.nm_proto.specs.declared.journal.Entry.TheVariants.{Started, Decided, Ended}
use Rattle.nm_proto.specs.declared.plan.ChangePlan.{ChangePlan}
use Rattle.nm_proto.specs.declared.plan.Event.{Event}
use Rattle.nm_proto.specs.Content.{Meaning, Laws}
use Rattle.nm_history.specs.declared.outcome.Outcome.{Outcome}
use Rattle.nm_history.specs.declared.outcome.Outcome.TheVariants.{Never, Pending, Confirmed, Undone}
use Rattle.nm_history.specs.Outcome.{is_pending, outcome_of}
use Rattle.nm_history.specs.History.{RecordedState}
use Rattle.nm_journal.specs.Entries.{ends}
use Rattle.nm_recovery.specs.Recovery.{is_ended_in, is_started, kept_of}
use Rattle.nm_manager.specs.Manager.{ManagerState, wire_in}
use Rattle.nm_world.specs.World.{Setting, WorldState, core_of, manager_in, run, start}
use Rattle.nm_world.specs.Drain.{drain_event, drained}
use Rattle.nm_world.specs.Report.{each_from, has_undelivered, pair_if, report_of, unsettled_at, unsettles, unsettling}
use Rattle.nm_safety.specs.Safe.{IsProper}
use Rattle.nm_safety.proofs.Basics.{never}
use Rattle.nm_safety.proofs.Drained.{drained_too}
use Rattle.nm_rest_laws.specs.Steady.{IsAble}
use Rattle.nm_rest_laws.proofs.rest.Running.{run_orderly}
use Rattle.nm_commit_laws.specs.Marks.{ArePlain, AreUnmarked}
use Rattle.nm_outcome_laws.specs.Records.{EndsAsRecorded}
use Rattle.nm_outcome_laws.specs.Settled.{IsAtRest}
use Rattle.nm_outcome_laws.proofs.records.Whole.{drained_ends_so}
use Rattle.nm_outcome_laws.proofs.settled.Numbered.{NumberedIn, run_numbered}
use Rattle.nm_outcome_laws.proofs.settled.Queue.{all_ended, some_then}
use Rattle.nm_outcome_laws.proofs.settled.Closed.{AllReady, HasReady, IsOver, none_undelivered, rest_over}

-- ---- the end of a change set stands in an entry

-- it names who kept it
abbrev HasKept : Option Entry → Type 0
HasKept found = (kept : DeviceMask) × (option_and_then kept_of found ≡ Some kept)

kept_by : (b any : Bool) (change : ℕ) (kept : DeviceMask) (rest : Option Entry) → (any ≡ true → HasKept rest) → (b || any) ≡ true
    → HasKept (cond b (Some (Ended change kept)) rest)
kept_by true any change kept rest later h = (kept, refl)
kept_by false any change kept rest later h = later h

kept_of_end : (change : ℕ) (entries : List Entry) → is_ended_in change entries ≡ true → HasKept (find (ends change) entries)
kept_of_end change [] h = never h
kept_of_end change (Started other devices timeout ∷ entries) h = kept_of_end change entries h
kept_of_end change (Decided other verdict ∷ entries) h = kept_of_end change entries h
kept_of_end change (Ended other kept ∷ entries) h =
    kept_by (ends change (Ended other kept)) (is_ended_in change entries) other kept (find (ends change) entries) (kept_of_end change entries) h

-- ---- nothing is reported

none_each : {A : Type 0} (give : ℕ → List A) (number count : ℕ) → ((at : ℕ) → number ≤ at → at < number + count → give at ≡ []) → each_from give number count ≡ []
unfolding each_from
none_each give number zero all = refl
none_each give number (suc count) all =
    ap (λ l. l ++ each_from give (number + 1) count) (all number (omega arith) (omega arith))
    ∙ none_each give (number + 1) count (λ at low high. all at (omega (arith, low)) (omega (arith, high)))

isnt_pending : (outcome : Outcome) → outcome ≢ Pending → is_pending outcome ≡ false
isnt_pending Never ne = refl
isnt_pending Pending ne = absurd (ne refl)
isnt_pending Confirmed ne = refl
isnt_pending (Undone by) ne = refl

quiet : (started pending awaits : Bool) → (started ≡ true → pending ≡ false) → awaits ≡ false → (started && not (not pending && not awaits)) ≡ false
quiet false pending awaits p a = refl
quiet true pending awaits p a = settles pending awaits (p refl) a
  where
    settles : (pending awaits : Bool) → pending ≡ false → awaits ≡ false → not (not pending && not awaits) ≡ false
    settles false false p a = refl
    settles false true p a = a
    settles true awaits p a = absurd (let f : true ≡ false = p in cc)

module _ {Config TheEdit Node : Type 0} (setting : Setting TheEdit) (w : WorldState Config Node) (over : IsOver setting w) (current : AllReady w)
    (ended : (change : ℕ) → is_started change w.entries ≡ true → is_ended_in change w.entries ≡ true) (ends_so : EndsAsRecorded setting w) where
  abbrev state : ManagerState
  state = manager_in (core_of w)

  over_at : (change device place : ℕ) (plan : ChangePlan) (r : RecordedState Config Node) → suc place ≡ change → slice_get setting.plans place ≡ Some plan
      → slice_get w.devices (device - 1) ≡ Some r → is_started change w.entries ≡ true → outcome_of (token_of change) r.history ≢ Pending
  over_at change device place plan r number planned here started =
      let is_over : is_ended_in (suc place) w.entries ≡ true = subst (λ n. is_ended_in n w.entries ≡ true) (sym number) (ended change started) in
      let kept = kept_of_end (suc place) w.entries is_over in
      subst (λ n. outcome_of (token_of n) r.history ≢ Pending) number
      (ends_so.over place plan kept.0 (record { planned = planned; recorded = kept.1 }) (device - 1) r here)

  not_pending : (change device : ℕ) (r : RecordedState Config Node) → 1 ≤ change → change ≤ length setting.plans → slice_get w.devices (device - 1) ≡ Some r
      → is_started change w.entries ≡ true → is_pending (outcome_of (token_of change) r.history) ≡ false
  not_pending change device r low high here started = by_plan (slice_get_cases setting.plans (change - 1)).1
    where
      by_plan : ((x : ChangePlan) × (change - 1 < length setting.plans) × (slice_get setting.plans (change - 1) ≡ Some x) × (get_or setting.plans (change - 1) x ≡ x))
          ⊎ ((length setting.plans ≤ change - 1) × (slice_get setting.plans (change - 1) ≡ None))
          → is_pending (outcome_of (token_of change) r.history) ≡ false
      by_plan (inl found) =
          isnt_pending (outcome_of (token_of change) r.history) (over_at change device (change - 1) found.0 r (omega (arith, low)) found.2 here started)
      by_plan (inr none) = absurd (let past = none.0 in omega (arith, low, high, past))

  not_unsettled : (change device : ℕ) → 1 ≤ change → change ≤ length setting.plans → 1 ≤ device → device ≤ length w.devices
      → (found : Option (RecordedState Config Node)) → slice_get w.devices (device - 1) ≡ found → unsettles state change device found ≡ false
  not_unsettled change device low high first last None here = refl
  not_unsettled change device low high first last (Some r) here =
      quiet (is_started change w.entries) (is_pending (outcome_of (token_of change) r.history)) (has_undelivered r (wire_in state change device))
      (not_pending change device r low high here)
      (none_undelivered setting w over current change device r low high first last here)

  none_at_pair : (change device : ℕ) → 1 ≤ change → change ≤ length setting.plans → 1 ≤ device → device ≤ length w.devices → unsettled_at w.devices state change device ≡ []
  unfolding unsettled_at
  none_at_pair change device low high first last =
      ap (λ test. pair_if test change device) (not_unsettled change device low high first last (slice_get w.devices (device - 1)) refl)

  none_of_change : (change : ℕ) → 1 ≤ change → change ≤ length setting.plans → unsettling w.devices state change ≡ []
  unfolding unsettling
  none_of_change change low high =
      none_each (unsettled_at w.devices state change) 1 (length w.devices) (λ device first last. none_at_pair change device low high first (omega (arith, last)))

  pub none_unsettled : (report_of setting w).unsettled ≡ []
  none_unsettled = none_each (unsettling w.devices state) 1 (length setting.plans) (λ change low high. none_of_change change low (omega (arith, high)))

-- ---- every run

module _ {Config TheEdit Node : Type 0} (m : Meaning Config TheEdit Node) (setting : Setting TheEdit) where
  -- what is used of a world
  pub record Goes (w : WorldState Config Node) : Type 0 where
    pub numbered : NumberedIn m setting w
    pub current : AllReady w

  rests_so : (w : WorldState Config Node) → Goes w → (ArePlain m setting → EndsAsRecorded setting w) → drain_event setting w ≡ None → IsAtRest m setting w
  rests_so w goes ends_so e =
      let over : IsOver setting w = rest_over setting w e in
      let ended = all_ended (length setting.plans) w.entries over.ready goes.numbered in
      record { over = e; ended = ended; settled = λ plain. none_unsettled setting w over goes.current ended (ends_so plain) }

module _ {Config TheEdit Node : Type 0} (m : Meaning Config TheEdit Node) (laws : Laws m) (setting : Setting TheEdit) (running : List Config)
    (events : List Event) (steps : ℕ) where
  ready_so : (before : List Event) → IsProper {Node = Node} m setting running before → AllReady (run m setting (start setting running) before)
  ready_so before may place =
      let w : WorldState Config Node = run m setting (start setting running) before in
      some_then (IsAble (suc place) w.entries) (HasReady w.entries (suc place)) (slice_get w.slots place) (λ slot able. able.ready)
      ((run_orderly m laws setting running before may).able place)

  goes_when_drained : IsProper {Node = Node} m setting running events → Goes m setting (drained m setting steps (run m setting (start setting running) events))
  goes_when_drained proper =
      drained_too m laws setting running (Goes m setting)
      (λ before may. record { numbered = run_numbered m setting running before may.given; current = ready_so before may }) events steps proper

  pub drained_settles : IsProper {Node = Node} m setting running events → AreUnmarked m running
      → drain_event setting (drained m setting steps (run m setting (start setting running) events)) ≡ None
      → IsAtRest m setting (drained m setting steps (run m setting (start setting running) events))
  drained_settles proper unmarked e =
      rests_so m setting (drained m setting steps (run m setting (start setting running) events)) (goes_when_drained proper)
      (λ plain. drained_ends_so m laws setting running events steps proper plain unmarked) e
