-- A world that is safe is told of as it is.
use Rattle.std.proofs.Common.{◌≡◌, ◌∙◌, ◌⊎◌, inl, inr, ℕ, zero, suc, ◌+◌, ◌-◌, ◌≤◌, ◌<◌, Bool, true, false, not, ◌&&◌, List, [], length, Contains, Option, Some, None, slice_get, refl, sym, ap, subst, arith}
use Rattle.std.proofs.lemmas.Bool.{cases_eq}
use Rattle.std.proofs.lemmas.List.Elements.{Contains-append_left, Contains-append_right, Contains-append_cases, Contains-push, Contains-push_cases}
use Rattle.std.proofs.lemmas.Option.{slice_get_within}
use Rattle.nm_base.specs.Mask.{mask_contains}
use Rattle.nm_base.specs.Token.{token_of}
use Rattle.nm_proto.specs.declared.journal.Verdict.{Verdict}
use Rattle.nm_proto.specs.declared.journal.Verdict.TheVariants.{Commit, Abort}
use Rattle.nm_proto.specs.declared.plan.ChangePlan.{ChangePlan}
use Rattle.nm_proto.specs.declared.plan.Event.{Event}
use Rattle.nm_proto.specs.Content.{Meaning}
use Rattle.nm_proto.specs.Plan.{devices_in}
use Rattle.nm_history.specs.declared.event.Noted.{Noted}
use Rattle.nm_history.specs.declared.outcome.Outcome.{Outcome}
use Rattle.nm_history.specs.declared.outcome.Outcome.TheVariants.{Never, Pending, Confirmed, Undone}
use Rattle.nm_history.specs.declared.outcome.Undoing.{Undoing}
use Rattle.nm_history.specs.Outcome.{outcome_of, is_pending, is_undone}
use Rattle.nm_history.specs.History.{RecordedState}
use Rattle.nm_recovery.specs.Recovery.{is_started, verdict_in}
use Rattle.nm_manager.specs.Slot.{to_commit}
use Rattle.nm_manager.specs.Manager.{ManagerState, wire_in}
use Rattle.nm_safety.proofs.Basics.{never}
use Rattle.nm_world.specs.declared.report.Pair.{Pair}
use Rattle.nm_world.specs.declared.report.Report.{Report}
use Rattle.nm_world.specs.Report.{has_undelivered, each_from, pair_if, differs, differs_at, differing, unsettles, unsettled_at, unsettling, report_of}
use Rattle.nm_world.specs.World.{Setting, WorldState, core_of, manager_in}
use Rattle.nm_safety.specs.Safe.{KeepsDecision, IsSafe, is_unasked}
use Rattle.nm_safety.specs.Reported.{is_there, pair_of, IsTold, IsNamed, TellsAll}

-- ---- what each of some numbers gives

module _ {A : Type 0} (give : ℕ → List A) where
  pub each_has : (number count k : ℕ) (x : A) → number ≤ k → k < number + count → Contains (give k) x → Contains (each_from give number count) x
  unfolding each_from
  each_has number zero k x low high there = absurd (omega (arith, low, high))
  each_has number (suc count) k x low high there = elim (cases_eq number k) [
    | inl same ↦ Contains-append_left (give number) (each_from give (number + 1) count) x (subst (λ n. Contains (give n) x) (sym same) there)
    | inr other ↦ let later = each_has (number + 1) count k x (omega (arith, low, other)) (omega (arith, high)) there in
        Contains-append_right (give number) (each_from give (number + 1) count) x later
  ]

  -- one of them gives it
  pub record Gives (number count : ℕ) (x : A) : Type 0 where
    pub at : ℕ
    pub low : number ≤ at
    pub high : at < number + count
    pub gives : Contains (give at) x

  pub each_of : (number count : ℕ) (x : A) → Contains (each_from give number count) x → Gives number count x
  unfolding each_from
  each_of number zero x there = let none : there.0 < 0 = there.1 in absurd (omega (arith, none))
  each_of number (suc count) x there = elim (Contains-append_cases (give number) (each_from give (number + 1) count) x there) [
    | inl here ↦ record { at = number; low = omega arith; high = omega arith; gives = here }
    | inr later ↦ let found = each_of (number + 1) count x later in
        record { at = found.at; low = omega (arith, found.low); high = omega (arith, found.high); gives = found.gives }
  ]

-- ---- pairs that pass a test

pair_has : (test : Bool) (change device : ℕ) → test ≡ true → Contains (pair_if test change device) (pair_of change device)
pair_has true change device e = Contains-push [] (pair_of change device)
pair_has false change device e = never e

pair_is : (test : Bool) (change device : ℕ) (pair : Pair) → Contains (pair_if test change device) pair → (test ≡ true) × (pair_of change device ≡ pair)
pair_is true change device pair there = elim (Contains-push_cases [] (pair_of change device) pair there) [
  | inl none ↦ let past : none.0 < 0 = none.1 in absurd (omega (arith, past))
  | inr same ↦ (refl, same)
]
pair_is false change device pair there = let past : there.0 < 0 = there.1 in absurd (omega (arith, past))

-- a pair of so many change sets and devices that passes
pub record Passes (test : ℕ → ℕ → Bool) (changes devices : ℕ) (pair : Pair) : Type 0 where
  pub named : IsNamed changes devices pair
  pub passes : test pair.change pair.device ≡ true

module _ (test : ℕ → ℕ → Bool) (rows : ℕ → List Pair) (cells : ℕ → ℕ → List Pair) (changes devices : ℕ)
    (row : (change : ℕ) → rows change ≡ each_from (cells change) 1 devices)
    (cell : (change device : ℕ) → cells change device ≡ pair_if (test change device) change device) where
  -- those that pass are in the list
  pub passing_in : (change device : ℕ) → 1 ≤ change → change ≤ changes → 1 ≤ device → device ≤ devices → test change device ≡ true
      → Contains (each_from rows 1 changes) (pair_of change device)
  passing_in change device c_low c_high d_low d_high passes =
      each_has rows 1 changes change (pair_of change device) c_low (omega (arith, c_high))
      (subst (λ xs. Contains xs (pair_of change device)) (sym (row change))
      (each_has (cells change) 1 devices device (pair_of change device) d_low (omega (arith, d_high))
      (subst (λ xs. Contains xs (pair_of change device)) (sym (cell change device)) (pair_has (test change device) change device passes))))

  passes_at : (change device : ℕ) (pair : Pair) → 1 ≤ change → change < 1 + changes → 1 ≤ device → device < 1 + devices
      → test change device ≡ true → pair_of change device ≡ pair → Passes test changes devices pair
  passes_at change device pair c_low c_high d_low d_high passes same =
      subst (Passes test changes devices) same
      (record {
        named = record { one_change = c_low; last_change = omega (arith, c_high); one_device = d_low; last_device = omega (arith, d_high) };
        passes = passes;
      })

  -- and no others
  pub in_passes : (pair : Pair) → Contains (each_from rows 1 changes) pair → Passes test changes devices pair
  in_passes pair there =
      let one = each_of rows 1 changes pair there in
      let two = each_of (cells one.at) 1 devices pair (subst (λ xs. Contains xs pair) (row one.at) one.gives) in
      let is = pair_is (test one.at two.at) one.at two.at pair (subst (λ xs. Contains xs pair) (cell one.at two.at) two.gives) in
      passes_at one.at two.at pair one.low one.high two.low two.high is.0 is.1

-- ---- one device of a change set

commit_of : (decided : Option Verdict) → to_commit decided ≡ true → decided ≡ Some Commit
commit_of None e = never e
commit_of (Some Commit) e = refl
commit_of (Some (Abort why)) e = never e

both : (a b : Bool) → (a && b) ≡ true → (a ≡ true) × (b ≡ true)
both true b e = (refl, e)
both false b e = never e

one_of : (pending awaits : Bool) → not (not pending && not awaits) ≡ true → (pending ≡ true) ⊎ (awaits ≡ true)
one_of true awaits e = inl refl
one_of false true e = inr refl
one_of false false e = never e

of_one : (submitted pending awaits : Bool) → submitted ≡ true → (pending ≡ true) ⊎ (awaits ≡ true) → (submitted && not (not pending && not awaits)) ≡ true
of_one true true awaits e h = refl
of_one true false true e h = refl
of_one true false false e (inl h) = never h
of_one true false false e (inr h) = never h
of_one false pending awaits e h = never e

committed_undone : (committed undone : Bool) → committed ≡ true → undone ≡ true → (committed && undone) ≡ true
committed_undone true undone c u = u
committed_undone false undone c u = never c

-- it was undone by something
undone_by : (outcome : Outcome) → is_undone outcome ≡ true → (by : Undoing) × (outcome ≡ Undone by)
undone_by Never e = never e
undone_by Pending e = never e
undone_by Confirmed e = never e
undone_by (Undone by) e = (by, refl)

all_have : (outcome : Outcome) → (outcome ≡ Never → ⊥) → (is_pending outcome ≡ true → ⊥) → (is_undone outcome ≡ true → ⊥) → outcome ≡ Confirmed
all_have Never never_ pending undone = absurd (never_ refl)
all_have Pending never_ pending undone = absurd (pending refl)
all_have Confirmed never_ pending undone = refl
all_have (Undone by) never_ pending undone = absurd (undone refl)

none_has : (outcome : Outcome) → (is_pending outcome ≡ true → ⊥) → (outcome ≡ Confirmed → ⊥) → is_there outcome ≡ false
none_has Never pending confirmed = refl
none_has Pending pending confirmed = absurd (pending refl)
none_has Confirmed pending confirmed = absurd (confirmed refl)
none_has (Undone by) pending confirmed = refl

module _ (change : ℕ) (pair : Pair) (decided : Option Verdict) (is_submitted is_device awaits : Bool) (history : List Noted) (report : Report)
    (keeps : KeepsDecision change decided is_device history)
    (differ_in : (to_commit decided && is_undone (outcome_of (token_of change) history)) ≡ true → Contains report.differ pair)
    (in_differ : Contains report.differ pair → (to_commit decided && is_undone (outcome_of (token_of change) history)) ≡ true)
    (unsettled_in : (is_submitted && not (not (is_pending (outcome_of (token_of change) history)) && not awaits)) ≡ true → Contains report.unsettled pair)
    (in_unsettled : Contains report.unsettled pair → (is_submitted && not (not (is_pending (outcome_of (token_of change) history)) && not awaits)) ≡ true) where
  abbrev outcome : Outcome
  outcome = outcome_of (token_of change) history

  told_differs : Contains report.differ pair → (decided ≡ Some Commit) × (is_undone outcome ≡ true)
  told_differs there = let two = both (to_commit decided) (is_undone outcome) (in_differ there) in (commit_of decided two.0, two.1)

  differs_told : (decided ≡ Some Commit) × (is_undone outcome ≡ true) → Contains report.differ pair
  differs_told h = differ_in (committed_undone (to_commit decided) (is_undone outcome) (ap to_commit h.0) h.1)

  told_unsettled : Contains report.unsettled pair → (is_submitted ≡ true) × ((is_pending outcome ≡ true) ⊎ (awaits ≡ true))
  told_unsettled there =
      let two = both is_submitted (not (not (is_pending outcome) && not awaits)) (in_unsettled there) in (two.0, one_of (is_pending outcome) awaits two.1)

  unsettled_told : (is_submitted ≡ true) × ((is_pending outcome ≡ true) ⊎ (awaits ≡ true)) → Contains report.unsettled pair
  unsettled_told h = unsettled_in (of_one is_submitted (is_pending outcome) awaits h.0 h.1)

  told_unasked : Contains report.differ pair → (by : Undoing) × (outcome ≡ Undone by) × (is_unasked by ≡ true)
  told_unasked there =
      let two = told_differs there in
      let undone = undone_by outcome two.1 in
      (undone.0, undone.1, keeps.undone_by_timer_or_restart two.0 undone.0 undone.1)

  pub is_told : IsTold pair decided is_submitted is_device awaits outcome report
  is_told = record {
    differs = (told_differs, differs_told);
    unasked = told_unasked;
    unsettled = (told_unsettled, unsettled_told);
    all = λ commit member begun settled same.
        all_have outcome (keeps.committed_everywhere commit member) (λ e. settled (unsettled_told (begun, inl e))) (λ e. same (differs_told (commit, e)));
    none = λ uncommitted begun settled.
        none_has outcome (λ e. settled (unsettled_told (begun, inl e))) (λ e. uncommitted (keeps.confirmed_only_if_journalled e));
  }

-- ---- the report

module _ {Config Node : Type 0} (devices : List (RecordedState Config Node)) (state : ManagerState) where
  abbrev tests_differ : ℕ → ℕ → Bool
  tests_differ change device = differs (to_commit (verdict_in change state.entries)) change (slice_get devices (device - 1))

  abbrev tests_unsettled : ℕ → ℕ → Bool
  tests_unsettled change device = unsettles state change device (slice_get devices (device - 1))

  abbrev to_differ : ℕ → Bool
  to_differ change = to_commit (verdict_in change state.entries)

  abbrev differ_cells : ℕ → ℕ → List Pair
  differ_cells change = differs_at devices (to_differ change) change

  differ_row : (change : ℕ) → differing devices state.entries change ≡ each_from (differ_cells change) 1 (length devices)
  unfolding differing
  differ_row change = refl

  differ_cell : (change device : ℕ) → differ_cells change device ≡ pair_if (tests_differ change device) change device
  unfolding differs_at
  differ_cell change device = refl

  unsettled_row : (change : ℕ) → unsettling devices state change ≡ each_from (unsettled_at devices state change) 1 (length devices)
  unfolding unsettling
  unsettled_row change = refl

  unsettled_cell : (change device : ℕ) → unsettled_at devices state change device ≡ pair_if (tests_unsettled change device) change device
  unfolding unsettled_at
  unsettled_cell change device = refl

  -- the tests where a device is
  differ_here : (change place : ℕ) (r : RecordedState Config Node) → slice_get devices place ≡ Some r
      → tests_differ change (suc place) ≡ (to_commit (verdict_in change state.entries) && is_undone (outcome_of (token_of change) r.history))
  differ_here change place r here =
      let less : suc place - 1 ≡ place = omega arith in
      ap (λ k. differs (to_commit (verdict_in change state.entries)) change (slice_get devices k)) less
      ∙ ap (differs (to_commit (verdict_in change state.entries)) change) here

  abbrev is_unsettled : ℕ → ℕ → RecordedState Config Node → Bool
  is_unsettled change device r = not (not (is_pending (outcome_of (token_of change) r.history)) && not (has_undelivered r (wire_in state change device)))

  unsettled_here : (change place : ℕ) (r : RecordedState Config Node) → slice_get devices place ≡ Some r
      → tests_unsettled change (suc place) ≡ (is_started change state.entries && is_unsettled change (suc place) r)
  unsettled_here change place r here =
      let less : suc place - 1 ≡ place = omega arith in
      ap (λ k. unsettles state change (suc place) (slice_get devices k)) less ∙ ap (unsettles state change (suc place)) here

module _ {Config TheEdit Node : Type 0} (m : Meaning Config TheEdit Node) (setting : Setting TheEdit) (running : List Config) (events : List Event)
    (w : WorldState Config Node) (safe : IsSafe m setting running events w) where
  abbrev state : ManagerState
  state = manager_in (core_of w)

  abbrev changes : ℕ
  changes = length setting.plans

  abbrev devices : ℕ
  devices = length w.devices

  differ_passes : (pair : Pair) → Contains (report_of setting w).differ pair → Passes (tests_differ w.devices state) changes devices pair
  differ_passes =
      in_passes (tests_differ w.devices state) (differing w.devices w.entries) (differ_cells w.devices state) changes devices (differ_row w.devices state)
      (differ_cell w.devices state)

  unsettled_passes : (pair : Pair) → Contains (report_of setting w).unsettled pair → Passes (tests_unsettled w.devices state) changes devices pair
  unsettled_passes =
      in_passes (tests_unsettled w.devices state) (unsettling w.devices state) (unsettled_at w.devices state) changes devices (unsettled_row w.devices state)
      (unsettled_cell w.devices state)

  differ_has : (change device : ℕ) → 1 ≤ change → change ≤ changes → 1 ≤ device → device ≤ devices → tests_differ w.devices state change device ≡ true
      → Contains (report_of setting w).differ (pair_of change device)
  differ_has =
      passing_in (tests_differ w.devices state) (differing w.devices w.entries) (differ_cells w.devices state) changes devices (differ_row w.devices state)
      (differ_cell w.devices state)

  unsettled_has : (change device : ℕ) → 1 ≤ change → change ≤ changes → 1 ≤ device → device ≤ devices → tests_unsettled w.devices state change device ≡ true
      → Contains (report_of setting w).unsettled (pair_of change device)
  unsettled_has =
      passing_in (tests_unsettled w.devices state) (unsettling w.devices state) (unsettled_at w.devices state) changes devices (unsettled_row w.devices state)
      (unsettled_cell w.devices state)

  -- what is told of a change set at a device
  abbrev ToldOf : ℕ → ChangePlan → ℕ → RecordedState Config Node → Type 0
  ToldOf change plan device r = IsTold (pair_of change device) (verdict_in change w.entries) (is_started change w.entries)
      (mask_contains (devices_in plan.edits) device) (has_undelivered r (wire_in state change device)) (outcome_of (token_of change) r.history)
      (report_of setting w)

  told_at : (place : ℕ) (plan : ChangePlan) (device : ℕ) (r : RecordedState Config Node) → slice_get setting.plans place ≡ Some plan
      → slice_get w.devices device ≡ Some r → ToldOf (suc place) plan (suc device) r
  told_at place plan device r planned here =
      let change = suc place in
      let number = suc device in
      let within : place < changes = slice_get_within setting.plans place plan planned in
      let inside : device < devices = slice_get_within w.devices device r here in
      let differ_is = differ_here w.devices state change device r here in
      let unsettled_is = unsettled_here w.devices state change device r here in
      is_told change (pair_of change number) (verdict_in change w.entries) (is_started change w.entries) (mask_contains (devices_in plan.edits) number)
      (has_undelivered r (wire_in state change number)) r.history (report_of setting w) (safe.keeps_decisions place plan device r planned here)
      (λ e. differ_has change number (omega arith) (omega (arith, within)) (omega arith) (omega (arith, inside)) (differ_is ∙ e))
      (λ there. sym differ_is ∙ (differ_passes (pair_of change number) there).passes)
      (λ e. unsettled_has change number (omega arith) (omega (arith, within)) (omega arith) (omega (arith, inside)) (unsettled_is ∙ e))
      (λ there. sym unsettled_is ∙ (unsettled_passes (pair_of change number) there).passes)

  named : (pair : Pair) → Contains (report_of setting w).differ pair ⊎ Contains (report_of setting w).unsettled pair → IsNamed changes devices pair
  named pair (inl there) = (differ_passes pair there).named
  named pair (inr there) = (unsettled_passes pair there).named

  pub safe_tells : TellsAll setting w
  safe_tells = record { told = told_at; only = named }
