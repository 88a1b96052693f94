-- What a crash leaves is what the world goes on from after a crash.
use Rattle.std.proofs.Common.{◌≡◌, ◌∙◌, ◌⊎◌, inl, inr, ℕ, zero, suc, ◌-◌, Bool, true, false, cond, List, [], ◌∷◌, ◌++◌, map, Option, Some, None, slice_get, slice_set, refl, sym, ap, subst, append_assoc}
use Rattle.nm_proto.specs.Content.{Meaning}
use Rattle.nm_proto.specs.Plan.{devices_in}
use Rattle.nm_proto.specs.declared.journal.Entry.{Entry}
use Rattle.nm_proto.specs.declared.journal.Entry.TheVariants as entries
use Rattle.nm_proto.specs.declared.journal.Verdict.{Verdict}
use Rattle.nm_proto.specs.declared.plan.ChangePlan.{ChangePlan}
use Rattle.nm_proto.specs.declared.plan.Event.{Event}
use Rattle.nm_proto.specs.declared.plan.Event.TheVariants.{Submit, Turn, Crash}
use Rattle.std.proofs.lemmas.Option.{none-some, same_Some}
use Rattle.nm_journal.specs.Entries.{may_follow}
use Rattle.nm_journal.specs.Fits.{ReadsAs}
use Rattle.nm_recovery.specs.Recovery.{verdict_in}
use Rattle.nm_decider.specs.declared.course.NextAction.{NextAction}
use Rattle.nm_decider.specs.declared.course.NextAction.TheVariants as next
use Rattle.nm_decider.specs.Course.{next_action}
use Rattle.nm_manager.specs.Queues.{is_ready_in}
use Rattle.nm_manager.specs.Slot.{SideState, SlotState, anew, cut_off, decided, is_commit, to_commit}
use Rattle.nm_manager.specs.Manager as manager
use Rattle.nm_manager.specs.declared.action.Action.{Action}
use Rattle.nm_manager.specs.declared.action.Action.TheVariants as action
use Rattle.nm_manager.specs.Manager.{ManagerState, Step, acts, decided_by, entry_by, entry_next, entry_of, slot_at, start_anew, start_of, starts_anew, submitted, submitted_by, turned, turned_by, with_entry, with_slot}
use Rattle.nm_world.specs.Runs.{IsBetween}
use Rattle.nm_world.specs.World as world
use Rattle.nm_world.specs.World.{Setting, CoreState, WorldState, by_manager, core_of, elementary, manager_in, world_step}
use Rattle.nm_world.proofs.Growing.{Enters, event_enters}
use Rattle.nm_run_laws.specs.Anew.{GoesOnFrom, started_from}
use Rattle.nm_safety.specs.Support.{IsSupported, KeptAt}

-- ---- lists

cancel : {A : Type 0} (xs ys zs : List A) → xs ++ ys ≡ xs ++ zs → ys ≡ zs
cancel [] ys zs e = e
cancel (x ∷ xs) ys zs e = cancel xs ys zs (tail e)
  where
    tail : {A : Type 0} {x : A} {xs ys : List A} → x ∷ xs ≡ x ∷ ys → xs ≡ ys
    tail e = cc

-- of a list of one, a front is none of it or all
front_of_one : {A : Type 0} (front rest : List A) (x : A) → front ++ rest ≡ x ∷ [] → (front ≡ []) ⊎ (front ≡ x ∷ [])
front_of_one [] rest x e = inl refl
front_of_one (y ∷ []) rest x e = inr (let first : y ≡ x = cc in ap (λ z. z ∷ []) first)
front_of_one (y ∷ z ∷ front) rest x e = absurd (no y z (front ++ rest) x e)
  where
    no : {A : Type 0} (y z : A) (more : List A) (x : A) → y ∷ z ∷ more ≡ x ∷ [] → ⊥
    no y z more x e = absurd (let f : z ∷ more ≡ [] = cc in cc)

front_of_none : {A : Type 0} (front rest : List A) → front ++ rest ≡ [] → front ≡ []
front_of_none [] rest e = refl
front_of_none (y ∷ front) rest e = absurd (let f : y ∷ (front ++ rest) ≡ [] = e in cc)

append_none : {A : Type 0} (xs : List A) → xs ++ [] ≡ xs
append_none [] = refl
append_none (x ∷ xs) = ap (λ l. x ∷ l) (append_none xs)

-- ---- what a decision changes is lost

cut_anew : (commit decision : Bool) (sides : List SideState) → map (cut_off commit) (map (anew decision) sides) ≡ map (cut_off commit) sides
cut_anew commit decision [] = refl
cut_anew commit decision (side ∷ sides) = ap (λ l. cut_off commit side ∷ l) (cut_anew commit decision sides)

decided_lost : (list : List Entry) (change devices : ℕ) (slot : SlotState) (v : Verdict) → starts_anew list change devices (decided slot v) ≡ starts_anew list change devices slot
decided_lost list change devices slot v =
    ap (λ (sides : List SideState). let s : SlotState = record { course = (starts_anew list change devices slot).course; sides = sides } in s)
    (cut_anew (to_commit (verdict_in change list)) (is_commit v) slot.sides)

all_lost : (list : List Entry) (plans : List ChangePlan) (slots : List SlotState) (number place : ℕ) (slot : SlotState) (v : Verdict) (plan : ChangePlan) → slice_get plans place ≡ Some plan
    → slice_get slots place ≡ Some slot → start_anew list number plans (slice_set slots place (decided slot v)) ≡ start_anew list number plans slots
all_lost list [] slots number place slot v plan planned there = absurd (none-some plan planned)
all_lost list (one ∷ plans) [] number place slot v plan planned there = absurd (none-some slot there)
all_lost list (one ∷ plans) (x ∷ slots) number zero slot v plan planned there =
    ap (λ (first : SlotState). first ∷ start_anew list (suc number) plans slots)
    (decided_lost list number (devices_in one.edits) slot v ∙ ap (starts_anew list number (devices_in one.edits)) (sym (same_Some x slot there)))
all_lost list (one ∷ plans) (x ∷ slots) number (suc place) slot v plan planned there =
    ap (λ (rest : List SlotState). starts_anew list number (devices_in one.edits) x ∷ rest) (all_lost list plans slots (suc number) place slot v plan planned there)

-- ---- an entry that is written

module _ (plans : List ChangePlan) (state : ManagerState) (change : ℕ)
    (has_plan : (slot : SlotState) → slice_get state.slots (change - 1) ≡ Some slot → (T : Type 0) → ((plan : ChangePlan) → slice_get plans (change - 1) ≡ Some plan → T) → T) where
  -- what is kept differs in what is lost alone
  abbrev IsLost : ManagerState → Type 0
  IsLost now = (list : List Entry) → start_anew list 1 plans now.slots ≡ start_anew list 1 plans state.slots

  if_lost : (b : Bool) (what : Action) (now : ManagerState) → IsLost now → IsLost (cond b (record { action = what; state = now }) (manager.idle state)).state
  if_lost true what now lost = lost
  if_lost false what now lost = λ list. refl

  submit_lost : (plan : Option ChangePlan) → IsLost (submitted_by state change plan).state
  submit_lost None = λ list. refl
  submit_lost (Some plan) = if_lost (may_follow state.entries (start_of change plan)) action.Started (with_entry state (start_of change plan)) (λ list. refl)

  decide_lost : (v : Verdict) (slot : Option SlotState) → slice_get state.slots (change - 1) ≡ slot → IsLost (decided_by state change v slot).state
  decide_lost v None there = λ list. refl
  decide_lost v (Some slot) there =
      if_lost (may_follow state.entries (entries.Decided change v)) (action.Decided v) (with_slot (with_entry state (entries.Decided change v)) change (decided slot v))
      (λ list.
      has_plan slot there (start_anew list 1 plans (slice_set state.slots (change - 1) (decided slot v)) ≡ start_anew list 1 plans state.slots)
      (λ plan planned. all_lost list plans state.slots 1 (change - 1) slot v plan planned there))

  act_lost : (what : NextAction) (entry : Entry) → entry_of change what ≡ Some entry → IsLost (acts plans state change what).state
  act_lost next.Wait entry is = absurd (none-some entry is)
  act_lost (next.Send device what) entry is = absurd (none-some entry is)
  act_lost (next.Decide v) entry is = decide_lost v (slot_at state change) refl
  act_lost (next.Finish kept) entry is =
      if_lost (may_follow state.entries (entries.Ended change kept)) action.Ended (with_entry state (entries.Ended change kept)) (λ list. refl)

  turned_lost : (slot : Option SlotState) (entry : Entry) → entry_by change slot ≡ Some entry → IsLost (turned_by plans state change slot).state
  turned_lost None entry is = absurd (none-some entry is)
  turned_lost (Some slot) entry is = act_lost (next_action slot.course) entry is

  turn_lost : (b : Bool) (entry : Entry) → cond b (entry_next state change) None ≡ Some entry → IsLost (cond b (turned_by plans state change (slot_at state change)) (manager.idle state)).state
  turn_lost true entry is = turned_lost (slot_at state change) entry is
  turn_lost false entry is = absurd (none-some entry is)

-- ---- what a crash leaves

-- a list between these is the first or the last
between_none : (before so_far after more rest : List Entry) → so_far ≡ before ++ more → after ≡ so_far ++ rest → after ≡ before → so_far ≡ before
between_none before so_far after more rest began goes_on is =
    began ∙ ap (λ l. before ++ l) (front_of_none more rest (sym (cancel before [] (more ++ rest) (append_none before ∙ sym is ∙ goes_on ∙ ap (λ l. l ++ rest) began ∙ append_assoc before more rest))))
    ∙ append_none before

between_one : (before so_far after more rest : List Entry) (entry : Entry) → so_far ≡ before ++ more → after ≡ so_far ++ rest → after ≡ before ++ entry ∷ [] → (so_far ≡ before) ⊎ (so_far ≡ after)
between_one before so_far after more rest entry began goes_on is =
    by_front (front_of_one more rest entry (sym (cancel before (entry ∷ []) (more ++ rest) (sym is ∙ goes_on ∙ ap (λ l. l ++ rest) began ∙ append_assoc before more rest))))
  where
    by_front : (more ≡ []) ⊎ (more ≡ entry ∷ []) → (so_far ≡ before) ⊎ (so_far ≡ after)
    by_front (inl none) = inl (began ∙ ap (λ l. before ++ l) none ∙ append_none before)
    by_front (inr one) = inr (began ∙ ap (λ l. before ++ l) one ∙ sym is)

module _ {Config TheEdit Node : Type 0} (m : Meaning Config TheEdit Node) (setting : Setting TheEdit) (w : CoreState Config Node) (s : IsSupported m setting w) where
  -- each change set of which anything is kept has a plan
  has_plan : (place : ℕ) (slot : SlotState) → slice_get w.slots place ≡ Some slot → (T : Type 0) → ((plan : ChangePlan) → slice_get setting.plans place ≡ Some plan → T) → T
  has_plan place slot there T step = by_plan (slice_get setting.plans place) refl
    where
      by_plan : (plan : Option ChangePlan) → slice_get setting.plans place ≡ plan → T
      by_plan None planned =
          absurd (subst (λ o. KeptAt (suc place) w.entries s.owners w.devices None o) there (subst (λ o. KeptAt (suc place) w.entries s.owners w.devices o (slice_get w.slots place)) planned (s.slots place)))
      by_plan (Some plan) planned = step plan planned

  by_manager_anew : (change : ℕ) (step : Step) → IsLost setting.plans (manager_in w) change (has_plan (change - 1)) step.state
      → started_from setting.plans w step.state.entries ≡ (elementary m setting (by_manager w step).after Crash).after
  by_manager_anew change step lost = ap (λ (slots : List SlotState). record w { entries = step.state.entries; slots = slots }) (sym (lost step.state.entries))

  with_it : (event : Event) (entry : Entry) → world.entry_of setting w event ≡ Some entry
      → started_from setting.plans w (elementary m setting w event).after.entries ≡ (elementary m setting (elementary m setting w event).after Crash).after
  with_it (Submit change) entry is =
      by_manager_anew change (submitted setting.plans (manager_in w) change) (submit_lost setting.plans (manager_in w) change (has_plan (change - 1)) (slice_get setting.plans (change - 1)))
  with_it (Turn change) entry is =
      by_manager_anew change (turned setting.plans (manager_in w) change) (turn_lost setting.plans (manager_in w) change (has_plan (change - 1)) (is_ready_in w.entries change) entry is)
  with_it event entry is = absurd (none-some entry is)

  module _ (event : Event) (image : List ℕ) (so_far : List Entry) (reads : ReadsAs so_far image) where
    without : so_far ≡ w.entries → GoesOnFrom m setting w event image
    without is = record { entries = so_far; reads = reads; anew = inl (ap (started_from setting.plans w) is) }

    having : (entry : Entry) → world.entry_of setting w event ≡ Some entry → so_far ≡ (elementary m setting w event).after.entries → GoesOnFrom m setting w event image
    having entry writes is = record { entries = so_far; reads = reads; anew = inr (ap (started_from setting.plans w) is ∙ with_it event entry writes) }

    module _ (more rest : List Entry) (began : so_far ≡ w.entries ++ more) (goes_on : (elementary m setting w event).after.entries ≡ so_far ++ rest) where
      abbrev after : List Entry
      after = (elementary m setting w event).after.entries

      by_may : (entry : Entry) → world.entry_of setting w event ≡ Some entry → (b : Bool) → after ≡ cond b (w.entries ++ entry ∷ []) w.entries → GoesOnFrom m setting w event image
      by_may entry writes false is = without (between_none w.entries so_far after more rest began goes_on is)
      by_may entry writes true is = by_one (between_one w.entries so_far after more rest entry began goes_on is)
        where
          by_one : (so_far ≡ w.entries) ⊎ (so_far ≡ after) → GoesOnFrom m setting w event image
          by_one (inl first) = without first
          by_one (inr last) = having entry writes last

      by_entry : (entry : Option Entry) → world.entry_of setting w event ≡ entry → Enters w.entries entry after → GoesOnFrom m setting w event image
      by_entry None writes is = without (between_none w.entries so_far after more rest began goes_on is)
      by_entry (Some entry) writes is = by_may entry writes (may_follow w.entries entry) is

module _ {Config TheEdit Node : Type 0} (m : Meaning Config TheEdit Node) (setting : Setting TheEdit) (w : WorldState Config Node) (s : IsSupported m setting (core_of w)) where
  pub new_start : (event : Event) (image : List ℕ) → IsBetween w.entries (world_step m setting w event).entries image → GoesOnFrom m setting (core_of w) event image
  new_start event image between =
      by_entry m setting (core_of w) s event image between.so_far between.reads between.began.more between.goes_on.more between.began.is between.goes_on.is
      (world.entry_of setting (core_of w) event) refl (event_enters m setting (core_of w) event)
