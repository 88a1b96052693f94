-- What the marks of a device tell, they tell after each entry of its history.
use Rattle.std.proofs.Common.{◌≡◌, ◌∙◌, ◌⊎◌, inl, inr, ℕ, ◌-◌, ◌<◌, ◌^◌, ◌==◌, Bool, true, false, List, [], ◌∷◌, ◌++◌, Option, Some, None, IfSome, is_some, slice_get, unwrap_or, refl, sym, ap, subst, arith}
use Rattle.std.specs.List.{All}
use Rattle.std.proofs.lemmas.Bool.Decides.{nat_tests}
use Rattle.std.proofs.lemmas.Option.{none-some, same_Some}
use Rattle.nm_base.specs.Token.{token_of}
use Rattle.nm_proto.specs.declared.journal.Entry.{Entry}
use Rattle.nm_proto.specs.declared.plan.PlannedEdit.{PlannedEdit}
use Rattle.nm_proto.specs.Content.{Meaning, Laws, adds_mark}
use Rattle.nm_sessions.specs.Sessions.{user_of}
use Rattle.nm_stores.specs.Stores.{candidate_of}
use Rattle.nm_pending.specs.Pending.{PendingState}
use Rattle.nm_device.specs.Device.{AllBelong, fresh_device, is_manager}
use Rattle.nm_history.specs.declared.event.DeviceEvent.{DeviceEvent}
use Rattle.nm_history.specs.declared.event.Noted.{Noted}
use Rattle.nm_history.specs.declared.outcome.Outcome.{Outcome}
use Rattle.nm_history.specs.declared.outcome.Outcome.TheVariants.{Confirmed}
use Rattle.nm_history.specs.Effect.{Effect, is_done_reply, noted_effect}
use Rattle.nm_history.specs.Effect.Effect.{Begins, Ends, Undoes, Neither}
use Rattle.nm_history.specs.Outcome.{Standing, outcome_of, standing_after}
use Rattle.nm_history.specs.Whole.{Becomes, began_after, began_of}
use Rattle.nm_history.specs.History.{Happened, IsLegal, RecordedState, noted, recorded, recorded_with, replay}
use Rattle.nm_history.proofs.Keeping.{Moved, event_keeps}
use Rattle.nm_device_laws.specs.Moment.{Happens}
use Rattle.nm_device_laws.specs.Token.{is_commit_done}
use Rattle.nm_device_laws.specs.Telling.{TellsPending, standing_of}
use Rattle.nm_device_laws.proofs.Owns as owns
use Rattle.nm_device_laws.proofs.Readings.{standing_push}
use Rattle.nm_device_laws.proofs.Tells.{pending_told, pending_told_first}
use Rattle.nm_manager.specs.Requests.{is_of_device}
use Rattle.nm_safety.specs.Pair.{is_confirmed}
use Rattle.nm_safety.proofs.Alone.{event_belongs}
use Rattle.nm_safety.proofs.Lists.{some_is, to_some}
use Rattle.nm_safety.proofs.Seats.{listed}
use Rattle.nm_world.specs.World.{IsFirst, Setting}
use Rattle.nm_commit_laws.specs.Brings.{Brings, EachBrings}
use Rattle.nm_commit_laws.specs.Leaves.{EachLeaves, IsOtherCommit, LeavesRunning}
use Rattle.nm_commit_laws.specs.Marks.{ArePlain, TellsMarks, is_there}
use Rattle.nm_commit_laws.specs.Waits.{EachWaits, Waits}
use Rattle.nm_commit_laws.proofs.marks.Along.{CommitsRightly, entries_keep}
use Rattle.nm_commit_laws.proofs.marks.Outcomes.{IsBelow, IsCommit, below_or_none, commit_stays, commits, confirmed_is, confirmed_next, confirmed_there, event_commits, found_has, there_confirmed, there_next, undoes}

same_nat : (a b : ℕ) → (a == b) ≡ true → a ≡ b
same_nat a b e = grind (arith, nat_tests)

none_began : {Config : Type 0} (pending : Option (PendingState Config)) → began_of pending ≡ None → is_some pending ≡ false
none_began None e = refl
none_began (Some p) e = absurd (none-some p.before (sym e))

-- a commit of the manager's that brings no change set leaves running, and one of another changes no mark
module _ {Config TheEdit Node : Type 0} (m : Meaning Config TheEdit Node) (laws : Laws m) (setting : Setting TheEdit)
    (r : RecordedState Config Node) (event : DeviceEvent) (h : Happened Config Node) (happens : Happens m setting.tables r.device event h)
    (leaves : (other : IsOtherCommit r.device (noted event h)) → LeavesRunning r.device h.after other.persist other.persist_id)
    (c : IsCommit event (is_done_reply h.reply))
    (none : (change : ℕ) → change < 2 ^ 32 → is_commit_done (token_of change) (noted event h) ≡ false) (n : ℕ) where
  same_by : (managed : Bool) → is_manager (user_of r.device.sessions c.session) ≡ managed
      → m.has_mark h.after.stores.running n ≡ m.has_mark r.device.stores.running n
  same_by true e =
      let left = leaves (record {
        session = c.session;
        confirmed = c.confirmed;
        timeout = c.timeout;
        persist = c.persist;
        persist_id = c.persist_id;
        asked = c.asked;
        managed = e;
        done = c.is_done;
        brings_none = none;
      }) in
      ap (λ config. m.has_mark config n) left.running
  same_by false e =
      let made = owns.commits m laws setting.tables r.device c.session c.confirmed c.timeout c.persist c.persist_id h
      (record { happens = subst (λ one. Happens m setting.tables r.device one h) c.asked happens; done = c.is_done }) in
      let becomes : h.after.stores.running ≡ candidate_of r.device.stores = ap (λ x. x.stores.running) made.after in
      ap (λ config. m.has_mark config n) becomes
      ∙ sym ((laws.same_numbers r.device.stores.running (candidate_of r.device.stores)).0 (made.marks e) n)

  pub same_marks : m.has_mark h.after.stores.running n ≡ m.has_mark r.device.stores.running n
  same_marks = same_by (is_manager (user_of r.device.sessions c.session)) refl

-- what marks tell of a device with its history, and of running before what is pending there
pub record IsMarked {Config TheEdit Node : Type 0} (m : Meaning Config TheEdit Node) (r : RecordedState Config Node) : Type 0 where
  pub belong : AllBelong m r.device.stores r.device.pending
  pub tells : (token : List ℕ) → TellsPending token r
  pub marks : (n : ℕ) → m.has_mark r.device.stores.running n ≡ true → is_there (outcome_of (token_of n) r.history) ≡ true
  pub before : (config : Config) → began_of r.device.pending ≡ Some config → (n : ℕ) → m.has_mark config n ≡ true
      → is_confirmed (outcome_of (token_of n) r.history) ≡ true

-- what they tell by it
pub marks_told : {Config TheEdit Node : Type 0} (m : Meaning Config TheEdit Node) (r : RecordedState Config Node) → IsMarked m r
    → TellsMarks m r
marks_told m r k = record {
  there = k.marks;
  for_good = λ none n had.
      confirmed_is (outcome_of (token_of n) r.history)
      (there_confirmed (is_some r.device.pending) (outcome_of (token_of n) r.history) (k.tells (token_of n)).waits (ap is_some none)
      (k.marks n had));
  before = to_some (λ p. (n : ℕ) → m.has_mark p.before n ≡ true → outcome_of (token_of n) r.history ≡ Confirmed) r.device.pending
      (λ p there n had. confirmed_is (outcome_of (token_of n) r.history) (k.before p.before (ap began_of there) n had));
}

module _ {Config TheEdit Node : Type 0} (m : Meaning Config TheEdit Node) (laws : Laws m) (setting : Setting TheEdit)
    (edits : All m.edit_belongs setting.tables.edits) (plain : ArePlain m setting) (entries : List Entry) (device : ℕ)
    (r : RecordedState Config Node) (event : DeviceEvent) (h : Happened Config Node) (happens : Happens m setting.tables r.device event h)
    (k : IsMarked m r) where
  abbrev entry : Noted
  entry = noted event h

  abbrev effect : Effect
  effect = noted_effect entry

  abbrev was : ℕ → Outcome
  was n = outcome_of (token_of n) r.history

  abbrev now : ℕ → Outcome
  now n = outcome_of (token_of n) (r.history ++ entry ∷ [])

  moved : Moved m r.device effect h.after
  moved = (event_keeps m laws setting.tables r.device event h happens).moved

  now_is : (n : ℕ) → now n ≡ (standing_after (token_of n) (was n) (standing_of (token_of n) r.history).other effect).outcome
  now_is n = ap (λ (one : Standing). one.outcome) (standing_push (token_of n) r.history entry effect refl)

  there_now : (n : ℕ) → undoes effect ≡ false → is_there (was n) ≡ true → is_there (now n) ≡ true
  there_now n stays there =
      ap is_there (now_is n) ∙ there_next (token_of n) (was n) (standing_of (token_of n) r.history).other effect stays there

  confirmed_now : (n : ℕ) → is_confirmed (was n) ≡ true → is_confirmed (now n) ≡ true
  confirmed_now n is = ap is_confirmed (now_is n) ∙ confirmed_next (token_of n) (was n) (standing_of (token_of n) r.history).other effect is

  -- ---- a commit

  module _ (rightly : CommitsRightly m setting entries device r.device entry h.after) (waits : Waits r.history entry) where
    abbrev Has : ℕ → Type 0
    Has n = m.has_mark h.after.stores.running n ≡ true

    -- a mark that was there tells of what stays
    old_there : (n : ℕ) → undoes effect ≡ false → m.has_mark r.device.stores.running n ≡ true → is_there (now n) ≡ true
    old_there n stays had = there_now n stays (k.marks n had)

    -- a change set comes, and its mark alone
    module _ (stays : undoes effect ≡ false) (change : ℕ) (small : change < 2 ^ 32) (done : is_commit_done (token_of change) entry ≡ true)
        (b : Brings m setting entries change device r.device.stores.running h.after.stores.running) where
      own_plain : m.is_plain b.edit
      own_plain =
          some_is b.edit m.is_plain (slice_get setting.tables.edits b.own.planned.edit.0)
          (subst (λ number. slice_get setting.tables.edits number.0 ≡ Some b.edit) b.own.number_is b.found)
          (found_has (λ (one : PlannedEdit). IfSome (slice_get setting.tables.edits one.edit.0) m.is_plain) (is_of_device device)
          b.own.plan.edits b.own.planned (plain (change - 1) b.own.plan b.own.plan_is) b.own.planned_is)

      adds : (n : ℕ) → adds_mark b.marks n ≡ (n == change)
      adds n = ap (λ marks. adds_mark marks n) b.own.marks_are

      brought_by : (n : ℕ) → Has n → (same : Bool) → (n == change) ≡ same → is_there (now n) ≡ true
      brought_by n has true e = ap is_there (ap now (same_nat n change e) ∙ waits change small done)
      brought_by n has false e =
          old_there n stays
          (laws.only_old r.device.stores.running b.edit b.operation b.marks h.after.stores.running k.belong.stores_belong.running
          (listed m.edit_belongs setting.tables.edits edits b.number.0 b.edit b.found) own_plain b.makes n (adds n ∙ e) has).0

      brought : (n : ℕ) → Has n → is_there (now n) ≡ true
      brought n has = brought_by n has (n == change) refl

    committed_by : commits effect ≡ true
        → IsBelow (λ change. is_commit_done (token_of change) entry) (2 ^ 32)
        ⊎ ((change : ℕ) → change < 2 ^ 32 → is_commit_done (token_of change) entry ≡ false)
        → (n : ℕ) → Has n → is_there (now n) ≡ true
    committed_by e (inl one) n has =
        brought (commit_stays effect e) one.number one.small one.passes (rightly.brings one.number one.small one.passes) n has
    committed_by e (inr none) n has =
        old_there n (commit_stays effect e)
        (sym (same_marks m laws setting r event h happens rightly.leaves (event_commits event (is_done_reply h.reply) h.undone e) none n) ∙ has)

    committed : commits effect ≡ true → (n : ℕ) → Has n → is_there (now n) ≡ true
    committed e = committed_by e (below_or_none (λ change. is_commit_done (token_of change) entry) (2 ^ 32))

    -- ---- whatever it is

    marks_by : (e : Effect) → effect ≡ e → Becomes r.device (began_of r.device.pending) e h.after.stores.running → (n : ℕ) → Has n
        → is_there (now n) ≡ true
    marks_by (Begins token) e becomes n has = committed (ap commits e) n has
    marks_by Ends e becomes n has = committed (ap commits e) n has
    marks_by (Undoes by) e becomes n has =
        confirmed_there (now n) (confirmed_now n (k.before h.after.stores.running becomes n has))
    marks_by Neither e becomes n has =
        old_there n (ap undoes e) (subst (λ config. m.has_mark config n ≡ true) becomes has)

    -- what was in running where nothing was pending is confirmed
    alone_confirmed : began_of r.device.pending ≡ None → (n : ℕ) → m.has_mark r.device.stores.running n ≡ true
        → is_confirmed (was n) ≡ true
    alone_confirmed none n had =
        there_confirmed (is_some r.device.pending) (was n) (k.tells (token_of n)).waits (none_began r.device.pending none) (k.marks n had)

    begun_before : (began : Option Config) → began_of r.device.pending ≡ began → (config : Config)
        → unwrap_or began r.device.stores.running ≡ config → (n : ℕ) → m.has_mark config n ≡ true → is_confirmed (now n) ≡ true
    begun_before None b config e n had =
        confirmed_now n (alone_confirmed b n (subst (λ one. m.has_mark one n ≡ true) (sym e) had))
    begun_before (Some one) b config e n had = confirmed_now n (k.before config (b ∙ ap Some e) n had)

    before_by : (e : Effect) → (config : Config) → began_after r.device.stores.running (began_of r.device.pending) e ≡ Some config → (n : ℕ)
        → m.has_mark config n ≡ true → is_confirmed (now n) ≡ true
    before_by (Begins token) config b n had =
        begun_before (began_of r.device.pending) refl config
        (same_Some (unwrap_or (began_of r.device.pending) r.device.stores.running) config b) n had
    before_by Ends config b n had = absurd (none-some config b)
    before_by (Undoes by) config b n had = absurd (none-some config b)
    before_by Neither config b n had = confirmed_now n (k.before config b n had)

    pub marked_next : IsMarked m (recorded_with r event h)
    marked_next = record {
      belong = event_belongs m laws setting.tables edits r.device event h happens k.belong;
      tells = λ token. pending_told m laws setting.tables token r event h happens (k.tells token);
      marks = marks_by effect refl moved.moves;
      before = λ config b. before_by effect config (sym moved.began ∙ b);
    }

-- ---- a whole history

module _ {Config TheEdit Node : Type 0} (m : Meaning Config TheEdit Node) (laws : Laws m) (setting : Setting TheEdit)
    (edits : All m.edit_belongs setting.tables.edits) (plain : ArePlain m setting) (entries : List Entry) (device : ℕ) where
  first_marked : (first : Config) → IsFirst m first → ((n : ℕ) → m.has_mark first n ≡ false) → IsMarked {Node = Node} m (recorded first)
  first_marked first is unmarked = record {
    belong = record { stores_belong = record { running = is.belongs; candidate = tt }; before_belongs = tt };
    tells = λ token. pending_told_first token (recorded first) first refl;
    marks = λ n has. absurd (let g : false ≡ true = sym (unmarked n) ∙ has in cc);
    before = λ config e. absurd (none-some config e);
  }

  pub marks_along : (first : Config) (history : List Noted) → IsFirst m first → ((n : ℕ) → m.has_mark first n ≡ false)
      → IsLegal m setting.tables (fresh_device first) history → EachBrings m setting entries device (fresh_device first) history
      → EachLeaves m setting (fresh_device first) history → EachWaits [] history
      → TellsMarks m (record { device = replay m setting.tables (fresh_device first) history; history = history })
  marks_along first history is unmarked legal brings leaves waits =
      marks_told m (record { device = replay m setting.tables (fresh_device first) history; history = history })
      (entries_keep m setting entries device Waits (IsMarked m)
      (λ r event h happens rightly more k. marked_next m laws setting edits plain entries device r event h happens k rightly more) (recorded first) history
      legal brings leaves waits (first_marked first is unmarked))
