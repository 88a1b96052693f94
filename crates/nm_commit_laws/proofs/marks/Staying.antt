-- Along a history on which change sets come to a device one after another, the mark of one that isn't ended is there where the change set is.
use Rattle.std.proofs.Common.{◌≡◌, ◌∙◌, ◌⊎◌, inl, inr, ℕ, ◌<◌, ◌^◌, ◌==◌, Bool, true, false, ◌&&◌, List, [], ◌∷◌, ◌++◌, Option, Some, None, unwrap_or, refl, sym, ap, subst, arith, if◌then◌else◌}
use Rattle.std.specs.List.{All}
use Rattle.std.proofs.lemmas.Bool.Decides.{nat_tests}
use Rattle.std.proofs.lemmas.Option.{none-some, same_Some}
use Rattle.nm_base.specs.Token.{token_of}
use Rattle.nm_proto.specs.declared.message.Request.TheVariants.{Commit}
use Rattle.nm_proto.specs.declared.journal.Entry.{Entry}
use Rattle.nm_proto.specs.Content.{Meaning, Laws, adds_mark}
use Rattle.nm_device.specs.Device.{AllBelong, fresh_device}
use Rattle.nm_history.specs.declared.event.DeviceEvent.{DeviceEvent}
use Rattle.nm_history.specs.declared.event.DeviceEvent.TheVariants.{Asked}
use Rattle.nm_history.specs.declared.event.Noted.{Noted}
use Rattle.nm_history.specs.declared.outcome.Outcome.{Outcome}
use Rattle.nm_history.specs.declared.outcome.Outcome.TheVariants.{Never, Pending, Confirmed, Undone}
use Rattle.nm_history.specs.Effect.{Effect, effect_of_event, is_done_reply, noted_effect}
use Rattle.nm_history.specs.Effect.Effect.{Begins, Ends, Undoes, Neither}
use Rattle.nm_history.specs.Outcome.{Standing, is_token, outcome_of, standing_after}
use Rattle.nm_history.specs.Whole.{Becomes, began_after, began_of}
use Rattle.nm_history.specs.History.{Happened, IsLegal, RecordedState, noted, recorded, recorded_with, replay}
use Rattle.nm_history.proofs.Keeping.{Moved, event_keeps}
use Rattle.nm_recovery.specs.Recovery.{is_ended_in}
use Rattle.nm_device_laws.specs.Moment.{Happens}
use Rattle.nm_device_laws.specs.Token.{commits_in, is_commit_done}
use Rattle.nm_device_laws.specs.Telling.{standing_of}
use Rattle.nm_device_laws.proofs.Readings.{begins_token, standing_push}
use Rattle.nm_safety.specs.Pair.{is_confirmed}
use Rattle.nm_safety.proofs.Alone.{event_belongs}
use Rattle.nm_safety.proofs.Seats.{listed}
use Rattle.nm_world.specs.World.{Setting}
use Rattle.nm_commit_laws.specs.Brings.{EachBrings}
use Rattle.nm_commit_laws.specs.Leaves.{EachLeaves}
use Rattle.nm_commit_laws.specs.Marks.{is_there}
use Rattle.nm_commit_laws.specs.Stays.{EachFindsEnded, FindsEnded}
use Rattle.nm_commit_laws.proofs.marks.Along.{CommitsRightly, entries_keep}
use Rattle.nm_commit_laws.proofs.marks.Steps.{same_marks}
use Rattle.nm_commit_laws.proofs.marks.Outcomes.{IsBelow, IsCommit, below_or_none, commits, confirmed_there, event_commits, undoes}

-- ---- outcomes

-- what is there where nothing began was there
there_was : (token : List ℕ) (outcome : Outcome) (other : Bool) (effect : Effect) → begins_token token effect ≡ false
    → is_there (standing_after token outcome other effect).outcome ≡ true → is_there outcome ≡ true
there_was token Never false (Begins persist) none e = by_token (is_token token persist) none e
  where
    waits : Standing
    waits = record { outcome = Pending; other = false }

    another : Standing
    another = record { outcome = Never; other = true }

    by_token : (b : Bool) → b ≡ false → is_there (if b then waits else another).outcome ≡ true → is_there Never ≡ true
    by_token true n h = absurd (let g : true ≡ false = n in cc)
    by_token false n h = h
there_was token Never true (Begins persist) none e = e
there_was token Never other Ends none e = e
there_was token Never other (Undoes by) none e = e
there_was token Never other Neither none e = e
there_was token Pending other effect none e = refl
there_was token Confirmed other effect none e = refl
there_was token (Undone by) other effect none e = e

-- what is there after an undoing was confirmed
undone_was : (token : List ℕ) (outcome : Outcome) (other : Bool) (effect : Effect) → undoes effect ≡ true
    → is_there (standing_after token outcome other effect).outcome ≡ true → is_confirmed outcome ≡ true
undone_was token outcome other (Begins persist) u e = absurd (let g : false ≡ true = u in cc)
undone_was token outcome other Ends u e = absurd (let g : false ≡ true = u in cc)
undone_was token outcome other Neither u e = absurd (let g : false ≡ true = u in cc)
undone_was token Never other (Undoes by) u e = absurd (let g : false ≡ true = e in cc)
undone_was token Pending other (Undoes by) u e = absurd (let g : false ≡ true = e in cc)
undone_was token Confirmed other (Undoes by) u e = refl
undone_was token (Undone why) other (Undoes by) u e = absurd (let g : false ≡ true = e in cc)

abbrev ends : Effect → Bool
ends (Begins persist) = false
ends Ends = true
ends (Undoes by) = false
ends Neither = false

-- only the end of what is pending confirms
confirmed_was : (token : List ℕ) (outcome : Outcome) (other : Bool) (effect : Effect) → ends effect ≡ false
    → is_confirmed (standing_after token outcome other effect).outcome ≡ true → is_confirmed outcome ≡ true
confirmed_was token Never false (Begins persist) none e = by_token (is_token token persist) e
  where
    waits : Standing
    waits = record { outcome = Pending; other = false }

    another : Standing
    another = record { outcome = Never; other = true }

    by_token : (b : Bool) → is_confirmed (if b then waits else another).outcome ≡ true → is_confirmed Never ≡ true
    by_token true h = h
    by_token false h = h
confirmed_was token Never true (Begins persist) none e = e
confirmed_was token Never other Ends none e = e
confirmed_was token Never other (Undoes by) none e = e
confirmed_was token Never other Neither none e = e
confirmed_was token Pending other (Begins persist) none e = e
confirmed_was token Pending other Ends none e = absurd (let g : true ≡ false = none in cc)
confirmed_was token Pending other (Undoes by) none e = e
confirmed_was token Pending other Neither none e = e
confirmed_was token Confirmed other effect none e = refl
confirmed_was token (Undone by) other effect none e = e

-- ---- what begins under a token is a commit that gives it

not_begun : (token : List ℕ) (effect : Effect) → commits effect ≡ false → begins_token token effect ≡ false
not_begun token (Begins persist) e = absurd (let g : true ≡ false = e in cc)
not_begun token Ends e = refl
not_begun token (Undoes by) e = refl
not_begun token Neither e = refl

first_false : (a : Bool) → (a && true) ≡ false → a ≡ false
first_false true e = e
first_false false e = refl

form_begins : (token : List ℕ) (session : ℕ) (confirmed : Bool) (timeout : Option ℕ) (persist persist_id : Option (List ℕ)) (undone : Bool)
    → (commits_in token (Asked session (Commit confirmed timeout persist persist_id)) && true) ≡ false
    → begins_token token (effect_of_event (Asked session (Commit confirmed timeout persist persist_id)) true undone) ≡ false
form_begins token session true timeout persist persist_id undone e = first_false (is_token token persist) e
form_begins token session false timeout persist persist_id undone e = refl

begins_none : (token : List ℕ) (event : DeviceEvent) (done undone : Bool) → (commits_in token event && done) ≡ false
    → begins_token token (effect_of_event event done undone) ≡ false
begins_none token event done undone none = by_test (commits (effect_of_event event done undone)) refl
  where
    commit_none : IsCommit event done → begins_token token (effect_of_event event done undone) ≡ false
    commit_none c =
        subst (λ one. (commits_in token one && done) ≡ false → begins_token token (effect_of_event one done undone) ≡ false) (sym c.asked)
        (subst (λ b. (commits_in token (Asked c.session (Commit c.confirmed c.timeout c.persist c.persist_id)) && b) ≡ false
        → begins_token token (effect_of_event (Asked c.session (Commit c.confirmed c.timeout c.persist c.persist_id)) b undone) ≡ false)
        (sym c.is_done) (form_begins token c.session c.confirmed c.timeout c.persist c.persist_id undone)) none

    by_test : (b : Bool) → commits (effect_of_event event done undone) ≡ b → begins_token token (effect_of_event event done undone) ≡ false
    by_test false e = not_begun token (effect_of_event event done undone) e
    by_test true e = commit_none (event_commits event done undone e)

same_number : (n : ℕ) → (n == n) ≡ true
same_number n = grind (arith, nat_tests)

-- what is there where nothing of it begins was there
there_unbegun : {Config Node : Type 0} (r : RecordedState Config Node) (event : DeviceEvent) (h : Happened Config Node) (n : ℕ)
    → begins_token (token_of n) (noted_effect (noted event h)) ≡ false → is_there (outcome_of (token_of n) (recorded_with r event h).history) ≡ true
    → is_there (outcome_of (token_of n) r.history) ≡ true
there_unbegun r event h n none is =
    let effect : Effect = noted_effect (noted event h) in
    there_was (token_of n) (outcome_of (token_of n) r.history) (standing_of (token_of n) r.history).other effect none
    (sym (ap (λ (one : Standing). is_there one.outcome) (standing_push (token_of n) r.history (noted event h) effect refl)) ∙ is)

-- so where no commit of it is done
pub there_before : {Config Node : Type 0} (r : RecordedState Config Node) (event : DeviceEvent) (h : Happened Config Node) (n : ℕ)
    → is_commit_done (token_of n) (noted event h) ≡ false → is_there (outcome_of (token_of n) (recorded_with r event h).history) ≡ true
    → is_there (outcome_of (token_of n) r.history) ≡ true
there_before r event h n none is = there_unbegun r event h n (begins_none (token_of n) event (is_done_reply h.reply) h.undone none) is

-- nothing begins where nothing is pending then
none_begins : {Config : Type 0} (token : List ℕ) (running : Config) (began : Option Config) (effect : Effect)
    → began_after running began effect ≡ None → begins_token token effect ≡ false
none_begins token running began (Begins persist) e = absurd (none-some (unwrap_or began running) (sym e))
none_begins token running began Ends e = refl
none_begins token running began (Undoes by) e = refl
none_begins token running began Neither e = refl

pub there_free : {Config TheEdit Node : Type 0} (m : Meaning Config TheEdit Node) (laws : Laws m) (setting : Setting TheEdit)
    (r : RecordedState Config Node) (event : DeviceEvent) (h : Happened Config Node) → Happens m setting.tables r.device event h
    → h.after.pending ≡ None → (n : ℕ) → is_there (outcome_of (token_of n) (recorded_with r event h).history) ≡ true
    → is_there (outcome_of (token_of n) r.history) ≡ true
there_free m laws setting r event h happens free n is =
    let effect : Effect = noted_effect (noted event h) in
    let moved : Moved m r.device effect h.after = (event_keeps m laws setting.tables r.device event h happens).moved in
    there_unbegun r event h n
    (none_begins (token_of n) r.device.stores.running (began_of r.device.pending) effect (sym moved.began ∙ ap began_of free)) is

-- ---- a device

-- a change set whose mark is there where it is, and in what running was before what is pending where it was confirmed
pub record IsStaying {Config TheEdit Node : Type 0} (m : Meaning Config TheEdit Node) (n : ℕ) (r : RecordedState Config Node) : Type 0 where
  pub belong : AllBelong m r.device.stores r.device.pending
  pub stays : is_there (outcome_of (token_of n) r.history) ≡ true → m.has_mark r.device.stores.running n ≡ true
  pub before : (config : Config) → began_of r.device.pending ≡ Some config → is_confirmed (outcome_of (token_of n) r.history) ≡ true
      → m.has_mark config n ≡ true

module _ {Config TheEdit Node : Type 0} (m : Meaning Config TheEdit Node) (laws : Laws m) (setting : Setting TheEdit)
    (edits : All m.edit_belongs setting.tables.edits) (entries : List Entry) (device n : ℕ) (small : n < 2 ^ 32)
    (unended : is_ended_in n entries ≡ false) where
  module _ (r : RecordedState Config Node) (event : DeviceEvent) (h : Happened Config Node)
      (happens : Happens m setting.tables r.device event h) (k : IsStaying m n r) where
    abbrev entry : Noted
    entry = noted event h

    abbrev effect : Effect
    effect = noted_effect entry

    abbrev was : Outcome
    was = outcome_of (token_of n) r.history

    abbrev other : Bool
    other = (standing_of (token_of n) r.history).other

    abbrev now : Outcome
    now = outcome_of (token_of n) (r.history ++ entry ∷ [])

    moved : Moved m r.device effect h.after
    moved = (event_keeps m laws setting.tables r.device event h happens).moved

    now_is : now ≡ (standing_after (token_of n) was other effect).outcome
    now_is = ap (λ (one : Standing). one.outcome) (standing_push (token_of n) r.history entry effect refl)

    there_next : is_there now ≡ true → is_there (standing_after (token_of n) was other effect).outcome ≡ true
    there_next there = ap is_there (sym now_is) ∙ there

    abbrev Has : Type 0
    Has = m.has_mark h.after.stores.running n ≡ true

    module _ (rightly : CommitsRightly m setting entries device r.device entry h.after) (finds : FindsEnded entries n r.history entry) where
      -- it comes itself, and its mark with it
      own_mark : is_commit_done (token_of n) entry ≡ true → Has
      own_mark done =
          let b = rightly.brings n small done in
          laws.added r.device.stores.running b.edit b.operation b.marks h.after.stores.running k.belong.stores_belong.running
          (listed m.edit_belongs setting.tables.edits edits b.number.0 b.edit b.found) b.makes n (ap (λ marks. adds_mark marks n) b.own.marks_are ∙ same_number n)

      committed_by : commits effect ≡ true → is_commit_done (token_of n) entry ≡ false → is_there was ≡ true
          → IsBelow (λ change. is_commit_done (token_of change) entry) (2 ^ 32)
          ⊎ ((change : ℕ) → change < 2 ^ 32 → is_commit_done (token_of change) entry ≡ false) → Has
      committed_by e none there (inl one) =
          absurd (let g : false ≡ true = sym unended ∙ finds one.number one.small one.passes none there in cc)
      committed_by e none there (inr nobody) =
          same_marks m laws setting r event h happens rightly.leaves (event_commits event (is_done_reply h.reply) h.undone e) nobody n ∙ k.stays there

      committed : commits effect ≡ true → is_there now ≡ true → (done : Bool) → is_commit_done (token_of n) entry ≡ done → Has
      committed e there true done = own_mark done
      committed e there false none =
          committed_by e none
          (there_was (token_of n) was other effect (begins_none (token_of n) event (is_done_reply h.reply) h.undone none) (there_next there))
          (below_or_none (λ change. is_commit_done (token_of change) entry) (2 ^ 32))

      stays_by : (e : Effect) → effect ≡ e → Becomes r.device (began_of r.device.pending) e h.after.stores.running → is_there now ≡ true → Has
      stays_by (Begins token) e becomes there = committed (ap commits e) there (is_commit_done (token_of n) entry) refl
      stays_by Ends e becomes there = committed (ap commits e) there (is_commit_done (token_of n) entry) refl
      stays_by (Undoes by) e becomes there =
          k.before h.after.stores.running becomes (undone_was (token_of n) was other effect (ap undoes e) (there_next there))
      stays_by Neither e becomes there =
          subst (λ config. m.has_mark config n ≡ true) (sym becomes)
          (k.stays (there_was (token_of n) was other effect (ap (begins_token (token_of n)) e) (there_next there)))

      confirmed_before : ends effect ≡ false → is_confirmed now ≡ true → is_confirmed was ≡ true
      confirmed_before none is = confirmed_was (token_of n) was other effect none (ap is_confirmed (sym now_is) ∙ is)

      begun_before : (began : Option Config) → began_of r.device.pending ≡ began → (config : Config)
          → unwrap_or began r.device.stores.running ≡ config → is_confirmed was ≡ true → m.has_mark config n ≡ true
      begun_before None b config e is = subst (λ one. m.has_mark one n ≡ true) e (k.stays (confirmed_there was is))
      begun_before (Some one) b config e is = k.before config (b ∙ ap Some e) is

      before_by : (e : Effect) → effect ≡ e → (config : Config)
          → began_after r.device.stores.running (began_of r.device.pending) e ≡ Some config → is_confirmed now ≡ true
          → m.has_mark config n ≡ true
      before_by (Begins token) e config b is =
          begun_before (began_of r.device.pending) refl config
          (same_Some (unwrap_or (began_of r.device.pending) r.device.stores.running) config b) (confirmed_before (ap ends e) is)
      before_by Ends e config b is = absurd (none-some config b)
      before_by (Undoes by) e config b is = absurd (none-some config b)
      before_by Neither e config b is = k.before config b (confirmed_before (ap ends e) is)

      pub staying_next : IsStaying m n (recorded_with r event h)
      staying_next = record {
        belong = event_belongs m laws setting.tables edits r.device event h happens k.belong;
        stays = stays_by effect refl moved.moves;
        before = λ config b. before_by effect refl config (sym moved.began ∙ b);
      }

  -- ---- a history

  pub staying_along : (first : Config) (history : List Noted) → IsLegal m setting.tables (fresh_device first) history
      → EachBrings m setting entries device (fresh_device first) history → EachLeaves m setting (fresh_device first) history
      → EachFindsEnded entries n [] history → IsStaying m n (recorded first)
      → IsStaying m n (record { device = replay m setting.tables (fresh_device first) history; history = history })
  staying_along first history legal brings leaves finds k =
      entries_keep m setting entries device (FindsEnded entries n) (IsStaying m n)
      (λ r event h happens rightly more k. staying_next r event h happens k rightly more) (recorded first) history legal brings leaves finds k
