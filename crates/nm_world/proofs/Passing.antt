-- From one call of a world to many.
use Rattle.std.proofs.Common.{◌≡◌, ◌≤◌, ◌<◌, ◌+◌, ◌-◌, ℕ, zero, suc, List, [], ◌∷◌, ◌++◌, Bool, true, false, Option, Some, None, Result, Ok, Err, OnOk, OnErr, IsSome, IfSome, refl, sym, ap, ◌∙◌, subst, arith, inl, length, take, get_or}
use Rattle.std.proofs.lemmas.List.{take_more}
use Rattle.nm_base.specs.Count.{Rose}
use Rattle.nm_disk.specs.Image.{DiskState, AnyMoment}
use Rattle.nm_disk.specs.Keeps.{KeepsDisk, keeps_itself, keeps_then}
use Rattle.nm_disk.specs.Moments.{and_then, weaker}
use Rattle.nm_proto.specs.Content.{Meaning}
use Rattle.nm_proto.specs.declared.plan.Event.{Event}
use Rattle.nm_proto.specs.declared.plan.Event.TheVariants.{Turn, Deliver, Answer, Round}
use Rattle.nm_journal.specs.Fits.{JournalState, Fits, ReadsAs}
use Rattle.nm_manager.specs.Manager.{MayRead, wire_in}
use Rattle.nm_world.specs.declared.happened.Happened.{Happened}
use Rattle.nm_world.specs.declared.happened.TraceEntry.{TraceEntry}
use Rattle.nm_world.specs.declared.happened.Sending.{Sending}
use Rattle.nm_world.specs.Runs.{GoesOnAs, HasTime, IsBetween, IsReady, Journals, KeepsTime, Does}
use Rattle.nm_world.specs.Drain.{drain_event, drain_by, drain_step, drained}
use Rattle.nm_world.specs.World.{Setting, WorldState, CoreValue, WorldValue, Came, with_state, journal_of, core_journal, IsAsBefore, IsStill, entry_of, core_of, manager_in, passed, elementary, world_step, sending_of, replies_on, last_answered, followed, round, rounds, event_step, run}
use Rattle.nm_world.proofs.Growing.{goes_itself, goes_then, between_more, between_earlier, between_first, may_between, event_enters, step_grows}
use Rattle.nm_world.proofs.Clocks.{still_in_time, time_now}
use Rattle.nm_world.proofs.Order.{reads_whole}

abbrev pub is_round : Event → Bool
is_round (Round change turns) = true
is_round _ = false

-- ---- the functions grow

module _ {Config TheEdit Node : Type 0} (m : Meaning Config TheEdit Node) (setting : Setting TheEdit) where
  abbrev Grows : WorldState Config Node → WorldState Config Node → Type 0
  Grows w after = GoesOnAs w.entries after.entries

  pub last_grows : (w : WorldState Config Node) (change : ℕ) (sending : Sending) → Grows w (last_answered m setting w change sending)
  last_grows w change sending = step_grows m setting w (Answer change sending.device sending.link (replies_on (wire_in (manager_in (core_of w)) change sending.device) sending.link))

  pub followed_grows : (w : WorldState Config Node) (change : ℕ) (sending : Option Sending) → Grows w (followed m setting w change sending)
  followed_grows w change None = goes_itself w.entries
  followed_grows w change (Some sending) =
      let delivered = world_step m setting w (Deliver change sending.device sending.link) in
      goes_then w.entries delivered.entries (last_answered m setting delivered change sending).entries
      (step_grows m setting w (Deliver change sending.device sending.link)) (last_grows delivered change sending)

  pub round_grows : (w : WorldState Config Node) (change : ℕ) → Grows w (round m setting w change)
  round_grows w change =
      let turned = world_step m setting w (Turn change) in
      let sending = sending_of (elementary m setting (core_of w) (Turn change)).happened in
      goes_then w.entries turned.entries (followed m setting turned change sending).entries (step_grows m setting w (Turn change)) (followed_grows turned change sending)

  pub rounds_grow : (n : ℕ) (w : WorldState Config Node) (change : ℕ) → Grows w (rounds m setting n w change)
  rounds_grow zero w change = goes_itself w.entries
  rounds_grow (suc n) w change =
      let next = round m setting w change in
      goes_then w.entries next.entries (rounds m setting n next change).entries (round_grows w change) (rounds_grow n next change)

  -- an event that isn't a round is elementary
  pub other_step : (w : WorldState Config Node) (event : Event) → is_round event ≡ false → world_step m setting w event ≡ event_step m setting w event
  other_step w (Round change turns) other = absurd (let e : true ≡ false = other in cc)
  other_step w event other = refl

  pub event_grows : (w : WorldState Config Node) (event : Event) → Grows w (event_step m setting w event)
  event_grows w (Round change turns) = rounds_grow turns w change
  event_grows w event = step_grows m setting w event

  pub run_grows : (w : WorldState Config Node) (events : List Event) → Grows w (run m setting w events)
  run_grows w [] = goes_itself w.entries
  run_grows w (event ∷ events) =
      let next = event_step m setting w event in
      goes_then w.entries next.entries (run m setting next events).entries (event_grows w event) (run_grows next events)

  -- one round more, at the end
  pub rounds_more : (n : ℕ) (w : WorldState Config Node) (change : ℕ) → rounds m setting (suc n) w change ≡ round m setting (rounds m setting n w change) change
  rounds_more zero w change = refl
  rounds_more (suc n) w change = rounds_more n (round m setting w change) change

  rounds_on : (n more : ℕ) (w : WorldState Config Node) (change : ℕ) → Grows (rounds m setting n w change) (rounds m setting (n + more) w change)
  rounds_on n zero w change = let e : n + zero ≡ n = omega arith in subst (λ k. Grows (rounds m setting n w change) (rounds m setting k w change)) (sym e) (goes_itself (rounds m setting n w change).entries)
  rounds_on n (suc more) w change =
      let e : n + suc more ≡ suc (n + more) = omega arith in
      let sofar = rounds m setting (n + more) w change in
      subst (λ k. Grows (rounds m setting n w change) (rounds m setting k w change)) (sym e)
      (subst (Grows (rounds m setting n w change)) (sym (rounds_more (n + more) w change))
      (goes_then (rounds m setting n w change).entries sofar.entries (round m setting sofar change).entries (rounds_on n more w change) (round_grows sofar change)))

  pub rounds_further : (k n : ℕ) (w : WorldState Config Node) (change : ℕ) → k ≤ n → Grows (rounds m setting k w change) (rounds m setting n w change)
  rounds_further k n w change le = let e : k + (n - k) ≡ n = omega (arith, le) in subst (λ j. Grows (rounds m setting k w change) (rounds m setting j w change)) e (rounds_on k (n - k) w change)

  -- a run of more events
  pub run_then : (w : WorldState Config Node) (first later : List Event) → run m setting w (first ++ later) ≡ run m setting (run m setting w first) later
  run_then w [] later = refl
  run_then w (event ∷ first) later = run_then (event_step m setting w event) first later

  pub run_more : (w : WorldState Config Node) (events : List Event) (i : ℕ) (event : Event) → i < length events → event ≡ get_or events i event
      → run m setting w (take (i + 1) events) ≡ event_step m setting (run m setting w (take i events)) event
  run_more w events i event within is =
      ap (run m setting w) (take_more events i event within ∙ ap (λ (x : Event). take i events ++ x ∷ []) (sym is)) ∙ run_then w (take i events) (event ∷ [])

  run_on : (w : WorldState Config Node) (n : ℕ) (events : List Event) → Grows (run m setting w (take n events)) (run m setting w events)
  run_on w zero events = run_grows w events
  run_on w (suc n) [] = goes_itself w.entries
  run_on w (suc n) (event ∷ events) = run_on (event_step m setting w event) n events

  pub run_further : (w : WorldState Config Node) (n : ℕ) (events : List Event) → Grows (run m setting w (take n events)) (run m setting w events)
  run_further w n events = run_on w n events

  -- ---- steps that bring it to rest

  drain_by_grows : (w : WorldState Config Node) (event : Option Event) → Grows w (drain_by m setting w event)
  drain_by_grows w None = goes_itself w.entries
  drain_by_grows w (Some event) = step_grows m setting w event

  pub drain_step_grows : (w : WorldState Config Node) → Grows w (drain_step m setting w)
  drain_step_grows w = drain_by_grows w (drain_event setting w)

  pub drained_grows : (n : ℕ) (w : WorldState Config Node) → Grows w (drained m setting n w)
  drained_grows zero w = goes_itself w.entries
  drained_grows (suc n) w =
      let next = drain_step m setting w in
      goes_then w.entries next.entries (drained m setting n next).entries (drain_step_grows w) (drained_grows n next)

  -- one step more, at the end
  pub drained_more : (n : ℕ) (w : WorldState Config Node) → drained m setting (suc n) w ≡ drain_step m setting (drained m setting n w)
  drained_more zero w = refl
  drained_more (suc n) w = drained_more n (drain_step m setting w)

  drained_then : (k more : ℕ) (w : WorldState Config Node) → drained m setting (k + more) w ≡ drained m setting more (drained m setting k w)
  drained_then zero more w = let e : zero + more ≡ more = omega arith in ap (λ n. drained m setting n w) e
  drained_then (suc k) more w =
      let e : suc k + more ≡ suc (k + more) = omega arith in
      ap (λ n. drained m setting n w) e ∙ drained_then k more (drain_step m setting w)

  drained_on : (k n : ℕ) (w : WorldState Config Node) → k ≤ n → drained m setting n w ≡ drained m setting (n - k) (drained m setting k w)
  drained_on k n w le = let e : n ≡ k + (n - k) = omega (arith, le) in ap (λ j. drained m setting j w) e ∙ drained_then k (n - k) w

  pub drained_further : (k n : ℕ) (w : WorldState Config Node) → k ≤ n → Grows (drained m setting k w) (drained m setting n w)
  drained_further k n w le = subst (Grows (drained m setting k w)) (sym (drained_on k n w le)) (drained_grows (n - k) (drained m setting k w))

  -- a world at rest stays
  stays_at_rest : (n : ℕ) (w : WorldState Config Node) → drain_event setting w ≡ None → drained m setting n w ≡ w
  stays_at_rest zero w rests = refl
  stays_at_rest (suc n) w rests = ap (λ event. drained m setting n (drain_by m setting w event)) rests ∙ stays_at_rest n w rests

  pub drained_at_rest : (k n : ℕ) (w : WorldState Config Node) → k ≤ n → drain_event setting (drained m setting k w) ≡ None → drained m setting k w ≡ drained m setting n w
  drained_at_rest k n w le rests = sym (drained_on k n w le ∙ stays_at_rest (n - k) (drained m setting k w) rests)

-- ---- calls

-- no call
pub no_moment : (journal : JournalState) (disk : DiskState) → journal.failed ≡ None → Fits journal disk → ((image : List ℕ) → disk.images_since disk.moment image → disk.crash_images image)
    → IsSome disk.contents → AnyMoment disk disk (ReadsAs journal.entries)
no_moment journal disk whole fits only there = record {
  later = omega arith;
  each = λ image left. reads_whole journal.failed journal.entries image whole (fits there image (only image left));
  before = λ start image le left. inl left;
}

-- what the disk tells is one of its images
reads_told : (journal : JournalState) (disk : DiskState) (told_now : Option (List ℕ)) → disk.contents ≡ told_now → journal.failed ≡ None → Fits journal disk
    → ((bytes : List ℕ) → disk.contents ≡ Some bytes → disk.crash_images bytes) → IfSome told_now (ReadsAs journal.entries)
reads_told journal disk None is going fits as_read = tt
reads_told journal disk (Some bytes) is going fits as_read =
    reads_whole journal.failed journal.entries bytes going (fits (subst IsSome (sym is) refl) bytes (as_read bytes is))

pub tells_entries : (journal : JournalState) (disk : DiskState) → journal.failed ≡ None → Fits journal disk
    → ((bytes : List ℕ) → disk.contents ≡ Some bytes → disk.crash_images bytes) → IfSome disk.contents (ReadsAs journal.entries)
tells_entries journal disk going fits as_read = reads_told journal disk disk.contents refl going fits as_read

module _ {Config Node : Type 0} where
  -- a call of a part of what is to be done
  pub left_more : (first mid last : WorldState Config Node) (old new : DiskState) → GoesOnAs mid.entries last.entries → Journals first mid old new → Journals first last old new
  left_more first mid last old new goes left = record {
    keeps = left.keeps;
    any_moment = λ there undiverged.
        weaker old new (IsBetween first.entries mid.entries) (IsBetween first.entries last.entries) (between_more first.entries mid.entries last.entries goes)
        (left.any_moment there undiverged);
  }

module _ {TheContent Config TheEdit Node : Type 0} where
  -- one call after another
  pub then_left : (act more : WorldState Config Node → WorldState Config Node) (first now : WorldValue TheContent Config TheEdit Node) (old mid new : DiskState)
      → GoesOnAs first.state.entries (act first.state).entries → GoesOnAs (act first.state).entries (more (act first.state)).entries
      → Does act first now old mid → Journals now.state (more now.state) mid new → Journals first.state (more (act first.state)) old new
  then_left act more first now old mid new began goes did left = record {
    keeps = keeps_then old mid new did.journals.keeps left.keeps;
    any_moment = λ there undiverged.
        let still = did.straight there ∙ undiverged in
        let before = first.state.entries in
        let last = (more (act first.state)).entries in
        and_then old mid new (IsBetween before last)
        (weaker old mid (IsBetween before (act first.state).entries) (IsBetween before last) (between_more before (act first.state).entries last goes)
        (did.journals.any_moment there undiverged))
        (weaker mid new (IsBetween (act first.state).entries last) (IsBetween before last) (between_earlier before (act first.state).entries last began)
        (subst (λ (w : WorldState Config Node). AnyMoment mid new (IsBetween w.entries (more w).entries)) (did.done still)
        (left.any_moment (did.journals.keeps.tells ∙ there) still)));
  }

  pub then_did : (act more : WorldState Config Node → WorldState Config Node) (first now later : WorldValue TheContent Config TheEdit Node) (old mid new : DiskState)
      → GoesOnAs first.state.entries (act first.state).entries → GoesOnAs (act first.state).entries (more (act first.state)).entries
      → Does act first now old mid → Does more now later mid new → Does (λ w. more (act w)) first later old new
  then_did act more first now later old mid new began goes did next = record {
    others = next.others ∙ ap (λ (w : WorldValue TheContent Config TheEdit Node). with_state w later.state) did.others;
    done = λ undiverged. next.done undiverged ∙ ap more (did.done (next.once undiverged));
    once = λ undiverged. did.once (next.once undiverged);
    straight = λ there. next.straight (did.journals.keeps.tells ∙ there) ∙ did.straight there;
    operators = next.operators ∙ did.operators;
    fits = next.fits;
    journals = then_left act more first now old mid new began goes did next.journals;
  }

  -- the same call, told otherwise
  pub did_as : (act other : WorldState Config Node → WorldState Config Node) (first now : WorldValue TheContent Config TheEdit Node) (old new : DiskState)
      → act first.state ≡ other first.state → Does act first now old new → Does other first now old new
  did_as act other first now old new same did = record {
    others = did.others;
    done = λ undiverged. did.done undiverged ∙ same;
    once = did.once;
    straight = did.straight;
    operators = did.operators;
    fits = did.fits;
    journals = subst (λ (w : WorldState Config Node). Journals first.state w old new) same did.journals;
  }

  -- a world that was ready is so after a call that answered and took no time
  pub still_ready : (act : WorldState Config Node → WorldState Config Node) (first now : WorldValue TheContent Config TheEdit Node) (old new : DiskState)
      → IsReady first old → Does act first now old new → KeepsTime 0 first.state.devices now.state.devices → IsReady now new
  still_ready act first now old new ready did time = record {
    in_time = still_in_time first.state.devices now.state.devices time ready.in_time;
    going = ap (λ (w : WorldValue TheContent Config TheEdit Node). w.has_failed) did.others ∙ ready.going;
    whole = ap (λ (w : WorldValue TheContent Config TheEdit Node). w.failed) did.others ∙ ready.whole;
    fits = did.fits;
  }

  -- and after any call that answered, where there is time left
  pub ready_then : (act : WorldState Config Node → WorldState Config Node) (seconds : ℕ) (first now : WorldValue TheContent Config TheEdit Node) (old new : DiskState)
      → IsReady first old → Does act first now old new → HasTime seconds now.state.devices → IsReady now new
  ready_then act seconds first now old new ready did time = record {
    in_time = time_now seconds now.state.devices time;
    going = ap (λ (w : WorldValue TheContent Config TheEdit Node). w.has_failed) did.others ∙ ready.going;
    whole = ap (λ (w : WorldValue TheContent Config TheEdit Node). w.failed) did.others ∙ ready.whole;
    fits = did.fits;
  }

  pub none_left : (first : WorldValue TheContent Config TheEdit Node) (last : WorldState Config Node) (disk : DiskState) → IsReady first disk
      → ((image : List ℕ) → disk.images_since disk.moment image → disk.crash_images image) → GoesOnAs first.state.entries last.entries → Journals first.state last disk disk
  none_left first last disk ready only goes = record {
    keeps = keeps_itself disk;
    any_moment = λ there undiverged.
        weaker disk disk (ReadsAs first.state.entries) (IsBetween first.state.entries last.entries) (between_first first.state.entries last.entries goes)
        (no_moment (journal_of first) disk ready.whole ready.fits only there);
  }

  pub none_did : (first : WorldValue TheContent Config TheEdit Node) (disk : DiskState) → IsReady first disk
      → ((image : List ℕ) → disk.images_since disk.moment image → disk.crash_images image) → Does (λ w. w) first first disk disk
  none_did first disk ready only = record {
    others = refl;
    done = λ undiverged. refl;
    once = λ undiverged. undiverged;
    straight = λ there. refl;
    operators = refl;
    fits = ready.fits;
    journals = none_left first first.state disk ready only (goes_itself first.state.entries);
  }

-- a count that rose since a later moment rose since an earlier one
pub rose_since : (before later now : ℕ) → before ≤ later → Rose later now → Rose before now
rose_since before later now le rose = omega (arith, le, rose)

-- what holds, holds where a call answers
pub on_ok : {A E : Type 0} {P : Type 0} (result : Result A E) → P → OnOk result P
on_ok (Ok value) holds = holds
on_ok (Err fault) holds = tt

-- what holds where a call answers
pub ok_then : {A E : Type 0} {P Q : Type 0} (result : Result A E) → OnOk result P → (P → Q) → OnOk result Q
ok_then (Ok value) holds then_holds = then_holds holds
ok_then (Err fault) holds then_holds = tt

-- what holds in any case holds of an error
pub err_always : {A E : Type 0} {P : Type 0} (result : Result A E) → P → OnErr result P
err_always (Ok value) holds = tt
err_always (Err fault) holds = holds

-- ---- what stands, with its trail

module _ {TheContent Config TheEdit Node : Type 0} where
  abbrev pub whole_of : CoreValue TheContent Config TheEdit Node → List TraceEntry → WorldValue TheContent Config TheEdit Node
  whole_of core trail = record {
    content = core.content;
    setting = core.setting;
    first_configs = core.first_configs;
    failed = core.failed;
    has_failed = core.has_failed;
    state = record { devices = core.state.devices; entries = core.state.entries; slots = core.state.slots; operators = core.state.operators; trail = trail; has_diverged = core.state.has_diverged };
  }

  -- what came of an elementary event, and what the trail tells of it
  pub applied_so : (core new : CoreValue TheContent Config TheEdit Node) (trail later : List TraceEntry) (event noted : Event) (what : Happened) (c : Came Config Node)
      → new ≡ record core { state = c.after } → what ≡ c.happened → noted ≡ event → later ≡ trail ++ record { event = noted; happened = what } ∷ []
      → (whole_of new later).state ≡ passed (whole_of core trail).state event c
  applied_so core new trail later event noted what c is happened copied told =
      let trail_is = told ∙ ap (λ (w : Happened). trail ++ record { event = noted; happened = w } ∷ []) happened
      ∙ ap (λ (e : Event). trail ++ record { event = e; happened = c.happened } ∷ []) copied in
      ap (λ s. (whole_of s later).state) is ∙ ap (λ t. (whole_of (record core { state = c.after }) t).state) trail_is

  -- the event failed
  pub still_so : (core new : CoreValue TheContent Config TheEdit Node) (trail later : List TraceEntry) → IsAsBefore core new → later ≡ trail → IsStill (whole_of core trail) (whole_of new later)
  still_so core new trail later is same = ap (λ t. whole_of new t) same ∙ ap (λ s. whole_of s trail) is

module _ {TheContent Config TheEdit Node : Type 0} (m : Meaning Config TheEdit Node) where
  -- an event, by what it does to what stands at a moment
  pub come_left : (core : CoreValue TheContent Config TheEdit Node) (trail : List TraceEntry) (event : Event) (old new : DiskState) → KeepsDisk old new
      → (IsSome old.contents → AnyMoment old new (MayRead core.state.entries (entry_of core.setting core.state event)))
      → Journals (whole_of core trail).state (world_step m core.setting (whole_of core trail).state event) old new
  come_left core trail event old new keeps moments = record {
    keeps = keeps;
    any_moment = λ there undiverged.
        let entry = entry_of core.setting core.state event in
        let after = (elementary m core.setting core.state event).after.entries in
        weaker old new (MayRead core.state.entries entry) (IsBetween core.state.entries after)
        (may_between core.state.entries entry after (event_enters m core.setting core.state event)) (moments there);
  }

  pub come_did : (core new : CoreValue TheContent Config TheEdit Node) (trail later : List TraceEntry) (event noted : Event) (what : Happened) (disk after : DiskState)
      → what ≡ (elementary m core.setting core.state event).happened → noted ≡ event → later ≡ trail ++ record { event = noted; happened = what } ∷ []
      → (new.state.has_diverged ≡ false → new ≡ record core { state = (elementary m core.setting core.state event).after })
      → new ≡ record core { state = new.state } → (new.state.has_diverged ≡ false → core.state.has_diverged ≡ false) → (IsSome disk.contents → new.state.has_diverged ≡ core.state.has_diverged)
      → length new.state.operators ≡ length core.state.operators → Fits (core_journal new) after → KeepsDisk disk after
      → (IsSome disk.contents → AnyMoment disk after (MayRead core.state.entries (entry_of core.setting core.state event)))
      → Does (λ w. world_step m core.setting w event) (whole_of core trail) (whole_of new later) disk after
  come_did core new trail later event noted what disk after happened copied tells came others once straight as_many fits keeps moments = record {
    others = ap (λ s. whole_of s later) others;
    done = λ undiverged. applied_so core new trail later event noted what (elementary m core.setting core.state event) (came undiverged) happened copied tells;
    once = once;
    straight = straight;
    operators = as_many;
    fits = fits;
    journals = come_left core trail event disk after keeps moments;
  }
