-- A round, rounds, a run, and the steps that bring a world to rest, of their calls.
use Rattle.std.proofs.Common.{◌≡◌, ◌≤◌, ◌<◌, ◌+◌, ℕ, suc, false, List, Option, Some, None, sym, ap, ◌∙◌, subst, arith, length, take, get_or}
use Rattle.std.proofs.lemmas.List.{take_all}
use Rattle.nm_disk.specs.Image.{DiskState}
use Rattle.nm_proto.specs.Content.{Meaning}
use Rattle.nm_proto.specs.declared.plan.Event.{Event}
use Rattle.nm_proto.specs.declared.plan.Event.TheVariants.{Turn, Deliver, Answer}
use Rattle.nm_manager.specs.Manager.{wire_in}
use Rattle.nm_world.specs.declared.happened.Sending.{Sending}
use Rattle.nm_world.specs.Runs.{GoesOnAs, Journals, Does}
use Rattle.nm_world.specs.Drain.{drain_event, drain_step, drained}
use Rattle.nm_world.specs.World.{Setting, WorldState, WorldValue, with_state, core_of, manager_in, elementary, world_step, sending_of, replies_on, last_answered, followed, round, rounds, event_step, run}
use Rattle.nm_world.proofs.Growing.{step_grows}
use Rattle.nm_world.proofs.Passing.{left_more, then_left, then_did, did_as, last_grows, followed_grows, round_grows, rounds_grow, event_grows, run_grows, rounds_more, rounds_further, run_more, run_further, drain_step_grows, drained_grows, drained_more, drained_further, drained_at_rest}

module _ {TheContent Config TheEdit Node : Type 0} (meaning : TheContent → Meaning Config TheEdit Node) (first : WorldValue TheContent Config TheEdit Node) where
  abbrev Act : Type 0
  Act = WorldState Config Node → WorldState Config Node

  abbrev More : Type 1
  More = Meaning Config TheEdit Node → Setting TheEdit → WorldState Config Node → WorldState Config Node

  abbrev here : More → Act
  here more = more (meaning first.content) first.setting

  abbrev GoesTo : WorldState Config Node → WorldState Config Node → Type 0
  GoesTo w after = GoesOnAs w.entries after.entries

  -- a call at what the one before it left
  pub and_did : (act : Act) (more : More) (now later : WorldValue TheContent Config TheEdit Node) (old mid new : DiskState) → GoesTo first.state (act first.state) → GoesTo (act first.state) (here more (act first.state))
      → Does act first now old mid → Does (more (meaning now.content) now.setting) now later mid new → Does (λ w. here more (act w)) first later old new
  and_did act more now later old mid new began goes did next =
      then_did act (here more) first now later old mid new began goes did
      (subst (λ (x : WorldValue TheContent Config TheEdit Node). Does (more (meaning x.content) x.setting) now later mid new) did.others next)

  pub and_left : (act : Act) (more : More) (now : WorldValue TheContent Config TheEdit Node) (old mid new : DiskState) → GoesTo first.state (act first.state) → GoesTo (act first.state) (here more (act first.state))
      → Does act first now old mid → Journals now.state (more (meaning now.content) now.setting now.state) mid new → Journals first.state (here more (act first.state)) old new
  and_left act more now old mid new began goes did left =
      then_left act (here more) first now old mid new began goes did
      (subst (λ (x : WorldValue TheContent Config TheEdit Node). Journals now.state (more (meaning x.content) x.setting now.state) mid new) did.others left)

  -- ---- a round

  abbrev steps : Event → Act
  steps event w = world_step (meaning first.content) first.setting w event

  -- the answer of the last reply
  pub answer_did : (change number : ℕ) (sending : Sending) (now : WorldValue TheContent Config TheEdit Node) (old new : DiskState)
      → number ≡ replies_on (wire_in (manager_in (core_of first.state)) change sending.device) sending.link
      → Does (steps (Answer change sending.device sending.link number)) first now old new → Does (λ w. last_answered (meaning first.content) first.setting w change sending) first now old new
  answer_did change number sending now old new is did =
      did_as (steps (Answer change sending.device sending.link number)) (λ w. last_answered (meaning first.content) first.setting w change sending) first now old new
      (ap (λ n. steps (Answer change sending.device sending.link n) first.state) is) did

  pub answer_left : (change number : ℕ) (sending : Sending) (old new : DiskState)
      → number ≡ replies_on (wire_in (manager_in (core_of first.state)) change sending.device) sending.link
      → Journals first.state (steps (Answer change sending.device sending.link number) first.state) old new → Journals first.state (last_answered (meaning first.content) first.setting first.state change sending) old new
  answer_left change number sending old new is left =
      subst (λ n. Journals first.state (steps (Answer change sending.device sending.link n) first.state) old new) is left

  -- the delivery, and then the answer
  abbrev answers : ℕ → Sending → More
  answers change sending m setting w = last_answered m setting w change sending

  pub follow_did : (change : ℕ) (sending : Sending) (now later : WorldValue TheContent Config TheEdit Node) (old mid new : DiskState) → Does (steps (Deliver change sending.device sending.link)) first now old mid
      → Does (answers change sending (meaning now.content) now.setting) now later mid new → Does (λ w. followed (meaning first.content) first.setting w change (Some sending)) first later old new
  follow_did change sending now later old mid new did next =
      let event = Deliver change sending.device sending.link in
      and_did (steps event) (answers change sending) now later old mid new (step_grows (meaning first.content) first.setting first.state event)
      (last_grows (meaning first.content) first.setting (steps event first.state) change sending) did next

  pub deliver_left : (change : ℕ) (sending : Sending) (old new : DiskState) → Journals first.state (steps (Deliver change sending.device sending.link) first.state) old new
      → Journals first.state (followed (meaning first.content) first.setting first.state change (Some sending)) old new
  deliver_left change sending old new left =
      let now = steps (Deliver change sending.device sending.link) first.state in
      left_more first.state now (here (answers change sending) now) old new
      (last_grows (meaning first.content) first.setting now change sending) left

  pub follow_left : (change : ℕ) (sending : Sending) (now : WorldValue TheContent Config TheEdit Node) (old mid new : DiskState) → Does (steps (Deliver change sending.device sending.link)) first now old mid
      → Journals now.state (answers change sending (meaning now.content) now.setting now.state) mid new → Journals first.state (followed (meaning first.content) first.setting first.state change (Some sending)) old new
  follow_left change sending now old mid new did left =
      let event = Deliver change sending.device sending.link in
      and_left (steps event) (answers change sending) now old mid new (step_grows (meaning first.content) first.setting first.state event)
      (last_grows (meaning first.content) first.setting (steps event first.state) change sending) did left

  -- a turn, and what follows it
  abbrev follows : ℕ → Option Sending → More
  follows change sent m setting w = followed m setting w change sent

  abbrev sent_of : ℕ → Option Sending
  sent_of change = sending_of (elementary (meaning first.content) first.setting (core_of first.state) (Turn change)).happened

  abbrev rounds_to : ℕ → Act
  rounds_to change w = round (meaning first.content) first.setting w change

  round_is : (change : ℕ) (sent : Option Sending) → sent ≡ sent_of change → here (follows change sent) (steps (Turn change) first.state) ≡ rounds_to change first.state
  round_is change sent is = ap (λ s. here (follows change s) (steps (Turn change) first.state)) is

  pub turn_left : (change : ℕ) (old new : DiskState) → Journals first.state (steps (Turn change) first.state) old new → Journals first.state (rounds_to change first.state) old new
  turn_left change old new left =
      let now = steps (Turn change) first.state in
      left_more first.state now (rounds_to change first.state) old new
      (followed_grows (meaning first.content) first.setting now change (sent_of change)) left

  pub idle_did : (change : ℕ) (now : WorldValue TheContent Config TheEdit Node) (old new : DiskState) → None ≡ sent_of change → Does (steps (Turn change)) first now old new → Does (rounds_to change) first now old new
  idle_did change now old new none did =
      did_as (steps (Turn change)) (rounds_to change) first now old new (round_is change None none) did

  pub round_did : (change : ℕ) (sending : Sending) (now later : WorldValue TheContent Config TheEdit Node) (old mid new : DiskState) → Some sending ≡ sent_of change
      → Does (steps (Turn change)) first now old mid → Does (follows change (Some sending) (meaning now.content) now.setting) now later mid new → Does (rounds_to change) first later old new
  round_did change sending now later old mid new sent did next =
      did_as (λ w. here (follows change (Some sending)) (steps (Turn change) w)) (rounds_to change) first later old new (round_is change (Some sending) sent)
      (and_did (steps (Turn change)) (follows change (Some sending)) now later old mid new (step_grows (meaning first.content) first.setting first.state (Turn change))
      (followed_grows (meaning first.content) first.setting (steps (Turn change) first.state) change (Some sending)) did next)

  pub round_left : (change : ℕ) (sending : Sending) (now : WorldValue TheContent Config TheEdit Node) (old mid new : DiskState) → Some sending ≡ sent_of change
      → Does (steps (Turn change)) first now old mid → Journals now.state (follows change (Some sending) (meaning now.content) now.setting now.state) mid new
      → Journals first.state (rounds_to change first.state) old new
  round_left change sending now old mid new sent did left =
      subst (λ (w : WorldState Config Node). Journals first.state w old new) (round_is change (Some sending) sent)
      (and_left (steps (Turn change)) (follows change (Some sending)) now old mid new (step_grows (meaning first.content) first.setting first.state (Turn change))
      (followed_grows (meaning first.content) first.setting (steps (Turn change) first.state) change (Some sending)) did left)

  -- ---- rounds

  abbrev Rounds : ℕ → ℕ → Act
  Rounds n change w = rounds (meaning first.content) first.setting n w change

  abbrev one_round : ℕ → More
  one_round change m setting w = round m setting w change

  rounds_next : (k change : ℕ) → here (one_round change) (Rounds k change first.state) ≡ Rounds (k + 1) change first.state
  rounds_next k change =
      let e : k + 1 ≡ suc k = omega arith in
      sym (ap (λ n. Rounds n change first.state) e ∙ rounds_more (meaning first.content) first.setting k first.state change)

  pub rounds_did : (k change : ℕ) (now later : WorldValue TheContent Config TheEdit Node) (old mid new : DiskState) → Does (Rounds k change) first now old mid
      → Does (one_round change (meaning now.content) now.setting) now later mid new → Does (Rounds (k + 1) change) first later old new
  rounds_did k change now later old mid new did next =
      did_as (λ w. here (one_round change) (Rounds k change w)) (Rounds (k + 1) change) first later old new (rounds_next k change)
      (and_did (Rounds k change) (one_round change) now later old mid new (rounds_grow (meaning first.content) first.setting k first.state change)
      (round_grows (meaning first.content) first.setting (Rounds k change first.state) change) did next)

  pub rounds_left : (k n change : ℕ) (now : WorldValue TheContent Config TheEdit Node) (old mid new : DiskState) → k < n → Does (Rounds k change) first now old mid
      → Journals now.state (one_round change (meaning now.content) now.setting now.state) mid new → Journals first.state (Rounds n change first.state) old new
  rounds_left k n change now old mid new less did left =
      left_more first.state (Rounds (k + 1) change first.state) (Rounds n change first.state) old new
      (rounds_further (meaning first.content) first.setting (k + 1) n first.state change (omega (arith, less)))
      (subst (λ (w : WorldState Config Node). Journals first.state w old new) (rounds_next k change)
      (and_left (Rounds k change) (one_round change) now old mid new (rounds_grow (meaning first.content) first.setting k first.state change)
      (round_grows (meaning first.content) first.setting (Rounds k change first.state) change) did left))

  pub rounds_end : (k n change : ℕ) (now : WorldValue TheContent Config TheEdit Node) (old new : DiskState) → k ≡ n → Does (Rounds k change) first now old new → Does (Rounds n change) first now old new
  rounds_end k n change now old new is did = subst (λ j. Does (Rounds j change) first now old new) is did

  -- ---- a run

  abbrev Run : List Event → Act
  Run events w = run (meaning first.content) first.setting w events

  abbrev one_event : Event → More
  one_event event m setting w = event_step m setting w event

  pub run_did : (events : List Event) (i : ℕ) (event : Event) (now later : WorldValue TheContent Config TheEdit Node) (old mid new : DiskState) → i < length events → event ≡ get_or events i event
      → Does (Run (take i events)) first now old mid → Does (one_event event (meaning now.content) now.setting) now later mid new → Does (Run (take (i + 1) events)) first later old new
  run_did events i event now later old mid new within is did next =
      did_as (λ w. here (one_event event) (Run (take i events) w)) (Run (take (i + 1) events)) first later old new
      (sym (run_more (meaning first.content) first.setting first.state events i event within is))
      (and_did (Run (take i events)) (one_event event) now later old mid new (run_grows (meaning first.content) first.setting first.state (take i events))
      (event_grows (meaning first.content) first.setting (Run (take i events) first.state) event) did next)

  pub run_left : (events : List Event) (i : ℕ) (event : Event) (now : WorldValue TheContent Config TheEdit Node) (old mid new : DiskState) → i < length events → event ≡ get_or events i event
      → Does (Run (take i events)) first now old mid → Journals now.state (one_event event (meaning now.content) now.setting now.state) mid new → Journals first.state (Run events first.state) old new
  run_left events i event now old mid new within is did left =
      left_more first.state (Run (take (i + 1) events) first.state) (Run events first.state) old new
      (run_further (meaning first.content) first.setting first.state (i + 1) events)
      (subst (λ (w : WorldState Config Node). Journals first.state w old new) (sym (run_more (meaning first.content) first.setting first.state events i event within is))
      (and_left (Run (take i events)) (one_event event) now old mid new (run_grows (meaning first.content) first.setting first.state (take i events))
      (event_grows (meaning first.content) first.setting (Run (take i events) first.state) event) did left))

  pub run_end : (events : List Event) (i : ℕ) (now : WorldValue TheContent Config TheEdit Node) (old new : DiskState) → length events ≤ i → Does (Run (take i events)) first now old new → Does (Run events) first now old new
  run_end events i now old new over did = subst (λ l. Does (Run l) first now old new) (take_all i events over) did

  -- ---- steps that bring it to rest

  abbrev Drained : ℕ → Act
  Drained n w = drained (meaning first.content) first.setting n w

  abbrev one_drained : More
  one_drained m setting w = drain_step m setting w

  drained_next : (k : ℕ) → here one_drained (Drained k first.state) ≡ Drained (k + 1) first.state
  drained_next k =
      let e : k + 1 ≡ suc k = omega arith in
      sym (ap (λ n. Drained n first.state) e ∙ drained_more (meaning first.content) first.setting k first.state)

  pub drained_did : (k : ℕ) (now later : WorldValue TheContent Config TheEdit Node) (old mid new : DiskState) → Does (Drained k) first now old mid
      → Does (one_drained (meaning now.content) now.setting) now later mid new → Does (Drained (k + 1)) first later old new
  drained_did k now later old mid new did next =
      did_as (λ w. here one_drained (Drained k w)) (Drained (k + 1)) first later old new (drained_next k)
      (and_did (Drained k) one_drained now later old mid new (drained_grows (meaning first.content) first.setting k first.state)
      (drain_step_grows (meaning first.content) first.setting (Drained k first.state)) did next)

  pub drained_left : (k n : ℕ) (now : WorldValue TheContent Config TheEdit Node) (old mid new : DiskState) → k < n → Does (Drained k) first now old mid
      → Journals now.state (one_drained (meaning now.content) now.setting now.state) mid new → Journals first.state (Drained n first.state) old new
  drained_left k n now old mid new less did left =
      left_more first.state (Drained (k + 1) first.state) (Drained n first.state) old new
      (drained_further (meaning first.content) first.setting (k + 1) n first.state (omega (arith, less)))
      (subst (λ (w : WorldState Config Node). Journals first.state w old new) (drained_next k)
      (and_left (Drained k) one_drained now old mid new (drained_grows (meaning first.content) first.setting k first.state)
      (drain_step_grows (meaning first.content) first.setting (Drained k first.state)) did left))

  pub drained_end : (k n : ℕ) (now : WorldValue TheContent Config TheEdit Node) (old new : DiskState) → k ≡ n → Does (Drained k) first now old new → Does (Drained n) first now old new
  drained_end k n now old new is did = subst (λ j. Does (Drained j) first now old new) is did

  -- it came to rest before
  pub drained_early : (k n : ℕ) (now : WorldValue TheContent Config TheEdit Node) (old new : DiskState) → k ≤ n → Does (Drained k) first now old new → drain_event now.setting now.state ≡ None
      → now.state.has_diverged ≡ false → now ≡ with_state first (Drained n first.state)
  drained_early k n now old new le did rests undiverged =
      let done = did.done undiverged in
      let rest : drain_event first.setting (Drained k first.state) ≡ None =
      ap (drain_event first.setting) (sym done) ∙ sym (ap (λ (w : WorldValue TheContent Config TheEdit Node). drain_event w.setting now.state) did.others) ∙ rests in
      did.others ∙ ap (with_state first) (done ∙ drained_at_rest (meaning first.content) first.setting k n first.state le rest)
