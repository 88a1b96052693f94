-- The steps of a drain in a calm world: a request is delivered, a reply is answered, or the manager has its turn.
use Rattle.std.proofs.Common.{◌≡◌, ◌∙◌, inl, inr, ℕ, ◌-◌, ◌≤◌, List, [], length, Bool, true, false, Option, Some, None, slice_get, refl, sym, ap, subst}
use Rattle.std.proofs.lemmas.Option.{none-some, same_Some}
use Rattle.nm_base.specs.Token.{token_of}
use Rattle.nm_proto.specs.declared.plan.Event.{Event}
use Rattle.nm_proto.specs.declared.plan.Event.TheVariants.{Deliver, Answer, Turn}
use Rattle.nm_proto.specs.Content.{Meaning}
use Rattle.nm_resync.specs.Resync.{ResyncState}
use Rattle.nm_wire.specs.Wire.{WireState, no_links}
use Rattle.nm_history.specs.History.{RecordedState}
use Rattle.nm_manager.specs.Queues.{is_ready_in}
use Rattle.nm_manager.specs.Slot.{wire_of_side}
use Rattle.nm_manager.specs.Manager.{ManagerState, wire_in as links_to}
use Rattle.nm_world.specs.World.{manager_in}
use Rattle.nm_world.specs.Drain.{found_or, first_from, lose_first, break_on, deliver_on, answer_on, at_pair, at_devices}
use Rattle.nm_world.specs.Drain.{leaves, ready_at, first_ready, loses_links, goes_on, goes_on_with, drain_of}
use Rattle.nm_world.proofs.Numbered.{found_in, one_of}
use Rattle.nm_rest_laws.proofs.calm.Forms.{Form, Phase, IsFair, is_fair, delivers, answers}
use Rattle.nm_rest_laws.proofs.calm.Forms.Form.{Rests, Asks, Tells}
use Rattle.nm_rest_laws.proofs.calm.Forms.Phase.{Undecided, Committed, Over}
use Rattle.nm_rest_laws.proofs.calm.Core.{Given, Sight, entries_in, core, links_in, number_in, Own, recorded_in, IsAt, IsGood, Next, Here}
use Rattle.nm_rest_laws.proofs.calm.Steps.{delivered, answered}
use Rattle.nm_rest_laws.proofs.calm.Turns.{turned_goes}

-- ---- the change set that is ready

abbrev ready_in : Phase → Option ℕ
ready_in Undecided = Some 1
ready_in Committed = Some 1
ready_in (Over kept) = None

module _ {Config TheEdit : Type 0} (g : Given Config TheEdit) where
  ready_is : (phase : Phase) → first_ready 1 (entries_in g phase) ≡ ready_in phase
  unfolding first_from ready_at
  ready_is Undecided = refl
  ready_is Committed = refl
  ready_is (Over kept) = refl

  -- it is change set 1
  record IsOne (phase : Phase) (change : ℕ) : Type 0 where
    one : change ≡ 1
    ready : is_ready_in (entries_in g phase) 1 ≡ true

  ready_one : (phase : Phase) (change : ℕ) → ready_in phase ≡ Some change → IsOne phase change
  ready_one Undecided change e = record { one = sym (same_Some 1 change e); ready = refl }
  ready_one Committed change e = record { one = sym (same_Some 1 change e); ready = refl }
  ready_one (Over kept) change e = absurd (none-some change e)

-- ---- what is looked for at a device

module _ {Config Node : Type 0} where
  abbrev loses : ℕ → RecordedState Config Node → WireState → Option Event
  loses d r wire = lose_first r wire 1 d

  abbrev breaks : ℕ → RecordedState Config Node → WireState → Option Event
  breaks d r wire = break_on r wire 1 d

  abbrev delivers_at : ℕ → RecordedState Config Node → WireState → Option Event
  delivers_at d r wire = deliver_on r wire 1 d

  abbrev answers_at : ℕ → RecordedState Config Node → WireState → Option Event
  answers_at d r wire = answer_on wire 1 d

  -- no link is left where there is none
  none_lost : (r : RecordedState Config Node) (d : ℕ) → lose_first r no_links 1 d ≡ None
  unfolding first_from
  none_lost r d = refl

module _ {Config Node : Type 0} (devices : List (RecordedState Config Node)) (state : ManagerState) where
  abbrev on_device : (ℕ → RecordedState Config Node → WireState → Option Event) → ℕ → Option (RecordedState Config Node) → Option Event
  on_device find d None = None
  on_device find d (Some r) = find d r (links_to state 1 d)

  abbrev finds : (ℕ → RecordedState Config Node → WireState → Option Event) → Option Event
  finds find = first_from (λ d. on_device find d (slice_get devices (d - 1))) 1 (length devices)

none_left : {Config Node : Type 0} (devices : List (RecordedState Config Node)) → leaves devices [] ≡ None
unfolding first_from
none_left devices = refl

module _ {Config TheEdit Node : Type 0} (m : Meaning Config TheEdit Node) (g : Given Config TheEdit)
    (waits : 1 ≤ g.plan.timeout) (s : Sight Config Node) (good : IsGood m g s) where
  abbrev state : ManagerState
  state = manager_in (core g s)

  -- what is found there brings on a world of a calm run
  record BringsOn (find : ℕ → RecordedState Config Node → WireState → Option Event) : Type 0 where
    none : (d : ℕ) (r : RecordedState Config Node) → find d r no_links ≡ None
    step : (d : ℕ) (own : Own m g (d - 1)) (sent : ℕ) (resync : ResyncState) (form : Form) → Here m g s d own sent resync form → (x : Event)
        → find d (recorded_in m g own form) (links_in g own.planned form) ≡ Some x → Next m g s x

  fair : (d : ℕ) (own : Own m g (d - 1)) (form : Form) → IsFair m g.tables (token_of 1) g.plan.timeout own.planned own.free.makes.first own.free.made d form
  fair d own form = is_fair m g.tables (token_of 1) g.plan.timeout own.planned own.free.makes.first own.free.made d form

  lose_brings : BringsOn loses
  lose_brings = record { none = λ d r. none_lost r d; step = λ d own sent resync form h x e. absurd (none-some x (sym (fair d own form).kept ∙ e)) }

  break_brings : BringsOn breaks
  break_brings = record { none = λ d r. refl; step = λ d own sent resync form h x e. absurd (none-some x (sym (fair d own form).whole ∙ e)) }

  deliver_brings : BringsOn delivers_at
  deliver_brings =
      record { none = λ d r. refl; step = λ d own sent resync form h x e. by_form d own sent resync form h x (sym (fair d own form).delivered ∙ e) }
    where
      by_form : (d : ℕ) (own : Own m g (d - 1)) (sent : ℕ) (resync : ResyncState) (form : Form) → Here m g s d own sent resync form → (x : Event)
          → delivers m g.tables (token_of 1) g.plan.timeout own.planned own.free.makes.first own.free.made d form ≡ Some x → Next m g s x
      by_form d own sent resync (Rests stop) h x e = absurd (none-some x e)
      by_form d own sent resync (Tells leg) h x e = absurd (none-some x e)
      by_form d own sent resync (Asks leg) h x e = subst (Next m g s) (same_Some (Deliver 1 d 1) x e) (delivered m g waits s good d own sent resync leg h)

  answer_brings : BringsOn answers_at
  answer_brings =
      record { none = λ d r. refl; step = λ d own sent resync form h x e. by_form d own sent resync form h x (sym (fair d own form).answered ∙ e) }
    where
      by_form : (d : ℕ) (own : Own m g (d - 1)) (sent : ℕ) (resync : ResyncState) (form : Form) → Here m g s d own sent resync form → (x : Event)
          → answers m g.tables (token_of 1) g.plan.timeout own.planned own.free.makes.first own.free.made d form ≡ Some x → Next m g s x
      by_form d own sent resync (Rests stop) h x e = absurd (none-some x e)
      by_form d own sent resync (Asks leg) h x e = absurd (none-some x e)
      by_form d own sent resync (Tells leg) h x e =
          subst (Next m g s) (same_Some (Answer 1 d 1 (number_in g own.planned leg)) x e) (answered m g waits s good d own sent resync leg h)

  -- ---- among the devices

  module _ (find : ℕ → RecordedState Config Node → WireState → Option Event) (brings : BringsOn find) where
    at_place : (d : ℕ) (x : Event) → IsAt m g s.phase (d - 1) (slice_get s.seats (d - 1)) (slice_get s.sides (d - 1)) (slice_get s.devices (d - 1))
        → on_device s.devices state find d (slice_get s.devices (d - 1)) ≡ Some x → Next m g s x
    at_place d x (inl t) e =
        brings.step d t.own t.sent t.resync t.form (record { may = t.may; seat = t.seat_is; side = t.side_is; r = t.r_is }) x
        (sym (ap (on_device s.devices state find d) t.r_is ∙ ap (λ o. find d (recorded_in m g t.own t.form) (wire_of_side o)) t.side_is) ∙ e)
    at_place d x (inr b) e = by_device (slice_get s.devices (d - 1)) e
      where
        by_device : (r : Option (RecordedState Config Node)) → on_device s.devices state find d r ≡ Some x → Next m g s x
        by_device None e = absurd (none-some x e)
        by_device (Some r) e = absurd (none-some x (sym (ap (find d r) b.unlinked ∙ brings.none d r) ∙ e))

    find_goes : (x : Event) → finds s.devices state find ≡ Some x → Next m g s x
    find_goes x e =
        let f = found_in (λ d. on_device s.devices state find d (slice_get s.devices (d - 1))) 1 (length s.devices) x e in
        at_place f.number x (good.each (f.number - 1)) f.found

  -- ---- a step

  three : (first second third : Option Event) (x : Event) → found_or first (found_or second (found_or third (Some (Turn 1)))) ≡ Some x
      → (first ≡ Some x → Next m g s x) → (second ≡ Some x → Next m g s x) → (third ≡ Some x → Next m g s x) → Next m g s (Turn 1) → Next m g s x
  three (Some y) second third x e a b c turned = a e
  three None (Some y) third x e a b c turned = b e
  three None None (Some y) x e a b c turned = c e
  three None None None x e a b c turned = subst (Next m g s) (same_Some (Turn 1) x e) turned

  goes_now : (x : Event) → Next m g s (Turn 1) → goes_on s.devices state 1 ≡ Some x → Next m g s x
  unfolding at_devices at_pair
  goes_now x turned e =
      three (finds s.devices state breaks) (finds s.devices state delivers_at) (finds s.devices state answers_at) x e
      (find_goes breaks break_brings x) (find_goes delivers_at deliver_brings x) (find_goes answers_at answer_brings x) turned

  alone : (found : Option Event) (x : Event) → found_or found None ≡ Some x → (found ≡ Some x → Next m g s x) → Next m g s x
  alone None x e a = absurd (none-some x e)
  alone (Some y) x e a = a e

  loses_now : (x : Event) → loses_links s.devices state 1 ≡ Some x → Next m g s x
  unfolding at_devices at_pair first_from
  loses_now x e = alone (finds s.devices state loses) x e (find_goes loses lose_brings x)

  turn : (ready : Option ℕ) → ready_in s.phase ≡ ready → (x : Event) → goes_on_with s.devices state ready ≡ Some x → Next m g s x
  turn None r x e = absurd (none-some x e)
  turn (Some c) r x e =
      let o = ready_one g s.phase c r in
      goes_now x (turned_goes m g waits s good o.ready) (sym (ap (goes_on s.devices state) o.one) ∙ e)

  abbrev rest : Option Event
  rest = goes_on_with s.devices state (first_ready 1 (entries_in g s.phase))

  pub drain_goes : (x : Event) → drain_of s.devices state 1 [] ≡ Some x → Next m g s x
  drain_goes x e =
      one_of (Next m g s) (leaves s.devices []) (found_or (loses_links s.devices state 1) rest) x (λ y f. absurd (none-some y (sym (none_left s.devices) ∙ f)))
      (λ y. one_of (Next m g s) (loses_links s.devices state 1) rest y loses_now (turn (first_ready 1 (entries_in g s.phase)) (sym (ready_is g s.phase)))) e

-- ---- at rest

-- the change set is ended
abbrev pub is_over : Phase → Bool
is_over Undecided = false
is_over Committed = false
is_over (Over kept) = true

-- the last of several is there
some_last : {A : Type 0} (o : Option A) (x : A) → found_or o (Some x) ≡ None → ⊥
some_last None x e = none-some x (sym e)
some_last (Some y) x e = none-some y (sym e)

second_none : {A : Type 0} (o later : Option A) → found_or o later ≡ None → later ≡ None
second_none None later e = e
second_none (Some y) later e = absurd (none-some y (sym e))

module _ {Config Node : Type 0} (devices : List (RecordedState Config Node)) where
  no_three : (first second third : Option Event) → found_or first (found_or second (found_or third (Some (Turn 1)))) ≡ None → ⊥
  no_three first second third e =
      some_last third (Turn 1) (second_none second (found_or third (Some (Turn 1))) (second_none first (found_or second (found_or third (Some (Turn 1)))) e))

  goes_some : (now : ManagerState) → goes_on devices now 1 ≡ None → ⊥
  unfolding at_devices at_pair
  goes_some now e = no_three (finds devices now breaks) (finds devices now delivers_at) (finds devices now answers_at) e

module _ {Config TheEdit Node : Type 0} (g : Given Config TheEdit) (s : Sight Config Node) where
  abbrev now : ManagerState
  now = manager_in (core g s)

  abbrev later : Option Event
  later = goes_on_with s.devices now (first_ready 1 (entries_in g s.phase))

  restless : ready_in s.phase ≡ Some 1 → drain_of s.devices now 1 [] ≡ None → ⊥
  restless ready e =
      let goes : later ≡ None =
      second_none (loses_links s.devices now 1) later (second_none (leaves s.devices []) (found_or (loses_links s.devices now 1) later) e) in
      goes_some s.devices now (sym (ap (goes_on_with s.devices now) (ready_is g s.phase ∙ ready)) ∙ goes)

  pub at_rest : drain_of s.devices now 1 [] ≡ None → is_over s.phase ≡ true
  at_rest e = by_phase s.phase refl
    where
      by_phase : (phase : Phase) → s.phase ≡ phase → is_over s.phase ≡ true
      by_phase Undecided is = absurd (restless (ap ready_in is) e)
      by_phase Committed is = absurd (restless (ap ready_in is) e)
      by_phase (Over kept) is = ap is_over is
