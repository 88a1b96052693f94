-- From the world of any run, a drain comes to rest.
use Rattle.std.proofs.Common.{◌≡◌, ◌≢◌, ◌∙◌, ℕ, zero, suc, ◌+◌, ◌-◌, ◌*◌, ◌^◌, ◌≤◌, ◌<◌, true, false, List, length, Option, Some, None, IfSome, slice_get, refl, sym, ap, subst, arith}
use Rattle.std.specs.List.{All}
use Rattle.std.proofs.lemmas.List.{length-map}
use Rattle.std.proofs.lemmas.Option.{none-some}
use Rattle.nm_proto.specs.declared.plan.Event.{Event}
use Rattle.nm_proto.specs.Content.{Meaning, Laws}
use Rattle.nm_device.specs.Device.{is_manager}
use Rattle.nm_history.specs.History.{recorded}
use Rattle.nm_world.specs.declared.happened.Happened.TheVariants as happened
use Rattle.nm_world.specs.World.{Setting, CoreState, WorldState, core_of, manager_in, elementary, world_step, start, run}
use Rattle.nm_world.specs.Drain.{found_or, leaves, loses_links, goes_on_with, first_ready, drain_by, drain_event, drained}
use Rattle.nm_world.proofs.ToRest.{drain_event_is_step}
use Rattle.nm_safety.specs.Safe.{IsProper}
use Rattle.nm_rest_laws.specs.Closing.{left_to_close, sessions_left, links_left}
use Rattle.nm_rest_laws.specs.Rest.{HasDevices, IsMoving, RestsWithin, ComesToRest}
use Rattle.nm_rest_laws.proofs.rest.Closes.{leave_found, lose_found}
use Rattle.nm_rest_laws.proofs.rest.Calm.{IsCalm, calm_if}
use Rattle.nm_rest_laws.proofs.rest.Running.{start_lasts}
use Rattle.nm_safety.proofs.Drained.{step_given}
use Rattle.nm_safety.proofs.Lists.{one_longer}
use Rattle.nm_safety.proofs.Steps.{run_keeps}
use Rattle.nm_rest_laws.proofs.rest.Turns.{next_is}
use Rattle.nm_rest_laws.proofs.rest.Plain.{is_turn, leaves_plain, loses_plain}
use Rattle.nm_rest_laws.proofs.rest.Idle.{idle_stays}
use Rattle.nm_rest_laws.proofs.rest.Ending.{IsKnown, known_step, total_now, total_within, step_falls}

-- ---- the steps of a drain

module _ {Config TheEdit Node : Type 0} (m : Meaning Config TheEdit Node) (setting : Setting TheEdit) where
  pub stays : (w : WorldState Config Node) → drain_event setting w ≡ None → (n : ℕ) → drained m setting n w ≡ w
  stays w e zero = refl
  stays w e (suc n) = ap (λ o. drained m setting n (drain_by m setting w o)) e ∙ stays w e n

  -- a world at rest
  pub over : (w : WorldState Config Node) (most : ℕ) → drain_event setting w ≡ None → RestsWithin m setting w most
  over w most e = record {
    steps = 0;
    few = omega arith;
    at_rest = e;
    moves = λ n. subst (IsMoving m setting) (sym (stays w e n)) (subst (λ o. IfSome o (λ event. (elementary m setting (core_of w) event).happened ≢ happened.Idle)) (sym e) tt);
  }

  -- a step before
  pub one_more : (w : WorldState Config Node) (x : Event) (most : ℕ) → drain_event setting w ≡ Some x → (elementary m setting (core_of w) x).happened ≢ happened.Idle → RestsWithin m setting (world_step m setting w x) most
      → RestsWithin m setting w (suc most)
  one_more w x most e moves t = record {
    steps = suc t.steps;
    few = omega (arith, t.few);
    at_rest = subst (λ v. drain_event setting (drained m setting t.steps v) ≡ None) (sym (ap (drain_by m setting w) e)) t.at_rest;
    moves = each;
  }
    where
      each : (n : ℕ) → IsMoving m setting (drained m setting n w)
      each zero = subst (λ o. IfSome o (λ event. (elementary m setting (core_of w) event).happened ≢ happened.Idle)) (sym e) moves
      each (suc n) = subst (λ v. IsMoving m setting (drained m setting n v)) (sym (ap (drain_by m setting w) e)) (t.moves n)

  -- what closes something isn't idle
  closes_moves : (w : WorldState Config Node) (x : Event) → drain_event setting w ≡ Some x → is_turn x ≡ false → suc (left_to_close setting (world_step m setting w x)) ≤ left_to_close setting w → (elementary m setting (core_of w) x).happened ≢ happened.Idle
  closes_moves w x e plain less idle_now =
      let same = idle_stays m setting (core_of w) x (drain_event_is_step setting w x e) plain idle_now in
      let left : left_to_close setting (world_step m setting w x) ≡ left_to_close setting w =
      ap (λ (one : CoreState Config Node). sessions_left one.devices one.operators + links_left one.devices (manager_in one) (length setting.plans)) same in
      absurd (omega (arith, less, left))

module _ {Config TheEdit Node : Type 0} (m : Meaning Config TheEdit Node) (laws : Laws m) (setting : Setting TheEdit) (edits : All m.edit_belongs setting.tables.edits) (few : length setting.plans ≤ 64)
    (strangers : (number : ℕ) → IfSome (slice_get setting.users number) (λ user. is_manager (Some user) ≡ false)) (count : ℕ) (count_few : count ≤ 32) (devices : HasDevices setting count) where
  abbrev Known : WorldState Config Node → Type 0
  Known w = IsKnown m laws setting edits few strangers count count_few devices w

  abbrev left_now : WorldState Config Node → ℕ
  left_now w = total_now m laws setting edits few strangers count count_few devices w

  known_next : (w : WorldState Config Node) (x : Event) → drain_event setting w ≡ Some x → Known w → Known (world_step m setting w x)
  known_next w x d k = known_step m laws setting edits few strangers count count_few devices w x (step_given setting x (drain_event_is_step setting w x d)) k

  longer : (w : WorldState Config Node) (x : Event) (n : ℕ) → length w.trail + suc n < 2 ^ 32 - 1 → length (world_step m setting w x).trail + n < 2 ^ 32 - 1
  longer w x n small = let long : length (world_step m setting w x).trail ≡ suc (length w.trail) = one_longer w.trail _ in omega (arith, long, small)

  -- ---- from where nothing is left to close

  rests_by : (n : ℕ) (w : WorldState Config Node) → Known w → IsCalm (core_of w) → length w.trail + n < 2 ^ 32 - 1 → left_now w ≤ n
      → ((i : ℕ) (next : WorldState Config Node) → n ≡ suc i → Known next → IsCalm (core_of next) → length next.trail + i < 2 ^ 32 - 1 → left_now next ≤ i → RestsWithin m setting next i)
      → (ready : Option ℕ) → first_ready (length setting.plans) w.entries ≡ ready → (o : Option Event) → drain_event setting w ≡ o → RestsWithin m setting w n
  rests_by n w k calm small low later ready e None d = over m setting w n d
  rests_by n w k calm small low later None e (Some x) d =
      absurd (none-some x (sym (next_is m laws setting edits few strangers w calm ∙ ap (goes_on_with w.devices (manager_in (core_of w))) e) ∙ d))
  rests_by n w k calm small low later (Some c) e (Some x) d = by_number n small low later
    where
      by_number : (n : ℕ) → length w.trail + n < 2 ^ 32 - 1 → left_now w ≤ n
          → ((i : ℕ) (next : WorldState Config Node) → n ≡ suc i → Known next → IsCalm (core_of next) → length next.trail + i < 2 ^ 32 - 1 → left_now next ≤ i → RestsWithin m setting next i) → RestsWithin m setting w n
      by_number zero small low later =
          let f = step_falls m laws setting edits few strangers count count_few devices w k calm (omega (arith, small)) c e x d in
          let less = f.less in
          absurd (omega (arith, less, low))
      by_number (suc n) small low later =
          let f = step_falls m laws setting edits few strangers count count_few devices w k calm (omega (arith, small)) c e x d in
          let less = f.less in
          one_more m setting w x n d f.moves (later n (world_step m setting w x) refl (known_next w x d k) f.calm (longer w x n small) (omega (arith, less, low)))

  pub rests_in : (n : ℕ) (w : WorldState Config Node) → Known w → IsCalm (core_of w) → length w.trail + n < 2 ^ 32 - 1 → left_now w ≤ n → RestsWithin m setting w n
  rests_in zero w k calm small low = rests_by zero w k calm small low (λ i next is. absurd (let f : 0 ≡ suc i = is in cc)) (first_ready (length setting.plans) w.entries) refl (drain_event setting w) refl
  rests_in (suc n) w k calm small low =
      rests_by (suc n) w k calm small low
      (λ i next is. subst (λ j. Known next → IsCalm (core_of next) → length next.trail + j < 2 ^ 32 - 1 → left_now next ≤ j → RestsWithin m setting next j) (pred i is) (rests_in n next))
      (first_ready (length setting.plans) w.entries) refl (drain_event setting w) refl
    where
      pred : (i : ℕ) → suc n ≡ suc i → n ≡ i
      pred i is = omega (arith, is)

  -- ---- what is left to close closes before

  abbrev most : ℕ
  most = length setting.plans * 9321

  abbrev rest : WorldState Config Node → Option Event
  rest w = goes_on_with w.devices (manager_in (core_of w)) (first_ready (length setting.plans) w.entries)

  abbrev Later : ℕ → Type 0
  Later n = (i : ℕ) (next : WorldState Config Node) → n ≡ suc i → Known next → length next.trail + (i + most) < 2 ^ 32 - 1 → left_to_close setting next ≤ i → RestsWithin m setting next (i + most)

  one_closes : (w : WorldState Config Node) → Known w → (x : Event) → drain_event setting w ≡ Some x → is_turn x ≡ false → suc (left_to_close setting (world_step m setting w x)) ≤ left_to_close setting w
      → (n : ℕ) → length w.trail + (n + most) < 2 ^ 32 - 1 → left_to_close setting w ≤ n → Later n → RestsWithin m setting w (n + most)
  one_closes w k x d plain less zero small low later = absurd (omega (arith, less, low))
  one_closes w k x d plain less (suc n) small low later =
      let same : suc (n + most) ≡ suc n + most = omega arith in
      let next = later n (world_step m setting w x) refl (known_next w x d k) (longer w x (n + most) (omega (arith, small))) (omega (arith, less, low)) in
      subst (RestsWithin m setting w) same (one_more m setting w x (n + most) d (closes_moves m setting w x d plain less) next)

  closes_by : (n : ℕ) (w : WorldState Config Node) → Known w → length w.trail + (n + most) < 2 ^ 32 - 1 → left_to_close setting w ≤ n → Later n
      → (leaving losing : Option Event) → leaves w.devices w.operators ≡ leaving → loses_links w.devices (manager_in (core_of w)) (length setting.plans) ≡ losing → RestsWithin m setting w (n + most)
  closes_by n w k small low later None None is lose =
      let within = total_within m laws setting edits few strangers count count_few devices w k in
      rests_in (n + most) w k (calm_if m setting (length w.trail) (core_of w) k.lasts is lose) small (omega (arith, within))
  closes_by n w k small low later (Some x) losing is lose =
      one_closes w k x (ap (λ o. found_or o (found_or (loses_links w.devices (manager_in (core_of w)) (length setting.plans)) (rest w))) is) (leaves_plain w.devices w.operators x is) (leave_found m setting w x is) n small low later
  closes_by n w k small low later None (Some x) is lose =
      one_closes w k x (ap (λ o. found_or o (found_or (loses_links w.devices (manager_in (core_of w)) (length setting.plans)) (rest w))) is ∙ ap (λ o. found_or o (rest w)) lose)
      (loses_plain w.devices (manager_in (core_of w)) (length setting.plans) x lose) (lose_found m setting w x lose) n small low later

  pub closes_in : (n : ℕ) (w : WorldState Config Node) → Known w → length w.trail + (n + most) < 2 ^ 32 - 1 → left_to_close setting w ≤ n → RestsWithin m setting w (n + most)
  closes_in zero w k small low =
      closes_by zero w k small low (λ i next is. absurd (let f : 0 ≡ suc i = is in cc)) (leaves w.devices w.operators) (loses_links w.devices (manager_in (core_of w)) (length setting.plans)) refl refl
  closes_in (suc n) w k small low =
      closes_by (suc n) w k small low
      (λ i next is. subst (λ j. Known next → length next.trail + (j + most) < 2 ^ 32 - 1 → left_to_close setting next ≤ j → RestsWithin m setting next (j + most)) (pred i is) (closes_in n next))
      (leaves w.devices w.operators) (loses_links w.devices (manager_in (core_of w)) (length setting.plans)) refl refl
    where
      pred : (i : ℕ) → suc n ≡ suc i → n ≡ i
      pred i is = omega (arith, is)

-- ---- a whole run

module _ {Config TheEdit Node : Type 0} (m : Meaning Config TheEdit Node) (laws : Laws m) (setting : Setting TheEdit) (running : List Config) (events : List Event) (proper : IsProper {Node = Node} m setting running events)
    (devices : HasDevices setting (length running)) where
  abbrev KnownIn : WorldState Config Node → Type 0
  KnownIn w = IsKnown m laws setting proper.edits proper.few proper.strangers (length running) proper.few_devices devices w

  abbrev pub ran : WorldState Config Node
  ran = run m setting (start setting running) events

  start_known : KnownIn (start setting running)
  start_known = record {
    lasts = start_lasts m laws setting running events proper;
    once = λ change h. absurd (let f : false ≡ true = h in cc);
    many = length-map running recorded;
  }

  run_known : KnownIn ran
  run_known =
      run_keeps m setting KnownIn (λ w event given k. known_step m laws setting proper.edits proper.few proper.strangers (length running) proper.few_devices devices w event given k)
      (start setting running) events proper.given start_known

  pub run_rests : ComesToRest m setting ran
  run_rests small =
      closes_in m laws setting proper.edits proper.few proper.strangers (length running) proper.few_devices devices (left_to_close setting ran) ran run_known small (omega arith)
