-- From the world of any run, a drain comes to rest or to a turn of the manager.
use Rattle.std.proofs.Common.{◌≡◌, ◌∙◌, ℕ, zero, suc, ◌+◌, ◌-◌, ◌^◌, ◌≤◌, ◌<◌, List, [], ◌∷◌, length, Option, Some, None, IfSome, slice_get, refl, sym, ap, subst, arith}
use Rattle.std.proofs.lemmas.Option.{slice_get_within}
use Rattle.nm_proto.specs.declared.plan.Event.{Event}
use Rattle.nm_proto.specs.Content.{Meaning, Laws}
use Rattle.nm_world.specs.World.{Setting, WorldState, core_of, manager_in, start, run, world_step}
use Rattle.nm_world.specs.Drain.{goes_on_with, first_ready, drain_by, drain_event, drain_step, drained}
use Rattle.nm_world.proofs.Passing.{other_step}
use Rattle.nm_world.proofs.ToRest.{IsStep, drain_event_is_step}
use Rattle.nm_safety.specs.Safe.{IsProper}
use Rattle.nm_safety.proofs.Drained.{step_given, step_single}
use Rattle.nm_safety.proofs.Lists.{one_longer, some_is, to_some}
use Rattle.nm_safety.proofs.Devices.{run_keeps}
use Rattle.nm_safety.proofs.Sound.{first_at}
use Rattle.nm_rest_laws.specs.Closing.{left_to_close, IsClosed}
use Rattle.nm_rest_laws.specs.Turns.{before_turn, turn_of, IsAtTurn, TurnsWithin, ComesToTurn}
use Rattle.nm_rest_laws.proofs.rest.Closes.{drain_closes}
use Rattle.nm_rest_laws.proofs.rest.Lasting.{Lasts, one_lasts}
use Rattle.nm_rest_laws.proofs.rest.Running.{run_lasts}
use Rattle.nm_rest_laws.proofs.rest.Calm.{IsCalm, calm_if}
use Rattle.nm_rest_laws.proofs.rest.Bounds.{slot_within}
use Rattle.nm_rest_laws.proofs.rest.Turns.{next_is, over, turns_in}

few_of : {A : Type 0} (xs : List A) (base n : ℕ) → base ≤ n → ((d : ℕ) → IfSome (slice_get xs d) (λ _. base + d < n)) → base + length xs ≤ n
few_of [] base n b h = omega (arith, b)
few_of (x ∷ xs) base n b h =
    let one : base + 0 < n = h 0 in
    let later : suc base + length xs ≤ n = few_of xs (suc base) n (omega (arith, one))
    (λ d. to_some (λ _. suc base + d < n) (slice_get xs d) (λ y is. let two : base + suc d < n = some_is y (λ _. base + suc d < n) (slice_get xs d) is (h (suc d)) in omega (arith, two))) in
    omega (arith, later)

module _ {Config TheEdit Node : Type 0} (m : Meaning Config TheEdit Node) (setting : Setting TheEdit) where
  pub drained_more : (a b n : ℕ) (w : WorldState Config Node) → n ≡ a + b → drained m setting n w ≡ drained m setting b (drained m setting a w)
  drained_more zero b n w e = let same : n ≡ b = omega (arith, e) in ap (λ k. drained m setting k w) same
  drained_more (suc a) b zero w e = absurd (omega (arith, e))
  drained_more (suc a) b (suc n) w e = drained_more a b n (drain_step m setting w) (omega (arith, e))

module _ {Config TheEdit Node : Type 0} (m : Meaning Config TheEdit Node) (laws : Laws m) (setting : Setting TheEdit) (running : List Config) (events : List Event) (proper : IsProper {Node = Node} m setting running events) where
  abbrev LastsIn : WorldState Config Node → Type 0
  LastsIn w = Lasts m laws setting proper.edits proper.few proper.strangers w

  -- there are no more devices than a scenario may have
  abbrev HasFew : WorldState Config Node → Type 0
  HasFew w = (d : ℕ) → IfSome (slice_get w.devices d) (λ _. d < 32)

  few_step : (w : WorldState Config Node) (x : Event) → IsStep x → HasFew w → HasFew (world_step m setting w x)
  few_step w x step h = subst HasFew (sym (other_step m setting w x (step_single x step))) (run_keeps m setting (λ place _. place < 32) (λ place r event happened happens small. small) w (x ∷ []) h)

  -- what is kept of a world in which so many events have happened at most
  record IsReached (w : WorldState Config Node) (n : ℕ) : Type 0 where
    lasts : LastsIn w
    devices : HasFew w
    trail : length w.trail ≤ n

  reached_by : (w : WorldState Config Node) (n : ℕ) → IsReached w n → (o : Option Event) → drain_event setting w ≡ o → IsReached (drain_by m setting w o) (suc n)
  reached_by w n k None e = let t = k.trail in record { lasts = k.lasts; devices = k.devices; trail = omega (arith, t) }
  reached_by w n k (Some x) e =
      let step = drain_event_is_step setting w x e in
      let t = k.trail in
      let one : length (world_step m setting w x).trail ≡ suc (length w.trail) = one_longer w.trail _ in
      record {
        lasts = one_lasts m laws setting proper.edits proper.few proper.strangers w x (step_given setting x step) k.lasts;
        devices = few_step w x step k.devices;
        trail = omega (arith, t, one);
      }

  reached_in : (steps : ℕ) (w : WorldState Config Node) (n most : ℕ) → n + steps ≤ most → IsReached w n → IsReached (drained m setting steps w) most
  reached_in zero w n most h k = let t = k.trail in record { lasts = k.lasts; devices = k.devices; trail = omega (arith, t, h) }
  reached_in (suc steps) w n most h k = reached_in steps (drain_step m setting w) (suc n) most (omega (arith, h)) (reached_by w n k (drain_event setting w) refl)

  -- from where nothing is left to close
  from_closed : (w : WorldState Config Node) (n most : ℕ) → IsReached w n → IsClosed setting w → n + most < 2 ^ 32 - 1 → before_turn ≤ most → TurnsWithin m setting w most
  from_closed w n most k closed small enough = by_ready (first_ready (length setting.plans) w.entries) refl
    where
      calm : IsCalm (core_of w)
      calm = calm_if m setting (length w.trail) (core_of w) k.lasts closed.sessions closed.links

      few : length w.devices ≤ 32
      few =
          let all : 0 + length w.devices ≤ 32 = few_of w.devices 0 32 (omega arith)
          (λ d. to_some (λ _. 0 + d < 32) (slice_get w.devices d) (λ r is. let within : d < 32 = some_is r (λ _. d < 32) (slice_get w.devices d) is (k.devices d) in omega (arith, within))) in
          omega (arith, all)

      by_ready : (o : Option ℕ) → first_ready (length setting.plans) w.entries ≡ o → TurnsWithin m setting w most
      by_ready None e =
          over m laws setting proper.edits proper.few proper.strangers w most
          (next_is m laws setting proper.edits proper.few proper.strangers w calm ∙ ap (goes_on_with w.devices (manager_in (core_of w))) e ∙ sym (ap turn_of e))
      by_ready (Some c) e =
          let t = k.trail in
          let low = slot_within w.devices few (slice_get w.slots (c - 1)) in
          turns_in m laws setting proper.edits proper.few proper.strangers most w k.lasts calm (omega (arith, t, small)) c e (omega (arith, low, enough))

  abbrev ran : WorldState Config Node
  ran = run m setting (start setting running) events

  run_reached : IsReached ran (length ran.trail)
  run_reached = record {
    lasts = run_lasts m laws setting running events proper;
    devices = run_keeps m setting (λ place _. place < 32) (λ place r event happened happens small. small) (start setting running) events
        (first_at (λ place _. place < 32) running (λ place first begins. let within : place < length running = slice_get_within running place first begins in omega (arith, within, proper.few_devices)));
    trail = omega arith;
  }

  pub run_comes : ComesToTurn m setting ran
  run_comes small =
      let c = drain_closes m setting ran in
      let few = c.few in
      let t = from_closed (drained m setting c.steps ran) (length ran.trail + left_to_close setting ran) before_turn
      (reached_in c.steps ran (length ran.trail) (length ran.trail + left_to_close setting ran) (omega (arith, few)) run_reached) c.closed (omega (arith, small)) (omega arith) in
      let more = t.few in
      record {
        steps = c.steps + t.steps;
        few = omega (arith, few, more);
        at_turn = subst (IsAtTurn setting) (sym (drained_more m setting c.steps t.steps (c.steps + t.steps) ran refl)) t.at_turn;
      }
