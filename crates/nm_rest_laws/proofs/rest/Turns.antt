-- From a world in which nothing is left to close, a drain comes to rest or to a turn of the manager.
use Rattle.std.proofs.Common.{◌≡◌, ◌∙◌, ◌⊎◌, inl, inr, ℕ, zero, suc, ◌+◌, ◌-◌, ◌^◌, ◌≤◌, ◌<◌, false, length, Option, Some, None, IfSome, slice_get, refl, sym, ap, subst, arith}
use Rattle.std.specs.List.{All}
use Rattle.nm_proto.specs.declared.plan.Event.{Event}
use Rattle.nm_proto.specs.declared.plan.Event.TheVariants.{Turn}
use Rattle.nm_proto.specs.Content.{Meaning, Laws}
use Rattle.nm_device.specs.Device.{is_manager}
use Rattle.nm_world.specs.World.{Setting, WorldState, core_of, manager_in, world_step}
use Rattle.nm_world.specs.Drain.{found_or, leaves, loses_links, goes_on, goes_on_with, first_ready, drain_by, drain_event, drained}
use Rattle.nm_world.proofs.ToRest.{drain_event_is_step}
use Rattle.nm_safety.proofs.Drained.{step_given}
use Rattle.nm_safety.proofs.Lists.{one_longer}
use Rattle.nm_rest_laws.proofs.rest.Measure.{slot_rank}
use Rattle.nm_rest_laws.specs.Turns.{turn_of, IsAtTurn, TurnsWithin}
use Rattle.nm_rest_laws.proofs.rest.Calm.{IsCalm}
use Rattle.nm_rest_laws.proofs.rest.Lasting.{Lasts, one_lasts}
use Rattle.nm_rest_laws.proofs.rest.PairSteps.{IsPairStep, rank_falls, stays_calm}
use Rattle.nm_rest_laws.proofs.rest.Resting.{goes_so, goes_some, no_leave, no_lose}

module _ {Config TheEdit Node : Type 0} (m : Meaning Config TheEdit Node) (laws : Laws m) (setting : Setting TheEdit) (edits : All m.edit_belongs setting.tables.edits) (few : length setting.plans ≤ 64)
    (strangers : (number : ℕ) → IfSome (slice_get setting.users number) (λ user. is_manager (Some user) ≡ false)) where
  abbrev L : WorldState Config Node → Type 0
  L w = Lasts m laws setting edits few strangers w

  abbrev rank_of : WorldState Config Node → Option ℕ → ℕ
  rank_of w None = 0
  rank_of w (Some c) = slot_rank w.devices (slice_get w.slots (c - 1))

  -- the next step is of the ready change set
  pub next_is : (w : WorldState Config Node) → IsCalm (core_of w) → drain_event setting w ≡ goes_on_with w.devices (manager_in (core_of w)) (first_ready (length setting.plans) w.entries)
  next_is w calm = by_leave (leaves w.devices w.operators) refl (loses_links w.devices (manager_in (core_of w)) (length setting.plans)) refl
    where
      rest : Option Event
      rest = goes_on_with w.devices (manager_in (core_of w)) (first_ready (length setting.plans) w.entries)

      by_leave : (a : Option Event) → leaves w.devices w.operators ≡ a → (b : Option Event) → loses_links w.devices (manager_in (core_of w)) (length setting.plans) ≡ b → found_or a (found_or b rest) ≡ rest
      by_leave (Some x) e b f = absurd (no_leave m setting 0 (core_of w) calm x e)
      by_leave None e (Some x) f = absurd (no_lose m setting 0 (core_of w) calm (length setting.plans) x f)
      by_leave None e None f = refl

  pub over : (w : WorldState Config Node) (most : ℕ) → IsAtTurn setting w → TurnsWithin m setting w most
  over w most e = record { steps = 0; few = omega arith; at_turn = e }

  one_more : (w : WorldState Config Node) (x : Event) (most : ℕ) → drain_event setting w ≡ Some x → TurnsWithin m setting (world_step m setting w x) most → TurnsWithin m setting w (suc most)
  one_more w x most e t = record {
    steps = suc t.steps;
    few = omega (arith, t.few);
    at_turn = subst (λ v. IsAtTurn setting (drained m setting t.steps v)) (sym (ap (drain_by m setting w) e)) t.at_turn;
  }

  step_in : (n : ℕ) (w : WorldState Config Node) → L w → IsCalm (core_of w) → length w.trail + n < 2 ^ 32 - 1 → (c : ℕ) → first_ready (length setting.plans) w.entries ≡ Some c → rank_of w (Some c) ≤ n
      → ((k : ℕ) (next : WorldState Config Node) → n ≡ suc k → L next → IsCalm (core_of next) → length next.trail + k < 2 ^ 32 - 1 → first_ready (length setting.plans) next.entries ≡ Some c → rank_of next (Some c) ≤ k → TurnsWithin m setting next k)
      → (o : Option Event) → drain_event setting w ≡ o → goes_on w.devices (manager_in (core_of w)) c ≡ o → TurnsWithin m setting w n
  step_in n w k calm small c e low later None d f = absurd (goes_some m setting (length w.trail) (core_of w) k calm (omega (arith, small)) c f)
  step_in n w k calm small c e low later (Some x) d f = by_kind n small low later (goes_so m setting (length w.trail) (core_of w) k calm (omega (arith, small)) c x f)
    where
      by_kind : (n : ℕ) → length w.trail + n < 2 ^ 32 - 1 → rank_of w (Some c) ≤ n
          → ((k : ℕ) (next : WorldState Config Node) → n ≡ suc k → L next → IsCalm (core_of next) → length next.trail + k < 2 ^ 32 - 1 → first_ready (length setting.plans) next.entries ≡ Some c → rank_of next (Some c) ≤ k → TurnsWithin m setting next k)
          → (((j : ℕ) × IsPairStep (core_of w) (core_of (world_step m setting w x)) (c - 1) j) ⊎ (Turn c ≡ x)) → TurnsWithin m setting w n
      by_kind n small low later (inr turn) = over w n (d ∙ ap Some (sym turn) ∙ sym (ap turn_of e))
      by_kind zero small low later (inl (j, s)) = let less = rank_falls m setting (length w.trail) (core_of w) (core_of (world_step m setting w x)) k (c - 1) j s in absurd (omega (arith, less, low))
      by_kind (suc n) small low later (inl (j, s)) =
          let next = world_step m setting w x in
          let less = rank_falls m setting (length w.trail) (core_of w) (core_of next) k (c - 1) j s in
          let long : length (world_step m setting w x).trail ≡ suc (length w.trail) = one_longer w.trail _ in
          one_more w x n d (later n next refl (one_lasts m laws setting edits few strangers w x (step_given setting x (drain_event_is_step setting w x d)) k)
          (stays_calm m setting (length w.trail) (core_of w) (core_of next) k (c - 1) j s calm) (omega (arith, long, small)) (ap (first_ready (length setting.plans)) s.entries ∙ e) (omega (arith, less, low)))

  pub turns_in : (n : ℕ) (w : WorldState Config Node) → L w → IsCalm (core_of w) → length w.trail + n < 2 ^ 32 - 1 → (c : ℕ) → first_ready (length setting.plans) w.entries ≡ Some c → rank_of w (Some c) ≤ n → TurnsWithin m setting w n
  turns_in zero w k calm small c e low =
      step_in zero w k calm small c e low (λ j next is. absurd (let f : 0 ≡ suc j = is in cc)) (goes_on w.devices (manager_in (core_of w)) c) (next_is w calm ∙ ap (goes_on_with w.devices (manager_in (core_of w))) e) refl
  turns_in (suc n) w k calm small c e low =
      step_in (suc n) w k calm small c e low (λ j next is. subst (λ i. L next → IsCalm (core_of next) → length next.trail + i < 2 ^ 32 - 1 → first_ready (length setting.plans) next.entries ≡ Some c → rank_of next (Some c) ≤ i → TurnsWithin m setting next i) (pred is) (λ a b g h l. turns_in n next a b g c h l))
      (goes_on w.devices (manager_in (core_of w)) c) (next_is w calm ∙ ap (goes_on_with w.devices (manager_in (core_of w))) e) refl
    where
      pred : {j : ℕ} → suc n ≡ suc j → n ≡ j
      pred is = omega (arith, is)
