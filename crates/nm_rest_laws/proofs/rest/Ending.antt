-- Each step of a drain does something, and leaves less to be done: so it comes to rest.
use Rattle.std.proofs.Common.{◌≡◌, ◌≢◌, ◌∙◌, ◌⊎◌, inl, inr, ℕ, zero, suc, ◌+◌, ◌-◌, ◌*◌, ◌^◌, ◌≤◌, ◌<◌, true, false, List, [], ◌∷◌, ◌++◌, length, map, Option, Some, None, IfSome, slice_get, slice_set, refl, sym, ap, subst, arith}
use Rattle.std.specs.List.{All}
use Rattle.nm_proto.specs.declared.journal.Verdict.{Verdict}
use Rattle.nm_proto.specs.declared.journal.Entry.TheVariants.{Decided, Ended}
use Rattle.nm_proto.specs.declared.plan.ChangePlan.{ChangePlan}
use Rattle.nm_proto.specs.declared.plan.Event.{Event}
use Rattle.nm_proto.specs.declared.plan.Event.TheVariants.{Turn}
use Rattle.nm_proto.specs.Content.{Meaning, Laws}
use Rattle.nm_sessions.specs.Sessions.{is_open}
use Rattle.nm_device.specs.Device.{is_manager}
use Rattle.nm_manager.specs.Queues.{is_ready_in}
use Rattle.nm_manager.specs.Slot.{SideState, SlotState, wire_of_side, anew, is_commit, decided}
use Rattle.nm_world.specs.declared.happened.Happened.TheVariants as happened
use Rattle.nm_world.specs.World as world
use Rattle.nm_world.specs.World.{Setting, CoreState, WorldState, core_of, manager_in, elementary, world_step}
use Rattle.nm_world.specs.Drain.{goes_on, goes_on_with, first_ready, drain_event}
use Rattle.nm_world.proofs.ToRest.{IsStep, drain_event_is_step}
use Rattle.nm_world.proofs.Growing.{event_enters}
use Rattle.nm_safety.specs.Safe.{IsGiven}
use Rattle.nm_safety.specs.Support.{KeptAt}
use Rattle.nm_safety.proofs.Lists.{some_is}
use Rattle.nm_safety.proofs.Managed.{others_stay}
use Rattle.nm_safety.proofs.Entries.{ready_is_open}
use Rattle.nm_rest_laws.specs.Rest.{IsWithin, HasDevices}
use Rattle.nm_rest_laws.proofs.rest.Measure.{rank_at, slot_rank, undecided_rank}
use Rattle.nm_rest_laws.specs.Closing.{sum_from}
use Rattle.nm_rest_laws.proofs.rest.Bounds.{slot_within, sums_within}
use Rattle.nm_safety.proofs.Wires.{set_there}
use Rattle.nm_rest_laws.proofs.rest.Holding.{wire_at, given_of}
use Rattle.nm_rest_laws.proofs.rest.Calm.{IsCalm, AllCurrent}
use Rattle.nm_rest_laws.proofs.rest.Lasting.{Lasts, one_lasts}
use Rattle.nm_rest_laws.proofs.rest.PairSteps.{IsPairStep, rank_falls, stays_calm}
use Rattle.nm_rest_laws.proofs.rest.Resting.{goes_so}
use Rattle.nm_rest_laws.proofs.rest.Turns.{next_is}
use Rattle.nm_rest_laws.proofs.rest.Counting.{open_count, open_within, open_falls, decided_same, decided_open, is_first}
use Rattle.nm_rest_laws.proofs.rest.Entering.{AreDecidedOnce, enters_once}
use Rattle.nm_rest_laws.proofs.rest.Plain.{is_turn}
use Rattle.nm_rest_laws.proofs.rest.Quieting.{goes_plain}
use Rattle.nm_rest_laws.proofs.rest.Turning.{at_within, IsDecidedNow, IsEndedNow, TurnsTo, turn_is}
use Rattle.nm_rest_laws.proofs.rest.Idle.{idle_stays}
use Rattle.nm_rest_laws.proofs.rest.Making.{as_many}

-- ---- a decision leaves the links as they are

anew_wire : (commit : _) (sides : List SideState) (d : ℕ) → wire_of_side (slice_get (map (anew commit) sides) d) ≡ wire_of_side (slice_get sides d)
anew_wire commit [] d = refl
anew_wire commit (side ∷ sides) zero = refl
anew_wire commit (side ∷ sides) (suc d) = anew_wire commit sides d

module _ {Config Node : Type 0} (w now : CoreState Config Node) (calm : IsCalm w) (p : ℕ) (slot : SlotState) (there : slice_get w.slots p ≡ Some slot) (v : Verdict) where
  decided_wires : (slots : List SlotState) → slots ≡ slice_set w.slots p (decided slot v) → (q d : ℕ) → wire_at (slice_get slots q) d ≡ wire_at (slice_get w.slots q) d
  decided_wires slots is q d =
      ap (λ l. wire_at (slice_get l q) d) is
      ∙ others_stay (λ i o. wire_at o d ≡ wire_at (slice_get w.slots i) d) w.slots p slot (decided slot v) there (anew_wire (is_commit v) slot.sides d ∙ ap (λ o. wire_at o d) (sym there)) (λ i ne. refl) q

  decided_calm : now.slots ≡ slice_set w.slots p (decided slot v) → now.devices ≡ w.devices → now.operators ≡ w.operators → IsCalm now
  decided_calm slots devices operators = record {
    nobody = λ o d t given. subst (λ l. IfSome (slice_get l d) (λ r. is_open r.device.sessions t ≡ false)) (sym devices) (calm.nobody o d t (ap (λ l. given_of (slice_get l o) d) (sym operators) ∙ given));
    current = λ q d.
        subst (λ l. IfSome (slice_get l d) (λ r. AllCurrent r (wire_at (slice_get now.slots q) d))) (sym devices)
        (subst (λ wire. IfSome (slice_get w.devices d) (λ r. AllCurrent r wire)) (sym (decided_wires now.slots slots q d)) (calm.current q d));
  }

-- ---- numbers

pair_less : (a r s : ℕ) → suc s ≤ r → suc ((a - 1) * 9321 + suc s) ≤ (a - 1) * 9321 + suc r
pair_less a r s h = omega (arith, h)

end_less : (a b r s : ℕ) → 1 ≤ b → suc b ≤ a → s ≤ 9320 → suc ((b - 1) * 9321 + suc s) ≤ (a - 1) * 9321 + suc r
end_less a b r s one less most = omega (arith, one, less, most)

none_less : (a r : ℕ) → 1 ≤ (a - 1) * 9321 + suc r
none_less a r = omega arith

most_total : (a n r : ℕ) → 1 ≤ a → a ≤ n → r ≤ 9320 → (a - 1) * 9321 + suc r ≤ n * 9321
most_total a n r one few most = omega (arith, one, few, most)

-- ---- a world of which all is known

module _ {Config TheEdit Node : Type 0} (m : Meaning Config TheEdit Node) (laws : Laws m) (setting : Setting TheEdit) (edits : All m.edit_belongs setting.tables.edits) (few : length setting.plans ≤ 64)
    (strangers : (number : ℕ) → IfSome (slice_get setting.users number) (λ user. is_manager (Some user) ≡ false)) (count : ℕ) (count_few : count ≤ 32) (devices : HasDevices setting count) where
  pub record IsKnown (w : WorldState Config Node) : Type 0 where
    pub lasts : Lasts m laws setting edits few strangers w
    pub once : AreDecidedOnce w.entries
    pub many : length w.devices ≡ count

  pub known_step : (w : WorldState Config Node) (x : Event) → IsGiven setting x → IsKnown w → IsKnown (world_step m setting w x)
  known_step w x given k = record {
    lasts = one_lasts m laws setting edits few strangers w x given k.lasts;
    once = enters_once w.entries (world.entry_of setting (core_of w) x) (elementary m setting (core_of w) x).after.entries (event_enters m setting (core_of w) x) k.once;
    many = as_many m setting (core_of w) x given ∙ k.many;
  }

  abbrev pub changes : ℕ
  changes = length setting.plans

  -- how much is left to be done, where this change set is the first that is ready
  abbrev pub total : WorldState Config Node → Option ℕ → ℕ
  total w None = 0
  total w (Some c) = (open_count changes w.entries - 1) * 9321 + suc (slot_rank w.devices (slice_get w.slots (c - 1)))

  abbrev pub total_now : WorldState Config Node → ℕ
  total_now w = total w (first_ready changes w.entries)

  abbrev pub DoesSomething : WorldState Config Node → Event → Type 0
  DoesSomething w x = (elementary m setting (core_of w) x).happened ≢ happened.Idle

  -- a step leaves less to be done, and does something
  pub record Falls (w : WorldState Config Node) (x : Event) : Type 0 where
    pub calm : IsCalm (core_of (world_step m setting w x))
    pub less : suc (total_now (world_step m setting w x)) ≤ total_now w
    pub moves : DoesSomething w x

  module _ (w : WorldState Config Node) (k : IsKnown w) where
    few_devices : length w.devices ≤ 32
    few_devices = let many = k.many in omega (arith, many, count_few)

    some_open : (c : ℕ) → first_ready changes w.entries ≡ Some c → 1 ≤ open_count changes w.entries
    some_open c e =
        let f = is_first changes w.entries c e in
        let falls = open_falls changes c w.entries (record { 0 = 0 }) f.from f.below (ready_is_open w.entries c f.ready) in omega (arith, falls)

    -- so much is left at most
    pub total_within : total_now w ≤ changes * 9321
    total_within = by_ready (first_ready changes w.entries) refl
      where
        by_ready : (o : Option ℕ) → first_ready changes w.entries ≡ o → total w o ≤ changes * 9321
        by_ready None e = omega arith
        by_ready (Some c) e =
            most_total (open_count changes w.entries) changes (slot_rank w.devices (slice_get w.slots (c - 1))) (some_open c e) (open_within changes w.entries) (slot_within w.devices few_devices (slice_get w.slots (c - 1)))

  module _ (w : WorldState Config Node) (k : IsKnown w) (calm : IsCalm (core_of w)) (small : length w.trail < 2 ^ 32 - 1) (c : ℕ) (e : first_ready changes w.entries ≡ Some c) where
    now_total : total_now w ≡ total w (Some c)
    now_total = ap (total w) e

    module _ (x : Event) where
      abbrev next : WorldState Config Node
      next = world_step m setting w x

      -- at one device
      by_pair : (j : ℕ) → IsPairStep (core_of w) (core_of next) (c - 1) j → DoesSomething w x → Falls w x
      by_pair j s moves = record {
        calm = stays_calm m setting (length w.trail) (core_of w) (core_of next) k.lasts (c - 1) j s calm;
        less =
            let less = rank_falls m setting (length w.trail) (core_of w) (core_of next) k.lasts (c - 1) j s in
            let after : total_now next ≡ total next (Some c) = ap (total next) (ap (first_ready changes) s.entries ∙ e) in
            let same : total next (Some c) ≡ (open_count changes w.entries - 1) * 9321 + suc (slot_rank next.devices (slice_get next.slots (c - 1))) =
            ap (λ l. (open_count changes l - 1) * 9321 + suc (slot_rank next.devices (slice_get next.slots (c - 1)))) s.entries in
            let falls = pair_less (open_count changes w.entries) (slot_rank w.devices (slice_get w.slots (c - 1))) (slot_rank next.devices (slice_get next.slots (c - 1))) less in
            subst (λ n. suc n ≤ total_now w) (sym (after ∙ same)) (subst (λ n. suc ((open_count changes w.entries - 1) * 9321 + suc (slot_rank next.devices (slice_get next.slots (c - 1)))) ≤ n) (sym now_total) falls);
        moves = moves;
      }

      -- what is no turn isn't idle, since it leaves less
      moves_by : (j : ℕ) → IsPairStep (core_of w) (core_of next) (c - 1) j → IsStep x → is_turn x ≡ false → DoesSomething w x
      moves_by j s step plain idle_now =
          let same = idle_stays m setting (core_of w) x step plain idle_now in
          let less = rank_falls m setting (length w.trail) (core_of w) (core_of next) k.lasts (c - 1) j s in
          let stays : slot_rank next.devices (slice_get next.slots (c - 1)) ≡ slot_rank w.devices (slice_get w.slots (c - 1)) = ap (λ (one : CoreState Config Node). slot_rank one.devices (slice_get one.slots (c - 1))) same in
          absurd (omega (arith, less, stays))

    -- ---- the turn

    abbrev after_turn : WorldState Config Node
    after_turn = world_step m setting w (Turn c)

    module _ (slot : SlotState) (there : slice_get w.slots (c - 1) ≡ Some slot) where
      undecided_low : (v : _) → slot.course.verdict ≡ v → v ≡ None → 5000 ≤ slot_rank w.devices (slice_get w.slots (c - 1))
      undecided_low v is none =
          let rank : slot_rank w.devices (slice_get w.slots (c - 1)) ≡ 5000 + sum_from (rank_at w.devices slot) 1 (length w.devices) =
          ap (slot_rank w.devices) there ∙ ap (λ o. undecided_rank o + sum_from (rank_at w.devices slot) 1 (length w.devices)) (is ∙ none) in
          omega (arith, rank)

      by_decision : IsDecidedNow m setting (core_of w) c slot → Falls w (Turn c)
      by_decision d = record {
        calm = decided_calm (core_of w) (core_of after_turn) calm (c - 1) slot there d.decision slots (ap (λ (s : CoreState Config Node). s.devices) d.after_is) (ap (λ (s : CoreState Config Node). s.operators) d.after_is);
        less = subst (λ n. suc n ≤ total_now w) (sym after) (subst (λ n. suc ((open_count changes w.entries - 1) * 9321 + suc (slot_rank after_turn.devices (slice_get after_turn.slots (c - 1)))) ≤ n) (sym now_total) falls);
        moves = d.happens;
      }
        where
          entries : after_turn.entries ≡ w.entries ++ Decided c d.decision ∷ []
          entries = ap (λ (s : CoreState Config Node). s.entries) d.after_is

          slots : after_turn.slots ≡ slice_set w.slots (c - 1) (decided slot d.decision)
          slots = ap (λ (s : CoreState Config Node). s.slots) d.after_is

          rank : slot_rank after_turn.devices (slice_get after_turn.slots (c - 1)) ≡ slot_rank w.devices (Some (decided slot d.decision))
          rank =
              ap (λ (s : CoreState Config Node). slot_rank s.devices (slice_get s.slots (c - 1))) d.after_is ∙ ap (slot_rank w.devices) (set_there w.slots (c - 1) slot (decided slot d.decision) there)

          low : suc (slot_rank after_turn.devices (slice_get after_turn.slots (c - 1))) ≤ slot_rank w.devices (slice_get w.slots (c - 1))
          low =
              let before = undecided_low slot.course.verdict refl d.undecided in
              let most = sums_within w.devices (few_devices w k) (decided slot d.decision) in
              let is = rank in
              omega (arith, before, most, is)

          falls : suc ((open_count changes w.entries - 1) * 9321 + suc (slot_rank after_turn.devices (slice_get after_turn.slots (c - 1)))) ≤ total w (Some c)
          falls = pair_less (open_count changes w.entries) (slot_rank w.devices (slice_get w.slots (c - 1))) (slot_rank after_turn.devices (slice_get after_turn.slots (c - 1))) low

          after : total_now after_turn ≡ (open_count changes w.entries - 1) * 9321 + suc (slot_rank after_turn.devices (slice_get after_turn.slots (c - 1)))
          after =
              ap (total after_turn) (ap (first_ready changes) entries ∙ decided_same changes c d.decision w.entries ∙ e)
              ∙ ap (λ n. (n - 1) * 9321 + suc (slot_rank after_turn.devices (slice_get after_turn.slots (c - 1)))) (ap (open_count changes) entries ∙ decided_open changes c d.decision w.entries)

      by_end : IsKnown after_turn → IsEndedNow m setting (core_of w) c → Falls w (Turn c)
      by_end known d = record {
        calm = subst IsCalm (sym d.after_is) (record { nobody = calm.nobody; current = calm.current });
        less = by_ready (first_ready changes after_turn.entries) refl;
        moves = d.happens;
      }
        where
          entries : after_turn.entries ≡ w.entries ++ Ended c d.kept ∷ []
          entries = ap (λ (s : CoreState Config Node). s.entries) d.after_is

          fewer : suc (open_count changes after_turn.entries) ≤ open_count changes w.entries
          fewer =
              let f = is_first changes w.entries c e in
              subst (λ l. suc (open_count changes l) ≤ open_count changes w.entries) (sym entries) (open_falls changes c w.entries d.kept f.from f.below (ready_is_open w.entries c f.ready))

          by_ready : (o : Option ℕ) → first_ready changes after_turn.entries ≡ o → suc (total after_turn o) ≤ total_now w
          by_ready None f = subst (λ n. 1 ≤ n) (sym now_total) (none_less (open_count changes w.entries) (slot_rank w.devices (slice_get w.slots (c - 1))))
          by_ready (Some next_one) f = subst (λ n. suc (total after_turn (Some next_one)) ≤ n) (sym now_total)
              (end_less (open_count changes w.entries) (open_count changes after_turn.entries) (slot_rank w.devices (slice_get w.slots (c - 1))) (slot_rank after_turn.devices (slice_get after_turn.slots (next_one - 1)))
              (some_open after_turn known next_one f) fewer (slot_within after_turn.devices (few_devices after_turn known) (slice_get after_turn.slots (next_one - 1))))

      by_turn : TurnsTo m setting (core_of w) c slot → IsKnown after_turn → Falls w (Turn c)
      by_turn (inl s) known = by_pair (Turn c) s.place s.moved s.happens
      by_turn (inr (inl d)) known = by_decision d
      by_turn (inr (inr d)) known = by_end known d

    -- the change set is there
    turn_falls : goes_on w.devices (manager_in (core_of w)) c ≡ Some (Turn c) → Falls w (Turn c)
    turn_falls turn_next =
        let f = is_first changes w.entries c e in
        let from = f.from in
        let below = f.below in
        at_within setting.plans (c - 1) (omega (arith, from, below)) (Falls w (Turn c))
        (λ plan planned. by_slot from below f.ready plan planned (slice_get w.slots (c - 1)) refl (subst (λ o. KeptAt (suc (c - 1)) w.entries k.lasts.supported.owners w.devices o (slice_get w.slots (c - 1))) planned (k.lasts.supported.slots (c - 1))))
      where
        by_slot : 1 ≤ c → c ≤ changes → is_ready_in w.entries c ≡ true → (plan : ChangePlan) → slice_get setting.plans (c - 1) ≡ Some plan → (found : Option SlotState) → slice_get w.slots (c - 1) ≡ found
            → KeptAt (suc (c - 1)) w.entries k.lasts.supported.owners w.devices (Some plan) found → Falls w (Turn c)
        by_slot from below ready plan planned None there kept = absurd kept
        by_slot from below ready plan planned (Some slot) there kept =
            by_turn slot there
            (turn_is m setting (length w.trail) (core_of w) k.lasts k.once c from (omega (arith, below, few)) ready turn_next slot there plan planned (few_devices w k)
            (subst (λ n. All (IsWithin n) plan.edits) (sym k.many) (some_is plan (λ one. All (IsWithin count) one.edits) (slice_get setting.plans (c - 1)) planned (devices (c - 1)))))
            (known_step w (Turn c) from k)

    -- each step of a drain
    pub step_falls : (x : Event) → drain_event setting w ≡ Some x → Falls w x
    step_falls x d = by_plain (goes_plain w.devices (manager_in (core_of w)) c x goes)
      where
        goes : goes_on w.devices (manager_in (core_of w)) c ≡ Some x
        goes = sym (next_is m laws setting edits few strangers w calm ∙ ap (goes_on_with w.devices (manager_in (core_of w))) e) ∙ d

        at_turn : Turn c ≡ x → Falls w x
        at_turn turn = subst (Falls w) turn (turn_falls (goes ∙ ap Some (sym turn)))

        by_kind : is_turn x ≡ false → ((j : ℕ) × IsPairStep (core_of w) (core_of (world_step m setting w x)) (c - 1) j) ⊎ (Turn c ≡ x) → Falls w x
        by_kind plain (inl (j, s)) = by_pair x j s (moves_by x j s (drain_event_is_step setting w x d) plain)
        by_kind plain (inr turn) = at_turn turn

        by_plain : (is_turn x ≡ false) ⊎ (Turn c ≡ x) → Falls w x
        by_plain (inl plain) = by_kind plain (goes_so m setting (length w.trail) (core_of w) k.lasts calm small c x goes)
        by_plain (inr turn) = at_turn turn
