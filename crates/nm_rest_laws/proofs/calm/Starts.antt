-- A calm run begins with its change set in the journal and each device as it was.
use Rattle.std.proofs.Common.{◌≡◌, ◌∙◌, inl, inr, ℕ, zero, suc, ◌+◌, ◌-◌, ◌≤◌, ◌<◌, ◌==◌, List, [], ◌∷◌, length, map}
use Rattle.std.proofs.Common.{replicate, Bool, true, false, not, ◌&&◌, cond, Option, Some, None, option_map, get_or, slice_get, refl, sym, ap, arith}
use Rattle.std.specs.List.{All}
use Rattle.std.proofs.lemmas.Bool.Decides.{nat_tests}
use Rattle.std.proofs.lemmas.Option.{slice_get-map, slice_get_within}
use Rattle.nm_base.specs.Mask.{mask_contains}
use Rattle.nm_proto.specs.declared.plan.PlannedEdit.{PlannedEdit}
use Rattle.nm_proto.specs.declared.plan.Event.TheVariants.{Submit}
use Rattle.nm_proto.specs.Content.{Meaning}
use Rattle.nm_proto.specs.Plan.{is_planned}
use Rattle.nm_journal.specs.Entries.{may_follow, comes_next}
use Rattle.nm_journal.specs.Record.{is_change}
use Rattle.nm_decider_stage.specs.declared.stage.Stage.TheVariants.{Live}
use Rattle.nm_decider.specs.declared.seat.Seat.{Seat}
use Rattle.nm_decider.specs.Course.{seat_of, seats_from, seat_count}
use Rattle.nm_resync.specs.Resync.{fresh_resync}
use Rattle.nm_wire.specs.Wire.{no_links}
use Rattle.nm_history.specs.History.{RecordedState, recorded}
use Rattle.nm_manager.specs.declared.action.Action.TheVariants as action
use Rattle.nm_manager.specs.Requests.{IsWellFormed}
use Rattle.nm_manager.specs.Slot.{SideState, fresh_side, wire_of_side}
use Rattle.nm_manager.specs.Manager.{Step, with_entry, idle}
use Rattle.nm_world.specs.World.{CoreState, elementary, manager_in, with_manager, begin}
use Rattle.nm_rest_laws.proofs.calm.Legs.Stop.{First}
use Rattle.nm_rest_laws.proofs.calm.Forms.Form.{Rests}
use Rattle.nm_rest_laws.proofs.calm.Forms.Phase.{Undecided}
use Rattle.nm_rest_laws.proofs.calm.Planned.{IsNumbered, has_edit, mask_is, empty_mask, above, planned_there}
use Rattle.nm_rest_laws.proofs.calm.Core.{Given, mask, started, is_taken, the, IsFree, IsAt, Goes}

-- ---- seats and sides

seat_there : (members device count j : ℕ) → j < count → slice_get (seats_from members (Live 0) device count) j ≡ Some (seat_of members (Live 0) (device + j))
unfolding seats_from
seat_there members device zero j h = absurd (omega (arith, h))
seat_there members device (suc count) zero h = ap (λ d. Some (seat_of members (Live 0) d)) (no_more device)
  where
    no_more : (device : ℕ) → device ≡ device + 0
    no_more device = omega arith
seat_there members device (suc count) (suc j) h =
    seat_there members (device + 1) count j (omega (arith, h)) ∙ ap (λ d. Some (seat_of members (Live 0) d)) (later device j)
  where
    later : (device j : ℕ) → device + 1 + j ≡ device + suc j
    later device j = omega arith

seats_long : (members device count : ℕ) → length (seats_from members (Live 0) device count) ≡ count
unfolding seats_from
seats_long members device zero = refl
seats_long members device (suc count) = ap suc (seats_long members (device + 1) count)

untaken_by : (members j : ℕ) (seat : Option Seat) → slice_get (seats_from members (Live 0) 1 seat_count) j ≡ seat
    → mask_contains members (suc j) ≡ false → is_taken seat ≡ false
untaken_by members j None here other = refl
untaken_by members j (Some seat) here other =
    let long = seats_long members 1 seat_count in
    let within : j < length (seats_from members (Live 0) 1 seat_count) = slice_get_within (seats_from members (Live 0) 1 seat_count) j seat here in
    let is : is_taken (Some seat) ≡ is_taken (Some (seat_of members (Live 0) (1 + j))) =
    ap is_taken (sym here ∙ seat_there members 1 seat_count j (omega (arith, long, within))) in
    is ∙ ap (mask_contains members) (one_more j) ∙ other
  where
    one_more : (j : ℕ) → 1 + j ≡ suc j
    one_more j = omega arith

unlinked_by : (n j : ℕ) → wire_of_side (slice_get (replicate n fresh_side) j) ≡ no_links
unlinked_by zero j = refl
unlinked_by (suc n) zero = refl
unlinked_by (suc n) (suc j) = unlinked_by n j

side_there : (n j : ℕ) → j < n → slice_get (replicate n fresh_side) j ≡ Some fresh_side
side_there zero j h = absurd (omega (arith, h))
side_there (suc n) zero h = refl
side_there (suc n) (suc j) h = side_there n j (omega (arith, h))

module _ {Config TheEdit Node : Type 0} (m : Meaning Config TheEdit Node) (g : Given Config TheEdit)
    (formed : IsWellFormed g.plan) (few : length g.running ≤ 32) (free : All (IsFree m g) g.plan.edits) where
  -- ---- the devices of the change set

  pub numbered : All IsNumbered g.plan.edits
  numbered k e within =
      let one = free k e within in
      let runs = slice_get_within g.running _ one.makes.first one.makes.runs in
      let low = above g.plan.edits 0 formed.ascend k e within in
      (omega (arith, low), omega (arith, runs, few))

  pub member_is : (j : ℕ) → mask_contains (mask g) (suc j) ≡ is_planned (suc j) g.plan.edits
  member_is j = mask_is g.plan.edits numbered (suc j) (omega arith)

  abbrev seats : List Seat
  seats = seats_from (mask g) (Live 0) 1 seat_count

  abbrev sides : List SideState
  sides = replicate seat_count fresh_side

  abbrev devices : List (RecordedState Config Node)
  devices = map recorded g.running

  stands_first : (j : ℕ) → mask_contains (mask g) (suc j) ≡ true → IsAt m g Undecided j (slice_get seats j) (slice_get sides j) (slice_get devices j)
  stands_first j member =
      let it = has_edit (IsFree m g) g.plan.edits free (suc j) (sym (member_is j) ∙ member) in
      let place : it.planned.device - 1 ≡ j = less it.planned.device it.same in
      let runs : slice_get g.running j ≡ Some it.holds.makes.first = ap (slice_get g.running) (sym place) ∙ it.holds.makes.runs in
      let within = slice_get_within g.running j it.holds.makes.first runs in
      inl (record {
        own = record { member = member; planned = it.planned; found = it.found; free = it.holds };
        form = Rests First;
        may = refl;
        sent = 0;
        resync = fresh_resync false;
        seat_is = seat_there (mask g) 1 seat_count j (omega (arith, within, few))
            ∙ ap (λ b. let s : Seat = record { is_member = b; stage = Live 0; awaited = None; sent = 0 } in Some s)
            (ap (mask_contains (mask g)) (one_more j) ∙ member);
        side_is = side_there seat_count j (omega (arith, within, few));
        r_is = slice_get-map (recorded {Node = Node}) g.running j ∙ ap (option_map (recorded {Node = Node})) runs;
      })
    where
      less : (d : ℕ) → d ≡ suc j → d - 1 ≡ j
      less d e = omega (arith, e)

      one_more : (j : ℕ) → 1 + j ≡ suc j
      one_more j = omega arith

  first_at : (j : ℕ) (b : Bool) → mask_contains (mask g) (suc j) ≡ b → IsAt m g Undecided j (slice_get seats j) (slice_get sides j) (slice_get devices j)
  first_at j true e = stands_first j e
  first_at j false e = inr (record { other = e; untaken = untaken_by (mask g) j (slice_get seats j) refl e; unlinked = unlinked_by seat_count j })

  -- ---- the journal takes it

  some_device : (mask g == 0) ≡ false
  some_device = by_zero (mask g == 0) refl
    where
      is_zero : (n : ℕ) → (n == 0) ≡ true → n ≡ 0
      is_zero n e = grind (arith, nat_tests)

      by_zero : (b : Bool) → (mask g == 0) ≡ b → b ≡ false
      by_zero false e = refl
      by_zero true e = by_first g.plan.edits refl
        where
          by_first : (edits : List PlannedEdit) → g.plan.edits ≡ edits → true ≡ false
          by_first [] is = let some = formed.some in let long : length g.plan.edits ≡ 0 = ap length is in absurd (omega (arith, some, long))
          by_first (edit ∷ edits) is =
              let some = formed.some in
              let d : ℕ = (get_or g.plan.edits 0 edit).device in
              let low = above g.plan.edits 0 formed.ascend 0 edit (omega (arith, some)) in
              let full : mask_contains (mask g) d ≡ true = mask_is g.plan.edits numbered d low ∙ planned_there g.plan.edits 0 edit (omega (arith, some)) in
              sym full ∙ ap (λ n. mask_contains n d) (is_zero (mask g) e) ∙ empty_mask d

  may_start : may_follow [] (started g) ≡ true
  may_start = ap (λ b. (is_change 1 && not b) && comes_next [] (started g)) some_device

  abbrev first_core : CoreState Config Node
  first_core = begin (the g) g.running

  abbrev now : Step
  now = record { action = action.Started; state = with_entry (manager_in first_core) (started g) }

  pub start_goes : Goes m g (elementary m (the g) first_core (Submit 1)).after
  start_goes = record {
    sight = record { phase = Undecided; devices = devices; seats = seats; sides = sides; has_diverged = false };
    is = ap (λ b. with_manager first_core (cond b now (idle (manager_in first_core))).state) may_start;
    good = record { long = seats_long (mask g) 1 seat_count; each = λ j. first_at j (mask_contains (mask g) (suc j)) refl };
  }
