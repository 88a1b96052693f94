-- How far a pass has come, one entry after another.
use Rattle.std.proofs.Common.{◌≡◌, ℕ, ◌+◌, ◌<◌, ◌==◌, Bool, true, false, ◌&&◌, ◌||◌, arith, List, [], ◌∷◌, ◌++◌, take, length, nat_lt, refl, sym, ap, ◌∙◌}
use Rattle.std.specs.Prelude.{Option, Some, None, is_some, slice_index_or}
use Rattle.std.specs.Str.{bytes_eq}
use Rattle.std.proofs.lemmas.List.{append_assoc, append-nil, take_more}
use Rattle.std.proofs.lemmas.Bool.Decides.{nat_tests}
use Rattle.nm_base.specs.Words.{manager}
use Rattle.nm_proto.specs.declared.plan.ChangePlan.{ChangePlan}
use Rattle.nm_history.specs.declared.event.DeviceEvent.{DeviceEvent}
use Rattle.nm_history.specs.declared.event.DeviceEvent.TheVariants.{Entered}
use Rattle.nm_cells.specs.declared.pass.PassEntry.{PassEntry}
use Rattle.nm_slots.specs.declared.course.Reached.{Reached}
use Rattle.nm_slots.specs.declared.course.Reached.TheVariants.{Six, Over}
use Rattle.nm_slots.specs.Course.{is_next, is_next_event, may_go, then_goes, reached_from, reached}

few_by : (done : ℕ) (b : Bool) → (nat_lt done 6 && b) ≡ true → done < 6
few_by done b e = grind (arith, nat_tests)

-- fewer than six are done where one of them is next
pub next_few : (plan : ChangePlan) (change device done : ℕ) (session : Option ℕ) (event : DeviceEvent) → is_next plan change device done session event ≡ true → done < 6
next_few plan change device done session event e = few_by done (is_next_event plan change device done session event) e

absorbed : (few first its : Bool) → its ≡ ((few && (first && its)) || its)
absorbed true true true = refl
absorbed true true false = refl
absorbed true false its = refl
absorbed false first its = refl

-- a session may be asked for wherever the course goes on, and by the manager alone
pub enters_as_manager : (plan : ChangePlan) (change device : ℕ) (entries : List PassEntry) (at : Option Reached) (user : List ℕ)
    → (is_some at && bytes_eq user manager) ≡ may_go plan change device entries (Entered user) at
enters_as_manager plan change device entries None user = refl
enters_as_manager plan change device entries (Some (Six done session)) user = absorbed (nat_lt done 6) (done == 0) (bytes_eq user manager)
enters_as_manager plan change device entries (Some (Over done session refused)) user = refl

module _ (plan : ChangePlan) (change device : ℕ) where
  pushed_from : (before : List PassEntry) (at : Option Reached) (later : List PassEntry) (entry : PassEntry)
      → reached_from plan change device before at (later ++ entry ∷ []) ≡ then_goes plan change device (before ++ later) (reached_from plan change device before at later) entry
  pushed_from before at [] entry = ap (λ es. then_goes plan change device es at entry) (sym (append-nil before))
  pushed_from before at (first ∷ later) entry =
      pushed_from (before ++ first ∷ []) (then_goes plan change device before at first) later entry
      ∙ ap (λ es. then_goes plan change device es (reached_from plan change device (before ++ first ∷ []) (then_goes plan change device before at first) later) entry)
      (append_assoc before (first ∷ []) later)

  -- one entry more
  pub pushed : (entries : List PassEntry) (entry : PassEntry) → reached plan change device (entries ++ entry ∷ []) ≡ then_goes plan change device entries (reached plan change device entries) entry
  pushed entries entry = pushed_from [] (Some (Six 0 None)) entries entry

  -- the next entry of a pass
  pub next_entry : (entries : List PassEntry) (place : ℕ) (d : PassEntry) → place < length entries
      → reached plan change device (take (place + 1) entries) ≡ then_goes plan change device (take place entries) (reached plan change device (take place entries)) (slice_index_or entries place d)
  next_entry entries place d lt =
      ap (reached plan change device) (take_more entries place d lt) ∙ pushed (take place entries) (slice_index_or entries place d)
