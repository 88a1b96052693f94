-- A calm run that is brought to rest has committed its change set.
use Rattle.std.proofs.Common.{◌≡◌, ◌∙◌, inl, inr, ℕ, zero, suc, ◌-◌, ◌≤◌, List, [], ◌∷◌, length}
use Rattle.std.proofs.Common.{Bool, true, false, Option, Some, None, get_or, slice_get, refl, sym, ap, subst, arith}
use Rattle.std.specs.List.{All}
use Rattle.std.proofs.lemmas.Option.{same_Some}
use Rattle.std.proofs.lemmas.Slice.Eq.{bytes_eq-Decides}
use Rattle.nm_base.specs.Mask.{mask_contains}
use Rattle.nm_base.specs.Token.{token_of}
use Rattle.nm_base.specs.declared.mask.DeviceMask.{DeviceMask}
use Rattle.nm_proto.specs.declared.plan.ChangePlan.{ChangePlan}
use Rattle.nm_proto.specs.declared.plan.PlannedEdit.{PlannedEdit}
use Rattle.nm_proto.specs.declared.plan.Event.{Event}
use Rattle.nm_proto.specs.declared.plan.Event.TheVariants.{Submit}
use Rattle.nm_proto.specs.Content.{Meaning}
use Rattle.nm_proto.specs.Plan.{is_planned}
use Rattle.nm_decider.specs.declared.seat.Seat.{Seat}
use Rattle.nm_history.specs.History.{RecordedState}
use Rattle.nm_recovery.specs.Recovery.{verdict_in, is_ended_in}
use Rattle.nm_manager.specs.Requests.{IsWellFormed, edit_for}
use Rattle.nm_manager.specs.Slot.{SideState}
use Rattle.nm_world.specs.World.{Setting, CoreState, WorldState, core_of, elementary, run, start}
use Rattle.nm_world.specs.Drain.{drain_in, drain_event, drain_by, drain_step, drained}
use Rattle.nm_rest_laws.specs.Calm.{IsCalm, IsUnhindered, Makes, HasIt, IsCommitted, drained_run}
use Rattle.nm_rest_laws.proofs.calm.Legs.{confirmed}
use Rattle.nm_rest_laws.proofs.calm.Legs.Leg.{Opens, TakesRunning, TakesCandidate, Edits, Validates, Commits, Confirms, Closes}
use Rattle.nm_rest_laws.proofs.calm.Legs.Stop.{First, After}
use Rattle.nm_rest_laws.proofs.calm.Forms.{Form, Phase, fits, never}
use Rattle.nm_rest_laws.proofs.calm.Forms.Form.{Rests, Asks, Tells}
use Rattle.nm_rest_laws.proofs.calm.Forms.Phase.{Undecided, Committed, Over}
use Rattle.nm_rest_laws.proofs.calm.Planned.{above, planned_there, found_there}
use Rattle.nm_rest_laws.proofs.calm.Core.{Given, Sight, mask, the, core, IsFree, recorded_in, IsAt, IsGood, Goes}
use Rattle.nm_rest_laws.proofs.calm.Drains.{drain_goes, is_over, at_rest}
use Rattle.nm_rest_laws.proofs.calm.Starts.{member_is, start_goes}

-- once the change set is ended, each of its devices is done with
over_form : (kept : DeviceMask) (form : Form) → fits (Over kept) form ≡ true → form ≡ Rests (After Closes)
over_form kept (Rests First) f = never f
over_form kept (Rests (After Opens)) f = never f
over_form kept (Rests (After TakesRunning)) f = never f
over_form kept (Rests (After TakesCandidate)) f = never f
over_form kept (Rests (After Edits)) f = never f
over_form kept (Rests (After Validates)) f = never f
over_form kept (Rests (After Commits)) f = never f
over_form kept (Rests (After Confirms)) f = never f
over_form kept (Rests (After Closes)) f = refl
over_form kept (Asks leg) f = never f
over_form kept (Tells leg) f = never f

module _ {Config TheEdit Node : Type 0} (m : Meaning Config TheEdit Node) (g : Given Config TheEdit)
    (formed : IsWellFormed g.plan) (few : length g.running ≤ 32) (free : All (IsFree m g) g.plan.edits) where
  -- ---- the steps of a drain

  next_goes : (w : CoreState Config Node) → Goes m g w → (x : Event) → drain_in 1 w ≡ Some x → Goes m g (elementary m (the g) w x).after
  next_goes w t x e =
      subst (λ v. Goes m g (elementary m (the g) v x).after) (sym t.is) (drain_goes m g formed.waits t.sight t.good x (sym (ap (drain_in 1) t.is) ∙ e))

  step_goes : (w : WorldState Config Node) → Goes m g (core_of w) → (o : Option Event) → drain_event (the g) w ≡ o
      → Goes m g (core_of (drain_by m (the g) w o))
  step_goes w t None e = t
  step_goes w t (Some x) e = next_goes (core_of w) t x e

  drained_goes : (n : ℕ) (w : WorldState Config Node) → Goes m g (core_of w) → Goes m g (core_of (drained m (the g) n w))
  drained_goes zero w t = t
  drained_goes (suc n) w t = drained_goes n (drain_step m (the g) w) (step_goes w t (drain_event (the g) w) refl)

  -- ---- at rest

  module _ (w : WorldState Config Node) (kept : DeviceMask)
      (devices : List (RecordedState Config Node)) (seats : List Seat) (sides : List SideState) (has_diverged : Bool) where
    abbrev over : Sight Config Node
    over = record { phase = Over kept; devices = devices; seats = seats; sides = sides; has_diverged = has_diverged }

    module _ (is : core_of w ≡ core g over) (good : IsGood m g over) where
      has_by : (planned : PlannedEdit) → edit_for g.plan planned.device ≡ Some planned → suc (planned.device - 1) ≡ planned.device
          → mask_contains (mask g) (suc (planned.device - 1)) ≡ true
          → IsAt m g (Over kept) (planned.device - 1) (slice_get seats (planned.device - 1)) (slice_get sides (planned.device - 1))
          (slice_get devices (planned.device - 1))
          → HasIt m (the g) g.running w planned
      has_by planned found place member (inr b) = absurd (let f : true ≡ false = sym member ∙ b.other in cc)
      has_by planned found place member (inl t) =
          let form_is : t.form ≡ Rests (After Closes) = over_form kept t.form t.may in
          let same : t.own.planned ≡ planned = same_Some t.own.planned planned (sym t.own.found ∙ ap (edit_for g.plan) place ∙ found) in
          record {
            r = recorded_in m g t.own (Rests (After Closes));
            there = ap (λ (v : CoreState Config Node). slice_get v.devices (planned.device - 1)) is ∙ t.r_is
                ∙ ap (λ f. Some (recorded_in m g t.own f)) form_is;
            confirmed = confirmed m g.tables (token_of 1) g.plan.timeout t.own.planned t.own.free.makes.first t.own.free.made
                ((bytes_eq-Decides (token_of 1) (token_of 1)).1 refl);
            runs = subst (λ one. Makes m (the g) g.running one t.own.free.made) same t.own.free.makes;
          }

      has_it : All (HasIt m (the g) g.running w) g.plan.edits
      has_it k e within =
          let one : PlannedEdit = get_or g.plan.edits k e in
          let low = above g.plan.edits 0 formed.ascend k e within in
          let place : suc (one.device - 1) ≡ one.device = omega (arith, low) in
          let member : mask_contains (mask g) (suc (one.device - 1)) ≡ true =
          member_is m g formed few free (one.device - 1) ∙ subst (λ d. is_planned d g.plan.edits ≡ true) (sym place) (planned_there g.plan.edits k e within) in
          has_by one (found_there g.plan.edits 0 formed.ascend k e within) place member (good.each (one.device - 1))

      committed_over : IsCommitted m (the g) g.running g.plan w
      committed_over = record {
        decided = ap (λ (v : CoreState Config Node). verdict_in 1 v.entries) is;
        ended = ap (λ (v : CoreState Config Node). is_ended_in 1 v.entries) is;
        each = has_it;
      }

  committed_by : (w : WorldState Config Node) (phase : Phase) (devices : List (RecordedState Config Node)) (seats : List Seat) (sides : List SideState)
      → (has_diverged : Bool)
      → (let s : Sight Config Node = record { phase = phase; devices = devices; seats = seats; sides = sides; has_diverged = has_diverged } in
      core_of w ≡ core g s → IsGood m g s → is_over phase ≡ true → IsCommitted m (the g) g.running g.plan w)
  committed_by w Undecided devices seats sides has_diverged is good e = never e
  committed_by w Committed devices seats sides has_diverged is good e = never e
  committed_by w (Over kept) devices seats sides has_diverged is good e = committed_over w kept devices seats sides has_diverged is good

  rests : (w : WorldState Config Node) → Goes m g (core_of w) → drain_event (the g) w ≡ None → IsCommitted m (the g) g.running g.plan w
  rests w t e =
      let s : Sight Config Node = t.sight in
      committed_by w s.phase s.devices s.seats s.sides s.has_diverged t.is t.good (at_rest g s (sym (ap (drain_in 1) t.is) ∙ e))

  abbrev ran : WorldState Config Node
  ran = run m (the g) (start (the g) g.running) (Submit 1 ∷ [])

  calm_rests : (steps : ℕ) → drain_event (the g) (drained m (the g) steps ran) ≡ None → IsCommitted m (the g) g.running g.plan (drained m (the g) steps ran)
  calm_rests steps e = rests (drained m (the g) steps ran) (drained_goes steps ran (start_goes m g formed few free)) e

-- ---- the setting has one change set and no operator

module _ {Config TheEdit Node : Type 0} (m : Meaning Config TheEdit Node) (setting : Setting TheEdit)
    (running : List Config) (plan : ChangePlan) (calm : IsCalm m setting running plan) where
  abbrev g : Given Config TheEdit
  g = record { tables = setting.tables; running = running; plan = plan }

  setting_is : setting ≡ the g
  setting_is =
      ap (λ plans. let s : Setting TheEdit = record { tables = setting.tables; plans = plans; users = setting.users } in s) calm.alone
      ∙ ap (λ users. let s : Setting TheEdit = record { tables = setting.tables; plans = plan ∷ []; users = users } in s) calm.nobody

  abbrev RestsCommitted : Setting TheEdit → ℕ → Type 0
  RestsCommitted s steps = drain_event s (drained_run m s running steps) ≡ None → IsCommitted m s running plan (drained_run m s running steps)

  pub calm_commits : (steps : ℕ) → RestsCommitted setting steps
  calm_commits steps =
      subst (λ s. RestsCommitted s steps) (sym setting_is)
      (calm_rests m g calm.formed calm.few (subst (λ s. All (IsUnhindered m s running) plan.edits) setting_is calm.each) steps)
