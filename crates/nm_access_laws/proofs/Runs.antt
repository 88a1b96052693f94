-- A run of permitted events, and the rest that follows it, keep that operators act by themselves and that what they did was allowed.
use Rattle.std.proofs.Common.{◌≡◌, ◌∙◌, ◌≤◌, ℕ, zero, suc, List, [], ◌∷◌, Bool, true, false, Option, None, Some, IfSome, is_some, length, map, refl, sym, ap, subst, arith, if◌then◌else◌}
use Rattle.std.specs.List.{All}
use Rattle.nm_proto.specs.Content.{Meaning, Laws}
use Rattle.nm_proto.specs.declared.message.Request.{Request}
use Rattle.nm_proto.specs.declared.plan.Event.{Event}
use Rattle.nm_proto.specs.declared.plan.Event.TheVariants.{Submit, Turn, Deliver, Answer, Break, Lose, Advance, Restart, Forget, Crash, Renew, Foreign, Leave, Round}
use Rattle.nm_device.specs.Device.{DeviceState, is_manager}
use Rattle.nm_history.specs.History.{recorded}
use Rattle.nm_manager.specs.Manager.{wire_in}
use Rattle.nm_permitted.specs.declared.judge.Denial.{Denial}
use Rattle.nm_permitted.specs.Permitted.{judged_run, judged_step, permitted}
use Rattle.nm_permitted.proofs.Judged.{judged_is_run}
use Rattle.nm_world.specs.declared.happened.Sending.{Sending}
use Rattle.nm_world.specs.Drain.{drain_by, drain_event, drain_step, drained}
use Rattle.nm_world.specs.World.{Setting, WorldState, CoreState, core_of, elementary, event_step, followed, manager_in, replies_on, round, rounds, run, sending_of, start, world_step}
use Rattle.nm_world.proofs.ToRest.{IsStep, drain_event_is_step}
use Rattle.nm_safety.specs.Safe.{AreGiven, IsGiven, IsProper}
use Rattle.nm_safety.specs.Support.{IsSupported}
use Rattle.nm_safety.proofs.Along.{history_none}
use Rattle.nm_safety.proofs.Cases.{comes}
use Rattle.nm_safety.proofs.Drained.{step_given}
use Rattle.nm_safety.proofs.Facts.{SupportedIn}
use Rattle.nm_safety.proofs.Runs.{one_supported}
use Rattle.nm_safety.proofs.Sendings.{turn_goes}
use Rattle.nm_safety.proofs.Start.{begin_supported}
use Rattle.nm_access_laws.specs.Allowed.{AreAllowed, AreOwn, IsAllowed, Permits}
use Rattle.nm_access_laws.proofs.Allowed.{Goes, Kept, Keeps, cases}
use Rattle.nm_access_laws.proofs.Users.{all_fresh}

module _ {Config TheEdit Node : Type 0} (m : Meaning Config TheEdit Node) (laws : Laws m) (setting : Setting TheEdit) (running : List Config)
    (May : List ℕ → DeviceState Config Node → Request → Type 0) (judge : CoreState Config Node → Event → Option Denial) (permits : Permits May setting judge)
    (proper : IsProper {Node = Node} m setting running []) where
  pub record IsKept (w : WorldState Config Node) : Type 0 where
    pub supported : SupportedIn m setting w
    pub own : AreOwn setting (core_of w)
    pub allowed : AreAllowed m setting May running (core_of w)

  -- ---- one event

  goes_one : (w : WorldState Config Node) (event : Event) → IsGiven setting event → Goes judge (core_of w) event → IsKept w → IsKept (world_step m setting w event)
  goes_one w event given goes k =
      let then_ : Kept m setting running May (elementary m setting (core_of w) event).after =
      comes m setting (core_of w) (Keeps m setting proper.few running May judge permits w k.supported k.own k.allowed)
      (cases m setting proper.few running May judge permits w k.supported k.own k.allowed) event given goes in
      record {
        supported = one_supported m laws setting proper.edits proper.few proper.strangers w event given k.supported;
        own = then_.users;
        allowed = then_.asked;
      }

  -- ---- rounds

  followed_keeps : (w : WorldState Config Node) (change : ℕ) → 1 ≤ change → (sending : Option Sending) → IfSome sending (λ (sent : Sending). 1 ≤ sent.device) → IsKept w
      → IsKept (followed m setting w change sending)
  followed_keeps w change numbered None sent k = k
  followed_keeps w change numbered (Some sending) sent k =
      let v = world_step m setting w (Deliver change sending.device sending.link) in
      goes_one v (Answer change sending.device sending.link (replies_on (wire_in (manager_in (core_of v)) change sending.device) sending.link)) (numbered, sent) tt
      (goes_one w (Deliver change sending.device sending.link) numbered tt k)

  rounds_keep : (n : ℕ) (w : WorldState Config Node) (change : ℕ) → 1 ≤ change → IsKept w → IsKept (rounds m setting n w change)
  rounds_keep zero w change numbered k = k
  rounds_keep (suc n) w change numbered k =
      rounds_keep n (round m setting w change) change numbered
      (followed_keeps (world_step m setting w (Turn change)) change numbered (sending_of (elementary m setting (core_of w) (Turn change)).happened)
      (turn_goes setting.plans (manager_in (core_of w)) change) (goes_one w (Turn change) numbered tt k))

  -- ---- what is permitted

  -- an operator of number 0 is none
  foreign_keeps : (w : WorldState Config Node) (number device : ℕ) (request : Request) → IsGiven setting (Foreign number device request)
      → judge (core_of w) (Foreign number device request) ≡ None → IsKept w → IsKept (world_step m setting w (Foreign number device request))
  foreign_keeps w zero device request given free k = record { supported = k.supported; own = k.own; allowed = k.allowed }
  foreign_keeps w (suc number) device request given free k = goes_one w (Foreign (suc number) device request) given (counted number, free) k
    where
      counted : (n : ℕ) → 1 ≤ suc n
      counted n = omega arith

  step_keeps : (w : WorldState Config Node) (event : Event) → IsGiven setting event → judge (core_of w) event ≡ None → IsKept w → IsKept (event_step m setting w event)
  step_keeps w (Submit change) given free k = goes_one w (Submit change) given tt k
  step_keeps w (Turn change) given free k = goes_one w (Turn change) given tt k
  step_keeps w (Deliver change device link) given free k = goes_one w (Deliver change device link) given tt k
  step_keeps w (Answer change device link number) given free k = goes_one w (Answer change device link number) given tt k
  step_keeps w (Break change device) given free k = goes_one w (Break change device) given tt k
  step_keeps w (Lose change device link) given free k = goes_one w (Lose change device link) given tt k
  step_keeps w (Advance device seconds) given free k = goes_one w (Advance device seconds) given tt k
  step_keeps w (Restart device) given free k = goes_one w (Restart device) given tt k
  step_keeps w (Forget change) given free k = goes_one w (Forget change) given tt k
  step_keeps w Crash given free k = goes_one w Crash given tt k
  step_keeps w (Renew change device) given free k = goes_one w (Renew change device) given tt k
  step_keeps w (Foreign number device request) given free k = foreign_keeps w number device request given free k
  step_keeps w (Leave number device) given free k = goes_one w (Leave number device) given tt k
  step_keeps w (Round change turns) given free k = rounds_keep turns w change given k

  judged_by : (w : WorldState Config Node) (event : Event) (denial : Option Denial) → judge (core_of w) event ≡ denial → IsGiven setting event → IsKept w
      → IsKept (if is_some denial then w else event_step m setting w event)
  judged_by w event None is given k = step_keeps w event given is k
  judged_by w event (Some denial) is given k = k

  judged_keeps : (w : WorldState Config Node) (events : List Event) → AreGiven setting events → IsKept w → IsKept (judged_run m setting judge w events)
  judged_keeps w [] given k = k
  judged_keeps w (event ∷ events) given k =
      judged_keeps (judged_step m setting judge w event) events given.1 (judged_by w event (judge (core_of w) event) refl given.0 k)

  pub permitted_kept : (w : WorldState Config Node) (events : List Event) → AreGiven setting events → IsKept w → IsKept (run m setting w (permitted m setting judge w events))
  permitted_kept w events given k = subst IsKept (judged_is_run m setting judge w events) (judged_keeps w events given k)

  -- ---- the beginning

  pub starts_kept : IsKept (start setting running)
  starts_kept = record {
    supported = begin_supported m setting running proper.first;
    own = λ place. all_fresh setting (map recorded running) (length setting.users) (length running) place;
    allowed = history_none m setting.tables (IsAllowed May) running;
  }

  -- ---- rest

  drain_keeps : (w : WorldState Config Node) (event : Event) → IsStep event → IsKept w → IsKept (world_step m setting w event)
  drain_keeps w (Submit change) step k = absurd step
  drain_keeps w (Turn change) step k = goes_one w (Turn change) step tt k
  drain_keeps w (Deliver change device link) step k = goes_one w (Deliver change device link) step tt k
  drain_keeps w (Answer change device link number) step k = goes_one w (Answer change device link number) step tt k
  drain_keeps w (Break change device) step k = goes_one w (Break change device) step tt k
  drain_keeps w (Lose change device link) step k = goes_one w (Lose change device link) step tt k
  drain_keeps w (Advance device seconds) step k = absurd step
  drain_keeps w (Restart device) step k = absurd step
  drain_keeps w (Forget change) step k = absurd step
  drain_keeps w Crash step k = absurd step
  drain_keeps w (Renew change device) step k = absurd step
  drain_keeps w (Foreign number device request) step k = absurd step
  drain_keeps w (Leave number device) step k = goes_one w (Leave number device) tt tt k
  drain_keeps w (Round change turns) step k = absurd step

  drained_by : (w : WorldState Config Node) (event : Option Event) → ((x : Event) → event ≡ Some x → IsStep x) → IsKept w → IsKept (drain_by m setting w event)
  drained_by w None step k = k
  drained_by w (Some event) step k = drain_keeps w event (step event refl) k

  pub drained_kept : (n : ℕ) (w : WorldState Config Node) → IsKept w → IsKept (drained m setting n w)
  drained_kept zero w k = k
  drained_kept (suc n) w k = drained_kept n (drain_step m setting w) (drained_by w (drain_event setting w) (λ x is. drain_event_is_step setting w x is) k)
