-- What is settled: which requests are on their way, what is reported unsettled, and what has become of change sets in a world that is at
-- rest (this project's own, over RFC 6241 section 8.4). It is read from links and from the devices' histories, and not as a report reads it.
use Rattle.std.specs.Prelude.{◌≡◌, ◌⊎◌, ◌↔◌, ℕ, suc, true, List, [], Contains, Some, None, IfSome, slice_get}
use Rattle.nm_base.specs.Token.{token_of}
use Rattle.nm_proto.specs.declared.message.Request.{Request}
use Rattle.nm_proto.specs.declared.plan.ChangePlan.{ChangePlan}
use Rattle.nm_proto.specs.Content.{Meaning}
use Rattle.nm_sessions.specs.Sessions.{is_open}
use Rattle.nm_history.specs.declared.outcome.Outcome.TheVariants.{Pending}
use Rattle.nm_history.specs.Outcome.{outcome_of}
use Rattle.nm_history.specs.History.{RecordedState}
use Rattle.nm_recovery.specs.Recovery.{is_started, is_ended_in}
use Rattle.nm_wire.specs.declared.link.Way.TheVariants.{Asked}
use Rattle.nm_wire.specs.Link.{LinkState, session_of}
use Rattle.nm_manager.specs.Manager.{wire_in}
use Rattle.nm_world.specs.Drain.{drain_event}
use Rattle.nm_world.specs.Report.{report_of}
use Rattle.nm_world.specs.World.{Setting, WorldState, core_of, manager_in}
use Rattle.nm_safety.specs.Reported.{pair_of}
use Rattle.nm_commit_laws.specs.Marks.{ArePlain}

module _ {Config Node : Type 0} where
  -- a request was sent on a link, the device has sent no reply to it, so that it stands in no history yet, and the device's side is open:
  -- it hasn't ended, and where the link has a session the device has that open
  pub record IsOnItsWay (r : RecordedState Config Node) (link : LinkState) : Type 0 where
    pub request : Request
    pub asked : link.way ≡ Asked request
    pub side : link.is_open ≡ true
    pub session : IfSome (session_of link) (λ number. is_open r.device.sessions number ≡ true)

  -- one is on one of these links
  pub record HasOnItsWay (r : RecordedState Config Node) (links : List LinkState) : Type 0 where
    pub place : ℕ
    pub link : LinkState
    pub there : slice_get links place ≡ Some link
    pub is : IsOnItsWay r link

module _ {Config TheEdit Node : Type 0} (setting : Setting TheEdit) (w : WorldState Config Node) where
  -- reported unsettled is exactly what was submitted and is pending, or has a request on its way
  abbrev pub TellsUnsettled : Type 0
  TellsUnsettled = (place : ℕ) (plan : ChangePlan) (device : ℕ) (r : RecordedState Config Node) → slice_get setting.plans place ≡ Some plan
      → slice_get w.devices device ≡ Some r
      → Contains (report_of setting w).unsettled (pair_of (suc place) (suc device))
      ↔ ((is_started (suc place) w.entries ≡ true) × ((outcome_of (token_of (suc place)) r.history ≡ Pending)
      ⊎ HasOnItsWay r (wire_in (manager_in (core_of w)) (suc place) (suc device)).links))

-- a world is at rest: no step is left that would bring it on, each change set that was submitted is ended, and nothing is reported
-- unsettled where no edit of a change set names a mark
pub record IsAtRest {Config TheEdit Node : Type 0} (m : Meaning Config TheEdit Node) (setting : Setting TheEdit)
    (w : WorldState Config Node) : Type 0 where
  pub over : drain_event setting w ≡ None
  pub ended : (change : ℕ) → is_started change w.entries ≡ true → is_ended_in change w.entries ≡ true
  pub settled : ArePlain m setting → (report_of setting w).unsettled ≡ []
