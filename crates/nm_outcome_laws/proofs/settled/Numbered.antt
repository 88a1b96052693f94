-- Each change set that was submitted has a number of the scenario's, whatever happens.
use Rattle.std.proofs.Common.{◌≡◌, ◌∙◌, ℕ, ◌-◌, ◌≤◌, List, [], ◌∷◌, ◌++◌, length, Some, IfSome, slice_get, refl, sym, ap, subst, append-nil, arith}
use Rattle.std.proofs.lemmas.Option.{slice_get_within}
use Rattle.nm_order.specs.declared.ticket.Ticket.{Ticket}
use Rattle.nm_proto.specs.declared.journal.Entry.{Entry}
use Rattle.nm_proto.specs.declared.journal.Entry.TheVariants.{Decided, Ended}
use Rattle.nm_proto.specs.declared.plan.ChangePlan.{ChangePlan}
use Rattle.nm_proto.specs.declared.plan.Event.{Event}
use Rattle.nm_proto.specs.Content.{Meaning}
use Rattle.nm_proto.specs.Plan.{devices_in}
use Rattle.nm_manager.specs.Queues.{tickets_by, tickets_in}
use Rattle.nm_manager.specs.Manager.{start_of}
use Rattle.nm_world.specs.World.{Setting, CoreState, WorldState, Came, core_of, world_step, run, start}
use Rattle.nm_safety.specs.Safe.{AreGiven, IsGiven}
use Rattle.nm_safety.specs.Cases.{Cases}
use Rattle.nm_safety.proofs.Cases.{comes}
use Rattle.nm_safety.proofs.Ready.{tickets_next}
use Rattle.nm_safety.proofs.Steps.{run_keeps}
use Rattle.nm_safety.proofs.Tickets.{all_more}

-- a ticket is of one of so many change sets
abbrev pub IsOneOf : ℕ → Ticket → Type 0
IsOneOf changes ticket = (1 ≤ ticket.change) × (ticket.change ≤ changes)

abbrev pub AreNumbered : ℕ → List Entry → Type 0
AreNumbered changes entries = (i : ℕ) → IfSome (slice_get (tickets_in entries) i) (IsOneOf changes)

module _ (changes : ℕ) (entries : List Entry) (all : AreNumbered changes entries) where
  numbered_still : (entry : Entry) → tickets_by entry ≡ [] → AreNumbered changes (entries ++ entry ∷ [])
  numbered_still entry none i =
      subst (λ l. IfSome (slice_get l i) (IsOneOf changes))
      (sym (tickets_next entries entry ∙ ap (λ l. tickets_in entries ++ l) none ∙ append-nil (tickets_in entries))) (all i)

  numbered_more : (change : ℕ) (plan : ChangePlan) → 1 ≤ change → change ≤ changes → AreNumbered changes (entries ++ start_of change plan ∷ [])
  numbered_more change plan low high i =
      subst (λ l. IfSome (slice_get l i) (IsOneOf changes)) (sym (tickets_next entries (start_of change plan)))
      (all_more (IsOneOf changes) (tickets_in entries) (record { change = change; devices = record { 0 = devices_in plan.edits } }) (low, high) all i)

module _ {Config TheEdit Node : Type 0} (m : Meaning Config TheEdit Node) (setting : Setting TheEdit) where
  abbrev pub NumberedIn : WorldState Config Node → Type 0
  NumberedIn w = AreNumbered (length setting.plans) w.entries

  few : (change : ℕ) (plan : ChangePlan) → 1 ≤ change → slice_get setting.plans (change - 1) ≡ Some plan → change ≤ length setting.plans
  few change plan numbered planned = let less = slice_get_within setting.plans (change - 1) plan planned in omega (arith, numbered, less)

  module _ (w : CoreState Config Node) (all : AreNumbered (length setting.plans) w.entries) where
    abbrev NumbersAfter : Event → Came Config Node → Type 0
    NumbersAfter event c = AreNumbered (length setting.plans) c.after.entries

    cases : Cases m setting w NumbersAfter
    cases = record {
      nothing = λ event. all;
      starts = λ change numbered plan planned may. numbered_more (length setting.plans) w.entries all change plan numbered (few change plan numbered planned);
      decides = λ change a ready v acts may. numbered_still (length setting.plans) w.entries all (Decided change v) refl;
      finishes = λ change a ready kept acts may. numbered_still (length setting.plans) w.entries all (Ended change kept) refl;
      sends_out = λ change a ready device what acts. all;
      renews_timer = λ change device a known ready. all;
      hears = λ change device link number a known. all;
      breaks_off = λ change device a known. all;
      forgets = λ change a begun going. all;
      crashes = all;
      tells = λ change device link l request out plain session is d. all;
      opens = λ change device link l user out d. all;
      loses_session = λ change device link l opened session is h happens. all;
      closes = λ change device link l opened is. all;
      restarts = λ device r here. all;
      passes = λ device seconds r here. all;
      asks = λ number device a request plain session given opened d. all;
      enters = λ number device a user own free d. all;
      leaves = λ number device a session given opened h happens. all;
    }

  one : (w : WorldState Config Node) (event : Event) → IsGiven setting event → NumberedIn w → NumberedIn (world_step m setting w event)
  one w event given all = comes m setting (core_of w) (NumbersAfter (core_of w) all) (cases (core_of w) all) event given

  pub run_numbered : (running : List Config) (events : List Event) → AreGiven setting events → NumberedIn (run m setting (start setting running) events)
  run_numbered running events given = run_keeps m setting NumberedIn one (start setting running) events given (λ i. tt)
