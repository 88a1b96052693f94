-- The tickets of change sets are for the devices of their plans, whatever happens.
use Rattle.std.proofs.Common.{◌≡◌, ◌∙◌, ℕ, zero, suc, ◌-◌, List, [], ◌∷◌, ◌++◌, Some, IfSome, slice_get, refl, sym, ap, subst, append-nil}
use Rattle.nm_order.specs.declared.ticket.Ticket.{Ticket}
use Rattle.nm_proto.specs.declared.journal.Entry.{Entry}
use Rattle.nm_proto.specs.declared.journal.Entry.TheVariants.{Decided, Ended}
use Rattle.nm_proto.specs.declared.plan.ChangePlan.{ChangePlan}
use Rattle.nm_proto.specs.declared.plan.Event.{Event}
use Rattle.nm_proto.specs.Content.{Meaning}
use Rattle.nm_proto.specs.Plan.{devices_in}
use Rattle.nm_manager.specs.Queues.{tickets_by, tickets_in}
use Rattle.nm_manager.specs.Manager.{start_of}
use Rattle.nm_world.specs.World.{Setting, CoreState, WorldState, Came, core_of, world_step}
use Rattle.nm_safety.specs.Safe.{IsGiven}
use Rattle.nm_safety.specs.Cases.{Cases}
use Rattle.nm_safety.proofs.Cases.{comes}
use Rattle.nm_safety.proofs.Ready.{tickets_next}

-- a ticket is for the devices of its change set
abbrev pub IsPlanTicket : List ChangePlan → Ticket → Type 0
IsPlanTicket plans ticket = IfSome (slice_get plans (ticket.change - 1)) (λ plan. ticket.devices.0 ≡ devices_in plan.edits)

abbrev pub AreTickets : List ChangePlan → List Entry → Type 0
AreTickets plans entries = (i : ℕ) → IfSome (slice_get (tickets_in entries) i) (IsPlanTicket plans)

pub all_more : {A : Type 0} (P : A → Type 0) (xs : List A) (x : A) → P x → ((j : ℕ) → IfSome (slice_get xs j) P) → (j : ℕ) → IfSome (slice_get (xs ++ x ∷ []) j) P
all_more P [] x p all zero = p
all_more P [] x p all (suc j) = tt
all_more P (y ∷ xs) x p all zero = all zero
all_more P (y ∷ xs) x p all (suc j) = all_more P xs x p (λ k. all (suc k)) j

module _ (plans : List ChangePlan) (entries : List Entry) (all : AreTickets plans entries) where
  -- an entry that submits nothing
  pub tickets_still : (entry : Entry) → tickets_by entry ≡ [] → AreTickets plans (entries ++ entry ∷ [])
  tickets_still entry none i =
      subst (λ l. IfSome (slice_get l i) (IsPlanTicket plans))
      (sym (tickets_next entries entry ∙ ap (λ l. tickets_in entries ++ l) none ∙ append-nil (tickets_in entries))) (all i)

  -- a change set is submitted
  pub tickets_more : (change : ℕ) (plan : ChangePlan) → slice_get plans (change - 1) ≡ Some plan → AreTickets plans (entries ++ start_of change plan ∷ [])
  tickets_more change plan planned i =
      subst (λ l. IfSome (slice_get l i) (IsPlanTicket plans)) (sym (tickets_next entries (start_of change plan)))
      (all_more (IsPlanTicket plans) (tickets_in entries) (record { change = change; devices = record { 0 = devices_in plan.edits } })
      (subst (λ o. IfSome o (λ one. devices_in plan.edits ≡ devices_in one.edits)) (sym planned) refl) all i)

abbrev pub TicketedIn : {Config TheEdit Node : Type 0} → Setting TheEdit → WorldState Config Node → Type 0
TicketedIn setting w = AreTickets setting.plans w.entries

module _ {Config TheEdit Node : Type 0} (m : Meaning Config TheEdit Node) (setting : Setting TheEdit) where
  module _ (w : CoreState Config Node) (all : AreTickets setting.plans w.entries) where
    abbrev TicketsAfter : Event → Came Config Node → Type 0
    TicketsAfter event c = AreTickets setting.plans c.after.entries

    cases : Cases m setting w TicketsAfter
    cases = record {
      nothing = λ event. all;
      starts = λ change numbered plan planned may. tickets_more setting.plans w.entries all change plan planned;
      decides = λ change a ready v acts may. tickets_still setting.plans w.entries all (Decided change v) refl;
      finishes = λ change a ready kept acts may. tickets_still setting.plans w.entries all (Ended change kept) refl;
      sends_out = λ change a ready device what acts. all;
      renews_timer = λ change device a known ready. all;
      hears = λ change device link number a known. all;
      breaks_off = λ change device a known. all;
      forgets = λ change a begun going. all;
      crashes = all;
      tells = λ change device link l request out plain session is d. all;
      opens = λ change device link l user out d. all;
      loses_session = λ change device link l opened session is h happens. all;
      closes = λ change device link l opened is. all;
      restarts = λ device r here. all;
      passes = λ device seconds r here. all;
      asks = λ number device a request plain session given opened d. all;
      enters = λ number device a user own free d. all;
      leaves = λ number device a session given opened h happens. all;
    }

  pub one_tickets : (w : WorldState Config Node) (event : Event) → IsGiven setting event → TicketedIn setting w → TicketedIn setting (world_step m setting w event)
  one_tickets w event given all = comes m setting (core_of w) (TicketsAfter (core_of w) all) (cases (core_of w) all) event given
