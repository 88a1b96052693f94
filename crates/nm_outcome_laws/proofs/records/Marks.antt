-- The mark that is asked for on a link's way is that of its change set, at each step.
use Rattle.std.proofs.Common.{◌≡◌, ℕ, zero, suc, ◌-◌, List, Option, Some, None, IfSome, option_map, slice_get, slice_set, replicate, refl, subst}
use Rattle.nm_proto.specs.declared.ask.Ask.{Ask}
use Rattle.nm_proto.specs.declared.ask.Ask.TheVariants as ask
use Rattle.nm_proto.specs.declared.message.Reply.{Reply}
use Rattle.nm_proto.specs.declared.journal.Entry.{Entry}
use Rattle.nm_proto.specs.declared.plan.ChangePlan.{ChangePlan}
use Rattle.nm_proto.specs.declared.plan.PlannedEdit.{PlannedEdit}
use Rattle.nm_decider.specs.Course.{seat_count}
use Rattle.nm_wire.specs.declared.link.Way.{Way}
use Rattle.nm_wire.specs.declared.link.Way.TheVariants.{Quiet, Asked, Told}
use Rattle.nm_wire.specs.Link.{LinkState, handled_by, told_by, told_on}
use Rattle.nm_wire.specs.Wire.{link_at}
use Rattle.nm_manager.specs.Requests.{edit_for, edit_request, request_for}
use Rattle.nm_manager.specs.Slot.{SideState, SlotState, fresh_side, fresh_slot, receives, renews, sends, told_wire, with_wire}
use Rattle.nm_safety.proofs.Gone.{each_changed}
use Rattle.nm_safety.specs.Support.{AllLinks}
use Rattle.nm_safety.proofs.SlotLinks.{links_at, received_links, renewed_links, sent_links, set_links}
use Rattle.nm_outcome_laws.specs.RecordsSupport.{AsksOwn, IsOwnMark, OwnLink}

-- ---- one link

edit_own : (change : ℕ) (entries : List Entry) (found : Option PlannedEdit)
    → IfSome (option_map (edit_request entries change) found) (IsOwnMark change)
edit_own change entries None = tt
edit_own change entries (Some planned) = tt

-- what the manager makes for a change set asks for its mark alone
request_own : (plan : ChangePlan) (entries : List Entry) (change device : ℕ) (what : Ask)
    → IfSome (request_for plan entries change device what) (IsOwnMark change)
request_own plan entries change device ask.OpenSession = tt
request_own plan entries change device ask.LockRunning = tt
request_own plan entries change device ask.LockCandidate = tt
request_own plan entries change device ask.Edit = edit_own change entries (edit_for plan device)
request_own plan entries change device ask.Validate = tt
request_own plan entries change device ask.CommitConfirmed = tt
request_own plan entries change device ask.Renew = tt
request_own plan entries change device ask.Confirm = tt
request_own plan entries change device ask.Cancel = tt
request_own plan entries change device ask.HasMark = refl
request_own plan entries change device ask.Discard = tt
request_own plan entries change device ask.CloseSession = tt
request_own plan entries change device ask.Resync = tt

-- what is told isn't asked any more, nor is what is handled
told_own : (change : ℕ) (reply : Reply) (link : LinkState) (way : Way) → AsksOwn change link → AsksOwn change (told_by reply link way)
told_own change reply link Quiet own = own
told_own change reply link (Asked request) own = tt
told_own change reply link (Told exchange) own = own

handled_own : (change : ℕ) (link : LinkState) (way : Way) → AsksOwn change link → AsksOwn change (handled_by link way)
handled_own change link Quiet own = own
handled_own change link (Asked request) own = own
handled_own change link (Told exchange) own = tt

-- ---- all links of a change set

module _ (change : ℕ) (slot : SlotState) (all : AllLinks (OwnLink change) slot.sides) where
  -- as it has its number
  module _ (numbered : slot.course.change ≡ change) (plan : ChangePlan) (entries : List Entry) where
    requests_own : (device : ℕ) (what : Ask) → IfSome (request_for plan entries slot.course.change device what) (IsOwnMark change)
    requests_own device what =
        subst (λ c. IfSome (request_for plan entries slot.course.change device what) (IsOwnMark c)) numbered
        (request_own plan entries slot.course.change device what)

    pub sent_own : (device : ℕ) (what : Ask) → AllLinks (OwnLink change) (sends plan entries slot device what).slot.sides
    sent_own =
        sent_links (OwnLink change) slot all (λ d place. tt) (IsOwnMark change) (λ d place request link own quiet p. own) plan entries
        requests_own

    pub renewed_own : (device : ℕ) → AllLinks (OwnLink change) (renews plan entries slot device).slot.sides
    renewed_own =
        renewed_links (OwnLink change) slot all (λ d place. tt) (IsOwnMark change) (λ d place request link own quiet p. own) plan entries
        requests_own

  pub received_own : (device link number : ℕ) → AllLinks (OwnLink change) (receives slot device link number).slot.sides
  received_own = received_links (OwnLink change) slot all (λ d place link p. handled_own change link link.way p)

  pub told_links_own : (device link : ℕ) (reply : Reply) (side : SideState) → slice_get slot.sides (device - 1) ≡ Some side
      → AllLinks (OwnLink change) (slice_set slot.sides (device - 1) (with_wire side (told_wire link reply side.wire)))
  told_links_own device link reply side there =
      set_links (OwnLink change) slot all (device - 1) side (with_wire side (told_wire link reply side.wire)) there
      (each_changed (told_on reply) side.wire link (OwnLink change (device - 1))
      (λ place one p. told_own change reply one one.way p) (link_at side.wire link) refl
      (links_at (OwnLink change) slot all (device - 1) side there))

-- ---- the beginning

each_same : {A : Type 0} (Q : ℕ → A → Type 0) (n : ℕ) (x : A) → ((j : ℕ) → Q j x) → (j : ℕ) → IfSome (slice_get (replicate n x) j) (Q j)
each_same Q zero x all j = tt
each_same Q (suc n) x all zero = all 0
each_same Q (suc n) x all (suc j) = each_same (λ i. Q (suc i)) n x (λ i. all (suc i)) j

pub fresh_own : (change number members : ℕ) → AllLinks (OwnLink change) (fresh_slot number members).sides
fresh_own change number members =
    each_same (λ d side. (j : ℕ) → IfSome (slice_get side.wire.links j) (OwnLink change d j)) seat_count fresh_side (λ d j. tt)
