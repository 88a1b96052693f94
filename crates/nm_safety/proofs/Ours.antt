-- What is said of one link, and of the requests on it.
use Rattle.std.proofs.Common.{◌≡◌, ◌∙◌, ℕ, ◌≤◌, Bool, true, List, [], ◌∷◌, ◌++◌, Option, Some, None, IfSome, option_map, slice_get, refl, sym, arith}
use Rattle.std.proofs.lemmas.Option.{none-some}
use Rattle.nm_proto.specs.declared.ask.Ask.{Ask}
use Rattle.nm_proto.specs.declared.ask.Ask.TheVariants as ask
use Rattle.nm_proto.specs.declared.message.Request.{Request}
use Rattle.nm_proto.specs.declared.journal.Entry.{Entry}
use Rattle.nm_proto.specs.declared.plan.ChangePlan.{ChangePlan}
use Rattle.nm_proto.specs.declared.plan.PlannedEdit.{PlannedEdit}
use Rattle.nm_history.specs.History.{RecordedState}
use Rattle.nm_recovery.specs.Recovery.{is_started}
use Rattle.nm_wire.specs.declared.link.Exchange.{Exchange}
use Rattle.nm_wire.specs.declared.link.Way.{Way}
use Rattle.nm_wire.specs.declared.link.Way.TheVariants.{Quiet, Asked, Told}
use Rattle.nm_wire.specs.Link.{LinkState, fresh_link, asked_on, is_quiet_way, sent_on, handled_on, handled_by, closed_link}
use Rattle.nm_manager.specs.Requests.{request_for, edit_request, edit_for}
use Rattle.nm_manager.specs.Slot.{SideState}
use Rattle.nm_safety.proofs.Links.{did_sent_on, did_handled}
use Rattle.nm_safety.specs.Support.{Owners, IsOurs, IsOwned, IsLinked, AllLinks}
use Rattle.nm_safety.proofs.Lists.{some_is, to_some}
use Rattle.nm_safety.proofs.Entries.{any_later}

-- ---- requests

edit_ours : (change : ℕ) (entries : List Entry) (found : Option PlannedEdit) → IfSome (option_map (edit_request entries change) found) (IsOurs change)
edit_ours change entries None = tt
edit_ours change entries (Some planned) = record { known = refl; names = tt; opens = tt }

-- each request that the manager makes is its own
pub request_ours : (plan : ChangePlan) (entries : List Entry) (change device : ℕ) (what : Ask) → IfSome (request_for plan entries change device what) (IsOurs change)
request_ours plan entries change device ask.OpenSession = record { known = refl; names = tt; opens = refl }
request_ours plan entries change device ask.LockRunning = record { known = refl; names = tt; opens = tt }
request_ours plan entries change device ask.LockCandidate = record { known = refl; names = tt; opens = tt }
request_ours plan entries change device ask.Edit = edit_ours change entries (edit_for plan device)
request_ours plan entries change device ask.Validate = record { known = refl; names = tt; opens = tt }
request_ours plan entries change device ask.CommitConfirmed = record { known = refl; names = (refl, tt); opens = tt }
request_ours plan entries change device ask.Renew = record { known = refl; names = (tt, refl); opens = tt }
request_ours plan entries change device ask.Confirm = record { known = refl; names = (tt, refl); opens = tt }
request_ours plan entries change device ask.Cancel = record { known = refl; names = refl; opens = tt }
request_ours plan entries change device ask.HasMark = record { known = refl; names = tt; opens = tt }
request_ours plan entries change device ask.Discard = record { known = refl; names = tt; opens = tt }
request_ours plan entries change device ask.CloseSession = record { known = refl; names = tt; opens = tt }
request_ours plan entries change device ask.Resync = tt

-- ---- one link

module _ (change : ℕ) (owners : Owners) (last place : ℕ) where
  pub fresh_owned : IsOwned change owners last place fresh_link
  fresh_owned = record { session = λ s e. absurd (none-some s e); opened = λ s e. absurd (none-some s e); asked = tt }

  pub sent_owned : (link : LinkState) (request : Request) → IsOurs change request → is_quiet_way link.way ≡ true → IsOwned change owners last place link → IsOwned change owners last place (sent_on request link)
  sent_owned link request ours quiet owned =
      let did = did_sent_on request link quiet in
      record { session = λ s e. owned.session s (sym did.session ∙ e); opened = λ s e. owned.opened s (sym did.session ∙ e); asked = ours }

  handled_asked : (past : List Exchange) (way : Way) (is_open : Bool) → IfSome (asked_on way) (IsOurs change) → IfSome (asked_on (handled_by (record { past = past; way = way; is_open = is_open }) way).way) (IsOurs change)
  handled_asked past Quiet is_open ours = ours
  handled_asked past (Asked request) is_open ours = ours
  handled_asked past (Told exchange) is_open ours = tt

  pub handled_owned : (link : LinkState) → IsOwned change owners last place link → IsOwned change owners last place (handled_on link)
  handled_owned link owned =
      let did = did_handled link in
      record { session = λ s e. owned.session s (sym did.session ∙ e); opened = λ s e. owned.opened s (sym did.session ∙ e); asked = handled_asked link.past link.way link.is_open owned.asked }

  pub closed_owned : (link : LinkState) → IsOwned change owners last place link → IsOwned change owners last place (closed_link link)
  closed_owned link owned = record { session = owned.session; opened = owned.opened; asked = owned.asked }

  -- more sessions were opened
  pub later_owned : (now : Owners) (new_last : ℕ) → last ≤ new_last → ((session : ℕ) → session ≤ last → now session ≡ owners session) → (link : LinkState)
      → IsOwned change owners last place link → IsOwned change now new_last place link
  later_owned now new_last more same link owned = record {
    session = λ s e. same s (owned.opened s e) ∙ owned.session s e;
    opened = λ s e. let within : s ≤ last = owned.opened s e in omega (arith, within, more);
    asked = owned.asked;
  }

-- ---- where there is a device

module _ {Config Node : Type 0} (change : ℕ) (entries : List Entry) (owners : Owners) (device : Option (RecordedState Config Node)) where
  each_owned : (place : ℕ) (before after : LinkState) → IsLinked change entries owners device place before
      → ((last : ℕ) → IsOwned change owners last place before → IsOwned change owners last place after) → IsLinked change entries owners device place after
  each_owned place before after linked step = record {
    begun = linked.begun;
    owned = to_some (λ r. IsOwned change owners r.device.sessions.last place after) device
        (λ r there. step r.device.sessions.last (some_is r (λ one. IsOwned change owners one.device.sessions.last place before) device there linked.owned));
  }

  pub fresh_linked : is_started change entries ≡ true → (place : ℕ) → IsLinked change entries owners device place fresh_link
  fresh_linked begun place = record {
    begun = begun;
    owned = to_some (λ r. IsOwned change owners r.device.sessions.last place fresh_link) device (λ r there. fresh_owned change owners r.device.sessions.last place);
  }

  pub sent_linked : (place : ℕ) (request : Request) (link : LinkState) → IsOurs change request → is_quiet_way link.way ≡ true → IsLinked change entries owners device place link
      → IsLinked change entries owners device place (sent_on request link)
  sent_linked place request link ours quiet linked = each_owned place link (sent_on request link) linked (λ last owned. sent_owned change owners last place link request ours quiet owned)

  pub handled_linked : (place : ℕ) (link : LinkState) → IsLinked change entries owners device place link → IsLinked change entries owners device place (handled_on link)
  handled_linked place link linked = each_owned place link (handled_on link) linked (λ last owned. handled_owned change owners last place link owned)

  pub closed_linked : (place : ℕ) (link : LinkState) → IsLinked change entries owners device place link → IsLinked change entries owners device place (closed_link link)
  closed_linked place link linked = each_owned place link (closed_link link) linked (λ last owned. closed_owned change owners last place link owned)

  pub entered_linked : (entry : Entry) (place : ℕ) (link : LinkState) → IsLinked change entries owners device place link → IsLinked change (entries ++ entry ∷ []) owners device place link
  entered_linked entry place link linked = record { begun = any_later _ entries entry linked.begun; owned = linked.owned }

-- ---- all links

links_map : (P Q : ℕ → LinkState → Type 0) → ((place : ℕ) (link : LinkState) → P place link → Q place link) → (links : List LinkState) → ((place : ℕ) → IfSome (slice_get links place) (P place))
    → (place : ℕ) → IfSome (slice_get links place) (Q place)
links_map P Q step links all place = to_some (Q place) (slice_get links place) (λ link there. step place link (some_is link (P place) (slice_get links place) there (all place)))

pub all_links_map : (P Q : ℕ → ℕ → LinkState → Type 0) → ((d place : ℕ) (link : LinkState) → P d place link → Q d place link) → (sides : List SideState) → AllLinks P sides → AllLinks Q sides
all_links_map P Q step sides all d =
    to_some (λ side. (place : ℕ) → IfSome (slice_get side.wire.links place) (Q d place)) (slice_get sides d)
    (λ side there. links_map (P d) (Q d) (step d) side.wire.links (some_is side (λ side. (place : ℕ) → IfSome (slice_get side.wire.links place) (P d place)) (slice_get sides d) there (all d)))
