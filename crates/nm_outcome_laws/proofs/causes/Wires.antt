-- What was told on links stays where the manager acts on them.
use Rattle.std.proofs.Common.{◌≡◌, ◌∙◌, ◌⊎◌, inl, inr, ℕ, zero, suc, ◌-◌, ◌==◌, Bool, true, false, cond, List, [], ◌∷◌, ◌++◌, Contains, fold, map}
use Rattle.std.proofs.Common.{slice_get, Option, Some, None, IfSome, option_and_then, refl, sym, subst}
use Rattle.std.proofs.lemmas.List.Elements.{Contains-append_left, Contains-push_cases, Contains-push}
use Rattle.std.proofs.lemmas.List.Sums.{fold-append}
use Rattle.std.proofs.lemmas.Option.{none-some}
use Rattle.nm_proto.specs.declared.message.Request.{Request}
use Rattle.nm_proto.specs.declared.message.Reply.{Reply}
use Rattle.nm_wire.specs.declared.link.Exchange.{Exchange}
use Rattle.nm_wire.specs.declared.link.Way.{Way}
use Rattle.nm_wire.specs.declared.link.Way.TheVariants.{Quiet, Asked, Told}
use Rattle.nm_wire.specs.Link.{LinkState, fresh_link, is_quiet_way, over, over_way, first_session, session_of, sent_on, told_on, handled_on}
use Rattle.nm_wire.specs.Link.{handled_by, closed_link}
use Rattle.nm_wire.specs.Words.{with_exchange, exchanges_of}
use Rattle.nm_wire.specs.Wire.{WireState, link_at, session_at, changed, begun, sent_at, told, handled, handled_at, due, lost, restarted, broken}
use Rattle.nm_wire.specs.Wire.{may_send, is_quiet_link}
use Rattle.nm_manager.specs.Slot.{may_go, gone}
use Rattle.nm_safety.proofs.Basics.{never}
use Rattle.nm_safety.proofs.Answered.{told_link}
use Rattle.nm_safety.proofs.Wires.{at_changed, at_map, IsDue}
use Rattle.nm_outcome_laws.specs.Causes.{exchanges_on, exchanges_at}

-- ---- a link

-- as much was told, on the same session
abbrev AsTold : Option LinkState → Option LinkState → Type 0
AsTold before after = (exchanges_on after ≡ exchanges_on before) × (option_and_then session_of after ≡ option_and_then session_of before)

as_itself : (found : Option LinkState) → AsTold found found
as_itself found = (refl, refl)

module _ {A : Type 0} where
  over_asked : (step : A → Exchange → A) (value : A) (way : Way) (request : Request) → is_quiet_way way ≡ true
      → over_way step value (Asked request) ≡ over_way step value way
  over_asked step value Quiet request q = refl
  over_asked step value (Asked other) request q = refl
  over_asked step value (Told exchange) request q = never q

  over_handled : (step : A → Exchange → A) (value : A) (past : List Exchange) (way : Way) (is_open : Bool)
      → over step value (handled_by (record { past = past; way = way; is_open = is_open }) way) ≡ over step value
      (record { past = past; way = way; is_open = is_open })
  over_handled step value past Quiet is_open = refl
  over_handled step value past (Asked request) is_open = refl
  over_handled step value past (Told exchange) is_open = fold-append step value past (exchange ∷ [])

sent_as : (request : Request) (found : Option LinkState) → is_quiet_link found ≡ true → IfSome found (λ link. AsTold (Some link) (Some (sent_on request link)))
sent_as request None q = tt
sent_as request (Some link) q = (
  over_asked with_exchange (fold with_exchange [] link.past) link.way request q,
  over_asked first_session
      (fold first_session None link.past) link.way request q,
)

handled_as : (found : Option LinkState) → IfSome found (λ link. AsTold (Some link) (Some (handled_on link)))
handled_as None = tt
handled_as (Some link) =
    (over_handled with_exchange [] link.past link.way link.is_open, over_handled first_session None link.past link.way link.is_open)

closed_as : (found : Option LinkState) → IfSome found (λ link. AsTold (Some link) (Some (closed_link link)))
closed_as None = tt
closed_as (Some link) = (refl, refl)

-- ---- a wire

pub record SameTold (before after : WireState) : Type 0 where
  pub told : (link : ℕ) → exchanges_at after link ≡ exchanges_at before link
  pub session : (link : ℕ) → session_at after link ≡ session_at before link

pub same_told : (wire : WireState) → SameTold wire wire
same_told wire = record { told = λ link. refl; session = λ link. refl }

from_links : (before after : WireState) → ((link : ℕ) → AsTold (link_at before link) (link_at after link)) → SameTold before after
from_links before after all = record { told = λ link. (all link).0; session = λ link. (all link).1 }

changed_as : (change : LinkState → LinkState) (wire : WireState) (number : ℕ) → IfSome (link_at wire number) (λ link. AsTold (Some link) (Some (change link)))
    → SameTold wire (changed change wire number (link_at wire number))
changed_as change wire number so =
    from_links wire (changed change wire number (link_at wire number))
    (λ link. at_changed AsTold as_itself change wire number link (link_at wire number) refl so)

numbered_as : (b : Bool) (one other : Option LinkState) → AsTold one other → AsTold (cond b None one) (cond b None other)
numbered_as true one other so = (refl, refl)
numbered_as false one other so = so

one_comes : (links : List LinkState) (new : LinkState) (place : ℕ) → AsTold None (Some new)
    → AsTold (slice_get links place) (slice_get (links ++ new ∷ []) place)
one_comes [] new zero so = so
one_comes [] new (suc place) so = (refl, refl)
one_comes (link ∷ links) new zero so = (refl, refl)
one_comes (link ∷ links) new (suc place) so = one_comes links new place so

begun_as : (wire : WireState) (request : Request) → SameTold wire (begun wire request)
begun_as wire request =
    from_links wire (begun wire request)
    (λ link.
    numbered_as (link == 0) (slice_get wire.links (link - 1)) (slice_get (wire.links ++ sent_on request fresh_link ∷ []) (link - 1))
    (one_comes wire.links (sent_on request fresh_link) (link - 1) (refl, refl)))

sent_at_as : (links : List LinkState) (request : Request) (current : Option ℕ) → may_send (record { links = links; current = current }) ≡ true
    → SameTold (record { links = links; current = current }) (sent_at (record { links = links; current = current }) request current)
sent_at_as links request None may = never may
sent_at_as links request (Some number) may =
    let wire : WireState = record { links = links; current = Some number } in
    changed_as (sent_on request) wire number (sent_as request (link_at wire number) may)

pub gone_as : (new : Bool) (wire : WireState) (request : Request) → may_go new wire ≡ true → SameTold wire (gone new wire request)
gone_as true wire request may = begun_as wire request
gone_as false wire request may = sent_at_as wire.links request wire.current may

handled_at_as : (wire : WireState) (link : ℕ) (found : Option Exchange) → SameTold wire (handled_at wire link found)
handled_at_as wire link None = same_told wire
handled_at_as wire link (Some exchange) =
    let same = changed_as handled_on wire link (handled_as (link_at wire link)) in
    record { told = same.told; session = same.session }

pub handled_told : (wire : WireState) (link number : ℕ) → SameTold wire (handled wire link number)
handled_told wire link number = handled_at_as wire link (due wire link number)

pub broken_told : (wire : WireState) → SameTold wire (broken wire)
broken_told wire = record { told = λ link. refl; session = λ link. refl }

pub lost_told : (wire : WireState) (link : ℕ) → SameTold wire (lost wire link)
lost_told wire link = changed_as closed_link wire link (closed_as (link_at wire link))

pub restarted_told : (wire : WireState) → SameTold wire (restarted wire)
restarted_told wire =
    from_links wire (restarted wire)
    (λ link.
    numbered_as (link == 0) (slice_get wire.links (link - 1)) (slice_get (map closed_link wire.links) (link - 1))
    (at_map AsTold as_itself closed_link (λ one. (refl, refl)) wire.links (link - 1)))

-- ---- what is handled next was told

push_there : (past : List Exchange) (way : Way) (exchange : Exchange) → way ≡ Told exchange → Contains (over_way with_exchange past way) exchange
push_there past way exchange e = subst (λ now. Contains (over_way with_exchange past now) exchange) (sym e) (Contains-push past exchange)

pub due_told : (wire : WireState) (link : ℕ) (exchange : Exchange) → IsDue wire link exchange → Contains (exchanges_at wire link) exchange
due_told wire link exchange d =
    subst (λ found. Contains (exchanges_on found) exchange) (sym d.here) (push_there (fold with_exchange [] d.held.past) d.held.way exchange d.way)

-- ---- one more reply is told

module _ (request : Request) (reply : Reply) (session : Option ℕ) where
  abbrev pub exchange_now : Exchange
  exchange_now = record { request = request; reply = reply }

  -- nothing but this exchange is new, and it is on a link of this session
  pub record IsMore (before after : Option LinkState) : Type 0 where
    pub comes : (x : Exchange) → Contains (exchanges_on after) x
        → Contains (exchanges_on before) x ⊎ ((x ≡ exchange_now) × (option_and_then session_of before ≡ session))
    pub stays : (x : Exchange) → Contains (exchanges_on before) x → Contains (exchanges_on after) x
    pub goes : (one : ℕ) → option_and_then session_of before ≡ Some one → option_and_then session_of after ≡ Some one

  more_itself : (found : Option LinkState) → IsMore found found
  more_itself found = record { comes = λ x c. inl c; stays = λ x c. c; goes = λ one e. e }

  old_or_new : (link : LinkState) (x : Exchange) → session_of link ≡ session → Contains (exchanges_of link) x ⊎ (exchange_now ≡ x)
      → Contains (exchanges_of link) x ⊎ ((x ≡ exchange_now) × (session_of link ≡ session))
  old_or_new link x is (inl c) = inl c
  old_or_new link x is (inr e) = inr (sym e, is)

  told_past : (past : List Exchange) (way : Way) (is_open : Bool) → way ≡ Asked request
      → exchanges_of (told_on reply (record { past = past; way = way; is_open = is_open })) ≡ exchanges_of
      (record { past = past; way = way; is_open = is_open }) ++ exchange_now ∷ []
  told_past past way is_open e =
      subst (λ now. exchanges_of (told_on reply (record { past = past; way = now; is_open = is_open })) ≡ exchanges_of
      (record { past = past; way = now; is_open = is_open }) ++ exchange_now ∷ []) (sym e) refl

  first_stays : (o : Option ℕ) (one : ℕ) → o ≡ Some one → first_session o exchange_now ≡ Some one
  first_stays None one e = absurd (none-some one e)
  first_stays (Some other) one e = e

  told_more : (link : LinkState) → link.way ≡ Asked request → session_of link ≡ session → IsMore (Some link) (Some (told_on reply link))
  told_more link way is =
      let now : exchanges_of (told_on reply link) ≡ exchanges_of link ++ exchange_now ∷ [] = told_past link.past link.way link.is_open way in
      record {
        comes = λ x c. old_or_new link x is (Contains-push_cases (exchanges_of link) exchange_now x (subst (λ xs. Contains xs x) now c));
        stays = λ x c. subst (λ xs. Contains xs x) (sym now) (Contains-append_left (exchanges_of link) (exchange_now ∷ []) x c);
        goes = λ one e. (told_link link request reply way).session ∙ first_stays (session_of link) one e;
      }

  pub told_at_more : (wire : WireState) (number : ℕ) (link : LinkState) → link_at wire number ≡ Some link → link.way ≡ Asked request → session_of link ≡ session
      → (other : ℕ) → IsMore (link_at wire other) (link_at (told wire number reply) other)
  told_at_more wire number link here way is other =
      at_changed IsMore more_itself (told_on reply) wire number other (link_at wire number) refl
      (subst (λ found. IfSome found (λ one. IsMore (Some one) (Some (told_on reply one)))) (sym here) (told_more link way is))
