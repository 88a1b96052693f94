-- The links of a change set to a device, in the order in which they were made, and which of them is current
-- (this project's own). Link 1 stands first.
use Rattle.std.specs.Prelude.{◌≡◌, ℕ, ◌+◌, ◌-◌, ◌==◌, List, [], ◌∷◌, ◌++◌, length, map, slice_get, slice_set, Bool, false, not, ◌&&◌, Option, Some, None, is_some, option_and_then, if◌then◌else◌}
use Rattle.std.specs.List.{All}
use Rattle.nm_proto.specs.declared.message.Request.{Request}
use Rattle.nm_proto.specs.declared.message.Reply.{Reply}
use Rattle.nm_wire.specs.declared.link.Exchange.{Exchange}
use Rattle.nm_wire.specs.Link.{LinkState, fresh_link, outstanding, is_quiet, due_on, session_of, replies_sent, replies_handled, ends, sent_on, told_on, handled_on, closed_link}

-- the links that were made to a device, by their numbers, and the current one
pub record WireState : Type 0 where
  pub links : List LinkState
  pub current : Option ℕ

-- no link was made
abbrev pub no_links : WireState
no_links = record { links = []; current = None }

-- ---- what a wire has

-- the link of a number
abbrev pub link_at : WireState → ℕ → Option LinkState
link_at wire number = if number == 0 then None else slice_get wire.links (number - 1)

-- the link is the current one
abbrev pub is_current : WireState → ℕ → Bool
is_current wire number = is_number number wire.current where
  is_number : ℕ → Option ℕ → Bool
  is_number number None = false
  is_number number (Some other) = number == other

-- the current link
abbrev pub current_link : WireState → Option LinkState
current_link wire = option_and_then (link_at wire) wire.current

-- there is a link, and it is quiet
abbrev pub is_quiet_link : Option LinkState → Bool
is_quiet_link None = false
is_quiet_link (Some link) = is_quiet link

-- a request may be sent: there is a current link, and nothing on it is undelivered or not handled
abbrev pub may_send : WireState → Bool
may_send wire = is_quiet_link (current_link wire)

-- the request that a link has outstanding
abbrev pub outstanding_at : WireState → ℕ → Option Request
outstanding_at wire number = option_and_then outstanding (link_at wire number)

-- the session of the link of a number
abbrev pub session_at : WireState → ℕ → Option ℕ
session_at wire number = option_and_then session_of (link_at wire number)

-- there is a link, and its side at the device is open
abbrev pub is_open_link : Option LinkState → Bool
is_open_link None = false
is_open_link (Some link) = link.is_open

-- a link's side at the device is open
abbrev pub is_open_at : WireState → ℕ → Bool
is_open_at wire number = is_open_link (link_at wire number)

-- a link isn't current any more, and its side at the device is open
abbrev pub is_left_open : WireState → ℕ → Bool
is_left_open wire number = is_open_at wire number && not (is_current wire number)

-- how many replies were sent on a link, and how many are handled; none of a link that isn't there
abbrev pub counts_of : Option LinkState → ℕ × ℕ
counts_of None = (0, 0)
counts_of (Some link) = (replies_sent link, replies_handled link)

-- a link has a request outstanding
abbrev pub has_outstanding : LinkState → Bool
has_outstanding link = is_some (outstanding link)

-- the exchange whose reply the manager handles next on the current link, where that is this link and this number
abbrev pub due : WireState → ℕ → ℕ → Option Exchange
due wire link number = if is_current wire link then option_and_then (due_on number) (link_at wire link) else None

-- ---- what happens on a wire

-- one link is another now
abbrev pub with_link : WireState → ℕ → LinkState → WireState
with_link wire number link = record wire { links = slice_set wire.links (number - 1) link }

-- the links with one of them changed; unchanged where there is no such link
abbrev pub changed : (LinkState → LinkState) → WireState → ℕ → Option LinkState → WireState
changed change wire number None = wire
changed change wire number (Some link) = with_link wire number (change link)

-- the manager makes a link, which is the current one then, and sends a request on it
abbrev pub begun : WireState → Request → WireState
begun wire request = record { links = wire.links ++ sent_on request fresh_link ∷ []; current = Some (length wire.links + 1) }

-- the links once a request was sent on one; unchanged without one
abbrev pub sent_at : WireState → Request → Option ℕ → WireState
sent_at wire request None = wire
sent_at wire request (Some number) = changed (sent_on request) wire number (link_at wire number)

-- the manager sends a request on the current link
abbrev pub sent : WireState → Request → WireState
sent wire request = sent_at wire request wire.current

-- the device answers what a link has outstanding
abbrev pub told : WireState → ℕ → Reply → WireState
told wire number reply = changed (told_on reply) wire number (link_at wire number)

-- the links once a reply is handled: the one that ends its link leaves none current
abbrev pub handled_at : WireState → ℕ → Option Exchange → WireState
handled_at wire number None = wire
handled_at wire number (Some exchange) =
    record (changed handled_on wire number (link_at wire number)) { current = if ends exchange.request exchange.reply then None else wire.current }

-- the manager handles a reply. Any but the next one on the current link changes nothing
abbrev pub handled : WireState → ℕ → ℕ → WireState
handled wire link number = handled_at wire link (due wire link number)

-- the manager's side of the current link ends
abbrev pub broken : WireState → WireState
broken wire = record wire { current = None }

-- the device's side of a link ends
abbrev pub lost : WireState → ℕ → WireState
lost wire number = changed closed_link wire number (link_at wire number)

-- the device restarts
abbrev pub restarted : WireState → WireState
restarted wire = record wire { links = map closed_link wire.links }

-- the device's side of each of these links has ended
abbrev pub AreClosed : List LinkState → Type 0
AreClosed links = All (λ link. link.is_open ≡ false) links
