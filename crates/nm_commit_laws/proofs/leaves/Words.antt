-- How candidate stands for the session of a link after what happens on it.
use Rattle.std.proofs.Common.{◌≡◌, ℕ, Bool, true, false, fold, List, [], ◌∷◌, refl, sym, ap, subst}
use Rattle.std.proofs.lemmas.List.Sums.{fold-append}
use Rattle.nm_proto.specs.declared.message.Request.{Request}
use Rattle.nm_proto.specs.declared.message.Reply.{Reply}
use Rattle.nm_wire.specs.declared.link.Exchange.{Exchange}
use Rattle.nm_wire.specs.declared.link.Way.{Way}
use Rattle.nm_wire.specs.declared.link.Way.TheVariants.{Quiet, Asked, Told}
use Rattle.nm_wire.specs.Asks.{ask_of}
use Rattle.nm_wire.specs.Link.{LinkState, over_way, is_quiet_way, sent_on, told_on, handled_by, handled_on}
use Rattle.nm_commit_laws.specs.Standing.{stands_by, stands_after, standing}

sent_by : (value : ℕ) (way : Way) (request : Request) → is_quiet_way way ≡ true
    → over_way stands_after value (Asked request) ≡ over_way stands_after value way
sent_by value Quiet request q = refl
sent_by value (Asked other) request q = refl
sent_by value (Told exchange) request q = absurd (let e : false ≡ true = q in cc)

pub standing_sent : (request : Request) (link : LinkState) → is_quiet_way link.way ≡ true → standing (sent_on request link) ≡ standing link
standing_sent request link q = sent_by (fold stands_after 0 link.past) link.way request q

handled_as : (past : List Exchange) (way : Way) (is_open : Bool)
    → standing (handled_by (record { past = past; way = way; is_open = is_open }) way)
    ≡ standing (record { past = past; way = way; is_open = is_open })
handled_as past Quiet is_open = refl
handled_as past (Asked request) is_open = refl
handled_as past (Told exchange) is_open = fold-append stands_after 0 past (exchange ∷ [])

pub standing_handled : (link : LinkState) → standing (handled_on link) ≡ standing link
standing_handled link = handled_as link.past link.way link.is_open

told_as : (past : List Exchange) (way : Way) (is_open : Bool) (request : Request) (reply : Reply) → way ≡ Asked request
    → standing (told_on reply (record { past = past; way = way; is_open = is_open }))
    ≡ stands_by (standing (record { past = past; way = way; is_open = is_open })) (ask_of request) reply
told_as past way is_open request reply e =
    subst (λ w. standing (told_on reply (record { past = past; way = w; is_open = is_open }))
    ≡ stands_by (standing (record { past = past; way = w; is_open = is_open })) (ask_of request) reply) (sym e) refl

pub standing_told : (link : LinkState) (request : Request) (reply : Reply) → link.way ≡ Asked request
    → standing (told_on reply link) ≡ stands_by (standing link) (ask_of request) reply
standing_told link request reply e = told_as link.past link.way link.is_open request reply e

-- of what is told
pub standing_now : (link : LinkState) (exchange : Exchange) → link.way ≡ Told exchange
    → standing link ≡ stands_by (fold stands_after 0 link.past) (ask_of exchange.request) exchange.reply
standing_now link exchange way = ap (over_way stands_after (fold stands_after 0 link.past)) way
