-- Who has locked candidate on a link, after what happens on it.
use Rattle.std.proofs.Common.{◌≡◌, ℕ, zero, suc, ◌≤◌, Bool, true, false, fold, List, [], ◌∷◌, refl, sym, subst, arith}
use Rattle.std.proofs.lemmas.Bool.Decides.{nat_tests}
use Rattle.std.proofs.lemmas.List.Sums.{fold-append}
use Rattle.nm_proto.specs.declared.ask.Ask.{Ask}
use Rattle.nm_proto.specs.declared.message.Request.{Request}
use Rattle.nm_proto.specs.declared.message.Reply.{Reply}
use Rattle.nm_wire.specs.declared.link.Exchange.{Exchange}
use Rattle.nm_wire.specs.declared.link.Way.{Way}
use Rattle.nm_wire.specs.declared.link.Way.TheVariants.{Quiet, Asked, Told}
use Rattle.nm_wire.specs.Asks.{ask_of}
use Rattle.nm_wire.specs.Link.{LinkState, over_way, is_quiet_way, sent_on, told_on, handled_by, handled_on}
use Rattle.nm_wire.specs.Words.{owns, owns_after, owns_by}
use Rattle.nm_commit_laws.specs.Standing.{stands_after, stands_by, standing}

sent_by : (value : Bool) (way : Way) (request : Request) → is_quiet_way way ≡ true
    → over_way owns_after value (Asked request) ≡ over_way owns_after value way
sent_by value Quiet request q = refl
sent_by value (Asked other) request q = refl
sent_by value (Told exchange) request q = absurd (let e : false ≡ true = q in cc)

pub owns_sent : (request : Request) (link : LinkState) → is_quiet_way link.way ≡ true → owns (sent_on request link) ≡ owns link
owns_sent request link q = sent_by (fold owns_after false link.past) link.way request q

handled_as : (past : List Exchange) (way : Way) (is_open : Bool)
    → owns (handled_by (record { past = past; way = way; is_open = is_open }) way)
    ≡ owns (record { past = past; way = way; is_open = is_open })
handled_as past Quiet is_open = refl
handled_as past (Asked request) is_open = refl
handled_as past (Told exchange) is_open = fold-append owns_after false past (exchange ∷ [])

pub owns_handled : (link : LinkState) → owns (handled_on link) ≡ owns link
owns_handled link = handled_as link.past link.way link.is_open

told_as : (past : List Exchange) (way : Way) (is_open : Bool) (request : Request) (reply : Reply) → way ≡ Asked request
    → owns (told_on reply (record { past = past; way = way; is_open = is_open }))
    ≡ owns_by (owns (record { past = past; way = way; is_open = is_open })) (ask_of request) reply
told_as past way is_open request reply e =
    subst (λ w. owns (told_on reply (record { past = past; way = w; is_open = is_open }))
    ≡ owns_by (owns (record { past = past; way = w; is_open = is_open })) (ask_of request) reply) (sym e) refl

pub owns_told : (link : LinkState) (request : Request) (reply : Reply) → link.way ≡ Asked request
    → owns (told_on reply link) ≡ owns_by (owns link) (ask_of request) reply
owns_told link request reply e = told_as link.past link.way link.is_open request reply e

-- it isn't lost
kept_owns : (what : Ask) (reply : Reply) → owns_by true what reply ≡ true
kept_owns what reply = grind (arith, nat_tests)

pub owns_on : (held : Bool) (what : Ask) (reply : Reply) → held ≡ true → owns_by held what reply ≡ true
owns_on held what reply e = subst (λ b. owns_by b what reply ≡ true) (sym e) (kept_owns what reply)

-- ---- who stands so has locked it

new_owns : (what : Ask) (reply : Reply) → 1 ≤ stands_by 0 what reply → owns_by false what reply ≡ true
new_owns what reply s = grind (arith, nat_tests)

none_below : (n : ℕ) → (1 ≤ n → false ≡ true) → n ≡ 0
none_below zero not = refl
none_below (suc n) not = absurd (let g : false ≡ true = not (omega arith) in cc)

step_owns : (n : ℕ) (held : Bool) (exchange : Exchange) → (1 ≤ n → held ≡ true) → 1 ≤ stands_after n exchange
    → owns_after held exchange ≡ true
step_owns n true exchange low s = kept_owns (ask_of exchange.request) exchange.reply
step_owns n false exchange low s =
    new_owns (ask_of exchange.request) exchange.reply
    (subst (λ k. 1 ≤ stands_by k (ask_of exchange.request) exchange.reply) (none_below n low) s)

past_owns : (n : ℕ) (held : Bool) (past : List Exchange) → (1 ≤ n → held ≡ true) → 1 ≤ fold stands_after n past
    → fold owns_after held past ≡ true
past_owns n held [] low s = low s
past_owns n held (exchange ∷ past) low s =
    past_owns (stands_after n exchange) (owns_after held exchange) past (λ l. step_owns n held exchange low l) s

way_owns : (n : ℕ) (held : Bool) (way : Way) → (1 ≤ n → held ≡ true) → 1 ≤ over_way stands_after n way
    → over_way owns_after held way ≡ true
way_owns n held Quiet low s = low s
way_owns n held (Asked request) low s = low s
way_owns n held (Told exchange) low s = step_owns n held exchange low s

not_below : 1 ≤ 0 → false ≡ true
not_below l = absurd (omega (arith, l))

pub standing_owns : (link : LinkState) → 1 ≤ standing link → owns link ≡ true
standing_owns link s =
    way_owns (fold stands_after 0 link.past) (fold owns_after false link.past) link.way
    (λ l. past_owns 0 false link.past not_below l) s
