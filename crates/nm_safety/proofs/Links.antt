-- What a link has done after what happens on it.
use Rattle.std.proofs.Common.{◌≡◌, ◌≤◌, ◌∙◌, ◌+◌, Bool, true, false, ◌||◌, cond, List, [], ◌∷◌, fold, Option, Some, None, option_map, refl, sym, ap, arith}
use Rattle.std.proofs.lemmas.List.Sums.{fold-append}
use Rattle.nm_proto.specs.declared.ask.Ask.{Ask}
use Rattle.nm_proto.specs.declared.ask.Ask.TheVariants as ask
use Rattle.nm_proto.specs.declared.message.Request.{Request}
use Rattle.nm_wire.specs.declared.link.Exchange.{Exchange}
use Rattle.nm_wire.specs.declared.link.Way.{Way}
use Rattle.nm_wire.specs.declared.link.Way.TheVariants.{Quiet, Asked, Told}
use Rattle.nm_wire.specs.Asks.{ask_of, same_ask}
use Rattle.nm_wire.specs.Link.{LinkState, asked_on, is_quiet_way, over, over_way, first_session, session_of, sent_on, handled_on, handled_by, closed_link}
use Rattle.nm_wire.specs.Words.{over_sent, over_sent_way, sent_again, was_sent, commit_more, commit_count, commits_sent, done_again, was_done, holds_after, holds}
use Rattle.nm_safety.specs.Pair.{asked_ask, commits_in, undelivered}

-- ---- what is folded

module _ {A : Type 0} where
  over_sent_on : (step : A → Exchange → A) (value : A) (way : Way) (request : Request) → is_quiet_way way ≡ true → over_way step value (Asked request) ≡ over_way step value way
  over_sent_on step value Quiet request q = refl
  over_sent_on step value (Asked other) request q = refl
  over_sent_on step value (Told exchange) request q = absurd (let e : false ≡ true = q in cc)

  sent_sent_on : (step : A → Request → A) (value : A) (way : Way) (request : Request) → is_quiet_way way ≡ true → over_sent_way step value (Asked request) ≡ step (over_sent_way step value way) request
  sent_sent_on step value Quiet request q = refl
  sent_sent_on step value (Asked other) request q = absurd (let e : false ≡ true = q in cc)
  sent_sent_on step value (Told exchange) request q = absurd (let e : false ≡ true = q in cc)

  over_handled : (step : A → Exchange → A) (value : A) (past : List Exchange) (way : Way) (is_open : Bool)
      → over step value (handled_by (record { past = past; way = way; is_open = is_open }) way) ≡ over step value (record { past = past; way = way; is_open = is_open })
  over_handled step value past Quiet is_open = refl
  over_handled step value past (Asked request) is_open = refl
  over_handled step value past (Told exchange) is_open = fold-append step value past (exchange ∷ [])

  sent_handled : (step : A → Request → A) (value : A) (past : List Exchange) (way : Way) (is_open : Bool)
      → over_sent step value (handled_by (record { past = past; way = way; is_open = is_open }) way) ≡ over_sent step value (record { past = past; way = way; is_open = is_open })
  sent_handled step value past Quiet is_open = refl
  sent_handled step value past (Asked request) is_open = refl
  sent_handled step value past (Told exchange) is_open = fold-append (λ so_far exchange. step so_far exchange.request) value past (exchange ∷ [])

-- ---- a link that has done as much as before

pub record DidAsMuch (before after : LinkState) : Type 0 where
  pub session : session_of after ≡ session_of before
  pub held : holds after ≡ holds before
  pub done : was_done ask.CommitConfirmed after ≡ was_done ask.CommitConfirmed before

pub record SentAsMuch (before after : LinkState) : Type 0 where
  pub commits : commits_sent after ≡ commits_sent before
  pub confirms : was_sent ask.Confirm after ≡ was_sent ask.Confirm before
  pub cancels : was_sent ask.Cancel after ≡ was_sent ask.Cancel before

pub did_sent_on : (request : Request) (link : LinkState) → is_quiet_way link.way ≡ true → DidAsMuch link (sent_on request link)
did_sent_on request link q = record {
  session = over_sent_on first_session (fold first_session None link.past) link.way request q;
  held = over_sent_on holds_after (fold holds_after false link.past) link.way request q;
  done = over_sent_on (done_again ask.CommitConfirmed) (fold (done_again ask.CommitConfirmed) false link.past) link.way request q;
}

pub did_handled : (link : LinkState) → DidAsMuch link (handled_on link)
did_handled link = record {
  session = over_handled first_session None link.past link.way link.is_open;
  held = over_handled holds_after false link.past link.way link.is_open;
  done = over_handled (done_again ask.CommitConfirmed) false link.past link.way link.is_open;
}

pub sent_handled_on : (link : LinkState) → SentAsMuch link (handled_on link)
sent_handled_on link = record {
  commits = sent_handled commit_more 0 link.past link.way link.is_open;
  confirms = sent_handled (sent_again ask.Confirm) false link.past link.way link.is_open;
  cancels = sent_handled (sent_again ask.Cancel) false link.past link.way link.is_open;
}

pub did_closed : (link : LinkState) → DidAsMuch link (closed_link link)
did_closed link = record { session = refl; held = refl; done = refl }

pub sent_closed : (link : LinkState) → SentAsMuch link (closed_link link)
sent_closed link = record { commits = refl; confirms = refl; cancels = refl }

-- what a request that goes out adds
pub commits_after : (request : Request) (link : LinkState) → is_quiet_way link.way ≡ true → commits_sent (sent_on request link) ≡ commits_sent link + commit_count (ask_of request)
commits_after request link q = sent_sent_on commit_more (fold (λ so_far exchange. commit_more so_far exchange.request) 0 link.past) link.way request q

pub sent_after : (wanted : Ask) (request : Request) (link : LinkState) → is_quiet_way link.way ≡ true → was_sent wanted (sent_on request link) ≡ (was_sent wanted link || same_ask (ask_of request) wanted)
sent_after wanted request link q = sent_sent_on (sent_again wanted) (fold (λ so_far exchange. sent_again wanted so_far exchange.request) false link.past) link.way request q

-- ---- what is on its way

pub asks_now : (request : Request) (link : LinkState) → asked_ask (sent_on request link) ≡ Some (ask_of request)
asks_now request link = refl

-- at most what is asked
in_open : (b : Bool) (request : Request) → commits_in (cond b (Some request) None) ≤ commit_count (ask_of request)
in_open true request = omega arith
in_open false request = omega arith

pub undelivered_now : (request : Request) (link : LinkState) → undelivered (sent_on request link) ≤ commit_count (ask_of request)
undelivered_now request link = in_open link.is_open request

-- nothing is left of what was handled
handled_none : (past : List Exchange) (way : Way) (is_open : Bool) (exchange : Exchange) → way ≡ Told exchange → asked_on (handled_by (record { past = past; way = way; is_open = is_open }) way).way ≡ None
handled_none past Quiet is_open exchange h = refl
handled_none past (Asked request) is_open exchange h = absurd (let e : Asked request ≡ Told exchange = h in cc)
handled_none past (Told other) is_open exchange h = refl

pub none_left : (link : LinkState) (exchange : Exchange) → link.way ≡ Told exchange → asked_on (handled_on link).way ≡ None
none_left link exchange h = handled_none link.past link.way link.is_open exchange h

none_in : (b : Bool) (asked : Option Request) → asked ≡ None → commits_in (cond b asked None) ≡ 0
none_in true asked h = ap commits_in h
none_in false asked h = refl

pub none_undelivered : (link : LinkState) → asked_on link.way ≡ None → undelivered link ≡ 0
none_undelivered link h = none_in link.is_open (asked_on link.way) h

pub none_asked : (link : LinkState) (what : Ask) → asked_on link.way ≡ None → asked_ask link ≡ Some what → None ≡ Some what
none_asked link what h e = sym (ap (option_map ask_of) h) ∙ e

-- a told lock is held
pub lock_told : (link : LinkState) (exchange : Exchange) → link.way ≡ Told exchange → holds_after (fold holds_after false link.past) exchange ≡ true → holds link ≡ true
lock_told link exchange way h = ap (over_way holds_after (fold holds_after false link.past)) way ∙ h
