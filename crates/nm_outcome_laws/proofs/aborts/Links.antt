-- What becomes of the link that brings a change set to a device, where no confirmed commit is sent on it.
use Rattle.std.proofs.Common.{◌≡◌, ◌∙◌, ℕ, ◌+◌, ◌≤◌, Bool, true, false, List, Some, refl, sym, ap, subst, arith}
use Rattle.std.proofs.lemmas.Bool.Decides.{nat_tests}
use Rattle.nm_proto.specs.declared.ask.Ask.{Ask}
use Rattle.nm_proto.specs.declared.ask.Ask.TheVariants as ask
use Rattle.nm_proto.specs.declared.message.Request.{Request}
use Rattle.nm_proto.specs.declared.message.Reply.{Reply}
use Rattle.nm_history.specs.Outcome.{is_pending}
use Rattle.nm_history.specs.History.{RecordedState}
use Rattle.nm_device_laws.specs.Token.{commits_done}
use Rattle.nm_device_laws.proofs.Outcomes.{never_without}
use Rattle.nm_wire.specs.declared.link.Exchange.{Exchange}
use Rattle.nm_wire.specs.declared.link.Way.TheVariants as way
use Rattle.nm_wire.specs.Asks.{ask_of, same_ask}
use Rattle.nm_wire.specs.Link.{LinkState, closed_link, handled_on, is_quiet_way, sent_on, session_of, told_on}
use Rattle.nm_wire.specs.Words.{commit_count, commits_sent}
use Rattle.nm_wire.specs.Wire.{WireState, handled_at, link_at, lost, restarted, told}
use Rattle.nm_manager.specs.Slot.{gone, may_go}
use Rattle.nm_safety.specs.Pair.{FirstLink, first_link, undelivered}
use Rattle.nm_safety.proofs.Answered.{sent_told, told_link}
use Rattle.nm_safety.proofs.Gone.{first_changed, first_gone, first_heard, first_restarted}
use Rattle.nm_safety.proofs.Links.{commits_after, none_left, none_undelivered, sent_handled_on, undelivered_now}
use Rattle.nm_safety.proofs.Wires.{IsDue}
use Rattle.nm_outcome_laws.specs.AbortsSupport.{IsGone, IsShut}

-- no confirmed commit more was sent, nor is on its way
pub record Remains (before after : LinkState) : Type 0 where
  pub commits : commits_sent after ≡ commits_sent before
  pub fewer : undelivered after ≤ undelivered before
  pub session : 1 ≤ undelivered after → session_of after ≡ session_of before

itself : (n : ℕ) → n ≤ n
itself n = omega arith

below_both : (a b c : ℕ) → a ≤ b → b ≤ c → a ≤ c
below_both a b c l h = omega (arith, l, h)

above_both : (a b : ℕ) → 1 ≤ a → a ≤ b → 1 ≤ b
above_both a b l h = omega (arith, l, h)

-- none of them is nothing
none_above : {T : Type 0} (n : ℕ) → n ≡ 0 → 1 ≤ n → T
none_above n e l = absurd (omega (arith, e, l))

none_below : (n k : ℕ) → n ≡ 0 → n ≤ k
none_below n k e = omega (arith, e)

pub remains_same : (link : LinkState) → Remains link link
remains_same link = record { commits = refl; fewer = itself (undelivered link); session = λ some. refl }

pub remains_then : (first second third : LinkState) → Remains first second → Remains second third → Remains first third
remains_then first second third one other = record {
  commits = other.commits ∙ one.commits;
  fewer = below_both (undelivered third) (undelivered second) (undelivered first) other.fewer one.fewer;
  session = λ some. other.session some ∙ one.session (above_both (undelivered third) (undelivered second) some other.fewer);
}

-- nothing is on its way then
remains_none : (before after : LinkState) → commits_sent after ≡ commits_sent before → undelivered after ≡ 0 → Remains before after
remains_none before after same none = record {
  commits = same;
  fewer = none_below (undelivered after) (undelivered before) none;
  session = λ some. none_above (undelivered after) none some;
}

brings_none : (what : Ask) → same_ask what ask.CommitConfirmed ≡ false → commit_count what ≡ 0
brings_none what e = grind (arith, nat_tests)

plus_none : (a b c : ℕ) → c ≡ a + b → b ≡ 0 → c ≡ a
plus_none a b c e z = omega (arith, e, z)

none_of : (n c : ℕ) → n ≤ c → c ≡ 0 → n ≡ 0
none_of n c l z = omega (arith, l, z)

remains_sent : (request : Request) (link : LinkState) → same_ask (ask_of request) ask.CommitConfirmed ≡ false → is_quiet_way link.way ≡ true
    → Remains link (sent_on request link)
remains_sent request link other quiet =
    remains_none link (sent_on request link)
    (plus_none (commits_sent link) (commit_count (ask_of request)) (commits_sent (sent_on request link)) (commits_after request link quiet)
    (brings_none (ask_of request) other))
    (none_of (undelivered (sent_on request link)) (commit_count (ask_of request)) (undelivered_now request link)
    (brings_none (ask_of request) other))

remains_handled : (link : LinkState) (exchange : Exchange) → link.way ≡ way.Told exchange → Remains link (handled_on link)
remains_handled link exchange told =
    remains_none link (handled_on link) (sent_handled_on link).commits (none_undelivered (handled_on link) (none_left link exchange told))

pub remains_closed : (link : LinkState) → Remains link (closed_link link)
remains_closed link = remains_none link (closed_link link) refl refl

remains_told : (link : LinkState) (request : Request) (reply : Reply) → link.way ≡ way.Asked request → Remains link (told_on reply link)
remains_told link request reply asked =
    remains_none link (told_on reply link) (sent_told link reply).commits
    (none_undelivered (told_on reply link) (told_link link request reply asked).none)

-- ---- the first link of a wire

abbrev pub RemainsFirst : WireState → WireState → Type 0
RemainsFirst before after = Remains (first_link before) (first_link after)

pub first_out : (new : Bool) (wire : WireState) (request : Request) → may_go new wire ≡ true
    → same_ask (ask_of request) ask.CommitConfirmed ≡ false → RemainsFirst wire (gone new wire request)
first_out new wire request goes other =
    first_gone (Remains (first_link wire)) new wire request goes
    (λ link is quiet k. remains_then (first_link wire) link (sent_on request link) k (remains_sent request link other quiet))
    (remains_same (first_link wire))

pub first_handled : (wire : WireState) (link : ℕ) (exchange : Exchange) → IsDue wire link exchange
    → RemainsFirst wire (handled_at wire link (Some exchange))
first_handled wire link exchange due_now =
    first_heard wire link exchange due_now (Remains (first_link wire))
    (λ is k. remains_then (first_link wire) due_now.held (handled_on due_now.held) k
    (remains_handled due_now.held exchange due_now.way)) (remains_same (first_link wire))

pub first_lost : (wire : WireState) (number : ℕ) → RemainsFirst wire (lost wire number)
first_lost wire number =
    first_changed closed_link wire number (Remains (first_link wire))
    (λ link one there k. remains_then (first_link wire) link (closed_link link) k (remains_closed link)) (link_at wire number) refl
    (remains_same (first_link wire))

pub first_restarts : (wire : WireState) → RemainsFirst wire (restarted wire)
first_restarts wire =
    first_restarted (Remains (first_link wire))
    (λ link k. remains_then (first_link wire) link (closed_link link) k (remains_closed link)) wire (remains_same (first_link wire))

pub first_told : (wire : WireState) (number : ℕ) (l : LinkState) (request : Request) (reply : Reply) → link_at wire number ≡ Some l
    → l.way ≡ way.Asked request → RemainsFirst wire (told wire number reply)
first_told wire number l request reply there asked =
    first_changed (told_on reply) wire number (Remains (first_link wire)) told_one (link_at wire number) refl (remains_same (first_link wire))
  where
    told_one : (link : LinkState) → number ≡ 1 → link_at wire number ≡ Some link → Remains (first_link wire) link
        → Remains (first_link wire) (told_on reply link)
    told_one link one here k =
        let same : Some l ≡ Some link = sym there ∙ here in
        let is : l ≡ link = cc in
        remains_then (first_link wire) link (told_on reply link) k
        (remains_told link request reply (subst (λ one_link. one_link.way ≡ way.Asked request) is asked))

-- ---- what stays of it

module _ {Config Node : Type 0} (token : List ℕ) (r : RecordedState Config Node) where
  pub shut_remains : (before after : LinkState) → Remains before after → IsShut before r → IsShut after r
  shut_remains before after k shut = λ session some at.
      shut session (above_both (undelivered after) (undelivered before) some k.fewer) (sym (k.session some) ∙ at)

  pub gone_remains : (before after : LinkState) → Remains before after → IsGone token before r → IsGone token after r
  gone_remains before after k gone = record { outcome = gone.outcome; shut = shut_remains before after k gone.shut }

  none_done : (n u sent : ℕ) → n + u ≤ sent → sent ≡ 0 → n ≡ 0
  none_done n u sent l z = omega (arith, l, z)

  none_out : (n u sent : ℕ) → n + u ≤ sent → sent ≡ 0 → u ≡ 0
  none_out n u sent l z = omega (arith, l, z)

  -- where no confirmed commit was sent none is done, and none is on its way
  pub unsent_gone : (link : LinkState) → FirstLink token link r → commits_sent link ≡ 0 → IsGone token link r
  unsent_gone link first none = record {
    outcome =
        ap is_pending (never_without token r.history
        (none_done (commits_done token r.history) (undelivered link) (commits_sent link) first.count none));
    shut = λ session some at.
        none_above (undelivered link)
        (none_out (commits_done token r.history) (undelivered link) (commits_sent link) first.count none) some;
  }
