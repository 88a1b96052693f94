-- What a reply that the device sends changes of its link, and the pair then.
use Rattle.std.proofs.Common.{◌≡◌, ◌≤◌, ◌∙◌, ℕ, ◌-◌, ◌==◌, Bool, true, false, ◌&&◌, ◌||◌, cond, List, [], ◌∷◌, ◌++◌, slice_get, slice_set, Option, Some, None, IfSome, is_some, option_map, option_and_then, unwrap_or, refl, sym, ap, subst, arith}
use Rattle.std.proofs.lemmas.Bool.Decides.{nat_tests}
use Rattle.nm_base.specs.Token.{token_of}
use Rattle.nm_proto.specs.declared.ask.Ask.{Ask}
use Rattle.nm_proto.specs.declared.ask.Ask.TheVariants as ask
use Rattle.nm_proto.specs.declared.message.Request.{Request}
use Rattle.nm_proto.specs.declared.message.Reply.{Reply}
use Rattle.nm_proto.specs.declared.message.Reply.TheVariants.{Done, Opened}
use Rattle.nm_proto.specs.declared.message.Store.TheVariants.{Running}
use Rattle.nm_locks.specs.Locks.{owner_of}
use Rattle.nm_proto.specs.declared.journal.Verdict.{Verdict}
use Rattle.nm_sessions.specs.Sessions.{is_open}
use Rattle.nm_history.specs.declared.event.Noted.{Noted}
use Rattle.nm_history.specs.declared.outcome.Outcome.TheVariants.{Pending}
use Rattle.nm_history.specs.Outcome.{outcome_of}
use Rattle.nm_history.specs.History.{RecordedState}
use Rattle.nm_device_laws.specs.Numbered.{has_author}
use Rattle.nm_device_laws.specs.Own.{TakesRunning}
use Rattle.nm_device_laws.specs.Token.{KeepsToken, commits_done, waits_under}
use Rattle.nm_device_laws.proofs.Outcomes.{never_without}
use Rattle.nm_decider.specs.declared.seat.Seat.{Seat}
use Rattle.nm_wire.specs.declared.link.Exchange.{Exchange}
use Rattle.nm_wire.specs.declared.link.Way.{Way}
use Rattle.nm_wire.specs.declared.link.Way.TheVariants.{Quiet, Asked, Told}
use Rattle.nm_wire.specs.Asks.{ask_of, same_ask}
use Rattle.nm_wire.specs.Link.{LinkState, fresh_link, asked_on, outstanding, first_session, session_in, session_of, told_on, told_by}
use Rattle.nm_wire.specs.Words.{commits_sent, commit_count, holds, holds_by, was_done, was_sent, is_done}
use Rattle.nm_wire.specs.Wire.{WireState, link_at, current_link, changed, told, outstanding_at}
use Rattle.nm_manager.specs.Slot.{to_commit}
use Rattle.nm_safety.proofs.Basics.{not_there}
use Rattle.nm_safety.specs.Pair.{FirstLink, EachLink, HoldsRunning, OutcomeFits, Undecided, PairHolds, first_link, undelivered, commits_in, asked_ask, is_never, is_confirmed, is_cancelled, is_ended, to_abort, may_be_sent}
use Rattle.nm_safety.specs.Told.{KeepsHold, BeginsOurs, is_plain}
use Rattle.nm_safety.proofs.Moved.{OutcomeMoves, outcome_by_token}
use Rattle.nm_safety.proofs.Wires.{set_there, current_changed, changed_current}
use Rattle.nm_safety.proofs.Links.{SentAsMuch, none_undelivered, none_asked}
use Rattle.nm_safety.proofs.Gone.{not_zero, some_old, first_changed, each_changed}
use Rattle.nm_safety.proofs.PairSteps.{asked_if}

-- ---- the link

-- what it has done once the request on its way is answered
pub record ToldLink (request : Request) (reply : Reply) (link : LinkState) : Type 0 where
  pub session : session_of (told_on reply link) ≡ first_session (session_of link) (record { request = request; reply = reply })
  pub held : holds (told_on reply link) ≡ holds_by (holds link) (ask_of request) reply
  pub done : was_done ask.CommitConfirmed (told_on reply link) ≡ (was_done ask.CommitConfirmed link || (same_ask (ask_of request) ask.CommitConfirmed && is_done reply))
  pub none : asked_on (told_on reply link).way ≡ None
  pub sent : commit_count (ask_of request) ≤ commits_sent link

told_as : (past : List Exchange) (request : Request) (is_open : Bool) (reply : Reply) → ToldLink request reply (record { past = past; way = Asked request; is_open = is_open })
told_as past request is_open reply = record { session = refl; held = refl; done = refl; none = refl; sent = omega arith }

told_facts : (past : List Exchange) (way : Way) (is_open : Bool) (request : Request) (reply : Reply) → way ≡ Asked request → ToldLink request reply (record { past = past; way = way; is_open = is_open })
told_facts past way is_open request reply e = subst (λ w. ToldLink request reply (record { past = past; way = w; is_open = is_open })) (sym e) (told_as past request is_open reply)

pub told_link : (link : LinkState) (request : Request) (reply : Reply) → link.way ≡ Asked request → ToldLink request reply link
told_link link request reply e = told_facts link.past link.way link.is_open request reply e

sent_told_by : (past : List Exchange) (way : Way) (is_open : Bool) (reply : Reply)
    → SentAsMuch (record { past = past; way = way; is_open = is_open }) (told_by reply (record { past = past; way = way; is_open = is_open }) way)
sent_told_by past Quiet is_open reply = record { commits = refl; confirms = refl; cancels = refl }
sent_told_by past (Asked request) is_open reply = record { commits = refl; confirms = refl; cancels = refl }
sent_told_by past (Told exchange) is_open reply = record { commits = refl; confirms = refl; cancels = refl }

pub sent_told : (link : LinkState) (reply : Reply) → SentAsMuch link (told_on reply link)
sent_told link reply = sent_told_by link.past link.way link.is_open reply

-- what is outstanding is asked on the way
pub out_way : (found : Option LinkState) (link : LinkState) (request : Request) → found ≡ Some link → option_and_then outstanding found ≡ Some request → link.way ≡ Asked request
out_way None link request e h = absurd (let g : None ≡ Some link = e in cc)
out_way (Some other) link request e h = let same : other ≡ link = cc in subst (λ l. l.way ≡ Asked request) same (asked_if other.is_open other.way request h)

-- ---- tables

plain_holds : (held : Bool) (what : Ask) (reply : Reply) → is_plain what reply ≡ true → holds_by held what reply ≡ true → held ≡ true
plain_holds held what reply p h = grind (arith, nat_tests)

opens_holds : (held : Bool) (what : Ask) (reply : Reply) → is_some (session_in reply) ≡ true → holds_by held what reply ≡ true → held ≡ true
opens_holds held what reply p h = grind (arith, nat_tests)

plain_done : (done : Bool) (what : Ask) (reply : Reply) → is_plain what reply ≡ true → (done || (same_ask what ask.CommitConfirmed && is_done reply)) ≡ true → done ≡ true
plain_done done what reply p h = grind (arith, nat_tests)

opens_done : (done : Bool) (what : Ask) (reply : Reply) → is_some (session_in reply) ≡ true → (done || (same_ask what ask.CommitConfirmed && is_done reply)) ≡ true → done ≡ true
opens_done done what reply p h = grind (arith, nat_tests)

plain_none : (what : Ask) (reply : Reply) → is_plain what reply ≡ true → session_in reply ≡ None
plain_none what reply p = grind (arith, nat_tests)

same_session : (session : Option ℕ) (exchange : Exchange) → session_in exchange.reply ≡ None → first_session session exchange ≡ session
same_session None exchange e = e
same_session (Some session) exchange e = refl

not_held : (b : Bool) → (b ≡ true → ⊥) → b ≡ false
not_held true h = absurd (h refl)
not_held false h = refl

holds_stays : (what : Ask) (reply : Reply) → commit_count what ≡ 0 → holds_by true what reply ≡ true
holds_stays what reply n = grind (arith, nat_tests)

none_sent : (n c : ℕ) → c ≤ n → n ≡ 0 → c ≡ 0
none_sent n c l z = omega (arith, l, z)

-- ---- the first link is told a plain reply

module _ {Config Node : Type 0} (token : List ℕ) (r : RecordedState Config Node) where
  pub first_told_plain : (link : LinkState) (request : Request) (reply : Reply) → link.way ≡ Asked request → is_plain (ask_of request) reply ≡ true → FirstLink token link r → FirstLink token (told_on reply link) r
  first_told_plain link request reply way plain first =
      let t : ToldLink request reply link = told_link link request reply way in
      let commits : commits_sent (told_on reply link) ≡ commits_sent link = (sent_told link reply).commits in
      let none : undelivered (told_on reply link) ≡ 0 = none_undelivered (told_on reply link) t.none in
      let session : session_of (told_on reply link) ≡ session_of link = t.session ∙ same_session (session_of link) (record { request = request; reply = reply }) (plain_none (ask_of request) reply plain) in
      record {
        count = let c = first.count in omega (arith, commits, none, c);
        once = let c = first.once in omega (arith, commits, c);
        told = λ h. first.told (plain_done (was_done ask.CommitConfirmed link) (ask_of request) reply plain (sym t.done ∙ h));
        held = λ h s e. first.held (plain_holds (holds link) (ask_of request) reply plain (sym t.held ∙ h)) s (sym session ∙ e);
        unheld = λ e.
            not_held (holds (told_on reply link)) (λ h.
            let held : holds link ≡ true = plain_holds (holds link) (ask_of request) reply plain (sym t.held ∙ h) in
            let no : holds link ≡ false = first.unheld (sym session ∙ e) in
            absurd (let g : true ≡ false = sym held ∙ no in cc));
        asked = λ e. absurd (let g : None ≡ Some ask.CommitConfirmed = none_asked (told_on reply link) ask.CommitConfirmed t.none e in cc);
        author = λ s e h. let c = first.author s (sym session ∙ e) h in omega (arith, commits, c);
        locking = λ e. absurd (let g : None ≡ Some ask.LockRunning = none_asked (told_on reply link) ask.LockRunning t.none e in cc);
      }

-- ---- the pair

-- what is said of the first link before the verdict
pub record SaysTold (before after : LinkState) : Type 0 where
  pub commits : commits_sent after ≡ commits_sent before
  pub held : commits_sent before ≡ 0 → holds before ≡ true → holds after ≡ true

says_told : (before link : LinkState) (request : Request) (reply : Reply) → link.way ≡ Asked request → SaysTold before link → SaysTold before (told_on reply link)
says_told before link request reply way says =
    let t : ToldLink request reply link = told_link link request reply way in
    record {
      commits = (sent_told link reply).commits ∙ says.commits;
      held = λ z h.
          t.held ∙ ap (λ b. holds_by b (ask_of request) reply) (says.held z h)
          ∙ holds_stays (ask_of request) reply (none_sent (commits_sent link) (commit_count (ask_of request)) t.sent (says.commits ∙ z));
    }

each_told : (decided : Option Verdict) (reply : Reply) (place : ℕ) (link : LinkState) → EachLink decided place link → EachLink decided place (told_on reply link)
each_told decided reply place link each =
    let same : SentAsMuch link (told_on reply link) = sent_told link reply in
    record { later = λ p. same.commits ∙ each.later p; confirm = λ h. each.confirm (sym same.confirms ∙ h); cancel = λ h. each.cancel (sym same.cancels ∙ h) }

each_there : (reply : Reply) (found : Option LinkState) → IfSome found (λ link. is_some (Some (told_on reply link)) ≡ is_some (Some link))
each_there reply None = search
each_there reply (Some link) = refl

module _ (wire : WireState) (number : ℕ) (request : Request) (reply : Reply) (out : outstanding_at wire number ≡ Some request) where
  way_of : (link : LinkState) → link_at wire number ≡ Some link → link.way ≡ Asked request
  way_of link e = out_way (link_at wire number) link request e out

  none_told : (found : Option LinkState) → wire.links ≡ [] → (changed (told_on reply) wire number found).links ≡ []
  none_told None e = e
  none_told (Some link) e = ap (λ links. slice_set links (number - 1) (told_on reply link)) e

module _ {Config Node : Type 0} (change : ℕ) (decided : Option Verdict) (seat : Seat) (wire : WireState) (number : ℕ) (request : Request) (reply : Reply) (out : outstanding_at wire number ≡ Some request) where
  -- the rest of the pair, where the first link and the outcome are as they are to be
  pub told_by_parts : (before after : RecordedState Config Node) → FirstLink (token_of change) (first_link (told wire number reply)) after → OutcomeFits (token_of change) decided seat.is_member after
      → (is_never (outcome_of (token_of change) before.history) ≡ false → is_never (outcome_of (token_of change) after.history) ≡ false)
      → PairHolds change decided seat wire before → PairHolds change decided seat (told wire number reply) after
  told_by_parts before after first outcome never pair = record {
    first = first;
    each = each_changed (told_on reply) wire number (EachLink decided) (each_told decided reply) (link_at wire number) refl pair.each;
    outcome = outcome;
    undecided = λ e.
        let u : Undecided (outcome_of (token_of change) before.history) seat wire = pair.undecided e in
        let says : SaysTold (first_link wire) (first_link (told wire number reply)) =
        first_changed (told_on reply) wire number (SaysTold (first_link wire)) (λ link one here says. says_told (first_link wire) link request reply (way_of wire number request reply out link here) says) (link_at wire number) refl
        (record { commits = refl; held = λ z h. h }) in
        record {
          unsent = subst (λ n. n ≤ may_be_sent seat.stage seat.awaited) (sym says.commits) u.unsent;
          acked = λ a. never (u.acked a);
          ready = λ l z. let none : commits_sent (first_link wire) ≡ 0 = sym says.commits ∙ z in says.held none (u.ready l none);
          only = λ n h. u.only n (sym (changed_current (told_on reply) wire number (link_at wire number)) ∙ h);
          unmade = λ l h.
              none_told wire number request reply out (link_at wire number)
              (u.unmade l (not_there (current_link wire) (current_link (told wire number reply))
              (current_changed (λ a b. is_some b ≡ is_some a) (λ o. refl) (told_on reply) wire number (link_at wire number) refl (each_there reply (link_at wire number))) h));
        };
  }

  -- the reply reaches the link, and the device is as it was
  pub told_plain : (r : RecordedState Config Node) → is_plain (ask_of request) reply ≡ true → PairHolds change decided seat wire r → PairHolds change decided seat (told wire number reply) r
  told_plain r plain pair =
      told_by_parts r r
      (first_changed (told_on reply) wire number (λ link. FirstLink (token_of change) link r)
      (λ link one here f. first_told_plain (token_of change) r link request reply (way_of wire number request reply out link here) plain f) (link_at wire number) refl pair.first)
      pair.outcome (λ h. h) pair

  -- a later link may be told anything
  pub told_later : (r : RecordedState Config Node) → (number ≡ 1 → ⊥) → PairHolds change decided seat wire r → PairHolds change decided seat (told wire number reply) r
  told_later r later pair =
      told_by_parts r r
      (first_changed (told_on reply) wire number (λ link. FirstLink (token_of change) link r) (λ link one here f. absurd (later one)) (link_at wire number) refl pair.first)
      pair.outcome (λ h. h) pair

-- ---- the first link is told of a session, of its lock, and of the commit

-- what the first link is once it is told
first_now : (wire : WireState) (number : ℕ) (reply : Reply) (found : Option LinkState) (link : LinkState) → number ≡ 1 → link_at wire number ≡ found → found ≡ Some link
    → (first_link wire ≡ link) × (first_link (changed (told_on reply) wire number found) ≡ told_on reply link)
first_now wire number reply None link one e is = absurd (let g : None ≡ Some link = is in cc)
first_now wire number reply (Some other) link one e is =
    let same : other ≡ link = cc in
    let here : slice_get wire.links 0 ≡ Some other = subst (λ n. cond (n == 0) None (slice_get wire.links (n - 1)) ≡ Some other) one e in (
      ap (λ found. unwrap_or found fresh_link) here ∙ same,
      ap (λ n. first_link (record wire { links = slice_set wire.links (n - 1) (told_on reply other) })) one
          ∙ ap (λ found. unwrap_or found fresh_link) (set_there wire.links 0 other (told_on reply other) here) ∙ ap (told_on reply) same,
    )

pub there_out : (found : Option LinkState) (request : Request) (P : Type 0) → option_and_then outstanding found ≡ Some request → ((link : LinkState) → found ≡ Some link → P) → P
there_out None request P h step = absurd (let g : None ≡ Some request = h in cc)
there_out (Some link) request P h step = step link refl

out_open : (link : LinkState) (request : Request) → outstanding link ≡ Some request → commit_count (ask_of request) ≤ undelivered link
out_open link request h = subst (λ o. commit_count (ask_of request) ≤ commits_in o) (sym h) (omega arith)

module _ {Config Node : Type 0} (change : ℕ) (before after : RecordedState Config Node) (link : LinkState) (request : Request) (reply : Reply) (out : outstanding link ≡ Some request) where
  abbrev token : List ℕ
  token = token_of change

  way_now : link.way ≡ Asked request
  way_now = asked_if link.is_open link.way request out

  facts : ToldLink request reply link
  facts = told_link link request reply way_now

  -- what is so whatever the reply
  first_with : FirstLink token link before → commits_done token after.history ≤ commits_sent link
      → (was_done ask.CommitConfirmed (told_on reply link) ≡ true → is_never (outcome_of token after.history) ≡ false)
      → (holds (told_on reply link) ≡ true → (session : ℕ) → session_of (told_on reply link) ≡ Some session → is_open after.device.sessions session ≡ true → HoldsRunning session after.device)
      → (session_of (told_on reply link) ≡ None → holds (told_on reply link) ≡ false)
      → ((session : ℕ) → session_of (told_on reply link) ≡ Some session → has_author after.device.pending session ≡ true → 1 ≤ commits_sent link)
      → FirstLink token (told_on reply link) after
  first_with first count told held unheld author =
      let commits : commits_sent (told_on reply link) ≡ commits_sent link = (sent_told link reply).commits in
      let none : undelivered (told_on reply link) ≡ 0 = none_undelivered (told_on reply link) facts.none in
      record {
        count = omega (arith, commits, none, count);
        once = let c = first.once in omega (arith, commits, c);
        told = told;
        held = held;
        unheld = unheld;
        asked = λ e. absurd (let g : None ≡ Some ask.CommitConfirmed = none_asked (told_on reply link) ask.CommitConfirmed facts.none e in cc);
        author = λ session e h. let c = author session e h in omega (arith, commits, c);
        locking = λ e. absurd (let g : None ≡ Some ask.LockRunning = none_asked (told_on reply link) ask.LockRunning facts.none e in cc);
      }

  session_done : reply ≡ Done → session_of (told_on reply link) ≡ session_of link
  session_done done = facts.session ∙ same_session (session_of link) (record { request = request; reply = reply }) (ap session_in done)

  -- the lock of running is done
  told_locked : (session : ℕ) → session_of link ≡ Some session → ask_of request ≡ ask.LockRunning → reply ≡ Done → TakesRunning session before.device after.device
      → commits_done token after.history ≡ commits_done token before.history → (is_never (outcome_of token before.history) ≡ false → is_never (outcome_of token after.history) ≡ false)
      → FirstLink token link before → FirstLink token (told_on reply link) after
  told_locked session at is done takes same never first =
      let asks : asked_ask link ≡ Some ask.LockRunning = ap (λ w. option_map ask_of (asked_on w)) way_now ∙ ap Some is in
      let none : commits_sent link ≡ 0 = first.locking asks in
      let pending : after.device.pending ≡ before.device.pending = ap (λ s. s.pending) takes.after in
      first_with first (let c = first.count in omega (arith, same, c))
      (λ h. never (first.told (lock_done (was_done ask.CommitConfirmed link) (ask_of request) is (sym facts.done ∙ h))))
      (λ h s e now.
      let who : session ≡ s = (let g : Some session ≡ Some s = sym at ∙ sym (session_done done) ∙ e in cc) in
      subst (λ who. HoldsRunning who after.device) who
      (record {
        owner = ap (λ s. owner_of s.locks Running) takes.after;
        free = pending ∙ takes.alone (no_author session at none first);
        whole = ap (λ s. s.partials.locks) takes.after ∙ takes.whole;
      }))
      (λ e. absurd (let g : Some session ≡ None = sym at ∙ sym (session_done done) ∙ e in cc))
      (λ s e h. first.author s (sym (session_done done) ∙ e) (ap (λ p. has_author p s) (sym pending) ∙ h))
    where
      lock_done : (was : Bool) (what : Ask) → what ≡ ask.LockRunning → (was || (same_ask what ask.CommitConfirmed && is_done reply)) ≡ true → was ≡ true
      lock_done true what e h = refl
      lock_done false what e h = absurd (let g : false ≡ true = sym (ap (λ a. same_ask a ask.CommitConfirmed && is_done reply) e) ∙ h in cc)

      no_author : (session : ℕ) → session_of link ≡ Some session → commits_sent link ≡ 0 → FirstLink token link before → has_author before.device.pending session ≡ false
      no_author session at none first = not_held (has_author before.device.pending session) (λ h. let c = first.author session at h in absurd (omega (arith, c, none)))

  -- the confirmed commit is done
  told_committed : (session : ℕ) → session_of link ≡ Some session → is_open before.device.sessions session ≡ true → ask_of request ≡ ask.CommitConfirmed → reply ≡ Done
      → BeginsOurs token before after → FirstLink token link before → (FirstLink token (told_on reply link) after) × (outcome_of token after.history ≡ Pending) × (waits_under token after.device.pending ≡ true)
  told_committed session at now is done begins first =
      let asks : asked_ask link ≡ Some ask.CommitConfirmed = ap (λ w. option_map ask_of (asked_on w)) way_now ∙ ap Some is in
      let free : before.device.pending ≡ None = (first.held (first.asked asks) session at now).free in
      let one : 1 ≤ undelivered link = subst (λ n. n ≤ undelivered link) (ap commit_count is) (out_open link request out) in
      let none : commits_done token before.history ≡ 0 = (let c = first.count in let o = first.once in omega (arith, c, o, one)) in
      let pending : outcome_of token after.history ≡ Pending = begins.outcome free (never_without token before.history none) in
      let gone : holds (told_on reply link) ≡ false = facts.held ∙ ap (λ a. holds_by (holds link) a reply) is in
      let sent : 1 ≤ commits_sent link = subst (λ n. n ≤ commits_sent link) (ap commit_count is) facts.sent in (
        first_with first (let c = begins.count in omega (arith, c, none, sent))
            (λ h. ap is_never pending)
            (λ h s e now. absurd (let g : false ≡ true = sym gone ∙ h in cc))
            (λ e. gone)
            (λ s e h. sent),
        pending,
        begins.waits free,
      )

  -- a session opens
  told_opened : (id : ℕ) → reply ≡ Opened id → (was : Option ℕ) → session_of link ≡ was → has_author after.device.pending id ≡ false
      → ((session : ℕ) → session_of link ≡ Some session → KeepsHold session before.device after.device)
      → commits_done token after.history ≡ commits_done token before.history → (is_never (outcome_of token before.history) ≡ false → is_never (outcome_of token after.history) ≡ false)
      → FirstLink token link before → FirstLink token (told_on reply link) after
  told_opened id opens None at fresh keeps same never first =
      let session : session_of (told_on reply link) ≡ Some id = facts.session ∙ ap (λ s. first_session s (record { request = request; reply = reply })) at ∙ ap session_in opens in
      let some : is_some (session_in reply) ≡ true = ap (λ r. is_some (session_in r)) opens in
      first_with first (let c = first.count in omega (arith, same, c))
      (λ h. never (first.told (opens_done (was_done ask.CommitConfirmed link) (ask_of request) reply some (sym facts.done ∙ h))))
      (λ h s e now. absurd (let g : true ≡ false = sym (opens_holds (holds link) (ask_of request) reply some (sym facts.held ∙ h)) ∙ first.unheld at in cc))
      (λ e. absurd (let g : Some id ≡ None = sym session ∙ e in cc))
      (λ s e h.
      let who : s ≡ id = (let g : Some s ≡ Some id = sym e ∙ session in cc) in
      absurd (let g : false ≡ true = sym fresh ∙ ap (has_author after.device.pending) (sym who) ∙ h in cc))
  told_opened id opens (Some old) at fresh keeps same never first =
      let session : session_of (told_on reply link) ≡ Some old = facts.session ∙ ap (λ s. first_session s (record { request = request; reply = reply })) at in
      let some : is_some (session_in reply) ≡ true = ap (λ r. is_some (session_in r)) opens in
      let still : session_of (told_on reply link) ≡ session_of link = session ∙ sym at in
      first_with first (let c = first.count in omega (arith, same, c))
      (λ h. never (first.told (opens_done (was_done ask.CommitConfirmed link) (ask_of request) reply some (sym facts.done ∙ h))))
      (λ h s e now.
      let kept : KeepsHold s before.device after.device = keeps s (sym still ∙ e) in
      kept.holds now (first.held (opens_holds (holds link) (ask_of request) reply some (sym facts.held ∙ h)) s (sym still ∙ e) (kept.was_open now)))
      (λ e. absurd (let g : Some old ≡ None = sym session ∙ e in cc))
      (λ s e h. first.author s (sym still ∙ e) ((keeps s (sym still ∙ e)).author h))

-- ---- the pair then

out_link : (found : Option LinkState) (link : LinkState) (request : Request) → found ≡ Some link → option_and_then outstanding found ≡ Some request → outstanding link ≡ Some request
out_link None link request e h = absurd (let g : None ≡ Some link = e in cc)
out_link (Some other) link request e h = let same : other ≡ link = cc in ap outstanding (sym same) ∙ h

module _ {Config Node : Type 0} (change : ℕ) (decided : Option Verdict) (seat : Seat) (wire : WireState) (number : ℕ) (request : Request) (reply : Reply) (out : outstanding_at wire number ≡ Some request)
    (one : number ≡ 1) (before after : RecordedState Config Node) where
  -- the first link is told
  first_of_told : (P : Type 0) → ((link : LinkState) → outstanding link ≡ Some request → first_link wire ≡ link → first_link (told wire number reply) ≡ told_on reply link → P) → P
  first_of_told P step =
      there_out (link_at wire number) request P out
      (λ link here.
      let now : (first_link wire ≡ link) × (first_link (told wire number reply) ≡ told_on reply link) = first_now wire number reply (link_at wire number) link one refl here in
      step link (out_link (link_at wire number) link request here out) now.0 now.1)

  module _ (entry : Noted) (history : after.history ≡ before.history ++ entry ∷ []) (kept : KeepsToken (token_of change) before.device entry after.device) (pair : PairHolds change decided seat wire before) where
    outcome_now : OutcomeMoves change before after
    outcome_now = outcome_by_token change entry before after history kept pair.outcome.pending

    same_count : commits_done (token_of change) after.history ≡ commits_done (token_of change) before.history
    same_count = ap (commits_done (token_of change)) history ∙ kept.count before.history

    fits_now : OutcomeFits (token_of change) decided seat.is_member after
    fits_now = record {
      confirmed = λ h. pair.outcome.confirmed (outcome_now.keeps.confirmed h);
      cancelled = λ h. pair.outcome.cancelled (outcome_now.keeps.cancelled h);
      ended = outcome_now.keeps.ended pair.outcome.ended;
      committed = λ c m. outcome_now.keeps.never (pair.outcome.committed c m);
      pending = outcome_now.pending;
    }

    pub locked_by : (session : ℕ) → session_of (first_link wire) ≡ Some session → ask_of request ≡ ask.LockRunning → reply ≡ Done → TakesRunning session before.device after.device
        → PairHolds change decided seat (told wire number reply) after
    locked_by session at is done takes =
        told_by_parts change decided seat wire number request reply out before after
        (first_of_told (FirstLink (token_of change) (first_link (told wire number reply)) after)
        (λ link o was now.
        subst (λ l. FirstLink (token_of change) l after) (sym now)
        (told_locked change before after link request reply o session (ap session_of (sym was) ∙ at) is done takes same_count outcome_now.keeps.never
        (subst (λ l. FirstLink (token_of change) l before) was pair.first))))
        fits_now outcome_now.keeps.never pair

    pub opened_by : (id : ℕ) → reply ≡ Opened id → has_author after.device.pending id ≡ false → ((session : ℕ) → session_of (first_link wire) ≡ Some session → KeepsHold session before.device after.device)
        → PairHolds change decided seat (told wire number reply) after
    opened_by id opens fresh keeps =
        told_by_parts change decided seat wire number request reply out before after
        (first_of_told (FirstLink (token_of change) (first_link (told wire number reply)) after)
        (λ link o was now.
        subst (λ l. FirstLink (token_of change) l after) (sym now)
        (told_opened change before after link request reply o id opens (session_of link) refl fresh (λ session e. keeps session (ap session_of was ∙ e)) same_count outcome_now.keeps.never
        (subst (λ l. FirstLink (token_of change) l before) was pair.first))))
        fits_now outcome_now.keeps.never pair

  module _ (pair : PairHolds change decided seat wire before) where
    pub committed_by : (session : ℕ) → session_of (first_link wire) ≡ Some session → is_open before.device.sessions session ≡ true → ask_of request ≡ ask.CommitConfirmed → reply ≡ Done
        → BeginsOurs (token_of change) before after → PairHolds change decided seat (told wire number reply) after
    committed_by session at now is done begins =
        first_of_told (PairHolds change decided seat (told wire number reply) after)
        (λ link o was tells.
        let all : (FirstLink (token_of change) (told_on reply link) after) × (outcome_of (token_of change) after.history ≡ Pending) × (waits_under (token_of change) after.device.pending ≡ true) =
        told_committed change before after link request reply o session (ap session_of (sym was) ∙ at) now is done begins (subst (λ l. FirstLink (token_of change) l before) was pair.first) in
        told_by_parts change decided seat wire number request reply out before after (subst (λ l. FirstLink (token_of change) l after) (sym tells) all.0)
        (record {
          confirmed = λ h. absurd (let g : false ≡ true = sym (ap is_confirmed all.1) ∙ h in cc);
          cancelled = λ h. absurd (let g : false ≡ true = sym (ap is_cancelled all.1) ∙ h in cc);
          ended = ap is_ended all.1;
          committed = λ c m. ap is_never all.1;
          pending = λ h. all.2;
        })
        (λ h. ap is_never all.1) pair)

-- ---- a confirm and a cancel are told

or_true : (a b : Bool) → b ≡ true → (a || b) ≡ true
or_true true b h = refl
or_true false b h = h

way_sent : (wanted : Ask) (past : List Exchange) (way : Way) (is_open : Bool) (request : Request) → way ≡ Asked request → same_ask (ask_of request) wanted ≡ true
    → was_sent wanted (record { past = past; way = way; is_open = is_open }) ≡ true
way_sent wanted past Quiet is_open request e s = absurd (let g : Quiet ≡ Asked request = e in cc)
way_sent wanted past (Told exchange) is_open request e s = absurd (let g : Told exchange ≡ Asked request = e in cc)
way_sent wanted past (Asked other) is_open request e s = let same : request ≡ other = cc in or_true _ (same_ask (ask_of other) wanted) (ap (λ r. same_ask (ask_of r) wanted) (sym same) ∙ s)

pub each_at : (decided : Option Verdict) (wire : WireState) (number : ℕ) (link : LinkState) → link_at wire number ≡ Some link → ((place : ℕ) → IfSome (slice_get wire.links place) (EachLink decided place))
    → EachLink decided (number - 1) link
each_at decided wire number link here all = some_old (EachLink decided (number - 1)) (slice_get wire.links (number - 1)) link (not_zero (number == 0) (slice_get wire.links (number - 1)) link here).1 (all (number - 1))

module _ {Config Node : Type 0} (change : ℕ) (decided : Option Verdict) (seat : Seat) (wire : WireState) (number : ℕ) (request : Request) (out : outstanding_at wire number ≡ Some request)
    (r : RecordedState Config Node) (pair : PairHolds change decided seat wire r) where
  pub confirm_fits : ask_of request ≡ ask.Confirm → to_commit decided ≡ true
  confirm_fits is =
      there_out (link_at wire number) request (to_commit decided ≡ true) out
      (λ link here.
      (each_at decided wire number link here pair.each).confirm
      (way_sent ask.Confirm link.past link.way link.is_open request (out_way (link_at wire number) link request here out) (ap (λ a. same_ask a ask.Confirm) is)))

  pub cancel_fits : ask_of request ≡ ask.Cancel → to_abort decided ≡ true
  cancel_fits is =
      there_out (link_at wire number) request (to_abort decided ≡ true) out
      (λ link here.
      (each_at decided wire number link here pair.each).cancel
      (way_sent ask.Cancel link.past link.way link.is_open request (out_way (link_at wire number) link request here out) (ap (λ a. same_ask a ask.Cancel) is)))
