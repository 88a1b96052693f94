-- What is told of the token of a change set, where one of its own requests comes to the device.
use Rattle.std.proofs.Common.{◌≡◌, ◌∙◌, ℕ, ◌-◌, ◌+◌, ◌≤◌, ◌==◌, Bool, true, false, not, ◌&&◌, ◌||◌, if◌then◌else◌, List, Option, Some, None, is_some, unwrap_or, slice_get, option_map, option_and_then, refl, sym, ap, subst, arith}
use Rattle.std.proofs.lemmas.Bool.Decides.{nat_tests}
use Rattle.nm_base.specs.Token.{token_of}
use Rattle.nm_proto.specs.declared.ask.Ask.{Ask}
use Rattle.nm_proto.specs.declared.ask.Ask.TheVariants as ask
use Rattle.nm_proto.specs.declared.message.Request.{Request}
use Rattle.nm_proto.specs.declared.message.Request.TheVariants.{OpenSession, Lock, Unlock, PartialLock, PartialUnlock, Edit, Validate, Commit, CancelCommit, Discard, HasMark, GetConfig, Kill, CloseSession}
use Rattle.nm_proto.specs.declared.message.Reply.{Reply}
use Rattle.nm_proto.specs.declared.message.Reply.TheVariants.{Done, Opened, LockId, Mark, Rows, Error}
use Rattle.nm_proto.specs.declared.journal.Verdict.{Verdict}
use Rattle.nm_proto.specs.Content.{Meaning, Laws, TablesState}
use Rattle.nm_device.specs.Device.{is_dropped}
use Rattle.nm_device.specs.Table.{is_error}
use Rattle.nm_history.specs.declared.event.DeviceEvent.TheVariants.{Asked}
use Rattle.nm_history.specs.declared.outcome.Outcome.TheVariants.{Never, Pending, Undone}
use Rattle.nm_history.specs.Effect.{is_done_reply}
use Rattle.nm_history.specs.Outcome.{outcome_of, is_pending}
use Rattle.nm_history.specs.History.{Happened, RecordedState, noted, recorded_with}
use Rattle.nm_device_laws.specs.Moment.{is_refused}
use Rattle.nm_device_laws.specs.Token.{KeepsToken, leaves_token, waits_under, undoing_by, commits_done}
use Rattle.nm_device_laws.specs.Telling.{TellsToken}
use Rattle.nm_device_laws.proofs.Events.{IsDone, is_asked}
use Rattle.nm_device_laws.proofs.Outcomes.{never_without}
use Rattle.nm_device_laws.proofs.Owns.{refused_same}
use Rattle.nm_device_laws.proofs.Tells.{pending_outcome, token_told, begun_tells, renewed_tells, confirmed_tells, cancelled_tells}
use Rattle.nm_device_laws.proofs.Tokens.{refused_kept}
use Rattle.nm_decider.specs.declared.seat.Seat.{Seat}
use Rattle.nm_wire.specs.declared.link.Way.TheVariants as way
use Rattle.nm_wire.specs.Asks.{ask_of, same_ask}
use Rattle.nm_wire.specs.Link.{LinkState, fresh_link, session_of, asked_on, outstanding}
use Rattle.nm_wire.specs.Words.{commits_sent, commit_count, holds, is_done}
use Rattle.nm_wire.specs.Wire.{WireState, link_at}
use Rattle.nm_safety.specs.Pair.{PairHolds, HoldsRunning, FirstLink, first_link, undelivered, commits_in}
use Rattle.nm_safety.specs.Delivered.{IsDelivered, is_answer}
use Rattle.nm_safety.proofs.Basics.{never, is_one}
use Rattle.nm_safety.proofs.Answered.{told_link, out_way, each_at}
use Rattle.nm_safety.proofs.Gone.{not_zero}

pub first_is : (wire : WireState) (number : ℕ) (link : LinkState) → link_at wire number ≡ Some link → number ≡ 1 → first_link wire ≡ link
first_is wire number link there one =
    ap (λ found. unwrap_or found fresh_link)
    (subst (λ n. slice_get wire.links (n - 1) ≡ Some link) one (not_zero (number == 0) (slice_get wire.links (number - 1)) link there).1)

abbrev is_token_ask : Ask → Bool
is_token_ask ask.CommitConfirmed = true
is_token_ask ask.Renew = true
is_token_ask ask.Confirm = true
is_token_ask ask.Cancel = true
is_token_ask _ = false

token_answers : (what : Ask) (reply : Reply) → is_token_ask what ≡ true → is_answer what reply ≡ true → (is_done reply || is_error reply) ≡ true
token_answers what reply t a = grind (arith, nat_tests)

by_answer : (T : Type 0) (reply : Reply) → (is_done reply || is_error reply) ≡ true → (reply ≡ Done → T) → (is_error reply ≡ true → T) → T
by_answer T Done e done error = done refl
by_answer T (Error tag session path) e done error = error refl
by_answer T (Opened id) e done error = never e
by_answer T (LockId id) e done error = never e
by_answer T (Mark there) e done error = never e
by_answer T (Rows count) e done error = never e

no_sum : (n : ℕ) (k : ℕ) (sent : ℕ) → n + k ≤ sent → sent ≤ 1 → k ≡ 1 → n ≡ 0
no_sum n k sent a b c = omega (arith, a, b, c)

module _ {Config TheEdit Node : Type 0} (m : Meaning Config TheEdit Node) (laws : Laws m) (tables : TablesState TheEdit) (change : ℕ) (decided : Option Verdict) (seat : Seat) (wire : WireState) (number : ℕ) (link : LinkState)
    (there : link_at wire number ≡ Some link) (r : RecordedState Config Node) (u : ℕ) (h : Happened Config Node) (session : session_of link ≡ Some u) (pair : PairHolds change decided seat wire r) where
  abbrev token : List ℕ
  token = token_of change

  abbrev Asks : Request → Reply → Type 0
  Asks request reply = IsDelivered m tables change wire number request reply r (Asked u request) h

  abbrev Tells : Request → Type 0
  Tells request = TellsToken token (recorded_with r (Asked u request) h)

  -- ---- an error

  refused_by : (request : Request) → KeepsToken token r.device (noted (Asked u request) h) h.after → h.after ≡ r.device → (waited : Bool) → waits_under token r.device.pending ≡ waited → is_pending (outcome_of token r.history) ≡ waited → Tells request
  refused_by request k same false waits is = ap (λ s. waits_under token s.pending) same ∙ waits ∙ sym (ap is_pending (k.settled r.history is) ∙ is)
  refused_by request k same true waits is =
      let dropped : is_dropped r.device h.after ≡ false = ap (is_dropped r.device) same ∙ not_dropped (is_some r.device.pending) in
      ap (λ s. waits_under token s.pending) same ∙ waits
      ∙ sym (ap is_pending (k.waiting r.history waits (pending_outcome (outcome_of token r.history) is) ∙ ap (λ (b : Bool). if b then Undone (undoing_by (Asked u request)) else Pending) dropped))
    where
      not_dropped : (b : Bool) → (b && not b) ≡ false
      not_dropped true = refl
      not_dropped false = refl

  refused_tells : (request : Request) (reply : Reply) → Asks request reply → is_error reply ≡ true → TellsToken token r → Tells request
  refused_tells request reply d error t =
      let no : is_refused h.reply ≡ true = ap is_refused d.told ∙ error in
      refused_by request (refused_kept m tables token r.device u request h d.happens no) (refused_same m tables r.device u request h d.happens no) (waits_under token r.device.pending) refl (sym t)

  -- ---- done

  done_now : (request : Request) (reply : Reply) → Asks request reply → reply ≡ Done → IsDone m tables r.device u request h
  done_now request reply d e = record { happens = d.happens; done = ap is_done_reply (d.told ∙ ap Some e) }

  out_is : (request : Request) (reply : Reply) → Asks request reply → link.way ≡ way.Asked request
  out_is request reply d = out_way (link_at wire number) link request there d.out

  -- the confirmed commit finds nothing pending, and none of its own done
  record Finds : Type 0 where
    free : r.device.pending ≡ None
    none : outcome_of token r.history ≡ Never

  finds_first : (request : Request) (reply : Reply) → Asks request reply → ask_of request ≡ ask.CommitConfirmed → number ≡ 1 → Finds
  finds_first request reply d is one =
      let same : first_link wire ≡ link = first_is wire number link there one in
      let first : FirstLink token link r = subst (λ l. FirstLink token l r) same pair.first in
      let held : holds link ≡ true = first.asked (ap (λ w. option_map ask_of (asked_on w)) (out_is request reply d) ∙ ap Some is) in
      let running : HoldsRunning u r.device = first.held held u session (is_asked m tables r.device u request h d.happens).asker in
      let out : outstanding link ≡ Some request = found_out (link_at wire number) there d.out in
      let count : undelivered link ≡ 1 = ap commits_in out ∙ ap commit_count is in
      record { free = running.free; none = never_without token r.history (no_sum (commits_done token r.history) (undelivered link) (commits_sent link) first.count first.once count) }
    where
      found_out : (found : Option LinkState) → found ≡ Some link → option_and_then outstanding found ≡ Some request → outstanding link ≡ Some request
      found_out None e o = absurd (let g : None ≡ Some link = e in cc)
      found_out (Some one) e o = let g : one ≡ link = cc in subst (λ l. outstanding l ≡ Some request) g o

  finds : (request : Request) (reply : Reply) → Asks request reply → ask_of request ≡ ask.CommitConfirmed → (b : Bool) → (number == 1) ≡ b → Finds
  finds request reply d is true n = finds_first request reply d is (is_one number n)
  finds request reply d is false n =
      let sent : commit_count (ask_of request) ≤ commits_sent link = (told_link link request reply (out_is request reply d)).sent in
      let none : commits_sent link ≡ 0 = (each_at decided wire number link there pair.each).later (above_one number n (not_zero (number == 0) (slice_get wire.links (number - 1)) link there).0) in
      let count : commit_count (ask_of request) ≡ 1 = ap commit_count is in
      absurd (omega (arith, sent, none, count))
    where
      above_one : (number : ℕ) → (number == 1) ≡ false → (number == 0) ≡ false → 1 ≤ number - 1
      above_one number n z = grind (arith, nat_tests)

  commit_tells : (timeout : Option ℕ) (given : List ℕ) (reply : Reply) → Asks (Commit true timeout (Some given) None) reply → given ≡ token → reply ≡ Done → Tells (Commit true timeout (Some given) None)
  commit_tells timeout given reply d e done =
      let f : Finds = finds (Commit true timeout (Some given) None) reply d refl (number == 1) refl in
      subst (λ g. IsDone m tables r.device u (Commit true timeout (Some g) None) h → Tells (Commit true timeout (Some g) None)) (sym e)
      (λ now. begun_tells m laws tables token r u h timeout now f.free d.tells f.none) (done_now (Commit true timeout (Some given) None) reply d done)

  renew_tells : (timeout : Option ℕ) (named : List ℕ) (reply : Reply) → Asks (Commit true timeout None (Some named)) reply → named ≡ token → reply ≡ Done → Tells (Commit true timeout None (Some named))
  renew_tells timeout named reply d e done =
      subst (λ g. IsDone m tables r.device u (Commit true timeout None (Some g)) h → Tells (Commit true timeout None (Some g))) (sym e)
      (λ now. renewed_tells m laws tables token r u h timeout now d.tells_token) (done_now (Commit true timeout None (Some named)) reply d done)

  confirm_tells : (timeout : Option ℕ) (named : List ℕ) (reply : Reply) → Asks (Commit false timeout None (Some named)) reply → named ≡ token → reply ≡ Done → Tells (Commit false timeout None (Some named))
  confirm_tells timeout named reply d e done =
      subst (λ g. IsDone m tables r.device u (Commit false timeout None (Some g)) h → Tells (Commit false timeout None (Some g))) (sym e)
      (λ now. confirmed_tells m laws tables token r u h timeout now d.tells_token) (done_now (Commit false timeout None (Some named)) reply d done)

  cancel_tells : (named : List ℕ) (reply : Reply) → Asks (CancelCommit (Some named)) reply → named ≡ token → reply ≡ Done → Tells (CancelCommit (Some named))
  cancel_tells named reply d e done =
      subst (λ g. IsDone m tables r.device u (CancelCommit (Some g)) h → Tells (CancelCommit (Some g))) (sym e)
      (λ now. cancelled_tells m laws tables token r u h now d.tells_token) (done_now (CancelCommit (Some named)) reply d done)

  -- ---- any of them

  named_tells : (request : Request) (reply : Reply) → Asks request reply → is_token_ask (ask_of request) ≡ true → (reply ≡ Done → Tells request) → Tells request
  named_tells request reply d named done =
      by_answer (Tells request) reply (token_answers (ask_of request) reply named d.answer) done (λ error. refused_tells request reply d error d.tells_token)

  plain_tells : (request : Request) (reply : Reply) → Asks request reply → leaves_token token r.device (Asked u request) ≡ true → Tells request
  plain_tells request reply d leaves = token_told m tables token r (Asked u request) h d.happens leaves d.tells_token

  unknown : (request : Request) (reply : Reply) → Asks request reply → same_ask (ask_of request) ask.Resync ≡ true → Tells request
  unknown request reply d k = absurd (let g : true ≡ false = sym k ∙ d.known in cc)

  pub own_tells : (request : Request) (reply : Reply) → Asks request reply → Tells request
  own_tells (Commit true timeout (Some given) None) reply d = named_tells _ reply d refl (commit_tells timeout given reply d d.ours.0)
  own_tells (Commit true timeout None (Some named)) reply d = named_tells _ reply d refl (renew_tells timeout named reply d d.ours.1)
  own_tells (Commit false timeout None (Some named)) reply d = named_tells _ reply d refl (confirm_tells timeout named reply d d.ours.1)
  own_tells (Commit true timeout (Some given) (Some named)) reply d = unknown _ reply d refl
  own_tells (Commit true timeout None None) reply d = unknown _ reply d refl
  own_tells (Commit false timeout (Some given) None) reply d = unknown _ reply d refl
  own_tells (Commit false timeout (Some given) (Some named)) reply d = unknown _ reply d refl
  own_tells (Commit false timeout None None) reply d = unknown _ reply d refl
  own_tells (CancelCommit (Some named)) reply d = named_tells _ reply d refl (cancel_tells named reply d d.ours)
  own_tells (CancelCommit None) reply d = unknown _ reply d refl
  own_tells (OpenSession user) reply d = plain_tells _ reply d refl
  own_tells (Lock store) reply d = plain_tells _ reply d refl
  own_tells (Unlock store) reply d = plain_tells _ reply d refl
  own_tells (PartialLock select) reply d = plain_tells _ reply d refl
  own_tells (PartialUnlock id) reply d = plain_tells _ reply d refl
  own_tells (Edit edit operation marks) reply d = plain_tells _ reply d refl
  own_tells Validate reply d = plain_tells _ reply d refl
  own_tells Discard reply d = plain_tells _ reply d refl
  own_tells (HasMark mark) reply d = plain_tells _ reply d refl
  own_tells GetConfig reply d = plain_tells _ reply d refl
  own_tells (Kill other) reply d = plain_tells _ reply d refl
  own_tells CloseSession reply d = plain_tells _ reply d refl
