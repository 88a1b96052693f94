-- A request of a link comes to the device.
use Rattle.std.proofs.Common.{◌≡◌, ◌≤◌, ◌∙◌, ℕ, ◌+◌, ◌-◌, ◌==◌, Bool, true, false, ◌&&◌, cond, List, slice_get, Option, Some, None, IfSome, is_some, option_and_then, unwrap_or, refl, sym, ap, subst, arith}
use Rattle.std.proofs.lemmas.Bool.Decides.{nat_tests}
use Rattle.std.proofs.lemmas.Option.{cond_some}
use Rattle.nm_base.specs.Token.{token_of}
use Rattle.nm_proto.specs.declared.ask.Ask.{Ask}
use Rattle.nm_proto.specs.declared.ask.Ask.TheVariants as ask
use Rattle.nm_proto.specs.declared.message.Store.TheVariants.{Running, Candidate}
use Rattle.nm_proto.specs.declared.message.Request.{Request}
use Rattle.nm_proto.specs.declared.message.Request.TheVariants.{OpenSession, Lock, Unlock, PartialLock, PartialUnlock, Edit, Validate, Commit, CancelCommit, Discard, HasMark, GetConfig, Kill, CloseSession}
use Rattle.nm_proto.specs.declared.message.Reply.{Reply}
use Rattle.nm_proto.specs.declared.message.Reply.TheVariants.{Done, Opened, LockId, Mark, Rows, Error}
use Rattle.nm_proto.specs.declared.journal.Verdict.{Verdict}
use Rattle.nm_proto.specs.Content.{Meaning, Laws, TablesState}
use Rattle.nm_sessions.specs.Sessions.{is_open}
use Rattle.nm_locks.specs.Locks.{owner_of}
use Rattle.nm_pending.specs.Pending.{PendingState}
use Rattle.nm_device.specs.Device.{DeviceState}
use Rattle.nm_pending.specs.Pending.{ends_with}
use Rattle.nm_device.specs.Undoing.{undone_if, left_by}
use Rattle.nm_device.specs.Table.{with_lock, is_error, device_step}
use Rattle.nm_history.specs.declared.event.DeviceEvent.TheVariants.{Entered, Asked}
use Rattle.nm_history.specs.declared.outcome.Outcome.TheVariants.{Pending}
use Rattle.nm_history.specs.Effect.{is_done_reply}
use Rattle.nm_history.specs.Outcome.{outcome_of}
use Rattle.nm_history.specs.History.{Happened, RecordedState, noted, answered, recorded_with}
use Rattle.nm_device_laws.specs.Numbered.{has_author}
use Rattle.nm_device_laws.specs.Keeps.{KeepsFor}
use Rattle.nm_device_laws.specs.Own.{Opens}
use Rattle.nm_device_laws.specs.Moment.{is_refused}
use Rattle.nm_device_laws.specs.Token.{KeepsToken, leaves_token, waits_under, commits_done}
use Rattle.nm_device_laws.specs.Telling.{TellsPending, TellsToken}
use Rattle.nm_device_laws.proofs.Tells.{pending_outcome}
use Rattle.nm_history.specs.Outcome.{is_token}
use Rattle.nm_device_laws.proofs.Keeping.{session_kept}
use Rattle.nm_device_laws.proofs.Named.{token_same}
use Rattle.nm_device_laws.proofs.Tokens.{token_kept, refused_kept}
use Rattle.nm_device_laws.proofs.Owns.{takes_running, takes_candidate, edits, validates, discards, closes, tells_mark, refused_same, opens, begins, renews, confirms, cancels}
use Rattle.nm_device_laws.proofs.Outcomes.{begun_told, renewed_told, confirmed_told, cancelled_told, done_counted}
use Rattle.nm_device_laws.proofs.Events.{IsDone, is_asked, undone_if_keeps}
use Rattle.nm_decider.specs.declared.seat.Seat.{Seat}
use Rattle.nm_wire.specs.Asks.{ask_of, same_ask, commit_ask, cancel_ask}
use Rattle.nm_wire.specs.Link.{LinkState, session_of, fresh_link}
use Rattle.nm_wire.specs.Wire.{WireState, link_at, outstanding_at, session_at, told}
use Rattle.nm_wire.specs.Words.{commits_sent, commit_count}
use Rattle.nm_safety.proofs.Basics.{never, is_one, not_one}
use Rattle.nm_safety.specs.Pair.{EachLink, PairHolds, first_link}
use Rattle.nm_safety.proofs.Gone.{not_zero}
use Rattle.nm_safety.specs.Told.{KeepsHold, AnswersPlainly, RenewsOurs, ConfirmsOurs, CancelsOurs, BeginsOurs, is_plain}
use Rattle.nm_safety.specs.Delivered.{is_answer, IsDelivered}
use Rattle.nm_safety.proofs.Told.{plain_pair, renewal_pair, confirm_pair, cancel_pair}
use Rattle.nm_safety.proofs.Answered.{told_plain, told_later, opened_by, locked_by, committed_by, confirm_fits, cancel_fits, there_out, told_link, out_way, each_at}

-- ---- words

-- what neither names a token nor locks running
abbrev pub is_quiet_request : Request → Bool
is_quiet_request (Lock Candidate) = true
is_quiet_request (Edit number operation marks) = true
is_quiet_request Validate = true
is_quiet_request Discard = true
is_quiet_request (HasMark change) = true
is_quiet_request CloseSession = true
is_quiet_request _ = false

error_plain : (what : Ask) (reply : Reply) → is_error reply ≡ true → is_plain what reply ≡ true
error_plain what reply e = grind (arith, nat_tests)

-- the session of link 1 is that of the first link
first_here : (wire : WireState) (found : Option LinkState) (u : ℕ) → slice_get wire.links 0 ≡ found → option_and_then session_of found ≡ Some u → session_of (first_link wire) ≡ Some u
first_here wire None u e h = absurd (let g : None ≡ Some u = h in cc)
first_here wire (Some link) u e h = ap (λ found. session_of (unwrap_or found fresh_link)) e ∙ h

first_session_at : (wire : WireState) (number : ℕ) → number ≡ 1 → (u : ℕ) → session_at wire number ≡ Some u → session_of (first_link wire) ≡ Some u
first_session_at wire number one u at = first_here wire (slice_get wire.links 0) u refl (subst (λ n. option_and_then session_of (cond (n == 0) None (slice_get wire.links (n - 1))) ≡ Some u) one at)

no_mark : (confirmed persists names : Bool) (there : Bool) → is_answer (commit_ask confirmed persists names) (Mark there) ≡ true → ⊥
no_mark confirmed persists names there a = grind (arith, nat_tests)

no_mark_cancel : (names there : Bool) → is_answer (cancel_ask names) (Mark there) ≡ true → ⊥
no_mark_cancel names there a = grind (arith, nat_tests)

no_open : (confirmed persists names : Bool) (id : ℕ) → is_answer (commit_ask confirmed persists names) (Opened id) ≡ true → ⊥
no_open confirmed persists names id a = grind (arith, nat_tests)

no_open_cancel : (names : Bool) (id : ℕ) → is_answer (cancel_ask names) (Opened id) ≡ true → ⊥
no_open_cancel names id a = grind (arith, nat_tests)

not_opening : (a : Bool) → (a && false) ≡ true → ⊥
not_opening true h = never h
not_opening false h = never h

no_id : (what : Ask) (id : ℕ) → is_answer what (LockId id) ≡ true → ⊥
no_id what id a = grind (arith, nat_tests)

no_rows : (what : Ask) (count : ℕ) → is_answer what (Rows count) ≡ true → ⊥
no_rows what count a = grind (arith, nat_tests)

-- ---- what a session's own request leaves

module _ {Config Node : Type 0} (t : ℕ) (s now : DeviceState Config Node) where
  -- of others' requests
  hold_of_keeps : t ≤ s.sessions.last → KeepsFor t s now → KeepsHold t s now
  hold_of_keeps opened keeps = record {
    was_open = λ o. sym (ap is_some ((keeps.kept o).user opened)) ∙ o;
    holds = λ o held. record { owner = (keeps.kept o).owner Running held.owner; free = (keeps.kept o).free held.owner held.free; whole = (keeps.kept o).whole held.owner held.whole };
    author = keeps.author;
  }

  -- where nothing of it changes
  hold_same : now.sessions ≡ s.sessions → owner_of now.locks Running ≡ owner_of s.locks Running → now.pending ≡ s.pending → now.partials ≡ s.partials → KeepsHold t s now
  hold_same sessions owner pending partials = record {
    was_open = λ o. ap (λ all. is_open all t) (sym sessions) ∙ o;
    holds = λ o held. record { owner = owner ∙ held.owner; free = pending ∙ held.free; whole = ap (λ p. p.locks) partials ∙ held.whole };
    author = λ a. ap (λ p. has_author p t) (sym pending) ∙ a;
  }

  hold_refused : now ≡ s → KeepsHold t s now
  hold_refused e = hold_same (ap (λ d. d.sessions) e) (ap (λ d. owner_of d.locks Running) e) (ap (λ d. d.pending) e) (ap (λ d. d.partials) e)

module _ {Config TheEdit Node : Type 0} (m : Meaning Config TheEdit Node) (laws : Laws m) (tables : TablesState TheEdit) where
  ended_author : (t : ℕ) (s : DeviceState Config Node) (undoes : Bool) → has_author (undone_if m (left_by s t) undoes).pending t ≡ true → has_author s.pending t ≡ true
  ended_author t s undoes =
      undone_if_keeps m tables s (λ d. has_author d.pending t ≡ true → has_author s.pending t ≡ true) (left_by s t) undoes (λ a. a) (λ p e a. absurd (let g : false ≡ true = a in cc))

  module _ (s : DeviceState Config Node) (t : ℕ) (h : Happened Config Node) where
    -- of what names no token and isn't the lock of running, where it is done
    done_holds : (request : Request) → IsDone m tables s t request h → is_quiet_request request ≡ true → KeepsHold t s h.after
    done_holds (Lock Candidate) d q =
        let after : h.after ≡ with_lock s Candidate t = (takes_candidate m tables s t h d).after in
        hold_same t s h.after (ap (λ x. x.sessions) after) (ap (λ x. owner_of x.locks Running) after) (ap (λ x. x.pending) after) (ap (λ x. x.partials) after)
    done_holds (Edit number operation marks) d q =
        let e = edits m tables s t number operation marks h d in
        hold_same t s h.after (ap (λ x. x.sessions) e.after) (ap (λ x. owner_of x.locks Running) e.after) (ap (λ x. x.pending) e.after) (ap (λ x. x.partials) e.after)
    done_holds Validate d q = hold_refused t s h.after (validates m tables s t h d).after
    done_holds Discard d q =
        let after = (discards m tables s t h d).after in
        hold_same t s h.after (ap (λ x. x.sessions) after) (ap (λ x. owner_of x.locks Running) after) (ap (λ x. x.pending) after) (ap (λ x. x.partials) after)
    done_holds (HasMark change) d q = hold_refused t s h.after (tells_mark m tables s t change h d.happens).after
    done_holds CloseSession d q =
        let c = closes m tables s t h d in
        record {
          was_open = λ o. absurd (let g : false ≡ true = sym c.closed ∙ o in cc);
          holds = λ o held. absurd (let g : false ≡ true = sym c.closed ∙ o in cc);
          author = λ a. ended_author t s (ends_with s.pending t) (ap (λ x. has_author x.pending t) (sym c.after) ∙ a);
        }
    done_holds (OpenSession user) d q = absurd (let g : false ≡ true = q in cc)
    done_holds (Lock Running) d q = absurd (let g : false ≡ true = q in cc)
    done_holds (Unlock store) d q = absurd (let g : false ≡ true = q in cc)
    done_holds (PartialLock select) d q = absurd (let g : false ≡ true = q in cc)
    done_holds (PartialUnlock id) d q = absurd (let g : false ≡ true = q in cc)
    done_holds (Commit confirmed timeout persist persist_id) d q = absurd (let g : false ≡ true = q in cc)
    done_holds (CancelCommit persist_id) d q = absurd (let g : false ≡ true = q in cc)
    done_holds GetConfig d q = absurd (let g : false ≡ true = q in cc)
    done_holds (Kill other) d q = absurd (let g : false ≡ true = q in cc)

  -- ---- a session asks

  module _ (change : ℕ) (decided : Option Verdict) (seat : Seat) (wire : WireState) (number : ℕ) (request : Request) (reply : Reply) (r : RecordedState Config Node) (u : ℕ) (h : Happened Config Node)
      (d : IsDelivered m tables change wire number request reply r (Asked u request) h) (at : session_at wire number ≡ Some u) (pair : PairHolds change decided seat wire r) where
    abbrev token : List ℕ
    token = token_of change

    abbrev now : RecordedState Config Node
    now = recorded_with r (Asked u request) h

    -- the session of the first link, where that is the one
    own_session : number ≡ 1 → (session : ℕ) → session_of (first_link wire) ≡ Some session → session ≡ u
    own_session one session e =
        let first : session_of (first_link wire) ≡ Some u = first_session_at wire number one u at in
        let g : Some session ≡ Some u = sym e ∙ first in cc

    -- what stands for it, by what does for the asker
    hold_first : (KeepsHold u r.device h.after) → (session : ℕ) → session_of (first_link wire) ≡ Some session → (b : Bool) → (number == 1) ≡ b → KeepsHold session r.device h.after
    hold_first own session e true n = subst (λ t. KeepsHold t r.device h.after) (sym (own_session (is_one number n) session e)) own
    hold_first own session e false n = hold_of_keeps session r.device h.after (d.opened session e) (session_kept m tables r.device d.numbered session (Asked u request) h d.happens (d.others n session e))

    plainly : KeepsHold u r.device h.after → KeepsToken token r.device (noted (Asked u request) h) h.after → AnswersPlainly change wire (noted (Asked u request) h) r now
    plainly own kept = record { history = refl; session = λ session e. hold_first own session e (number == 1) refl; token = kept }

    plain_told : KeepsHold u r.device h.after → KeepsToken token r.device (noted (Asked u request) h) h.after → is_plain (ask_of request) reply ≡ true → PairHolds change decided seat (told wire number reply) now
    plain_told own kept plain =
        told_plain change decided seat wire number request reply d.out now plain (plain_pair change decided seat wire r now (noted (Asked u request) h) (plainly own kept) pair)

    -- an error changes nothing
    refused_told : is_error reply ≡ true → PairHolds change decided seat (told wire number reply) now
    refused_told refused =
        let no : is_refused h.reply ≡ true = ap is_refused d.told ∙ refused in
        plain_told (hold_refused u r.device h.after (refused_same m tables r.device u request h d.happens no)) (refused_kept m tables token r.device u request h d.happens no)
        (error_plain (ask_of request) reply refused)

    -- a later link may do anything but name the token
    later_told : KeepsToken token r.device (noted (Asked u request) h) h.after → (number == 1) ≡ false → PairHolds change decided seat (told wire number reply) now
    later_told kept n =
        told_later change decided seat wire number request reply d.out now (not_one number n)
        (plain_pair change decided seat wire r now (noted (Asked u request) h)
        (record { history = refl; session = λ session e. hold_of_keeps session r.device h.after (d.opened session e) (session_kept m tables r.device d.numbered session (Asked u request) h d.happens (d.others n session e)); token = kept }) pair)

    is_done_now : reply ≡ Done → IsDone m tables r.device u request h
    is_done_now e = record { happens = d.happens; done = ap is_done_reply (d.told ∙ ap Some e) }

    -- the asker is open
    asker_open : is_open r.device.sessions u ≡ true
    asker_open = (is_asked m tables r.device u request h d.happens).asker

-- ---- what names the token

module _ {Config TheEdit Node : Type 0} (m : Meaning Config TheEdit Node) (laws : Laws m) (tables : TablesState TheEdit) (token : List ℕ) (r : RecordedState Config Node) (u : ℕ) (h : Happened Config Node) where
  no_more : (n : ℕ) (b : Bool) → b ≡ false → n + cond b 1 0 ≡ n
  no_more n true e = absurd (let g : true ≡ false = e in cc)
  no_more n false e = omega arith

  one_more : (n : ℕ) (b : Bool) → b ≡ true → n + cond b 1 0 ≡ n + 1
  one_more n true e = refl
  one_more n false e = absurd (let g : false ≡ true = e in cc)

  begins_ours : (timeout : Option ℕ) → IsDone m tables r.device u (Commit true timeout (Some token) None) h → TellsPending token r
      → BeginsOurs token r (recorded_with r (Asked u (Commit true timeout (Some token) None)) h)
  begins_ours timeout d tells = record {
    count = done_counted m tables r u h token (Commit true timeout (Some token) None) d ∙ one_more (commits_done token r.history) (is_token token (Some token)) (token_same token);
    outcome = λ none never. begun_told m tables r u h token timeout d none tells never;
    waits = λ none. let b = begins m laws tables r.device u timeout token h none d in ap (λ x. waits_under token x.pending) b.after ∙ token_same token;
  }

  -- where it waits, the history tells so
  waited_now : (p : PendingState Config) → r.device.pending ≡ Some p → p.token ≡ Some token → TellsToken token r → outcome_of token r.history ≡ Pending
  waited_now p e named tells = pending_outcome (outcome_of token r.history) (sym tells ∙ ap (waits_under token) e ∙ ap (is_token token) named ∙ token_same token)

  renews_ours : (timeout : Option ℕ) → IsDone m tables r.device u (Commit true timeout None (Some token)) h → TellsToken token r
      → RenewsOurs token r (recorded_with r (Asked u (Commit true timeout None (Some token))) h)
  renews_ours timeout d tells =
      let n = renews m laws tables r.device u timeout token h d in
      let waited : outcome_of token r.history ≡ Pending = waited_now n.p n.waits n.named tells in
      record {
        follows = record {
          waited = waited;
          count = done_counted m tables r u h token (Commit true timeout None (Some token)) d ∙ no_more (commits_done token r.history) false refl;
          sessions = ap (λ x. x.sessions) n.commits.after;
        };
        outcome = renewed_told m tables r u h token token timeout d ∙ waited;
        waits = ap (λ x. waits_under token x.pending) n.commits.after ∙ ap (is_token token) n.named ∙ token_same token;
      }

  confirms_ours : (timeout : Option ℕ) → IsDone m tables r.device u (Commit false timeout None (Some token)) h → TellsToken token r
      → ConfirmsOurs token r (recorded_with r (Asked u (Commit false timeout None (Some token))) h)
  confirms_ours timeout d tells =
      let n = confirms m laws tables r.device u timeout token h d in
      let waited : outcome_of token r.history ≡ Pending = waited_now n.p n.waits n.named tells in
      record {
        follows = record {
          waited = waited;
          count = done_counted m tables r u h token (Commit false timeout None (Some token)) d ∙ no_more (commits_done token r.history) false refl;
          sessions = ap (λ x. x.sessions) n.commits.after;
        };
        outcome = confirmed_told m tables r u h token timeout d waited;
        ended = ap (λ x. x.pending) n.commits.after;
      }

  cancels_ours : IsDone m tables r.device u (CancelCommit (Some token)) h → TellsToken token r → CancelsOurs token r (recorded_with r (Asked u (CancelCommit (Some token))) h)
  cancels_ours d tells =
      let n = cancels m laws tables r.device u token h d in
      let waited : outcome_of token r.history ≡ Pending = waited_now n.p n.waits n.named tells in
      record {
        follows = record {
          waited = waited;
          count = done_counted m tables r u h token (CancelCommit (Some token)) d ∙ no_more (commits_done token r.history) false refl;
          sessions = ap (λ x. x.sessions) n.after;
        };
        outcome = cancelled_told m tables r u h token d waited;
        ended = ap (λ x. x.pending) n.after;
      }

-- ---- any request

-- no later link was sent the confirmed commit
later_commit : (decided : Option Verdict) (wire : WireState) (number : ℕ) (request : Request) → ((place : ℕ) → IfSome (slice_get wire.links place) (EachLink decided place))
    → outstanding_at wire number ≡ Some request → ask_of request ≡ ask.CommitConfirmed → (number == 1) ≡ false → ⊥
later_commit decided wire number request all out is n =
    there_out (link_at wire number) request ⊥ out
    (λ link here.
    let sent : commit_count (ask_of request) ≤ commits_sent link = (told_link link request Done (out_way (link_at wire number) link request here out)).sent in
    let none : commits_sent link ≡ 0 = (each_at decided wire number link here all).later (later_place number n link here) in
    let count : commit_count (ask_of request) ≡ 1 = ap commit_count is in
    absurd (omega (arith, sent, none, count)))
  where
    later_place : (number : ℕ) → (number == 1) ≡ false → (link : LinkState) → link_at wire number ≡ Some link → 1 ≤ number - 1
    later_place number n link here = above_one number n (not_zero (number == 0) (slice_get wire.links (number - 1)) link here).0
      where
        above_one : (number : ℕ) → (number == 1) ≡ false → (number == 0) ≡ false → 1 ≤ number - 1
        above_one number n z = grind (arith, nat_tests)

module _ {Config TheEdit Node : Type 0} (m : Meaning Config TheEdit Node) (laws : Laws m) (tables : TablesState TheEdit) (change : ℕ) (decided : Option Verdict) (seat : Seat) (wire : WireState) (number : ℕ)
    (r : RecordedState Config Node) (u : ℕ) (h : Happened Config Node) (at : session_at wire number ≡ Some u) (pair : PairHolds change decided seat wire r) where
  -- a request was answered
  abbrev Asks : Request → Reply → Type 0
  Asks request reply = IsDelivered m tables change wire number request reply r (Asked u request) h

  abbrev Keeps : Request → Reply → Type 0
  Keeps request reply = PairHolds change decided seat (told wire number reply) (recorded_with r (Asked u request) h)

  quiet_done : (request : Request) → Asks request Done → is_quiet_request request ≡ true → leaves_token (token_of change) r.device (Asked u request) ≡ true → is_plain (ask_of request) Done ≡ true → Keeps request Done
  quiet_done request d q leaves plain =
      plain_told m laws tables change decided seat wire number request Done r u h d at pair
      (done_holds m laws tables r.device u h request (is_done_now m laws tables change decided seat wire number request Done r u h d at pair refl) q)
      (token_kept m tables (token_of change) r.device (Asked u request) h d.happens leaves) plain

  lock_done : Asks (Lock Running) Done → (b : Bool) → (number == 1) ≡ b → Keeps (Lock Running) Done
  lock_done d true n =
      locked_by change decided seat wire number (Lock Running) Done d.out (is_one number n) r (recorded_with r (Asked u (Lock Running)) h) (noted (Asked u (Lock Running)) h) refl
      (token_kept m tables (token_of change) r.device (Asked u (Lock Running)) h d.happens refl) pair u (first_session_at wire number (is_one number n) u at) refl refl
      (takes_running m tables r.device u h (is_done_now m laws tables change decided seat wire number (Lock Running) Done r u h d at pair refl))
  lock_done d false n =
      later_told m laws tables change decided seat wire number (Lock Running) Done r u h d at pair (token_kept m tables (token_of change) r.device (Asked u (Lock Running)) h d.happens refl) n

  commit_done : (timeout : Option ℕ) (given : List ℕ) → Asks (Commit true timeout (Some given) None) Done → given ≡ token_of change → (b : Bool) → (number == 1) ≡ b → Keeps (Commit true timeout (Some given) None) Done
  commit_done timeout given d e true n =
      committed_by change decided seat wire number (Commit true timeout (Some given) None) Done d.out (is_one number n) r (recorded_with r (Asked u (Commit true timeout (Some given) None)) h) pair u
      (first_session_at wire number (is_one number n) u at) (asker_open m laws tables change decided seat wire number (Commit true timeout (Some given) None) Done r u h d at pair) refl refl
      (subst (λ g. IsDone m tables r.device u (Commit true timeout (Some g) None) h → BeginsOurs (token_of change) r (recorded_with r (Asked u (Commit true timeout (Some g) None)) h)) (sym e)
      (λ done. begins_ours m laws tables (token_of change) r u h timeout done d.tells) (is_done_now m laws tables change decided seat wire number (Commit true timeout (Some given) None) Done r u h d at pair refl))
  commit_done timeout given d e false n = absurd (later_commit decided wire number (Commit true timeout (Some given) None) pair.each d.out refl n)

  renew_done : (timeout : Option ℕ) (named : List ℕ) → Asks (Commit true timeout None (Some named)) Done → named ≡ token_of change → Keeps (Commit true timeout None (Some named)) Done
  renew_done timeout named d e =
      told_plain change decided seat wire number (Commit true timeout None (Some named)) Done d.out (recorded_with r (Asked u (Commit true timeout None (Some named))) h) refl
      (renewal_pair change decided seat wire r (recorded_with r (Asked u (Commit true timeout None (Some named))) h)
      (subst (λ g. IsDone m tables r.device u (Commit true timeout None (Some g)) h → RenewsOurs (token_of change) r (recorded_with r (Asked u (Commit true timeout None (Some g))) h)) (sym e)
      (λ done. renews_ours m laws tables (token_of change) r u h timeout done d.tells_token) (is_done_now m laws tables change decided seat wire number (Commit true timeout None (Some named)) Done r u h d at pair refl)) pair)

  confirm_done : (timeout : Option ℕ) (named : List ℕ) → Asks (Commit false timeout None (Some named)) Done → named ≡ token_of change → Keeps (Commit false timeout None (Some named)) Done
  confirm_done timeout named d e =
      told_plain change decided seat wire number (Commit false timeout None (Some named)) Done d.out (recorded_with r (Asked u (Commit false timeout None (Some named))) h) refl
      (confirm_pair change decided seat wire r (recorded_with r (Asked u (Commit false timeout None (Some named))) h)
      (subst (λ g. IsDone m tables r.device u (Commit false timeout None (Some g)) h → ConfirmsOurs (token_of change) r (recorded_with r (Asked u (Commit false timeout None (Some g))) h)) (sym e)
      (λ done. confirms_ours m laws tables (token_of change) r u h timeout done d.tells_token) (is_done_now m laws tables change decided seat wire number (Commit false timeout None (Some named)) Done r u h d at pair refl))
      (confirm_fits change decided seat wire number (Commit false timeout None (Some named)) d.out r pair refl) pair)

  cancel_done : (named : List ℕ) → Asks (CancelCommit (Some named)) Done → named ≡ token_of change → Keeps (CancelCommit (Some named)) Done
  cancel_done named d e =
      told_plain change decided seat wire number (CancelCommit (Some named)) Done d.out (recorded_with r (Asked u (CancelCommit (Some named))) h) refl
      (cancel_pair change decided seat wire r (recorded_with r (Asked u (CancelCommit (Some named))) h)
      (subst (λ g. IsDone m tables r.device u (CancelCommit (Some g)) h → CancelsOurs (token_of change) r (recorded_with r (Asked u (CancelCommit (Some g))) h)) (sym e)
      (λ done. cancels_ours m laws tables (token_of change) r u h done d.tells_token) (is_done_now m laws tables change decided seat wire number (CancelCommit (Some named)) Done r u h d at pair refl))
      (cancel_fits change decided seat wire number (CancelCommit (Some named)) d.out r pair refl) pair)

  unknown : (request : Request) (reply : Reply) → Asks request reply → same_ask (ask_of request) ask.Resync ≡ true → Keeps request reply
  unknown request reply d k = absurd (let g : true ≡ false = sym k ∙ d.known in cc)

  done_pair : (request : Request) → Asks request Done → Keeps request Done
  done_pair (OpenSession user) d = absurd (let g : false ≡ true = d.answer in cc)
  done_pair (Lock Running) d = lock_done d (number == 1) refl
  done_pair (Lock Candidate) d = quiet_done (Lock Candidate) d refl refl refl
  done_pair (Unlock store) d = unknown (Unlock store) Done d refl
  done_pair (PartialLock select) d = unknown (PartialLock select) Done d refl
  done_pair (PartialUnlock id) d = unknown (PartialUnlock id) Done d refl
  done_pair (Edit edit operation marks) d = quiet_done (Edit edit operation marks) d refl refl refl
  done_pair Validate d = quiet_done Validate d refl refl refl
  done_pair (Commit true timeout (Some given) None) d = commit_done timeout given d d.ours.0 (number == 1) refl
  done_pair (Commit true timeout None (Some named)) d = renew_done timeout named d d.ours.1
  done_pair (Commit false timeout None (Some named)) d = confirm_done timeout named d d.ours.1
  done_pair (Commit true timeout (Some given) (Some named)) d = unknown (Commit true timeout (Some given) (Some named)) Done d refl
  done_pair (Commit true timeout None None) d = unknown (Commit true timeout None None) Done d refl
  done_pair (Commit false timeout (Some given) None) d = unknown (Commit false timeout (Some given) None) Done d refl
  done_pair (Commit false timeout (Some given) (Some named)) d = unknown (Commit false timeout (Some given) (Some named)) Done d refl
  done_pair (Commit false timeout None None) d = unknown (Commit false timeout None None) Done d refl
  done_pair (CancelCommit (Some named)) d = cancel_done named d d.ours
  done_pair (CancelCommit None) d = unknown (CancelCommit None) Done d refl
  done_pair Discard d = quiet_done Discard d refl refl refl
  done_pair (HasMark mark) d = absurd (let g : false ≡ true = d.answer in cc)
  done_pair GetConfig d = unknown GetConfig Done d refl
  done_pair (Kill other) d = unknown (Kill other) Done d refl
  done_pair CloseSession d = quiet_done CloseSession d refl refl refl

  -- ---- any reply

  mark_pair : (request : Request) (there : Bool) → Asks request (Mark there) → Keeps request (Mark there)
  mark_pair (HasMark mark) there d =
      plain_told m laws tables change decided seat wire number (HasMark mark) (Mark there) r u h d at pair
      (hold_refused u r.device h.after (tells_mark m tables r.device u mark h d.happens).after)
      (token_kept m tables (token_of change) r.device (Asked u (HasMark mark)) h d.happens refl) refl
  mark_pair (OpenSession user) there d = never d.answer
  mark_pair (Lock Running) there d = never d.answer
  mark_pair (Lock Candidate) there d = never d.answer
  mark_pair (Unlock store) there d = unknown (Unlock store) (Mark there) d refl
  mark_pair (PartialLock select) there d = unknown (PartialLock select) (Mark there) d refl
  mark_pair (PartialUnlock id) there d = unknown (PartialUnlock id) (Mark there) d refl
  mark_pair (Edit edit operation marks) there d = never d.answer
  mark_pair Validate there d = never d.answer
  mark_pair (Commit confirmed timeout persist persist_id) there d = absurd (no_mark confirmed (is_some persist) (is_some persist_id) there d.answer)
  mark_pair (CancelCommit persist_id) there d = absurd (no_mark_cancel (is_some persist_id) there d.answer)
  mark_pair Discard there d = never d.answer
  mark_pair GetConfig there d = unknown GetConfig (Mark there) d refl
  mark_pair (Kill other) there d = unknown (Kill other) (Mark there) d refl
  mark_pair CloseSession there d = never d.answer

  opened_pair : (request : Request) (id : ℕ) → Asks request (Opened id) → Keeps request (Opened id)
  opened_pair (OpenSession user) id d =
      absurd (not_opening (is_open r.device.sessions u)
      (cond_some (is_open r.device.sessions u && false) (answered r.device (OpenSession user) (device_step m tables r.device u (OpenSession user))) h d.happens).0)
  opened_pair (HasMark mark) id d = never d.answer
  opened_pair (Lock Running) id d = never d.answer
  opened_pair (Lock Candidate) id d = never d.answer
  opened_pair (Unlock store) id d = unknown (Unlock store) (Opened id) d refl
  opened_pair (PartialLock select) id d = unknown (PartialLock select) (Opened id) d refl
  opened_pair (PartialUnlock other) id d = unknown (PartialUnlock other) (Opened id) d refl
  opened_pair (Edit edit operation marks) id d = never d.answer
  opened_pair Validate id d = never d.answer
  opened_pair (Commit confirmed timeout persist persist_id) id d = absurd (no_open confirmed (is_some persist) (is_some persist_id) id d.answer)
  opened_pair (CancelCommit persist_id) id d = absurd (no_open_cancel (is_some persist_id) id d.answer)
  opened_pair Discard id d = never d.answer
  opened_pair GetConfig id d = unknown GetConfig (Opened id) d refl
  opened_pair (Kill other) id d = unknown (Kill other) (Opened id) d refl
  opened_pair CloseSession id d = never d.answer

  pub asked_pair : (request : Request) (reply : Reply) → Asks request reply → Keeps request reply
  asked_pair request Done d = done_pair request d
  asked_pair request (Opened id) d = opened_pair request id d
  asked_pair request (LockId id) d = absurd (no_id (ask_of request) id d.answer)
  asked_pair request (Mark there) d = mark_pair request there d
  asked_pair request (Rows count) d = absurd (no_rows (ask_of request) count d.answer)
  asked_pair request (Error tag session path) d = refused_told m laws tables change decided seat wire number request (Error tag session path) r u h d at pair refl

-- ---- a session is asked for

module _ {Config TheEdit Node : Type 0} (m : Meaning Config TheEdit Node) (tables : TablesState TheEdit) (change : ℕ) (decided : Option Verdict) (seat : Seat) (wire : WireState) (number : ℕ)
    (r : RecordedState Config Node) (user : List ℕ) (h : Happened Config Node) (pair : PairHolds change decided seat wire r) where
  abbrev Enters : Reply → Type 0
  Enters reply = IsDelivered m tables change wire number (OpenSession user) reply r (Entered user) h

  abbrev KeepsEntered : Reply → Type 0
  KeepsEntered reply = PairHolds change decided seat (told wire number reply) (recorded_with r (Entered user) h)

  module _ (reply : Reply) (d : Enters reply) where
    still : (session : ℕ) → session_of (first_link wire) ≡ Some session → KeepsHold session r.device h.after
    still session e = hold_of_keeps session r.device h.after (d.opened session e) (session_kept m tables r.device d.numbered session (Entered user) h d.happens refl)

    kept : KeepsToken (token_of change) r.device (noted (Entered user) h) h.after
    kept = token_kept m tables (token_of change) r.device (Entered user) h d.happens refl

    moved : PairHolds change decided seat wire (recorded_with r (Entered user) h)
    moved = plain_pair change decided seat wire r (recorded_with r (Entered user) h) (noted (Entered user) h) (record { history = refl; session = still; token = kept }) pair

  fresh_author : (id : ℕ) (d : Enters (Opened id)) → has_author h.after.pending id ≡ false
  fresh_author id d = by_author (has_author h.after.pending id) refl
    where
      o : Opens user id r.device h.after
      o = opens m tables r.device d.numbered user id h d.happens d.told

      by_author : (b : Bool) → has_author h.after.pending id ≡ b → has_author h.after.pending id ≡ false
      by_author false e = e
      by_author true e =
          let below : id ≤ r.device.sessions.last = d.numbered.authors id (ap (λ x. has_author x.pending id) (sym o.after) ∙ e) in
          let above : id ≡ r.device.sessions.last + 1 = o.next in
          absurd (omega (arith, below, above))

  session_opens : (id : ℕ) (d : Enters (Opened id)) (b : Bool) → (number == 1) ≡ b → KeepsEntered (Opened id)
  session_opens id d true n =
      opened_by change decided seat wire number (OpenSession user) (Opened id) d.out (is_one number n) r (recorded_with r (Entered user) h) (noted (Entered user) h) refl (kept (Opened id) d) pair id refl
      (fresh_author id d) (still (Opened id) d)
  session_opens id d false n = told_later change decided seat wire number (OpenSession user) (Opened id) d.out (recorded_with r (Entered user) h) (not_one number n) (moved (Opened id) d)

  pub entered_pair : (reply : Reply) → Enters reply → KeepsEntered reply
  entered_pair (Opened id) d = session_opens id d (number == 1) refl
  entered_pair (Error tag session path) d =
      told_plain change decided seat wire number (OpenSession user) (Error tag session path) d.out (recorded_with r (Entered user) h) refl (moved (Error tag session path) d)
  entered_pair Done d = absurd (let g : false ≡ true = d.answer in cc)
  entered_pair (LockId id) d = absurd (let g : false ≡ true = d.answer in cc)
  entered_pair (Mark there) d = absurd (let g : false ≡ true = d.answer in cc)
  entered_pair (Rows count) d = absurd (let g : false ≡ true = d.answer in cc)
