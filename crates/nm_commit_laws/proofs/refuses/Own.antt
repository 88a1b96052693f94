-- What waits under a token of the manager's, and who owns candidate, once a session of the manager's is answered.
use Rattle.std.proofs.Common.{◌≡◌, ◌∙◌, ℕ, suc, ◌==◌, Bool, true, false, not, ◌&&◌, ◌||◌, map, List, [], Option, Some, None, IfSome, slice_get, refl, sym, ap, subst, arith}
use Rattle.std.proofs.lemmas.Bool.Decides.{nat_tests}
use Rattle.std.proofs.lemmas.Option.{none-some, same_Some}
use Rattle.nm_base.specs.declared.number.EditNo.{EditNo}
use Rattle.nm_base.specs.declared.tag.Tag.{Tag}
use Rattle.nm_base.specs.declared.tag.Tag.TheVariants.{AccessDenied, InUse, InvalidValue}
use Rattle.nm_base.specs.Token.{token_of}
use Rattle.nm_proto.specs.declared.ask.Ask.{Ask}
use Rattle.nm_proto.specs.declared.ask.Ask.TheVariants as ask
use Rattle.nm_proto.specs.declared.message.DefaultOperation.{DefaultOperation}
use Rattle.nm_proto.specs.declared.message.Marks.{Marks}
use Rattle.nm_proto.specs.declared.message.Store.TheVariants.{Running, Candidate}
use Rattle.nm_proto.specs.declared.message.Request.{Request}
use Rattle.nm_proto.specs.declared.message.Request.TheVariants.{OpenSession, Lock, Unlock, PartialLock, PartialUnlock, Edit, Validate, Commit, CancelCommit, Discard, HasMark, GetConfig, Kill, CloseSession}
use Rattle.nm_proto.specs.declared.message.Reply.{Reply}
use Rattle.nm_proto.specs.declared.message.Reply.TheVariants.{Done}
use Rattle.nm_proto.specs.declared.plan.ChangePlan.{ChangePlan}
use Rattle.nm_proto.specs.Content.{Meaning, Laws, TablesState}
use Rattle.nm_sessions.specs.Sessions.{is_open, user_of}
use Rattle.nm_locks.specs.Locks.{owner_of}
use Rattle.nm_partial.specs.Partial.{without_absent}
use Rattle.nm_stores.specs.Stores.{StoresState, candidate_of}
use Rattle.nm_pending.specs.Pending.{PendingState, deadline_of, followed, is_author}
use Rattle.nm_pending.proofs.Follows.{author_followed}
use Rattle.nm_device.specs.Commit.{CommitForm, candidate_refusal, commit_from, commit_refusal, commit_tag, is_locked_out, is_zero, names_reserved, or_else, refused_if}
use Rattle.nm_pending.specs.Fits.{commit_refusal as pending_refusal}
use Rattle.nm_device.specs.Device.{DeviceState, is_manager, with_stores}
use Rattle.nm_device.specs.Table.{is_done as step_done, is_error, with_lock}
use Rattle.nm_history.specs.declared.event.DeviceEvent.TheVariants.{Asked}
use Rattle.nm_history.specs.Effect.{is_done_reply}
use Rattle.nm_history.specs.Outcome.{is_token}
use Rattle.nm_history.specs.History.{Happened}
use Rattle.nm_device_laws.specs.Moment.{Happens, is_refused}
use Rattle.nm_device_laws.specs.Numbered.{IsNumbered, has_author}
use Rattle.nm_device_laws.specs.Own.{Begins, Cancels, Confirms, Discards, EditsCandidate, Renews, TakesCandidate, TakesRunning}
use Rattle.nm_device_laws.specs.Token.{waits_under}
use Rattle.nm_device_laws.proofs.Events.{IsDone, is_asked}
use Rattle.nm_device_laws.proofs.Owns.{begins, cancels, closes, confirms, discards, edits, refused_same, renews, takes_candidate, takes_running, tells_mark, validates}
use Rattle.nm_wire.specs.Asks.{ask_of, same_ask}
use Rattle.nm_wire.specs.Words.{is_done, owns_by}
use Rattle.nm_safety.specs.Delivered.{is_answer}
use Rattle.nm_safety.specs.Pair.{HoldsRunning}
use Rattle.nm_commit_laws.specs.RefusesSupport.{IsApart, IsGuarded}
use Rattle.nm_commit_laws.proofs.refuses.Guard.{before, closed_guarded, same_nat}

not_refused : (refused : Bool) (tag : Tag) → refused_if refused tag ≡ None → refused ≡ false
not_refused true tag e = let g : Some tag ≡ None = e in cc
not_refused false tag e = refl

neither : (one other : Option Tag) → or_else one other ≡ None → (one ≡ None) × (other ≡ None)
neither (Some tag) other e = let g : Some tag ≡ None = e in cc
neither None other e = (refl, e)

-- what the manager asks but for a session and a mark is answered Done or by an error
answers_two : (what : Ask) (reply : Reply) → is_answer what reply ≡ true
    → (same_ask what ask.OpenSession || same_ask what ask.HasMark) ≡ false → (is_done reply || is_error reply) ≡ true
answers_two what reply a o = grind (arith, nat_tests)

other_error : (done error : Bool) → (done || error) ≡ true → done ≡ false → error ≡ true
other_error done error e f = grind (arith, nat_tests)

one_author : (u author : ℕ) → ((u == author) || false) ≡ true → u ≡ author
one_author u author e = grind (arith, nat_tests)

own_author : (u author : ℕ) → u ≡ author → ((u == author) || false) ≡ true
own_author u author e = grind (arith, nat_tests)

first_true : (a b : Bool) → a ≡ true → (a || b) ≡ true
first_true a b e = ap (λ c. c || b) e

module _ (plans : List ChangePlan) where
  -- a confirmed commit that gives a change set's token has the timer of that
  abbrev pub TimedFor : Request → Type 0
  TimedFor (Commit true timeout (Some given) None) =
      (place : ℕ) (plan : ChangePlan) → slice_get plans place ≡ Some plan → is_token (token_of (suc place)) (Some given) ≡ true
      → timeout ≡ Some plan.timeout
  TimedFor _ = Unit {0}

  -- what a session of the manager's asks for, and what it has then
  pub record IsDecent {Config Node : Type 0} (u : ℕ) (s : DeviceState Config Node) (request : Request) : Type 0 where
    pub known : same_ask (ask_of request) ask.Resync ≡ false
    pub begins : same_ask (ask_of request) ask.CommitConfirmed ≡ true → HoldsRunning u s
    pub owner : (same_ask (ask_of request) ask.CommitConfirmed || same_ask (ask_of request) ask.Renew) ≡ true
        → owner_of s.locks Candidate ≡ Some u
    pub timed : TimedFor request

module _ {Config TheEdit Node : Type 0} (m : Meaning Config TheEdit Node) (laws : Laws m) (tables : TablesState TheEdit)
    (s : DeviceState Config Node) (n : IsNumbered s) (plans : List ChangePlan) (g : IsGuarded plans s) (u : ℕ)
    (managed : is_manager (user_of s.sessions u) ≡ true) (h : Happened Config Node) where
  abbrev Owner : DeviceState Config Node → Type 0
  Owner now = owner_of now.locks Candidate ≡ Some u

  -- so it stands still, and who owned candidate or locked it now owns it
  pub record StandsSo (request : Request) (reply : Reply) : Type 0 where
    pub guarded : IsGuarded plans h.after
    pub owner : (held : Bool) → (held ≡ true → Owner s) → is_open h.after.sessions u ≡ true
        → owns_by held (ask_of request) reply ≡ true → Owner h.after

  kept_so : (request : Request) (reply : Reply) → IsGuarded plans h.after
      → owner_of h.after.locks Candidate ≡ owner_of s.locks Candidate
      → ((held : Bool) → owns_by held (ask_of request) reply ≡ true → held ≡ true) → StandsSo request reply
  kept_so request reply guarded same own = record { guarded = guarded; owner = λ held owned opened e. same ∙ owned (own held e) }

  same_so : (request : Request) (reply : Reply) → h.after ≡ s → ((held : Bool) → owns_by held (ask_of request) reply ≡ true → held ≡ true)
      → StandsSo request reply
  same_so request reply e own =
      kept_so request reply (subst (IsGuarded plans) (sym e) g) (ap (λ d. owner_of d.locks Candidate) e) own

  -- what waits, of a device that differs by less
  of_pending : (now : DeviceState Config Node) → ((p : PendingState Config) → s.pending ≡ Some p → IsApart s p → IsApart now p)
      → IfSome s.pending (λ p. names_reserved p.token ≡ true → IsApart now p)
  of_pending now step = by_pending s.pending refl
    where
      by_pending : (pending : Option (PendingState Config)) → s.pending ≡ pending
          → IfSome pending (λ p. names_reserved p.token ≡ true → IsApart now p)
      by_pending None is = tt
      by_pending (Some p) is = λ named. step p is (before m tables s n plans g p is named)

  with_stores_so : (stores : StoresState Config) → IsGuarded plans (with_stores s stores)
  with_stores_so stores = record {
    apart = of_pending (with_stores s stores)
        (λ p is a. record { whole = a.whole; lock = a.lock; owner = a.owner; managed = a.managed });
    timed = g.timed;
  }

  -- ---- locks

  running_so : IsDone m tables s u (Lock Running) h → StandsSo (Lock Running) Done
  running_so d =
      let t : TakesRunning u s h.after = takes_running m tables s u h d in
      kept_so (Lock Running) Done
      (subst (IsGuarded plans) (sym t.after) (record { apart = of_pending (with_lock s Running u) (taken t); timed = g.timed }))
      (ap (λ x. owner_of x.locks Candidate) t.after) (λ held e. e)
    where
      author_u : TakesRunning u s h.after → (p : PendingState Config) → s.pending ≡ Some p → (b : Bool) → is_author p u ≡ b
          → is_author p u ≡ true
      author_u t p is true e = e
      author_u t p is false e = absurd (none-some p (sym (t.alone (ap (λ o. has_author o u) is ∙ e)) ∙ is))

      taken : TakesRunning u s h.after → (p : PendingState Config) → s.pending ≡ Some p → IsApart s p → IsApart (with_lock s Running u) p
      taken t p is a = record {
        whole = a.whole;
        lock = λ owner e. subst (λ o. is_author p o ≡ true) (same_Some u owner e) (author_u t p is (is_author p u) refl);
        owner = a.owner;
        managed = a.managed;
      }

  candidate_so : IsDone m tables s u (Lock Candidate) h → StandsSo (Lock Candidate) Done
  candidate_so d =
      let t : TakesCandidate u s h.after = takes_candidate m tables s u h d in
      record {
        guarded =
            subst (IsGuarded plans) (sym t.after)
            (record {
              apart = of_pending (with_lock s Candidate u)
                  (λ p is a. record {
                    whole = a.whole;
                    lock = a.lock;
                    owner = λ author by opened. absurd (none-some author (sym t.was_free ∙ a.owner author by opened));
                    managed = a.managed;
                  });
              timed = g.timed;
            });
        owner = λ held owned opened e. ap (λ x. owner_of x.locks Candidate) t.after;
      }

  -- ---- candidate

  edit_so : (number : EditNo) (operation : DefaultOperation) (marks : Option Marks)
      → IsDone m tables s u (Edit number operation marks) h → StandsSo (Edit number operation marks) Done
  edit_so number operation marks d =
      let ed : EditsCandidate m tables u number.0 operation marks s h.after = edits m tables s u number operation marks h d in
      kept_so (Edit number operation marks) Done (subst (IsGuarded plans) (sym ed.after) (with_stores_so _))
      (ap (λ x. owner_of x.locks Candidate) ed.after) (λ held e. e)

  discard_so : IsDone m tables s u Discard h → StandsSo Discard Done
  discard_so d =
      let di : Discards u s h.after = discards m tables s u h d in
      kept_so Discard Done (subst (IsGuarded plans) (sym di.after) (with_stores_so _)) (ap (λ x. owner_of x.locks Candidate) di.after)
      (λ held e. e)

  -- ---- commits

  module _ (timeout : Option ℕ) (given : List ℕ) where
    abbrev form : CommitForm
    form = record { confirmed = true; timeout = timeout; persist = Some given; persist_id = None }

    waits_by : (refusal : Option Tag) → commit_tag m s u form ≡ refusal
        → step_done (commit_from m s u refusal true (Some given) (deadline_of s.clock timeout)).reply ≡ true → is_zero timeout ≡ false
    waits_by (Some tag) e d = let f : false ≡ true = d in cc
    waits_by None e d =
        let locks : Option Tag = or_else (pending_refusal s.pending u form.persist_id) (refused_if (is_locked_out s u) InUse) in
        let tests = (neither (commit_refusal s u form) (candidate_refusal m s u s.stores.candidate) e).0 in
        let named = (neither (refused_if ((names_reserved form.persist || names_reserved form.persist_id)
        && not (is_manager (user_of s.sessions u))) AccessDenied) (or_else (refused_if (true && is_zero timeout) InvalidValue) locks) tests).1 in
        not_refused (true && is_zero timeout) InvalidValue (neither (refused_if (true && is_zero timeout) InvalidValue) locks named).0

    -- a confirmed commit that is done waits a second at least
    waits_long : IsDone m tables s u (Commit true timeout (Some given) None) h → is_zero timeout ≡ false
    waits_long d =
        let does = (is_asked m tables s u (Commit true timeout (Some given) None) h d.happens).does in
        waits_by (commit_tag m s u form) refl (ap (λ (one : Happened Config Node). is_done_reply one.reply) does ∙ d.done)

    begin_so : IsDecent plans u s (Commit true timeout (Some given) None) → IsDone m tables s u (Commit true timeout (Some given) None) h
        → StandsSo (Commit true timeout (Some given) None) Done
    begin_so decent d =
        let held : HoldsRunning u s = decent.begins refl in
        let b : Begins m u timeout given s h.after = begins m laws tables s u timeout given h held.free d in
        kept_so (Commit true timeout (Some given) None) Done
        (subst (IsGuarded plans) (sym b.after)
        (record {
          apart = λ named. record {
            whole = ap (map (without_absent m (candidate_of s.stores))) held.whole;
            lock = λ owner e. own_author u owner (same_Some u owner (sym held.owner ∙ e));
            owner = λ author by opened. decent.owner refl ∙ ap Some (one_author u author by);
            managed = λ author by opened. ap (λ t. is_manager (user_of s.sessions t)) (sym (one_author u author by)) ∙ managed;
          };
          timed = λ place plan planned waits. ap is_zero (sym (decent.timed place plan planned waits)) ∙ waits_long d;
        }))
        (ap (λ x. owner_of x.locks Candidate) b.after) (λ held e. e)

  module _ (timeout : Option ℕ) (token : List ℕ) where
    renewed_by : (p : PendingState Config) → IsApart s p → Owner s → (now : DeviceState Config Node) → (deadline : ℕ)
        → now.partials.locks ≡ [] → now.locks ≡ s.locks → now.sessions ≡ s.sessions → IsApart now (followed p u None deadline)
    renewed_by p a owned now deadline whole locks sessions = record {
      whole = whole;
      lock = λ owner e.
          author_followed p u None deadline owner
          ∙ first_true (is_author p owner) (u == owner) (a.lock owner (sym (ap (λ l. owner_of l Running) locks) ∙ e));
      owner = λ author by opened.
          ap (λ l. owner_of l Candidate) locks
          ∙ own_or author (is_author p author) refl (sym (author_followed p u None deadline author) ∙ by)
          (sym (ap (λ q. is_open q author) sessions) ∙ opened);
      managed = λ author by opened.
          ap (λ q. is_manager (user_of q author)) sessions
          ∙ ours author (is_author p author) refl (sym (author_followed p u None deadline author) ∙ by)
          (sym (ap (λ q. is_open q author) sessions) ∙ opened);
    }
      where
        own_or : (author : ℕ) (b : Bool) → is_author p author ≡ b → (is_author p author || (u == author)) ≡ true
            → is_open s.sessions author ≡ true → owner_of s.locks Candidate ≡ Some author
        own_or author true e by opened = a.owner author e opened
        own_or author false e by opened = owned ∙ ap Some (same_nat u author (sym (ap (λ c. c || (u == author)) e) ∙ by))

        ours : (author : ℕ) (b : Bool) → is_author p author ≡ b → (is_author p author || (u == author)) ≡ true
            → is_open s.sessions author ≡ true → is_manager (user_of s.sessions author) ≡ true
        ours author true e by opened = a.managed author e opened
        ours author false e by opened =
            ap (λ t. is_manager (user_of s.sessions t)) (sym (same_nat u author (sym (ap (λ c. c || (u == author)) e) ∙ by))) ∙ managed

    renew_so : IsDecent plans u s (Commit true timeout None (Some token)) → IsDone m tables s u (Commit true timeout None (Some token)) h
        → StandsSo (Commit true timeout None (Some token)) Done
    renew_so decent d =
        let r : Renews m u timeout token s h.after = renews m laws tables s u timeout token h d in
        kept_so (Commit true timeout None (Some token)) Done
        (subst (IsGuarded plans) (sym r.commits.after)
        (record {
          apart = λ named.
              let a : IsApart s r.p = before m tables s n plans g r.p r.waits named in
              renewed_by r.p a (decent.owner refl) _ (deadline_of s.clock timeout)
              (ap (map (without_absent m (candidate_of s.stores))) a.whole) refl refl;
          timed = λ place plan planned waits. g.timed place plan planned (ap (waits_under (token_of (suc place))) r.waits ∙ waits);
        }))
        (ap (λ x. owner_of x.locks Candidate) r.commits.after) (λ held e. e)

    confirm_so : IsDone m tables s u (Commit false timeout None (Some token)) h → StandsSo (Commit false timeout None (Some token)) Done
    confirm_so d =
        let c : Confirms m u token s h.after = confirms m laws tables s u timeout token h d in
        kept_so (Commit false timeout None (Some token)) Done
        (subst (IsGuarded plans) (sym c.commits.after)
        (record { apart = tt; timed = λ place plan planned waits. absurd (let f : false ≡ true = waits in cc) }))
        (ap (λ x. owner_of x.locks Candidate) c.commits.after) (λ held e. e)

    cancel_so : IsDone m tables s u (CancelCommit (Some token)) h → StandsSo (CancelCommit (Some token)) Done
    cancel_so d =
        let c : Cancels m u token s h.after = cancels m laws tables s u token h d in
        kept_so (CancelCommit (Some token)) Done
        (subst (IsGuarded plans) (sym c.after)
        (record { apart = tt; timed = λ place plan planned waits. absurd (let f : false ≡ true = waits in cc) }))
        (ap (λ x. owner_of x.locks Candidate) c.after) (λ held e. e)

  close_so : (happens : Happens m tables s (Asked u CloseSession) h) → IsDone m tables s u CloseSession h → StandsSo CloseSession Done
  close_so happens d = record {
    guarded = closed_guarded m tables s n plans g u CloseSession h happens refl d;
    owner = λ held owned opened e. absurd (let f : false ≡ true = sym (closes m tables s u h d).closed ∙ opened in cc);
  }

  -- ---- whichever it is

  -- what isn't the manager's
  stranger : (T : Type 0) → true ≡ false → T
  stranger T e = absurd (cc)

  done_so : (request : Request) → IsDecent plans u s request → IsDone m tables s u request h
      → (same_ask (ask_of request) ask.OpenSession || same_ask (ask_of request) ask.HasMark) ≡ false → StandsSo request Done
  done_so (Lock Running) decent d plain = running_so d
  done_so (Lock Candidate) decent d plain = candidate_so d
  done_so (Edit number operation marks) decent d plain = edit_so number operation marks d
  done_so Validate decent d plain = same_so Validate Done (validates m tables s u h d).after (λ held e. e)
  done_so Discard decent d plain = discard_so d
  done_so (Commit true timeout (Some given) None) decent d plain = begin_so timeout given decent d
  done_so (Commit true timeout None (Some token)) decent d plain = renew_so timeout token decent d
  done_so (Commit false timeout None (Some token)) decent d plain = confirm_so timeout token d
  done_so (CancelCommit (Some token)) decent d plain = cancel_so None token d
  done_so CloseSession decent d plain = close_so d.happens d
  done_so (OpenSession user) decent d plain = stranger (StandsSo (OpenSession user) Done) plain
  done_so (HasMark mark) decent d plain = stranger (StandsSo (HasMark mark) Done) plain
  done_so (Commit true timeout None None) decent d plain = stranger (StandsSo (Commit true timeout None None) Done) decent.known
  done_so (Commit true timeout (Some given) (Some token)) decent d plain =
      stranger (StandsSo (Commit true timeout (Some given) (Some token)) Done) decent.known
  done_so (Commit false timeout None None) decent d plain = stranger (StandsSo (Commit false timeout None None) Done) decent.known
  done_so (Commit false timeout (Some given) None) decent d plain =
      stranger (StandsSo (Commit false timeout (Some given) None) Done) decent.known
  done_so (Commit false timeout (Some given) (Some token)) decent d plain =
      stranger (StandsSo (Commit false timeout (Some given) (Some token)) Done) decent.known
  done_so (CancelCommit None) decent d plain = stranger (StandsSo (CancelCommit None) Done) decent.known
  done_so (Unlock store) decent d plain = stranger (StandsSo (Unlock store) Done) decent.known
  done_so (PartialLock select) decent d plain = stranger (StandsSo (PartialLock select) Done) decent.known
  done_so (PartialUnlock id) decent d plain = stranger (StandsSo (PartialUnlock id) Done) decent.known
  done_so GetConfig decent d plain = stranger (StandsSo GetConfig Done) decent.known
  done_so (Kill other) decent d plain = stranger (StandsSo (Kill other) Done) decent.known

  -- what isn't Done gives no lock
  other_owns : (held : Bool) (what : Ask) (reply : Reply) → is_done reply ≡ false → owns_by held what reply ≡ true → held ≡ true
  other_owns held what reply e o = grind (arith, nat_tests)

  done_is : (reply : Reply) → is_done reply ≡ true → reply ≡ Done
  done_is reply e = grind (arith, nat_tests)

  module _ (request : Request) (decent : IsDecent plans u s request) (happens : Happens m tables s (Asked u request) h) (reply : Reply)
      (replies : h.reply ≡ Some reply) (answer : is_answer (ask_of request) reply ≡ true) where
    plain_so : (same_ask (ask_of request) ask.OpenSession || same_ask (ask_of request) ask.HasMark) ≡ false → StandsSo request reply
    plain_so plain = by_done (is_done reply) refl
      where
        by_done : (b : Bool) → is_done reply ≡ b → StandsSo request reply
        by_done true e =
            let is : reply ≡ Done = done_is reply e in
            subst (StandsSo request) (sym is)
            (done_so request decent (record { happens = happens; done = ap is_done_reply (replies ∙ ap Some is) }) plain)
        by_done false e =
            same_so request reply
            (refused_same m tables s u request h happens
            (ap is_refused replies
            ∙ other_error (is_done reply) (is_error reply) (answers_two (ask_of request) reply answer plain) e))
            (λ held o. other_owns held (ask_of request) reply e o)

    -- a session and a mark: nothing changes
    quiet_so : (request : Request) → Happens m tables s (Asked u request) h
        → (same_ask (ask_of request) ask.OpenSession || same_ask (ask_of request) ask.HasMark) ≡ true → h.after ≡ s
    quiet_so (OpenSession user) happens e = sym (ap (λ one. one.after) (is_asked m tables s u (OpenSession user) h happens).does)
    quiet_so (HasMark mark) happens e = (tells_mark m tables s u mark h happens).after
    quiet_so (Lock Running) happens e = absurd (let f : false ≡ true = e in cc)
    quiet_so (Lock Candidate) happens e = absurd (let f : false ≡ true = e in cc)
    quiet_so (Edit number operation marks) happens e = absurd (let f : false ≡ true = e in cc)
    quiet_so Validate happens e = absurd (let f : false ≡ true = e in cc)
    quiet_so (Commit true timeout None None) happens e = absurd (let f : false ≡ true = e in cc)
    quiet_so (Commit true timeout None (Some token)) happens e = absurd (let f : false ≡ true = e in cc)
    quiet_so (Commit true timeout (Some given) None) happens e = absurd (let f : false ≡ true = e in cc)
    quiet_so (Commit true timeout (Some given) (Some token)) happens e = absurd (let f : false ≡ true = e in cc)
    quiet_so (Commit false timeout None None) happens e = absurd (let f : false ≡ true = e in cc)
    quiet_so (Commit false timeout None (Some token)) happens e = absurd (let f : false ≡ true = e in cc)
    quiet_so (Commit false timeout (Some given) None) happens e = absurd (let f : false ≡ true = e in cc)
    quiet_so (Commit false timeout (Some given) (Some token)) happens e = absurd (let f : false ≡ true = e in cc)
    quiet_so (CancelCommit None) happens e = absurd (let f : false ≡ true = e in cc)
    quiet_so (CancelCommit (Some token)) happens e = absurd (let f : false ≡ true = e in cc)
    quiet_so Discard happens e = absurd (let f : false ≡ true = e in cc)
    quiet_so CloseSession happens e = absurd (let f : false ≡ true = e in cc)
    quiet_so (Unlock store) happens e = absurd (let f : false ≡ true = e in cc)
    quiet_so (PartialLock select) happens e = absurd (let f : false ≡ true = e in cc)
    quiet_so (PartialUnlock id) happens e = absurd (let f : false ≡ true = e in cc)
    quiet_so GetConfig happens e = absurd (let f : false ≡ true = e in cc)
    quiet_so (Kill other) happens e = absurd (let f : false ≡ true = e in cc)

    -- it gives no lock, whatever is answered
    quiet_owns : (held : Bool) (what : Ask) (reply : Reply) → (same_ask what ask.OpenSession || same_ask what ask.HasMark) ≡ true
        → owns_by held what reply ≡ true → held ≡ true
    quiet_owns held what reply e o = grind (arith, nat_tests)

    pub own_so : StandsSo request reply
    own_so = by_kind (same_ask (ask_of request) ask.OpenSession || same_ask (ask_of request) ask.HasMark) refl
      where
        by_kind : (b : Bool) → (same_ask (ask_of request) ask.OpenSession || same_ask (ask_of request) ask.HasMark) ≡ b
            → StandsSo request reply
        by_kind false e = plain_so e
        by_kind true e = same_so request reply (quiet_so request happens e) (λ held o. quiet_owns held (ask_of request) reply e o)
