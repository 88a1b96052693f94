-- What each event that doesn't touch the device keeps of the first link.
use Rattle.std.proofs.Common.{◌≡◌, ◌≤◌, ◌∙◌, ℕ, ◌+◌, true, List, Some, None, refl, sym, ap, arith}
use Rattle.nm_proto.specs.declared.ask.Ask.{Ask}
use Rattle.nm_proto.specs.declared.ask.Ask.TheVariants as ask
use Rattle.nm_proto.specs.declared.message.Request.{Request}
use Rattle.nm_history.specs.History.{RecordedState}
use Rattle.nm_wire.specs.declared.link.Exchange.{Exchange}
use Rattle.nm_wire.specs.declared.link.Way.TheVariants.{Told}
use Rattle.nm_wire.specs.Asks.{ask_of}
use Rattle.nm_wire.specs.Link.{LinkState, is_quiet_way, sent_on, handled_on, closed_link}
use Rattle.nm_wire.specs.Words.{commits_sent, commit_count, holds}
use Rattle.nm_safety.specs.Pair.{FirstLink, asked_ask, undelivered}
use Rattle.nm_safety.proofs.Links.{DidAsMuch, did_sent_on, did_handled, sent_handled_on, did_closed, commits_after, undelivered_now, none_left, none_undelivered, none_asked}

module _ {Config Node : Type 0} (token : List ℕ) (r : RecordedState Config Node) where
  -- nothing was done or sent, and no more is on its way
  first_same : (before after : LinkState) → DidAsMuch before after → commits_sent after ≡ commits_sent before → undelivered after ≤ undelivered before
      → ((what : Ask) → asked_ask after ≡ Some what → asked_ask before ≡ Some what) → FirstLink token before r → FirstLink token after r
  first_same before after did sent less asks first = record {
    count = let c = first.count in omega (arith, sent, less, c);
    once = let c = first.once in omega (arith, sent, c);
    told = λ h. first.told (sym did.done ∙ h);
    held = λ h session e. first.held (sym did.held ∙ h) session (sym did.session ∙ e);
    unheld = λ e. did.held ∙ first.unheld (sym did.session ∙ e);
    asked = λ e. did.held ∙ first.asked (asks ask.CommitConfirmed e);
    author = λ session e h. let c = first.author session (sym did.session ∙ e) h in omega (arith, sent, c);
    locking = λ e. sent ∙ first.locking (asks ask.LockRunning e);
  }

  pub first_closed : (link : LinkState) → FirstLink token link r → FirstLink token (closed_link link) r
  first_closed link first = first_same link (closed_link link) (did_closed link) refl (omega arith) (λ what e. e) first

  pub first_handled : (link : LinkState) (exchange : Exchange) → link.way ≡ Told exchange → FirstLink token link r → FirstLink token (handled_on link) r
  first_handled link exchange way first =
      let none : undelivered (handled_on link) ≡ 0 = none_undelivered (handled_on link) (none_left link exchange way) in
      first_same link (handled_on link) (did_handled link) (sent_handled_on link).commits (omega (arith, none))
      (λ what e. absurd (let g : None ≡ Some what = none_asked (handled_on link) what (none_left link exchange way) e in cc)) first

  -- a request goes out. The confirmed commit does where none was sent and running is locked, the lock where none was sent
  pub first_sent : (link : LinkState) (request : Request) → is_quiet_way link.way ≡ true → (ask_of request ≡ ask.CommitConfirmed → (commits_sent link ≡ 0))
      → (ask_of request ≡ ask.CommitConfirmed → holds link ≡ true) → (ask_of request ≡ ask.LockRunning → commits_sent link ≡ 0)
      → FirstLink token link r → FirstLink token (sent_on request link) r
  first_sent link request quiet unsent locked locking first =
      let did : DidAsMuch link (sent_on request link) = did_sent_on request link quiet in
      let sent : commits_sent (sent_on request link) ≡ commits_sent link + commit_count (ask_of request) = commits_after request link quiet in
      let less : undelivered (sent_on request link) ≤ commit_count (ask_of request) = undelivered_now request link in
      record {
        count = let c = first.count in omega (arith, sent, less, c);
        once = sent_once (ask_of request) (commits_sent link) unsent first.once sent;
        told = λ h. first.told (sym did.done ∙ h);
        held = λ h session e. first.held (sym did.held ∙ h) session (sym did.session ∙ e);
        unheld = λ e. did.held ∙ first.unheld (sym did.session ∙ e);
        asked = λ e. did.held ∙ locked (let g : Some (ask_of request) ≡ Some ask.CommitConfirmed = e in cc);
        author = λ session e h. let c = first.author session (sym did.session ∙ e) h in omega (arith, sent, c);
        locking = λ e. lock_sent (ask_of request) (commits_sent link) (let g : Some (ask_of request) ≡ Some ask.LockRunning = e in cc) locking sent;
      }
    where
      sent_once : (what : Ask) (n : ℕ) → (what ≡ ask.CommitConfirmed → n ≡ 0) → n ≤ 1 → commits_sent (sent_on request link) ≡ n + commit_count what → commits_sent (sent_on request link) ≤ 1
      sent_once ask.CommitConfirmed n unsent once e = let z : n ≡ 0 = unsent refl in omega (arith, e, z)
      sent_once ask.OpenSession n unsent once e = omega (arith, e, once)
      sent_once ask.LockRunning n unsent once e = omega (arith, e, once)
      sent_once ask.LockCandidate n unsent once e = omega (arith, e, once)
      sent_once ask.Edit n unsent once e = omega (arith, e, once)
      sent_once ask.Validate n unsent once e = omega (arith, e, once)
      sent_once ask.Renew n unsent once e = omega (arith, e, once)
      sent_once ask.Confirm n unsent once e = omega (arith, e, once)
      sent_once ask.Cancel n unsent once e = omega (arith, e, once)
      sent_once ask.HasMark n unsent once e = omega (arith, e, once)
      sent_once ask.Discard n unsent once e = omega (arith, e, once)
      sent_once ask.CloseSession n unsent once e = omega (arith, e, once)
      sent_once ask.Resync n unsent once e = omega (arith, e, once)

      lock_sent : (what : Ask) (n : ℕ) → what ≡ ask.LockRunning → (what ≡ ask.LockRunning → n ≡ 0) → commits_sent (sent_on request link) ≡ n + commit_count what → commits_sent (sent_on request link) ≡ 0
      lock_sent what n is locking e =
          let z : n ≡ 0 = locking is in
          let c : commit_count what ≡ 0 = ap commit_count is in
          omega (arith, e, z, c)
