-- How candidate stands for a session once its own request is answered.
use Rattle.std.proofs.Common.{◌≡◌, ◌∙◌, ℕ, ◌≤◌, Bool, true, false, ◌||◌, min, List, Option, Some, None, refl, sym, ap, subst, arith}
use Rattle.std.proofs.lemmas.Bool.Decides.{nat_tests}
use Rattle.nm_base.specs.declared.number.EditNo.{EditNo}
use Rattle.nm_proto.specs.declared.ask.Ask.{Ask}
use Rattle.nm_proto.specs.declared.ask.Ask.TheVariants as ask
use Rattle.nm_proto.specs.declared.message.DefaultOperation.{DefaultOperation}
use Rattle.nm_proto.specs.declared.message.Marks.{Marks}
use Rattle.nm_proto.specs.declared.message.Store.TheVariants.{Running, Candidate}
use Rattle.nm_proto.specs.declared.message.Request.{Request}
use Rattle.nm_proto.specs.declared.message.Request.TheVariants.{OpenSession, Lock, Unlock, PartialLock, PartialUnlock, Edit, Validate, Commit, CancelCommit, Discard, HasMark, GetConfig, Kill, CloseSession}
use Rattle.nm_proto.specs.declared.message.Reply.{Reply}
use Rattle.nm_proto.specs.declared.message.Reply.TheVariants.{Done, Opened, LockId, Mark, Rows, Error}
use Rattle.nm_proto.specs.Content.{Meaning, Laws, TablesState}
use Rattle.nm_locks.specs.Locks.{owner_of}
use Rattle.nm_device.specs.Device.{DeviceState}
use Rattle.nm_device.specs.Table.{is_error}
use Rattle.nm_history.specs.declared.event.DeviceEvent.TheVariants.{Asked}
use Rattle.nm_history.specs.Effect.{is_done_reply}
use Rattle.nm_history.specs.History.{Happened}
use Rattle.nm_device_laws.specs.Moment.{Happens, is_refused}
use Rattle.nm_device_laws.specs.Own.{Cancels, EditsCandidate, TakesCandidate}
use Rattle.nm_device_laws.proofs.Events.{IsDone}
use Rattle.nm_device_laws.proofs.Owns.{cancels, commits, edits, refused_same, takes_candidate, tells_mark, validates}
use Rattle.nm_wire.specs.Asks.{ask_of}
use Rattle.nm_wire.specs.Words.{is_done}
use Rattle.nm_safety.specs.Delivered.{is_answer}
use Rattle.nm_commit_laws.specs.Standing.{committed_by, stands_by}
use Rattle.nm_commit_laws.specs.LeavesSupport.{HoldsCandidate}

abbrev is_mark : Reply → Bool
is_mark (Mark there) = true
is_mark _ = false

-- what is opened tells nothing of candidate
opened_zero : (n : ℕ) (what : Ask) (reply : Reply) → is_answer what reply ≡ true
    → (is_done reply || (is_error reply || is_mark reply)) ≡ false → stands_by n what reply ≡ 0
opened_zero n what reply a o = grind (arith, nat_tests)

own_edit : (n : ℕ) → 1 ≤ min n 1 → 1 ≤ n
own_edit n h = grind (arith, nat_tests)

none_edit : (n : ℕ) → 2 ≤ min n 1 → ⊥
none_edit n h = grind (arith, nat_tests)

own_commit : (n : ℕ) → 1 ≤ committed_by n → 1 ≤ n
own_commit n h = grind (arith, nat_tests)

module _ {Config TheEdit Node : Type 0} (m : Meaning Config TheEdit Node) (laws : Laws m) (tables : TablesState TheEdit)
    (s : DeviceState Config Node) (u : ℕ) (h : Happened Config Node) (n : ℕ) (p : HoldsCandidate n u s) where
  abbrev Now : ℕ → Type 0
  Now k = HoldsCandidate k u h.after

  none : Now 0
  none = record { owner = λ l. absurd (omega (arith, l)); unmodified = λ l. absurd (omega (arith, l)) }

  same : h.after ≡ s → Now n
  same e = subst (λ d. HoldsCandidate n u d) (sym e) p

  -- ---- what is done

  candidate_by : IsDone m tables s u (Lock Candidate) h → Now 2
  candidate_by d =
      let t : TakesCandidate u s h.after = takes_candidate m tables s u h d in
      record {
        owner = λ one. ap (λ x. owner_of x.locks Candidate) t.after;
        unmodified = λ two. ap (λ x. x.stores.candidate) t.after ∙ t.unmodified;
      }

  edit_by : (number : EditNo) (operation : DefaultOperation) (marks : Option Marks)
      → IsDone m tables s u (Edit number operation marks) h → Now (min n 1)
  edit_by number operation marks d =
      let ed : EditsCandidate m tables u number.0 operation marks s h.after = edits m tables s u number operation marks h d in
      record {
        owner = λ one. ap (λ x. owner_of x.locks Candidate) ed.after ∙ p.owner (own_edit n one);
        unmodified = λ two. absurd (none_edit n two);
      }

  commit_by : (confirmed : Bool) (timeout : Option ℕ) (persist persist_id : Option (List ℕ))
      → IsDone m tables s u (Commit confirmed timeout persist persist_id) h → Now (committed_by n)
  commit_by confirmed timeout persist persist_id d =
      let c = commits m laws tables s u confirmed timeout persist persist_id h d in
      record {
        owner = λ one. ap (λ x. owner_of x.locks Candidate) c.after ∙ p.owner (own_commit n one);
        unmodified = λ two. ap (λ x. x.stores.candidate) c.after;
      }

  cancel_by : (token : List ℕ) → IsDone m tables s u (CancelCommit (Some token)) h → Now n
  cancel_by token d =
      let c : Cancels m u token s h.after = cancels m laws tables s u token h d in
      record {
        owner = λ one. ap (λ x. owner_of x.locks Candidate) c.after ∙ p.owner one;
        unmodified = λ two. ap (λ x. x.stores.candidate) c.after ∙ p.unmodified two;
      }

  done_by : (request : Request) → IsDone m tables s u request h → Now (stands_by n (ask_of request) Done)
  done_by (Lock Running) d = none
  done_by (Lock Candidate) d = candidate_by d
  done_by (Edit number operation marks) d = edit_by number operation marks d
  done_by Validate d = same (validates m tables s u h d).after
  done_by (Commit true timeout (Some given) None) d = commit_by true timeout (Some given) None d
  done_by (Commit true timeout None (Some token)) d = commit_by true timeout None (Some token) d
  done_by (Commit false timeout None (Some token)) d = commit_by false timeout None (Some token) d
  done_by (Commit true timeout None None) d = none
  done_by (Commit true timeout (Some given) (Some token)) d = none
  done_by (Commit false timeout None None) d = none
  done_by (Commit false timeout (Some given) None) d = none
  done_by (Commit false timeout (Some given) (Some token)) d = none
  done_by (CancelCommit None) d = none
  done_by (CancelCommit (Some token)) d = cancel_by token d
  done_by (OpenSession user) d = none
  done_by (Unlock store) d = none
  done_by (PartialLock select) d = none
  done_by (PartialUnlock id) d = none
  done_by Discard d = none
  done_by (HasMark mark) d = same (tells_mark m tables s u mark h d.happens).after
  done_by GetConfig d = none
  done_by (Kill other) d = none
  done_by CloseSession d = none

  -- ---- whatever is answered

  refused_by : (what : Ask) (reply : Reply) → is_error reply ≡ true → Now n → Now (stands_by n what reply)
  refused_by what (Error tag session path) e now = by_ask what
    where
      by_ask : (what : Ask) → Now (stands_by n what (Error tag session path))
      by_ask ask.LockCandidate = now
      by_ask ask.Edit = now
      by_ask ask.Validate = now
      by_ask ask.CommitConfirmed = now
      by_ask ask.Renew = now
      by_ask ask.Confirm = now
      by_ask ask.Cancel = now
      by_ask ask.HasMark = now
      by_ask ask.OpenSession = none
      by_ask ask.LockRunning = none
      by_ask ask.Discard = none
      by_ask ask.CloseSession = none
      by_ask ask.Resync = none
  refused_by what Done e now = absurd (let g : false ≡ true = e in cc)
  refused_by what (Opened id) e now = absurd (let g : false ≡ true = e in cc)
  refused_by what (LockId id) e now = absurd (let g : false ≡ true = e in cc)
  refused_by what (Mark mark) e now = absurd (let g : false ≡ true = e in cc)
  refused_by what (Rows count) e now = absurd (let g : false ≡ true = e in cc)

  opened_by : (what : Ask) (reply : Reply) → is_answer what reply ≡ true
      → (is_done reply || (is_error reply || is_mark reply)) ≡ false → Now (stands_by n what reply)
  opened_by what reply a o = subst Now (sym (opened_zero n what reply a o)) none

  module _ (request : Request) (happens : Happens m tables s (Asked u request) h) where
    marked_by : (request : Request) (there : Bool) → Happens m tables s (Asked u request) h
        → is_answer (ask_of request) (Mark there) ≡ true → Now (stands_by n (ask_of request) (Mark there))
    marked_by (HasMark mark) there happens a = same (tells_mark m tables s u mark h happens).after
    marked_by (Lock Running) there happens a = none
    marked_by (Lock Candidate) there happens a = absurd (let g : false ≡ true = a in cc)
    marked_by (Edit number operation marks) there happens a = absurd (let g : false ≡ true = a in cc)
    marked_by Validate there happens a = absurd (let g : false ≡ true = a in cc)
    marked_by (Commit true timeout (Some given) None) there happens a = absurd (let g : false ≡ true = a in cc)
    marked_by (Commit true timeout None (Some token)) there happens a = absurd (let g : false ≡ true = a in cc)
    marked_by (Commit false timeout None (Some token)) there happens a = absurd (let g : false ≡ true = a in cc)
    marked_by (Commit true timeout None None) there happens a = none
    marked_by (Commit true timeout (Some given) (Some token)) there happens a = none
    marked_by (Commit false timeout None None) there happens a = none
    marked_by (Commit false timeout (Some given) None) there happens a = none
    marked_by (Commit false timeout (Some given) (Some token)) there happens a = none
    marked_by (CancelCommit None) there happens a = none
    marked_by (CancelCommit (Some token)) there happens a = absurd (let g : false ≡ true = a in cc)
    marked_by (OpenSession user) there happens a = none
    marked_by (Unlock store) there happens a = none
    marked_by (PartialLock select) there happens a = none
    marked_by (PartialUnlock id) there happens a = none
    marked_by Discard there happens a = none
    marked_by GetConfig there happens a = none
    marked_by (Kill other) there happens a = none
    marked_by CloseSession there happens a = none

    pub told_holds : (reply : Reply) → h.reply ≡ Some reply → is_answer (ask_of request) reply ≡ true
        → Now (stands_by n (ask_of request) reply)
    told_holds Done told a = done_by request (record { happens = happens; done = ap is_done_reply told })
    told_holds (Error tag session path) told a =
        refused_by (ask_of request) (Error tag session path) refl
        (same (refused_same m tables s u request h happens (ap is_refused told)))
    told_holds (Mark mark) told a = marked_by request mark happens a
    told_holds (Opened id) told a = opened_by (ask_of request) (Opened id) a refl
    told_holds (LockId id) told a = opened_by (ask_of request) (LockId id) a refl
    told_holds (Rows count) told a = opened_by (ask_of request) (Rows count) a refl
