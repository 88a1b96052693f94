-- What a session has of the device once its own request is answered.
use Rattle.std.proofs.Common.{◌≡◌, ◌∙◌, ℕ, ◌≤◌, ◌==◌, Bool, true, false, ◌||◌, List, Option, Some, None, refl, sym, ap, subst, arith, if◌then◌else◌}
use Rattle.std.proofs.lemmas.Bool.Decides.{nat_tests}
use Rattle.std.proofs.lemmas.Option.{none-some}
use Rattle.nm_base.specs.declared.number.EditNo.{EditNo}
use Rattle.nm_proto.specs.declared.ask.Ask.{Ask}
use Rattle.nm_proto.specs.declared.ask.Ask.TheVariants as ask
use Rattle.nm_proto.specs.declared.message.DefaultOperation.{DefaultOperation}
use Rattle.nm_proto.specs.declared.message.Marks.{Marks}
use Rattle.nm_proto.specs.declared.message.Store.TheVariants.{Running, Candidate}
use Rattle.nm_proto.specs.declared.message.Request.{Request}
use Rattle.nm_proto.specs.declared.message.Request.TheVariants.{OpenSession, Lock, Unlock, PartialLock, PartialUnlock, Edit, Validate, Commit, CancelCommit, Discard, HasMark, GetConfig, Kill, CloseSession}
use Rattle.nm_proto.specs.declared.message.Reply.{Reply}
use Rattle.nm_proto.specs.declared.message.Reply.TheVariants.{Done, Opened, LockId, Mark, Rows, Error}
use Rattle.nm_proto.specs.declared.journal.Entry.{Entry}
use Rattle.nm_proto.specs.Content.{Meaning, Laws}
use Rattle.nm_locks.specs.Locks.{owner_of}
use Rattle.nm_device.specs.Device.{DeviceState}
use Rattle.nm_device.specs.Table.{is_error}
use Rattle.nm_history.specs.declared.event.DeviceEvent.TheVariants.{Asked}
use Rattle.nm_history.specs.Effect.{is_done_reply}
use Rattle.nm_history.specs.History.{Happened}
use Rattle.nm_device_laws.specs.Moment.{Happens, is_refused}
use Rattle.nm_device_laws.specs.Own.{EditsCandidate, Renews, TakesCandidate}
use Rattle.nm_device_laws.proofs.Events.{IsDone}
use Rattle.nm_device_laws.proofs.Owns.{edits, refused_same, renews, takes_candidate, validates}
use Rattle.nm_wire.specs.Asks.{ask_of}
use Rattle.nm_wire.specs.Words.{is_done}
use Rattle.nm_safety.specs.Delivered.{is_answer}
use Rattle.nm_safety.specs.Pair.{HoldsRunning}
use Rattle.nm_world.specs.World.{Setting}
use Rattle.nm_commit_laws.specs.Brings.{Brings, IsOwnEdit}
use Rattle.nm_commit_laws.specs.Course.{steps_by}
use Rattle.nm_commit_laws.specs.BringsSupport.{EditsOwn, IsPrepared}
use Rattle.nm_commit_laws.proofs.brings.Others.{is_two, two_one}

-- any other answer leads away
odd_zero : (n : ℕ) (what : Ask) (reply : Reply) → is_answer what reply ≡ true → (is_done reply || is_error reply) ≡ false
    → steps_by n what reply ≡ 0
odd_zero n what reply a o = grind (arith, nat_tests)

same_nat : (a b : ℕ) → (a == b) ≡ true → a ≡ b
same_nat a b e = grind (arith, nat_tests)

module _ {Config TheEdit Node : Type 0} (m : Meaning Config TheEdit Node) (laws : Laws m) (setting : Setting TheEdit) (entries : List Entry)
    (change device : ℕ) where
  -- of the first steps nothing is said
  pub few_prepared : (steps session : ℕ) (s : DeviceState Config Node) → steps ≤ 1
      → IsPrepared m setting entries change device steps session s
  few_prepared steps session s few = record {
    owner = λ two. absurd (omega (arith, few, two));
    unmodified = λ e. absurd (omega (arith, few, e));
    edited = λ three. absurd (omega (arith, few, three));
  }

  module _ (s : DeviceState Config Node) (u : ℕ) (h : Happened Config Node) (n : ℕ) (holds : 1 ≤ n → HoldsRunning u s)
      (p : IsPrepared m setting entries change device n u s) where
    abbrev Now : ℕ → Type 0
    Now steps = IsPrepared m setting entries change device steps u h.after

    none : Now 0
    none = few_prepared 0 u h.after (omega arith)

    same : h.after ≡ s → Now n
    same e = subst (λ d. IsPrepared m setting entries change device n u d) (sym e) p

    -- ---- what is done

    candidate_by : IsDone m setting.tables s u (Lock Candidate) h → (b : Bool) → Now (if b then 2 else 0)
    candidate_by d false = none
    candidate_by d true =
        let t : TakesCandidate u s h.after = takes_candidate m setting.tables s u h d in
        record {
          owner = λ two. ap (λ x. owner_of x.locks Candidate) t.after;
          unmodified = λ e. ap (λ x. x.stores.candidate) t.after ∙ t.unmodified;
          edited = λ three. absurd (omega (arith, three));
        }

    edit_by : (number : EditNo) (operation : DefaultOperation) (marks : Option Marks)
        → IsOwnEdit setting.plans entries change device number operation marks → IsDone m setting.tables s u (Edit number operation marks) h
        → (b : Bool) → (n == 2) ≡ b → Now (if b then 3 else 0)
    edit_by number operation marks own d false e = none
    edit_by number operation marks own d true e =
        let two : n ≡ 2 = same_nat n 2 e in
        let ed : EditsCandidate m setting.tables u number.0 operation marks s h.after = edits m setting.tables s u number operation marks h
        d in
        record {
          owner = λ l. ap (λ x. owner_of x.locks Candidate) ed.after ∙ p.owner (is_two n two);
          unmodified = λ f. absurd (omega (arith, f));
          edited = λ l. record {
            config = ed.config;
            candidate = ap (λ x. x.stores.candidate) ed.after;
            brings = subst (λ c. Brings m setting entries change device c ed.config) (sym (ap (λ x. x.stores.running) ed.after))
                (record {
                  number = number;
                  operation = operation;
                  marks = marks;
                  own = own;
                  edit = ed.edit;
                  found = ed.found;
                  makes =
                      ed.edits_running (p.unmodified two);
                });
          };
        }

    -- nothing waits while running is locked
    never_waits : (timeout : Option ℕ) (token : List ℕ) → IsDone m setting.tables s u (Commit true timeout None (Some token)) h → 1 ≤ n → ⊥
    never_waits timeout token d one =
        let r : Renews m u timeout token s h.after = renews m laws setting.tables s u timeout token h d in
        absurd (none-some r.p (sym (holds one).free ∙ r.waits))

    renew_by : (timeout : Option ℕ) (token : List ℕ) → IsDone m setting.tables s u (Commit true timeout None (Some token)) h → Now n
    renew_by timeout token d = record {
      owner = λ two. absurd (never_waits timeout token d (two_one n two));
      unmodified = λ e. absurd (never_waits timeout token d (two_one n (is_two n e)));
      edited = λ three. absurd (never_waits timeout token d (one_of n three));
    }
      where
        one_of : (n : ℕ) → 3 ≤ n → 1 ≤ n
        one_of n h = omega (arith, h)

    done_by : (request : Request) → EditsOwn setting.plans entries change device request → IsDone m setting.tables s u request h
        → Now (steps_by n (ask_of request) Done)
    done_by (Lock Running) own d = few_prepared 1 u h.after (omega arith)
    done_by (Lock Candidate) own d = candidate_by d (n == 1)
    done_by (Edit number operation marks) own d = edit_by number operation marks own d (n == 2) refl
    done_by Validate own d = same (validates m setting.tables s u h d).after
    done_by (Commit true timeout None (Some token)) own d = renew_by timeout token d
    done_by (Commit true timeout None None) own d = none
    done_by (Commit true timeout (Some given) None) own d = none
    done_by (Commit true timeout (Some given) (Some token)) own d = none
    done_by (Commit false timeout None None) own d = none
    done_by (Commit false timeout None (Some token)) own d = none
    done_by (Commit false timeout (Some given) None) own d = none
    done_by (Commit false timeout (Some given) (Some token)) own d = none
    done_by (CancelCommit None) own d = none
    done_by (CancelCommit (Some token)) own d = none
    done_by (OpenSession user) own d = none
    done_by (Unlock store) own d = none
    done_by (PartialLock select) own d = none
    done_by (PartialUnlock id) own d = none
    done_by Discard own d = none
    done_by (HasMark mark) own d = none
    done_by GetConfig own d = none
    done_by (Kill other) own d = none
    done_by CloseSession own d = none

    -- ---- whatever is answered

    refused_by : (what : Ask) (reply : Reply) → is_error reply ≡ true → Now n → Now (steps_by n what reply)
    refused_by what (Error tag session path) e now = by_ask what
      where
        by_ask : (what : Ask) → Now (steps_by n what (Error tag session path))
        by_ask ask.LockRunning = now
        by_ask ask.LockCandidate = now
        by_ask ask.Edit = now
        by_ask ask.Validate = now
        by_ask ask.Renew = now
        by_ask ask.OpenSession = none
        by_ask ask.CommitConfirmed = none
        by_ask ask.Confirm = none
        by_ask ask.Cancel = none
        by_ask ask.HasMark = none
        by_ask ask.Discard = none
        by_ask ask.CloseSession = none
        by_ask ask.Resync = none
    refused_by what Done e now = absurd (let g : false ≡ true = e in cc)
    refused_by what (Opened id) e now = absurd (let g : false ≡ true = e in cc)
    refused_by what (LockId id) e now = absurd (let g : false ≡ true = e in cc)
    refused_by what (Mark mark) e now = absurd (let g : false ≡ true = e in cc)
    refused_by what (Rows count) e now = absurd (let g : false ≡ true = e in cc)

    odd_by : (what : Ask) (reply : Reply) → is_answer what reply ≡ true → (is_done reply || is_error reply) ≡ false
        → Now (steps_by n what reply)
    odd_by what reply a o = subst Now (sym (odd_zero n what reply a o)) none

    module _ (request : Request) (own : EditsOwn setting.plans entries change device request)
        (happens : Happens m setting.tables s (Asked u request) h) where
      pub told_prepared : (reply : Reply) → h.reply ≡ Some reply → is_answer (ask_of request) reply ≡ true
          → Now (steps_by n (ask_of request) reply)
      told_prepared Done told a = done_by request own (record { happens = happens; done = ap is_done_reply told })
      told_prepared (Error tag session path) told a =
          refused_by (ask_of request) (Error tag session path) refl
          (same (refused_same m setting.tables s u request h happens (ap is_refused told)))
      told_prepared (Opened id) told a = odd_by (ask_of request) (Opened id) a refl
      told_prepared (LockId id) told a = odd_by (ask_of request) (LockId id) a refl
      told_prepared (Mark mark) told a = odd_by (ask_of request) (Mark mark) a refl
      told_prepared (Rows count) told a = odd_by (ask_of request) (Rows count) a refl
