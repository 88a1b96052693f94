-- The notices of a legal history are runs, of which the last goes on exactly where a commit is pending.
use Rattle.std.proofs.Common.{◌≡◌, ℕ, ◌+◌, List, [], ◌∷◌, ◌++◌, Bool, true, false, not, ◌&&◌, Option, Some, None, is_some, option_to_list, refl, sym, ap, ◌∙◌}
use Rattle.nm_proto.specs.declared.message.Request.{Request}
use Rattle.nm_proto.specs.declared.message.Request.TheVariants.{OpenSession, Lock, Unlock, PartialLock, PartialUnlock, Edit, Validate, Commit, CancelCommit, Discard, HasMark, GetConfig, Kill, CloseSession}
use Rattle.nm_proto.specs.Content.{Meaning, Laws, TablesState}
use Rattle.nm_device.specs.Device.{DeviceState, fresh_device}
use Rattle.nm_history.specs.declared.event.DeviceEvent.{DeviceEvent}
use Rattle.nm_history.specs.declared.event.DeviceEvent.TheVariants.{Entered, Asked, Lost, Advanced, Restarted}
use Rattle.nm_history.specs.declared.event.Noted.{Noted}
use Rattle.nm_history.specs.declared.outcome.Undoing.{Undoing}
use Rattle.nm_history.specs.declared.outcome.Undoing.TheVariants.{End, Timer, Restart}
use Rattle.nm_history.specs.Effect.{effect_if, effect_of_event, is_done_reply}
use Rattle.nm_history.specs.Effect.Effect.{Undoes}
use Rattle.nm_history.specs.History.{replayed, replay, IsLegal}
use Rattle.nm_notify.specs.declared.notice.ConfirmEvent.{ConfirmEvent}
use Rattle.nm_notify.specs.declared.notice.ConfirmEvent.TheVariants.{Cancel, Timeout}
use Rattle.nm_notify.specs.declared.notice.Notice.{Notice}
use Rattle.nm_notify.specs.Notices.{tells, told_if, told, noticed, pending_after, notices_in}
use Rattle.nm_notify.specs.Replayed.{notices_replayed}
use Rattle.nm_notify.specs.Runs.{goes_on, going_after, AreRuns}
use Rattle.nm_notify.proofs.Pending.{UndoesPending, passes, same_told}

-- what ends a run where it undoes what is pending, and else tells nothing
ended_on : (n : ℕ) (event : ConfirmEvent) (session : Option ℕ) (by : Undoing) (undone was : Bool) (rest : List Notice) → goes_on true event ≡ Some false
    → going_after (Some was) (option_to_list (told_if (was && not (pending_after was (effect_if undone (Undoes by)))) (tells n event session None)) ++ rest)
    ≡ going_after (Some (pending_after was (effect_if undone (Undoes by)))) rest
ended_on n event session by true true rest ends = ap (λ going. going_after going rest) ends
ended_on n event session by true false rest ends = refl
ended_on n event session by false true rest ends = refl
ended_on n event session by false false rest ends = refl

-- what a run becomes by an event that undoes only what is pending
abbrev GoesOn : ℕ → DeviceEvent → Bool → Bool → Bool → List Notice → Type 0
GoesOn n event done undone was rest =
    going_after (Some was) (option_to_list (told n event done was (was && not (pending_after was (effect_of_event event done undone)))) ++ rest)
    ≡ going_after (Some (pending_after was (effect_of_event event done undone))) rest

committed_on : (n session : ℕ) (confirmed : Bool) (timeout : Option ℕ) (persist persist_id : Option (List ℕ)) (done undone was : Bool) (rest : List Notice)
    → GoesOn n (Asked session (Commit confirmed timeout persist persist_id)) done undone was rest
committed_on n session confirmed timeout persist persist_id false undone was rest = refl
committed_on n session true timeout persist persist_id true undone true rest = refl
committed_on n session true timeout persist persist_id true undone false rest = refl
committed_on n session false timeout persist persist_id true undone true rest = refl
committed_on n session false timeout persist persist_id true undone false rest = refl

cancelled_on : (n session : ℕ) (persist_id : Option (List ℕ)) (done undone was : Bool) (rest : List Notice)
    → UndoesPending was (effect_of_event (Asked session (CancelCommit persist_id)) done undone) → GoesOn n (Asked session (CancelCommit persist_id)) done undone was rest
cancelled_on n session persist_id false undone was rest pending = refl
cancelled_on n session persist_id true undone true rest pending = refl
cancelled_on n session persist_id true undone false rest pending = absurd cc

asked_on : (n session : ℕ) (request : Request) (done undone was : Bool) (rest : List Notice) → UndoesPending was (effect_of_event (Asked session request) done undone)
    → GoesOn n (Asked session request) done undone was rest
asked_on n session (Commit confirmed timeout persist persist_id) done undone was rest pending = committed_on n session confirmed timeout persist persist_id done undone was rest
asked_on n session (CancelCommit persist_id) done undone was rest pending = cancelled_on n session persist_id done undone was rest pending
asked_on n session (Kill other) done undone was rest pending = ended_on n Cancel (Some other) End undone was rest refl
asked_on n session CloseSession done undone was rest pending = ended_on n Cancel (Some session) End undone was rest refl
asked_on n session (OpenSession user) done undone was rest pending = refl
asked_on n session (Lock store) done undone was rest pending = refl
asked_on n session (Unlock store) done undone was rest pending = refl
asked_on n session (PartialLock select) done undone was rest pending = refl
asked_on n session (PartialUnlock id) done undone was rest pending = refl
asked_on n session (Edit edit operation marks) done undone was rest pending = refl
asked_on n session Validate done undone was rest pending = refl
asked_on n session Discard done undone was rest pending = refl
asked_on n session (HasMark change) done undone was rest pending = refl
asked_on n session GetConfig done undone was rest pending = refl

goes_so : (n : ℕ) (event : DeviceEvent) (done undone was : Bool) (rest : List Notice) → UndoesPending was (effect_of_event event done undone) → GoesOn n event done undone was rest
goes_so n (Asked session request) done undone was rest pending = asked_on n session request done undone was rest pending
goes_so n (Entered user) done undone was rest pending = refl
goes_so n (Lost session) done undone was rest pending = ended_on n Cancel (Some session) End undone was rest refl
goes_so n (Advanced seconds) done undone was rest pending = ended_on n Timeout None Timer undone was rest refl
goes_so n Restarted done undone was rest pending = ended_on n Cancel None Restart undone was rest refl

module _ {Config TheEdit Node : Type 0} (m : Meaning Config TheEdit Node) (laws : Laws m) (tables : TablesState TheEdit) where
  goes_from : (n : ℕ) (s : DeviceState Config Node) (history : List Noted) → IsLegal m tables s history
      → going_after (Some (is_some s.pending)) (notices_replayed m tables n s history) ≡ Some (is_some (replay m tables s history).pending)
  goes_from n s [] legal = refl
  goes_from n s (entry ∷ history) legal =
      let p = passes m laws tables s entry legal.0 in
      let after = replayed m tables s entry in
      let rest = notices_replayed m tables (n + 1) after history in
      ap (λ now. going_after (Some (is_some s.pending)) (option_to_list (noticed n entry (is_some s.pending) now) ++ rest)) (sym p.now)
      ∙ goes_so n entry.event (is_done_reply entry.reply) entry.undone (is_some s.pending) rest p.undoes
      ∙ ap (λ now. going_after (Some now) rest) p.now
      ∙ goes_from (n + 1) after history legal.1

  pub are_runs : (first : Config) (history : List Noted) → IsLegal m tables (fresh_device {Node = Node} first) history
      → AreRuns (notices_in history) (is_some (replay m tables (fresh_device {Node = Node} first) history).pending)
  are_runs first history legal =
      ap (going_after (Some false)) (same_told m laws tables 1 (fresh_device first) history legal) ∙ goes_from 1 (fresh_device first) history legal
