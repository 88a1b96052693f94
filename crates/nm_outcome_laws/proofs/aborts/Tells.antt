-- What the answer to a link's request tells of a change set that is to be aborted.
use Rattle.std.proofs.Common.{◌≡◌, ◌∙◌, ℕ, Bool, true, false, List, [], ◌∷◌, ◌++◌, Option, Some, None, refl, sym, ap, subst, arith}
use Rattle.std.proofs.lemmas.Bool.Decides.{nat_tests}
use Rattle.nm_proto.specs.declared.ask.Ask.{Ask}
use Rattle.nm_proto.specs.declared.ask.Ask.TheVariants as ask
use Rattle.nm_proto.specs.declared.message.Request.{Request}
use Rattle.nm_proto.specs.declared.message.Request.TheVariants.{OpenSession, Lock, Unlock, PartialLock, PartialUnlock, Edit, Validate, Commit, CancelCommit, Discard, HasMark, GetConfig, Kill, CloseSession}
use Rattle.nm_proto.specs.declared.message.Store.{Store}
use Rattle.nm_proto.specs.declared.message.Store.TheVariants.{Running, Candidate}
use Rattle.nm_proto.specs.declared.message.Reply.{Reply}
use Rattle.nm_history.specs.declared.event.Noted.{Noted}
use Rattle.nm_history.specs.declared.outcome.Outcome.{Outcome}
use Rattle.nm_history.specs.declared.outcome.Outcome.TheVariants.{Never, Pending, Confirmed, Undone}
use Rattle.nm_history.specs.declared.outcome.Undoing.{Undoing}
use Rattle.nm_history.specs.Effect.{effect_of, noted_effect}
use Rattle.nm_history.specs.Effect.Effect.{Undoes}
use Rattle.nm_history.specs.Outcome.{Standing, is_pending, outcome_of, standing_after}
use Rattle.nm_device_laws.specs.Telling.{standing_of}
use Rattle.nm_device_laws.specs.Token.{gives_token}
use Rattle.nm_device_laws.proofs.Readings.{begins_token, standing_push}
use Rattle.nm_wire.specs.declared.link.Exchange.{Exchange}
use Rattle.nm_wire.specs.declared.link.Way.{Way}
use Rattle.nm_wire.specs.declared.link.Way.TheVariants as way
use Rattle.nm_wire.specs.Asks.{ask_of, same_ask}
use Rattle.nm_wire.specs.Link.{LinkState, told_on, told_on_way}
use Rattle.nm_wire.specs.Words.{commit_count}

-- ---- requests

none_same : {T : Type 0} → false ≡ true → T
none_same e = absurd (let g : false ≡ true = e in cc)

lock_no_cancel : (store : Store) → same_ask (ask_of (Lock store)) ask.Cancel ≡ true → ⊥
lock_no_cancel Running e = none_same e
lock_no_cancel Candidate e = none_same e

commit_no_cancel : (confirmed : Bool) (timeout : Option ℕ) (persist persist_id : Option (List ℕ))
    → same_ask (ask_of (Commit confirmed timeout persist persist_id)) ask.Cancel ≡ true → ⊥
commit_no_cancel true timeout (Some given) None e = none_same e
commit_no_cancel true timeout None (Some named) e = none_same e
commit_no_cancel true timeout None None e = none_same e
commit_no_cancel true timeout (Some given) (Some named) e = none_same e
commit_no_cancel false timeout None (Some named) e = none_same e
commit_no_cancel false timeout (Some given) None e = none_same e
commit_no_cancel false timeout None None e = none_same e
commit_no_cancel false timeout (Some given) (Some named) e = none_same e

-- a cancel of the manager's names a token
pub cancel_is : (request : Request) → same_ask (ask_of request) ask.Cancel ≡ true → (T : Type 0)
    → ((named : List ℕ) → request ≡ CancelCommit (Some named) → T) → T
cancel_is (CancelCommit (Some named)) e T step = step named refl
cancel_is (CancelCommit None) e T step = none_same e
cancel_is (Commit confirmed timeout persist persist_id) e T step = absurd (commit_no_cancel confirmed timeout persist persist_id e)
cancel_is (Lock store) e T step = absurd (lock_no_cancel store e)
cancel_is (OpenSession user) e T step = none_same e
cancel_is (Unlock store) e T step = none_same e
cancel_is (PartialLock select) e T step = none_same e
cancel_is (PartialUnlock id) e T step = none_same e
cancel_is (Edit edit operation marks) e T step = none_same e
cancel_is Validate e T step = none_same e
cancel_is Discard e T step = none_same e
cancel_is (HasMark mark) e T step = none_same e
cancel_is GetConfig e T step = none_same e
cancel_is (Kill other) e T step = none_same e
cancel_is CloseSession e T step = none_same e

known_not : {T : Type 0} → true ≡ false → T
known_not e = absurd (let g : true ≡ false = e in cc)

-- who gives a token brings a change set
pub gives_commit : (token : List ℕ) (request : Request) → gives_token token request ≡ true → same_ask (ask_of request) ask.Resync ≡ false
    → same_ask (ask_of request) ask.CommitConfirmed ≡ true
gives_commit token (Commit true timeout (Some given) None) g known = refl
gives_commit token (Commit true timeout (Some given) (Some named)) g known = known_not known
gives_commit token (Commit false timeout (Some given) None) g known = known_not known
gives_commit token (Commit false timeout (Some given) (Some named)) g known = known_not known
gives_commit token (Commit confirmed timeout None persist_id) g known = none_same g
gives_commit token (CancelCommit named) g known = none_same g
gives_commit token (Lock store) g known = none_same g
gives_commit token (OpenSession user) g known = none_same g
gives_commit token (Unlock store) g known = none_same g
gives_commit token (PartialLock select) g known = none_same g
gives_commit token (PartialUnlock id) g known = none_same g
gives_commit token (Edit edit operation marks) g known = none_same g
gives_commit token Validate g known = none_same g
gives_commit token Discard g known = none_same g
gives_commit token (HasMark mark) g known = none_same g
gives_commit token GetConfig g known = none_same g
gives_commit token (Kill other) g known = none_same g
gives_commit token CloseSession g known = none_same g

-- and who doesn't begins nothing under it
pub begins_none : (token : List ℕ) (request : Request) (done undone : Bool) → gives_token token request ≡ false
    → begins_token token (effect_of request done undone) ≡ false
begins_none token (Commit true timeout persist persist_id) true undone g = g
begins_none token (Commit true timeout persist persist_id) false undone g = refl
begins_none token (Commit false timeout persist persist_id) true undone g = refl
begins_none token (Commit false timeout persist persist_id) false undone g = refl
begins_none token (CancelCommit named) true undone g = refl
begins_none token (CancelCommit named) false undone g = refl
begins_none token (Kill other) done true g = refl
begins_none token (Kill other) done false g = refl
begins_none token CloseSession done true g = refl
begins_none token CloseSession done false g = refl
begins_none token (Lock store) done undone g = refl
begins_none token (OpenSession user) done undone g = refl
begins_none token (Unlock store) done undone g = refl
begins_none token (PartialLock select) done undone g = refl
begins_none token (PartialUnlock id) done undone g = refl
begins_none token (Edit edit operation marks) done undone g = refl
begins_none token Validate done undone g = refl
begins_none token Discard done undone g = refl
begins_none token (HasMark mark) done undone g = refl
begins_none token GetConfig done undone g = refl

pub cancel_counts : (what : Ask) → same_ask what ask.Cancel ≡ true → commit_count what ≡ 0
cancel_counts what e = grind (arith, nat_tests)

-- ---- a cancel that is done

undoes_none : (token : List ℕ) (outcome : Outcome) (other : Bool) (by : Undoing)
    → is_pending (standing_after token outcome other (Undoes by)).outcome ≡ false
undoes_none token Never other by = refl
undoes_none token Pending other by = refl
undoes_none token Confirmed other by = refl
undoes_none token (Undone before) other by = refl

-- nothing is pending after an undoing
pub undone_none : (token : List ℕ) (history : List Noted) (entry : Noted) (by : Undoing) → noted_effect entry ≡ Undoes by
    → is_pending (outcome_of token (history ++ entry ∷ [])) ≡ false
undone_none token history entry by e =
    ap (λ (st : Standing). is_pending st.outcome) (standing_push token history entry (Undoes by) e)
    ∙ undoes_none token (standing_of token history).outcome (standing_of token history).other by

-- ---- the link

told_way : (past : List Exchange) (on : Way) (is_open : Bool) (request : Request) (reply : Reply) → on ≡ way.Asked request
    → told_on_way (told_on reply (record { past = past; way = on; is_open = is_open })).way
    ≡ Some (record { request = request; reply = reply })
told_way past on is_open request reply e =
    subst (λ one. told_on_way (told_on reply (record { past = past; way = one; is_open = is_open })).way
    ≡ Some (record { request = request; reply = reply })) (sym e) refl

pub told_is : (link : LinkState) (request : Request) (reply : Reply) → link.way ≡ way.Asked request
    → told_on_way (told_on reply link).way ≡ Some (record { request = request; reply = reply })
told_is link request reply e = told_way link.past link.way link.is_open request reply e
