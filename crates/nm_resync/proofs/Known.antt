-- What stands behind a known outcome.
use Rattle.std.proofs.Common.{◌≡◌, ◌<◌, Bool, true, false, ◌&&◌, ◌||◌, List, [], ◌∷◌, Option, Some, None, if◌then◌else◌, refl, sym, arith}
use Rattle.std.proofs.lemmas.Bool.Decides.{nat_tests}
use Rattle.nm_proto.specs.declared.message.Reply.{Reply}
use Rattle.nm_resync.specs.declared.resync.ResyncStage.{ResyncStage}
use Rattle.nm_resync.specs.declared.resync.ResyncStage.TheVariants.{Opening, Discarding, Locking, Holding, Confirming, Checking, Closing, Done}
use Rattle.nm_resync.specs.Resync.{ResyncState, fresh_resync, resync_ask, resync_learnt, with_reply, settled_in}
use Rattle.nm_resync.specs.Known.{Asked, asked_over, after, is_lock, is_done, is_opening, has_lock, knows, tells, LearnsRightly, rank, fits}

absurd_kept : (kept : Bool) → None ≡ Some kept → ⊥
absurd_kept kept h = cc

-- ---- the lock

-- the stages that stand behind the lock
abbrev is_behind_closing : Option Bool → Bool
is_behind_closing None = false
is_behind_closing (Some kept) = true

abbrev is_behind : ResyncStage → Bool
is_behind Opening = false
is_behind Discarding = false
is_behind Locking = false
is_behind Holding = true
is_behind Confirming = true
is_behind Checking = true
is_behind (Closing kept) = is_behind_closing kept
is_behind (Done kept) = true

known_behind : (stage : ResyncStage) (kept : Bool) → knows stage ≡ Some kept → is_behind stage ≡ true
known_behind stage kept h = grind (arith, nat_tests)

lock_step : (commit : Bool) (stage : ResyncStage) (told : Reply) (held : Bool) → (is_behind stage ≡ true → held ≡ true) → is_behind (resync_learnt commit stage told) ≡ true
    → ((is_lock (resync_ask commit stage) && is_done told) || (if is_opening (resync_ask commit stage) then false else held)) ≡ true
lock_step commit Opening told held h b = grind (arith, nat_tests)
lock_step commit Discarding told held h b = grind (arith, nat_tests)
lock_step commit Locking told held h b = grind (arith, nat_tests)
lock_step true Holding told held h b = h refl
lock_step false Holding told held h b = h refl
lock_step commit Confirming told held h b = h refl
lock_step commit Checking told held h b = h refl
lock_step commit (Closing None) told held h b = absurd (let g : false ≡ true = b in cc)
lock_step commit (Closing (Some kept)) told held h b = h refl
lock_step commit (Done kept) told held h b = h refl

locked : (before : List Asked) (resync : ResyncState) (replies : List Reply) → (is_behind resync.stage ≡ true → has_lock before ≡ true) → is_behind (after resync replies).stage ≡ true
    → has_lock (asked_over before resync replies) ≡ true
locked before resync [] h b = h b
locked before resync (told ∷ replies) h b =
    locked (record { what = resync_ask resync.commit resync.stage; told = told } ∷ before) (with_reply resync told) replies
    (λ k. lock_step resync.commit resync.stage told (has_lock before) h k) b

pub behind_lock : (commit kept : Bool) (replies : List Reply) → knows (after (fresh_resync commit) replies).stage ≡ Some kept → has_lock (asked_over [] (fresh_resync commit) replies) ≡ true
behind_lock commit kept replies h =
    locked [] (fresh_resync commit) replies (λ k. absurd (let g : false ≡ true = k in cc)) (known_behind (after (fresh_resync commit) replies).stage kept h)

-- ---- what is told

stays : (commit : Bool) (stage : ResyncStage) (told : Reply) (kept : Bool) → knows stage ≡ Some kept → knows (resync_learnt commit stage told) ≡ Some kept
stays commit Opening told kept h = absurd (absurd_kept kept h)
stays commit Discarding told kept h = absurd (absurd_kept kept h)
stays commit Locking told kept h = absurd (absurd_kept kept h)
stays commit Holding told kept h = absurd (absurd_kept kept h)
stays commit Confirming told kept h = absurd (absurd_kept kept h)
stays commit Checking told kept h = absurd (absurd_kept kept h)
stays commit (Closing None) told kept h = absurd (absurd_kept kept h)
stays commit (Closing (Some other)) told kept h = h
stays commit (Done other) told kept h = h

comes : (commit : Bool) (stage : ResyncStage) (told : Reply) (kept : Bool) → knows stage ≡ None → knows (resync_learnt commit stage told) ≡ Some kept
    → tells (resync_ask commit stage) told ≡ Some kept
comes commit Opening told kept n h = grind (arith, nat_tests)
comes commit Discarding told kept n h = grind (arith, nat_tests)
comes commit Locking told kept n h = grind (arith, nat_tests)
comes true Holding told kept n h = grind (arith, nat_tests)
comes false Holding told kept n h = h
comes commit Confirming told kept n h = grind (arith, nat_tests)
comes commit Checking told kept n h = grind (arith, nat_tests)
comes commit (Closing None) told kept n h = absurd (absurd_kept kept h)
comes commit (Closing (Some other)) told kept n h = absurd (absurd_kept other (sym n))
comes commit (Done other) told kept n h = absurd (absurd_kept other (sym n))

pub learns_rightly : (commit : Bool) (stage : ResyncStage) (told : Reply) → LearnsRightly commit stage told
learns_rightly commit stage told = record { stays = stays commit stage told; comes = comes commit stage told }

-- ---- what isn't to be committed

-- the stages of a change set that isn't to be committed
abbrev is_lost : Option Bool → Bool
is_lost None = true
is_lost (Some true) = false
is_lost (Some false) = true

abbrev is_aborting : ResyncStage → Bool
is_aborting Opening = true
is_aborting Discarding = true
is_aborting Locking = true
is_aborting Holding = true
is_aborting Confirming = false
is_aborting Checking = false
is_aborting (Closing kept) = is_lost kept
is_aborting (Done kept) = is_lost (Some kept)

abort_step : (stage : ResyncStage) (told : Reply) → is_aborting stage ≡ true → is_aborting (resync_learnt false stage told) ≡ true
abort_step Opening told h = grind (arith, nat_tests)
abort_step Discarding told h = grind (arith, nat_tests)
abort_step Locking told h = grind (arith, nat_tests)
abort_step Holding told h = refl
abort_step Confirming told h = absurd (let g : false ≡ true = h in cc)
abort_step Checking told h = absurd (let g : false ≡ true = h in cc)
abort_step (Closing None) told h = refl
abort_step (Closing (Some kept)) told h = h
abort_step (Done kept) told h = h

aborting : (stage : ResyncStage) (replies : List Reply) → is_aborting stage ≡ true → is_aborting (after (record { commit = false; stage = stage }) replies).stage ≡ true
aborting stage [] h = h
aborting stage (told ∷ replies) h = aborting (resync_learnt false stage told) replies (abort_step stage told h)

lost_of : (stage : ResyncStage) (kept : Bool) → is_aborting stage ≡ true → knows stage ≡ Some kept → kept ≡ false
lost_of stage kept h k = grind (arith, nat_tests)

pub not_kept : (kept : Bool) (replies : List Reply) → knows (after (fresh_resync false) replies).stage ≡ Some kept → kept ≡ false
not_kept kept replies h = lost_of (after (fresh_resync false) replies).stage kept (aborting Opening replies refl) h

-- ---- the end

pub leads_on : (commit : Bool) (stage : ResyncStage) (told : Reply) → settled_in stage ≡ None → fits (resync_ask commit stage) told ≡ true → rank commit (resync_learnt commit stage told) < rank commit stage
leads_on commit Opening told n h = grind (arith, nat_tests)
leads_on commit Discarding told n h = grind (arith, nat_tests)
leads_on true Locking told n h = grind (arith, nat_tests)
leads_on false Locking told n h = grind (arith, nat_tests)
leads_on true Holding told n h = grind (arith, nat_tests)
leads_on false Holding told n h = grind (arith, nat_tests)
leads_on commit Confirming told n h = grind (arith, nat_tests)
leads_on commit Checking told n h = grind (arith, nat_tests)
leads_on commit (Closing None) told n h = omega arith
leads_on commit (Closing (Some kept)) told n h = omega arith
leads_on commit (Done kept) told n h = absurd (absurd_kept kept (sym n))
