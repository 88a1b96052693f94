-- What is kept of a device of a change set that is to be aborted, at each event of that.
use Rattle.std.proofs.Common.{◌≡◌, ◌∙◌, ◌⊎◌, inl, inr, ℕ, ◌≤◌, List, Bool, true, false, cond, not, Option, Some, None, IfSome, is_some, option_map, option_and_then, refl, sym, ap, subst, arith}
use Rattle.std.proofs.lemmas.Bool.Decides.{nat_tests}
use Rattle.nm_proto.specs.declared.ask.Ask.{Ask}
use Rattle.nm_proto.specs.declared.ask.Ask.TheVariants as ask
use Rattle.nm_proto.specs.declared.message.Request.{Request}
use Rattle.nm_proto.specs.declared.journal.AbortCause.{AbortCause}
use Rattle.nm_proto.specs.declared.journal.Verdict.{Verdict}
use Rattle.nm_proto.specs.declared.journal.Verdict.TheVariants as verdict
use Rattle.nm_history.specs.declared.outcome.Outcome.{Outcome}
use Rattle.nm_history.specs.History.{RecordedState}
use Rattle.nm_decider_stage.specs.declared.stage.Stage.{Stage}
use Rattle.nm_decider_stage.specs.declared.stage.Stage.TheVariants.{Resync}
use Rattle.nm_decider_stage.specs.Stages.{broken_stage, learnt}
use Rattle.nm_decider.specs.declared.seat.Seat.{Seat}
use Rattle.nm_decider.specs.Course.{decided_seat}
use Rattle.nm_resync.specs.declared.resync.ResyncStage.{ResyncStage}
use Rattle.nm_resync.specs.declared.resync.ResyncStage.TheVariants.{Opening}
use Rattle.nm_resync.specs.Resync as resync
use Rattle.nm_resync.specs.Resync.{resync_ask, resync_learnt, settled_in}
use Rattle.nm_resync.specs.Known.{knows}
use Rattle.nm_wire.specs.declared.link.Exchange.{Exchange}
use Rattle.nm_wire.specs.declared.link.Way.{Way}
use Rattle.nm_wire.specs.declared.link.Way.TheVariants.{Quiet, Asked, Told}
use Rattle.nm_wire.specs.Asks.{ask_of, same_ask}
use Rattle.nm_wire.specs.Link.{LinkState, closed_link, ends, handled_on, told_on_way}
use Rattle.nm_wire.specs.Words.{ask_on, commits_sent}
use Rattle.nm_wire.specs.Wire.{WireState, current_link, handled_at, is_quiet_link, link_at, lost, restarted, sent}
use Rattle.nm_manager.specs.Slot.{SideState, anew, asked_in_fact, cut_off, gone, is_commit, is_resync, may_go, with_wire}
use Rattle.nm_safety.specs.Pair.{FirstLink, Undecided, first_link, may_be_sent, to_abort}
use Rattle.nm_safety.specs.Step.{GoesWith, awaits_rightly, current_told, fits_stage, may_go_on, way_ask, way_told}
use Rattle.nm_safety.proofs.Pairs.{asked_is, at_resync}
use Rattle.nm_safety.proofs.Tables.{both, found_stage}
use Rattle.nm_safety.proofs.Wires.{IsDue, current_begun, current_changed, current_handled, current_restarted, current_sent, handled_quiet}
use Rattle.nm_safety.proofs.Lists.{to_some}
use Rattle.nm_outcome_laws.specs.AbortsSupport.{IsAborted, IsCancelled, IsGone, IsSpent, IsTold, is_known, is_unbegun}
use Rattle.nm_outcome_laws.proofs.aborts.Links.{RemainsFirst, first_handled, first_lost, first_out, first_restarts, gone_remains, unsent_gone}
use Rattle.nm_outcome_laws.proofs.aborts.Tables as table

-- ---- words

pub if_later : (P Q : Exchange → Type 0) → ((one : Exchange) → P one → Q one) → (told : Option Exchange) → IfSome told P → IfSome told Q
if_later P Q step None h = tt
if_later P Q step (Some one) h = step one h

none_if : (P : Exchange → Type 0) (told : Option Exchange) → told ≡ None → IfSome told P
none_if P None e = tt
none_if P (Some exchange) e = absurd (let g : Some exchange ≡ None = e in cc)

some_if : (P : Exchange → Type 0) (told : Option Exchange) (exchange : Exchange) → told ≡ Some exchange → IfSome told P → P exchange
some_if P None exchange e h = absurd (let g : None ≡ Some exchange = e in cc)
some_if P (Some one) exchange e h = let same : one ≡ exchange = cc in subst P same h

pub never : {T : Type 0} (b : Bool) → b ≡ false → b ≡ true → T
never b e f = absurd (let g : false ≡ true = sym e ∙ f in cc)

pub abort_by : (decided : Option Verdict) → to_abort decided ≡ true → (T : Type 0)
    → ((why : AbortCause) → decided ≡ Some (verdict.Abort why) → T) → T
abort_by None a T step = absurd (let g : false ≡ true = a in cc)
abort_by (Some verdict.Commit) a T step = absurd (let g : false ≡ true = a in cc)
abort_by (Some (verdict.Abort why)) a T step = step why refl

none_of : (n c : ℕ) → n ≤ c → c ≡ 0 → n ≡ 0
none_of n c l z = omega (arith, l, z)

-- what is on its way isn't told
sent_none : (wire : WireState) (request : Request) (found : Option LinkState) → current_link wire ≡ found → is_quiet_link found ≡ true
    → current_told (sent wire request) ≡ None
sent_none wire request None e h = absurd (let g : false ≡ true = h in cc)
sent_none wire request (Some link) e h = ap (option_and_then way_told) (current_sent wire request link e)

gone_none : (new : Bool) (wire : WireState) (request : Request) → may_go new wire ≡ true → current_told (gone new wire request) ≡ None
gone_none true wire request h = ap (option_and_then way_told) (current_begun wire request)
gone_none false wire request h = sent_none wire request (current_link wire) refl h

-- ---- what is told was asked for

told_asks : (way : Way) (exchange : Exchange) → told_on_way way ≡ Some exchange → ask_on way ≡ Some (ask_of exchange.request)
told_asks Quiet exchange e = absurd (let g : None ≡ Some exchange = e in cc)
told_asks (Asked request) exchange e = absurd (let g : None ≡ Some exchange = e in cc)
told_asks (Told one) exchange e = let same : one ≡ exchange = cc in ap (λ q. Some (ask_of q.request)) same

asks_told : (found : Option LinkState) (exchange : Exchange) → option_and_then way_told found ≡ Some exchange
    → option_and_then way_ask found ≡ Some (ask_of exchange.request)
asks_told None exchange e = absurd (let g : None ≡ Some exchange = e in cc)
asks_told (Some link) exchange e = told_asks link.way exchange e

-- before it no cancel is asked for
no_cancel : (stage : Stage) (one : resync.ResyncState) (awaited : Option Ask) (what : Ask) → awaits_rightly None stage awaited ≡ true
    → option_map (asked_in_fact one) awaited ≡ Some what → same_ask what ask.Cancel ≡ true → ⊥
no_cancel stage one None what rightly e c = absurd (let g : None ≡ Some what = e in cc)
no_cancel stage one (Some other) what rightly e c =
    let same : asked_in_fact one other ≡ what = cc in
    never (same_ask (asked_in_fact one other) ask.Cancel) (table.undecided_cancels stage other one rightly)
    (ap (λ q. same_ask q ask.Cancel) same ∙ c)

-- ---- what passes on

module _ {Config Node : Type 0} where
  -- the links and the device have become others, and what was kept of them is so of these
  pub record Passes (token : List ℕ) (before after : WireState) (r now : RecordedState Config Node) : Type 0 where
    pub commits : commits_sent (first_link after) ≡ commits_sent (first_link before)
    pub gone : IsGone token (first_link before) r → IsGone token (first_link after) now
    pub told : IfSome (current_told before) (IsCancelled token (first_link before) r)
        → IfSome (current_told after) (IsCancelled token (first_link after) now)

  module _ (member over : Bool) (token : List ℕ) where
    pub spent_passes : (before after : WireState) (r now : RecordedState Config Node) → Passes token before after r now
        → IsSpent member over token before r → IsSpent member over token after now
    spent_passes before after r now p s = record { stranger = λ e. p.commits ∙ s.stranger e; ended = λ e. p.gone (s.ended e) }

    pub aborted_passes : (decided : Option Verdict) (seat now_seat : Seat) → now_seat.stage ≡ seat.stage → (side : SideState)
        (after : WireState) (r now : RecordedState Config Node) → Passes token side.wire after r now
        → IsAborted member over decided token seat side r → IsAborted member over decided token now_seat (with_wire side after) now
    aborted_passes decided seat now_seat same side after r now p a = record {
      spent = spent_passes side.wire after r now p a.spent;
      told = λ aborts.
          let t : IsTold token seat side r = a.told aborts in
          record {
            known = λ k. p.gone (t.known (subst (λ s. is_known s side.resync.stage ≡ true) same k));
            told = p.told t.told;
            unbegun = λ u. p.commits ∙ t.unbegun (subst (λ s. is_unbegun s ≡ true) same u);
          };
    }

  module _ (token : List ℕ) (r : RecordedState Config Node) where
    -- no confirmed commit more is sent
    pub remains_passes : (before after : WireState) → RemainsFirst before after
        → (IfSome (current_told before) (IsCancelled token (first_link before) r)
        → IfSome (current_told after) (IsCancelled token (first_link before) r)) → Passes token before after r r
    remains_passes before after k told = record {
      commits = k.commits;
      gone = gone_remains token r (first_link before) (first_link after) k;
      told = λ t.
          if_later (IsCancelled token (first_link before) r) (IsCancelled token (first_link after) r)
          (λ one c e. gone_remains token r (first_link before) (first_link after) k (c e)) (current_told after) (told t);
    }

    -- the device alone is another
    pub moved_passes : (wire : WireState) (now : RecordedState Config Node)
        → (IsGone token (first_link wire) r → IsGone token (first_link wire) now) → Passes token wire wire r now
    moved_passes wire now step = record {
      commits = refl;
      gone = step;
      told = if_later (IsCancelled token (first_link wire) r) (IsCancelled token (first_link wire) now) (λ one c e. step (c e)) (current_told wire);
    }

  module _ (member over : Bool) (decided : Option Verdict) (token : List ℕ) (seat : Seat) (side : SideState) (r : RecordedState Config Node)
      (a : IsAborted member over decided token seat side r) where
    abbrev Now : Seat → SideState → Type 0
    Now now new = IsAborted member over decided token now new r

    -- ---- a request goes out

    module _ (now : Seat) (same : now.stage ≡ seat.stage) (new : Bool) (request : Request) (goes : may_go new side.wire ≡ true) where
      pub plainly_out : same_ask (ask_of request) ask.CommitConfirmed ≡ false → Now now (with_wire side (gone new side.wire request))
      plainly_out other =
          aborted_passes member over token decided seat now same side (gone new side.wire request) r r
          (remains_passes token r side.wire (gone new side.wire request) (first_out new side.wire request goes other)
          (λ t. none_if _ (current_told (gone new side.wire request)) (gone_none new side.wire request goes))) a

      out_by : (v : Option Verdict) → decided ≡ v → member ≡ true → (decided ≡ None → over ≡ false)
          → ((v : Verdict) → decided ≡ Some v → same_ask (ask_of request) ask.CommitConfirmed ≡ false)
          → Now now (with_wire side (gone new side.wire request))
      out_by None e ours unended other = record {
        spent = record { stranger = λ f. never member f ours; ended = λ o. never over (unended e) o };
        told = λ aborts. never (to_abort decided) (ap to_abort e) aborts;
      }
      out_by (Some v) e ours unended other = plainly_out (other v e)

      -- the confirmed commit is sent only to a device of the change set, and before the verdict
      pub turned_aborted : member ≡ true → (decided ≡ None → over ≡ false)
          → ((v : Verdict) → decided ≡ Some v → same_ask (ask_of request) ask.CommitConfirmed ≡ false)
          → Now now (with_wire side (gone new side.wire request))
      turned_aborted ours unended other = out_by decided refl ours unended other

    -- ---- a reply is handled

    module _ (before : GoesWith decided seat side) (first : FirstLink token (first_link side.wire) r) (link : ℕ) (exchange : Exchange)
        (due_now : IsDue side.wire link exchange) where
      abbrev after : WireState
      after = handled_at side.wire link (Some exchange)

      remains : RemainsFirst side.wire after
      remains = first_handled side.wire link exchange due_now

      gone_now : IsGone token (first_link side.wire) r → IsGone token (first_link after) r
      gone_now g = gone_remains token r (first_link side.wire) (first_link after) remains g

      told_is : current_told side.wire ≡ Some exchange
      told_is =
          ap (option_and_then way_told) (ap (option_and_then (link_at side.wire)) due_now.current ∙ due_now.here)
          ∙ ap told_on_way due_now.way

      ended : (b : Bool) → option_and_then way_told (cond b None (Some (handled_on due_now.held))) ≡ None
      ended true = refl
      ended false = ap told_on_way (handled_quiet due_now.held exchange due_now.way)

      none_now : current_told after ≡ None
      none_now =
          ap (option_and_then way_told) (current_handled side.wire link exchange due_now) ∙ ended (ends exchange.request exchange.reply)

      spent_now : IsSpent member over token after r
      spent_now =
          spent_passes member over token side.wire after r r
          (remains_passes token r side.wire after remains (λ t. none_if _ (current_told after) none_now)) a.spent

      -- the reply to a cancel
      cancelled : IsTold token seat side r → (what : Ask) → seat.awaited ≡ Some what
          → same_ask (asked_in_fact side.resync what) ask.Cancel ≡ true → IsGone token (first_link side.wire) r
      cancelled t what awaited c =
          some_if (IsCancelled token (first_link side.wire) r) (current_told side.wire) exchange told_is t.told
          (subst (λ q. same_ask q ask.Cancel ≡ true) (asked_is decided seat side before link exchange due_now what awaited) c)

      plain : (what : Ask) → is_resync (Some what) ≡ false → (one : resync.ResyncState) → asked_in_fact one what ≡ what
      plain what other one = grind (arith, nat_tests)

      module _ (what : Ask) (awaited : seat.awaited ≡ Some what) (other : is_resync (Some what) ≡ false) where
        known_by : IsTold token seat side r
            → (is_known seat.stage side.resync.stage ≡ true) ⊎ ((same_ask what ask.Cancel ≡ true) ⊎ (is_unbegun seat.stage ≡ true))
            → IsGone token (first_link side.wire) r
        known_by t (inl k) = t.known k
        known_by t (inr (inl c)) = cancelled t what awaited (ap (λ q. same_ask q ask.Cancel) (plain what other side.resync) ∙ c)
        known_by t (inr (inr u)) = unsent_gone token r (first_link side.wire) first (t.unbegun u)

        told_after : (why : AbortCause) → IsTold token seat side r
            → IsTold token (record seat { stage = learnt (Some (verdict.Abort why)) seat.stage what exchange.reply; awaited = None })
            (record { wire = after; resync = side.resync }) r
        told_after why t = record {
          known = λ k.
              gone_now (known_by t
              (table.or_else (is_known seat.stage side.resync.stage) (same_ask what ask.Cancel) (is_unbegun seat.stage)
              (table.learnt_known why what exchange.reply side.resync.stage seat.stage k)));
          told = none_if _ (current_told after) none_now;
          unbegun = λ u. remains.commits ∙ t.unbegun (table.learnt_unbegun why what exchange.reply seat.stage u);
        }

        pub handled_aborted : Now (record seat { stage = learnt decided seat.stage what exchange.reply; awaited = None })
            (record { wire = after; resync = side.resync })
        handled_aborted = record {
          spent = spent_now;
          told = λ aborts.
              abort_by decided aborts
              (IsTold token (record seat { stage = learnt decided seat.stage what exchange.reply; awaited = None })
              (record { wire = after; resync = side.resync }) r)
              (λ why is.
              subst (λ v. IsTold token (record seat { stage = learnt v seat.stage what exchange.reply; awaited = None })
              (record { wire = after; resync = side.resync }) r) (sym is) (told_after why (a.told aborts)));
        }

      -- ---- a reply to a resynchronisation

      module _ (awaited : seat.awaited ≡ Some ask.Resync) where
        at : seat.stage ≡ Resync
        at = at_resync decided seat side before link exchange due_now awaited

        fits : (why : AbortCause) → decided ≡ Some (verdict.Abort why)
            → (not side.resync.commit ≡ true) × (may_go_on false side.resync.stage ≡ true)
        fits why c =
            both (not side.resync.commit) (may_go_on false side.resync.stage)
            (subst (λ s. fits_stage (Some (verdict.Abort why)) s side.resync ≡ true) at
            (subst (λ v. fits_stage v seat.stage side.resync ≡ true) c before.resyncs))

        not_true : (b : Bool) → not b ≡ true → b ≡ false
        not_true true e = absurd (let g : false ≡ true = e in cc)
        not_true false e = refl

        abbrev next : ResyncStage
        next = resync_learnt false side.resync.stage exchange.reply

        found_by : (commit : side.resync.commit ≡ false) → IsTold token seat side r
            → (is_some (knows side.resync.stage) ≡ true) ⊎ (same_ask (resync_ask false side.resync.stage) ask.Cancel ≡ true)
            → IsGone token (first_link side.wire) r
        found_by commit t (inl k) = t.known (subst (λ s. is_known s side.resync.stage ≡ true) (sym at) k)
        found_by commit t (inr c) =
            cancelled t ask.Resync awaited (ap (λ b. same_ask (resync_ask b side.resync.stage) ask.Cancel) commit ∙ c)

        told_found : side.resync.commit ≡ false → may_go_on false side.resync.stage ≡ true → IsTold token seat side r
            → IsTold token (record seat { stage = found_stage (settled_in next); awaited = None })
            (record { wire = after; resync = record { commit = side.resync.commit; stage = next } }) r
        told_found commit goes t = record {
          known = λ k.
              gone_now (found_by commit t
              (table.or_one (is_some (knows side.resync.stage)) (same_ask (resync_ask false side.resync.stage) ask.Cancel)
              (table.resync_known side.resync.stage exchange.reply goes k)));
          told = none_if _ (current_told after) none_now;
          unbegun = λ u. never (is_unbegun (found_stage (settled_in next))) (table.found_unbegun (settled_in next)) u;
        }

        abbrev found : Option Bool
        found = settled_in (resync_learnt side.resync.commit side.resync.stage exchange.reply)

        pub resynced_aborted : Now (record seat { stage = found_stage found; awaited = None })
            (record { wire = after; resync = resync.with_reply side.resync exchange.reply })
        resynced_aborted = record {
          spent = spent_now;
          told = λ aborts.
              abort_by decided aborts
              (IsTold token (record seat { stage = found_stage found; awaited = None })
              (record { wire = after; resync = resync.with_reply side.resync exchange.reply }) r)
              (λ why is.
              let commit : side.resync.commit ≡ false = not_true side.resync.commit (fits why is).0 in
              subst (λ b. IsTold token
              (record seat { stage = found_stage (settled_in (resync_learnt b side.resync.stage exchange.reply)); awaited = None })
              (record {
                wire = after;
                resync = record { commit = side.resync.commit; stage = resync_learnt b side.resync.stage exchange.reply };
              }) r) (sym commit) (told_found commit (fits why is).1 (a.told aborts)));
        }

    -- ---- links break, and sides of links end

    pub broken_aborted : (commit : Bool) → Now (record seat { stage = broken_stage seat.stage; awaited = None }) (cut_off commit side)
    broken_aborted commit = record {
      spent = record { stranger = a.spent.stranger; ended = a.spent.ended };
      told = λ aborts. record {
        known = λ k. (a.told aborts).known (table.broken_known seat.stage side.resync.stage k);
        told = tt;
        unbegun = λ u. never (is_unbegun (broken_stage seat.stage)) (table.broken_unbegun seat.stage) u;
      };
    }

    abbrev Kept : (Exchange → Type 0) → Option LinkState → Option LinkState → Type 0
    Kept P one other = IfSome (option_and_then way_told one) P → IfSome (option_and_then way_told other) P

    kept_found : (P : Exchange → Type 0) (found : Option LinkState) → IfSome found (λ link. Kept P (Some link) (Some (closed_link link)))
    kept_found P None = tt
    kept_found P (Some link) = λ s. s

    pub closed_aborted : (number : ℕ) → Now seat (with_wire side (lost side.wire number))
    closed_aborted number =
        aborted_passes member over token decided seat seat refl side (lost side.wire number) r r
        (remains_passes token r side.wire (lost side.wire number) (first_lost side.wire number)
        (current_changed (Kept (IsCancelled token (first_link side.wire) r)) (λ o s. s) closed_link side.wire number
        (link_at side.wire number) refl (kept_found (IsCancelled token (first_link side.wire) r) (link_at side.wire number)))) a

    pub restarted_aborted : Now seat (with_wire side (restarted side.wire))
    restarted_aborted =
        aborted_passes member over token decided seat seat refl side (restarted side.wire) r r
        (remains_passes token r side.wire (restarted side.wire) (first_restarts side.wire)
        (current_restarted (Kept (IsCancelled token (first_link side.wire) r)) (λ o s. s) (λ link s. s) side.wire)) a

  -- ---- memory is lost

  pub cut_aborted : (member over : Bool) (decided : Option Verdict) (token : List ℕ) (seat : Seat) (commit : Bool) (side : SideState)
      (r : RecordedState Config Node) → (to_abort decided ≡ true → seat.stage ≡ Resync) → IsSpent member over token side.wire r
      → IsAborted member over decided token seat (cut_off commit side) r
  cut_aborted member over decided token seat commit side r dead spent = record {
    spent = record { stranger = spent.stranger; ended = spent.ended };
    told = λ aborts. record {
      known = λ k. absurd (let g : false ≡ true = ap (λ s. is_known s Opening) (sym (dead aborts)) ∙ k in cc);
      told = tt;
      unbegun = λ u. absurd (let g : false ≡ true = ap is_unbegun (sym (dead aborts)) ∙ u in cc);
    };
  }

  -- ---- a verdict falls

  module _ (member over : Bool) (token : List ℕ) (seat : Seat) (side : SideState) (r : RecordedState Config Node) (before : GoesWith None seat side)
      (first : FirstLink token (first_link side.wire) r) (outcome : Outcome) (undecided : Undecided outcome seat side.wire)
      (spent : IsSpent member over token side.wire r) where
    unsent : may_be_sent seat.stage seat.awaited ≡ 0 → commits_sent (first_link side.wire) ≡ 0
    unsent e = none_of (commits_sent (first_link side.wire)) (may_be_sent seat.stage seat.awaited) undecided.unsent e

    pub decided_aborted : (v : Verdict) → IsAborted member over (Some v) token (decided_seat v seat) (anew (is_commit v) side) r
    decided_aborted verdict.Commit = record {
      spent = record { stranger = spent.stranger; ended = spent.ended };
      told = λ aborts. absurd (let g : false ≡ true = aborts in cc);
    }
    decided_aborted (verdict.Abort why) = record {
      spent = record { stranger = spent.stranger; ended = spent.ended };
      told = λ aborts. record {
        known = λ k.
            unsent_gone token r (first_link side.wire) first (unsent (table.decided_known seat.stage seat.awaited before.stands k));
        told =
            to_some (IsCancelled token (first_link side.wire) r) (current_told side.wire)
            (λ exchange is c.
            absurd (no_cancel seat.stage side.resync seat.awaited (ask_of exchange.request) before.awaits
            (before.asked ∙ asks_told (current_link side.wire) exchange is) c));
        unbegun = λ u. unsent (table.decided_unbegun seat.stage seat.awaited before.awaits u);
      };
    }
