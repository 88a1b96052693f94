-- What is known of a device of a change set, at each event of that.
use Rattle.std.proofs.Common.{◌≡◌, ◌∙◌, ℕ, Bool, true, false, cond, Option, Some, None, IfSome, option_map, option_and_then, refl, sym, ap, subst, arith}
use Rattle.std.proofs.lemmas.Bool.Decides.{nat_tests}
use Rattle.nm_proto.specs.declared.ask.Ask.{Ask}
use Rattle.nm_proto.specs.declared.ask.Ask.TheVariants as ask
use Rattle.nm_proto.specs.declared.message.Request.{Request}
use Rattle.nm_proto.specs.declared.journal.Verdict.{Verdict}
use Rattle.nm_proto.specs.declared.journal.Verdict.TheVariants as verdict
use Rattle.nm_history.specs.declared.outcome.Outcome.{Outcome}
use Rattle.nm_history.specs.Outcome.{is_final}
use Rattle.nm_decider_stage.specs.declared.stage.Stage.{Stage}
use Rattle.nm_decider_stage.specs.declared.stage.Stage.TheVariants.{Resync}
use Rattle.nm_decider_stage.specs.Stages.{broken_stage, is_acknowledged, learnt}
use Rattle.nm_decider.specs.declared.seat.Seat.{Seat}
use Rattle.nm_decider.specs.Course.{asked_next, decided_seat, renewed}
use Rattle.nm_resync.specs.declared.resync.ResyncStage.{ResyncStage}
use Rattle.nm_resync.specs.Resync as resync
use Rattle.nm_resync.specs.Resync.{resync_ask, resync_learnt, settled_in}
use Rattle.nm_wire.specs.declared.link.Exchange.{Exchange}
use Rattle.nm_wire.specs.declared.link.Way.{Way}
use Rattle.nm_wire.specs.declared.link.Way.TheVariants.{Quiet, Asked, Told}
use Rattle.nm_wire.specs.Asks.{ask_of}
use Rattle.nm_wire.specs.Link.{LinkState, closed_link, ends, handled_on, told_on_way}
use Rattle.nm_wire.specs.Words.{ask_on}
use Rattle.nm_wire.specs.Wire.{WireState, current_link, handled_at, link_at, lost, restarted}
use Rattle.nm_manager.specs.Slot.{SideState, anew, asked_in_fact, cut_off, gone, is_commit, is_resync, may_go, to_commit, with_wire}
use Rattle.nm_safety.specs.Pair.{is_live}
use Rattle.nm_safety.specs.Step.{GoesWith, current_told, fits_stage, may_go_on, way_ask, way_told}
use Rattle.nm_safety.proofs.Pairs.{asked_is, at_resync, gone_told}
use Rattle.nm_safety.proofs.Tables.{both, found_stage}
use Rattle.nm_safety.proofs.Wires.{IsDue, current_changed, current_handled, current_restarted, handled_quiet}
use Rattle.nm_outcome_laws.specs.RecordsSupport.{IsKnown, IsTold, is_known_as, knows_at, reply_tells, wants_mark}
use Rattle.nm_outcome_laws.proofs.records.Tables.{broken_knows, broken_live, broken_wants, found_knows, found_wants, learnt_acked, learnt_knows, learnt_wants, resync_knows, resync_wants}

none_if : (P : Exchange → Type 0) (told : Option Exchange) → told ≡ None → IfSome told P
none_if P None e = tt
none_if P (Some exchange) e = absurd (let g : Some exchange ≡ None = e in cc)

some_if : (P : Exchange → Type 0) (told : Option Exchange) (exchange : Exchange) → told ≡ Some exchange → IfSome told P → P exchange
some_if P None exchange e h = absurd (let g : None ≡ Some exchange = e in cc)
some_if P (Some one) exchange e h = let same : one ≡ exchange = cc in subst P same h

never : {T : Type 0} (b : Bool) → b ≡ false → b ≡ true → T
never b e f = absurd (let g : false ≡ true = sym e ∙ f in cc)

-- it is to be committed
pub is_to_commit : (decided : Option Verdict) → to_commit decided ≡ true → decided ≡ Some verdict.Commit
is_to_commit None c = absurd (let g : false ≡ true = c in cc)
is_to_commit (Some verdict.Commit) c = refl
is_to_commit (Some (verdict.Abort why)) c = absurd (let g : false ≡ true = c in cc)

-- what is told so of one device is known of it
lift : (decided : Option Verdict) (seat now : Seat) (side new : SideState) (o : Option Outcome) → now.is_member ≡ seat.is_member
    → ((outcome : Outcome) → decided ≡ Some verdict.Commit → IsTold seat side outcome → IsTold now new outcome)
    → IsKnown decided seat side o → IsKnown decided now new o
lift decided seat now side new None same step k = tt
lift decided seat now side new (Some outcome) same step k = λ c member. step outcome (is_to_commit decided c) (k c (sym same ∙ member))

module _ (decided : Option Verdict) (seat : Seat) (side : SideState) (o : Option Outcome) (k : IsKnown decided seat side o) where
  abbrev Now : Seat → SideState → Type 0
  Now now new = IsKnown decided now new o

  -- ---- a request goes out

  out_told : (now : Seat) (new : Bool) (request : Request) → now.stage ≡ seat.stage → may_go new side.wire ≡ true → (outcome : Outcome)
      → decided ≡ Some verdict.Commit → IsTold seat side outcome → IsTold now (with_wire side (gone new side.wire request)) outcome
  out_told now new request same goes outcome c t = record {
    acked = subst (λ s. is_live s ≡ true → is_acknowledged s ≡ true) (sym same) t.acked;
    known = subst (λ s. (kept : Bool) → knows_at s side.resync.stage ≡ Some kept → is_known_as kept outcome ≡ true) (sym same) t.known;
    gone = subst (λ s. wants_mark s side.resync.stage ≡ true → is_final outcome ≡ true) (sym same) t.gone;
    told = none_if _ (current_told (gone new side.wire request)) (gone_told new side.wire request goes);
  }

  pub turned_known : (new : Bool) (request : Request) → may_go new side.wire ≡ true
      → Now (asked_next decided seat) (with_wire side (gone new side.wire request))
  turned_known new request goes =
      lift decided seat (asked_next decided seat) side (with_wire side (gone new side.wire request)) o refl
      (out_told (asked_next decided seat) new request refl goes) k

  pub renewed_known : (request : Request) → may_go false side.wire ≡ true → Now (renewed seat) (with_wire side (gone false side.wire request))
  renewed_known request goes =
      lift decided seat (renewed seat) side (with_wire side (gone false side.wire request)) o refl
      (out_told (renewed seat) false request refl goes) k

  -- ---- a reply is handled

  module _ (before : GoesWith decided seat side) (link : ℕ) (exchange : Exchange) (due_now : IsDue side.wire link exchange) where
    abbrev after : WireState
    after = handled_at side.wire link (Some exchange)

    told_is : current_told side.wire ≡ Some exchange
    told_is =
        ap (option_and_then way_told) (ap (option_and_then (link_at side.wire)) due_now.current ∙ due_now.here) ∙ ap told_on_way due_now.way

    ended : (b : Bool) → option_and_then way_told (cond b None (Some (handled_on due_now.held))) ≡ None
    ended true = refl
    ended false = ap told_on_way (handled_quiet due_now.held exchange due_now.way)

    none_now : current_told after ≡ None
    none_now = ap (option_and_then way_told) (current_handled side.wire link exchange due_now) ∙ ended (ends exchange.request exchange.reply)

    tells_now : (what : Ask) → seat.awaited ≡ Some what → (outcome : Outcome) → IsTold seat side outcome
        → reply_tells (wants_mark seat.stage side.resync.stage) (asked_in_fact side.resync what) exchange.reply outcome ≡ true
    tells_now what awaited outcome t =
        subst (λ a. reply_tells (wants_mark seat.stage side.resync.stage) a exchange.reply outcome ≡ true)
        (sym (asked_is decided seat side before link exchange due_now what awaited))
        (some_if (λ one. reply_tells (wants_mark seat.stage side.resync.stage) (ask_of one.request) one.reply outcome ≡ true)
        (current_told side.wire) exchange told_is t.told)

    plain : (what : Ask) → is_resync (Some what) ≡ false → (r : resync.ResyncState) → asked_in_fact r what ≡ what
    plain what other r = grind (arith, nat_tests)

    handled_told : (what : Ask) → seat.awaited ≡ Some what → is_resync (Some what) ≡ false → (outcome : Outcome)
        → IsTold seat side outcome
        → IsTold (record seat { stage = learnt (Some verdict.Commit) seat.stage what exchange.reply; awaited = None })
        (record { wire = after; resync = side.resync }) outcome
    handled_told what awaited other outcome t =
        let tells = subst (λ a. reply_tells (wants_mark seat.stage side.resync.stage) a exchange.reply outcome ≡ true)
        (plain what other side.resync) (tells_now what awaited outcome t) in
        record {
          acked = learnt_acked what exchange.reply side.resync.stage outcome seat.stage t.acked;
          known = learnt_knows what exchange.reply side.resync.stage outcome seat.stage t.acked t.known tells;
          gone = learnt_wants what exchange.reply side.resync.stage outcome seat.stage t.acked t.gone tells;
          told = none_if _ (current_told after) none_now;
        }

    pub handled_known : (what : Ask) → seat.awaited ≡ Some what → is_resync (Some what) ≡ false
        → Now (record seat { stage = learnt decided seat.stage what exchange.reply; awaited = None })
        (record { wire = after; resync = side.resync })
    handled_known what awaited other =
        lift decided seat (record seat { stage = learnt decided seat.stage what exchange.reply; awaited = None }) side
        (record { wire = after; resync = side.resync }) o refl
        (λ outcome c t.
        subst (λ v. IsTold (record seat { stage = learnt v seat.stage what exchange.reply; awaited = None })
        (record { wire = after; resync = side.resync }) outcome) (sym c) (handled_told what awaited other outcome t)) k

    found_live : (known : Option Bool) → is_live (found_stage known) ≡ false
    found_live None = refl
    found_live (Some kept) = refl

    abbrev next : ResyncStage
    next = resync_learnt true side.resync.stage exchange.reply

    commits : decided ≡ Some verdict.Commit → seat.stage ≡ Resync → side.resync.commit ≡ true
    commits c at =
        let fits : fits_stage (Some verdict.Commit) Resync side.resync ≡ true =
        subst (λ s. fits_stage (Some verdict.Commit) s side.resync ≡ true) at
        (subst (λ v. fits_stage v seat.stage side.resync ≡ true) c before.resyncs) in
        (both side.resync.commit (may_go_on true side.resync.stage) fits).0

    resynced_told : seat.awaited ≡ Some ask.Resync → decided ≡ Some verdict.Commit → (outcome : Outcome) → IsTold seat side outcome
        → IsTold (record seat { stage = found_stage (settled_in next); awaited = None })
        (record { wire = after; resync = record { commit = side.resync.commit; stage = next } }) outcome
    resynced_told awaited c outcome t =
        let at : seat.stage ≡ Resync = at_resync decided seat side before link exchange due_now awaited in
        let tells : reply_tells (wants_mark Resync side.resync.stage) (resync_ask true side.resync.stage) exchange.reply outcome ≡ true =
        subst (λ b. reply_tells (wants_mark Resync side.resync.stage) (resync_ask b side.resync.stage) exchange.reply outcome ≡ true)
        (commits c at)
        (subst (λ s. reply_tells (wants_mark s side.resync.stage) (resync_ask side.resync.commit side.resync.stage) exchange.reply outcome
        ≡ true) at (tells_now ask.Resync awaited outcome t)) in
        record {
          acked = λ live. never (is_live (found_stage (settled_in next))) (found_live (settled_in next)) live;
          known = λ kept knows.
              resync_knows side.resync.stage exchange.reply outcome kept (found_knows next kept knows)
              (subst (λ s. (left : Bool) → knows_at s side.resync.stage ≡ Some left → is_known_as left outcome ≡ true) at t.known) tells;
          gone = λ wants. resync_wants side.resync.stage exchange.reply outcome (found_wants next wants) tells;
          told = none_if _ (current_told after) none_now;
        }

    abbrev found : Option Bool
    found = settled_in (resync_learnt side.resync.commit side.resync.stage exchange.reply)

    pub resynced_known : seat.awaited ≡ Some ask.Resync
        → Now (record seat { stage = found_stage found; awaited = None })
        (record { wire = after; resync = resync.with_reply side.resync exchange.reply })
    resynced_known awaited =
        lift decided seat (record seat { stage = found_stage found; awaited = None }) side
        (record { wire = after; resync = resync.with_reply side.resync exchange.reply }) o refl
        (λ outcome c t.
        subst (λ b. IsTold (record seat { stage = found_stage (settled_in (resync_learnt b side.resync.stage exchange.reply)); awaited = None })
        (record {
          wire = after;
          resync = record { commit = side.resync.commit; stage = resync_learnt b side.resync.stage exchange.reply };
        }) outcome)
        (sym (commits c (at_resync decided seat side before link exchange due_now awaited)))
        (resynced_told awaited c outcome t)) k

  -- ---- links break, and sides of links end

  pub broken_known : (commit : Bool)
      → Now (record seat { stage = broken_stage seat.stage; awaited = None }) (cut_off commit side)
  broken_known commit =
      lift decided seat (record seat { stage = broken_stage seat.stage; awaited = None }) side (cut_off commit side) o refl
      (λ outcome c t. record {
        acked = λ live. never (is_live (broken_stage seat.stage)) (broken_live seat.stage) live;
        known = λ kept knows. t.known kept (broken_knows seat.stage side.resync.stage kept knows);
        gone = λ wants. never (wants_mark (broken_stage seat.stage) _) (broken_wants seat.stage) wants;
        told = tt;
      }) k

  abbrev Kept : (Exchange → Type 0) → Option LinkState → Option LinkState → Type 0
  Kept P a b = IfSome (option_and_then way_told a) P → IfSome (option_and_then way_told b) P

  kept_found : (P : Exchange → Type 0) (found : Option LinkState) → IfSome found (λ link. Kept P (Some link) (Some (closed_link link)))
  kept_found P None = tt
  kept_found P (Some link) = λ s. s

  pub closed_known : (number : ℕ) → Now seat (with_wire side (lost side.wire number))
  closed_known number =
      lift decided seat seat side (with_wire side (lost side.wire number)) o refl
      (λ outcome c t. record {
        acked = t.acked;
        known = t.known;
        gone = t.gone;
        told = current_changed (Kept _) (λ o s. s) closed_link side.wire number (link_at side.wire number) refl
            (kept_found _ (link_at side.wire number)) t.told;
      }) k

  pub restarted_known : Now seat (with_wire side (restarted side.wire))
  restarted_known =
      lift decided seat seat side (with_wire side (restarted side.wire)) o refl
      (λ outcome c t. record {
        acked = t.acked;
        known = t.known;
        gone = t.gone;
        told = current_restarted (Kept _) (λ o s. s) (λ link s. s) side.wire t.told;
      }) k

-- ---- a verdict falls

acked_knows : (stage : Stage) (r : ResyncStage) → is_acknowledged stage ≡ true → knows_at stage r ≡ None
acked_knows stage r a = grind (arith, nat_tests)

acked_wants : (stage : Stage) (r : ResyncStage) → is_acknowledged stage ≡ true → wants_mark stage r ≡ false
acked_wants stage r a = grind (arith, nat_tests)

no_ask : (way : Way) → ask_on way ≡ None → told_on_way way ≡ None
no_ask Quiet e = refl
no_ask (Asked request) e = refl
no_ask (Told exchange) e = absurd (let g : Some (ask_of exchange.request) ≡ None = e in cc)

no_told : (found : Option LinkState) → option_and_then way_ask found ≡ None → option_and_then way_told found ≡ None
no_told None e = refl
no_told (Some link) e = no_ask link.way e

pub decided_known : (v : Verdict) (seat : Seat) (side : SideState) (o : Option Outcome) → GoesWith None seat side
    → (to_commit (Some v) ≡ true → seat.is_member ≡ true → (is_acknowledged seat.stage ≡ true) × (seat.awaited ≡ None))
    → IsKnown (Some v) (decided_seat v seat) (anew (is_commit v) side) o
decided_known v seat side None before ready = tt
decided_known verdict.Commit seat side (Some outcome) before ready = λ c member.
    let a : is_acknowledged seat.stage ≡ true = (ready c member).0 in
    record {
      acked = λ live. a;
      known = λ kept knows. absurd (let g : None ≡ Some kept = sym (acked_knows seat.stage _ a) ∙ knows in cc);
      gone = λ wants. never (wants_mark seat.stage _) (acked_wants seat.stage _ a) wants;
      told = none_if _ (current_told side.wire)
          (no_told (current_link side.wire) (sym before.asked ∙ ap (option_map (asked_in_fact side.resync)) (ready c member).1));
    }
decided_known (verdict.Abort why) seat side (Some outcome) before ready = λ c member. absurd (let g : false ≡ true = c in cc)
