-- What each event keeps of what is known of a device and of the links to it.
use Rattle.std.proofs.Common.{◌≡◌, ◌∙◌, ℕ, Bool, true, false, not, cond, Option, Some, None, IfSome, is_some, option_map, option_and_then, refl, sym, ap, arith}
use Rattle.std.proofs.lemmas.Bool.Decides.{nat_tests}
use Rattle.nm_proto.specs.declared.ask.Ask.{Ask}
use Rattle.nm_proto.specs.declared.ask.Ask.TheVariants as ask
use Rattle.nm_proto.specs.declared.message.Request.{Request}
use Rattle.nm_proto.specs.declared.journal.Verdict.{Verdict}
use Rattle.nm_proto.specs.declared.journal.Verdict.TheVariants as verdict
use Rattle.nm_decider_stage.specs.declared.stage.Stage.{Stage}
use Rattle.nm_decider_stage.specs.declared.stage.Stage.TheVariants.{Live, Resync}
use Rattle.nm_decider_stage.specs.Stages.{next_ask, learnt, broken_stage}
use Rattle.nm_decider.specs.declared.seat.Seat.{Seat}
use Rattle.nm_decider.specs.Course.{seat_of, decided_seat}
use Rattle.nm_resync.specs.declared.resync.ResyncStage.{ResyncStage}
use Rattle.nm_resync.specs.declared.resync.ResyncStage.TheVariants.{Opening}
use Rattle.nm_resync.specs.Resync.{ResyncState, fresh_resync, resync_ask, resync_learnt, settled_in}
use Rattle.nm_resync.specs.Resync as resync
use Rattle.nm_wire.specs.declared.link.Exchange.{Exchange}
use Rattle.nm_wire.specs.declared.link.Way.{Way}
use Rattle.nm_wire.specs.declared.link.Way.TheVariants.{Quiet, Asked, Told}
use Rattle.nm_wire.specs.Asks.{ask_of}
use Rattle.nm_wire.specs.Link.{LinkState, is_quiet_way, told_on_way, handled_on, ends}
use Rattle.nm_wire.specs.Words.{ask_on}
use Rattle.nm_wire.specs.Wire.{WireState, current_link, link_at, is_quiet_link, sent, handled_at}
use Rattle.nm_manager.specs.Slot.{SideState, with_wire, asked_in_fact, opens, may_go, gone, is_resync, anew, cut_off, is_commit, to_commit}
use Rattle.nm_safety.specs.Step.{GoesWith, way_ask, way_told, current_ask, current_told, is_fair, may_stand, fits_stage, resyncs_rightly, awaits_rightly, may_await, has_link, answers_ask, has_number}
use Rattle.nm_safety.proofs.Wires.{current_begun, current_sent, IsDue, current_handled, handled_quiet}
use Rattle.nm_safety.proofs.Tables.{both, next_linked, ends_ask, ends_by_ask, stage_heard, stage_stands, stage_fits, found_stage, awaits_resync_alone, resync_is_decided, resync_heard, resync_stands, resync_fits, resync_goes_on, decided_stage, decided_stands, decided_fits, decided_awaits, decided_linked_as, undecided_asks, broken_stands, fresh_fits, broken_linked}

-- ---- a request goes out

quiet_way : (way : Way) → ask_on way ≡ None → is_quiet_way way ≡ true
quiet_way Quiet h = refl
quiet_way (Asked request) h = absurd (let e : Some (ask_of request) ≡ None = h in cc)
quiet_way (Told exchange) h = absurd (let e : Some (ask_of exchange.request) ≡ None = h in cc)

quiet_link : (found : Option LinkState) → is_some found ≡ true → option_and_then way_ask found ≡ None → is_quiet_link found ≡ true
quiet_link None s h = absurd (let e : false ≡ true = s in cc)
quiet_link (Some link) s h = quiet_way link.way h

sent_ask : (wire : WireState) (request : Request) (found : Option LinkState) → current_link wire ≡ found → is_quiet_link found ≡ true → current_ask (sent wire request) ≡ Some (ask_of request)
sent_ask wire request None e h = absurd (let g : false ≡ true = h in cc)
sent_ask wire request (Some link) e h = ap (option_and_then way_ask) (current_sent wire request link e)

sent_told : (wire : WireState) (request : Request) (found : Option LinkState) → current_link wire ≡ found → is_quiet_link found ≡ true → current_told (sent wire request) ≡ None
sent_told wire request None e h = absurd (let g : false ≡ true = h in cc)
sent_told wire request (Some link) e h = ap (option_and_then way_told) (current_sent wire request link e)

pub gone_ask : (new : Bool) (wire : WireState) (request : Request) → may_go new wire ≡ true → current_ask (gone new wire request) ≡ Some (ask_of request)
gone_ask true wire request h = ap (option_and_then way_ask) (current_begun wire request)
gone_ask false wire request h = sent_ask wire request (current_link wire) refl h

pub gone_told : (new : Bool) (wire : WireState) (request : Request) → may_go new wire ≡ true → current_told (gone new wire request) ≡ None
gone_told true wire request h = ap (option_and_then way_told) (current_begun wire request)
gone_told false wire request h = sent_told wire request (current_link wire) refl h

none_told : (told : Option Exchange) → told ≡ None → IfSome told (λ exchange. is_fair exchange ≡ true)
none_told None h = search
none_told (Some exchange) h = absurd (let e : Some exchange ≡ None = h in cc)

module _ (decided : Option Verdict) (seat : Seat) (side : SideState) (before : GoesWith decided seat side) where
  quiet_now : seat.awaited ≡ None → current_ask side.wire ≡ None
  quiet_now quiet = sym before.asked ∙ ap (option_map (asked_in_fact side.resync)) quiet

  ready : seat.awaited ≡ None → has_link seat.stage side.resync.stage ≡ true → is_quiet_link (current_link side.wire) ≡ true
  ready quiet has = quiet_link (current_link side.wire) (before.linked quiet ∙ has) (quiet_now quiet)

  goes_if : (new : Bool) → seat.awaited ≡ None → (new ≡ false → has_link seat.stage side.resync.stage ≡ true) → may_go new side.wire ≡ true
  goes_if true quiet has = refl
  goes_if false quiet has = ready quiet (has refl)

  -- what is asked next may go out
  pub next_goes : (what : Ask) → seat.awaited ≡ None → next_ask decided seat.stage ≡ Some what → may_go (opens (asked_in_fact side.resync what)) side.wire ≡ true
  next_goes what quiet next = goes_if (opens (asked_in_fact side.resync what)) quiet (λ e. next_linked decided seat.stage side.resync what next e)

  -- and so may anything else where there is a link and nothing is awaited
  pub goes_now : seat.awaited ≡ None → ((resync : ResyncStage) → has_link seat.stage resync ≡ true) → may_go false side.wire ≡ true
  goes_now quiet has = ready quiet (has side.resync.stage)

  -- a request is on its way, and awaited
  module _ (what : Ask) (new : Bool) (request : Request) (count : ℕ) where
    pub out_goes : seat.is_member ≡ true → may_go new side.wire ≡ true → may_await decided seat.stage what ≡ true → ask_of request ≡ asked_in_fact side.resync what
        → GoesWith decided (record seat { awaited = Some what; sent = count }) (with_wire side (gone new side.wire request))
    out_goes member goes may is = record {
      stands = before.stands;
      resyncs = before.resyncs;
      awaits = may;
      asked = sym (gone_ask new side.wire request goes ∙ ap Some is);
      linked = λ e. absurd (let g : Some what ≡ None = e in cc);
      member = λ e. member;
      fair = none_told (current_told (gone new side.wire request)) (gone_told new side.wire request goes);
    }

-- ---- a reply is handled

-- the link on which it stands, and what is left of it
told_here : (wire : WireState) (link : ℕ) (exchange : Exchange) (d : IsDue wire link exchange) → current_link wire ≡ Some d.held
told_here wire link exchange d = ap (option_and_then (link_at wire)) d.current ∙ d.here

now_ask : (b : Bool) (held : LinkState) → held.way ≡ Quiet → option_and_then way_ask (cond b None (Some held)) ≡ None
now_ask true held q = refl
now_ask false held q = ap ask_on q

now_told : (b : Bool) (held : LinkState) → held.way ≡ Quiet → option_and_then way_told (cond b None (Some held)) ≡ None
now_told true held q = refl
now_told false held q = ap told_on_way q

now_some : (b : Bool) (held : LinkState) → is_some (cond b None (Some held)) ≡ not b
now_some true held = refl
now_some false held = refl

is_there : (told : Option Exchange) (exchange : Exchange) → told ≡ Some exchange → IfSome told (λ exchange. is_fair exchange ≡ true) → is_fair exchange ≡ true
is_there None exchange e f = absurd (let g : None ≡ Some exchange = e in cc)
is_there (Some other) exchange e f = let g : other ≡ exchange = cc in ap is_fair (sym g) ∙ f

was_current : (b : Bool) (current : Option ℕ) → is_some (cond b None current) ≡ true → is_some current ≡ true
was_current true current h = absurd (let e : false ≡ true = h in cc)
was_current false current h = h

module _ (decided : Option Verdict) (seat : Seat) (side : SideState) (before : GoesWith decided seat side) (link : ℕ) (exchange : Exchange) (due_now : IsDue side.wire link exchange) where
  pub told_ask : current_ask side.wire ≡ Some (ask_of exchange.request)
  told_ask = ap (option_and_then way_ask) (told_here side.wire link exchange due_now) ∙ ap ask_on due_now.way

  is_fair_now : is_fair exchange ≡ true
  is_fair_now = is_there (current_told side.wire) exchange (ap (option_and_then way_told) (told_here side.wire link exchange due_now) ∙ ap told_on_way due_now.way) before.fair

  pub fair_number : has_number exchange.reply ≡ true
  fair_number = (both (answers_ask (ask_of exchange.request) exchange.reply) (has_number exchange.reply) is_fair_now).1

  fair_now : answers_ask (ask_of exchange.request) exchange.reply ≡ true
  fair_now = (both (answers_ask (ask_of exchange.request) exchange.reply) (has_number exchange.reply) is_fair_now).0

  abbrev pub after : WireState
  after = handled_at side.wire link (Some exchange)

  quiet_after : (handled_on due_now.held).way ≡ Quiet
  quiet_after = handled_quiet due_now.held exchange due_now.way

  -- a reply is handled, and this is known then
  heard_as : (stage : Stage) (resync : ResyncState) → may_stand decided stage ≡ true → fits_stage decided stage resync ≡ true
      → not (ends_ask (ask_of exchange.request) exchange.reply) ≡ has_link stage resync.stage
      → GoesWith decided (record seat { stage = stage; awaited = None }) (record { wire = after; resync = resync })
  heard_as stage resync stands fits links =
      let now : current_link after ≡ cond (ends exchange.request exchange.reply) None (Some (handled_on due_now.held)) = current_handled side.wire link exchange due_now in
      record {
        stands = stands;
        resyncs = fits;
        awaits = refl;
        asked = sym (ap (option_and_then way_ask) now ∙ now_ask (ends exchange.request exchange.reply) (handled_on due_now.held) quiet_after);
        linked = λ e. ap is_some now ∙ now_some (ends exchange.request exchange.reply) (handled_on due_now.held) ∙ ap not (ends_by_ask exchange.request exchange.reply) ∙ links;
        member = λ e. before.member (was_current (ends exchange.request exchange.reply) side.wire.current e);
        fair = none_told (current_told after) (ap (option_and_then way_told) now ∙ now_told (ends exchange.request exchange.reply) (handled_on due_now.held) quiet_after);
      }

  module _ (what : Ask) (awaited : seat.awaited ≡ Some what) where
    pub asked_is : asked_in_fact side.resync what ≡ ask_of exchange.request
    asked_is =
        let e : Some (asked_in_fact side.resync what) ≡ Some (ask_of exchange.request) = sym (ap (option_map (asked_in_fact side.resync)) awaited) ∙ before.asked ∙ told_ask in cc

    pub may_now : may_await decided seat.stage what ≡ true
    may_now = sym (ap (awaits_rightly decided seat.stage) awaited) ∙ before.awaits

    pub heard_goes : is_resync (Some what) ≡ false → GoesWith decided (record seat { stage = learnt decided seat.stage what exchange.reply; awaited = None }) (record { wire = after; resync = side.resync })
    heard_goes other =
        let is : what ≡ ask_of exchange.request = sym (plain what other) ∙ asked_is in
        heard_as (learnt decided seat.stage what exchange.reply) side.resync (stage_stands decided seat.stage what exchange.reply before.stands may_now)
        (stage_fits decided seat.stage what exchange.reply side.resync before.resyncs)
        (ap (λ a. not (ends_ask a exchange.reply)) (sym is) ∙ stage_heard decided seat.stage what exchange.reply side.resync.stage before.stands may_now other (ap (λ a. answers_ask a exchange.reply) is ∙ fair_now))
      where
        plain : (what : Ask) → is_resync (Some what) ≡ false → asked_in_fact side.resync what ≡ what
        plain what other = grind (arith, nat_tests)

  module _ (awaited : seat.awaited ≡ Some ask.Resync) where
    pub at_resync : seat.stage ≡ Resync
    at_resync = awaits_resync_alone decided seat.stage (may_now ask.Resync awaited)

    rightly : resyncs_rightly decided side.resync ≡ true
    rightly = sym (ap (λ stage. fits_stage decided stage side.resync) at_resync) ∙ before.resyncs

    pub has_verdict : is_some decided ≡ true
    has_verdict = resync_is_decided decided (sym (ap (λ stage. may_await decided stage ask.Resync) at_resync) ∙ may_now ask.Resync awaited)

    pub resynced_goes : GoesWith decided (record seat { stage = found_stage (settled_in (resync_learnt side.resync.commit side.resync.stage exchange.reply)); awaited = None })
        (record { wire = after; resync = resync.with_reply side.resync exchange.reply })
    resynced_goes =
        let is : resync_ask side.resync.commit side.resync.stage ≡ ask_of exchange.request = asked_is ask.Resync awaited in
        heard_as (found_stage (settled_in (resync_learnt side.resync.commit side.resync.stage exchange.reply))) (resync.with_reply side.resync exchange.reply)
        (resync_stands decided side.resync.commit side.resync.stage exchange.reply has_verdict rightly)
        (resync_fits decided side.resync.commit side.resync.stage exchange.reply has_verdict rightly)
        (ap (λ a. not (ends_ask a exchange.reply)) (sym is) ∙ resync_heard side.resync.commit side.resync.stage exchange.reply
        (resync_goes_on decided side.resync.commit side.resync.stage has_verdict rightly) (ap (λ a. answers_ask a exchange.reply) is ∙ fair_now))

-- ---- a verdict falls

same_asked : (awaited : Option Ask) (stage : Stage) (one other : ResyncState) → awaits_rightly None stage awaited ≡ true → option_map (asked_in_fact other) awaited ≡ option_map (asked_in_fact one) awaited
same_asked None stage one other a = refl
same_asked (Some what) stage one other a = ap Some (undecided_asks stage what other one a)

pub decided_as : (v : Verdict) (seat : Seat) (side : SideState) → GoesWith None seat side
    → GoesWith (Some v) (record seat { stage = decided_stage v (is_some seat.awaited) seat.stage; sent = 0 }) (anew (is_commit v) side)
decided_as v seat side before = record {
  stands = decided_stands v (is_some seat.awaited) seat.stage before.stands;
  resyncs = decided_fits v (is_some seat.awaited) seat.stage before.stands;
  awaits = decided_awaits v seat.awaited seat.stage before.awaits;
  asked = same_asked seat.awaited seat.stage side.resync (fresh_resync (is_commit v)) before.awaits ∙ before.asked;
  linked = λ quiet. before.linked quiet ∙ decided_linked_as v seat.stage side.resync before.resyncs ∙ ap (λ a. has_link (decided_stage v (is_some a) seat.stage) Opening) (sym quiet);
  member = before.member;
  fair = before.fair;
}

pub decided_goes : (v : Verdict) (seat : Seat) (side : SideState) → GoesWith None seat side → GoesWith (Some v) (decided_seat v seat) (anew (is_commit v) side)
decided_goes verdict.Commit seat side before = decided_as verdict.Commit seat side before
decided_goes (verdict.Abort why) seat side before = decided_as (verdict.Abort why) seat side before

-- ---- a link breaks, and memory is lost

-- without a current link
cut_goes : (decided : Option Verdict) (commit : Bool) (seat : Seat) (side : SideState) → may_stand decided seat.stage ≡ true → fits_stage decided seat.stage (fresh_resync commit) ≡ true
    → seat.awaited ≡ None → false ≡ has_link seat.stage Opening → GoesWith decided seat (cut_off commit side)
cut_goes decided commit seat side stands fits quiet links = record {
  stands = stands;
  resyncs = fits;
  awaits = ap (awaits_rightly decided seat.stage) quiet;
  asked = ap (option_map (asked_in_fact (fresh_resync commit))) quiet;
  linked = λ e. links;
  member = λ e. absurd (let g : false ≡ true = e in cc);
  fair = search;
}

pub broke_goes : (decided : Option Verdict) (seat : Seat) (side : SideState) → GoesWith decided seat side
    → GoesWith decided (record seat { stage = broken_stage seat.stage; awaited = None }) (cut_off (to_commit decided) side)
broke_goes decided seat side before =
    cut_goes decided (to_commit decided) (record seat { stage = broken_stage seat.stage; awaited = None }) side (broken_stands decided seat.stage before.stands)
    (fresh_fits decided (broken_stage seat.stage)) refl (broken_linked seat.stage)

pub lost_goes : (decided : Option Verdict) (devices device : ℕ) (side : SideState) → GoesWith decided (seat_of devices Resync device) (cut_off (to_commit decided) side)
lost_goes decided devices device side = cut_goes decided (to_commit decided) (seat_of devices Resync device) side refl (fresh_fits decided Resync) refl refl

pub new_goes : (commit : Bool) (devices device : ℕ) (side : SideState) → GoesWith None (seat_of devices (Live 0) device) (cut_off commit side)
new_goes commit devices device side = cut_goes None commit (seat_of devices (Live 0) device) side refl refl refl refl

-- ---- what happens at the device's side

-- the current link has changed, and what stands on it is the same
pub record IsAsBefore (before after : WireState) : Type 0 where
  pub current : after.current ≡ before.current
  pub link : is_some (current_link after) ≡ is_some (current_link before)
  pub asks : current_ask after ≡ current_ask before
  pub fair : IfSome (current_told before) (λ exchange. is_fair exchange ≡ true) → IfSome (current_told after) (λ exchange. is_fair exchange ≡ true)

pub wire_goes : (decided : Option Verdict) (seat : Seat) (side : SideState) (now : WireState) → IsAsBefore side.wire now → GoesWith decided seat side → GoesWith decided seat (with_wire side now)
wire_goes decided seat side now same before = record {
  stands = before.stands;
  resyncs = before.resyncs;
  awaits = before.awaits;
  asked = before.asked ∙ sym same.asks;
  linked = λ quiet. same.link ∙ before.linked quiet;
  member = λ e. before.member (sym (ap is_some same.current) ∙ e);
  fair = same.fair before.fair;
}
