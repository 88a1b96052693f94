-- Why a reply makes the manager abort.
use Rattle.std.proofs.Common.{◌≡◌, ◌∙◌, ℕ, Bool, true, false, cond, List, Contains, Option, Some, None, IfSome, option_map, option_and_then, refl}
use Rattle.std.proofs.Common.{sym, ap, subst, arith}
use Rattle.std.proofs.lemmas.Bool.Decides.{nat_tests}
use Rattle.std.proofs.lemmas.Option.{none-some, same_Some}
use Rattle.nm_base.specs.declared.tag.Tag.{Tag}
use Rattle.nm_proto.specs.declared.ask.Ask.{Ask}
use Rattle.nm_proto.specs.declared.ask.Ask.TheVariants as ask
use Rattle.nm_proto.specs.declared.message.Reply.{Reply}
use Rattle.nm_proto.specs.declared.message.Request.{Request}
use Rattle.nm_proto.specs.declared.message.Reply.TheVariants.{Done, Opened, LockId, Mark, Rows, Error}
use Rattle.nm_proto.specs.declared.journal.AbortCause.{AbortCause}
use Rattle.nm_proto.specs.declared.journal.AbortCause.TheVariants as cause
use Rattle.nm_device.specs.Table.{opening_user}
use Rattle.nm_decider_stage.specs.Stages.{fits, tag_in, is_error, trouble_in}
use Rattle.nm_history.specs.declared.event.DeviceEvent.{DeviceEvent}
use Rattle.nm_history.specs.declared.event.Noted.{Noted}
use Rattle.nm_history.specs.History.{event_by}
use Rattle.nm_wire.specs.declared.link.Exchange.{Exchange}
use Rattle.nm_wire.specs.Asks.{ask_of}
use Rattle.nm_wire.specs.Wire.{WireState, link_at, session_at}
use Rattle.nm_wire.specs.Words.{ask_on}
use Rattle.nm_resync.specs.Resync.{ResyncState}
use Rattle.nm_manager.specs.Slot.{asked_in_fact}
use Rattle.nm_safety.specs.Delivered.{is_answer}
use Rattle.nm_safety.specs.Step.{current_ask, way_ask}
use Rattle.nm_safety.proofs.Basics.{never}
use Rattle.nm_safety.proofs.Wires.{IsDue}
use Rattle.nm_outcome_laws.specs.Causes.{exchanges_at, IsNoted, error_tag, is_bringing, is_renewing, WasRefused, HasLapsed}

-- ---- what is noted of an exchange

-- it is one of the device's, and is answered as the manager expects
pub record IsAnswered (session : Option ℕ) (exchange : Exchange) (history : List Noted) : Type 0 where
  pub noted : IsNoted session exchange history
  pub answer : is_answer (ask_of exchange.request) exchange.reply ≡ true

asked_by : (session now : Option ℕ) (request : Request) (user : Option (List ℕ)) (event : DeviceEvent) → ((one : ℕ) → session ≡ Some one → now ≡ Some one)
    → event_by session request user ≡ Some event → event_by now request user ≡ Some event
asked_by session now request (Some user) event goes e = e
asked_by None now request None event goes e = absurd (none-some event e)
asked_by (Some one) now request None event goes e = ap (λ o. event_by o request None) (goes one refl) ∙ e

module _ (session now : Option ℕ) (exchange : Exchange) (history later : List Noted) (goes : (one : ℕ) → session ≡ Some one → now ≡ Some one)
    (grows : (entry : Noted) → Contains history entry → Contains later entry) where
  -- it stays noted
  pub noted_stays : IsNoted session exchange history → IsNoted now exchange later
  noted_stays n = record {
    entry = n.entry;
    there = grows n.entry n.there;
    asked = asked_by session now exchange.request (opening_user exchange.request) n.entry.event goes n.asked;
    opened = n.opened;
    replied = n.replied;
  }

  pub answered_stays : IsAnswered session exchange history → IsAnswered now exchange later
  answered_stays a = record { noted = noted_stays a.noted; answer = a.answer }

-- a refusal stays one
pub refused_stays : (asks : Ask → Bool) (tag : Tag) (wire next : WireState) (history later : List Noted)
    → ((link : ℕ) (x : Exchange) → Contains (exchanges_at wire link) x → Contains (exchanges_at next link) x)
    → ((link one : ℕ) → session_at wire link ≡ Some one → session_at next link ≡ Some one)
    → ((entry : Noted) → Contains history entry → Contains later entry) → WasRefused asks tag wire history
    → WasRefused asks tag next later
refused_stays asks tag wire next history later told goes grows r = record {
  link = r.link;
  exchange = r.exchange;
  told = told r.link r.exchange r.told;
  kind = r.kind;
  error = r.error;
  noted = noted_stays (session_at wire r.link) (session_at next r.link) r.exchange history later (goes r.link) grows r.noted;
}

-- ---- what is awaited is what was asked

pub asked_now : (wire : WireState) (link : ℕ) (x : Exchange) (resync : ResyncState) (what : Ask) (awaited : Option Ask) → IsDue wire link x
    → option_map (asked_in_fact resync) awaited ≡ current_ask wire → awaited ≡ Some what
    → ask_of x.request ≡ asked_in_fact resync what
asked_now wire link x resync what awaited d asked e =
    let now : current_ask wire ≡ Some (ask_of x.request) =
    ap (option_and_then way_ask) (ap (option_and_then (link_at wire)) d.current ∙ d.here) ∙ ap ask_on d.way in
    same_Some (ask_of x.request) (asked_in_fact resync what) (sym now ∙ sym asked ∙ ap (option_map (asked_in_fact resync)) e)

-- ---- tables

unfit_error : (what : Ask) (reply : Reply) → is_answer what reply ≡ true → fits what reply ≡ false → is_error reply ≡ true
unfit_error what reply a f = grind (arith, nat_tests)

tag_there : (reply : Reply) → is_error reply ≡ true → error_tag reply ≡ Some (tag_in reply)
tag_there (Error tag session path) e = refl
tag_there Done e = never e
tag_there (Opened session) e = never e
tag_there (LockId id) e = never e
tag_there (Mark there) e = never e
tag_there (Rows count) e = never e

module _ (device link : ℕ) (x : Exchange) (wire : WireState) (history : List Noted) (told : Contains (exchanges_at wire link) x)
    (answered : IsAnswered (session_at wire link) x history) (Q : AbortCause → Type 0)
    (refused : (tag : Tag) → WasRefused is_bringing tag wire history → Q (cause.Refused device tag))
    (lapsed : HasLapsed wire history → Q (cause.Lapsed device)) where
  refused_by : (asks : Ask → Bool) → asks (ask_of x.request) ≡ true → is_error x.reply ≡ true → WasRefused asks (tag_in x.reply) wire history
  refused_by asks kind e = record { link = link; exchange = x; told = told; kind = kind; error = tag_there x.reply e; noted = answered.noted }

  brings : (what : Ask) → ask_of x.request ≡ what → is_bringing what ≡ true → (b : Bool) → fits what x.reply ≡ b
      → IfSome (cond b None (Some (cause.Refused device (tag_in x.reply)))) Q
  brings what same kind true e = tt
  brings what same kind false e =
      refused (tag_in x.reply)
      (refused_by is_bringing (ap is_bringing same ∙ kind) (unfit_error what x.reply (subst (λ asked. is_answer asked x.reply ≡ true) same answered.answer) e))

  renews_by : ask_of x.request ≡ ask.Renew → (b : Bool) → is_error x.reply ≡ b → IfSome (cond b (Some (cause.Lapsed device)) None) Q
  renews_by same true e = lapsed (record { tag = tag_in x.reply; refused = refused_by is_renewing (ap is_renewing same) e })
  renews_by same false e = tt

  -- what the manager notes of a reply has its cause
  pub reply_causes : (resync : ResyncState) (what : Ask) → ask_of x.request ≡ asked_in_fact resync what → IfSome (trouble_in device what x.reply) Q
  reply_causes resync ask.OpenSession same = brings ask.OpenSession same refl (fits ask.OpenSession x.reply) refl
  reply_causes resync ask.LockRunning same = brings ask.LockRunning same refl (fits ask.LockRunning x.reply) refl
  reply_causes resync ask.LockCandidate same = brings ask.LockCandidate same refl (fits ask.LockCandidate x.reply) refl
  reply_causes resync ask.Edit same = brings ask.Edit same refl (fits ask.Edit x.reply) refl
  reply_causes resync ask.Validate same = brings ask.Validate same refl (fits ask.Validate x.reply) refl
  reply_causes resync ask.CommitConfirmed same = brings ask.CommitConfirmed same refl (fits ask.CommitConfirmed x.reply) refl
  reply_causes resync ask.Renew same = renews_by same (is_error x.reply) refl
  reply_causes resync ask.Confirm same = tt
  reply_causes resync ask.Cancel same = tt
  reply_causes resync ask.HasMark same = tt
  reply_causes resync ask.Discard same = tt
  reply_causes resync ask.CloseSession same = tt
  reply_causes resync ask.Resync same = tt
