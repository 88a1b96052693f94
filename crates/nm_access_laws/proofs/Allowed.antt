-- Each elementary event keeps that operators act by themselves, and that what reached devices of all that they ask was allowed.
use Rattle.std.proofs.Common.{◌≡◌, ◌∙◌, ◌-◌, ◌≤◌, ℕ, zero, suc, Bool, true, false, List, Option, None, Some, IfSome, is_some, length, slice_get, slice_set, refl, sym, ap, subst, arith}
use Rattle.std.specs.List.{All}
use Rattle.std.proofs.lemmas.Option.{same_Some}
use Rattle.nm_proto.specs.Content.{Meaning, Laws}
use Rattle.nm_proto.specs.declared.message.Reply.{Reply}
use Rattle.nm_proto.specs.declared.message.Reply.TheVariants.{Done, Opened, LockId, Mark, Rows, Error}
use Rattle.nm_proto.specs.declared.message.Request.{Request}
use Rattle.nm_proto.specs.declared.message.Request.TheVariants.{OpenSession}
use Rattle.nm_proto.specs.declared.plan.ChangePlan.{ChangePlan}
use Rattle.nm_proto.specs.declared.plan.Event.{Event}
use Rattle.nm_proto.specs.declared.plan.Event.TheVariants.{Foreign}
use Rattle.nm_sessions.specs.Sessions.{is_open, user_of}
use Rattle.nm_device.specs.Device.{DeviceState, is_manager}
use Rattle.nm_device.specs.Table.{device_step, opening_user}
use Rattle.nm_history.specs.declared.event.DeviceEvent.{DeviceEvent}
use Rattle.nm_history.specs.declared.event.DeviceEvent.TheVariants.{Entered, Asked, Lost, Advanced, Restarted}
use Rattle.nm_history.specs.declared.event.Noted.{Noted}
use Rattle.nm_history.specs.History.{Happened, RecordedState, advancing, noted, recorded_with, restarting}
use Rattle.nm_device_laws.specs.Moment.{Happens}
use Rattle.nm_device_laws.specs.Own.{Opens}
use Rattle.nm_device_laws.proofs.Events.{is_asked}
use Rattle.nm_device_laws.proofs.Owns.{opens}
use Rattle.nm_wire.specs.Link.{session_in, session_of}
use Rattle.nm_wire.specs.Wire.{outstanding_at}
use Rattle.nm_permitted.specs.declared.judge.Denial.{Denial}
use Rattle.nm_world.specs.World.{Setting, CoreState, WorldState, Came, core_of, given_on, with_opened, with_session}
use Rattle.nm_safety.specs.Along.{HistoryAt}
use Rattle.nm_safety.specs.Support.{IsDevice, IsSupported}
use Rattle.nm_safety.specs.Cases.{Answers, Cases, IsLink, IsOperating}
use Rattle.nm_safety.specs.Keeping.{is_silent}
use Rattle.nm_safety.proofs.Along.{history_push}
use Rattle.nm_safety.proofs.Facts.{SupportedIn, delivery}
use Rattle.nm_safety.proofs.Lists.{at_set, some_is}
use Rattle.nm_safety.proofs.Managed.{planned_by}
use Rattle.nm_safety.proofs.Places.{set_same}
use Rattle.nm_safety.proofs.Replies.{step_plain}
use Rattle.nm_access_laws.specs.Allowed.{AreAllowed, AreOwn, IsAllowed, IsOwn, Permits}
use Rattle.nm_access_laws.proofs.Users.{users_given, users_stay}

-- a request of an operator is permitted. Whatever else happens isn't judged here
abbrev pub Goes : {Config Node : Type 0} → (CoreState Config Node → Event → Option Denial) → CoreState Config Node → Event → Type 0
Goes judge w (Foreign number device request) = (1 ≤ number) × (judge w (Foreign number device request) ≡ None)
Goes judge w event = Unit {0}

-- what nobody asks for is no request
silent_allowed : {Config Node : Type 0} (May : List ℕ → DeviceState Config Node → Request → Type 0) (s : DeviceState Config Node) (event : DeviceEvent) (h : Happened Config Node)
    → is_silent event ≡ true → IsAllowed May s (noted event h)
silent_allowed May s (Entered user) h silent session request name asked = absurd (let g : false ≡ true = silent in cc)
silent_allowed May s (Asked t other) h silent session request name asked = absurd (let g : false ≡ true = silent in cc)
silent_allowed May s (Lost t) h silent session request name asked = absurd cc
silent_allowed May s (Advanced seconds) h silent session request name asked = absurd cc
silent_allowed May s Restarted h silent session request name asked = absurd cc

entered_allowed : {Config Node : Type 0} (May : List ℕ → DeviceState Config Node → Request → Type 0) (s : DeviceState Config Node) (user : List ℕ) (h : Happened Config Node)
    → IsAllowed May s (noted (Entered user) h)
entered_allowed May s user h session request name asked = absurd cc

module _ {Config TheEdit Node : Type 0} (m : Meaning Config TheEdit Node) (setting : Setting TheEdit) (running : List Config)
    (May : List ℕ → DeviceState Config Node → Request → Type 0) where
  -- operators act by themselves, and what reached devices of what they ask was allowed
  pub record Kept (c : CoreState Config Node) : Type 0 where
    pub users : AreOwn setting c
    pub asked : AreAllowed m setting May running c

module _ {Config TheEdit Node : Type 0} (m : Meaning Config TheEdit Node) (setting : Setting TheEdit) (few : length setting.plans ≤ 64) (running : List Config)
    (May : List ℕ → DeviceState Config Node → Request → Type 0) (judge : CoreState Config Node → Event → Option Denial) (permits : Permits May setting judge)
    (w : WorldState Config Node) (s : SupportedIn m setting w) (own : AreOwn setting (core_of w)) (allowed : AreAllowed m setting May running (core_of w)) where
  abbrev pub Keeps : Event → Came Config Node → Type 0
  Keeps event c = Goes judge (core_of w) event → Kept m setting running May c.after

  as_before : Kept m setting running May (core_of w)
  as_before = record { users = own; asked = allowed }

  -- something happens at a device
  module _ (d : ℕ) (r : RecordedState Config Node) (here : slice_get w.devices d ≡ Some r) (event : DeviceEvent) (h : Happened Config Node) (happens : Happens m setting.tables r.device event h)
      (new : IsAllowed May r.device (noted event h)) where
    allowed_then : (place : ℕ) → IfSome (slice_get (slice_set w.devices d (recorded_with r event h)) place) (HistoryAt m setting.tables (IsAllowed May) running place)
    allowed_then place =
        at_set (HistoryAt m setting.tables (IsAllowed May) running) w.devices d r (recorded_with r event h) here
        (history_push m setting.tables (IsAllowed May) running d r event h happens new
        (some_is r (HistoryAt m setting.tables (IsAllowed May) running d) (slice_get w.devices d) here (allowed d))) allowed place

    own_then : (place : ℕ) → IfSome (slice_get w.operators place) (λ operator. (j : ℕ) → IfSome (slice_get (slice_set w.devices d (recorded_with r event h)) j) (IsOwn setting place operator j))
    own_then = users_stay m setting (core_of w) s own d r here event h happens

  -- ---- the manager's requests

  module _ (change device link : ℕ) (l : IsLink (core_of w) change device link) (request : Request) (out : outstanding_at l.side.wire link ≡ Some request)
      (session : ℕ) (is : session_of l.one ≡ Some session) (h : Happened Config Node) (happens : Happens m setting.tables l.r.device (Asked session request) h) where
    managed_by : (plan : ChangePlan) → slice_get setting.plans (change - 1) ≡ Some plan → is_manager (user_of l.r.device.sessions session) ≡ true
    managed_by plan planned =
        let x = delivery m setting (SupportedIn m setting) w s s few change device link l plan planned request out in
        let mine = (x.owned (x.link - 1) x.one x.at_place).session session is in
        x.known.users session (is_asked m setting.tables l.r.device session request h happens).asker ∙ ap is_some mine

    managed : is_manager (user_of l.r.device.sessions session) ≡ true
    managed =
        planned_by m setting (core_of w) s change l.numbered l.slot (is_manager (user_of l.r.device.sessions session) ≡ true) l.there managed_by (slice_get setting.plans (change - 1)) refl

    managed_allowed : IsAllowed May l.r.device (noted (Asked session request) h)
    managed_allowed t other name asked user stranger =
        let same : session ≡ t = cc in
        absurd (let no : true ≡ false = sym managed ∙ ap (λ u. is_manager (user_of l.r.device.sessions u)) same ∙ ap is_manager user ∙ stranger in cc)

  -- ---- operators' requests

  module _ (number device : ℕ) (a : IsOperating (core_of w) number device) where
    own_here : IsOwn setting (number - 1) a.operator (device - 1) a.r
    own_here =
        some_is a.r (IsOwn setting (number - 1) a.operator (device - 1)) (slice_get w.devices (device - 1)) a.here
        (some_is a.operator (λ operator. (j : ℕ) → IfSome (slice_get w.devices j) (IsOwn setting (number - 1) operator j)) (slice_get w.operators (number - 1)) a.there (own (number - 1)) (device - 1))

    module _ (request : Request) (session : ℕ) (given : given_on a.operator (device - 1) ≡ Some session) (opened : is_open a.r.device.sessions session ≡ true) (h : Happened Config Node)
        (happens : Happens m setting.tables a.r.device (Asked session request) h) where
      asked_allowed : 1 ≤ number → judge (core_of w) (Foreign number device request) ≡ None → IsAllowed May a.r.device (noted (Asked session request) h)
      asked_allowed counted permitted t other name asked user stranger =
          let same : session ≡ t = cc in
          let request_is : request ≡ other = cc in
          let named : slice_get setting.users (number - 1) ≡ Some name = sym (own_here session given opened) ∙ ap (user_of a.r.device.sessions) same ∙ user in
          subst (May name a.r.device) request_is (permits.asks (core_of w) number device a request session name counted given opened named permitted)

      -- it gets no session
      no_session : (reply : Reply) → h.reply ≡ Some reply → session_in reply ≡ None
      no_session reply e =
          let does = (is_asked m setting.tables a.r.device session request h happens).does in
          let is : (device_step m setting.tables a.r.device session request).reply ≡ reply = same_Some _ reply (ap (λ one. one.reply) does ∙ e) in
          ap session_in (sym is) ∙ step_plain m setting.tables a.r.device session request

      -- whose sessions are whose, with these operators
      abbrev OwnWith : List (List (Option ℕ)) → Type 0
      OwnWith operators = (place : ℕ) → IfSome (slice_get operators place)
          (λ operator. (j : ℕ) → IfSome (slice_get (slice_set w.devices (device - 1) (recorded_with a.r (Asked session request) h)) j) (IsOwn setting place operator j))

      asked_own : (reply : Reply) → h.reply ≡ Some reply → OwnWith (slice_set w.operators (number - 1) (with_opened a.operator (device - 1) reply))
      asked_own reply e =
          subst (λ o. OwnWith (slice_set w.operators (number - 1) (with_session a.operator (device - 1) o))) (sym (no_session reply e))
          (subst OwnWith (sym (set_same w.operators (number - 1) a.operator a.there)) (users_stay m setting (core_of w) s own (device - 1) a.r a.here (Asked session request) h happens))

    module _ (user : List ℕ) (named : slice_get setting.users (number - 1) ≡ Some user) (h : Happened Config Node) (happens : Happens m setting.tables a.r.device (Entered user) h) where
      abbrev OwnAfter : List (Option ℕ) → Type 0
      OwnAfter now = (place : ℕ) → IfSome (slice_get (slice_set w.operators (number - 1) now) place)
          (λ operator. (j : ℕ) → IfSome (slice_get (slice_set w.devices (device - 1) (recorded_with a.r (Entered user) h)) j) (IsOwn setting place operator j))

      same_own : OwnAfter a.operator
      same_own =
          subst (λ operators. (place : ℕ) → IfSome (slice_get operators place)
          (λ operator. (j : ℕ) → IfSome (slice_get (slice_set w.devices (device - 1) (recorded_with a.r (Entered user) h)) j) (IsOwn setting place operator j)))
          (sym (set_same w.operators (number - 1) a.operator a.there)) (users_stay m setting (core_of w) s own (device - 1) a.r a.here (Entered user) h happens)

      opened_own : (id : ℕ) → h.reply ≡ Some (Opened id) → OwnAfter (slice_set a.operator (device - 1) (Some id))
      opened_own id e =
          let known = some_is a.r (IsDevice m (s.owners (device - 1))) (slice_get w.devices (device - 1)) a.here (s.devices (device - 1)) in
          let o : Opens user id a.r.device h.after = opens m setting.tables a.r.device known.numbered user id h happens e in
          users_given m setting (core_of w) s own (device - 1) a.r a.here (Entered user) h happens (number - 1) a.operator a.there id (o.user_is ∙ sym named)

      entered_own : (reply : Reply) → h.reply ≡ Some reply → OwnAfter (with_opened a.operator (device - 1) reply)
      entered_own (Opened id) e = opened_own id e
      entered_own Done e = same_own
      entered_own (LockId id) e = same_own
      entered_own (Mark mark) e = same_own
      entered_own (Rows count) e = same_own
      entered_own (Error tag session path) e = same_own

  -- ---- each event

  pub cases : Cases m setting (core_of w) Keeps
  cases = record {
    nothing = λ event goes. as_before;
    starts = λ change numbered plan planned may goes. record { users = own; asked = allowed };
    decides = λ change a ready v acts may goes. record { users = own; asked = allowed };
    finishes = λ change a ready kept acts may goes. record { users = own; asked = allowed };
    sends_out = λ change a ready device what acts goes. record { users = own; asked = allowed };
    renews_timer = λ change device a known ready goes. record { users = own; asked = allowed };
    hears = λ change device link number a known goes. record { users = own; asked = allowed };
    breaks_off = λ change device a known goes. record { users = own; asked = allowed };
    forgets = λ change a begun going goes. record { users = own; asked = allowed };
    crashes = λ goes. record { users = own; asked = allowed };
    tells = λ change device link l request out plain session is d goes. record {
      users = own_then (device - 1) l.r l.here (Asked session request) d.h d.happens (managed_allowed change device link l request out session is d.h d.happens);
      asked = allowed_then (device - 1) l.r l.here (Asked session request) d.h d.happens (managed_allowed change device link l request out session is d.h d.happens);
    };
    opens = λ change device link l user out d goes. record {
      users = own_then (device - 1) l.r l.here (Entered user) d.h d.happens (entered_allowed May l.r.device user d.h);
      asked = allowed_then (device - 1) l.r l.here (Entered user) d.h d.happens (entered_allowed May l.r.device user d.h);
    };
    loses_session = λ change device link l opened session is h happens goes. record {
      users = own_then (device - 1) l.r l.here (Lost session) h happens (silent_allowed May l.r.device (Lost session) h refl);
      asked = allowed_then (device - 1) l.r l.here (Lost session) h happens (silent_allowed May l.r.device (Lost session) h refl);
    };
    closes = λ change device link l opened is goes. record { users = own; asked = allowed };
    restarts = λ device r here goes. record {
      users = own_then (device - 1) r here Restarted (restarting m r.device) refl (silent_allowed May r.device Restarted (restarting m r.device) refl);
      asked = allowed_then (device - 1) r here Restarted (restarting m r.device) refl (silent_allowed May r.device Restarted (restarting m r.device) refl);
    };
    passes = λ device seconds r here goes. record {
      users = own_then (device - 1) r here (Advanced seconds) (advancing m r.device seconds) refl (silent_allowed May r.device (Advanced seconds) (advancing m r.device seconds) refl);
      asked = allowed_then (device - 1) r here (Advanced seconds) (advancing m r.device seconds) refl (silent_allowed May r.device (Advanced seconds) (advancing m r.device seconds) refl);
    };
    asks = λ number device a request plain session given opened d goes. record {
      users = asked_own number device a request session given opened d.h d.happens d.reply d.replies;
      asked = allowed_then (device - 1) a.r a.here (Asked session request) d.h d.happens (asked_allowed number device a request session given opened d.h d.happens goes.0 goes.1);
    };
    enters = λ number device a user named free d goes. record {
      users = entered_own number device a user named d.h d.happens d.reply d.replies;
      asked = allowed_then (device - 1) a.r a.here (Entered user) d.h d.happens (entered_allowed May a.r.device user d.h);
    };
    leaves = λ number device a session given opened h happens goes. record {
      users = own_then (device - 1) a.r a.here (Lost session) h happens (silent_allowed May a.r.device (Lost session) h refl);
      asked = allowed_then (device - 1) a.r a.here (Lost session) h happens (silent_allowed May a.r.device (Lost session) h refl);
    };
  }
