-- What a supported world tells of an event: whose the sessions are, and what others keep.
use Rattle.std.proofs.Common.{ℕ, ◌≡◌, ◌∙◌, suc, ◌-◌, ◌≤◌, ◌<◌, ◌^◌, ◌==◌, Bool, true, false, not, ◌&&◌, ◌||◌, List, length, Some, None, IfSome, is_some, slice_get, refl, sym, ap, subst, arith}
use Rattle.std.specs.List.{All}
use Rattle.std.proofs.lemmas.Bool.Decides.{nat_tests}
use Rattle.std.proofs.lemmas.Option.{none-some, same_Some, slice_get_within}
use Rattle.nm_base.specs.Token.{token_of, is_reserved}
use Rattle.nm_proto.specs.declared.ask.Ask.TheVariants as ask
use Rattle.nm_proto.specs.declared.message.Request.{Request}
use Rattle.nm_proto.specs.declared.message.Request.TheVariants.{OpenSession}
use Rattle.nm_proto.specs.declared.plan.ChangePlan.{ChangePlan}
use Rattle.nm_proto.specs.Content.{Meaning, Laws}
use Rattle.nm_proto.specs.Plan.{devices_in}
use Rattle.nm_sessions.specs.Sessions.{is_open, user_of}
use Rattle.nm_device.specs.Device.{is_manager}
use Rattle.nm_history.specs.declared.event.DeviceEvent.{DeviceEvent}
use Rattle.nm_history.specs.declared.event.DeviceEvent.TheVariants.{Entered, Asked, Lost, Advanced, Restarted}
use Rattle.nm_history.specs.History.{RecordedState}
use Rattle.nm_device_laws.specs.Token.{leaves_token, names_token}
use Rattle.nm_device_laws.proofs.Keeping.{session_kept}
use Rattle.nm_wire.specs.declared.link.Way.TheVariants as way
use Rattle.nm_wire.specs.Asks.{ask_of}
use Rattle.nm_wire.specs.Link.{LinkState, asked_on, session_of}
use Rattle.nm_wire.specs.Wire.{link_at, outstanding_at}
use Rattle.nm_safety.specs.Delivered.{is_answer}
use Rattle.nm_safety.proofs.Answered.{out_way}
use Rattle.nm_safety.proofs.Fair.{asked_fair, entered_fair, fair_is}
use Rattle.nm_safety.proofs.Gone.{not_zero}
use Rattle.nm_world.specs.World.{Setting, CoreState, WorldState, given_on, core_of}
use Rattle.nm_safety.specs.Support.{IsDevice, IsKept, IsLinked, IsOperator, IsOurs, IsOwned, IsSupported, LinkName, Owners}
use Rattle.nm_safety.specs.Cases.{Answers, IsLink, IsOperating, IsSlot}
use Rattle.nm_safety.specs.Keeping.{Delivery, IsDone, IsOthers, Site, is_silent}
use Rattle.nm_safety.proofs.Lists.{some_is}
use Rattle.nm_safety.proofs.SlotLinks.{links_at}
use Rattle.nm_safety.proofs.Managed.{kept_here}
use Rattle.nm_safety.proofs.Delivered.{names_no_other, no_name_leaves}

-- ---- whose sessions are whose

same_nat : (a b : ℕ) → (a == b) ≡ true → a ≡ b
same_nat a b e = grind (arith, nat_tests)

pub differ : (a b : ℕ) → (a ≡ b → ⊥) → (b' : Bool) → (a == b) ≡ b' → b' ≡ false
differ a b ne false e = refl
differ a b ne true e = absurd (ne (same_nat a b e))

-- sessions of two links differ
apart_by : (owners : Owners) (u session : ℕ) (one other : LinkName) → owners u ≡ Some one → owners session ≡ Some other → (one ≡ other → ⊥) → (b : Bool) → (u == session) ≡ b → b ≡ false
apart_by owners u session one other a b ne false e = refl
apart_by owners u session one other a b ne true e =
    let same : u ≡ session = same_nat u session e in
    let g : Some one ≡ Some other = sym a ∙ ap owners same ∙ b in
    absurd (ne (same_Some one other g))

pub apart : (owners : Owners) (u session : ℕ) (one other : LinkName) → owners u ≡ Some one → owners session ≡ Some other → (one ≡ other → ⊥) → (u == session) ≡ false
apart owners u session one other a b ne = apart_by owners u session one other a b ne (u == session) refl

-- who isn't the manager leaves reserved tokens alone
pub kept_out : (named reserved managed : Bool) → reserved ≡ true → managed ≡ false → not (named && (not reserved || managed)) ≡ true
kept_out named reserved managed r m = grind (arith, nat_tests)

reserved : (c : ℕ) → is_reserved (token_of c) ≡ true
reserved c = refl

pub stranger_leaves : {Config Node : Type 0} (r : RecordedState Config Node) (session : ℕ) (request : Request) → is_manager (user_of r.device.sessions session) ≡ false
    → (change : ℕ) → leaves_token (token_of change) r.device (Asked session request) ≡ true
stranger_leaves r session request stranger change =
    kept_out (names_token (token_of change) request) (is_reserved (token_of change)) (is_manager (user_of r.device.sessions session)) (reserved change) stranger

-- ---- what nobody asks for

pub silent_others : {Config Node : Type 0} (owners : Owners) (r : RecordedState Config Node) (event : DeviceEvent) → is_silent event ≡ true → (change : ℕ) → IsOthers change owners r event
silent_others owners r (Entered user) e change = absurd (let g : false ≡ true = e in cc)
silent_others owners r (Asked session request) e change = absurd (let g : false ≡ true = e in cc)
silent_others owners r (Lost session) e change = record { asker = λ other place own. refl; token = refl }
silent_others owners r (Advanced seconds) e change = record { asker = λ other place own. refl; token = refl }
silent_others owners r Restarted e change = record { asker = λ other place own. refl; token = refl }

-- a session that opens is none yet
pub entered_others : {Config Node : Type 0} (owners : Owners) (r : RecordedState Config Node) (user : List ℕ) (change : ℕ) → IsOthers change owners r (Entered user)
entered_others owners r user change = record { asker = λ session place own. refl; token = refl }

-- change sets have small numbers
pub change_small : {TheEdit : Type 0} (setting : Setting TheEdit) → length setting.plans ≤ 64 → (place : ℕ) (plan : ChangePlan) → slice_get setting.plans place ≡ Some plan → suc place < 2 ^ 32
change_small setting few place plan planned = let within : place < length setting.plans = slice_get_within setting.plans place plan planned in omega (arith, within, few)

-- ---- a supported world

abbrev pub SupportedIn : {Config TheEdit Node : Type 0} → Meaning Config TheEdit Node → Setting TheEdit → WorldState Config Node → Type 0
SupportedIn m setting w = IsSupported m setting (core_of w)

module _ {Config TheEdit Node : Type 0} (m : Meaning Config TheEdit Node) (setting : Setting TheEdit) (w : CoreState Config Node) (s : IsSupported m setting w)
    {number device : ℕ} (a : IsOperating w number device) where
  known_here : IsDevice m (s.owners (device - 1)) a.r
  known_here = some_is a.r (IsDevice m (s.owners (device - 1))) (slice_get w.devices (device - 1)) a.here (s.devices (device - 1))

  module _ (session : ℕ) (given : given_on a.operator (device - 1) ≡ Some session) where
    -- an operator's sessions are no link's
    pub given_is : s.owners (device - 1) session ≡ None
    given_is =
        (some_is a.r (λ one. (t : ℕ) → given_on a.operator (device - 1) ≡ Some t → (s.owners (device - 1) t ≡ None) × (t ≤ one.device.sessions.last))
        (slice_get w.devices (device - 1)) a.here
        (some_is a.operator (IsOperator s.owners w.devices) (slice_get w.operators (number - 1)) a.there (s.operators (number - 1)) (device - 1)) session given).0

    not_owned : (other : ℕ) (change place : ℕ) → s.owners (device - 1) other ≡ Some (record { change = change; place = place }) → (b : Bool) → (session == other) ≡ b → b ≡ false
    not_owned other change place own false e = refl
    not_owned other change place own true e =
        let same : session ≡ other = same_nat session other e in
        absurd (none-some _ (sym given_is ∙ ap (s.owners (device - 1)) same ∙ own))

    -- nor are they the manager's
    pub not_managed : is_open a.r.device.sessions session ≡ true → is_manager (user_of a.r.device.sessions session) ≡ false
    not_managed opened = known_here.users session opened ∙ ap is_some given_is

    pub asked_others : is_open a.r.device.sessions session ≡ true → (request : Request) (change : ℕ) → IsOthers change (s.owners (device - 1)) a.r (Asked session request)
    asked_others opened request change = record {
      asker = λ other place own. not_owned other change place own (session == other) refl;
      token = stranger_leaves a.r session request (not_managed opened) change;
    }

module _ {Config TheEdit Node : Type 0} (m : Meaning Config TheEdit Node) (setting : Setting TheEdit) (B : WorldState Config Node → Type 0) (w : WorldState Config Node) (b : B w)
    (s : IsSupported m setting (core_of w)) where
  -- a change set
  abbrev pub site : (change : ℕ) (a : IsSlot (core_of w) change) (plan : ChangePlan) → slice_get setting.plans (change - 1) ≡ Some plan → Site m setting B
  site change a plan planned = record {
    w = w;
    before = b;
    change = change;
    numbered = a.numbered;
    plan = plan;
    planned = planned;
    slot = a.slot;
    there = a.there;
    owners = s.owners;
    kept = kept_here m setting (core_of w) s change a.numbered plan a.slot planned a.there;
  }

  -- what a link has outstanding
  module _ (few : length setting.plans ≤ 64) (change device link : ℕ) (l : IsLink (core_of w) change device link) (plan : ChangePlan)
      (planned : slice_get setting.plans (change - 1) ≡ Some plan) (request : Request) (out : outstanding_at l.side.wire link ≡ Some request) where
    abbrev d : ℕ
    d = device - 1

    pub at_l : ((link == 0) ≡ false) × (slice_get l.side.wire.links (link - 1) ≡ Some l.one)
    at_l = not_zero (link == 0) (slice_get l.side.wire.links (link - 1)) l.one l.at_link

    pub kept_now : IsKept change (devices_in plan.edits) w.entries s.owners w.devices l.slot
    kept_now = kept_here m setting (core_of w) s change l.numbered plan l.slot planned l.there

    pub owned_at : (place : ℕ) (other : LinkState) → slice_get l.side.wire.links place ≡ Some other → IsOwned change (s.owners d) l.r.device.sessions.last place other
    owned_at place other found =
        some_is l.r (λ one. IsOwned change (s.owners d) one.device.sessions.last place other) (slice_get w.devices d) l.here
        (some_is other (IsLinked change w.entries (s.owners d) (slice_get w.devices d) place) (slice_get l.side.wire.links place) found
        (links_at (λ j. IsLinked change w.entries (s.owners j) (slice_get w.devices j)) l.slot kept_now.linked d l.side l.at_side place)).owned

    pub way_is : l.one.way ≡ way.Asked request
    way_is = out_way (link_at l.side.wire link) l.one request l.at_link out

    pub number_of : (change : ℕ) → 1 ≤ change → suc (change - 1) ≡ change
    number_of change numbered = omega (arith, numbered)

    abbrev pub delivery : Delivery m setting B
    delivery = record {
      w = w;
      before = b;
      change = change;
      device = device;
      link = link;
      numbered = l.numbered;
      small = subst (λ c. c < 2 ^ 32) (number_of change l.numbered) (change_small setting few (change - 1) plan planned);
      plan = plan;
      planned = planned;
      slot = l.slot;
      there = l.there;
      side = l.side;
      at_side = l.at_side;
      one = l.one;
      at_link = l.at_link;
      at_place = at_l.1;
      r = l.r;
      here = l.here;
      request = request;
      out = out;
      way = way_is;
      owners = s.owners;
      kept = kept_now;
      known = some_is l.r (IsDevice m (s.owners d)) (slice_get w.devices d) l.here (s.devices d);
      owned = owned_at;
      ours = subst (λ found. IfSome found (IsOurs change)) (ap asked_on way_is) (owned_at (link - 1) l.one at_l.1).asked;
    }

-- ---- what is delivered

module _ {Config TheEdit Node : Type 0} (m : Meaning Config TheEdit Node) (laws : Laws m) (setting : Setting TheEdit) (edits : All m.edit_belongs setting.tables.edits)
    (few : length setting.plans ≤ 64) (B : WorldState Config Node → Type 0) (x : Delivery m setting B) where
  -- a session asks
  module _ (u : ℕ) (session : session_of x.one ≡ Some u) (d : Answers m setting x.r (Asked u x.request)) where
    abbrev own : LinkName
    own = record { change = x.change; place = x.link - 1 }

    pub own_session : x.owners (x.device - 1) u ≡ Some own
    own_session = (x.owned (x.link - 1) x.one x.at_place).session u session

    abbrev pub asked_done : IsDone m setting B x (Asked u x.request)
    asked_done = record {
      h = d.h;
      happens = d.happens;
      reply = d.reply;
      replies = d.replies;
      answer = fair_is (ask_of x.request) d.reply
          (asked_fair m laws setting.tables x.r.device u x.request d.h d.reply x.known.belong.stores_belong edits d.happens d.replies x.ours.known);
      keeps = λ place other found ne t at.
          session_kept m setting.tables x.r.device x.known.numbered t (Asked u x.request) d.h d.happens
          (apart (x.owners (x.device - 1)) u t own (record { change = x.change; place = place }) own_session ((x.owned place other found).session t at)
          (λ same. ne (sym (ap (λ name. name.place) same))));
      others = λ place other found ne. record {
        asker = λ t at_place other_own.
            apart (x.owners (x.device - 1)) u t own (record { change = suc place; place = at_place }) own_session other_own
            (λ same. ne (sym (ap (λ name. name.change) same)));
        token = no_name_leaves (token_of (suc place)) x.r u x.request
            (names_no_other (suc place) x.change (change_small setting few place other found) x.small (differ (suc place) x.change ne (suc place == x.change) refl)
            x.request x.ours.names);
      };
    }

  -- a session is asked for
  module _ (user : List ℕ) (opening : x.request ≡ OpenSession user) (d : Answers m setting x.r (Entered user)) where
    abbrev pub entered_done : IsDone m setting B x (Entered user)
    entered_done = record {
      h = d.h;
      happens = d.happens;
      reply = d.reply;
      replies = d.replies;
      answer = subst (λ request. is_answer (ask_of request) d.reply ≡ true) (sym opening)
          (fair_is ask.OpenSession d.reply (entered_fair m laws setting.tables x.r.device user d.h d.reply d.happens d.replies));
      keeps = λ place other found ne t at. session_kept m setting.tables x.r.device x.known.numbered t (Entered user) d.h d.happens refl;
      others = λ place other found ne. entered_others (x.owners (x.device - 1)) x.r user (suc place);
    }
