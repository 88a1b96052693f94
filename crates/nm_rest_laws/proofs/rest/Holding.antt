-- Who has each open session of a device: a link whose side there is open, or an operator.
use Rattle.std.proofs.Common.{◌≡◌, ◌∙◌, ◌⊎◌, ℕ, zero, suc, ◌-◌, ◌==◌, Bool, true, false, cond, not, ◌&&◌, List, [], ◌∷◌, ◌++◌, map, Option, Some, None, IfSome, option_and_then, slice_get, slice_set, refl, sym, ap, subst, arith}
use Rattle.std.proofs.lemmas.Option.{none-some}
use Rattle.nm_proto.specs.declared.message.Request.{Request}
use Rattle.nm_proto.specs.declared.message.Reply.{Reply}
use Rattle.nm_proto.specs.declared.message.Reply.TheVariants.{Opened}
use Rattle.nm_sessions.specs.Sessions.{is_open}
use Rattle.nm_device.specs.Table.{is_opening}
use Rattle.nm_history.specs.History.{RecordedState}
use Rattle.nm_wire.specs.declared.link.Exchange.{Exchange}
use Rattle.nm_wire.specs.declared.link.Way.{Way}
use Rattle.nm_wire.specs.declared.link.Way.TheVariants.{Quiet, Asked, Told}
use Rattle.nm_wire.specs.Link.{LinkState, fresh_link, session_of, session_in, first_session, sent_on, told_on, told_by, handled_on, closed_link, outstanding, asked_on, closes}
use Rattle.nm_wire.specs.Wire.{WireState, no_links, link_at, sent, told, lost, broken, changed, handled_at, outstanding_at, session_at}
use Rattle.nm_manager.specs.Slot.{SideState, SlotState, wire_of_side, side_at, with_wire, wires_on, gone, may_go}
use Rattle.nm_manager.specs.Manager.{wire_of}
use Rattle.nm_world.specs.World.{given_on}
use Rattle.nm_safety.proofs.Links.{did_sent_on, did_handled}
use Rattle.nm_safety.proofs.Wires.{IsDue, set_there}
use Rattle.nm_safety.proofs.Gone.{GoesOnOne, sent_one, not_zero}
use Rattle.nm_safety.proofs.Answered.{told_link}
use Rattle.nm_safety.proofs.PairSteps.{asked_if}
use Rattle.nm_safety.proofs.Lists.{some_is, at_set}
use Rattle.nm_rest_laws.specs.Steady.{IsTrue, IsTrueBy, IsSteady}
use Rattle.nm_rest_laws.proofs.rest.Able.{GoesOn}
use Rattle.nm_rest_laws.proofs.rest.Closer.{set_relates}
use Rattle.nm_rest_laws.proofs.rest.Serving.{IsReplied}

-- the links of a change set to the device at a place
abbrev pub wire_at : Option SlotState → ℕ → WireState
wire_at None d = no_links
wire_at (Some slot) d = wire_of_side (slice_get slot.sides d)

-- a link has a session, and its side is open
abbrev pub HasOpen : Option LinkState → ℕ → Type 0
HasOpen None session = ⊥
HasOpen (Some link) session = (session_of link ≡ Some session) × (link.is_open ≡ true)

abbrev pub LinkHolds : List SlotState → ℕ → ℕ → Type 0
LinkHolds slots d session = (p : ℕ) × ((l : ℕ) × HasOpen (slice_get (wire_at (slice_get slots p) d).links l) session)

abbrev pub given_of : Option (List (Option ℕ)) → ℕ → Option ℕ
given_of None d = None
given_of (Some operator) d = given_on operator d

abbrev pub OperatorHolds : List (List (Option ℕ)) → ℕ → ℕ → Type 0
OperatorHolds operators d session = (n : ℕ) × (given_of (slice_get operators n) d ≡ Some session)

abbrev pub IsHeld : List SlotState → List (List (Option ℕ)) → ℕ → ℕ → Type 0
IsHeld slots operators d session = LinkHolds slots d session ⊎ OperatorHolds operators d session

-- each open session of a device is held
abbrev pub AllHeld : {Config Node : Type 0} → List SlotState → List (List (Option ℕ)) → ℕ → RecordedState Config Node → Type 0
AllHeld slots operators d r = (session : ℕ) → is_open r.device.sessions session ≡ true → IsHeld slots operators d session

-- ---- what links keep

abbrev Keeps : Option LinkState → Option LinkState → Type 0
Keeps old new = (t : ℕ) → HasOpen old t → HasOpen new t

abbrev pub Carries : WireState → WireState → Type 0
Carries old new = (l : ℕ) → Keeps (slice_get old.links l) (slice_get new.links l)

more_keeps : (links : List LinkState) (link : LinkState) (l : ℕ) → Keeps (slice_get links l) (slice_get (links ++ link ∷ []) l)
more_keeps [] link l t h = absurd h
more_keeps (x ∷ links) link zero t h = h
more_keeps (x ∷ links) link (suc l) t h = more_keeps links link l t h

changed_rel : (Q : Option LinkState → Option LinkState → Type 0) → ((o : Option LinkState) → Q o o) → (change : LinkState → LinkState) (wire : WireState) (number : ℕ) (found : Option LinkState) → link_at wire number ≡ found
    → IfSome found (λ link. Q (Some link) (Some (change link))) → (l : ℕ) → Q (slice_get wire.links l) (slice_get (changed change wire number found).links l)
changed_rel Q same change wire number None e q l = same (slice_get wire.links l)
changed_rel Q same change wire number (Some link) e q l =
    set_relates Q same wire.links (number - 1) link (change link) (not_zero (number == 0) (slice_get wire.links (number - 1)) link e).1 q l

pub same_carries : (wire : WireState) → Carries wire wire
same_carries wire l t h = h

pub gone_carries : (new : Bool) (wire : WireState) (request : Request) → may_go new wire ≡ true → Carries wire (gone new wire request)
gone_carries true wire request goes l = more_keeps wire.links (sent_on request fresh_link) l
gone_carries false wire request goes l =
    let one : GoesOnOne wire request (sent wire request) = sent_one wire request goes in
    subst (λ w. Keeps (slice_get wire.links l) (slice_get w.links l)) (sym one.after_is)
    (set_relates Keeps (λ o t h. h) wire.links one.place one.link (sent_on request one.link) one.here (λ t h. ((did_sent_on request one.link one.quiet).session ∙ h.0, h.1)) l)

handled_keeps : (past : List Exchange) (way : Way) (is_open : Bool) → (handled_on (record { past = past; way = way; is_open = is_open })).is_open ≡ is_open
handled_keeps past Quiet is_open = refl
handled_keeps past (Asked request) is_open = refl
handled_keeps past (Told exchange) is_open = refl

each_handled : (found : Option LinkState) → IfSome found (λ link. Keeps (Some link) (Some (handled_on link)))
each_handled None = tt
each_handled (Some link) = λ t h. ((did_handled link).session ∙ h.0, handled_keeps link.past link.way link.is_open ∙ h.1)

pub heard_carries : (wire : WireState) (link : ℕ) (exchange : Exchange) → IsDue wire link exchange → Carries wire (handled_at wire link (Some exchange))
heard_carries wire link exchange d l = changed_rel Keeps (λ o t h. h) handled_on wire link (link_at wire link) refl (each_handled (link_at wire link)) l

pub cut_carries : (wire : WireState) → Carries wire (broken wire)
cut_carries wire l t h = h

-- ---- at a device

module _ {Config Node : Type 0} (after : RecordedState Config Node) where
  -- the same of the sessions that are open then
  abbrev pub KeepsOpen : Option LinkState → Option LinkState → Type 0
  KeepsOpen old new = (t : ℕ) → is_open after.device.sessions t ≡ true → HasOpen old t → HasOpen new t

  module _ (r : RecordedState Config Node) (request : Request) (reply : Reply) where
    told_keeps : (link : LinkState) → link.way ≡ Asked request → IsTrueBy link (Asked request) → IsReplied r (session_of link) request reply after → KeepsOpen (Some link) (Some (told_on reply link))
    told_keeps link asked true_so replied t is_open_now h =
        ((told_link link request reply asked).session ∙ ap (λ o. first_session o (record { request = request; reply = reply })) h.0, stays_open (closes request reply) refl)
      where
        not_closed : (b : Bool) → is_opening request ≡ b → closes request reply ≡ true → ⊥
        not_closed true o e = absurd (none-some t (sym (true_so o) ∙ h.0))
        not_closed false o e = absurd (let f : false ≡ true = sym (replied.closed o e t h.0) ∙ is_open_now in cc)

        still : (way : Way) → way ≡ Asked request → (told_by reply link way).is_open ≡ (link.is_open && not (closes request reply))
        still way e = subst (λ w. (told_by reply link w).is_open ≡ (link.is_open && not (closes request reply))) (sym e) refl

        stays_open : (b : Bool) → closes request reply ≡ b → (told_on reply link).is_open ≡ true
        stays_open true e = absurd (not_closed (is_opening request) refl e)
        stays_open false e = still link.way asked ∙ ap (λ b. link.is_open && not b) e ∙ ap (λ b. b && true) h.1

    -- the session that opens is the link's
    pub told_new : (link : LinkState) → link.way ≡ Asked request → link.is_open ≡ true → IsTrueBy link (Asked request) → is_opening request ≡ true → (t : ℕ) → reply ≡ Opened t → HasOpen (Some (told_on reply link)) t
    told_new link asked opened true_so opening t is =
        ((told_link link request reply asked).session ∙ ap (λ o. first_session o (record { request = request; reply = reply })) (true_so opening) ∙ ap session_in is, still link.way asked ∙ ap (λ b. b && not (closes request reply)) opened ∙ ap not (ap (closes request) is ∙ no_close request t))
      where
        still : (way : Way) → way ≡ Asked request → (told_by reply link way).is_open ≡ (link.is_open && not (closes request reply))
        still way e = subst (λ w. (told_by reply link w).is_open ≡ (link.is_open && not (closes request reply))) (sym e) refl

        no_close : (request : Request) (t : ℕ) → closes request (Opened t) ≡ false
        no_close request t = grind arith

    each_told : (found : Option LinkState) → IfSome found (λ link. link.way ≡ Asked request) → IfSome found IsTrue → IsReplied r (option_and_then session_of found) request reply after → IfSome found (λ link. KeepsOpen (Some link) (Some (told_on reply link)))
    each_told None asked true_so replied = tt
    each_told (Some link) asked true_so replied = told_keeps link asked (subst (IsTrueBy link) asked true_so) replied

    link_asked : (found : Option LinkState) → option_and_then outstanding found ≡ Some request → IfSome found (λ link. link.way ≡ Asked request)
    link_asked None e = tt
    link_asked (Some link) e = asked_if link.is_open link.way request e

    true_at : (b : Bool) (found : Option LinkState) → IfSome found IsTrue → IfSome (cond b None found) IsTrue
    true_at true found h = tt
    true_at false found h = h

    pub told_carries : (wire : WireState) (number : ℕ) → IsSteady wire → outstanding_at wire number ≡ Some request → IsReplied r (session_at wire number) request reply after → (l : ℕ) → KeepsOpen (slice_get wire.links l) (slice_get (told wire number reply).links l)
    told_carries wire number steady out replied l =
        changed_rel KeepsOpen (λ o t is h. h) (told_on reply) wire number (link_at wire number) refl
        (each_told (link_at wire number) (link_asked (link_at wire number) out) (true_at (number == 0) (slice_get wire.links (number - 1)) (steady.each (number - 1))) replied) l

    found_new : (wire : WireState) (number : ℕ) (found : Option LinkState) → link_at wire number ≡ found → option_and_then outstanding found ≡ Some request → IfSome found IsTrue → is_opening request ≡ true → (t : ℕ) → reply ≡ Opened t
        → HasOpen (slice_get (changed (told_on reply) wire number found).links (number - 1)) t
    found_new wire number None e out true_so opening t is = absurd (none-some request out)
    found_new wire number (Some link) e out true_so opening t is =
        let asked : link.way ≡ Asked request = asked_if link.is_open link.way request out in
        subst (λ o. HasOpen o t) (sym (set_there wire.links (number - 1) link (told_on reply link) (not_zero (number == 0) (slice_get wire.links (number - 1)) link e).1))
        (told_new link asked (open_if link.is_open (outstanding_none link.way) out) (subst (IsTrueBy link) asked true_so) opening t is)
      where
        outstanding_none : (way : Way) → Option Request
        outstanding_none way = asked_on way

        open_if : (b : Bool) (o : Option Request) → cond b o None ≡ Some request → b ≡ true
        open_if true o e = refl
        open_if false o e = absurd (none-some request e)

    pub new_there : (wire : WireState) (number : ℕ) → IsSteady wire → outstanding_at wire number ≡ Some request → is_opening request ≡ true → (t : ℕ) → reply ≡ Opened t → HasOpen (slice_get (told wire number reply).links (number - 1)) t
    new_there wire number steady out opening t is =
        found_new wire number (link_at wire number) refl out (true_at (number == 0) (slice_get wire.links (number - 1)) (steady.each (number - 1))) opening t is

  -- a session is lost
  each_closed : (found : Option LinkState) → ((u : ℕ) → option_and_then session_of found ≡ Some u → is_open after.device.sessions u ≡ false) → IfSome found (λ link. KeepsOpen (Some link) (Some (closed_link link)))
  each_closed None gone_now = tt
  each_closed (Some link) gone_now = λ t is h. absurd (let f : false ≡ true = sym (gone_now t h.0) ∙ is in cc)

  pub lost_carries : (wire : WireState) (number : ℕ) → ((u : ℕ) → session_at wire number ≡ Some u → is_open after.device.sessions u ≡ false) → (l : ℕ) → KeepsOpen (slice_get wire.links l) (slice_get (lost wire number).links l)
  lost_carries wire number gone_now l = changed_rel KeepsOpen (λ o t is h. h) closed_link wire number (link_at wire number) refl (each_closed (link_at wire number) gone_now) l

-- ---- among all of them

set_relates_i : {A : Type 0} (R : ℕ → Option A → Option A → Type 0) → ((j : ℕ) (o : Option A) → R j o o) → (xs : List A) (i : ℕ) (old new : A) → slice_get xs i ≡ Some old → R i (Some old) (Some new)
    → (j : ℕ) → R j (slice_get xs j) (slice_get (slice_set xs i new) j)
set_relates_i R same [] i old new h now j = absurd (none-some old h)
set_relates_i R same (x ∷ xs) zero old new h now zero = let e : old ≡ x = cc in subst (λ y. R 0 (Some y) (Some new)) e now
set_relates_i R same (x ∷ xs) zero old new h now (suc j) = same (suc j) (slice_get xs j)
set_relates_i R same (x ∷ xs) (suc i) old new h now zero = same 0 (Some x)
set_relates_i R same (x ∷ xs) (suc i) old new h now (suc j) = set_relates_i (λ k. R (suc k)) (λ k. same (suc k)) xs i old new h now j

module _ (Q : ℕ → WireState → WireState → Type 0) (same : (d : ℕ) (wire : WireState) → Q d wire wire) (happens : WireState → WireState) (device : ℕ) where
  on_side : (slot : SlotState) (found : Option SideState) → slice_get slot.sides (device - 1) ≡ found → Q (device - 1) (wire_of_side found) (happens (wire_of_side found))
      → (d : ℕ) → Q d (wire_of_side (slice_get slot.sides d)) (wire_of_side (slice_get (wires_on happens slot device found).sides d))
  on_side slot None there q d = same d (wire_of_side (slice_get slot.sides d))
  on_side slot (Some side) there q d =
      set_relates_i (λ k o p. Q k (wire_of_side o) (wire_of_side p)) (λ k o. same k (wire_of_side o)) slot.sides (device - 1) side (with_wire side (happens side.wire)) there q d

  pub on_wires : (slots : List SlotState) (place : ℕ) (slot : SlotState) → slice_get slots place ≡ Some slot → (side : SideState) → slice_get slot.sides (device - 1) ≡ Some side
      → Q (device - 1) side.wire (happens side.wire)
      → (p d : ℕ) → Q d (wire_at (slice_get slots p) d) (wire_at (slice_get (slice_set slots place (wires_on happens slot device (Some side))) p) d)
  on_wires slots place slot there side at q =
      set_relates (λ o n. (k : ℕ) → Q k (wire_at o k) (wire_at n k)) (λ o k. same k (wire_at o k)) slots place slot (wires_on happens slot device (Some side)) there
      (on_side slot (Some side) at q)

  pub all_wires : (slots : List SlotState) → ((slot : SlotState) → Q (device - 1) (wire_of device (Some slot)) (happens (wire_of device (Some slot)))) → (p d : ℕ) → Q d (wire_at (slice_get slots p) d) (wire_at (slice_get (map (λ slot. wires_on happens slot device (side_at slot device)) slots) p) d)
  all_wires [] q p d = same d no_links
  all_wires (slot ∷ slots) q zero d = on_side slot (side_at slot device) refl (q slot) d
  all_wires (slot ∷ slots) q (suc p) d = all_wires slots q p d

-- that of the device itself
pub wires_there : (happens : WireState → WireState) (device : ℕ) (slots : List SlotState) (place : ℕ) (slot : SlotState) → slice_get slots place ≡ Some slot
    → (side : SideState) → slice_get slot.sides (device - 1) ≡ Some side
    → wire_at (slice_get (slice_set slots place (wires_on happens slot device (Some side))) place) (device - 1) ≡ happens side.wire
wires_there happens device slots place slot there side at =
    ap (λ o. wire_at o (device - 1)) (set_there slots place slot (wires_on happens slot device (Some side)) there)
    ∙ ap wire_of_side (set_there slot.sides (device - 1) side (with_wire side (happens side.wire)) at)

-- ---- a change set goes on

module _ (happens : WireState → WireState) (device : ℕ) (slot : SlotState) (a : GoesOn slot) where
  pub wires_able : (found : Option SideState) → slice_get slot.sides (device - 1) ≡ found → IfSome found (λ side. IsSteady side.wire → IsSteady (happens side.wire))
      → GoesOn (wires_on happens slot device found)
  wires_able None there h = a
  wires_able (Some side) there h = record {
    course = a.course;
    wires = at_set (λ k one. IsSteady one.wire) slot.sides (device - 1) side (with_wire side (happens side.wire)) there (h (some_is side (λ one. IsSteady one.wire) (slice_get slot.sides (device - 1)) there (a.wires (device - 1)))) a.wires;
  }
