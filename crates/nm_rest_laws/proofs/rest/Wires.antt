-- What is kept of links, whatever happens on them.
use Rattle.std.proofs.Common.{◌≡◌, ◌∙◌, ℕ, zero, suc, ◌-◌, ◌==◌, Bool, true, false, cond, ◌&&◌, not, List, [], ◌∷◌, ◌++◌, Option, Some, None, IfSome, is_some, option_and_then, slice_get, refl, sym, ap, subst}
use Rattle.nm_proto.specs.declared.message.Request.{Request}
use Rattle.nm_proto.specs.declared.message.Reply.{Reply}
use Rattle.nm_device.specs.Table.{is_opening}
use Rattle.nm_wire.specs.declared.link.Exchange.{Exchange}
use Rattle.nm_wire.specs.declared.link.Way.{Way}
use Rattle.nm_wire.specs.declared.link.Way.TheVariants.{Quiet, Asked, Told}
use Rattle.nm_wire.specs.Link.{LinkState, fresh_link, session_of, session_in, first_session, is_quiet_way, sent_on, told_on, told_by, handled_on, closed_link, ends, closes, outstanding}
use Rattle.nm_wire.specs.Wire.{WireState, current_link, link_at, is_quiet_link, begun, sent, told, lost, restarted, broken, handled_at, outstanding_at, may_send, changed}
use Rattle.nm_safety.proofs.Links.{did_sent_on, did_handled}
use Rattle.nm_safety.proofs.Wires.{IsDue, current_begun, current_sent, current_handled, handled_quiet, current_changed, current_restarted, changed_current}
use Rattle.nm_safety.proofs.Gone.{GoesOnOne, sent_one, not_zero, each_heard, each_changed, each_restarted}
use Rattle.nm_safety.proofs.PairSteps.{asked_if}
use Rattle.nm_safety.proofs.Lists.{at_set as all_set}
use Rattle.nm_rest_laws.specs.Steady.{IsTrueBy, IsTrue, IsServedBy, IsServed, HasServed, IsSteady}

all_more : {A : Type 0} (P : A → Type 0) (xs : List A) (x : A) → P x → ((j : ℕ) → IfSome (slice_get xs j) P) → (j : ℕ) → IfSome (slice_get (xs ++ x ∷ []) j) P
all_more P [] x p all zero = p
all_more P [] x p all (suc j) = tt
all_more P (y ∷ xs) x p all zero = all zero
all_more P (y ∷ xs) x p all (suc j) = all_more P xs x p (λ k. all (suc k)) j

has : (o : Option LinkState) (link : LinkState) → o ≡ Some link → HasServed o → IsServed link
has None link e h = absurd h
has (Some other) link e h = let same : other ≡ link = cc in subst IsServed same h

-- ---- a request goes out

pub begun_steady : (wire : WireState) (request : Request) → is_opening request ≡ true → IsSteady wire → IsSteady (begun wire request)
begun_steady wire request opening s = record {
  current = λ is. subst HasServed (sym (current_begun wire request)) (λ not_one. absurd (let e : true ≡ false = sym opening ∙ not_one in cc));
  each = all_more IsTrue wire.links (sent_on request fresh_link) (λ is. refl) s.each;
}

quiet_served : (link : LinkState) (way : Way) → is_quiet_way way ≡ true → IsServedBy link way → is_some (session_of link) ≡ true
quiet_served link Quiet q h = h
quiet_served link (Asked request) q h = absurd (let e : false ≡ true = q in cc)
quiet_served link (Told exchange) q h = absurd (let e : false ≡ true = q in cc)

quiet_there : (found : Option LinkState) → is_quiet_link found ≡ true → (P : Type 0) → ((link : LinkState) → found ≡ Some link → is_quiet_way link.way ≡ true → P) → P
quiet_there None q P step = absurd (let e : false ≡ true = q in cc)
quiet_there (Some link) q P step = step link refl q

some_current : (wire : WireState) (link : LinkState) (current : Option ℕ) → wire.current ≡ current → current_link wire ≡ Some link → is_some current ≡ true
some_current wire link None e h = absurd (let g : None ≡ Some link = sym (ap (option_and_then (link_at wire)) e) ∙ h in cc)
some_current wire link (Some number) e h = refl

pub sent_steady : (wire : WireState) (request : Request) → is_opening request ≡ false → may_send wire ≡ true → IsSteady wire → IsSteady (sent wire request)
sent_steady wire request plain goes s = record {
  current = λ is. quiet_there (current_link wire) goes (HasServed (current_link (sent wire request))) (λ link here quiet.
      let served : IsServed link = has (current_link wire) link here (s.current (some_current wire link wire.current refl here)) in
      subst HasServed (sym (current_sent wire request link here)) (λ not_one. ap is_some (did_sent_on request link quiet).session ∙ quiet_served link link.way quiet served));
  each = λ place.
      let one : GoesOnOne wire request (sent wire request) = sent_one wire request goes in
      subst (λ w. IfSome (slice_get w.links place) IsTrue) (sym one.after_is)
      (all_set (λ k. IsTrue) wire.links one.place one.link (sent_on request one.link) one.here (λ is. absurd (let e : true ≡ false = sym is ∙ plain in cc)) s.each place);
}

-- ---- a reply is handled

pub handled_steady : (wire : WireState) (link : ℕ) (exchange : Exchange) → IsDue wire link exchange → IsSteady wire → IsSteady (handled_at wire link (Some exchange))
handled_steady wire link exchange d s = record {
  current = λ is. subst HasServed (sym (current_handled wire link exchange d)) (by_end (ends exchange.request exchange.reply) refl is);
  each = each_heard wire link exchange d (λ place. IsTrue) (λ place h. subst (IsTrueBy (handled_on d.held)) (sym (handled_quiet d.held exchange d.way)) tt) s.each;
}
  where
    here : current_link wire ≡ Some d.held
    here = ap (option_and_then (link_at wire)) d.current ∙ d.here

    served : IsServed d.held
    served = has (current_link wire) d.held here (s.current (ap is_some d.current))

    by_end : (b : Bool) → ends exchange.request exchange.reply ≡ b → is_some (cond b None wire.current) ≡ true → HasServed (cond b None (Some (handled_on d.held)))
    by_end true e is = absurd (let f : false ≡ true = is in cc)
    by_end false e is = subst (IsServedBy (handled_on d.held)) (sym (handled_quiet d.held exchange d.way))
        (ap is_some (did_handled d.held).session ∙ subst (IsServedBy d.held) d.way served e)

-- ---- the manager's side ends

pub broken_steady : (wire : WireState) → IsSteady wire → IsSteady (broken wire)
broken_steady wire s = record { current = λ is. absurd (let e : false ≡ true = is in cc); each = s.each }

-- ---- the device answers

keeps_some : (session : Option ℕ) (exchange : Exchange) → is_some session ≡ true → is_some (first_session session exchange) ≡ true
keeps_some None exchange e = absurd (let f : false ≡ true = e in cc)
keeps_some (Some session) exchange e = refl

gives_some : (session : Option ℕ) (exchange : Exchange) → is_some (session_in exchange.reply) ≡ true → is_some (first_session session exchange) ≡ true
gives_some None exchange e = e
gives_some (Some session) exchange e = refl

module _ (request : Request) (reply : Reply) (given : is_opening request ≡ true → ends request reply ≡ false → is_some (session_in reply) ≡ true) (shuts : ends request reply ≡ true → closes request reply ≡ true) where
  served_by : (session : Option ℕ) (b : Bool) → is_opening request ≡ b → (is_opening request ≡ false → is_some session ≡ true) → ends request reply ≡ false
      → is_some (first_session session (record { request = request; reply = reply })) ≡ true
  served_by session true o h e = gives_some session (record { request = request; reply = reply }) (given o e)
  served_by session false o h e = keeps_some session (record { request = request; reply = reply }) (h o)

  pub told_served : (link : LinkState) (way : Way) → way ≡ Asked request → IsServedBy link way → IsServed (told_by reply link (Asked request)) → IsServed (told_by reply link way)
  told_served link way e h now = subst (λ w. IsServed (told_by reply link w)) (sym e) now

  asked_served : (past : List Exchange) (is_open : Bool) → IsServed (record { past = past; way = Asked request; is_open = is_open }) → IsServed (told_on reply (record { past = past; way = Asked request; is_open = is_open }))
  asked_served past is_open h = λ e. served_by (session_of (record { past = past; way = Asked request; is_open = is_open })) (is_opening request) refl h e

  shut : (is_open b : Bool) → b ≡ true → (is_open && not b) ≡ false
  shut true true e = refl
  shut false true e = refl
  shut is_open false e = absurd (let f : false ≡ true = e in cc)

  asked_true : (past : List Exchange) (is_open : Bool) → IsTrue (told_on reply (record { past = past; way = Asked request; is_open = is_open }))
  asked_true past is_open = λ e. shut is_open (closes request reply) (shuts e)

  on_served : (past : List Exchange) (way : Way) (is_open : Bool) → way ≡ Asked request → IsServed (record { past = past; way = way; is_open = is_open }) → IsServed (told_on reply (record { past = past; way = way; is_open = is_open }))
  on_served past way is_open e h =
      subst (λ w. IsServed (told_on reply (record { past = past; way = w; is_open = is_open }))) (sym e)
      (asked_served past is_open (subst (λ w. IsServed (record { past = past; way = w; is_open = is_open })) e h))

  on_true : (past : List Exchange) (way : Way) (is_open : Bool) → way ≡ Asked request → IsTrue (told_on reply (record { past = past; way = way; is_open = is_open }))
  on_true past way is_open e = subst (λ w. IsTrue (told_on reply (record { past = past; way = w; is_open = is_open }))) (sym e) (asked_true past is_open)

  link_asked : (found : Option LinkState) → option_and_then outstanding found ≡ Some request → IfSome found (λ link. link.way ≡ Asked request)
  link_asked None e = tt
  link_asked (Some link) e = asked_if link.is_open link.way request e

  each_served : (found : Option LinkState) → IfSome found (λ link. link.way ≡ Asked request) → IfSome found (λ link. HasServed (Some link) → HasServed (Some (told_on reply link)))
  each_served None h = tt
  each_served (Some link) h = on_served link.past link.way link.is_open h

  pub told_steady : (wire : WireState) (number : ℕ) → outstanding_at wire number ≡ Some request → IsSteady wire → IsSteady (told wire number reply)
  told_steady wire number out s = record {
    current = λ is. current_changed (λ o p. HasServed o → HasServed p) (λ o h. h) (told_on reply) wire number (link_at wire number) refl (each_served (link_at wire number) (link_asked (link_at wire number) out))
        (s.current (sym (ap is_some (changed_current (told_on reply) wire number (link_at wire number))) ∙ is));
    each = told_each (link_at wire number) refl (link_asked (link_at wire number) out);
  }
    where
      told_each : (found : Option LinkState) → link_at wire number ≡ found → IfSome found (λ link. link.way ≡ Asked request) → (place : ℕ) → IfSome (slice_get (changed (told_on reply) wire number found).links place) IsTrue
      told_each None e h = s.each
      told_each (Some link) e h =
          all_set (λ k. IsTrue) wire.links (number - 1) link (told_on reply link) (not_zero (number == 0) (slice_get wire.links (number - 1)) link e).1 (on_true link.past link.way link.is_open h) s.each

-- ---- the device's side ends

closed_served : (link : LinkState) (way : Way) → IsServedBy link way → IsServedBy (closed_link link) way
closed_served link Quiet h = h
closed_served link (Asked request) h = h
closed_served link (Told exchange) h = h

closed_true : (link : LinkState) (way : Way) → IsTrueBy link way → IsTrueBy (closed_link link) way
closed_true link Quiet h = tt
closed_true link (Asked request) h = h
closed_true link (Told exchange) h = λ e. refl

each_closed : (found : Option LinkState) → IfSome found (λ link. HasServed (Some link) → HasServed (Some (closed_link link)))
each_closed None = tt
each_closed (Some link) = closed_served link link.way

pub lost_steady : (wire : WireState) (number : ℕ) → IsSteady wire → IsSteady (lost wire number)
lost_steady wire number s = record {
  current = λ is. current_changed (λ o p. HasServed o → HasServed p) (λ o h. h) closed_link wire number (link_at wire number) refl (each_closed (link_at wire number))
      (s.current (sym (ap is_some (changed_current closed_link wire number (link_at wire number))) ∙ is));
  each = each_changed closed_link wire number (λ place. IsTrue) (λ place link h. closed_true link link.way h) (link_at wire number) refl s.each;
}

pub restarted_steady : (wire : WireState) → IsSteady wire → IsSteady (restarted wire)
restarted_steady wire s = record {
  current = λ is. current_restarted (λ o p. HasServed o → HasServed p) (λ o h. h) (λ link. closed_served link link.way) wire (s.current is);
  each = each_restarted (λ place. IsTrue) (λ place link h. closed_true link link.way h) wire s.each;
}
