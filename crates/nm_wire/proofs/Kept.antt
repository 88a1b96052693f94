-- What stays on a link, step by step.
use Rattle.std.proofs.Common.{◌≡◌, ◌≤◌, ◌∙◌, ℕ, zero, suc, ◌-◌, ◌==◌, Bool, true, false, not, ◌&&◌, cond, List, [], ◌∷◌, ◌++◌, length, map, fold, slice_get, slice_set, Option, Some, None, IfSome, refl, ap, arith}
use Rattle.std.proofs.lemmas.List.Sums.{fold-append}
use Rattle.nm_proto.specs.declared.message.Request.{Request}
use Rattle.nm_proto.specs.declared.message.Reply.{Reply}
use Rattle.nm_wire.specs.declared.link.Exchange.{Exchange}
use Rattle.nm_wire.specs.declared.link.Way.{Way}
use Rattle.nm_wire.specs.declared.link.Way.TheVariants.{Quiet, Asked, Told}
use Rattle.nm_wire.specs.Link.{LinkState, fresh_link, is_quiet, is_quiet_way, closes, sent_on, told_on, told_by, handled_on, handled_by, closed_link, over_way}
use Rattle.nm_wire.specs.Words.{exchanges_of, with_exchange}
use Rattle.nm_wire.specs.Wire.{WireState, link_at, changed, with_link, begun, sent, sent_at, told, handled, handled_at, lost, restarted, may_send, due, is_quiet_link}
use Rattle.nm_wire.specs.Kept.{GoesOn, GoesOnAs, KeepsLinks}

-- ---- a link

append_nil : {A : Type 0} (xs : List A) → xs ≡ xs ++ []
append_nil [] = refl
append_nil (x ∷ xs) = ap (λ rest. x ∷ rest) (append_nil xs)

same_told : (before after : LinkState) → exchanges_of after ≡ exchanges_of before → length before.past ≤ length after.past → (before.is_open ≡ false → after.is_open ≡ false) → GoesOn before after
same_told before after told handled closed = record { more = []; told = told ∙ append_nil (exchanges_of before); handled = handled; closed = closed }

pub itself : (link : LinkState) → GoesOn link link
itself link = same_told link link refl (omega arith) (λ h. h)

sent_way : (xs : List Exchange) (way : Way) (request : Request) → is_quiet_way way ≡ true → over_way with_exchange xs (Asked request) ≡ over_way with_exchange xs way
sent_way xs Quiet request h = refl
sent_way xs (Asked other) request h = refl
sent_way xs (Told exchange) request h = absurd (let e : false ≡ true = h in cc)

goes_sent : (request : Request) (link : LinkState) → is_quiet link ≡ true → GoesOn link (sent_on request link)
goes_sent request link h = same_told link (sent_on request link) (sent_way (fold with_exchange [] link.past) link.way request h) (omega arith) (λ c. c)

shut : (b c : Bool) → b ≡ false → (b && c) ≡ false
shut true c h = absurd (let e : true ≡ false = h in cc)
shut false c h = refl

goes_told_by : (reply : Reply) (past : List Exchange) (way : Way) (is_open : Bool)
    → GoesOn (record { past = past; way = way; is_open = is_open }) (told_by reply (record { past = past; way = way; is_open = is_open }) way)
goes_told_by reply past Quiet is_open = itself (record { past = past; way = Quiet; is_open = is_open })
goes_told_by reply past (Told exchange) is_open = itself (record { past = past; way = Told exchange; is_open = is_open })
goes_told_by reply past (Asked request) is_open = record {
  more = record { request = request; reply = reply } ∷ [];
  told = refl;
  handled = omega arith;
  closed = λ h. shut is_open (not (closes request reply)) h;
}

goes_told : (reply : Reply) (link : LinkState) → GoesOn link (told_on reply link)
goes_told reply link = goes_told_by reply link.past link.way link.is_open

longer : (past : List Exchange) (exchange : Exchange) → length past ≤ length (past ++ exchange ∷ [])
longer [] exchange = omega arith
longer (x ∷ past) exchange = let e = longer past exchange in omega (arith, e)

goes_handled_by : (past : List Exchange) (way : Way) (is_open : Bool)
    → GoesOn (record { past = past; way = way; is_open = is_open }) (handled_by (record { past = past; way = way; is_open = is_open }) way)
goes_handled_by past Quiet is_open = itself (record { past = past; way = Quiet; is_open = is_open })
goes_handled_by past (Asked request) is_open = itself (record { past = past; way = Asked request; is_open = is_open })
goes_handled_by past (Told exchange) is_open =
    same_told (record { past = past; way = Told exchange; is_open = is_open }) (record { past = past ++ exchange ∷ []; way = Quiet; is_open = is_open })
    (fold-append with_exchange [] past (exchange ∷ [])) (longer past exchange) (λ h. h)

goes_handled : (link : LinkState) → GoesOn link (handled_on link)
goes_handled link = goes_handled_by link.past link.way link.is_open

goes_closed : (link : LinkState) → GoesOn link (closed_link link)
goes_closed link = same_told link (closed_link link) refl (omega arith) (λ h. refl)

-- ---- a list of links

abbrev At : List LinkState → List LinkState → ℕ → Type 0
At xs ys j = IfSome (slice_get xs j) (λ link. GoesOnAs link (slice_get ys j))

all_stay : (xs : List LinkState) (j : ℕ) → At xs xs j
all_stay [] j = search
all_stay (x ∷ xs) zero = itself x
all_stay (x ∷ xs) (suc j) = all_stay xs j

one_changes : (xs : List LinkState) (i j : ℕ) (link new : LinkState) → slice_get xs i ≡ Some link → GoesOn link new → At xs (slice_set xs i new) j
one_changes [] i j link new h g = search
one_changes (x ∷ xs) zero zero link new h g = let e : x ≡ link = cc in rw e g
one_changes (x ∷ xs) zero (suc j) link new h g = all_stay xs j
one_changes (x ∷ xs) (suc i) zero link new h g = itself x
one_changes (x ∷ xs) (suc i) (suc j) link new h g = one_changes xs i j link new h g

one_comes : (xs : List LinkState) (new : LinkState) (j : ℕ) → At xs (xs ++ new ∷ []) j
one_comes [] new j = search
one_comes (x ∷ xs) new zero = itself x
one_comes (x ∷ xs) new (suc j) = one_comes xs new j

all_change : (change : LinkState → LinkState) (goes : (link : LinkState) → GoesOn link (change link)) (xs : List LinkState) (j : ℕ) → At xs (map change xs) j
all_change change goes [] j = search
all_change change goes (x ∷ xs) zero = goes x
all_change change goes (x ∷ xs) (suc j) = all_change change goes xs j

-- ---- a wire

numbered : (b : Bool) (one other : Option LinkState) → IfSome one (λ link. GoesOnAs link other) → IfSome (cond b None one) (λ link. GoesOnAs link (cond b None other))
numbered true one other h = search
numbered false one other h = h

keeps : (wire now : WireState) → ((j : ℕ) → At wire.links now.links j) → KeepsLinks wire now
keeps wire now h number = numbered (number == 0) (slice_get wire.links (number - 1)) (slice_get now.links (number - 1)) (h (number - 1))

there : (b : Bool) (one : Option LinkState) (link : LinkState) → cond b None one ≡ Some link → one ≡ Some link
there true one link h = absurd (let e : None ≡ Some link = h in cc)
there false one link h = h

changes : (change : LinkState → LinkState) (wire : WireState) (number : ℕ) (found : Option LinkState) → link_at wire number ≡ found → IfSome found (λ link. GoesOn link (change link))
    → KeepsLinks wire (changed change wire number found)
changes change wire number None h g = keeps wire wire (all_stay wire.links)
changes change wire number (Some link) h g =
    keeps wire (with_link wire number (change link))
    (λ j. one_changes wire.links (number - 1) j link (change link) (there (number == 0) (slice_get wire.links (number - 1)) link h) g)

each : (change : LinkState → LinkState) (goes : (link : LinkState) → GoesOn link (change link)) (found : Option LinkState) → IfSome found (λ link. GoesOn link (change link))
each change goes None = search
each change goes (Some link) = goes link

pub kept_told : (wire : WireState) (number : ℕ) (reply : Reply) → KeepsLinks wire (told wire number reply)
kept_told wire number reply = changes (told_on reply) wire number (link_at wire number) refl (each (told_on reply) (goes_told reply) (link_at wire number))

pub kept_lost : (wire : WireState) (number : ℕ) → KeepsLinks wire (lost wire number)
kept_lost wire number = changes closed_link wire number (link_at wire number) refl (each closed_link goes_closed (link_at wire number))

pub kept_restarted : (wire : WireState) → KeepsLinks wire (restarted wire)
kept_restarted wire = keeps wire (restarted wire) (all_change closed_link goes_closed wire.links)

pub kept_begun : (wire : WireState) (request : Request) → KeepsLinks wire (begun wire request)
kept_begun wire request = keeps wire (begun wire request) (one_comes wire.links (sent_on request fresh_link))

kept_handled_at : (wire : WireState) (number : ℕ) (found : Option Exchange) → KeepsLinks wire (handled_at wire number found)
kept_handled_at wire number None = keeps wire wire (all_stay wire.links)
kept_handled_at wire number (Some exchange) = changes handled_on wire number (link_at wire number) refl (each handled_on goes_handled (link_at wire number))

pub kept_handled : (wire : WireState) (link number : ℕ) → KeepsLinks wire (handled wire link number)
kept_handled wire link number = kept_handled_at wire link (due wire link number)

quiet_goes : (request : Request) (found : Option LinkState) → is_quiet_link found ≡ true → IfSome found (λ link. GoesOn link (sent_on request link))
quiet_goes request None h = search
quiet_goes request (Some link) h = goes_sent request link h

kept_sent_at : (links : List LinkState) (request : Request) (current : Option ℕ) → may_send (record { links = links; current = current }) ≡ true
    → KeepsLinks (record { links = links; current = current }) (sent_at (record { links = links; current = current }) request current)
kept_sent_at links request None h = absurd (let e : false ≡ true = h in cc)
kept_sent_at links request (Some number) h =
    let wire : WireState = record { links = links; current = Some number } in
    changes (sent_on request) wire number (link_at wire number) refl (quiet_goes request (link_at wire number) h)

pub kept_sent : (wire : WireState) (request : Request) → may_send wire ≡ true → KeepsLinks wire (sent wire request)
kept_sent wire request h = kept_sent_at wire.links request wire.current h
