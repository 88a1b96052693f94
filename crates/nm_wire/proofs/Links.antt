-- A wire of which one link is changed: the links at its front that are closed stay so.
use Rattle.std.proofs.Common.{◌≡◌, ℕ, zero, suc, ◌≤◌, ◌&&◌, Bool, true, false, not, List, [], ◌∷◌, length, take, set, get_or, Result, Ok, Err, OnOk, OnErr, refl, ap, ◌∙◌}
use Rattle.std.proofs.Math.ListN.{length-set}
use Rattle.std.proofs.lemmas.List.Elements.{All-cons, All-head, All-tail}
use Rattle.nm_proto.specs.declared.message.Reply.{Reply}
use Rattle.nm_proto.specs.declared.message.Request.{Request}
use Rattle.nm_wire.specs.declared.link.Way.{Way}
use Rattle.nm_wire.specs.declared.link.Way.TheVariants.{Quiet, Asked, Told}
use Rattle.nm_wire.specs.Link.{LinkState, sent_on, told_by, told_on, handled_by, handled_on, closed_link, closes, greatest_number}
use Rattle.nm_wire.specs.Wire.{AreClosed}

abbrev IsClosed : LinkState → Type 0
IsClosed link = link.is_open ≡ false

closed_set : (links : List LinkState) (i n : ℕ) (old new : LinkState) → old ≡ get_or links i old → (IsClosed old → IsClosed new) → AreClosed (take n links) → AreClosed (take n (set links i new))
closed_set [] i n old new is stays h = h
closed_set (link ∷ links) zero zero old new is stays h = h
closed_set (link ∷ links) zero (suc n) old new is stays h =
    All-cons IsClosed new (take n links) (stays (ap (λ (x : LinkState). x.is_open) is ∙ All-head IsClosed link (take n links) h)) (All-tail IsClosed link (take n links) h)
closed_set (link ∷ links) (suc i) zero old new is stays h = h
closed_set (link ∷ links) (suc i) (suc n) old new is stays h =
    All-cons IsClosed link (take n (set links i new)) (All-head IsClosed link (take n links) h) (closed_set links i n old new is stays (All-tail IsClosed link (take n links) h))

-- what is true of every wire stays so
pub stays_sound : (links : List LinkState) (i n : ℕ) (old new : LinkState) → old ≡ get_or links i old → (IsClosed old → IsClosed new)
    → (length links ≤ greatest_number) × (n ≤ length links) × AreClosed (take n links)
    → (length (set links i new) ≤ greatest_number) × (n ≤ length (set links i new)) × AreClosed (take n (set links i new))
stays_sound links i n old new is stays h =
    let long : length (set links i new) ≡ length links = simp length-set in
    (rw long h.0, rw long h.1, closed_set links i n old new is stays h.2)

closed_and : (a b : Bool) → a ≡ false → (a && b) ≡ false
closed_and true b h = absurd (let e : true ≡ false = h in cc)
closed_and false b h = refl

told_closed_by : (reply : Reply) (link : LinkState) (way : Way) → IsClosed link → IsClosed (told_by reply link way)
told_closed_by reply link Quiet h = h
told_closed_by reply link (Asked request) h = closed_and link.is_open (not (closes request reply)) h
told_closed_by reply link (Told exchange) h = h

-- neither a reply nor its handling opens a link
pub told_closed : (reply : Reply) (link new : LinkState) → new ≡ told_on reply link → IsClosed link → IsClosed new
told_closed reply link new is h = ap (λ (x : LinkState). x.is_open) is ∙ told_closed_by reply link link.way h

handled_closed_by : (link : LinkState) (way : Way) → IsClosed link → IsClosed (handled_by link way)
handled_closed_by link Quiet h = h
handled_closed_by link (Asked request) h = h
handled_closed_by link (Told exchange) h = h

pub handled_closed : (link new : LinkState) → new ≡ handled_on link → IsClosed link → IsClosed new
handled_closed link new is h = ap (λ (x : LinkState). x.is_open) is ∙ handled_closed_by link link.way h

-- nor does a request that is sent
pub sent_closed : {A E : Type 0} (result : Result A E) (request : Request) (link new : LinkState) → OnOk result (new ≡ sent_on request link) → OnErr result (new ≡ link) → IsClosed link → IsClosed new
sent_closed (Ok done) request link new sent unchanged h = ap (λ (x : LinkState). x.is_open) sent ∙ h
sent_closed (Err fault) request link new sent unchanged h = ap (λ (x : LinkState). x.is_open) unchanged ∙ h

-- nor its closing
pub closed_closed : (link new : LinkState) → new ≡ closed_link link → IsClosed link → IsClosed new
closed_closed link new is h = ap (λ (x : LinkState). x.is_open) is
