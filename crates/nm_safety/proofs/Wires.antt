-- What happens to the current link of a wire.
use Rattle.std.proofs.Common.{◌≡◌, ◌∙◌, ℕ, zero, suc, ◌+◌, ◌-◌, ◌==◌, Bool, true, false, cond, List, [], ◌∷◌, ◌++◌, length, map, slice_get, slice_set, Option, Some, None, IfSome, option_and_then, refl, sym, ap, arith}
use Rattle.std.proofs.lemmas.Bool.Decides.{nat_tests}
use Rattle.nm_proto.specs.declared.message.Request.{Request}
use Rattle.nm_wire.specs.declared.link.Exchange.{Exchange}
use Rattle.nm_wire.specs.declared.link.Way.{Way}
use Rattle.nm_wire.specs.declared.link.Way.TheVariants.{Quiet, Asked, Told}
use Rattle.nm_wire.specs.Link.{LinkState, fresh_link, sent_on, handled_on, handled_by, due_on, told_on_way, ends, closed_link}
use Rattle.nm_wire.specs.Wire.{WireState, link_at, current_link, changed, with_link, begun, sent, sent_at, handled_at, due, restarted}

module _ {A : Type 0} where
  -- what stands where it was set
  pub set_there : (xs : List A) (i : ℕ) (old new : A) → slice_get xs i ≡ Some old → slice_get (slice_set xs i new) i ≡ Some new
  set_there [] i old new h = absurd (let e : None ≡ Some old = h in cc)
  set_there (x ∷ xs) zero old new h = refl
  set_there (x ∷ xs) (suc i) old new h = set_there xs i old new h

  -- what comes last
  pub last_there : (xs : List A) (new : A) → slice_get (xs ++ new ∷ []) (length xs) ≡ Some new
  last_there [] new = refl
  last_there (x ∷ xs) new = last_there xs new

module _ {A : Type 0} (R : Option A → Option A → Type 0) (same : (o : Option A) → R o o) where
  -- one element is another
  pub at_set : (xs : List A) (i j : ℕ) (old new : A) → slice_get xs i ≡ Some old → R (Some old) (Some new) → R (slice_get xs j) (slice_get (slice_set xs i new) j)
  at_set [] i j old new h r = absurd (let e : None ≡ Some old = h in cc)
  at_set (x ∷ xs) zero zero old new h r = let e : x ≡ old = cc in rw e r
  at_set (x ∷ xs) zero (suc j) old new h r = same (slice_get xs j)
  at_set (x ∷ xs) (suc i) zero old new h r = same (Some x)
  at_set (x ∷ xs) (suc i) (suc j) old new h r = at_set xs i j old new h r

  pub at_map : (change : A → A) → ((x : A) → R (Some x) (Some (change x))) → (xs : List A) (j : ℕ) → R (slice_get xs j) (slice_get (map change xs) j)
  at_map change r [] j = same None
  at_map change r (x ∷ xs) zero = r x
  at_map change r (x ∷ xs) (suc j) = at_map change r xs j

there : (b : Bool) (one : Option LinkState) (link : LinkState) → cond b None one ≡ Some link → one ≡ Some link
there true one link h = absurd (let e : None ≡ Some link = h in cc)
there false one link h = h

numbered : (b : Bool) (one other : Option LinkState) (link new : LinkState) → cond b None one ≡ Some link → other ≡ Some new → cond b None other ≡ Some new
numbered true one other link new h e = absurd (let g : None ≡ Some link = h in cc)
numbered false one other link new h e = e

-- ---- a relation that each changed link keeps

module _ (R : Option LinkState → Option LinkState → Type 0) (same : (o : Option LinkState) → R o o) where
  if_numbered : (b : Bool) (x y : Option LinkState) → R x y → R (cond b None x) (cond b None y)
  if_numbered true x y r = same None
  if_numbered false x y r = r

  pub at_changed : (change : LinkState → LinkState) (wire : WireState) (number c : ℕ) (found : Option LinkState) → link_at wire number ≡ found
      → IfSome found (λ link. R (Some link) (Some (change link))) → R (link_at wire c) (link_at (changed change wire number found) c)
  at_changed change wire number c None e r = same (link_at wire c)
  at_changed change wire number c (Some link) e r =
      if_numbered (c == 0) (slice_get wire.links (c - 1)) (slice_get (slice_set wire.links (number - 1) (change link)) (c - 1))
      (at_set R same wire.links (number - 1) (c - 1) link (change link) (there (number == 0) (slice_get wire.links (number - 1)) link e) r)

  by_current : (wire now : WireState) (current : Option ℕ) → ((c : ℕ) → R (link_at wire c) (link_at now c)) → R (option_and_then (link_at wire) current) (option_and_then (link_at now) current)
  by_current wire now None h = same None
  by_current wire now (Some c) h = h c

  pub current_changed : (change : LinkState → LinkState) (wire : WireState) (number : ℕ) (found : Option LinkState) → link_at wire number ≡ found
      → IfSome found (λ link. R (Some link) (Some (change link))) → R (current_link wire) (current_link (changed change wire number found))
  current_changed change wire number None e r = same (current_link wire)
  current_changed change wire number (Some link) e r =
      by_current wire (with_link wire number (change link)) wire.current (λ c. at_changed change wire number c (Some link) e r)

  pub current_restarted : ((link : LinkState) → R (Some link) (Some (closed_link link))) → (wire : WireState) → R (current_link wire) (current_link (restarted wire))
  current_restarted r wire =
      by_current wire (restarted wire) wire.current
      (λ c. if_numbered (c == 0) (slice_get wire.links (c - 1)) (slice_get (map closed_link wire.links) (c - 1)) (at_map R same closed_link r wire.links (c - 1)))

pub changed_current : (change : LinkState → LinkState) (wire : WireState) (number : ℕ) (found : Option LinkState) → (changed change wire number found).current ≡ wire.current
changed_current change wire number None = refl
changed_current change wire number (Some link) = refl

-- ---- a request goes out

pub current_begun : (wire : WireState) (request : Request) → current_link (begun wire request) ≡ Some (sent_on request fresh_link)
current_begun wire request =
    let past : (length wire.links + 1 == 0) ≡ false = by_arith (length wire.links) in
    rw past (let place : length wire.links + 1 - 1 ≡ length wire.links = omega arith in rw place (last_there wire.links (sent_on request fresh_link)))
  where
    by_arith : (n : ℕ) → (n + 1 == 0) ≡ false
    by_arith n = grind (arith, nat_tests)

current_sent_at : (links : List LinkState) (request : Request) (current : Option ℕ) (link : LinkState) → current_link (record { links = links; current = current }) ≡ Some link
    → current_link (sent_at (record { links = links; current = current }) request current) ≡ Some (sent_on request link)
current_sent_at links request None link h = absurd (let e : None ≡ Some link = h in cc)
current_sent_at links request (Some number) link h =
    let wire : WireState = record { links = links; current = Some number } in
    let here : link_at wire number ≡ Some link = h in
    rw here (numbered (number == 0) (slice_get links (number - 1)) (slice_get (slice_set links (number - 1) (sent_on request link)) (number - 1)) link (sent_on request link) h
    (set_there links (number - 1) link (sent_on request link) (there (number == 0) (slice_get links (number - 1)) link h)))

pub current_sent : (wire : WireState) (request : Request) (link : LinkState) → current_link wire ≡ Some link → current_link (sent wire request) ≡ Some (sent_on request link)
current_sent wire request link h = current_sent_at wire.links request wire.current link h

-- ---- a reply is handled

-- the reply to be handled next stands on the current link
pub record IsDue (wire : WireState) (link : ℕ) (exchange : Exchange) : Type 0 where
  pub held : LinkState
  pub current : wire.current ≡ Some link
  pub here : link_at wire link ≡ Some held
  pub way : held.way ≡ Told exchange

told_way : (way : Way) (exchange : Exchange) → told_on_way way ≡ Some exchange → way ≡ Told exchange
told_way Quiet exchange h = absurd (let e : None ≡ Some exchange = h in cc)
told_way (Asked request) exchange h = absurd (let e : None ≡ Some exchange = h in cc)
told_way (Told other) exchange h = let e : other ≡ exchange = cc in ap Told e

told_if : (b : Bool) (told : Option Exchange) (exchange : Exchange) → cond b told None ≡ Some exchange → told ≡ Some exchange
told_if true told exchange h = h
told_if false told exchange h = absurd (let e : None ≡ Some exchange = h in cc)

due_link : (wire : WireState) (link number : ℕ) (exchange : Exchange) (found : Option LinkState) → wire.current ≡ Some link → link_at wire link ≡ found
    → option_and_then (due_on number) found ≡ Some exchange → IsDue wire link exchange
due_link wire link number exchange None c e h = absurd (let g : None ≡ Some exchange = h in cc)
due_link wire link number exchange (Some held) c e h = record {
  held = held;
  current = c;
  here = e;
  way = told_way held.way exchange (told_if (number == length held.past + 1) (told_on_way held.way) exchange h);
}

same_number : (a b : ℕ) → (a == b) ≡ true → a ≡ b
same_number a b h = grind (arith, nat_tests)

due_by : (links : List LinkState) (current : Option ℕ) (link number : ℕ) (exchange : Exchange) → due (record { links = links; current = current }) link number ≡ Some exchange
    → IsDue (record { links = links; current = current }) link exchange
due_by links None link number exchange h = absurd (let g : None ≡ Some exchange = h in cc)
due_by links (Some c) link number exchange h = by_number (link == c) refl h
  where
    wire : WireState
    wire = record { links = links; current = Some c }

    by_number : (b : Bool) → (link == c) ≡ b → cond b (option_and_then (due_on number) (link_at wire link)) None ≡ Some exchange → IsDue wire link exchange
    by_number false e h = absurd (let g : None ≡ Some exchange = h in cc)
    by_number true e h = due_link wire link number exchange (link_at wire link) refl-c refl h
      where
        refl-c : Some c ≡ Some link
        refl-c = ap Some (sym (same_number link c e))

pub due_is : (wire : WireState) (link number : ℕ) (exchange : Exchange) → due wire link number ≡ Some exchange → IsDue wire link exchange
due_is wire link number exchange h = due_by wire.links wire.current link number exchange h

changed_there : (change : LinkState → LinkState) (wire : WireState) (number : ℕ) (found : Option LinkState) (link : LinkState) → link_at wire number ≡ found → found ≡ Some link
    → link_at (changed change wire number found) number ≡ Some (change link)
changed_there change wire number None link e s = absurd (let g : None ≡ Some link = s in cc)
changed_there change wire number (Some other) link e s =
    let same : other ≡ link = cc in
    numbered (number == 0) (slice_get wire.links (number - 1)) (slice_get (slice_set wire.links (number - 1) (change other)) (number - 1)) other (change other) e
    (set_there wire.links (number - 1) other (change other) (there (number == 0) (slice_get wire.links (number - 1)) other e))
    ∙ ap (λ l. Some (change l)) same

pub current_handled : (wire : WireState) (link : ℕ) (exchange : Exchange) (d : IsDue wire link exchange)
    → current_link (handled_at wire link (Some exchange)) ≡ cond (ends exchange.request exchange.reply) None (Some (handled_on d.held))
current_handled wire link exchange d = by_end (ends exchange.request exchange.reply)
  where
    by_end : (b : Bool) → current_link (record (changed handled_on wire link (link_at wire link)) { current = cond b None wire.current }) ≡ cond b None (Some (handled_on d.held))
    by_end true = refl
    by_end false = ap (option_and_then (link_at (changed handled_on wire link (link_at wire link)))) d.current ∙ changed_there handled_on wire link (link_at wire link) d.held refl d.here

-- a link whose reply is handled is quiet
handled_way : (link : LinkState) (way : Way) (exchange : Exchange) → way ≡ Told exchange → (handled_by link way).way ≡ Quiet
handled_way link Quiet exchange h = absurd (let e : Quiet ≡ Told exchange = h in cc)
handled_way link (Asked request) exchange h = absurd (let e : Asked request ≡ Told exchange = h in cc)
handled_way link (Told other) exchange h = refl

pub handled_quiet : (link : LinkState) (exchange : Exchange) → link.way ≡ Told exchange → (handled_on link).way ≡ Quiet
handled_quiet link exchange h = handled_way link link.way exchange h
