-- Links of a wire, place by place, after what happens on it.
use Rattle.std.proofs.Common.{◌≡◌, ◌∙◌, ℕ, zero, suc, ◌+◌, ◌-◌, ◌==◌, Bool, true, false, cond, List, [], ◌∷◌, ◌++◌, length, map, slice_get, slice_set, Option, Some, None, IfSome, option_and_then, unwrap_or, refl, sym, ap, subst, arith}
use Rattle.std.proofs.lemmas.Bool.Decides.{nat_tests}
use Rattle.nm_proto.specs.declared.message.Request.{Request}
use Rattle.nm_wire.specs.declared.link.Exchange.{Exchange}
use Rattle.nm_wire.specs.Link.{LinkState, fresh_link, is_quiet_way, sent_on, handled_on, closed_link}
use Rattle.nm_wire.specs.Wire.{WireState, current_link, link_at, is_quiet_link, changed, sent, handled_at, restarted, may_send}
use Rattle.nm_manager.specs.Slot.{may_go, gone}
use Rattle.nm_safety.specs.Pair.{first_link}
use Rattle.nm_safety.proofs.Wires.{IsDue}

-- ---- lists

abbrev pub first_of : List LinkState → LinkState
first_of links = unwrap_or (slice_get links 0) fresh_link

pub some_old : (P : LinkState → Type 0) (found : Option LinkState) (old : LinkState) → found ≡ Some old → IfSome found P → P old
some_old P None old e h = absurd (let g : None ≡ Some old = e in cc)
some_old P (Some link) old e h = let g : link ≡ old = cc in subst P g h

each_set : (P : ℕ → LinkState → Type 0) (links : List LinkState) (i : ℕ) (old new : LinkState) → slice_get links i ≡ Some old → (P i old → P i new)
    → ((j : ℕ) → IfSome (slice_get links j) (P j)) → (j : ℕ) → IfSome (slice_get (slice_set links i new) j) (P j)
each_set P [] i old new h step all j = all j
each_set P (x ∷ links) zero old new h step all zero = let e : x ≡ old = cc in step (subst (P zero) e (all zero))
each_set P (x ∷ links) zero old new h step all (suc j) = all (suc j)
each_set P (x ∷ links) (suc i) old new h step all zero = all zero
each_set P (x ∷ links) (suc i) old new h step all (suc j) = each_set (λ k. P (suc k)) links i old new h step (λ k. all (suc k)) j

each_more : (P : ℕ → LinkState → Type 0) (links : List LinkState) (new : LinkState) → P (length links) new → ((j : ℕ) → IfSome (slice_get links j) (P j))
    → (j : ℕ) → IfSome (slice_get (links ++ new ∷ []) j) (P j)
each_more P [] new now all zero = now
each_more P [] new now all (suc j) = search
each_more P (x ∷ links) new now all zero = all zero
each_more P (x ∷ links) new now all (suc j) = each_more (λ k. P (suc k)) links new now (λ k. all (suc k)) j

each_map : (P : ℕ → LinkState → Type 0) (change : LinkState → LinkState) → ((j : ℕ) (link : LinkState) → P j link → P j (change link)) → (links : List LinkState)
    → ((j : ℕ) → IfSome (slice_get links j) (P j)) → (j : ℕ) → IfSome (slice_get (map change links) j) (P j)
each_map P change step [] all j = all j
each_map P change step (x ∷ links) all zero = step zero x (all zero)
each_map P change step (x ∷ links) all (suc j) = each_map (λ k. P (suc k)) change (λ k. step (suc k)) links (λ k. all (suc k)) j

first_set : (Q : LinkState → Type 0) (links : List LinkState) (i : ℕ) (old new : LinkState) → slice_get links i ≡ Some old → (i ≡ 0 → first_of links ≡ old → Q old → Q new)
    → Q (first_of links) → Q (first_of (slice_set links i new))
first_set Q [] i old new h step q = q
first_set Q (x ∷ links) zero old new h step q = let e : x ≡ old = cc in step refl e (subst Q e q)
first_set Q (x ∷ links) (suc i) old new h step q = q

first_more : (Q : LinkState → Type 0) (links : List LinkState) (new : LinkState) → (links ≡ [] → Q fresh_link → Q new) → Q (first_of links) → Q (first_of (links ++ new ∷ []))
first_more Q [] new step q = step refl q
first_more Q (x ∷ links) new step q = q

first_map : (Q : LinkState → Type 0) (change : LinkState → LinkState) → ((link : LinkState) → Q link → Q (change link)) → (links : List LinkState) → Q (first_of links) → Q (first_of (map change links))
first_map Q change step [] q = q
first_map Q change step (x ∷ links) q = step x q

-- ---- a request goes out on the current link

pub record GoesOnOne (wire : WireState) (request : Request) (after : WireState) : Type 0 where
  pub place : ℕ
  pub link : LinkState
  pub here : slice_get wire.links place ≡ Some link
  pub quiet : is_quiet_way link.way ≡ true
  pub current : wire.current ≡ Some (place + 1)
  pub after_is : after ≡ record wire { links = slice_set wire.links place (sent_on request link) }

pub not_zero : (b : Bool) (found : Option LinkState) (link : LinkState) → cond b None found ≡ Some link → (b ≡ false) × (found ≡ Some link)
not_zero true found link h = absurd (let e : None ≡ Some link = h in cc)
not_zero false found link h = (refl, h)

above : (n : ℕ) → (n == 0) ≡ false → n ≡ n - 1 + 1
above n h = grind (arith, nat_tests)

one_at : (links : List LinkState) (number : ℕ) (request : Request) (found : Option LinkState) → link_at (record { links = links; current = Some number }) number ≡ found → is_quiet_link found ≡ true
    → GoesOnOne (record { links = links; current = Some number }) request (changed (sent_on request) (record { links = links; current = Some number }) number found)
one_at links number request None e q = absurd (let g : false ≡ true = q in cc)
one_at links number request (Some link) e q =
    let there : ((number == 0) ≡ false) × (slice_get links (number - 1) ≡ Some link) = not_zero (number == 0) (slice_get links (number - 1)) link e in
    record { place = number - 1; link = link; here = there.1; quiet = q; current = ap Some (above number there.0); after_is = refl }

one_by : (links : List LinkState) (current : Option ℕ) (request : Request) → may_send (record { links = links; current = current }) ≡ true
    → GoesOnOne (record { links = links; current = current }) request (sent (record { links = links; current = current }) request)
one_by links None request q = absurd (let g : false ≡ true = q in cc)
one_by links (Some number) request q = one_at links number request (link_at (record { links = links; current = Some number }) number) refl q

pub sent_one : (wire : WireState) (request : Request) → may_send wire ≡ true → GoesOnOne wire request (sent wire request)
sent_one wire request q = one_by wire.links wire.current request q

-- ---- a request goes out

pub first_gone : (Q : LinkState → Type 0) (new : Bool) (wire : WireState) (request : Request) → may_go new wire ≡ true
    → ((link : LinkState) → first_link wire ≡ link → is_quiet_way link.way ≡ true → Q link → Q (sent_on request link)) → Q (first_link wire) → Q (first_link (gone new wire request))
first_gone Q true wire request goes step q = first_more Q wire.links (sent_on request fresh_link) (λ none f. step fresh_link (ap first_of none) refl f) q
first_gone Q false wire request goes step q =
    let one : GoesOnOne wire request (sent wire request) = sent_one wire request goes in
    subst (λ w. Q (first_link w)) (sym one.after_is) (first_set Q wire.links one.place one.link (sent_on request one.link) one.here (λ z e f. step one.link e one.quiet f) q)

plus_one : (place : ℕ) → (place + 1 == 0) ≡ false
plus_one place = grind (arith, nat_tests)

-- the current link is the one at its place
current_at : (wire : WireState) (place : ℕ) (link : LinkState) → wire.current ≡ Some (place + 1) → slice_get wire.links place ≡ Some link → current_link wire ≡ Some link
current_at wire place link current here =
    let same : place + 1 - 1 ≡ place = omega arith in
    ap (option_and_then (link_at wire)) current ∙ ap (λ b. cond b None (slice_get wire.links (place + 1 - 1))) (plus_one place) ∙ ap (slice_get wire.links) same ∙ here

pub each_gone : (P : ℕ → LinkState → Type 0) (new : Bool) (wire : WireState) (request : Request) → may_go new wire ≡ true → ((place : ℕ) → P place fresh_link)
    → ((place : ℕ) (link : LinkState) → (new ≡ false → (wire.current ≡ Some (place + 1)) × (current_link wire ≡ Some link)) → is_quiet_way link.way ≡ true → P place link → P place (sent_on request link))
    → ((place : ℕ) → IfSome (slice_get wire.links place) (P place)) → (place : ℕ) → IfSome (slice_get (gone new wire request).links place) (P place)
each_gone P true wire request goes fresh step all place =
    each_more P wire.links (sent_on request fresh_link) (step (length wire.links) fresh_link (λ e. absurd (let g : true ≡ false = e in cc)) refl (fresh (length wire.links))) all place
each_gone P false wire request goes fresh step all place =
    let one : GoesOnOne wire request (sent wire request) = sent_one wire request goes in
    subst (λ w. IfSome (slice_get w.links place) (P place)) (sym one.after_is)
    (each_set P wire.links one.place one.link (sent_on request one.link) one.here (λ p. step one.place one.link (λ e. (one.current, current_at wire one.place one.link one.current one.here)) one.quiet p) all place)

-- ---- a reply is handled

module _ (wire : WireState) (link : ℕ) (exchange : Exchange) (due_now : IsDue wire link exchange) where
  held_at : slice_get wire.links (link - 1) ≡ Some due_now.held
  held_at = (not_zero (link == 0) (slice_get wire.links (link - 1)) due_now.held due_now.here).1

  links_after : (handled_at wire link (Some exchange)).links ≡ slice_set wire.links (link - 1) (handled_on due_now.held)
  links_after = ap (λ found. (changed handled_on wire link found).links) due_now.here

  -- where it is link 1, it is the first
  pub held_first : link ≡ 1 → first_link wire ≡ due_now.held
  held_first one = ap (λ found. unwrap_or found fresh_link) (subst (λ l. slice_get wire.links (l - 1) ≡ Some due_now.held) one held_at)

  pub first_heard : (Q : LinkState → Type 0) → (first_link wire ≡ due_now.held → Q due_now.held → Q (handled_on due_now.held)) → Q (first_link wire) → Q (first_link (handled_at wire link (Some exchange)))
  first_heard Q step q =
      subst (λ links. Q (first_of links)) (sym links_after) (first_set Q wire.links (link - 1) due_now.held (handled_on due_now.held) held_at (λ z e f. step e f) q)

  pub each_heard : (P : ℕ → LinkState → Type 0) → ((place : ℕ) → P place due_now.held → P place (handled_on due_now.held)) → ((place : ℕ) → IfSome (slice_get wire.links place) (P place))
      → (place : ℕ) → IfSome (slice_get (handled_at wire link (Some exchange)).links place) (P place)
  each_heard P step all place =
      subst (λ links. IfSome (slice_get links place) (P place)) (sym links_after)
      (each_set P wire.links (link - 1) due_now.held (handled_on due_now.held) held_at (step (link - 1)) all place)

-- ---- a link has changed

module _ (change : LinkState → LinkState) (wire : WireState) (number : ℕ) where
  is_one : (b : Bool) → (number == 0) ≡ b → b ≡ false → number - 1 ≡ 0 → number ≡ 1
  is_one b e n z = one_of number (e ∙ n) z
    where
      one_of : (n : ℕ) → (n == 0) ≡ false → n - 1 ≡ 0 → n ≡ 1
      one_of n e z = grind (arith, nat_tests)

  -- the first link changes where it is the one
  pub first_changed : (Q : LinkState → Type 0) → ((link : LinkState) → number ≡ 1 → link_at wire number ≡ Some link → Q link → Q (change link)) → (found : Option LinkState) → link_at wire number ≡ found
      → Q (first_link wire) → Q (first_link (changed change wire number found))
  first_changed Q step None e q = q
  first_changed Q step (Some link) e q =
      let there : ((number == 0) ≡ false) × (slice_get wire.links (number - 1) ≡ Some link) = not_zero (number == 0) (slice_get wire.links (number - 1)) link e in
      first_set Q wire.links (number - 1) link (change link) there.1 (λ z f. step link (is_one (number == 0) refl there.0 z) e) q

  pub each_changed : (P : ℕ → LinkState → Type 0) → ((place : ℕ) (link : LinkState) → P place link → P place (change link)) → (found : Option LinkState) → link_at wire number ≡ found
      → ((place : ℕ) → IfSome (slice_get wire.links place) (P place)) → (place : ℕ) → IfSome (slice_get (changed change wire number found).links place) (P place)
  each_changed P step None e all = all
  each_changed P step (Some link) e all =
      each_set P wire.links (number - 1) link (change link) (not_zero (number == 0) (slice_get wire.links (number - 1)) link e).1 (step (number - 1) link) all

pub first_restarted : (Q : LinkState → Type 0) → ((link : LinkState) → Q link → Q (closed_link link)) → (wire : WireState) → Q (first_link wire) → Q (first_link (restarted wire))
first_restarted Q step wire q = first_map Q closed_link step wire.links q

pub each_restarted : (P : ℕ → LinkState → Type 0) → ((place : ℕ) (link : LinkState) → P place link → P place (closed_link link)) → (wire : WireState)
    → ((place : ℕ) → IfSome (slice_get wire.links place) (P place)) → (place : ℕ) → IfSome (slice_get (restarted wire).links place) (P place)
each_restarted P step wire all = each_map P closed_link step wire.links all
