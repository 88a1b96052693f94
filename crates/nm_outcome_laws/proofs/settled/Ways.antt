-- What a report takes for undelivered is a request on its way.
use Rattle.std.proofs.Common.{◌≡◌, ◌∙◌, ◌⊎◌, inl, inr, ℕ, zero, suc, ◌+◌, ◌-◌, ◌==◌, ◌≤◌, ◌<◌, Bool, true, false, cond, ◌||◌, length, get_or, Option, Some, None, IfSome, is_some, option_and_then, slice_get, refl, sym, ap, arith}
use Rattle.std.proofs.lemmas.Bool.Decides.{nat_tests}
use Rattle.std.proofs.lemmas.Option.{slice_get_cases, slice_get_within}
use Rattle.nm_base.specs.Token.{token_of}
use Rattle.nm_proto.specs.declared.message.Request.{Request}
use Rattle.nm_sessions.specs.Sessions.{is_open}
use Rattle.nm_history.specs.declared.outcome.Outcome.{Outcome}
use Rattle.nm_history.specs.declared.outcome.Outcome.TheVariants.{Never, Pending, Confirmed, Undone}
use Rattle.nm_history.specs.Outcome.{is_pending, outcome_of}
use Rattle.nm_history.specs.History.{RecordedState}
use Rattle.nm_wire.specs.declared.link.Way.{Way}
use Rattle.nm_wire.specs.declared.link.Way.TheVariants.{Quiet, Asked, Told}
use Rattle.nm_wire.specs.Link.{LinkState, asked_on, outstanding, session_of}
use Rattle.nm_wire.specs.Wire.{WireState, link_at}
use Rattle.nm_manager.specs.Manager.{wire_in}
use Rattle.nm_world.specs.World.{Setting, WorldState, core_of, is_session_open, manager_in}
use Rattle.nm_world.specs.Report.{any_from, has_undelivered, is_undelivered}
use Rattle.nm_safety.specs.Reported.{TellsAll}
use Rattle.nm_safety.proofs.Basics.{either, never}
use Rattle.nm_outcome_laws.specs.Settled.{HasOnItsWay, IsOnItsWay, TellsUnsettled}

-- ---- one of so many numbers

-- a number of them passes
pub record Passes (test : ℕ → Bool) (number count : ℕ) : Type 0 where
  pub at : ℕ
  pub low : number ≤ at
  pub high : at < number + count
  pub passes : test at ≡ true

any_passes : (test : ℕ → Bool) (number count : ℕ) → any_from test number count ≡ true → Passes test number count
unfolding any_from
any_passes test number zero h = never h
any_passes test number (suc count) h =
    either (test number) (any_from test (number + 1) count) (Passes test number (suc count))
    (λ here. record { at = number; low = omega arith; high = omega arith; passes = here })
    (λ later.
    let found = any_passes test (number + 1) count later in
    record { at = found.at; low = omega (arith, found.low); high = omega (arith, found.high); passes = found.passes }) h

or_left : (a b : Bool) → a ≡ true → (a || b) ≡ true
or_left true b h = refl
or_left false b h = never h

or_right : (a b : Bool) → b ≡ true → (a || b) ≡ true
or_right true b h = refl
or_right false b h = h

-- by which of two it is
first_or_later : (number at count : ℕ) (P : Type 0) → (at ≡ number → P) → (number + 1 ≤ at → at < number + 1 + count → P) → number ≤ at → at < number + suc count → P
first_or_later number at count P here later low high = by_test (at == number) refl
  where
    by_test : (b : Bool) → (at == number) ≡ b → P
    by_test true e = here (same at number e)
      where
        same : (a b : ℕ) → (a == b) ≡ true → a ≡ b
        same a b e = grind (arith, nat_tests)
    by_test false e = let ne = differs at number e in later (omega (arith, low, ne)) (omega (arith, high))
      where
        differs : (a b : ℕ) → (a == b) ≡ false → a ≡ b → ⊥
        differs a b e f = grind (arith, nat_tests)

pub any_of : (test : ℕ → Bool) (number count at : ℕ) → number ≤ at → at < number + count → test at ≡ true → any_from test number count ≡ true
unfolding any_from
any_of test number zero at low high h = absurd (omega (arith, low, high))
any_of test number (suc count) at low high h =
    first_or_later number at count ((test number || any_from test (number + 1) count) ≡ true)
    (λ same. or_left (test number) (any_from test (number + 1) count) (ap test (sym same) ∙ h))
    (λ above below. or_right (test number) (any_from test (number + 1) count) (any_of test (number + 1) count at above below h)) low high

-- ---- one link

opens : (a b : Bool) (asked : Option Request) → is_some (cond a (cond b asked None) None) ≡ true → (a ≡ true) × (b ≡ true) × (is_some asked ≡ true)
opens true true asked h = (refl, refl, h)
opens true false asked h = never h
opens false b asked h = never h

opened : (a b : Bool) (asked : Option Request) → a ≡ true → b ≡ true → is_some asked ≡ true → is_some (cond a (cond b asked None) None) ≡ true
opened true true asked e f h = h
opened true false asked e f h = never f
opened false b asked e f h = never e

asked_so : (way : Way) → is_some (asked_on way) ≡ true → (request : Request) × (way ≡ Asked request)
asked_so Quiet h = never h
asked_so (Asked request) h = (request, refl)
asked_so (Told exchange) h = never h

module _ {Config Node : Type 0} (r : RecordedState Config Node) where
  session_so : (session : Option ℕ) → is_session_open r session ≡ true → IfSome session (λ number. is_open r.device.sessions number ≡ true)
  session_so None h = tt
  session_so (Some number) h = h

  so_session : (session : Option ℕ) → IfSome session (λ number. is_open r.device.sessions number ≡ true) → is_session_open r session ≡ true
  so_session None h = refl
  so_session (Some number) h = h

  -- what such a link has undelivered
  abbrev left_on : LinkState → Option Request
  left_on link = cond (is_session_open r (session_of link)) (outstanding link) None

  on_its_way : (link : LinkState) → is_some (left_on link) ≡ true → IsOnItsWay r link
  on_its_way link h =
      let parts = opens (is_session_open r (session_of link)) link.is_open (asked_on link.way) h in
      let asked = asked_so link.way parts.2 in
      record { request = asked.0; asked = asked.1; side = parts.1; session = session_so (session_of link) parts.0 }

  way_left : (link : LinkState) → IsOnItsWay r link → is_some (left_on link) ≡ true
  way_left link k =
      opened (is_session_open r (session_of link)) link.is_open (asked_on link.way) (so_session (session_of link) k.session) k.side
      (ap (λ way. is_some (asked_on way)) k.asked)

  module _ (wire : WireState) where
    -- the link of a number
    link_there : (place : ℕ) → link_at wire (suc place) ≡ slice_get wire.links place
    link_there place =
        ap (λ b. cond b None (slice_get wire.links (suc place - 1))) (not_zero place) ∙ ap (slice_get wire.links) (before place)
      where
        not_zero : (place : ℕ) → (suc place == 0) ≡ false
        not_zero place = grind (arith, nat_tests)

        before : (place : ℕ) → suc place - 1 ≡ place
        before place = omega arith

    undelivered_is : (place : ℕ) (link : LinkState) → slice_get wire.links place ≡ Some link → is_undelivered r wire (suc place) ≡ is_some (left_on link)
    unfolding is_undelivered
    undelivered_is place link there =
        ap (λ found. is_some (cond (is_session_open r (option_and_then session_of found)) (option_and_then outstanding found) None))
        (link_there place ∙ there)

    has_by : (place : ℕ) (link : LinkState) → slice_get wire.links place ≡ Some link → is_undelivered r wire (suc place) ≡ true → HasOnItsWay r wire.links
    has_by place link there h =
        record { place = place; link = link; there = there; is = on_its_way link (sym (undelivered_is place link there) ∙ h) }

    within : (place : ℕ) → place < length wire.links → is_undelivered r wire (suc place) ≡ true → HasOnItsWay r wire.links
    within place less h = by_found (slice_get_cases wire.links place).1
      where
        by_found : ((x : LinkState) × (place < length wire.links) × (slice_get wire.links place ≡ Some x) × (get_or wire.links place x ≡ x))
            ⊎ ((length wire.links ≤ place) × (slice_get wire.links place ≡ None)) → HasOnItsWay r wire.links
        by_found (inl found) = has_by place found.0 found.2 h
        by_found (inr none) = absurd (let past = none.0 in omega (arith, less, past))

    pub undelivered_way : has_undelivered r wire ≡ true → HasOnItsWay r wire.links
    undelivered_way h =
        let found = any_passes (is_undelivered r wire) 1 (length wire.links) h in
        let low = found.low in
        let high = found.high in
        let number : suc (found.at - 1) ≡ found.at = omega (arith, low) in
        within (found.at - 1) (omega (arith, low, high)) (ap (is_undelivered r wire) number ∙ found.passes)

    pub way_undelivered : HasOnItsWay r wire.links → has_undelivered r wire ≡ true
    way_undelivered k =
        let less = slice_get_within wire.links k.place k.link k.there in
        any_of (is_undelivered r wire) 1 (length wire.links) (suc k.place) (omega arith) (omega (arith, less))
        (undelivered_is k.place k.link k.there ∙ way_left k.link k.is)

-- ---- what is reported

pending_so : (outcome : Outcome) → is_pending outcome ≡ true → outcome ≡ Pending
pending_so Never h = never h
pending_so Pending h = refl
pending_so Confirmed h = never h
pending_so (Undone by) h = never h

module _ {Config Node : Type 0} (r : RecordedState Config Node) (wire : WireState) (outcome : Outcome) where
  forth : (is_pending outcome ≡ true) ⊎ (has_undelivered r wire ≡ true) → (outcome ≡ Pending) ⊎ HasOnItsWay r wire.links
  forth (inl pending) = inl (pending_so outcome pending)
  forth (inr awaits) = inr (undelivered_way r wire awaits)

  back : (outcome ≡ Pending) ⊎ HasOnItsWay r wire.links → (is_pending outcome ≡ true) ⊎ (has_undelivered r wire ≡ true)
  back (inl pending) = inl (ap is_pending pending)
  back (inr way) = inr (way_undelivered r wire way)

pub told_unsettled : {Config TheEdit Node : Type 0} (setting : Setting TheEdit) (w : WorldState Config Node) → TellsAll setting w → TellsUnsettled setting w
told_unsettled setting w all place plan device r planned here =
    let is = (all.told place plan device r planned here).unsettled in
    let wire = wire_in (manager_in (core_of w)) (suc place) (suc device) in
    let outcome = outcome_of (token_of (suc place)) r.history in
    (λ there. let h = is.0 there in (h.0, forth r wire outcome h.1), λ h. is.1 (h.0, back r wire outcome h.1))
