-- A change set comes to a device with its commit: that is the first one, on the first link, and finds running as it was locked.
use Rattle.std.proofs.Common.{◌≡◌, ◌∙◌, ℕ, zero, suc, ◌+◌, ◌-◌, ◌≤◌, ◌<◌, ◌^◌, ◌==◌, Bool, true, false, List, ◌∷◌, ◌++◌, [], Option, Some, None, option_and_then, option_map, slice_get, unwrap_or, refl, sym, ap, subst, arith}
use Rattle.std.proofs.lemmas.Option.{none-some, same_Some}
use Rattle.nm_base.specs.Token.{token_of}
use Rattle.nm_proto.specs.declared.ask.Ask.TheVariants as ask
use Rattle.nm_proto.specs.declared.message.Request.{Request}
use Rattle.nm_proto.specs.declared.message.Request.TheVariants.{OpenSession, Lock, Unlock, PartialLock, PartialUnlock, Edit, Validate, Commit, CancelCommit, Discard, HasMark, GetConfig, Kill, CloseSession}
use Rattle.nm_proto.specs.declared.message.Reply.TheVariants.{Done}
use Rattle.nm_proto.specs.declared.journal.Entry.{Entry}
use Rattle.nm_proto.specs.Content.{Meaning}
use Rattle.nm_proto.specs.Plan.{devices_in}
use Rattle.nm_sessions.specs.Sessions.{is_open}
use Rattle.nm_history.specs.declared.event.DeviceEvent.TheVariants.{Asked}
use Rattle.nm_history.specs.declared.event.Noted.{Noted}
use Rattle.nm_history.specs.declared.outcome.Outcome.TheVariants.{Pending}
use Rattle.nm_history.specs.Effect.{is_done_reply}
use Rattle.nm_history.specs.Outcome.{outcome_of}
use Rattle.nm_history.specs.History.{RecordedState, noted}
use Rattle.nm_recovery.specs.Recovery.{verdict_in}
use Rattle.nm_device_laws.specs.Moment.{Happens}
use Rattle.nm_device_laws.specs.Token.{commits_done, gives_token, is_commit_done}
use Rattle.nm_device_laws.proofs.Events.{is_asked}
use Rattle.nm_device_laws.proofs.Outcomes.{begun_told, never_without}
use Rattle.nm_decider.specs.declared.seat.Seat.{Seat}
use Rattle.nm_wire.specs.Asks.{ask_of, same_ask}
use Rattle.nm_wire.specs.Link.{LinkState, asked_on, fresh_link, outstanding, session_of}
use Rattle.nm_wire.specs.Words.{commit_count, commits_sent}
use Rattle.nm_wire.specs.declared.link.Way.{Way}
use Rattle.nm_wire.specs.declared.link.Way.TheVariants as ways
use Rattle.nm_manager.specs.Slot.{SideState, SlotState}
use Rattle.nm_safety.specs.Delivered.{NamesOurs}
use Rattle.nm_safety.specs.Pair.{EachLink, FirstLink, HoldsRunning, PairHolds, commits_in, undelivered as on_way}
use Rattle.nm_safety.specs.Slots.{HoldsAt}
use Rattle.nm_safety.specs.Support.{AllLinks, IsKept, Owners}
use Rattle.nm_safety.specs.Keeping.{Delivery, IsDone}
use Rattle.nm_safety.proofs.Answered.{told_link}
use Rattle.nm_safety.proofs.Delivered.{names_no_other, no_name_leaves}
use Rattle.nm_safety.proofs.Lists.{some_is}
use Rattle.nm_safety.proofs.PairSteps.{pair_at}
use Rattle.nm_safety.proofs.SlotLinks.{links_at}
use Rattle.nm_safety.proofs.Tables.{both}
use Rattle.nm_world.specs.World.{Setting, WorldState}
use Rattle.nm_commit_laws.proofs.brings.Histories.{left_undone}
use Rattle.nm_commit_laws.specs.Stays.{FindsEnded}
use Rattle.nm_commit_laws.specs.Waits.{Waits}
use Rattle.nm_commit_laws.proofs.marks.Asks.{AloneAsked, AloneOn, AsksCommit, IsAlone, KnownAsked}
use Rattle.nm_commit_laws.proofs.marks.Known.{IsKnown, same_nat}

-- ---- the request

-- it is confirmed, gives the token of the change set and names none
pub record IsBringer (token : List ℕ) (request : Request) : Type 0 where
  pub timeout : Option ℕ
  pub is : request ≡ Commit true timeout (Some token) None
  pub asks : ask_of request ≡ ask.CommitConfirmed

-- of the manager's requests it alone gives a token
bringer : (token : List ℕ) (request : Request) → gives_token token request ≡ true → same_ask (ask_of request) ask.Resync ≡ false
    → NamesOurs token request → IsBringer token request
bringer token (Commit true timeout (Some given) None) g known names = record {
  timeout = timeout;
  is = ap (λ one. Commit true timeout (Some one) None) names.0;
  asks = refl;
}
bringer token (Commit true timeout (Some given) (Some named)) g known names = absurd (let e : true ≡ false = known in cc)
bringer token (Commit false timeout (Some given) None) g known names = absurd (let e : true ≡ false = known in cc)
bringer token (Commit false timeout (Some given) (Some named)) g known names = absurd (let e : true ≡ false = known in cc)
bringer token (Commit confirmed timeout None persist_id) g known names = absurd (let e : false ≡ true = g in cc)
bringer token (CancelCommit persist_id) g known names = absurd (let e : false ≡ true = g in cc)
bringer token (OpenSession user) g known names = absurd (let e : false ≡ true = g in cc)
bringer token (Lock store) g known names = absurd (let e : false ≡ true = g in cc)
bringer token (Unlock store) g known names = absurd (let e : false ≡ true = g in cc)
bringer token (PartialLock select) g known names = absurd (let e : false ≡ true = g in cc)
bringer token (PartialUnlock id) g known names = absurd (let e : false ≡ true = g in cc)
bringer token (Edit edit operation marks) g known names = absurd (let e : false ≡ true = g in cc)
bringer token Validate g known names = absurd (let e : false ≡ true = g in cc)
bringer token Discard g known names = absurd (let e : false ≡ true = g in cc)
bringer token (HasMark mark) g known names = absurd (let e : false ≡ true = g in cc)
bringer token GetConfig g known names = absurd (let e : false ≡ true = g in cc)
bringer token (Kill other) g known names = absurd (let e : false ≡ true = g in cc)
bringer token CloseSession g known names = absurd (let e : false ≡ true = g in cc)

-- ---- the link

-- a commit that is asked for was sent
asked_sent : (link : LinkState) (way : Way) → link.way ≡ way → AsksCommit link → 1 ≤ commits_sent link
asked_sent link ways.Quiet e asks = absurd (none-some ask.CommitConfirmed (ap (λ w. option_map ask_of (asked_on w)) (sym e) ∙ asks))
asked_sent link (ways.Told exchange) e asks = absurd (none-some ask.CommitConfirmed (ap (λ w. option_map ask_of (asked_on w)) (sym e) ∙ asks))
asked_sent link (ways.Asked request) e asks =
    let is : ask_of request ≡ ask.CommitConfirmed =
    same_Some (ask_of request) ask.CommitConfirmed (ap (λ w. option_map ask_of (asked_on w)) (sym e) ∙ asks) in
    let one : commit_count (ask_of request) ≡ 1 = ap commit_count is in
    let sent = (told_link link request Done e).sent in
    omega (arith, one, sent)

-- it goes out on the first link alone
first_place : (place n : ℕ) → (1 ≤ place → n ≡ 0) → 1 ≤ n → place ≡ 0
first_place zero n later one = refl
first_place (suc place) n later one = let none : n ≡ 0 = later (omega arith) in absurd (omega (arith, none, one))

-- and is the first that is done
none_done : (done way sent : ℕ) → done + way ≤ sent → sent ≤ 1 → way ≡ 1 → done ≡ 0
none_done done way sent a b c = omega (arith, a, b, c)

module _ {Config Node : Type 0} (change members : ℕ) (entries : List Entry) (owners : ℕ → Owners) (devices : List (RecordedState Config Node))
    (slot : SlotState) (k : IsKept change members entries owners devices slot) (d : ℕ) (side : SideState)
    (there : slice_get slot.sides d ≡ Some side) (place : ℕ) (link : LinkState) (found : slice_get side.wire.links place ≡ Some link)
    (asks : AsksCommit link) (r : RecordedState Config Node) (here : slice_get devices d ≡ Some r) where
  first_by : (seat : Option Seat) → slice_get slot.course.seats d ≡ seat → FirstLink (token_of change) link r
  first_by None seated = absurd (pair_at change members entries slot k.in_step d None (Some side) seated there)
  first_by (Some seat) seated =
      let pair : PairHolds change (verdict_in change entries) seat side.wire r =
      subst (λ o. HoldsAt change (verdict_in change entries) (Some seat) (Some side) o) here
      (subst (λ o. HoldsAt change (verdict_in change entries) (Some seat) o (slice_get devices d)) there
      (subst (λ o. HoldsAt change (verdict_in change entries) o (slice_get slot.sides d) (slice_get devices d)) seated (k.holds d))) in
      let on_first : place ≡ 0 =
      first_place place (commits_sent link)
      (some_is link (EachLink (verdict_in change entries) place) (slice_get side.wire.links place) found (pair.each place)).later
      (asked_sent link link.way refl asks) in
      subst (λ one. FirstLink (token_of change) one r)
      (ap (λ o. unwrap_or o fresh_link) (subst (λ p. slice_get side.wire.links p ≡ Some link) on_first found)) pair.first

  -- it is the first link
  first_asked : FirstLink (token_of change) link r
  first_asked = first_by (slice_get slot.course.seats d) refl

  -- and its session has running to itself
  pub held_now : (session : ℕ) → session_of link ≡ Some session → is_open r.device.sessions session ≡ true → HoldsRunning session r.device
  held_now session at opened = first_asked.held (first_asked.asked asks) session at opened

-- ---- a commit is done

module _ {Config TheEdit Node : Type 0} (m : Meaning Config TheEdit Node) (setting : Setting TheEdit) (B : WorldState Config Node → Type 0)
    (x : Delivery m setting B) (u : ℕ) (session : session_of x.one ≡ Some u) (done : IsDone m setting B x (Asked u x.request)) where
  abbrev entry : Noted
  entry = noted (Asked u x.request) done.h

  abbrev d : ℕ
  d = x.device - 1

  asker_open : is_open x.r.device.sessions u ≡ true
  asker_open = (is_asked m setting.tables x.r.device u x.request done.h done.happens).asker

  -- it is of the change set that asks
  is_change : (c : ℕ) → c < 2 ^ 32 → is_commit_done (token_of c) entry ≡ true → c ≡ x.change
  is_change c small is = by_number (c == x.change) refl
    where
      by_number : (same : Bool) → (c == x.change) ≡ same → c ≡ x.change
      by_number true e = same_nat c x.change e
      by_number false e =
          absurd (let g : false ≡ true = sym
          (left_undone m setting x.r (Asked u x.request) done.h done.happens (token_of c)
          (no_name_leaves (token_of c) x.r u x.request (names_no_other c x.change small x.small e x.request x.ours.names))) ∙ is in cc)

  commit : (c : ℕ) → c < 2 ^ 32 → is_commit_done (token_of c) entry ≡ true → IsBringer (token_of x.change) x.request
  commit c small is =
      bringer (token_of x.change) x.request
      (both (gives_token (token_of x.change) x.request) (is_done_reply done.h.reply)
      (subst (λ n. is_commit_done (token_of n) entry ≡ true) (is_change c small is) is)).0 x.ours.known x.ours.names

  asks_by : IsBringer (token_of x.change) x.request → AsksCommit x.one
  asks_by b = ap (λ y. option_map ask_of (asked_on y)) x.way ∙ ap Some b.asks

  begun : IsBringer (token_of x.change) x.request → is_done_reply done.h.reply ≡ true
      → outcome_of (token_of x.change) (x.r.history ++ entry ∷ []) ≡ Pending
  begun b is_done =
      let first : FirstLink (token_of x.change) x.one x.r =
      first_asked x.change (devices_in x.plan.edits) x.w.entries x.owners x.w.devices x.slot x.kept d x.side x.at_side (x.link - 1) x.one
      x.at_place (asks_by b) x.r x.here in
      let held : HoldsRunning u x.r.device = first.held (first.asked (asks_by b)) u session asker_open in
      let out_is : outstanding x.one ≡ Some x.request = sym (ap (option_and_then outstanding) x.at_link) ∙ x.out in
      let way_one : on_way x.one ≡ 1 = ap commits_in out_is ∙ ap commit_count b.asks in
      let none : commits_done (token_of x.change) x.r.history ≡ 0 =
      none_done (commits_done (token_of x.change) x.r.history) (on_way x.one) (commits_sent x.one) first.count first.once way_one in
      subst (λ one. outcome_of (token_of x.change) (x.r.history ++ noted (Asked u one) done.h ∷ []) ≡ Pending) (sym b.is)
      (begun_told m setting.tables x.r u done.h (token_of x.change) b.timeout
      (record { happens = subst (λ one. Happens m setting.tables x.r.device (Asked u one) done.h) b.is done.happens; done = is_done })
      held.free (x.known.tells (token_of x.change)) (never_without (token_of x.change) x.r.history none))

  pub new_waits : Waits x.r.history entry
  new_waits c small is =
      subst (λ n. outcome_of (token_of n) (x.r.history ++ entry ∷ []) ≡ Pending) (sym (is_change c small is))
      (begun (commit c small is) (both (gives_token (token_of c) x.request) (is_done_reply done.h.reply) is).1)

  pub new_known : AllLinks (KnownAsked setting.plans x.w.entries x.change) x.slot.sides → (n : ℕ) → n < 2 ^ 32
      → is_commit_done (token_of n) entry ≡ true → IsKnown setting.plans x.w.entries n d
  new_known all n small is =
      subst (λ c. IsKnown setting.plans x.w.entries c d) (sym (is_change n small is))
      (some_is x.one (KnownAsked setting.plans x.w.entries x.change d (x.link - 1)) (slice_get x.side.wire.links (x.link - 1)) x.at_place
      (links_at (KnownAsked setting.plans x.w.entries x.change) x.slot all d x.side x.at_side (x.link - 1)) (asks_by (commit n small is)))

  module _ (all : AllLinks (λ j. AloneAsked x.w.entries x.change j (slice_get x.w.devices j)) x.slot.sides) where
    alone_here : AsksCommit x.one → IsAlone x.w.entries x.change u x.r
    alone_here asks =
        some_is x.r (AloneOn x.w.entries x.change x.one) (slice_get x.w.devices d) x.here
        (some_is x.one (AloneAsked x.w.entries x.change d (slice_get x.w.devices d) (x.link - 1)) (slice_get x.side.wire.links (x.link - 1))
        x.at_place (links_at (λ j. AloneAsked x.w.entries x.change j (slice_get x.w.devices j)) x.slot all d x.side x.at_side (x.link - 1)) asks)
        u session asker_open

    pub new_finds : (n : ℕ) → n < 2 ^ 32 → FindsEnded x.w.entries n x.r.history entry
    new_finds n small c small_c is other there =
        (alone_here (asks_by (commit c small_c is))).ended n small (by_same (n == x.change) refl) there
      where
        by_same : (same : Bool) → (n == x.change) ≡ same → same ≡ false
        by_same false e = refl
        by_same true e =
            let one : n ≡ c = same_nat n x.change e ∙ sym (is_change c small_c is) in
            absurd (let g : true ≡ false = sym is ∙ ap (λ k. is_commit_done (token_of k) entry) (sym one) ∙ other in cc)
