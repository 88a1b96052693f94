-- What is brought where a link asks.
use Rattle.std.proofs.Common.{◌≡◌, ◌∙◌, ℕ, zero, suc, ◌-◌, ◌≤◌, ◌<◌, ◌^◌, ◌==◌, Bool, true, false, List, Option, Some, None, is_some, slice_get, option_map, unwrap_or, refl, sym, ap, subst, arith}
use Rattle.std.proofs.lemmas.Bool.Decides.{nat_tests}
use Rattle.nm_base.specs.Token.{token_of}
use Rattle.nm_proto.specs.declared.ask.Ask.TheVariants as ask
use Rattle.nm_proto.specs.declared.message.Request.{Request}
use Rattle.nm_proto.specs.declared.message.Request.TheVariants.{OpenSession, Lock, Unlock, PartialLock, PartialUnlock, Edit, Validate, Commit, CancelCommit, Discard, HasMark, GetConfig, Kill, CloseSession}
use Rattle.nm_proto.specs.Content.{Meaning, Laws}
use Rattle.nm_proto.specs.Plan.{devices_in}
use Rattle.nm_device.specs.Device.{DeviceState}
use Rattle.nm_history.specs.declared.event.DeviceEvent.TheVariants.{Asked}
use Rattle.nm_history.specs.Effect.{is_done_reply}
use Rattle.nm_history.specs.History.{noted}
use Rattle.nm_recovery.specs.Recovery.{verdict_in}
use Rattle.nm_device_laws.specs.Moment.{Happens}
use Rattle.nm_device_laws.specs.Token.{gives_token, is_commit_done}
use Rattle.nm_device_laws.proofs.Owns.{commits}
use Rattle.nm_decider.specs.declared.seat.Seat.{Seat}
use Rattle.nm_wire.specs.Asks.{ask_of, same_ask}
use Rattle.nm_wire.specs.Link.{asked_on, session_of}
use Rattle.nm_wire.specs.Words.{commit_count, commits_sent}
use Rattle.nm_safety.specs.Keeping.{Delivery, IsDone}
use Rattle.nm_safety.specs.Pair.{EachLink, PairHolds, asked_ask}
use Rattle.nm_safety.proofs.Along.{replays}
use Rattle.nm_safety.proofs.Answered.{told_link}
use Rattle.nm_safety.proofs.Delivered.{names_no_other, no_name_leaves}
use Rattle.nm_safety.proofs.EachPair.{known_at}
use Rattle.nm_safety.proofs.Lists.{some_is}
use Rattle.nm_safety.proofs.Tables.{both}
use Rattle.nm_world.specs.World.{Setting, WorldState}
use Rattle.nm_commit_laws.specs.Brings.{Brings, BringsOwn}
use Rattle.nm_commit_laws.specs.Course.{steps_of}
use Rattle.nm_commit_laws.specs.BringsSupport.{CoursePair, IsBrought, IsEdited, IsOnCourse}
use Rattle.nm_commit_laws.proofs.brings.Histories.{left_undone}
use Rattle.nm_commit_laws.proofs.brings.Others.{pair_here}
use Rattle.nm_commit_laws.proofs.brings.Told.{is_first, prepared_before}

same_nat : (a b : ℕ) → (a == b) ≡ true → a ≡ b
same_nat a b e = grind (arith, nat_tests)

-- the request that brings a change set
record IsBringer (request : Request) : Type 0 where
  confirmed : Bool
  timeout : Option ℕ
  persist : Option (List ℕ)
  persist_id : Option (List ℕ)
  is : request ≡ Commit confirmed timeout persist persist_id
  asks : ask_of request ≡ ask.CommitConfirmed

-- of the manager's requests the confirmed commit alone gives a token
bringer : (token : List ℕ) (request : Request) → gives_token token request ≡ true → same_ask (ask_of request) ask.Resync ≡ false
    → IsBringer request
bringer token (Commit true timeout (Some given) None) g known = record {
  confirmed = true;
  timeout = timeout;
  persist = Some given;
  persist_id = None;
  is = refl;
  asks = refl;
}
bringer token (Commit true timeout (Some given) (Some named)) g known = absurd (let e : true ≡ false = known in cc)
bringer token (Commit false timeout (Some given) None) g known = absurd (let e : true ≡ false = known in cc)
bringer token (Commit false timeout (Some given) (Some named)) g known = absurd (let e : true ≡ false = known in cc)
bringer token (Commit confirmed timeout None persist_id) g known = absurd (let e : false ≡ true = g in cc)
bringer token (CancelCommit persist_id) g known = absurd (let e : false ≡ true = g in cc)
bringer token (OpenSession user) g known = absurd (let e : false ≡ true = g in cc)
bringer token (Lock store) g known = absurd (let e : false ≡ true = g in cc)
bringer token (Unlock store) g known = absurd (let e : false ≡ true = g in cc)
bringer token (PartialLock select) g known = absurd (let e : false ≡ true = g in cc)
bringer token (PartialUnlock id) g known = absurd (let e : false ≡ true = g in cc)
bringer token (Edit edit operation marks) g known = absurd (let e : false ≡ true = g in cc)
bringer token Validate g known = absurd (let e : false ≡ true = g in cc)
bringer token Discard g known = absurd (let e : false ≡ true = g in cc)
bringer token (HasMark mark) g known = absurd (let e : false ≡ true = g in cc)
bringer token GetConfig g known = absurd (let e : false ≡ true = g in cc)
bringer token (Kill other) g known = absurd (let e : false ≡ true = g in cc)
bringer token CloseSession g known = absurd (let e : false ≡ true = g in cc)

-- it goes out on the first link alone
first_place : (place n : ℕ) → (1 ≤ place → n ≡ 0) → 1 ≤ n → place ≡ 0
first_place zero n later one = refl
first_place (suc place) n later one = let none : n ≡ 0 = later (omega arith) in absurd (omega (arith, none, one))

module _ {Config TheEdit Node : Type 0} (m : Meaning Config TheEdit Node) (setting : Setting TheEdit) (B : WorldState Config Node → Type 0)
    (x : Delivery m setting B) (b : IsBrought m setting x.change x.w.entries x.w.devices x.slot) (laws : Laws m) (u : ℕ)
    (session : session_of x.one ≡ Some u) (done : IsDone m setting B x (Asked u x.request)) where
  abbrev d : ℕ
  d = x.device - 1

  -- a change set comes to the device
  abbrev Comes : ℕ → Type 0
  Comes change = Brings m setting x.w.entries change (suc d) x.r.device.stores.running done.h.after.stores.running

  pair_now : (T : Type 0) → ((seat : Seat) → slice_get x.slot.course.seats d ≡ Some seat
      → PairHolds x.change (verdict_in x.change x.w.entries) seat x.side.wire x.r → T) → T
  pair_now T step =
      pair_here m setting x.change (devices_in x.plan.edits) x.w.entries x.owners x.w.devices x.slot x.kept d x.r x.here x.side x.at_side T step

  on_course : (seat : Seat) → slice_get x.slot.course.seats d ≡ Some seat → IsOnCourse (verdict_in x.change x.w.entries) seat x.side.wire
  on_course seat seated =
      known_at (CoursePair (verdict_in x.change x.w.entries) x.w.devices) x.change (devices_in x.plan.edits) x.w.entries x.slot x.kept.in_step
      b.course d seat x.side seated x.at_side (ap is_some x.here)

  module _ (given : gives_token (token_of x.change) x.request ≡ true) (did : is_done_reply done.h.reply ≡ true) where
    commit : IsBringer x.request
    commit = bringer (token_of x.change) x.request given x.ours.known

    sent_one : 1 ≤ commits_sent x.one
    sent_one =
        let one : commit_count (ask_of x.request) ≡ 1 = ap commit_count commit.asks in
        let sent = (told_link x.one x.request done.reply x.way).sent in omega (arith, one, sent)

    on_first : x.link - 1 ≡ 0
    on_first =
        pair_now (x.link - 1 ≡ 0)
        (λ seat seated pair. first_place (x.link - 1) (commits_sent x.one)
        (some_is x.one (EachLink (verdict_in x.change x.w.entries) (x.link - 1)) (slice_get x.side.wire.links (x.link - 1)) x.at_place
        (pair.each (x.link - 1))).later sent_one)

    third : 3 ≤ steps_of x.one
    third =
        pair_now (3 ≤ steps_of x.one)
        (λ seat seated pair.
        subst (λ one. 3 ≤ steps_of one) (is_first m setting B x b on_first)
        ((on_course seat seated).asked
        (ap asked_ask (is_first m setting B x b on_first) ∙ ap (λ y. option_map ask_of (asked_on y)) x.way ∙ ap Some commit.asks)))

    comes : Comes x.change
    comes =
        let edited : IsEdited m setting x.w.entries x.change (suc d) x.r.device =
        (prepared_before m setting B x b u session done on_first).edited third in
        let c = commits m laws setting.tables x.r.device u commit.confirmed commit.timeout commit.persist commit.persist_id done.h
        (record { happens = subst (λ q. Happens m setting.tables x.r.device (Asked u q) done.h) commit.is done.happens; done = did }) in
        let becomes : done.h.after.stores.running ≡ edited.config =
        ap (λ s. s.stores.running) c.after ∙ ap (λ o. unwrap_or o x.r.device.stores.running) edited.candidate in
        subst (Brings m setting x.w.entries x.change (suc d) x.r.device.stores.running) (sym becomes) edited.brings

  -- a commit that gives the token of a change set is the link's own
  by_number : (change : ℕ) → change < 2 ^ 32 → is_commit_done (token_of change) (noted (Asked u x.request) done.h) ≡ true
      → (same : Bool) → (change == x.change) ≡ same → Comes change
  by_number change small is_done_now false e =
      absurd (let g : false ≡ true = sym
      (left_undone m setting x.r (Asked u x.request) done.h done.happens (token_of change)
      (no_name_leaves (token_of change) x.r u x.request (names_no_other change x.change small x.small e x.request x.ours.names))) ∙ is_done_now in cc)
  by_number change small is_done_now true e =
      let is : change ≡ x.change = same_nat change x.change e in
      let two : (gives_token (token_of x.change) x.request ≡ true) × (is_done_reply done.h.reply ≡ true) =
      both (gives_token (token_of x.change) x.request) (is_done_reply done.h.reply)
      (subst (λ n. is_commit_done (token_of n) (noted (Asked u x.request) done.h) ≡ true) is is_done_now) in
      subst Comes (sym is) (comes two.0 two.1)

  pub asked_brings : BringsOwn m setting x.w.entries (suc d) x.r.device (noted (Asked u x.request) done.h)
  asked_brings change small is_done_now =
      subst (λ (now : DeviceState Config Node). Brings m setting x.w.entries change (suc d) x.r.device.stores.running now.stores.running)
      (sym (replays m setting.tables x.r.device (Asked u x.request) done.h done.happens))
      (by_number change small is_done_now (change == x.change) refl)
