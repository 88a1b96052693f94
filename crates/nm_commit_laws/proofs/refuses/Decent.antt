-- What a session of a link asks for and has, and what is kept of the change set once it is answered.
use Rattle.std.proofs.Common.{◌≡◌, ◌∙◌, ◌⊎◌, inl, inr, ℕ, suc, ◌-◌, ◌≤◌, ◌||◌, true, false, List, length, Some, None, IfSome, is_some, option_map, slice_get, refl, sym, ap, subst, arith}
use Rattle.std.proofs.lemmas.Bool.Decides.{nat_tests}
use Rattle.std.proofs.lemmas.Option.{none-some, same_Some}
use Rattle.nm_base.specs.Token.{token_of}
use Rattle.nm_base.proofs.Tokens.{token_its_own}
use Rattle.nm_proto.specs.declared.ask.Ask.{Ask}
use Rattle.nm_proto.specs.declared.ask.Ask.TheVariants as ask
use Rattle.nm_proto.specs.declared.message.Request.{Request}
use Rattle.nm_proto.specs.declared.message.Request.TheVariants.{OpenSession, Lock, Unlock, PartialLock, PartialUnlock, Edit, Validate, Commit, CancelCommit, Discard, HasMark, GetConfig, Kill, CloseSession}
use Rattle.nm_proto.specs.declared.message.Reply.TheVariants.{Done}
use Rattle.nm_proto.specs.declared.message.Store.TheVariants.{Candidate}
use Rattle.nm_proto.specs.declared.plan.ChangePlan.{ChangePlan}
use Rattle.nm_proto.specs.Content.{Meaning, Laws}
use Rattle.nm_sessions.specs.Sessions.{is_open, user_of}
use Rattle.nm_locks.specs.Locks.{owner_of}
use Rattle.nm_device.specs.Device.{is_manager}
use Rattle.nm_history.specs.declared.event.DeviceEvent.TheVariants.{Asked}
use Rattle.nm_device_laws.proofs.Events.{is_asked}
use Rattle.nm_device_laws.proofs.Named.{same_token}
use Rattle.nm_wire.specs.Asks.{ask_of, same_ask}
use Rattle.nm_wire.specs.Words.{commit_count, commits_sent, owns}
use Rattle.nm_wire.specs.Link.{asked_on, first_session, session_of, told_on}
use Rattle.nm_safety.specs.Delivered.{NamesOurs}
use Rattle.nm_safety.specs.Pair.{HoldsRunning, asked_ask}
use Rattle.nm_safety.proofs.Answered.{sent_told, told_link}
use Rattle.nm_world.specs.World.{Setting, WorldState}
use Rattle.nm_safety.specs.Keeping.{Delivery, IsDone, device_then, devices_then, slot_then}
use Rattle.nm_safety.proofs.Facts.{change_small}
use Rattle.nm_commit_laws.specs.Standing.{is_other, standing}
use Rattle.nm_commit_laws.specs.LeavesSupport.{AsksClean, HoldsCandidate, IsClean}
use Rattle.nm_commit_laws.proofs.leaves.Told.{held_before, own_link}
use Rattle.nm_commit_laws.specs.RefusesSupport.{IsFit, IsFitted, IsGuarded, IsTimely, OwnsOn}
use Rattle.nm_commit_laws.proofs.refuses.Own.{IsDecent, StandsSo, TimedFor, own_so}
use Rattle.nm_commit_laws.proofs.refuses.Told.{asks_now, commit_first, first_is, none_asked, own_fit, pair_here, told_fits}
use Rattle.nm_commit_laws.proofs.refuses.Words.{owns_on, owns_told}

-- a commit of the change set has its timer, and gives no other's token
timed_by : (plans : List ChangePlan) (change : ℕ) (plan : ChangePlan)
    → ((place : ℕ) (other : ChangePlan) → slice_get plans place ≡ Some other → token_of (suc place) ≡ token_of change → other ≡ plan)
    → (request : Request) → IsTimely plan request → NamesOurs (token_of change) request → TimedFor plans request
timed_by plans change plan only (Commit true timeout (Some given) None) timely names = λ place other planned is.
    timely ∙ ap (λ q. Some q.timeout)
    (sym (only place other planned (same_token (token_of (suc place)) given is ∙ names.0)))
timed_by plans change plan only (Commit true timeout None None) timely names = tt
timed_by plans change plan only (Commit true timeout None (Some token)) timely names = tt
timed_by plans change plan only (Commit true timeout (Some given) (Some token)) timely names = tt
timed_by plans change plan only (Commit false timeout None None) timely names = tt
timed_by plans change plan only (Commit false timeout None (Some token)) timely names = tt
timed_by plans change plan only (Commit false timeout (Some given) None) timely names = tt
timed_by plans change plan only (Commit false timeout (Some given) (Some token)) timely names = tt
timed_by plans change plan only (OpenSession user) timely names = tt
timed_by plans change plan only (Lock store) timely names = tt
timed_by plans change plan only (Unlock store) timely names = tt
timed_by plans change plan only (PartialLock select) timely names = tt
timed_by plans change plan only (PartialUnlock id) timely names = tt
timed_by plans change plan only (Edit edit operation marks) timely names = tt
timed_by plans change plan only Validate timely names = tt
timed_by plans change plan only (CancelCommit persist_id) timely names = tt
timed_by plans change plan only Discard timely names = tt
timed_by plans change plan only (HasMark mark) timely names = tt
timed_by plans change plan only GetConfig timely names = tt
timed_by plans change plan only (Kill other) timely names = tt
timed_by plans change plan only CloseSession timely names = tt

is_commit : (what : Ask) → same_ask what ask.CommitConfirmed ≡ true → what ≡ ask.CommitConfirmed
is_commit what e = grind (arith, nat_tests)

-- a renewal and what brings the change set
brings_or : (what : Ask) → (same_ask what ask.CommitConfirmed || same_ask what ask.Renew) ≡ true
    → (commit_count what ≡ 1) ⊎ (is_other what ≡ true)
brings_or ask.CommitConfirmed e = inl refl
brings_or ask.Renew e = inr refl
brings_or ask.OpenSession e = absurd (let g : false ≡ true = e in cc)
brings_or ask.LockRunning e = absurd (let g : false ≡ true = e in cc)
brings_or ask.LockCandidate e = absurd (let g : false ≡ true = e in cc)
brings_or ask.Edit e = absurd (let g : false ≡ true = e in cc)
brings_or ask.Validate e = absurd (let g : false ≡ true = e in cc)
brings_or ask.Confirm e = absurd (let g : false ≡ true = e in cc)
brings_or ask.Cancel e = absurd (let g : false ≡ true = e in cc)
brings_or ask.HasMark e = absurd (let g : false ≡ true = e in cc)
brings_or ask.Discard e = absurd (let g : false ≡ true = e in cc)
brings_or ask.CloseSession e = absurd (let g : false ≡ true = e in cc)
brings_or ask.Resync e = absurd (let g : false ≡ true = e in cc)

sent_one : (count sent : ℕ) → count ≡ 1 → count ≤ sent → 1 ≤ sent
sent_one count sent one most = omega (arith, one, most)

pub two_one : (n : ℕ) → 2 ≤ n → 1 ≤ n
two_one n h = omega (arith, h)

module _ {Config TheEdit Node : Type 0} (m : Meaning Config TheEdit Node) (laws : Laws m) (setting : Setting TheEdit)
    (few : length setting.plans ≤ 64) (B : WorldState Config Node → Type 0) (x : Delivery m setting B)
    (f : IsFitted x.plan x.w.devices x.slot) (c : IsClean x.w.devices x.slot) (g : IsGuarded setting.plans x.r.device)
    (u : ℕ) (session : session_of x.one ≡ Some u) (done : IsDone m setting B x (Asked u x.request)) where
  pub asker_open : is_open x.r.device.sessions u ≡ true
  asker_open = (is_asked m setting.tables x.r.device u x.request done.h done.happens).asker

  pub managed_u : is_manager (user_of x.r.device.sessions u) ≡ true
  managed_u = x.known.users u asker_open ∙ ap is_some ((x.owned (x.link - 1) x.one x.at_place).session u session)

  told_session : session_of (told_on done.reply x.one) ≡ Some u
  told_session =
      (told_link x.one x.request done.reply x.way).session ∙ ap (λ o. first_session o (record { request = x.request; reply = done.reply })) session

  -- ---- who owns candidate

  pub owned_u : owns x.one ≡ true → owner_of x.r.device.locks Candidate ≡ Some u
  owned_u held = (own_fit m setting B x f).held u held session asker_open

  pub held_u : HoldsCandidate (standing x.one) u x.r.device
  held_u = held_before m setting B x c laws u session done

  pub clean_now : AsksClean x.one x.request
  clean_now = subst (λ found. IfSome found (AsksClean x.one)) (ap asked_on x.way) (own_link m setting B x c).asked

  -- ---- what the session asks for

  free_u : same_ask (ask_of x.request) ask.CommitConfirmed ≡ true → HoldsRunning u x.r.device
  free_u e =
      pair_here m setting B x (HoldsRunning u x.r.device)
      (λ seat pair.
      let is = first_is m setting B x (commit_first m setting B x e) in
      pair.first.held
      (pair.first.asked (ap asked_ask is ∙ ap (λ way. option_map ask_of (asked_on way)) x.way ∙ ap Some (is_commit (ask_of x.request) e)))
      u (ap session_of is ∙ session) asker_open)

  owner_by : (commit_count (ask_of x.request) ≡ 1) ⊎ (is_other (ask_of x.request) ≡ true) → owner_of x.r.device.locks Candidate ≡ Some u
  owner_by (inl one) =
      owned_u
      ((own_fit m setting B x f).sent
      (sent_one (commit_count (ask_of x.request)) (commits_sent x.one) one (told_link x.one x.request Done x.way).sent))
  owner_by (inr other) = held_u.owner (two_one (standing x.one) (clean_now other))

  only_plan : (place : ℕ) (other : ChangePlan) → slice_get setting.plans place ≡ Some other → token_of (suc place) ≡ token_of x.change
      → other ≡ x.plan
  only_plan place other is same =
      let numbers : suc place ≡ x.change = token_its_own (suc place) x.change (change_small setting few place other is) x.small same in
      same_Some other x.plan (sym is ∙ ap (slice_get setting.plans) (before place x.change numbers) ∙ x.planned)
    where
      before : (place change : ℕ) → suc place ≡ change → place ≡ change - 1
      before place change e = omega (arith, e)

  decent : IsDecent setting.plans u x.r.device x.request
  decent = record {
    known = x.ours.known;
    begins = free_u;
    owner = λ e. owner_by (brings_or (ask_of x.request) e);
    timed = timed_by setting.plans x.change x.plan only_plan x.request (asks_now m setting B x f).timely x.ours.names;
  }

  pub stands_now : StandsSo m laws setting.tables x.r.device x.known.numbered setting.plans g u managed_u done.h x.request done.reply
  stands_now =
      own_so m laws setting.tables x.r.device x.known.numbered setting.plans g u managed_u done.h x.request decent done.happens done.reply
      done.replies done.answer

  -- ---- the link

  new_held : OwnsOn (told_on done.reply x.one) (device_then m setting B x done)
  new_held t held at opened =
      let same : u ≡ t = same_Some u t (sym told_session ∙ at) in
      subst (λ q. owner_of done.h.after.locks Candidate ≡ Some q) same
      (stands_now.owner (owns x.one) owned_u (subst (λ q. is_open done.h.after.sessions q ≡ true) (sym same) opened)
      (sym (owns_told x.one x.request done.reply x.way) ∙ held))

  new_link : IsFit x.plan (Some (device_then m setting B x done)) (x.link - 1) (told_on done.reply x.one)
  new_link = record {
    asked = none_asked m setting B x f done;
    sent = λ sent.
        owns_told x.one x.request done.reply x.way
        ∙ owns_on (owns x.one) (ask_of x.request) done.reply
        ((own_fit m setting B x f).sent (subst (λ n. 1 ≤ n) (sent_told x.one done.reply).commits sent));
    held = new_held;
    unheld = λ none. absurd (none-some u (sym none ∙ told_session));
  }

  pub asked_fits : IsFitted x.plan (devices_then m setting B x done) (slot_then m setting B x done)
  asked_fits = told_fits m setting B x f done new_link
