-- The manager's commits that bring no change set leave running as it was.
use Rattle.std.proofs.Common.{ℕ, ◌≡◌, ◌∙◌, ◌-◌, Bool, true, false, ◌&&◌, bytes_eq, List, Option, Some, None, IfSome, unwrap_or, refl, sym, ap, subst, arith}
use Rattle.std.proofs.lemmas.Bool.Decides.{nat_tests}
use Rattle.std.proofs.lemmas.Slice.Eq.{bytes_eq-Decides}
use Rattle.nm_base.specs.Token.{token_of}
use Rattle.nm_proto.specs.declared.ask.Ask.TheVariants as ask
use Rattle.nm_proto.specs.declared.message.Request.{Request}
use Rattle.nm_proto.specs.declared.message.Request.TheVariants.{Commit}
use Rattle.nm_proto.specs.Content.{Meaning, Laws}
use Rattle.nm_sessions.specs.Sessions.{user_of}
use Rattle.nm_device.specs.Device.{DeviceState, is_manager}
use Rattle.nm_history.specs.declared.event.DeviceEvent.{DeviceEvent}
use Rattle.nm_history.specs.declared.event.DeviceEvent.TheVariants.{Asked}
use Rattle.nm_history.specs.Effect.{is_done_reply}
use Rattle.nm_history.specs.History.{Happened, noted}
use Rattle.nm_device_laws.specs.Moment.{Happens}
use Rattle.nm_device_laws.specs.Token.{is_commit_done}
use Rattle.nm_device_laws.proofs.Owns.{commits}
use Rattle.nm_wire.specs.Asks.{ask_of, commit_ask, same_ask}
use Rattle.nm_wire.specs.Link.{asked_on, session_of}
use Rattle.nm_safety.specs.Delivered.{NamesOurs}
use Rattle.nm_world.specs.World.{Setting, WorldState}
use Rattle.nm_safety.specs.Keeping.{Delivery, IsDone}
use Rattle.nm_safety.proofs.Along.{replays}
use Rattle.nm_commit_laws.specs.Leaves.{LeavesAsIs, LeavesRunning}
use Rattle.nm_commit_laws.specs.Standing.{is_other}
use Rattle.nm_commit_laws.specs.LeavesSupport.{AsksClean, IsClean}
use Rattle.nm_commit_laws.proofs.leaves.Others.{is_silent}
use Rattle.nm_commit_laws.proofs.leaves.Told.{held_before, own_link}

bytes_itself : (token : List ℕ) → bytes_eq token token ≡ true
bytes_itself token = (bytes_eq-Decides token token).1 refl

-- the manager names a token in each of its commits, and one alone
names_two : (confirmed : Bool) → same_ask (commit_ask confirmed true true) ask.Resync ≡ true
names_two confirmed = grind (arith, nat_tests)

names_none : (confirmed : Bool) → same_ask (commit_ask confirmed false false) ask.Resync ≡ true
names_none confirmed = grind (arith, nat_tests)

names_last : (confirmed : Bool) → is_other (commit_ask confirmed false true) ≡ true
names_last confirmed = grind (arith, nat_tests)

module _ {Config TheEdit Node : Type 0} (m : Meaning Config TheEdit Node) (setting : Setting TheEdit) where
  -- where nobody asks, nobody commits
  never_asked : (event : DeviceEvent) (session : ℕ) (request : Request) → event ≡ Asked session request → is_silent event ≡ true → ⊥
  never_asked event session request is silent = absurd (let g : false ≡ true = sym (ap is_silent is) ∙ silent in cc)

  pub silent_leaves : (s : DeviceState Config Node) (event : DeviceEvent) (h : Happened Config Node) → is_silent event ≡ true → LeavesAsIs m setting s (noted event h)
  silent_leaves s event h silent other = absurd (never_asked event other.session _ other.asked silent)

  -- who isn't the manager makes none of its commits
  pub stranger_leaves : (s : DeviceState Config Node) (u : ℕ) (request : Request) (h : Happened Config Node) → is_manager (user_of s.sessions u) ≡ false
      → LeavesAsIs m setting s (noted (Asked u request) h)
  stranger_leaves s u request h stranger other =
      let e : Asked u request ≡ Asked other.session (Commit other.confirmed other.timeout other.persist other.persist_id) = other.asked in
      let same : other.session ≡ u = cc in
      absurd (let g : false ≡ true = sym stranger ∙ ap (λ t. is_manager (user_of s.sessions t)) (sym same) ∙ other.managed in cc)

  -- ---- a link asks

  module _ (laws : Laws m) (B : WorldState Config Node → Type 0) (x : Delivery m setting B) (c : IsClean x.w.devices x.slot) (u : ℕ)
      (session : session_of x.one ≡ Some u) (done : IsDone m setting B x (Asked u x.request)) where
    module _ (confirmed : Bool) (timeout : Option ℕ) where
      leaves_by : (persist persist_id : Option (List ℕ)) → x.request ≡ Commit confirmed timeout persist persist_id
          → is_commit_done (token_of x.change) (noted (Asked u x.request) done.h) ≡ false → is_done_reply done.h.reply ≡ true
          → NamesOurs (token_of x.change) (Commit confirmed timeout persist persist_id)
          → LeavesRunning x.r.device done.h.after persist persist_id
      leaves_by None None is brings did names =
          absurd (let g : true ≡ false = sym (names_none confirmed) ∙ ap (λ q. same_ask (ask_of q) ask.Resync) (sym is) ∙ x.ours.known in cc)
      leaves_by (Some given) (Some named) is brings did names =
          absurd (let g : true ≡ false = sym (names_two confirmed) ∙ ap (λ q. same_ask (ask_of q) ask.Resync) (sym is) ∙ x.ours.known in cc)
      leaves_by (Some given) None is brings did names =
          let gives : bytes_eq (token_of x.change) given ≡ true = ap (bytes_eq (token_of x.change)) names.0 ∙ bytes_itself (token_of x.change) in
          let noted_so : (bytes_eq (token_of x.change) given && is_done_reply done.h.reply) ≡ false =
          ap (λ q. is_commit_done (token_of x.change) (noted (Asked u q) done.h)) (sym is) ∙ brings in
          absurd (let g : true ≡ false = sym (ap (λ b. b && is_done_reply done.h.reply) gives ∙ did) ∙ noted_so in cc)
      leaves_by None (Some named) is brings did names =
          let clean : AsksClean x.one x.request = subst (λ found. IfSome found (AsksClean x.one)) (ap asked_on x.way) (own_link m setting B x c).asked in
          let unmodified : x.r.device.stores.candidate ≡ None =
          (held_before m setting B x c laws u session done).unmodified (clean (ap (λ q. is_other (ask_of q)) is ∙ names_last confirmed)) in
          let done_now = commits m laws setting.tables x.r.device u confirmed timeout None (Some named) done.h
          (record { happens = subst (λ q. Happens m setting.tables x.r.device (Asked u q) done.h) is done.happens; done = did }) in
          record {
            change = x.change;
            gives_none = refl;
            names = ap Some names.1;
            running = ap (λ s. s.stores.running) done_now.after ∙ ap (λ o. unwrap_or o x.r.device.stores.running) unmodified;
          }

    pub asked_leaves : LeavesAsIs m setting x.r.device (noted (Asked u x.request) done.h)
    asked_leaves other =
        let e : Asked u x.request ≡ Asked other.session (Commit other.confirmed other.timeout other.persist other.persist_id) = other.asked in
        let is : x.request ≡ Commit other.confirmed other.timeout other.persist other.persist_id = cc in
        subst (λ now. LeavesRunning x.r.device now other.persist other.persist_id) (sym (replays m setting.tables x.r.device (Asked u x.request) done.h done.happens))
        (leaves_by other.confirmed other.timeout other.persist other.persist_id is (other.brings_none x.change x.small) other.done
        (subst (NamesOurs (token_of x.change)) is x.ours.names))
