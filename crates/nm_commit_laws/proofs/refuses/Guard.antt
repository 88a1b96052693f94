-- What a commit finds that waits under a token of the manager's, as a device goes on.
use Rattle.std.proofs.Common.{◌≡◌, ◌∙◌, ℕ, suc, ◌==◌, Bool, true, false, not, ◌&&◌, ◌||◌, map, filter, List, Option, Some, None, IfSome, is_some, refl, sym, ap, subst, arith}
use Rattle.std.proofs.lemmas.Bool.{cond_both}
use Rattle.std.proofs.lemmas.Bool.Decides.{nat_tests}
use Rattle.std.proofs.lemmas.Option.{none-some}
use Rattle.nm_base.specs.Token.{token_of, is_reserved}
use Rattle.nm_proto.specs.declared.message.Request.{Request}
use Rattle.nm_proto.specs.declared.message.Request.TheVariants.{CloseSession}
use Rattle.nm_proto.specs.declared.message.Store.TheVariants.{Candidate}
use Rattle.nm_proto.specs.declared.plan.ChangePlan.{ChangePlan}
use Rattle.nm_proto.specs.Content.{Meaning, TablesState}
use Rattle.nm_sessions.specs.Sessions.{is_open, user_of}
use Rattle.nm_locks.specs.Locks.{is_owner}
use Rattle.nm_partial.specs.Partial.{is_of, without_absent}
use Rattle.nm_pending.specs.Pending.{PendingState, ends_with, is_author, is_stranger}
use Rattle.nm_device.specs.Commit.{names_reserved}
use Rattle.nm_device.specs.Device.{DeviceState, is_manager}
use Rattle.nm_device.specs.Undoing.{ended, left_by, undone_by}
use Rattle.nm_history.specs.declared.event.DeviceEvent.{DeviceEvent}
use Rattle.nm_history.specs.declared.event.DeviceEvent.TheVariants.{Entered, Asked, Lost, Advanced, Restarted}
use Rattle.nm_history.specs.Outcome.{is_token}
use Rattle.nm_history.specs.History.{Happened, noted}
use Rattle.nm_device_laws.specs.Moment.{Happens}
use Rattle.nm_device_laws.specs.Numbered.{IsNumbered, has_author}
use Rattle.nm_device_laws.specs.Keeps.{KeepsOpen, KeepsOut, is_asker, may_take}
use Rattle.nm_device_laws.specs.Token.{KeepsToken, leaves_token, names_token, waits_under}
use Rattle.nm_device_laws.proofs.Events.{IsDone, is_asked, undone_if_keeps}
use Rattle.nm_device_laws.proofs.Keeping.{session_kept}
use Rattle.nm_device_laws.proofs.Named.{token_same}
use Rattle.nm_device_laws.proofs.Owns.{closes}
use Rattle.nm_device_laws.proofs.Strangers.{strangers_kept_out}
use Rattle.nm_device_laws.proofs.Tokens.{token_kept}
use Rattle.nm_commit_laws.proofs.leaves.Others.{is_silent}
use Rattle.nm_commit_laws.specs.RefusesSupport.{IsApart, IsGuarded}

pub same_nat : (a b : ℕ) → (a == b) ≡ true → a ≡ b
same_nat a b e = grind (arith, nat_tests)

pub reserved : (c : ℕ) → is_reserved (token_of c) ≡ true
reserved c = refl

not_dropped : (old new : Bool) → new ≡ true → (old && not new) ≡ false
not_dropped old new e = grind (arith, nat_tests)

waits_some : {Config : Type 0} (token : List ℕ) (pending : Option (PendingState Config)) → waits_under token pending ≡ true
    → is_some pending ≡ true
waits_some token None e = absurd (let g : false ≡ true = e in cc)
waits_some token (Some p) e = refl

-- the token of what is pending, where it has one
under_own : {Config : Type 0} (pending : Option (PendingState Config)) (p : PendingState Config) (token : List ℕ) → pending ≡ Some p
    → p.token ≡ Some token → waits_under token pending ≡ true
under_own pending p token is named = ap (waits_under token) is ∙ ap (is_token token) named ∙ token_same token

reserved_some : (given : Option (List ℕ)) → names_reserved given ≡ true → (T : Type 0)
    → ((token : List ℕ) → given ≡ Some token → is_reserved token ≡ true → T) → T
reserved_some None e T step = absurd (let g : false ≡ true = e in cc)
reserved_some (Some token) e T step = step token refl e

-- who isn't the manager leaves reserved tokens alone
kept_out : (named reserved managed : Bool) → reserved ≡ true → managed ≡ false → not (named && (not reserved || managed)) ≡ true
kept_out named reserved managed r m = grind (arith, nat_tests)

module _ {Config Node : Type 0} (s : DeviceState Config Node) where
  silent_takes : (event : DeviceEvent) → is_silent event ≡ true → may_take s event ≡ false
  silent_takes (Asked session request) e = absurd (let g : false ≡ true = e in cc)
  silent_takes (Entered user) e = refl
  silent_takes (Lost session) e = refl
  silent_takes (Advanced seconds) e = refl
  silent_takes Restarted e = refl

silent_asker : (event : DeviceEvent) (session : ℕ) → is_silent event ≡ true → is_asker event session ≡ false
silent_asker (Asked other request) session e = absurd (let g : false ≡ true = e in cc)
silent_asker (Entered user) session e = refl
silent_asker (Lost other) session e = refl
silent_asker (Advanced seconds) session e = refl
silent_asker Restarted session e = refl

silent_leaves : {Config Node : Type 0} (token : List ℕ) (s : DeviceState Config Node) (event : DeviceEvent) → is_silent event ≡ true
    → leaves_token token s event ≡ true
silent_leaves token s (Asked session request) e = absurd (let g : false ≡ true = e in cc)
silent_leaves token s (Entered user) e = refl
silent_leaves token s (Lost session) e = refl
silent_leaves token s (Advanced seconds) e = refl
silent_leaves token s Restarted e = refl

module _ {Config TheEdit Node : Type 0} (m : Meaning Config TheEdit Node) (tables : TablesState TheEdit) (s : DeviceState Config Node)
    (n : IsNumbered s) (plans : List ChangePlan) (g : IsGuarded plans s) where
  pub before : (p : PendingState Config) → s.pending ≡ Some p → names_reserved p.token ≡ true → IsApart s p
  before p is named = subst (λ o. IfSome o (λ q. names_reserved q.token ≡ true → IsApart s q)) is g.apart named

  module _ (event : DeviceEvent) (h : Happened Config Node) (happens : Happens m tables s event h) where
    -- what waits under a token that the event leaves waited there before
    same_waits : (token : List ℕ) → leaves_token token s event ≡ true → waits_under token h.after.pending ≡ true
        → h.after.pending ≡ s.pending
    same_waits token leaves waits = by_before (waits_under token s.pending) refl
      where
        kept : KeepsToken token s (noted event h) h.after
        kept = token_kept m tables token s event h happens leaves

        by_before : (b : Bool) → waits_under token s.pending ≡ b → h.after.pending ≡ s.pending
        by_before true e =
            kept.stays e (not_dropped (is_some s.pending) (is_some h.after.pending) (waits_some token h.after.pending waits))
        by_before false e = absurd (let f : true ≡ false = sym waits ∙ kept.none e in cc)

    abbrev Leaves : Type 0
    Leaves = (token : List ℕ) → is_reserved token ≡ true → leaves_token token s event ≡ true

    -- nobody comes in who didn't commit under what waits, and who did keeps what it has
    record Goes (p : PendingState Config) : Type 0 where
      out : KeepsOut s h.after
      keeps : (author : ℕ) → is_author p author ≡ true → is_open h.after.sessions author ≡ true → KeepsOpen author s h.after

    module _ (leaves : Leaves) (goes : (p : PendingState Config) → s.pending ≡ Some p → IsApart s p → Goes p) where
      apart_out : (p : PendingState Config) → s.pending ≡ Some p → IsApart s p → Goes p → IsApart h.after p
      apart_out p is a go =
          let user : (author : ℕ) → is_author p author ≡ true → is_open h.after.sessions author ≡ true
          → user_of h.after.sessions author ≡ user_of s.sessions author =
          λ author by opened. (go.keeps author by opened).user (n.authors author (ap (λ o. has_author o author) is ∙ by)) in
          record {
            whole = go.out.whole a.whole;
            lock = λ owner e. a.lock owner (go.out.lock owner e);
            owner = λ author by opened.
                (go.keeps author by opened).owner Candidate
                (a.owner author by (sym (ap is_some (user author by opened)) ∙ opened));
            managed = λ author by opened.
                ap is_manager (user author by opened) ∙ a.managed author by (sym (ap is_some (user author by opened)) ∙ opened);
          }

      apart_same : (p : PendingState Config) → s.pending ≡ Some p → names_reserved p.token ≡ true → IsApart h.after p
      apart_same p is named =
          let a : IsApart s p = before p is named in apart_out p is a (goes p is a)

      apart_now : (now : Option (PendingState Config)) → h.after.pending ≡ now
          → IfSome now (λ p. names_reserved p.token ≡ true → IsApart h.after p)
      apart_now None is = tt
      apart_now (Some p) is = λ named.
          reserved_some p.token named (IsApart h.after p)
          (λ token given kept. apart_same p (sym (same_waits token (leaves token kept) (under_own h.after.pending p token is given)) ∙ is)
          named)

      guarded_out : IsGuarded plans h.after
      guarded_out = record {
        apart = apart_now h.after.pending refl;
        timed = λ place plan planned waits.
            let same : h.after.pending ≡ s.pending = same_waits (token_of (suc place)) (leaves (token_of (suc place)) (reserved (suc place)))
            waits in
            g.timed place plan planned (sym (ap (waits_under (token_of (suc place))) same) ∙ waits);
      }

    -- ---- what nobody asks for

    silent_goes : is_silent event ≡ true → (p : PendingState Config) → Goes p
    silent_goes silent p = record {
      out = strangers_kept_out m tables s event h happens (silent_takes s event silent);
      keeps = λ author by opened. (session_kept m tables s n author event h happens (silent_asker event author silent)).kept opened;
    }

    pub silent_guarded : is_silent event ≡ true → IsGuarded plans h.after
    silent_guarded silent = guarded_out (λ token kept. silent_leaves token s event silent) (λ p is a. silent_goes silent p)

  -- ---- what others ask for

  module _ (u : ℕ) (request : Request) (h : Happened Config Node) (happens : Happens m tables s (Asked u request) h) where
    abbrev asked : DeviceEvent
    asked = Asked u request

    module _ (stranger : is_manager (user_of s.sessions u) ≡ false) where
      no_author : (p : PendingState Config) → IsApart s p → is_author p u ≡ false
      no_author p a = by_author (is_author p u) refl
        where
          by_author : (b : Bool) → is_author p u ≡ b → is_author p u ≡ false
          by_author false e = e
          by_author true e =
              let is : true ≡ false = sym (a.managed u e (is_asked m tables s u request h happens).asker) ∙ stranger in cc

      other_goes : (p : PendingState Config) → s.pending ≡ Some p → IsApart s p → Goes asked h happens p
      other_goes p is a = record {
        out = strangers_kept_out m tables s asked h happens (ap (λ o. not (is_stranger o u)) is ∙ ap (λ b. not (not b)) (no_author p a));
        keeps = λ author by opened.
            (session_kept m tables s n author asked h happens (apart_by p author (no_author p a) by (u == author) refl)).kept opened;
      }
        where
          apart_by : (p : PendingState Config) (author : ℕ) → is_author p u ≡ false → is_author p author ≡ true → (same : Bool)
              → (u == author) ≡ same → same ≡ false
          apart_by p author none by false e = refl
          apart_by p author none by true e =
              let g : false ≡ true = sym none ∙ ap (is_author p) (same_nat u author e) ∙ by in cc

      pub foreign_guarded : IsGuarded plans h.after
      foreign_guarded =
          guarded_out asked h happens
          (λ token kept. kept_out (names_token token request) (is_reserved token) (is_manager (user_of s.sessions u)) kept stranger) other_goes

    -- ---- a session of the manager's ends

    module _ (close : request ≡ CloseSession) (done : IsDone m tables s u CloseSession h) where
      gone : h.after ≡ ended m s u
      gone = (closes m tables s u h done).after

      left_out : KeepsOut s (left_by s u)
      left_out = record {
        lock = λ owner e.
            cond_both (is_owner s.locks.running u) None s.locks.running (λ (o : Option ℕ). o ≡ Some owner → s.locks.running ≡ Some owner)
            (λ _ none. absurd (none-some owner none)) (λ _ is. is) e;
        whole = λ none. ap (filter (λ lock. not (is_of u lock))) none;
      }

      undone_out : (p : PendingState Config) → (left_by s u).pending ≡ Some p → KeepsOut s (undone_by m (left_by s u) (Some p))
      undone_out p is = record { lock = left_out.lock; whole = λ none. ap (map (without_absent m p.before)) (left_out.whole none) }

      close_goes : (p : PendingState Config) → s.pending ≡ Some p → IsApart s p → Goes asked h happens p
      close_goes p is a = record {
        out = subst (KeepsOut s) (sym gone)
            (undone_if_keeps m tables s (KeepsOut s) (left_by s u) (ends_with s.pending u) left_out undone_out);
        keeps = λ author by opened.
            (session_kept m tables s n author asked h happens (open_apart author opened (u == author) refl)).kept opened;
      }
        where
          open_apart : (author : ℕ) → is_open h.after.sessions author ≡ true → (same : Bool) → (u == author) ≡ same → same ≡ false
          open_apart author opened false e = refl
          open_apart author opened true e =
              let g : false ≡ true = sym (closes m tables s u h done).closed ∙ ap (is_open h.after.sessions) (same_nat u author e) ∙ opened
              in cc

      pub closed_guarded : IsGuarded plans h.after
      closed_guarded =
          guarded_out asked h happens (λ token kept. ap (λ q. leaves_token token s (Asked u q)) close) close_goes
