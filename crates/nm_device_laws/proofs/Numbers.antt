-- A numbered device stays numbered, and the last session number never falls.
use Rattle.std.proofs.Common.{◌≡◌, ℕ, ◌+◌, ◌≤◌, ◌==◌, List, Bool, true, false, cond, ◌||◌, is_some, Option, Some, None, refl, sym, ap, ◌∙◌, subst, arith, if◌then◌else◌}
use Rattle.std.proofs.lemmas.Bool.{cond_both}
use Rattle.std.proofs.lemmas.Bool.Decides.{Decides-eqb}
use Rattle.std.proofs.lemmas.Option.{same_Some, none-some}
use Rattle.nm_proto.specs.declared.message.Store.{Store}
use Rattle.nm_proto.specs.declared.message.Store.TheVariants.{Running, Candidate}
use Rattle.nm_proto.specs.Content.{Meaning, TablesState}
use Rattle.nm_sessions.specs.Sessions.{SessionsState, no_sessions, user_of, is_open, entered, left}
use Rattle.nm_sessions.proofs.SessionLemmas.{user_of-entered, user_of-left}
use Rattle.nm_locks.specs.Locks.{no_locks, owner_of, given_back, is_owner, without_session, with_owner}
use Rattle.nm_pending.specs.Pending.{PendingState, ends_with, ends_at, deadline_of}
use Rattle.nm_device.specs.Device.{DeviceState, Stepped, fresh_device}
use Rattle.nm_device.specs.Undoing.{undone_by, left_by, later, emptied}
use Rattle.nm_history.specs.declared.event.DeviceEvent.{DeviceEvent}
use Rattle.nm_history.specs.History.{Happened}
use Rattle.nm_device_laws.specs.Moment.{Happens}
use Rattle.nm_device_laws.specs.Numbered.{has_author, IsNumbered}
use Rattle.nm_device_laws.proofs.Acts.{Acts, step_acts}
use Rattle.nm_device_laws.proofs.Authors.{author_more}
use Rattle.nm_device_laws.proofs.Events.{undone_keeps, undone_if_keeps, Moves, event_moves}

-- ---- sessions, as they come and go

-- the number that is given next isn't in use
pub fresh_number : {Config Node : Type 0} (s : DeviceState Config Node) → IsNumbered s → user_of s.sessions (s.sessions.last + 1) ≡ None
fresh_number s n = unused (user_of s.sessions (s.sessions.last + 1)) refl
  where
    unused : (user : Option (List ℕ)) → user_of s.sessions (s.sessions.last + 1) ≡ user → user ≡ None
    unused None e = refl
    unused (Some user) e = let within : s.sessions.last + 1 ≤ s.sessions.last = n.opened (s.sessions.last + 1) (ap is_some e) in absurd (omega arith)

-- who is open after an opening was so before, or is the new one
pub open_entered : (sessions : SessionsState) (user : List ℕ) (q : ℕ) → user_of sessions (sessions.last + 1) ≡ None
    → is_open (entered sessions user) q ≡ (if q == sessions.last + 1 then true else is_open sessions q)
open_entered sessions user q fresh = ap is_some (user_of-entered sessions user q fresh) ∙ chosen (q == sessions.last + 1)
  where
    chosen : (b : Bool) → is_some (cond b (Some user) (user_of sessions q)) ≡ (if b then true else is_open sessions q)
    chosen true = refl
    chosen false = refl

pub open_left : (sessions : SessionsState) (session q : ℕ) → is_open (left sessions session) q ≡ (if q == session then false else is_open sessions q)
open_left sessions session q = ap is_some (user_of-left sessions session q) ∙ chosen (q == session)
  where
    chosen : (b : Bool) → is_some (cond b None (user_of sessions q)) ≡ (if b then false else is_open sessions q)
    chosen true = refl
    chosen false = refl

-- ---- numbered

pub fresh_numbered : {Config Node : Type 0} (s : DeviceState Config Node) (running : Config) → s ≡ fresh_device running → IsNumbered s
fresh_numbered {Config = Config} {Node = Node} s running e = subst IsNumbered (sym e) so
  where
    no_owner : (store : Store) (owner : ℕ) → owner_of no_locks store ≡ Some owner → is_open no_sessions owner ≡ true
    no_owner Running owner e = absurd (none-some owner e)
    no_owner Candidate owner e = absurd (none-some owner e)

    so : IsNumbered (fresh_device {Config = Config} {Node = Node} running)
    so = record {
      opened = λ session is. absurd (cc);
      owners = no_owner;
      authors = λ author e. absurd (cc);
    }

-- an author of what is pending by now was one before, or commits
known_author : (session author last : ℕ) (was : Bool) → (was || (session == author)) ≡ true → (was ≡ true → author ≤ last) → session ≤ last → author ≤ last
known_author session author last true e before within = before refl
known_author session author last false e before within = let same : session ≡ author = (Decides-eqb session author).0 e in omega arith

module _ {Config TheEdit Node : Type 0} (m : Meaning Config TheEdit Node) (tables : TablesState TheEdit) (s : DeviceState Config Node) (n : IsNumbered s) where
  taken_owner : (session : ℕ) → is_open s.sessions session ≡ true → (store asked : Store) (owner : ℕ) → owner_of (with_owner s.locks store (Some session)) asked ≡ Some owner → is_open s.sessions owner ≡ true
  taken_owner session is Running Running owner e = subst (λ q. is_open s.sessions q ≡ true) (same_Some session owner e) is
  taken_owner session is Running Candidate owner e = n.owners Candidate owner e
  taken_owner session is Candidate Running owner e = n.owners Running owner e
  taken_owner session is Candidate Candidate owner e = subst (λ q. is_open s.sessions q ≡ true) (same_Some session owner e) is

  freed_owner : (store asked : Store) (owner : ℕ) → owner_of (with_owner s.locks store None) asked ≡ Some owner → is_open s.sessions owner ≡ true
  freed_owner Running Running owner e = absurd (none-some owner e)
  freed_owner Running Candidate owner e = n.owners Candidate owner e
  freed_owner Candidate Running owner e = n.owners Running owner e
  freed_owner Candidate Candidate owner e = absurd (none-some owner e)

  -- who has a lock back when another session ends is open still
  left_owner : (other owner : ℕ) (holds : Option ℕ) → (holds ≡ Some owner → is_open s.sessions owner ≡ true) → given_back holds other ≡ Some owner → is_open (left s.sessions other) owner ≡ true
  left_owner other owner holds was e = cond_both (is_owner holds other) None holds (λ (o : Option ℕ). o ≡ Some owner → is_open (left s.sessions other) owner ≡ true)
      (λ _ none. absurd (none-some owner none))
      (λ another is. open_left s.sessions other owner
      ∙ ap (λ (b : Bool). if b then false else is_open s.sessions owner) (sym (ap (λ (o : Option ℕ). is_owner o other) is) ∙ another) ∙ was is) e

  left_owners : (other : ℕ) (store : Store) (owner : ℕ) → owner_of (without_session s.locks other) store ≡ Some owner → is_open (left s.sessions other) owner ≡ true
  left_owners other Running owner e = left_owner other owner s.locks.running (n.owners Running owner) e
  left_owners other Candidate owner e = left_owner other owner s.locks.candidate (n.owners Candidate owner) e

  left_numbered : (other : ℕ) → IsNumbered (left_by s other)
  left_numbered other = record {
    opened = λ q is. cond_both (q == other) false (is_open s.sessions q) (λ (b : Bool). b ≡ true → q ≤ s.sessions.last) (λ _ never. absurd (cc)) (λ _ was. n.opened q was)
        (sym (open_left s.sessions other q) ∙ is);
    owners = left_owners other;
    authors = n.authors;
  }

  entered_numbered : (user : List ℕ) → IsNumbered (record s { sessions = entered s.sessions user })
  entered_numbered user = record {
    opened = λ q is. cond_both (q == s.sessions.last + 1) true (is_open s.sessions q) (λ (b : Bool). b ≡ true → q ≤ s.sessions.last + 1)
        (λ same _. let e = (Decides-eqb q (s.sessions.last + 1)).0 same in omega arith) (λ _ was. let within = n.opened q was in omega arith)
        (sym (open_entered s.sessions user q (fresh_number s n)) ∙ is);
    owners = λ store owner e. open_entered s.sessions user owner (fresh_number s n) ∙ still (owner == s.sessions.last + 1) (is_open s.sessions owner) (n.owners store owner e);
    authors = λ author e. let within = n.authors author e in omega arith;
  }
    where
      still : (b was : Bool) → was ≡ true → (if b then true else was) ≡ true
      still true was e = refl
      still false was e = e

  undone_numbered : (t : DeviceState Config Node) → IsNumbered t → (p : PendingState Config) → t.pending ≡ Some p → IsNumbered (undone_by m t (Some p))
  undone_numbered t so p e = record { opened = so.opened; owners = so.owners; authors = λ author none. absurd (cc) }

  emptied_numbered : IsNumbered (emptied s)
  emptied_numbered = record { opened = λ q is. absurd (cc); owners = no_owner; authors = n.authors }
    where
      no_owner : (store : Store) (owner : ℕ) → owner_of (emptied s).locks store ≡ Some owner → is_open (emptied s).sessions owner ≡ true
      no_owner Running owner e = absurd (none-some owner e)
      no_owner Candidate owner e = absurd (none-some owner e)

  numbered_moves : Moves m tables s IsNumbered
  numbered_moves = record {
    same = n;
    entered_by = entered_numbered;
    left = λ other. undone_if_keeps m tables s IsNumbered (left_by s other) (ends_with s.pending other) (left_numbered other) (undone_numbered (left_by s other) (left_numbered other));
    risen = λ seconds. undone_if_keeps m tables s IsNumbered (later s seconds) (ends_at s.pending (s.clock + seconds)) (risen seconds) (undone_numbered (later s seconds) (risen seconds));
    started = undone_keeps m tables s IsNumbered (emptied s) emptied_numbered (undone_numbered (emptied s) emptied_numbered);
  }
    where
      risen : (seconds : ℕ) → IsNumbered (later s seconds)
      risen seconds = record { opened = n.opened; owners = n.owners; authors = n.authors }

  numbered_acts : (session : ℕ) → is_open s.sessions session ≡ true → Acts m tables s session (λ (stepped : Stepped Config Node). IsNumbered stepped.after)
  numbered_acts session is = record {
    same = λ reply. n;
    taken = λ held least free. record { opened = n.opened; owners = taken_owner session is Running; authors = n.authors };
    candidate_taken = λ held same. record { opened = n.opened; owners = taken_owner session is Candidate; authors = n.authors };
    freed = λ store own. record { opened = n.opened; owners = freed_owner store; authors = n.authors };
    parts_taken = λ id nodes held free. record { opened = n.opened; owners = n.owners; authors = n.authors };
    parts_freed = λ id. record { opened = n.opened; owners = n.owners; authors = n.authors };
    edited = λ config free. record { opened = n.opened; owners = n.owners; authors = n.authors };
    dropped = λ free. record { opened = n.opened; owners = n.owners; authors = n.authors };
    left = numbered_moves.left;
    taken_back = λ free. undone_keeps m tables s IsNumbered s n (undone_numbered s n);
    committed = λ form passed free. record {
      opened = n.opened;
      owners = n.owners;
      authors = λ author e. known_author session author s.sessions.last (has_author s.pending author) (author_more s session author form.confirmed form.persist (deadline_of s.clock form.timeout) s.pending e) (n.authors author) (n.opened session is);
    };
  }

  pub numbers_keep : (event : DeviceEvent) (h : Happened Config Node) → Happens m tables s event h → IsNumbered h.after
  numbers_keep event h e = event_moves m tables s IsNumbered numbered_moves event h e (λ session request same is. step_acts m tables s session (λ (stepped : Stepped Config Node). IsNumbered stepped.after) (numbered_acts session is) request)

-- ---- the last number

module _ {Config TheEdit Node : Type 0} (m : Meaning Config TheEdit Node) (tables : TablesState TheEdit) (s : DeviceState Config Node) where
  abbrev Rises : DeviceState Config Node → Type 0
  Rises t = s.sessions.last ≤ t.sessions.last

  stays : s.sessions.last ≤ s.sessions.last
  stays = omega arith

  rising_moves : Moves m tables s Rises
  rising_moves = record {
    same = stays;
    entered_by = λ user. omega arith;
    left = λ other. undone_if_keeps m tables s Rises (left_by s other) (ends_with s.pending other) stays (λ p e. stays);
    risen = λ seconds. undone_if_keeps m tables s Rises (later s seconds) (ends_at s.pending (s.clock + seconds)) stays (λ p e. stays);
    started = undone_keeps m tables s Rises (emptied s) stays (λ p e. stays);
  }

  rising_acts : (session : ℕ) → Acts m tables s session (λ (stepped : Stepped Config Node). Rises stepped.after)
  rising_acts session = record {
    same = λ reply. stays;
    taken = λ held least free. stays;
    candidate_taken = λ held same. stays;
    freed = λ store own. stays;
    parts_taken = λ id nodes held free. stays;
    parts_freed = λ id. stays;
    edited = λ config free. stays;
    dropped = λ free. stays;
    left = rising_moves.left;
    taken_back = λ free. undone_keeps m tables s Rises s stays (λ p e. stays);
    committed = λ form passed free. stays;
  }

  pub numbers_rise : (event : DeviceEvent) (h : Happened Config Node) → Happens m tables s event h → s.sessions.last ≤ h.after.sessions.last
  numbers_rise event h e = event_moves m tables s Rises rising_moves event h e (λ session request same is. step_acts m tables s session (λ (stepped : Stepped Config Node). Rises stepped.after) (rising_acts session) request)
