-- What stands for a session while others act.
use Rattle.std.proofs.Common.{◌≡◌, ℕ, ◌+◌, ◌≤◌, ◌==◌, List, filter, map, Bool, true, false, cond, not, ◌||◌, is_some, Option, Some, None, refl, sym, ap, ◌∙◌, arith, if◌then◌else◌}
use Rattle.std.proofs.lemmas.Bool.Decides.{Decides-eqb, nat_tests}
use Rattle.std.proofs.lemmas.Option.{none-some}
use Rattle.nm_proto.specs.declared.message.Store.{Store}
use Rattle.nm_proto.specs.declared.message.Store.TheVariants.{Running, Candidate}
use Rattle.nm_proto.specs.Content.{Meaning, TablesState}
use Rattle.nm_sessions.specs.Sessions.{user_of, is_open, entered, left}
use Rattle.nm_sessions.proofs.SessionLemmas.{user_of-entered, user_of-left}
use Rattle.nm_locks.specs.Locks.{owner_of, given_back, is_owner, is_other_owner, without_session, with_owner}
use Rattle.nm_partial.specs.Partial.{is_of, is_held_as, without_absent}
use Rattle.nm_pending.specs.Pending.{PendingState, ends_with, ends_at, deadline_of}
use Rattle.nm_device.specs.Device.{DeviceState, Stepped, is_held_by_other}
use Rattle.nm_device.specs.Commit.{is_locked_out}
use Rattle.nm_device.specs.Undoing.{undone_by, left_by, later, emptied, stores_left}
use Rattle.nm_device.specs.Table.{stores_unlocked, with_lock}
use Rattle.nm_history.specs.declared.event.DeviceEvent.{DeviceEvent}
use Rattle.nm_history.specs.History.{Happened}
use Rattle.nm_device_laws.specs.Moment.{Happens}
use Rattle.nm_device_laws.specs.Numbered.{has_author, IsNumbered}
use Rattle.nm_device_laws.specs.Keeps.{is_asker, KeepsFor}
use Rattle.nm_device_laws.proofs.Acts.{Acts, step_acts}
use Rattle.nm_device_laws.proofs.Authors.{either_true, author_more}
use Rattle.nm_device_laws.proofs.Events.{undone_keeps, undone_if_keeps, Moves, event_moves}
use Rattle.nm_device_laws.proofs.Numbers.{fresh_number}

neither : (a b : Bool) → (a || b) ≡ false → (a ≡ false) × (b ≡ false)
neither true b e = cc
neither false b e = (refl, e)

-- a session that holds a lock isn't kept out by another
not_both : (session t : ℕ) (holds : Option ℕ) → holds ≡ Some t → is_other_owner holds session ≡ false → (session == t) ≡ false → ⊥
not_both session t holds e free other = absurd (let f : not (t == session) ≡ false = sym (ap (λ (o : Option ℕ). is_other_owner o session) e) ∙ free in grind (arith, nat_tests))

not_owner : (session t : ℕ) (holds : Option ℕ) → holds ≡ Some t → is_owner holds session ≡ true → (session == t) ≡ false → ⊥
not_owner session t holds e own other = absurd (let f : (t == session) ≡ true = sym (ap (λ (o : Option ℕ). is_owner o session) e) ∙ own in grind (arith, nat_tests))

-- nobody holds what nobody has
unheld : {A : Type 0} (holds : Option ℕ) (t : ℕ) → holds ≡ None → holds ≡ Some t → A
unheld holds t none e = absurd (none-some t (sym none ∙ e))

module _ {Config TheEdit Node : Type 0} (m : Meaning Config TheEdit Node) (tables : TablesState TheEdit) (s : DeviceState Config Node) (n : IsNumbered s) (t : ℕ) where
  same_kept : KeepsFor t s s
  same_kept = record {
    kept = λ is. record { user = λ _. refl; owner = λ store e. e; free = λ own e. e; running = λ own e. refl; whole = λ own e. e; candidate = λ own. refl };
    author = λ e. e;
  }

  -- ---- what nobody asks for

  undone_kept : (now : DeviceState Config Node) → now.pending ≡ s.pending → KeepsFor t s now → (p : PendingState Config) → now.pending ≡ Some p → KeepsFor t s (undone_by m now (Some p))
  undone_kept now same k p e = record {
    kept = λ is. let o = k.kept is in record {
      user = o.user;
      owner = o.owner;
      free = λ own none. refl;
      running = λ own none. absurd (none-some p (sym none ∙ sym same ∙ e));
      whole = λ own none. ap (map (without_absent m p.before)) (o.whole own none);
      candidate = o.candidate;
    };
    author = λ never. absurd (cc);
  }

  entered_kept : (user : List ℕ) → KeepsFor t s (record s { sessions = entered s.sessions user })
  entered_kept user = record {
    kept = λ is. record {
      user = λ within. user_of-entered s.sessions user t (fresh_number s n) ∙ old (t == s.sessions.last + 1) refl within;
      owner = λ store e. e;
      free = λ own e. e;
      running = λ own e. refl;
      whole = λ own e. e;
      candidate = λ own. refl;
    };
    author = λ e. e;
  }
    where
      old : (b : Bool) → (t == s.sessions.last + 1) ≡ b → t ≤ s.sessions.last → cond b (Some user) (user_of s.sessions t) ≡ user_of s.sessions t
      old true e within = let same = (Decides-eqb t (s.sessions.last + 1)).0 e in absurd (omega arith)
      old false e within = refl

  -- who is open after the end of a session is another
  another : (other : ℕ) → is_open (left s.sessions other) t ≡ true → (t == other) ≡ false
  another other is = known (t == other) refl
    where
      known : (b : Bool) → (t == other) ≡ b → b ≡ false
      known true e = absurd (let gone : user_of (left s.sessions other) t ≡ None = user_of-left s.sessions other t ∙ ap (λ (b : Bool). cond b None (user_of s.sessions t)) e in
          let never : false ≡ true = sym (ap is_some gone) ∙ is in cc)
      known false e = refl

  kept_back : (other : ℕ) (holds : Option ℕ) → (t == other) ≡ false → holds ≡ Some t → given_back holds other ≡ Some t
  kept_back other holds not_it e = ap (λ (o : Option ℕ). given_back o other) e ∙ ap (λ (b : Bool). if b then None else Some t) not_it

  left_kept : (other : ℕ) → KeepsFor t s (left_by s other)
  left_kept other = record {
    kept = λ is. let differs = another other is in record {
      user = λ within. user_of-left s.sessions other t ∙ ap (λ (b : Bool). cond b None (user_of s.sessions t)) differs;
      owner = owner_left differs;
      free = λ own e. e;
      running = λ own e. running_left (is_owner s.locks.candidate other);
      whole = λ own e. ap (filter (λ lock. not (is_of other lock))) e;
      candidate = λ own. ap (λ (b : Bool). (stores_left s.stores b).candidate) (ap (λ (o : Option ℕ). is_owner o other) own ∙ differs);
    };
    author = λ e. e;
  }
    where
      owner_left : (t == other) ≡ false → (store : Store) → owner_of s.locks store ≡ Some t → owner_of (without_session s.locks other) store ≡ Some t
      owner_left differs Running e = kept_back other s.locks.running differs e
      owner_left differs Candidate e = kept_back other s.locks.candidate differs e

      running_left : (held : Bool) → (stores_left s.stores held).running ≡ s.stores.running
      running_left true = refl
      running_left false = refl

  risen_kept : (seconds : ℕ) → KeepsFor t s (later s seconds)
  risen_kept seconds = record {
    kept = λ is. record { user = λ _. refl; owner = λ store e. e; free = λ own e. e; running = λ own e. refl; whole = λ own e. e; candidate = λ own. refl };
    author = λ e. e;
  }

  emptied_kept : KeepsFor t s (emptied s)
  emptied_kept = record { kept = λ is. absurd (cc); author = λ e. e }

  pub kept_moves : Moves m tables s (KeepsFor t s)
  kept_moves = record {
    same = same_kept;
    entered_by = entered_kept;
    left = λ other. undone_if_keeps m tables s (KeepsFor t s) (left_by s other) (ends_with s.pending other) (left_kept other) (undone_kept (left_by s other) refl (left_kept other));
    risen = λ seconds. undone_if_keeps m tables s (KeepsFor t s) (later s seconds) (ends_at s.pending (s.clock + seconds)) (risen_kept seconds) (undone_kept (later s seconds) refl (risen_kept seconds));
    started = undone_keeps m tables s (KeepsFor t s) (emptied s) emptied_kept (undone_kept (emptied s) refl emptied_kept);
  }

  -- ---- what another session asks for

  module _ (session : ℕ) (other : (session == t) ≡ false) where
    taken_owner : (store asked : Store) → owner_of s.locks store ≡ None → owner_of s.locks asked ≡ Some t → owner_of (with_owner s.locks store (Some session)) asked ≡ Some t
    taken_owner Running Running none e = unheld s.locks.running t none e
    taken_owner Running Candidate none e = e
    taken_owner Candidate Running none e = e
    taken_owner Candidate Candidate none e = unheld s.locks.candidate t none e

    taken_kept : (store : Store) → owner_of s.locks store ≡ None → KeepsFor t s (with_lock s store session)
    taken_kept store none = record {
      kept = λ is. record { user = λ _. refl; owner = λ asked e. taken_owner store asked none e; free = λ own e. e; running = λ own e. refl; whole = λ own e. e; candidate = λ own. refl };
      author = λ e. e;
    }

    freed_owner : (store asked : Store) → is_owner (owner_of s.locks store) session ≡ true → owner_of s.locks asked ≡ Some t → owner_of (with_owner s.locks store None) asked ≡ Some t
    freed_owner Running Running own e = absurd (not_owner session t s.locks.running e own other)
    freed_owner Running Candidate own e = e
    freed_owner Candidate Running own e = e
    freed_owner Candidate Candidate own e = absurd (not_owner session t s.locks.candidate e own other)

    freed_running : (store : Store) → (stores_unlocked s.stores store).running ≡ s.stores.running
    freed_running Running = refl
    freed_running Candidate = refl

    freed_candidate : (store : Store) → is_owner (owner_of s.locks store) session ≡ true → owner_of s.locks Candidate ≡ Some t → (stores_unlocked s.stores store).candidate ≡ s.stores.candidate
    freed_candidate Running own e = refl
    freed_candidate Candidate own e = absurd (not_owner session t s.locks.candidate e own other)

    freed_kept : (store : Store) → is_owner (owner_of s.locks store) session ≡ true → KeepsFor t s (record s { locks = with_owner s.locks store None; stores = stores_unlocked s.stores store })
    freed_kept store own = record {
      kept = λ is. record {
        user = λ _. refl;
        owner = λ asked e. freed_owner store asked own e;
        free = λ held e. e;
        running = λ held e. freed_running store;
        whole = λ held e. e;
        candidate = freed_candidate store own;
      };
      author = λ e. e;
    }

    no_owner : is_locked_out s session ≡ false → (store : Store) → owner_of s.locks store ≡ Some t → ⊥
    no_owner free Running e = not_both session t s.locks.running e (neither (is_held_by_other s Running session) (is_held_by_other s Candidate session) free).0 other
    no_owner free Candidate e = not_both session t s.locks.candidate e (neither (is_held_by_other s Running session) (is_held_by_other s Candidate session) free).1 other

    kept_acts : Acts m tables s session (λ (stepped : Stepped Config Node). KeepsFor t s stepped.after)
    kept_acts = record {
      same = λ reply. same_kept;
      taken = λ held least free. taken_kept Running held;
      candidate_taken = λ held same. taken_kept Candidate held;
      freed = freed_kept;
      parts_taken = λ id nodes held free. record {
        kept = λ is. record { user = λ _. refl; owner = λ store e. e; free = λ own e. e; running = λ own e. refl; whole = λ own e. unheld s.locks.running t held own; candidate = λ own. refl };
        author = λ e. e;
      };
      parts_freed = λ id. record {
        kept = λ is. record { user = λ _. refl; owner = λ store e. e; free = λ own e. e; running = λ own e. refl; whole = λ own e. ap (filter (λ lock. not (is_held_as session id lock))) e; candidate = λ own. refl };
        author = λ e. e;
      };
      edited = λ config free. record {
        kept = λ is. record { user = λ _. refl; owner = λ store e. e; free = λ own e. e; running = λ own e. refl; whole = λ own e. e; candidate = λ own. absurd (not_both session t s.locks.candidate own free other) };
        author = λ e. e;
      };
      dropped = λ free. record {
        kept = λ is. record { user = λ _. refl; owner = λ store e. e; free = λ own e. e; running = λ own e. refl; whole = λ own e. e; candidate = λ own. absurd (not_both session t s.locks.candidate own free other) };
        author = λ e. e;
      };
      left = kept_moves.left;
      taken_back = λ free. undone_keeps m tables s (KeepsFor t s) s same_kept (undone_kept s refl same_kept);
      committed = λ form passed free. record {
        kept = λ is. record {
          user = λ _. refl;
          owner = λ store e. e;
          free = λ own e. absurd (no_owner free Running own);
          running = λ own e. absurd (no_owner free Running own);
          whole = λ own e. absurd (no_owner free Running own);
          candidate = λ own. absurd (no_owner free Candidate own);
        };
        author = λ e. either_true (has_author s.pending t) (session == t) (author_more s session t form.confirmed form.persist (deadline_of s.clock form.timeout) s.pending e) other;
      };
    }

  pub session_kept : (event : DeviceEvent) (h : Happened Config Node) → Happens m tables s event h → is_asker event t ≡ false → KeepsFor t s h.after
  session_kept event h e others = event_moves m tables s (KeepsFor t s) kept_moves event h e
      (λ session request same is. step_acts m tables s session (λ (stepped : Stepped Config Node). KeepsFor t s stepped.after) (kept_acts session (sym (ap (λ (one : DeviceEvent). is_asker one t) same) ∙ others)) request)
