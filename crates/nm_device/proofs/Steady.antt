-- A steady device stays steady: running is valid and would be where the pending commit is undone, and that commit is
-- guarded.
use Rattle.std.proofs.Common.{◌≡◌, ℕ, ◌==◌, ◌+◌, List, [], ◌∷◌, ◌++◌, filter, map, Bool, true, false, not, ◌||◌, unwrap_or, Option, Some, None, IfSome, refl, sym, ap, ◌∙◌, subst, arith}
use Rattle.std.specs.List.{All}
use Rattle.std.proofs.lemmas.Bool.{cond_both}
use Rattle.std.proofs.lemmas.Bool.Decides.{nat_tests}
use Rattle.std.proofs.lemmas.Option.{same_Some, none-some}
use Rattle.std.proofs.lemmas.List.Elements.{All-nil, All-push, All-filter, All-map}
use Rattle.nm_proto.specs.declared.message.Store.{Store}
use Rattle.nm_proto.specs.declared.message.Store.TheVariants.{Running, Candidate}
use Rattle.nm_proto.specs.declared.message.Request.{Request}
use Rattle.nm_proto.specs.Content.{Meaning, Laws, TablesState}
use Rattle.nm_locks.specs.Locks.{owner_of, with_owner, is_owner, is_other_owner, given_back}
use Rattle.nm_partial.specs.Partial.{PartialLock, without_absent, is_of, is_held_as, KeepsOthers}
use Rattle.nm_partial.proofs.Guards.{guards_keep}
use Rattle.nm_stores.specs.Stores.{StoresState, candidate_of, discarded}
use Rattle.nm_pending.specs.Pending.{PendingState, begun, followed, is_author, is_stranger, ends_with, ends_at, deadline_of}
use Rattle.nm_pending.proofs.Follows.{author_followed}
use Rattle.nm_device.specs.Device.{DeviceState, GuardedBy, AreSteady, IsSteady, is_held_by_other}
use Rattle.nm_device.specs.Commit.{CommitForm, is_locked_out, commit_tag, commit_done, pending_after, violation_of}
use Rattle.nm_device.specs.Undoing.{undone_by, undone, undone_if, left_by, later, emptied, ended, advanced, restarted}
use Rattle.nm_sessions.specs.Sessions.{next_id}
use Rattle.nm_device.specs.Table.{open_with, opened, stores_unlocked, device_step}
use Rattle.nm_device.proofs.Passing.{Passes, tests_pass}
use Rattle.nm_device.proofs.Closed.{Closed, step_closed}

neither : (a b : Bool) → (a || b) ≡ false → (a ≡ false) × (b ≡ false)
neither true b e = cc
neither false b e = (refl, e)

not_false : (b : Bool) → not b ≡ false → b ≡ true
not_false true e = refl
not_false false e = cc

its_own : (session : ℕ) → (session == session) ≡ true
its_own session = grind (arith, nat_tests)

only_holder : (holder session : ℕ) → is_other_owner (Some holder) session ≡ false → holder ≡ session
only_holder holder session e = grind (arith, nat_tests)

still_owner : (owner : Option ℕ) (session holder : ℕ) → given_back owner session ≡ Some holder → owner ≡ Some holder
still_owner owner session holder e = cond_both (is_owner owner session) None owner (λ (o : Option ℕ). o ≡ Some holder → owner ≡ Some holder) (λ _ g. absurd (none-some holder g)) (λ _ g. g) e

module _ {Config TheEdit Node : Type 0} (m : Meaning Config TheEdit Node) where
  -- ---- guarded, while locks come and go

  abbrev Guarded : Option (PendingState Config) → Config → Option ℕ → List (PartialLock Node) → Type 0
  Guarded pending running holding locks = IfSome pending (GuardedBy m running holding locks)

  -- the parts of a lock are as they were before, where it is a stranger's
  abbrev Calm : PendingState Config → Config → PartialLock Node → Type 0
  Calm p running lock = is_author p lock.session ≡ false → All (λ node. m.part p.before node ≡ m.part running node) lock.nodes

  guarded_taken : (pending : Option (PendingState Config)) (running : Config) (holding : Option ℕ) (locks : List (PartialLock Node)) (session : ℕ) → is_stranger pending session ≡ false
      → Guarded pending running holding locks → Guarded pending running (Some session) locks
  guarded_taken None running holding locks session free g = tt
  guarded_taken (Some p) running holding locks session free g = record {
    lock = λ holder e. subst (λ one. is_author p one ≡ true) (same_Some session holder e) (not_false (is_author p session) free);
    parts = g.parts;
  }

  guarded_held : (pending : Option (PendingState Config)) (running : Config) (holding now : Option ℕ) (locks : List (PartialLock Node)) → ((holder : ℕ) → now ≡ Some holder → holding ≡ Some holder)
      → Guarded pending running holding locks → Guarded pending running now locks
  guarded_held None running holding now locks still g = tt
  guarded_held (Some p) running holding now locks still g = record { lock = λ holder e. g.lock holder (still holder e); parts = g.parts }

  guarded_granted : (pending : Option (PendingState Config)) (running : Config) (holding : Option ℕ) (locks : List (PartialLock Node)) (lock : PartialLock Node) → is_stranger pending lock.session ≡ false
      → Guarded pending running holding locks → Guarded pending running holding (locks ++ lock ∷ [])
  guarded_granted None running holding locks lock free g = tt
  guarded_granted (Some p) running holding locks lock free g = record {
    lock = g.lock;
    parts = All-push (Calm p running) locks lock g.parts (λ stranger. absurd (let e : true ≡ false = sym (not_false (is_author p lock.session) free) ∙ stranger in cc));
  }

  guarded_kept : (pending : Option (PendingState Config)) (running : Config) (holding : Option ℕ) (locks : List (PartialLock Node)) (keeps : PartialLock Node → Bool)
      → Guarded pending running holding locks → Guarded pending running holding (filter keeps locks)
  guarded_kept None running holding locks keeps g = tt
  guarded_kept (Some p) running holding locks keeps g = record { lock = g.lock; parts = All-filter keeps (Calm p running) locks g.parts }

  -- ---- undoing

  undone_by_steady : (s : DeviceState Config Node) (pending : Option (PendingState Config)) → s.pending ≡ pending → IsSteady m s → IsSteady m (undone_by m s pending)
  undone_by_steady s None e st = st
  undone_by_steady s (Some p) e st = record {
    valid = subst (λ (o : Option (PendingState Config)). IfSome o (λ p. m.violation p.before ≡ None)) e st.before_valid;
    before_valid = tt;
    guarded = tt;
  }

  pub undone_steady : (s : DeviceState Config Node) → IsSteady m s → IsSteady m (undone m s)
  undone_steady s st = undone_by_steady s s.pending refl st

  undone_if_steady : (s : DeviceState Config Node) (undoes : Bool) → IsSteady m s → IsSteady m (undone_if m s undoes)
  undone_if_steady s undoes st = cond_both undoes (undone m s) s (IsSteady m) (λ _. undone_steady s st) (λ _. st)

  left_steady : (s : DeviceState Config Node) (session : ℕ) → IsSteady m s → IsSteady m (left_by s session)
  left_steady s session st = cond_both (is_owner (owner_of s.locks Candidate) session) (discarded s.stores) s.stores
      (λ (stores : StoresState Config). AreSteady m stores.running s.pending (given_back s.locks.running session) (filter (λ lock. not (is_of session lock)) s.partials.locks))
      (λ _. left) (λ _. left)
    where
      left : AreSteady m s.stores.running s.pending (given_back s.locks.running session) (filter (λ lock. not (is_of session lock)) s.partials.locks)
      left = record {
        valid = st.valid;
        before_valid = st.before_valid;
        guarded = guarded_kept s.pending s.stores.running (given_back s.locks.running session) s.partials.locks (λ lock. not (is_of session lock))
            (guarded_held s.pending s.stores.running s.locks.running (given_back s.locks.running session) s.partials.locks (still_owner s.locks.running session) st.guarded);
      }

  pub ended_steady : (s : DeviceState Config Node) (session : ℕ) → IsSteady m s → IsSteady m (ended m s session)
  ended_steady s session st = undone_if_steady (left_by s session) (ends_with s.pending session) (left_steady s session st)

  pub advanced_steady : (s : DeviceState Config Node) (seconds : ℕ) → IsSteady m s → IsSteady m (advanced m s seconds)
  advanced_steady s seconds st = undone_if_steady (later s seconds) (ends_at s.pending (s.clock + seconds)) st

  pub opened_steady : (s : DeviceState Config Node) (user : List ℕ) → IsSteady m s → IsSteady m (opened s user).after
  opened_steady s user st = go (next_id s.sessions)
    where
      go : (id : Option ℕ) → IsSteady m (open_with s id user).after
      go None = st
      go (Some id) = st

  emptied_guarded : (pending : Option (PendingState Config)) (running : Config) → Guarded pending running None []
  emptied_guarded None running = tt
  emptied_guarded (Some p) running = record { lock = λ holder e. absurd (none-some holder e); parts = All-nil (Calm p running) }

  pub restarted_steady : (s : DeviceState Config Node) → IsSteady m s → IsSteady m (restarted m s)
  restarted_steady s st = undone_steady (emptied s) (record { valid = st.valid; before_valid = st.before_valid; guarded = emptied_guarded s.pending s.stores.running })

  -- ---- commits

  module _ (laws : Laws m) (s : DeviceState Config Node) (session : ℕ) where
    pub alone_by : is_locked_out s session ≡ false → (store : Store) (holder : ℕ) → owner_of s.locks store ≡ Some holder → holder ≡ session
    alone_by free Running holder owns = only_holder holder session
        (sym (ap (λ owner. is_other_owner owner session) owns) ∙ (neither (is_held_by_other s Running session) (is_held_by_other s Candidate session) free).0)
    alone_by free Candidate holder owns = only_holder holder session
        (sym (ap (λ owner. is_other_owner owner session) owns) ∙ (neither (is_held_by_other s Running session) (is_held_by_other s Candidate session) free).1)

    parts_for : (form : CommitForm) (candidate : Option Config) → s.stores.candidate ≡ candidate → Passes m s session form → KeepsOthers m s.partials session s.stores.running (unwrap_or candidate s.stores.running)
    parts_for form None none passes = λ i lock within other j node inside. refl
    parts_for form (Some candidate) there passes = (guards_keep m laws s.partials session s.stores.running candidate).0 (passes.unguarded candidate there)

    pub parts_by : (form : CommitForm) → Passes m s session form → KeepsOthers m s.partials session s.stores.running (candidate_of s.stores)
    parts_by form passes = parts_for form s.stores.candidate refl passes

    same_part : {one other : Config} (node : Node) → one ≡ other → m.part one node ≡ m.part other node
    same_part node e = ap (λ config. m.part config node) e

    -- what a commit leaves guarded: who committed is an author, and was it or is new
    follows_guarded : (running : Config) (p q : PendingState Config) → q.before ≡ p.before → is_author q session ≡ true → ((other : ℕ) → is_author q other ≡ false → is_author p other ≡ false)
        → ((holder : ℕ) → owner_of s.locks Running ≡ Some holder → holder ≡ session) → KeepsOthers m s.partials session s.stores.running running
        → All (Calm p s.stores.running) s.partials.locks
        → GuardedBy m running (owner_of s.locks Running) (map (without_absent m running) s.partials.locks) q
    follows_guarded running p q before author less alone others calm = record {
      lock = λ holder e. subst (λ one. is_author q one ≡ true) (sym (alone holder e)) author;
      parts = All-map (Calm q running) (without_absent m running) s.partials.locks
          (λ k d within stranger.
          let lock = calm k d within (less _ stranger) in
          let other = others k d within (λ same. absurd (let e : true ≡ false = sym author ∙ ap (is_author q) (sym same) ∙ stranger in cc)) in
          All-filter (m.exists running) (λ node. m.part q.before node ≡ m.part running node) _
          (λ j node inside. same_part _ before ∙ lock j node inside ∙ other j node inside));
    }

    trivially : (running : Config) (locks : List (PartialLock Node)) (p : PendingState Config) → p.before ≡ running → All (Calm p running) locks
    trivially running locks p e = λ k d within stranger j node inside. same_part _ e

    committed_guarded : (confirmed : Bool) (persist : Option (List ℕ)) (deadline : ℕ) (pending : Option (PendingState Config)) → is_locked_out s session ≡ false
        → KeepsOthers m s.partials session s.stores.running (candidate_of s.stores) → Guarded pending s.stores.running (owner_of s.locks Running) s.partials.locks
        → Guarded (pending_after s session confirmed persist deadline pending) (candidate_of s.stores) (owner_of s.locks Running) (map (without_absent m (candidate_of s.stores)) s.partials.locks)
    committed_guarded false persist deadline pending free others g = tt
    committed_guarded true persist deadline None free others g =
        let p = begun s.stores.running session persist deadline in
        follows_guarded (candidate_of s.stores) p p refl (ap (λ (b : Bool). b || false) (its_own session)) (λ other e. e) (alone_by free Running) others
        (trivially s.stores.running s.partials.locks p refl)
    committed_guarded true persist deadline (Some p) free others g =
        let q = followed p session persist deadline in
        follows_guarded (candidate_of s.stores) p q refl (author_followed p session persist deadline session ∙ joined (is_author p session) (session == session) (its_own session))
        (λ other e. (neither (is_author p other) (session == other) (sym (author_followed p session persist deadline other) ∙ e)).0) (alone_by free Running) others g.parts
      where
        joined : (a b : Bool) → b ≡ true → (a || b) ≡ true
        joined true b e = refl
        joined false b e = e

    before_after : (confirmed : Bool) (persist : Option (List ℕ)) (deadline : ℕ) (pending : Option (PendingState Config)) → m.violation s.stores.running ≡ None
        → IfSome pending (λ p. m.violation p.before ≡ None) → IfSome (pending_after s session confirmed persist deadline pending) (λ p. m.violation p.before ≡ None)
    before_after false persist deadline pending valid before = tt
    before_after true persist deadline None valid before = valid
    before_after true persist deadline (Some p) valid before = before

    candidate_valid : (running : Config) (candidate : Option Config) → m.violation running ≡ None → violation_of m candidate ≡ None → m.violation (unwrap_or candidate running) ≡ None
    candidate_valid running None valid checked = valid
    candidate_valid running (Some config) valid checked = checked

    committed_steady : (form : CommitForm) → commit_tag m s session form ≡ None → violation_of m s.stores.candidate ≡ None → IsSteady m s
        → IsSteady m (commit_done m s session form.confirmed form.persist (deadline_of s.clock form.timeout)).after
    committed_steady form passed checked st =
        let passes = tests_pass m s session form passed in
        record {
          valid = candidate_valid s.stores.running s.stores.candidate st.valid checked;
          before_valid = before_after form.confirmed form.persist (deadline_of s.clock form.timeout) s.pending st.valid st.before_valid;
          guarded = committed_guarded form.confirmed form.persist (deadline_of s.clock form.timeout) s.pending passes.free (parts_by form passes) st.guarded;
        }

module _ {Config TheEdit Node : Type 0} (m : Meaning Config TheEdit Node) (laws : Laws m) (tables : TablesState TheEdit) (s : DeviceState Config Node) where
  freed_steady : (store : Store) → IsSteady m s → IsSteady m (record s { locks = with_owner s.locks store None; stores = stores_unlocked s.stores store })
  freed_steady Running st = record {
    valid = st.valid;
    before_valid = st.before_valid;
    guarded = guarded_held m s.pending s.stores.running s.locks.running None s.partials.locks (λ holder e. absurd (none-some holder e)) st.guarded;
  }
  freed_steady Candidate st = st

  steady_closed : IsSteady m s → Closed m tables s (IsSteady m)
  steady_closed st = record {
    same = st;
    taken = λ session free. record {
      valid = st.valid;
      before_valid = st.before_valid;
      guarded = guarded_taken m s.pending s.stores.running s.locks.running s.partials.locks session free st.guarded;
    };
    candidate_taken = λ session. st;
    freed = λ store. freed_steady store st;
    parts_taken = λ session nodes free. record {
      valid = st.valid;
      before_valid = st.before_valid;
      guarded = guarded_granted m s.pending s.stores.running s.locks.running s.partials.locks (record { id = s.partials.last + 1; session = session; nodes = nodes }) free st.guarded;
    };
    parts_freed = λ session id. record {
      valid = st.valid;
      before_valid = st.before_valid;
      guarded = guarded_kept m s.pending s.stores.running s.locks.running s.partials.locks (λ lock. not (is_held_as session id lock)) st.guarded;
    };
    edited = λ place edit operation marks config there e. st;
    dropped = st;
    session_ended = λ session. ended_steady m s session st;
    taken_back = undone_steady m s st;
    committed = λ session form passed checked. committed_steady m laws s session form passed checked st;
  }

  -- a steady device is steady after each request
  pub step_steady : (session : ℕ) (request : Request) → IsSteady m s → IsSteady m (device_step m tables s session request).after
  step_steady session request st = step_closed m tables s (IsSteady m) (steady_closed st) session request
