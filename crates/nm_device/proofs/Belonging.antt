-- The configurations of a device go on to belong to its content.
use Rattle.std.proofs.Common.{◌≡◌, ℕ, ◌+◌, List, Bool, true, false, unwrap_or, Option, Some, None, IfSome, slice_get, refl, subst}
use Rattle.std.specs.List.{All}
use Rattle.std.proofs.lemmas.Bool.{cond_both}
use Rattle.std.proofs.lemmas.Option.{slice_get_within, get_or_from_slice_get}
use Rattle.nm_proto.specs.declared.message.Store.{Store}
use Rattle.nm_proto.specs.declared.message.Store.TheVariants.{Running, Candidate}
use Rattle.nm_proto.specs.declared.message.Request.{Request}
use Rattle.nm_proto.specs.Content.{Meaning, Laws, TablesState}
use Rattle.nm_locks.specs.Locks.{owner_of, is_owner}
use Rattle.nm_stores.specs.Stores.{StoresState, candidate_of, discarded, Belong}
use Rattle.nm_pending.specs.Pending.{PendingState, ends_with, ends_at, deadline_of}
use Rattle.nm_device.specs.Device.{DeviceState, AllBelong}
use Rattle.nm_device.specs.Commit.{pending_after}
use Rattle.nm_device.specs.Undoing.{undone_by, undone, undone_if, left_by, later, emptied, ended, advanced, restarted}
use Rattle.nm_device.specs.Table.{stores_unlocked, device_step}
use Rattle.nm_device.proofs.Closed.{Closed, step_closed}

module _ {Config TheEdit Node : Type 0} (m : Meaning Config TheEdit Node) where
  abbrev pub Belongs : DeviceState Config Node → Type 0
  Belongs s = AllBelong m s.stores s.pending

  candidate_belongs : (running : Config) (candidate : Option Config) → m.belongs running → IfSome candidate m.belongs → m.belongs (unwrap_or candidate running)
  candidate_belongs running None r c = r
  candidate_belongs running (Some candidate) r c = c

  without_candidate : (stores : StoresState Config) → Belong m stores → Belong m (discarded stores)
  without_candidate stores b = record { running = b.running; candidate = tt }

  undone_by_belongs : (s : DeviceState Config Node) (pending : Option (PendingState Config)) → s.pending ≡ pending → Belongs s → Belongs (undone_by m s pending)
  undone_by_belongs s None e b = b
  undone_by_belongs s (Some p) e b = record {
    stores_belong = record { running = subst (λ (o : Option (PendingState Config)). IfSome o (λ p. m.belongs p.before)) e b.before_belongs; candidate = b.stores_belong.candidate };
    before_belongs = tt;
  }

  pub undone_belongs : (s : DeviceState Config Node) → Belongs s → Belongs (undone m s)
  undone_belongs s b = undone_by_belongs s s.pending refl b

  undone_if_belongs : (s : DeviceState Config Node) (undoes : Bool) → Belongs s → Belongs (undone_if m s undoes)
  undone_if_belongs s undoes b = cond_both undoes (undone m s) s Belongs (λ _. undone_belongs s b) (λ _. b)

  pub ended_belongs : (s : DeviceState Config Node) (session : ℕ) → Belongs s → Belongs (ended m s session)
  ended_belongs s session b = undone_if_belongs (left_by s session) (ends_with s.pending session)
      (cond_both (is_owner (owner_of s.locks Candidate) session) (discarded s.stores) s.stores (λ (stores : StoresState Config). AllBelong m stores s.pending)
      (λ _. record { stores_belong = without_candidate s.stores b.stores_belong; before_belongs = b.before_belongs }) (λ _. b))

  pub advanced_belongs : (s : DeviceState Config Node) (seconds : ℕ) → Belongs s → Belongs (advanced m s seconds)
  advanced_belongs s seconds b = undone_if_belongs (later s seconds) (ends_at s.pending (s.clock + seconds)) b

  pub restarted_belongs : (s : DeviceState Config Node) → Belongs s → Belongs (restarted m s)
  restarted_belongs s b = undone_belongs (emptied s) (record { stores_belong = without_candidate s.stores b.stores_belong; before_belongs = b.before_belongs })

  before_after : (s : DeviceState Config Node) (session : ℕ) (confirmed : Bool) (persist : Option (List ℕ)) (deadline : ℕ) (pending : Option (PendingState Config)) → m.belongs s.stores.running
      → IfSome pending (λ p. m.belongs p.before) → IfSome (pending_after s session confirmed persist deadline pending) (λ p. m.belongs p.before)
  before_after s session false persist deadline pending running before = tt
  before_after s session true persist deadline None running before = running
  before_after s session true persist deadline (Some p) running before = before

module _ {Config TheEdit Node : Type 0} (m : Meaning Config TheEdit Node) (laws : Laws m) (tables : TablesState TheEdit) (edits : All m.edit_belongs tables.edits) (s : DeviceState Config Node) where
  freed_belongs : (store : Store) → Belongs m s → AllBelong m (stores_unlocked s.stores store) s.pending
  freed_belongs Running b = b
  freed_belongs Candidate b = record { stores_belong = without_candidate m s.stores b.stores_belong; before_belongs = b.before_belongs }

  listed : (place : ℕ) (edit : TheEdit) → slice_get tables.edits place ≡ Some edit → m.edit_belongs edit
  listed place edit there = subst m.edit_belongs (get_or_from_slice_get tables.edits place edit edit there) (edits place edit (slice_get_within tables.edits place edit there))

  belongs_closed : Belongs m s → Closed m tables s (Belongs m)
  belongs_closed b =
      let candidate = candidate_belongs m s.stores.running s.stores.candidate b.stores_belong.running b.stores_belong.candidate in
      record {
        same = b;
        taken = λ session free. b;
        candidate_taken = λ session. b;
        freed = λ store. freed_belongs store b;
        parts_taken = λ session nodes free. b;
        parts_freed = λ session id. b;
        edited = λ place edit operation marks config there e. record {
          stores_belong = record {
            running = b.stores_belong.running;
            candidate = laws.edited_belongs (candidate_of s.stores) edit operation marks config candidate (listed place edit there) e;
          };
          before_belongs = b.before_belongs;
        };
        dropped = record { stores_belong = without_candidate m s.stores b.stores_belong; before_belongs = b.before_belongs };
        session_ended = λ session. ended_belongs m s session b;
        taken_back = undone_belongs m s b;
        committed = λ session form passed checked. record {
          stores_belong = record { running = candidate; candidate = tt };
          before_belongs = before_after m s session form.confirmed form.persist (deadline_of s.clock form.timeout) s.pending b.stores_belong.running b.before_belongs;
        };
      }

  pub step_belongs : (session : ℕ) (request : Request) → Belongs m s → Belongs m (device_step m tables s session request).after
  step_belongs session request b = step_closed m tables s (Belongs m) (belongs_closed b) session request
