-- Who takes no part in what is pending is kept out.
use Rattle.std.proofs.Common.{◌≡◌, ℕ, ◌+◌, filter, map, Bool, true, false, not, Option, Some, None, refl, sym, ap, ◌∙◌}
use Rattle.std.proofs.lemmas.Bool.{cond_both}
use Rattle.std.proofs.lemmas.Option.{none-some}
use Rattle.nm_proto.specs.declared.message.Store.{Store}
use Rattle.nm_proto.specs.declared.message.Store.TheVariants.{Running, Candidate}
use Rattle.nm_proto.specs.Content.{Meaning, TablesState}
use Rattle.nm_locks.specs.Locks.{owner_of, is_owner, with_owner}
use Rattle.nm_partial.specs.Partial.{is_of, is_held_as, without_absent}
use Rattle.nm_stores.specs.Stores.{candidate_of}
use Rattle.nm_pending.specs.Pending.{PendingState, is_stranger, ends_with, ends_at}
use Rattle.nm_device.specs.Device.{DeviceState, Stepped}
use Rattle.nm_device.specs.Undoing.{undone_by, left_by, later, emptied}
use Rattle.nm_history.specs.declared.event.DeviceEvent.{DeviceEvent}
use Rattle.nm_history.specs.History.{Happened}
use Rattle.nm_device_laws.specs.Moment.{Happens}
use Rattle.nm_device_laws.specs.Keeps.{may_take, KeepsOut}
use Rattle.nm_device_laws.proofs.Acts.{Acts, step_acts}
use Rattle.nm_device_laws.proofs.Events.{undone_keeps, undone_if_keeps, Moves, event_moves}

not_false : (b : Bool) → not b ≡ false → b ≡ true
not_false true e = refl
not_false false e = cc

module _ {Config TheEdit Node : Type 0} (m : Meaning Config TheEdit Node) (tables : TablesState TheEdit) (s : DeviceState Config Node) where
  same_out : KeepsOut s s
  same_out = record { lock = λ owner e. e; whole = λ e. e }

  undone_out : (now : DeviceState Config Node) → KeepsOut s now → (p : PendingState Config) → now.pending ≡ Some p → KeepsOut s (undone_by m now (Some p))
  undone_out now k p e = record { lock = k.lock; whole = λ none. ap (map (without_absent m p.before)) (k.whole none) }

  left_out : (other : ℕ) → KeepsOut s (left_by s other)
  left_out other = record {
    lock = λ owner e. cond_both (is_owner s.locks.running other) None s.locks.running (λ (o : Option ℕ). o ≡ Some owner → s.locks.running ≡ Some owner) (λ _ none. absurd (none-some owner none)) (λ _ is. is) e;
    whole = λ none. ap (filter (λ lock. not (is_of other lock))) none;
  }

  emptied_out : KeepsOut s (emptied s)
  emptied_out = record { lock = λ owner none. absurd (none-some owner none); whole = λ none. refl }

  out_moves : Moves m tables s (KeepsOut s)
  out_moves = record {
    same = same_out;
    entered_by = λ user. record { lock = λ owner e. e; whole = λ e. e };
    left = λ other. undone_if_keeps m tables s (KeepsOut s) (left_by s other) (ends_with s.pending other) (left_out other) (undone_out (left_by s other) (left_out other));
    risen = λ seconds. undone_if_keeps m tables s (KeepsOut s) (later s seconds) (ends_at s.pending (s.clock + seconds)) (risen seconds) (undone_out (later s seconds) (risen seconds));
    started = undone_keeps m tables s (KeepsOut s) (emptied s) emptied_out (undone_out (emptied s) emptied_out);
  }
    where
      risen : (seconds : ℕ) → KeepsOut s (later s seconds)
      risen seconds = record { lock = λ owner e. e; whole = λ e. e }

  freed_lock : (store : Store) (owner : ℕ) → owner_of (with_owner s.locks store None) Running ≡ Some owner → owner_of s.locks Running ≡ Some owner
  freed_lock Running owner none = absurd (none-some owner none)
  freed_lock Candidate owner e = e

  out_acts : (session : ℕ) → is_stranger s.pending session ≡ true → Acts m tables s session (λ (stepped : Stepped Config Node). KeepsOut s stepped.after)
  out_acts session stranger = record {
    same = λ reply. same_out;
    taken = λ held least free. absurd (let never : true ≡ false = sym stranger ∙ free in cc);
    candidate_taken = λ held same. record { lock = λ owner e. e; whole = λ e. e };
    freed = λ store own. record { lock = freed_lock store; whole = λ e. e };
    parts_taken = λ id nodes held free. absurd (let never : true ≡ false = sym stranger ∙ free in cc);
    parts_freed = λ id. record { lock = λ owner e. e; whole = ap (filter (λ lock. not (is_held_as session id lock))) };
    edited = λ config free. record { lock = λ owner e. e; whole = λ e. e };
    dropped = λ free. record { lock = λ owner e. e; whole = λ e. e };
    left = out_moves.left;
    taken_back = λ free. undone_keeps m tables s (KeepsOut s) s same_out (undone_out s same_out);
    committed = λ form passed free. record { lock = λ owner e. e; whole = ap (map (without_absent m (candidate_of s.stores))) };
  }

  pub strangers_kept_out : (event : DeviceEvent) (h : Happened Config Node) → Happens m tables s event h → may_take s event ≡ false → KeepsOut s h.after
  strangers_kept_out event h e out = event_moves m tables s (KeepsOut s) out_moves event h e
      (λ session request same is. step_acts m tables s session (λ (stepped : Stepped Config Node). KeepsOut s stepped.after)
      (out_acts session (not_false (is_stranger s.pending session) (sym (ap (may_take s) same) ∙ out))) request)
