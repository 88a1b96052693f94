-- Only the manager changes marks.
use Rattle.std.proofs.Common.{◌≡◌, ℕ, ◌+◌, List, Bool, true, false, not, ◌&&◌, unwrap_or, Option, Some, None, IfSome, refl, sym, ap, ◌∙◌, subst}
use Rattle.nm_base.specs.declared.tag.Tag.{Tag}
use Rattle.nm_base.specs.declared.tag.Tag.TheVariants.{InUse, AccessDenied}
use Rattle.nm_proto.specs.declared.message.Store.{Store}
use Rattle.nm_proto.specs.declared.message.Store.TheVariants.{Running, Candidate}
use Rattle.nm_proto.specs.Content.{Meaning, Laws, TablesState}
use Rattle.nm_sessions.specs.Sessions.{user_of}
use Rattle.nm_locks.specs.Locks.{owner_of, is_owner}
use Rattle.nm_partial.specs.Partial.{guards}
use Rattle.nm_stores.specs.Stores.{candidate_of}
use Rattle.nm_pending.specs.Pending.{PendingState, ends_with, ends_at, deadline_of}
use Rattle.nm_device.specs.Device.{DeviceState, Stepped, is_manager}
use Rattle.nm_device.specs.Commit.{CommitForm, or_else, refused_if, commit_refusal, candidate_refusal, commit_tag, pending_after}
use Rattle.nm_device.specs.Undoing.{undone_by, stores_left, left_by, later, emptied}
use Rattle.nm_device.specs.Table.{stores_unlocked}
use Rattle.nm_history.specs.declared.event.DeviceEvent.{DeviceEvent}
use Rattle.nm_history.specs.History.{Happened}
use Rattle.nm_device_laws.specs.Moment.{Happens}
use Rattle.nm_device_laws.specs.Keeps.{IsUnmarked, KeepsMarks, is_managed}
use Rattle.nm_device_laws.proofs.Acts.{Acts, step_acts}
use Rattle.nm_device_laws.proofs.Events.{undone_keeps, undone_if_keeps, Moves, event_moves}

not_refused : (refused : Bool) (tag : Tag) → refused_if refused tag ≡ None → refused ≡ false
not_refused true tag e = cc
not_refused false tag e = refl

second_none : (one other : Option Tag) → or_else one other ≡ None → other ≡ None
second_none (Some tag) other e = cc
second_none None other e = e

unmarked_by : (manages same : Bool) → (not manages && not same) ≡ false → manages ≡ false → same ≡ true
unmarked_by manages true e other = refl
unmarked_by true false e other = cc
unmarked_by false false e other = cc

module _ {Config TheEdit Node : Type 0} (m : Meaning Config TheEdit Node) (laws : Laws m) where
  same_again : (config : Config) → m.same_marks config config ≡ true
  same_again config = (laws.same_numbers config config).1 (λ n. refl)

  same_back : (one other : Config) → m.same_marks one other ≡ true → m.same_marks other one ≡ true
  same_back one other e = (laws.same_numbers other one).1 (λ n. sym ((laws.same_numbers one other).0 e n))

  same_on : (one two three : Config) → m.same_marks one two ≡ true → m.same_marks two three ≡ true → m.same_marks one three ≡ true
  same_on one two three e f = (laws.same_numbers one three).1 (λ n. (laws.same_numbers one two).0 e n ∙ (laws.same_numbers two three).0 f n)

  -- candidate has the marks of running where who isn't the manager may commit it
  pub same_candidate : (s : DeviceState Config Node) (session : ℕ) (candidate : Option Config) → candidate_refusal m s session candidate ≡ None → is_manager (user_of s.sessions session) ≡ false
      → m.same_marks s.stores.running (unwrap_or candidate s.stores.running) ≡ true
  same_candidate s session None passed other = same_again s.stores.running
  same_candidate s session (Some candidate) passed other = unmarked_by (is_manager (user_of s.sessions session)) (m.same_marks s.stores.running candidate)
      (not_refused _ AccessDenied (second_none (refused_if (guards m s.partials session s.stores.running candidate) InUse) _ passed)) other

  pub candidate_passed : (s : DeviceState Config Node) (session : ℕ) (form : CommitForm) → commit_tag m s session form ≡ None → candidate_refusal m s session s.stores.candidate ≡ None
  candidate_passed s session form passed = second_none (commit_refusal s session form) (candidate_refusal m s session s.stores.candidate) passed

  module _ (tables : TablesState TheEdit) (s : DeviceState Config Node) (un : IsUnmarked m s) where
    abbrev Marked : DeviceState Config Node → Type 0
    Marked now = KeepsMarks m s now

    -- running and what is pending stay
    stay : Marked s
    stay = record { unmarked = un; running = same_again s.stores.running }

    same_stay : (now : DeviceState Config Node) → now.stores.running ≡ s.stores.running → now.pending ≡ s.pending → Marked now
    same_stay now runs waits = record {
      unmarked = subst (λ (pending : Option (PendingState Config)). IfSome pending (λ p. m.same_marks p.before now.stores.running ≡ true)) (sym waits)
          (subst (λ (running : Config). IfSome s.pending (λ p. m.same_marks p.before running ≡ true)) (sym runs) un);
      running = ap (m.same_marks s.stores.running) runs ∙ same_again s.stores.running;
    }

    undone_stay : (now : DeviceState Config Node) → now.pending ≡ s.pending → (p : PendingState Config) → now.pending ≡ Some p → Marked (undone_by m now (Some p))
    undone_stay now same p e = record {
      unmarked = tt;
      running = same_back p.before s.stores.running (subst (λ (pending : Option (PendingState Config)). IfSome pending (λ p. m.same_marks p.before s.stores.running ≡ true)) (sym same ∙ e) un);
    }

    left_running : (held : Bool) → (stores_left s.stores held).running ≡ s.stores.running
    left_running true = refl
    left_running false = refl

    marked_moves : Moves m tables s Marked
    marked_moves = record {
      same = stay;
      entered_by = λ user. same_stay _ refl refl;
      left = λ other. undone_if_keeps m tables s Marked (left_by s other) (ends_with s.pending other) (same_stay _ (left_running (is_owner (owner_of s.locks Candidate) other)) refl) (undone_stay (left_by s other) refl);
      risen = λ seconds. undone_if_keeps m tables s Marked (later s seconds) (ends_at s.pending (s.clock + seconds)) (same_stay _ refl refl) (undone_stay (later s seconds) refl);
      started = undone_keeps m tables s Marked (emptied s) (same_stay _ refl refl) (undone_stay (emptied s) refl);
    }

    freed_running : (store : Store) → (stores_unlocked s.stores store).running ≡ s.stores.running
    freed_running Running = refl
    freed_running Candidate = refl

    after_unmarked : (session : ℕ) (confirmed : Bool) (persist : Option (List ℕ)) (deadline : ℕ) (pending : Option (PendingState Config)) (candidate : Config) → m.same_marks s.stores.running candidate ≡ true
        → IfSome pending (λ p. m.same_marks p.before s.stores.running ≡ true)
        → IfSome (pending_after s session confirmed persist deadline pending) (λ p. m.same_marks p.before candidate ≡ true)
    after_unmarked session false persist deadline pending candidate same was = tt
    after_unmarked session true persist deadline None candidate same was = same
    after_unmarked session true persist deadline (Some p) candidate same was = same_on p.before s.stores.running candidate was same

    marked_acts : (session : ℕ) → is_manager (user_of s.sessions session) ≡ false → Acts m tables s session (λ (stepped : Stepped Config Node). Marked stepped.after)
    marked_acts session other = record {
      same = λ reply. stay;
      taken = λ held least free. same_stay _ refl refl;
      candidate_taken = λ held unmodified. same_stay _ refl refl;
      freed = λ store owned. same_stay _ (freed_running store) refl;
      parts_taken = λ id nodes held free. same_stay _ refl refl;
      parts_freed = λ id. same_stay _ refl refl;
      edited = λ config free. same_stay _ refl refl;
      dropped = λ free. same_stay _ refl refl;
      left = marked_moves.left;
      taken_back = λ free. undone_keeps m tables s Marked s stay (undone_stay s refl);
      committed = λ form passed free.
          let same = same_candidate s session s.stores.candidate (candidate_passed s session form passed) other in
          record { unmarked = after_unmarked session form.confirmed form.persist (deadline_of s.clock form.timeout) s.pending (candidate_of s.stores) same un; running = same };
    }

    pub marks_kept : (event : DeviceEvent) (h : Happened Config Node) → Happens m tables s event h → is_managed s event ≡ false → Marked h.after
    marks_kept event h e others = event_moves m tables s Marked marked_moves event h e
        (λ session request asked is. step_acts m tables s session (λ (stepped : Stepped Config Node). Marked stepped.after)
        (marked_acts session (sym (ap (is_managed s) asked) ∙ others)) request)
