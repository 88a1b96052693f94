-- What is pending after an entry is read from the entry, so replaying a history tells what is read from it.
use Rattle.std.proofs.Common.{◌≡◌, ℕ, ◌+◌, List, [], ◌∷◌, ◌++◌, Bool, true, Option, Some, None, is_some, option_to_list, refl, sym, ap, ◌∙◌, subst}
use Rattle.nm_proto.specs.Content.{Meaning, Laws, TablesState}
use Rattle.nm_pending.specs.Pending.{PendingState}
use Rattle.nm_device.specs.Device.{DeviceState}
use Rattle.nm_history.specs.declared.event.Noted.{Noted}
use Rattle.nm_history.specs.Effect.{Effect, noted_effect}
use Rattle.nm_history.specs.Effect.Effect.{Begins, Ends, Undoes, Neither}
use Rattle.nm_history.specs.History.{Happened, noted, device_event, after_or, replayed, Fits, IsLegal}
use Rattle.nm_history.specs.Whole.{began_after, began_of, Becomes}
use Rattle.nm_history.proofs.Keeping.{event_keeps}
use Rattle.nm_notify.specs.Notices.{noticed, notices_from, pending_after}
use Rattle.nm_notify.specs.Replayed.{notices_replayed}

-- only what is pending is undone
abbrev pub UndoesPending : Bool → Effect → Type 0
UndoesPending was (Begins token) = Unit {0}
UndoesPending was Ends = Unit {0}
UndoesPending was (Undoes by) = was ≡ true
UndoesPending was Neither = Unit {0}

-- what is kept from before a pending commit tells whether there is one
module _ {Config : Type 0} where
  kept_tells : (pending : Option (PendingState Config)) → is_some (began_of pending) ≡ is_some pending
  kept_tells None = refl
  kept_tells (Some p) = refl

  kept_after : (running : Config) (began : Option Config) (effect : Effect) → is_some (began_after running began effect) ≡ pending_after (is_some began) effect
  kept_after running began (Begins token) = refl
  kept_after running began Ends = refl
  kept_after running began (Undoes by) = refl
  kept_after running began Neither = refl

module _ {Config Node : Type 0} (s : DeviceState Config Node) where
  -- an entry says what is pending after it, and undoes only what is pending
  pub record Passes (entry : Noted) (after : DeviceState Config Node) : Type 0 where
    pub now : pending_after (is_some s.pending) (noted_effect entry) ≡ is_some after.pending
    pub undoes : UndoesPending (is_some s.pending) (noted_effect entry)

  undoes_pending : (effect : Effect) (running : Config) → Becomes s (began_of s.pending) effect running → UndoesPending (is_some s.pending) effect
  undoes_pending (Begins token) running moves = tt
  undoes_pending Ends running moves = tt
  undoes_pending (Undoes by) running moves = sym (kept_tells s.pending) ∙ ap is_some moves
  undoes_pending Neither running moves = tt

module _ {Config TheEdit Node : Type 0} (m : Meaning Config TheEdit Node) (laws : Laws m) (tables : TablesState TheEdit) (s : DeviceState Config Node) where
  happened : (entry : Noted) (h : Happened Config Node) → device_event m tables s entry.event ≡ Some h → Passes s (noted entry.event h) h.after
  happened entry h e =
      let k = event_keeps m laws tables s entry.event h e in
      let effect = noted_effect (noted entry.event h) in
      record {
        now = ap (λ was. pending_after was effect) (sym (kept_tells s.pending)) ∙ sym (kept_after s.stores.running (began_of s.pending) effect)
            ∙ sym (ap is_some k.moved.began) ∙ kept_tells h.after.pending;
        undoes = undoes_pending s effect h.after.stores.running k.moved.moves;
      }

  passes_by : (entry : Noted) (done : Option (Happened Config Node)) → device_event m tables s entry.event ≡ done → Fits entry done → Passes s entry (after_or s done)
  passes_by entry None e fits = absurd fits
  passes_by entry (Some h) e fits = subst (λ (one : Noted). Passes s one h.after) (sym fits) (happened entry h e)

  -- so does each entry that fits
  pub passes : (entry : Noted) → Fits entry (device_event m tables s entry.event) → Passes s entry (replayed m tables s entry)
  passes entry fits = passes_by entry (device_event m tables s entry.event) refl fits

module _ {Config TheEdit Node : Type 0} (m : Meaning Config TheEdit Node) (laws : Laws m) (tables : TablesState TheEdit) where
  -- replaying tells the same
  pub same_told : (n : ℕ) (s : DeviceState Config Node) (history : List Noted) → IsLegal m tables s history
      → notices_from n (is_some s.pending) history ≡ notices_replayed m tables n s history
  same_told n s [] legal = refl
  same_told n s (entry ∷ history) legal =
      let p = passes m laws tables s entry legal.0 in
      let after = replayed m tables s entry in
      ap (λ now. option_to_list (noticed n entry (is_some s.pending) now) ++ notices_from (n + 1) now history) p.now
      ∙ ap (λ rest. option_to_list (noticed n entry (is_some s.pending) (is_some after.pending)) ++ rest) (same_told (n + 1) after history legal.1)
