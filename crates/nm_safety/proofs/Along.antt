-- What is so along a history, as that grows.
use Rattle.std.proofs.Common.{ℕ, ◌≡◌, ◌∙◌, List, [], ◌∷◌, ◌++◌, Some, IfSome, map, slice_get, refl, sym, ap, subst}
use Rattle.nm_proto.specs.Content.{Meaning, TablesState}
use Rattle.nm_device.specs.Device.{DeviceState, fresh_device}
use Rattle.nm_history.specs.declared.event.DeviceEvent.{DeviceEvent}
use Rattle.nm_history.specs.declared.event.Noted.{Noted}
use Rattle.nm_history.specs.History.{Happened, RecordedState, after_or, noted, recorded, recorded_with, replay, replayed}
use Rattle.nm_device_laws.specs.Moment.{Happens}
use Rattle.nm_safety.specs.Along.{Along, HistoryAt, IsAlong, carried}
use Rattle.nm_safety.proofs.Lists.{some_is, to_some}
use Rattle.nm_safety.proofs.Sound.{first_at}

module _ {A : Type 0} (next : A → Noted → A) where
  pub carried_push : (so_far : A) (history : List Noted) (entry : Noted) → carried next so_far (history ++ entry ∷ []) ≡ next (carried next so_far history) entry
  carried_push so_far [] entry = refl
  carried_push so_far (first ∷ history) entry = carried_push (next so_far first) history entry

  module _ (P : A → Noted → Type 0) where
    pub along_push : (so_far : A) (history : List Noted) (entry : Noted) → Along next P so_far history → P (carried next so_far history) entry
        → Along next P so_far (history ++ entry ∷ [])
    along_push so_far [] entry along new = (new, tt)
    along_push so_far (first ∷ history) entry along new = (along.0, along_push (next so_far first) history entry along.1 new)

    pub along_last : (so_far : A) (history : List Noted) (entry : Noted) → Along next P so_far (history ++ entry ∷ []) → P (carried next so_far history) entry
    along_last so_far [] entry along = along.0
    along_last so_far (first ∷ history) entry along = along_last (next so_far first) history entry along.1

  pub along_map : (P Q : A → Noted → Type 0) → ((so_far : A) (entry : Noted) → P so_far entry → Q so_far entry) → (so_far : A) (history : List Noted)
      → Along next P so_far history → Along next Q so_far history
  along_map P Q step so_far [] along = tt
  along_map P Q step so_far (first ∷ history) along = (step so_far first along.0, along_map P Q step (next so_far first) history along.1)

module _ {Config TheEdit Node : Type 0} (m : Meaning Config TheEdit Node) (tables : TablesState TheEdit) where
  -- a history is replayed so
  pub carried_replay : (s : DeviceState Config Node) (history : List Noted) → carried (replayed m tables) s history ≡ replay m tables s history
  carried_replay s [] = refl
  carried_replay s (entry ∷ history) = carried_replay (replayed m tables s entry) history

  -- what is noted where something happens is replayed as what it does
  pub replays : (s : DeviceState Config Node) (event : DeviceEvent) (h : Happened Config Node) → Happens m tables s event h → replayed m tables s (noted event h) ≡ h.after
  replays s event h happens = ap (after_or s) happens

  module _ (P : DeviceState Config Node → Noted → Type 0) (first : DeviceState Config Node) where
    pub happens_along : (r : RecordedState Config Node) (event : DeviceEvent) (h : Happened Config Node) → Happens m tables r.device event h
        → P r.device (noted event h) → IsAlong m tables P first r → IsAlong m tables P first (recorded_with r event h)
    happens_along r event h happens new k =
        let last : carried (replayed m tables) first r.history ≡ r.device = carried_replay first r.history ∙ k.reaches in
        record {
          reaches = sym (carried_replay first (r.history ++ noted event h ∷ [])) ∙ carried_push (replayed m tables) first r.history (noted event h)
              ∙ ap (λ s. replayed m tables s (noted event h)) last ∙ replays r.device event h happens;
          along = along_push (replayed m tables) P first r.history (noted event h) k.along (subst (λ s. P s (noted event h)) (sym last) new);
        }

    -- of the last entry
    pub last_along : (before : RecordedState Config Node) (entry : Noted) (after : RecordedState Config Node) → replay m tables first before.history ≡ before.device
        → after.history ≡ before.history ++ entry ∷ [] → Along (replayed m tables) P first after.history → P before.device entry
    last_along before entry after reaches grows along =
        subst (λ s. P s entry) (carried_replay first before.history ∙ reaches)
        (along_last (replayed m tables) P first before.history entry (subst (Along (replayed m tables) P first) grows along))

  -- ---- at the places of devices

  module _ (P : DeviceState Config Node → Noted → Type 0) (running : List Config) (place : ℕ) where
    pub history_push : (r : RecordedState Config Node) (event : DeviceEvent) (h : Happened Config Node) → Happens m tables r.device event h → P r.device (noted event h)
        → HistoryAt m tables P running place r → HistoryAt m tables P running place (recorded_with r event h)
    history_push r event h happens new k =
        to_some (λ first. IsAlong m tables P (fresh_device first) (recorded_with r event h)) (slice_get running place)
        (λ first begins.
        happens_along P (fresh_device first) r event h happens new
        (some_is first (λ one. IsAlong m tables P (fresh_device one) r) (slice_get running place) begins k))

    history_begins : (first : Config) → slice_get running place ≡ Some first → HistoryAt m tables P running place (recorded first)
    history_begins first begins =
        subst (λ o. IfSome o (λ one. IsAlong m tables P (fresh_device one) (recorded first))) (sym begins) (record { reaches = refl; along = tt })

  -- at the beginning
  pub history_none : (P : DeviceState Config Node → Noted → Type 0) (running : List Config) (place : ℕ)
      → IfSome (slice_get (map recorded running) place) (HistoryAt m tables P running place)
  history_none P running place = first_at (HistoryAt m tables P running) running (λ at first begins. history_begins P running at first begins) place
