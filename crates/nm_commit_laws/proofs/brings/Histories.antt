-- Histories that bring change sets by their own edits, as they and the journal grow.
use Rattle.std.proofs.Common.{◌≡◌, ◌∙◌, ℕ, suc, Bool, true, false, List, [], ◌∷◌, ◌++◌, slice_get, refl, sym, arith}
use Rattle.nm_base.specs.Token.{token_of}
use Rattle.nm_proto.specs.declared.journal.Entry.{Entry}
use Rattle.nm_proto.specs.Content.{Meaning}
use Rattle.nm_device.specs.Device.{DeviceState, fresh_device}
use Rattle.nm_history.specs.declared.event.DeviceEvent.{DeviceEvent}
use Rattle.nm_history.specs.declared.event.Noted.{Noted}
use Rattle.nm_history.specs.History.{Happened, RecordedState, noted, recorded_with, replayed}
use Rattle.nm_device_laws.specs.Moment.{Happens}
use Rattle.nm_device_laws.specs.Token.{commits_done, is_commit_done, leaves_token}
use Rattle.nm_device_laws.proofs.Readings.{count_push}
use Rattle.nm_device_laws.proofs.Tokens.{token_kept}
use Rattle.nm_world.specs.World.{Setting}
use Rattle.nm_safety.specs.Along.{IsAlong}
use Rattle.nm_safety.proofs.Along.{along_map, history_push}
use Rattle.nm_safety.proofs.Lists.{some_is, to_some}
use Rattle.nm_commit_laws.specs.Brings.{BringsOwn}
use Rattle.nm_commit_laws.specs.BringsSupport.{OfHistory}
use Rattle.nm_commit_laws.proofs.brings.Links.{brings_later}

-- ---- a token is left alone

module _ {Config TheEdit Node : Type 0} (m : Meaning Config TheEdit Node) (setting : Setting TheEdit) (r : RecordedState Config Node)
    (event : DeviceEvent) (h : Happened Config Node) (happens : Happens m setting.tables r.device event h) where
  -- no commit of the token is done then
  pub left_undone : (token : List ℕ) → leaves_token token r.device event ≡ true → is_commit_done token (noted event h) ≡ false
  left_undone token leaves = by_done (is_commit_done token (noted event h)) refl
    where
      same : commits_done token ([] ++ noted event h ∷ []) ≡ commits_done token []
      same = (token_kept m setting.tables token r.device event h happens leaves).count []

      by_done : (b : Bool) → is_commit_done token (noted event h) ≡ b → b ≡ false
      by_done false e = refl
      by_done true e = absurd (let g : 1 ≡ 0 = sym (count_push token [] (noted event h) true e) ∙ same in omega (arith, g))

  -- nothing is brought
  pub nothing_brought : (running : List Config) (entries : List Entry) (place : ℕ)
      → ((change : ℕ) → leaves_token (token_of change) r.device event ≡ true) → OfHistory m setting running entries place r
      → OfHistory m setting running entries place (recorded_with r event h)
  nothing_brought running entries place leaves k =
      history_push m setting.tables (BringsOwn m setting entries (suc place)) running place r event h happens
      (λ change small done.
      absurd (let g : false ≡ true = sym (left_undone (token_of change) (leaves change)) ∙ done in cc)) k

-- ---- the journal grows

module _ {Config TheEdit Node : Type 0} (m : Meaning Config TheEdit Node) (setting : Setting TheEdit) (entries : List Entry) (entry : Entry) where
  abbrev Before : ℕ → DeviceState Config Node → Noted → Type 0
  Before device = BringsOwn m setting entries device

  abbrev After : ℕ → DeviceState Config Node → Noted → Type 0
  After device = BringsOwn m setting (entries ++ entry ∷ []) device

  entry_later : (device : ℕ) (s : DeviceState Config Node) (one : Noted) → Before device s one → After device s one
  entry_later device s one brings change small done =
      brings_later m setting entries entry change device s.stores.running (replayed m setting.tables s one).stores.running
      (brings change small done)

  along_later : (device : ℕ) (first : DeviceState Config Node) (r : RecordedState Config Node)
      → IsAlong m setting.tables (Before device) first r → IsAlong m setting.tables (After device) first r
  along_later device first r k = record {
    reaches = k.reaches;
    along = along_map (replayed m setting.tables) (Before device) (After device) (entry_later device) first r.history k.along;
  }

  pub history_later : (running : List Config) (place : ℕ) (r : RecordedState Config Node) → OfHistory m setting running entries place r
      → OfHistory m setting running (entries ++ entry ∷ []) place r
  history_later running place r k =
      to_some (λ first. IsAlong m setting.tables (After (suc place)) (fresh_device first) r) (slice_get running place)
      (λ first begins.
      along_later (suc place) (fresh_device first) r
      (some_is first (λ one. IsAlong m setting.tables (Before (suc place)) (fresh_device one) r) (slice_get running place) begins k))
