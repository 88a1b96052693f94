-- What is known of renewals stays so, whatever happens at devices.
use Rattle.std.proofs.Common.{◌≡◌, ◌∙◌, ℕ, Bool, true, false, List, [], ◌∷◌, ◌++◌, Some, refl, ap}
use Rattle.nm_base.specs.Token.{token_of}
use Rattle.nm_history.specs.declared.event.DeviceEvent.{DeviceEvent}
use Rattle.nm_history.specs.declared.event.Noted.{Noted}
use Rattle.nm_history.specs.declared.outcome.Outcome.{Outcome}
use Rattle.nm_history.specs.declared.outcome.Outcome.TheVariants.{Never, Pending, Confirmed, Undone}
use Rattle.nm_history.specs.Effect.{Effect, noted_effect}
use Rattle.nm_history.specs.Effect.Effect.{Begins, Ends, Undoes, Neither}
use Rattle.nm_history.specs.Outcome.{Standing, is_final, outcome_of, standing_after}
use Rattle.nm_history.specs.History.{Happened, RecordedState, noted, recorded_with}
use Rattle.nm_device_laws.specs.Telling.{standing_of}
use Rattle.nm_device_laws.proofs.Readings.{standing_push}
use Rattle.nm_wire.specs.Link.{LinkState}
use Rattle.nm_safety.specs.Pair.{is_never}
use Rattle.nm_outcome_laws.specs.LapsesSupport.{RenewsOn}
use Rattle.nm_outcome_laws.specs.RecordsSupport.{outcome_in}
use Rattle.nm_outcome_laws.proofs.records.Later.{Lasts, outcome_lasts}
use Rattle.nm_outcome_laws.proofs.lapses.Links.{renews_later}

-- ---- what was committed was so from then on

abbrev Goes : Outcome → Outcome → Type 0
Goes before now = is_never before ≡ false → is_never now ≡ false

begun_next : (token : List ℕ) (outcome : Outcome) (other : Bool) (effect : Effect) → Goes outcome (standing_after token outcome other effect).outcome
begun_next token Never other effect b = absurd (let g : true ≡ false = b in cc)
begun_next token Pending other Ends b = refl
begun_next token Pending other (Undoes by) b = refl
begun_next token Pending other (Begins persist) b = refl
begun_next token Pending other Neither b = refl
begun_next token Confirmed other effect b = refl
begun_next token (Undone by) other effect b = refl

committed_next : (token : List ℕ) (history : List Noted) (one : Noted) → Goes (outcome_of token history) (outcome_of token (history ++ one ∷ []))
committed_next token history one b =
    ap (λ (s : Standing). is_never s.outcome) (standing_push token history one (noted_effect one) refl)
    ∙ begun_next token (standing_of token history).outcome (standing_of token history).other (noted_effect one) b

over_later : (before now : Outcome) → Lasts before now → is_final before ≡ true → is_final now ≡ true
over_later before now later over = ap is_final (later over) ∙ over

-- ---- whatever happens at a device

pub link_later : {Config Node : Type 0} (change : ℕ) (r : RecordedState Config Node) (event : DeviceEvent) (h : Happened Config Node) (link : LinkState)
    → RenewsOn (outcome_in change (Some r)) link → RenewsOn (outcome_in change (Some (recorded_with r event h))) link
link_later change r event h link p =
    let before : Outcome = outcome_of (token_of change) r.history in
    let now : Outcome = outcome_of (token_of change) (recorded_with r event h).history in
    renews_later (Some before) (Some now) (committed_next (token_of change) r.history (noted event h))
    (over_later before now (outcome_lasts (token_of change) r.history (noted event h))) link p
