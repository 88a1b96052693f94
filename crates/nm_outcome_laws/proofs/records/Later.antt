-- What is known of devices stays known, whatever happens at them.
use Rattle.std.proofs.Common.{◌≡◌, ◌∙◌, ℕ, Bool, true, false, List, [], ◌∷◌, ◌++◌, Option, Some, None, IfSome, slice_get, slice_set, refl, sym, ap, subst, arith}
use Rattle.std.proofs.lemmas.Bool.Decides.{nat_tests}
use Rattle.nm_base.specs.Token.{token_of}
use Rattle.nm_proto.specs.declared.ask.Ask.{Ask}
use Rattle.nm_proto.specs.declared.message.Reply.{Reply}
use Rattle.nm_proto.specs.declared.journal.Verdict.{Verdict}
use Rattle.nm_history.specs.declared.event.DeviceEvent.{DeviceEvent}
use Rattle.nm_history.specs.declared.event.Noted.{Noted}
use Rattle.nm_history.specs.declared.outcome.Outcome.{Outcome}
use Rattle.nm_history.specs.declared.outcome.Outcome.TheVariants.{Never, Pending, Confirmed, Undone}
use Rattle.nm_history.specs.Effect.{Effect, noted_effect}
use Rattle.nm_history.specs.Outcome.{Standing, is_final, outcome_of, standing_after}
use Rattle.nm_history.specs.History.{Happened, RecordedState, noted, recorded_with}
use Rattle.nm_device_laws.specs.Telling.{standing_of}
use Rattle.nm_device_laws.proofs.Readings.{standing_push}
use Rattle.nm_decider.specs.declared.seat.Seat.{Seat}
use Rattle.nm_wire.specs.declared.link.Exchange.{Exchange}
use Rattle.nm_wire.specs.Asks.{ask_of}
use Rattle.nm_manager.specs.Slot.{SideState, SlotState}
use Rattle.nm_safety.specs.Step.{current_told}
use Rattle.nm_safety.specs.Pairs.{PairAt}
use Rattle.nm_safety.proofs.Managed.{others_stay}
use Rattle.nm_outcome_laws.specs.RecordsSupport.{AllKnown, IsKnown, IsRecorded, IsTold, KnownPair, is_known_as, outcome_in, outcomes_at, reply_tells, wants_mark}
use Rattle.nm_outcome_laws.proofs.records.Tables.{known_final}

-- what is final stays so
abbrev pub Lasts : Outcome → Outcome → Type 0
Lasts before now = is_final before ≡ true → now ≡ before

abbrev pub IsLater : Option Outcome → Option Outcome → Type 0
IsLater before None = Unit {0}
IsLater None (Some now) = ⊥
IsLater (Some before) (Some now) = Lasts before now

-- ---- what is told

tells_final : (wants : Bool) (what : Ask) (reply : Reply) (before now : Outcome) → reply_tells wants what reply before ≡ true
    → (is_final before ≡ true) → now ≡ before → reply_tells wants what reply now ≡ true
tells_final wants what reply before now t f same = subst (λ o. reply_tells wants what reply o ≡ true) (sym same) t

tells_open : (wants : Bool) (what : Ask) (reply : Reply) (before now : Outcome) → reply_tells wants what reply before ≡ true
    → is_final before ≡ false → reply_tells wants what reply now ≡ true
tells_open wants what reply before now t f = grind (arith, nat_tests)

reply_later : (wants : Bool) (what : Ask) (reply : Reply) (before now : Outcome) → Lasts before now → reply_tells wants what reply before ≡ true
    → reply_tells wants what reply now ≡ true
reply_later wants what reply before now lasts t = by_final (is_final before) refl
  where
    by_final : (b : Bool) → is_final before ≡ b → reply_tells wants what reply now ≡ true
    by_final true f = tells_final wants what reply before now t f (lasts f)
    by_final false f = tells_open wants what reply before now t f

if_later : (P Q : Exchange → Type 0) → ((one : Exchange) → P one → Q one) → (told : Option Exchange) → IfSome told P → IfSome told Q
if_later P Q step None h = tt
if_later P Q step (Some one) h = step one h

told_later : (seat : Seat) (side : SideState) (before now : Outcome) → Lasts before now → IsTold seat side before → IsTold seat side now
told_later seat side before now lasts t = record {
  acked = t.acked;
  known = λ kept knows.
      subst (λ o. is_known_as kept o ≡ true) (sym (lasts (known_final kept before (t.known kept knows)))) (t.known kept knows);
  gone = λ wants. subst (λ o. is_final o ≡ true) (sym (lasts (t.gone wants))) (t.gone wants);
  told =
      if_later (λ one. reply_tells (wants_mark seat.stage side.resync.stage) (ask_of one.request) one.reply before ≡ true)
      (λ one. reply_tells (wants_mark seat.stage side.resync.stage) (ask_of one.request) one.reply now ≡ true)
      (λ one h. reply_later (wants_mark seat.stage side.resync.stage) (ask_of one.request) one.reply before now lasts h)
      (current_told side.wire) t.told;
}

known_later : (decided : Option Verdict) (seat : Seat) (side : SideState) (before now : Option Outcome) → IsLater before now
    → IsKnown decided seat side before → IsKnown decided seat side now
known_later decided seat side before None later k = tt
known_later decided seat side None (Some now) later k = absurd later
known_later decided seat side (Some before) (Some now) later k = λ c member. told_later seat side before now later (k c member)

module _ (before now : ℕ → Option Outcome) (later : (place : ℕ) → IsLater (before place) (now place)) where
  pair_later : (place : ℕ) (decided : Option Verdict) (seat : Option Seat) (side : Option SideState)
      → PairAt (KnownPair before) place decided seat side → PairAt (KnownPair now) place decided seat side
  pair_later place decided None side k = tt
  pair_later place decided (Some seat) None k = tt
  pair_later place decided (Some seat) (Some side) k = known_later decided seat side (before place) (now place) (later place) k

  pub all_later : (slot : SlotState) → AllKnown before slot → AllKnown now slot
  all_later slot all place =
      pair_later place slot.course.verdict (slice_get slot.course.seats place) (slice_get slot.sides place) (all place)

-- ---- histories grow

final_next : (token : List ℕ) (outcome : Outcome) (other : Bool) (effect : Effect) → is_final outcome ≡ true
    → (standing_after token outcome other effect).outcome ≡ outcome
final_next token Never other effect f = absurd (let g : false ≡ true = f in cc)
final_next token Pending other effect f = absurd (let g : false ≡ true = f in cc)
final_next token Confirmed other effect f = refl
final_next token (Undone by) other effect f = refl

pub outcome_lasts : (token : List ℕ) (history : List Noted) (one : Noted) → Lasts (outcome_of token history) (outcome_of token (history ++ one ∷ []))
outcome_lasts token history one f =
    ap (λ (s : Standing). s.outcome) (standing_push token history one (noted_effect one) refl)
    ∙ final_next token (standing_of token history).outcome (standing_of token history).other (noted_effect one) f

same_later : (outcome : Option Outcome) → IsLater outcome outcome
same_later None = tt
same_later (Some one) = λ f. refl

-- whatever happens at a device
module _ {Config Node : Type 0} (change : ℕ) (devices : List (RecordedState Config Node)) (d : ℕ) (r : RecordedState Config Node)
    (here : slice_get devices d ≡ Some r) (event : DeviceEvent) (h : Happened Config Node) where
  abbrev after : RecordedState Config Node
  after = recorded_with r event h

  pub outcomes_later : (place : ℕ) → IsLater (outcomes_at change devices place) (outcomes_at change (slice_set devices d after) place)
  outcomes_later =
      others_stay (λ j o. IsLater (outcomes_at change devices j) (outcome_in change o)) devices d r after here
      (subst (λ o. IsLater (outcome_in change o) (outcome_in change (Some after))) (sym here)
      (outcome_lasts (token_of change) r.history (noted event h)))
      (λ j ne. same_later (outcomes_at change devices j))

  pub recorded_later : (slot : SlotState) → IsRecorded change devices slot → IsRecorded change (slice_set devices d after) slot
  recorded_later slot c = record {
    own = c.own;
    known = all_later (outcomes_at change devices) (outcomes_at change (slice_set devices d after)) outcomes_later slot c.known;
  }
