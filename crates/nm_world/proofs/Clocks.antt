-- What time makes of a clock.
use Rattle.std.proofs.Common.{◌≡◌, ◌≤◌, ◌<◌, ◌+◌, ◌-◌, ◌*◌, ◌^◌, ℕ, List, length, map, set, get_or, Option, Some, None, refl, ap, sym, subst, ◌∙◌, arith}
use Rattle.std.proofs.lemmas.List.Elements.{All-set, All-map}
use Rattle.std.proofs.lemmas.Bool.{cond_both}
use Rattle.nm_proto.specs.Content.{Meaning}
use Rattle.nm_pending.specs.Pending.{PendingState, ends_at}
use Rattle.nm_device.specs.Device.{DeviceState, IsInTime}
use Rattle.nm_device.specs.Undoing.{undone_by, undone, later, advanced}
use Rattle.nm_history.specs.declared.event.DeviceEvent.TheVariants as device_event
use Rattle.nm_history.specs.History.{RecordedState, recorded, recorded_with, advancing}
use Rattle.nm_world.specs.World.{AreInTime}
use Rattle.nm_world.specs.Runs.{HasTime, KeepsTime}

module _ {Config TheEdit Node : Type 0} (m : Meaning Config TheEdit Node) where
  undone_clock : (s : DeviceState Config Node) (pending : Option (PendingState Config)) → (undone_by m s pending).clock ≡ s.clock
  undone_clock s None = refl
  undone_clock s (Some p) = refl

  -- an undoing leaves the clock
  advanced_clock : (s : DeviceState Config Node) (seconds : ℕ) → (advanced m s seconds).clock ≡ s.clock + seconds
  advanced_clock s seconds = cond_both (ends_at s.pending (s.clock + seconds)) (undone m (later s seconds)) (later s seconds)
      (λ (d : DeviceState Config Node). d.clock ≡ s.clock + seconds) (λ _. undone_clock (later s seconds) s.pending) (λ _. refl)

  pub later_within : (r new : RecordedState Config Node) (seconds : ℕ) → new ≡ recorded_with r (device_event.Advanced seconds) (advancing m r.device seconds)
      → new.device.clock ≤ r.device.clock + seconds
  later_within r new seconds is =
      let e : new.device.clock ≡ r.device.clock + seconds = ap (λ (n : RecordedState Config Node). n.device.clock) is ∙ advanced_clock r.device seconds in
      omega (arith, e)

in_time_of : (later sooner : ℕ) → sooner ≤ later → IsInTime later → IsInTime sooner
unfolding IsInTime
in_time_of later sooner le h = omega (arith, le, h)

time_enough : (seconds : ℕ) → seconds ≤ 2 ^ 62 → IsInTime (seconds + 0)
unfolding IsInTime
time_enough seconds le = omega (arith, le)

module _ {Config Node : Type 0} where
  pub less_time : (more less : ℕ) (devices : List (RecordedState Config Node)) → less ≤ more → HasTime more devices → HasTime less devices
  less_time more less devices le has = λ k d within.
      let clock = (get_or devices k d).device.clock in
      in_time_of (more + clock) (less + clock) (omega (arith, le)) (has k d within)

  pub time_now : (more : ℕ) (devices : List (RecordedState Config Node)) → HasTime more devices → AreInTime devices
  time_now more devices has = λ k d within.
      let clock = (get_or devices k d).device.clock in
      in_time_of (more + clock) clock (omega arith) (has k d within)

  -- nothing happens to the devices
  pub time_stays : (devices : List (RecordedState Config Node)) → KeepsTime 0 devices devices
  time_stays devices = record { goes = λ more has. less_time (more + 0) more devices (omega arith) has }

  pub time_same : (old new : List (RecordedState Config Node)) → new ≡ old → KeepsTime 0 old new
  time_same old new is = subst (KeepsTime 0 old) (sym is) (time_stays old)

  -- one of them has passed so many seconds at most
  pub time_at : (seconds : ℕ) (devices : List (RecordedState Config Node)) (i : ℕ) (old new : RecordedState Config Node) → i < length devices → old ≡ get_or devices i old
      → new.device.clock ≤ old.device.clock + seconds → KeepsTime seconds devices (set devices i new)
  time_at seconds devices i old new within is le = record {
    goes = λ more has.
        All-set (λ (r : RecordedState Config Node). IsInTime (more + r.device.clock)) devices i new
        (in_time_of (more + seconds + old.device.clock) (more + new.device.clock) (omega (arith, le))
        (subst (λ (r : RecordedState Config Node). IsInTime (more + seconds + r.device.clock)) (sym is) (has i old within)))
        (less_time (more + seconds) more devices (omega arith) has);
  }

  -- and none of them has passed any
  pub time_kept : (devices : List (RecordedState Config Node)) (i : ℕ) (old new : RecordedState Config Node) → i < length devices → old ≡ get_or devices i old
      → new.device.clock ≡ old.device.clock → KeepsTime 0 devices (set devices i new)
  time_kept devices i old new within is same = time_at 0 devices i old new within is (omega (arith, same))

  -- a fresh device's clock stands at 0
  pub fresh_time : (seconds : ℕ) (running : List Config) → seconds ≤ 2 ^ 62 → HasTime {Config = Config} {Node = Node} seconds (map recorded running)
  fresh_time seconds running le = All-map (λ (r : RecordedState Config Node). IsInTime (seconds + r.device.clock)) recorded running (λ k d within. time_enough seconds le)

  -- one call after another
  pub time_then : (first second : ℕ) (old mid new : List (RecordedState Config Node)) → KeepsTime first old mid → KeepsTime second mid new → KeepsTime (first + second) old new
  time_then first second old mid new one other = record {
    goes = λ more has. other.goes more (one.goes (more + second) (less_time (more + (first + second)) (more + second + first) old (omega arith) has));
  }

  pub time_still : (old mid new : List (RecordedState Config Node)) → KeepsTime 0 old mid → KeepsTime 0 mid new → KeepsTime 0 old new
  time_still old mid new one other = record {
    goes = λ more has. other.goes more (one.goes (more + 0) (less_time (more + 0) (more + 0 + 0) old (omega arith) has));
  }

  -- what takes no time keeps each clock far from the end of its range
  pub still_in_time : (old new : List (RecordedState Config Node)) → KeepsTime 0 old new → AreInTime old → AreInTime new
  still_in_time old new keeps timed = time_now 0 new (keeps.goes 0 (λ k d within.
      let clock = (get_or old k d).device.clock in
      in_time_of clock (0 + 0 + clock) (omega arith) (timed k d within)))

  -- a longer time is enough too
  pub time_more : (seconds most : ℕ) (old new : List (RecordedState Config Node)) → seconds ≤ most → KeepsTime seconds old new → KeepsTime most old new
  time_more seconds most old new le keeps = record { goes = λ more has. keeps.goes more (less_time (more + most) (more + seconds) old (omega (arith, le)) has) }

  -- as the events of a run pass, each of which takes less than 2^32 seconds
  pub time_first : (devices : List (RecordedState Config Node)) → KeepsTime (2 ^ 32 * 0) devices devices
  time_first devices = time_more 0 (2 ^ 32 * 0) devices devices (omega arith) (time_stays devices)

  pub time_next : (i : ℕ) (old mid new : List (RecordedState Config Node)) → KeepsTime (2 ^ 32 * i) old mid → KeepsTime (2 ^ 32) mid new → KeepsTime (2 ^ 32 * (i + 1)) old new
  time_next i old mid new one other = time_more (2 ^ 32 * i + 2 ^ 32) (2 ^ 32 * (i + 1)) old new (omega arith) (time_then (2 ^ 32 * i) (2 ^ 32) old mid new one other)

  pub time_left : (n i : ℕ) (old now : List (RecordedState Config Node)) → i ≤ n → KeepsTime (2 ^ 32 * i) old now → HasTime (2 ^ 32 * n) old → HasTime (2 ^ 32 * (n - i)) now
  time_left n i old now le keeps has =
      let left = n - i in
      let e : n ≡ left + i = omega (arith, le) in
      keeps.goes (2 ^ 32 * left) (less_time (2 ^ 32 * n) (2 ^ 32 * left + 2 ^ 32 * i) old (omega (arith, e)) has)

  pub time_all : (n i : ℕ) (old now : List (RecordedState Config Node)) → i ≤ n → KeepsTime (2 ^ 32 * i) old now → KeepsTime (2 ^ 32 * n) old now
  time_all n i old now le keeps = time_more (2 ^ 32 * i) (2 ^ 32 * n) old now (omega (arith, le)) keeps
