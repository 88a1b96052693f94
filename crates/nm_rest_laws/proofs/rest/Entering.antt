-- What a change set decides comes into the journal, and so does its end.
use Rattle.std.proofs.Common.{◌≡◌, ◌∙◌, ℕ, zero, suc, ◌+◌, ◌-◌, ◌*◌, ◌%◌, ◌^◌, ◌≤◌, ◌<◌, ◌==◌, min, nat_eq, Bool, true, false, not, ◌&&◌, ◌||◌, cond, List, [], ◌∷◌, ◌++◌, length, find, Option, Some, None, IfSome, is_some, option_and_then, slice_get, bit_and, bit_or, refl, sym, ap, subst, arith}
use Rattle.std.specs.Int.{w32, bit_at}
use Rattle.std.specs.List.{list_any}
use Rattle.std.proofs.lemmas.Bool.Decides.{nat_tests}
use Rattle.std.proofs.lemmas.Nat.Bits.{bit_at-zero, bit_at-lt, bit_at_and, same_from_bits}
use Rattle.std.proofs.lemmas.List.Folds.{list_any-append}
use Rattle.nm_base.specs.declared.mask.DeviceMask.{DeviceMask}
use Rattle.nm_base.specs.Mask.{mask_contains}
use Rattle.nm_base.proofs.Masks.{with_is}
use Rattle.nm_proto.specs.declared.journal.Verdict.{Verdict}
use Rattle.nm_proto.specs.declared.journal.Verdict.TheVariants as verdict
use Rattle.nm_proto.specs.declared.journal.Entry.{Entry}
use Rattle.nm_proto.specs.declared.journal.Entry.TheVariants.{Started, Decided, Ended}
use Rattle.nm_proto.specs.declared.plan.ChangePlan.{ChangePlan}
use Rattle.nm_proto.specs.Plan.{devices_in as planned_in}
use Rattle.nm_journal.specs.Entries.{starts, decides, aborts, is_within, starts_over, may_follow}
use Rattle.nm_journal.specs.Record.{is_change}
use Rattle.nm_recovery.specs.Recovery.{devices_of, verdict_of, devices_in, is_started, is_ended_in, verdict_in}
use Rattle.nm_decider_stage.specs.Stages.{has_kept}
use Rattle.nm_decider.specs.declared.seat.Seat.{Seat}
use Rattle.nm_decider.specs.Course.{kept_from}
use Rattle.nm_manager.specs.Queues.{tickets_in}
use Rattle.nm_safety.specs.Safe.{is_abort}
use Rattle.nm_safety.proofs.Entries.{nat_same, is_decided, decided_started}
use Rattle.nm_safety.proofs.Places.{verdict_same, verdict_new}
use Rattle.nm_world.proofs.Growing.{Enters}
use Rattle.nm_safety.proofs.Basics.{either}
use Rattle.nm_safety.proofs.Tickets.{IsPlanTicket}

-- ---- a change set that was submitted is in the journal with its devices

-- the devices that a change set is of
abbrev pub mask_of : ChangePlan → DeviceMask
mask_of plan = record { 0 = planned_in plan.edits }

module _ (plans : List ChangePlan) (change : ℕ) (plan : ChangePlan) (planned : slice_get plans (change - 1) ≡ Some plan) where
  abbrev AllPlanned : List Entry → Type 0
  AllPlanned entries = (i : ℕ) → IfSome (slice_get (tickets_in entries) i) (IsPlanTicket plans)

  ticket_devices : (devices : DeviceMask) (found : Option ChangePlan) → found ≡ Some plan → IfSome found (λ one. devices.0 ≡ planned_in one.edits) → devices.0 ≡ planned_in plan.edits
  ticket_devices devices None e h = absurd (let f : None ≡ Some plan = e in cc)
  ticket_devices devices (Some one) e h = let same : one ≡ plan = cc in h ∙ ap (λ (p : ChangePlan). planned_in p.edits) same

  same_mask : (devices mask : DeviceMask) → devices.0 ≡ mask.0 → devices ≡ mask
  same_mask devices mask e = ap (λ n. let m : DeviceMask = record { 0 = n } in m) e

  first_devices : (other : ℕ) (devices : DeviceMask) (timeout : Option ℕ) (rest : List Entry) (b : Bool) → nat_eq change other ≡ b → IfSome (slice_get plans (other - 1)) (λ one. devices.0 ≡ planned_in one.edits)
      → (b ≡ false → option_and_then devices_of (find (starts change) rest) ≡ Some (mask_of plan)) → option_and_then devices_of (cond b (Some (Started other devices timeout)) (find (starts change) rest)) ≡ Some (mask_of plan)
  first_devices other devices timeout rest true e h later =
      let same : change ≡ other = nat_same change other e in
      ap Some (same_mask devices (mask_of plan) (ticket_devices devices (slice_get plans (other - 1)) (ap (λ c. slice_get plans (c - 1)) (sym same) ∙ planned) h))
  first_devices other devices timeout rest false e h later = later refl

  pub devices_there : (entries : List Entry) → AllPlanned entries → is_started change entries ≡ true → devices_in change entries ≡ Some (mask_of plan)
  devices_there [] all s = absurd (let f : false ≡ true = s in cc)
  devices_there (Started other devices timeout ∷ entries) all s =
      first_devices other devices timeout entries (nat_eq change other) refl (all 0) (λ e. devices_there entries (λ i. all (suc i)) (not_first (nat_eq change other) (is_started change entries) e s))
    where
      not_first : (a b : Bool) → a ≡ false → (a || b) ≡ true → b ≡ true
      not_first true b e h = absurd (let f : true ≡ false = e in cc)
      not_first false b e h = h
  devices_there (Decided other v ∷ entries) all s = devices_there entries all s
  devices_there (Ended other kept ∷ entries) all s = devices_there entries all s

-- ---- it is decided once

-- the journal has an abort only where the verdict is one
abbrev pub AreDecidedOnce : List Entry → Type 0
AreDecidedOnce entries = (change : ℕ) → list_any (aborts change) entries ≡ true → is_abort (verdict_in change entries) ≡ true

-- a verdict is among the entries
verdict_there : (change : ℕ) (entries : List Entry) → is_some (verdict_in change entries) ≡ true → list_any (decides change) entries ≡ true
verdict_there change [] h = absurd (let f : false ≡ true = h in cc)
verdict_there change (entry ∷ entries) h = by_first (decides change entry) h (verdict_there change entries)
  where
    by_first : (b : Bool) → is_some (option_and_then verdict_of (cond b (Some entry) (find (decides change) entries))) ≡ true → (is_some (verdict_in change entries) ≡ true → list_any (decides change) entries ≡ true)
        → (b || list_any (decides change) entries) ≡ true
    by_first true h later = refl
    by_first false h later = later h

pub undecided_none : (change : ℕ) (entries : List Entry) → verdict_in change entries ≡ None → list_any (decides change) entries ≡ false
undecided_none change entries e = by_any (list_any (decides change) entries) refl
  where
    by_any : (b : Bool) → list_any (decides change) entries ≡ b → b ≡ false
    by_any false f = refl
    by_any true f = absurd (let g : false ≡ true = sym (ap is_some e) ∙ is_decided change entries f in cc)

plain_once : (change : ℕ) (entries : List Entry) (entry : Entry) → aborts change entry ≡ false → decides change entry ≡ false → AreDecidedOnce entries → list_any (aborts change) (entries ++ entry ∷ []) ≡ true
    → is_abort (verdict_in change (entries ++ entry ∷ [])) ≡ true
plain_once change entries entry a d once h =
    ap is_abort (verdict_same change entries entry d) ∙ once change (before (list_any (aborts change) entries) (aborts change entry) a (sym (list_any-append (aborts change) entries (entry ∷ [])) ∙ h))
  where
    before : (a b : Bool) → b ≡ false → (a || (b || false)) ≡ true → a ≡ true
    before true b e h = refl
    before false true e h = absurd (let f : true ≡ false = e in cc)
    before false false e h = h

decided_once : (change other : ℕ) (v : Verdict) (entries : List Entry) → may_follow entries (Decided other v) ≡ true → AreDecidedOnce entries → (b : Bool) → nat_eq change other ≡ b
    → list_any (aborts change) (entries ++ Decided other v ∷ []) ≡ true → is_abort (verdict_in change (entries ++ Decided other v ∷ [])) ≡ true
decided_once change other v entries may once false e h = plain_once change entries (Decided other v) (not_it v) e once h
  where
    not_it : (v : Verdict) → aborts change (Decided other v) ≡ false
    not_it verdict.Commit = refl
    not_it (verdict.Abort why) = e
decided_once change other v entries may once true e h =
    let same : change ≡ other = nat_same change other e in
    let first : list_any (decides change) entries ≡ false = subst (λ k. list_any (decides k) entries ≡ false) (sym same) (decided_started other v entries may).1 in
    let new : verdict_in change (entries ++ Decided other v ∷ []) ≡ Some v = subst (λ k. verdict_in change (entries ++ Decided k v ∷ []) ≡ Some v) same (verdict_new change entries v first) in
    ap is_abort new ∙ by_verdict v h
  where
    -- none was aborted before
    none_before : list_any (aborts change) entries ≡ true → ⊥
    none_before a =
        let same : change ≡ other = nat_same change other e in
        let first : list_any (decides change) entries ≡ false = subst (λ k. list_any (decides k) entries ≡ false) (sym same) (decided_started other v entries may).1 in
        absurd (let f : true ≡ false = sym (verdict_there change entries (some_abort (verdict_in change entries) (once change a))) ∙ first in cc)
      where
        some_abort : (o : Option Verdict) → is_abort o ≡ true → is_some o ≡ true
        some_abort None f = f
        some_abort (Some v) f = refl

    by_verdict : (w : Verdict) → list_any (aborts change) (entries ++ Decided other w ∷ []) ≡ true → is_abort (Some w) ≡ true
    by_verdict (verdict.Abort why) h = refl
    by_verdict verdict.Commit h = absurd (none_before (before (list_any (aborts change) entries) (sym (list_any-append (aborts change) entries (Decided other verdict.Commit ∷ [])) ∙ h)))
      where
        before : (a : Bool) → (a || false) ≡ true → a ≡ true
        before true f = refl
        before false f = f

entered_once : (entries : List Entry) (entry : Entry) → may_follow entries entry ≡ true → AreDecidedOnce entries → AreDecidedOnce (entries ++ entry ∷ [])
entered_once entries (Started other devices timeout) may once change h = plain_once change entries (Started other devices timeout) refl refl once h
entered_once entries (Decided other v) may once change h = decided_once change other v entries may once (nat_eq change other) refl h
entered_once entries (Ended other kept) may once change h = plain_once change entries (Ended other kept) refl refl once h

pub enters_once : (entries : List Entry) (entry : Option Entry) (after : List Entry) → Enters entries entry after → AreDecidedOnce entries → AreDecidedOnce after
enters_once entries None after is once = subst AreDecidedOnce (sym is) once
enters_once entries (Some entry) after is once = by_may (may_follow entries entry) refl is
  where
    by_may : (b : Bool) → may_follow entries entry ≡ b → after ≡ cond b (entries ++ entry ∷ []) entries → AreDecidedOnce after
    by_may true may is = subst AreDecidedOnce (sym is) (entered_once entries entry may once)
    by_may false may is = subst AreDecidedOnce (sym is) once

-- ---- who has kept it

-- none has
pub none_kept : (place : ℕ) (seats : List Seat) → ((k : ℕ) (seat : Seat) → slice_get seats k ≡ Some seat → (seat.is_member && has_kept seat.stage) ≡ false) → kept_from place seats ≡ 0
none_kept place [] none = refl
none_kept place (seat ∷ seats) none =
    ap (λ b. cond b (bit_or (kept_from (place + 1) seats) (1 * 2 ^ place % 2 ^ 32)) (kept_from (place + 1) seats)) (none 0 seat refl) ∙ none_kept (place + 1) seats (λ k. none (suc k))

no_mask : (d : ℕ) → mask_contains 0 d ≡ true → ⊥
unfolding mask_contains
no_mask d h = absurd (let f : false ≡ true = sym (ap (λ b. b == 1) (bit_at-zero (d - 1))) ∙ h in cc)

-- they are of these devices
kept_among : (devices place : ℕ) (seats : List Seat) → place + length seats ≤ 32 → ((k : ℕ) (seat : Seat) → slice_get seats k ≡ Some seat → (seat.is_member && has_kept seat.stage) ≡ true → mask_contains devices (place + k + 1) ≡ true)
    → (d : ℕ) → 0 < d → mask_contains (kept_from place seats) d ≡ true → mask_contains devices d ≡ true
kept_among devices place [] long each d pos h = absurd (no_mask d h)
kept_among devices place (seat ∷ seats) long each d pos h =
    by_first (seat.is_member && has_kept seat.stage) refl h
    (kept_among devices (place + 1) seats (omega (arith, long)) (λ k one there kept. let same : place + suc k + 1 ≡ place + 1 + k + 1 = omega arith in subst (λ n. mask_contains devices n ≡ true) same (each (suc k) one there kept)) d pos)
  where
    number : (a b : ℕ) → (a == b) ≡ true → a ≡ b
    number a b e = grind (arith, nat_tests)

    by_first : (b : Bool) → (seat.is_member && has_kept seat.stage) ≡ b → mask_contains (cond b (bit_or (kept_from (place + 1) seats) (1 * 2 ^ place % 2 ^ 32)) (kept_from (place + 1) seats)) d ≡ true
        → (mask_contains (kept_from (place + 1) seats) d ≡ true → mask_contains devices d ≡ true) → mask_contains devices d ≡ true
    by_first false e h later = later h
    by_first true e h later =
        let same : place + 0 + 1 ≡ place + 1 = omega arith in
        either (mask_contains (kept_from (place + 1) seats) d) (d == place + 1) (mask_contains devices d ≡ true) later
        (λ is. subst (λ n. mask_contains devices n ≡ true) (same ∙ sym (number d (place + 1) is)) (each 0 seat refl e))
        (sym (with_is w32 (kept_from (place + 1) seats) place (place + 1) (omega arith) (omega arith) (omega (arith, long)) d pos) ∙ h)

-- a mask whose bits are all in another is within it
mask_within : (kept devices : ℕ) → ((d : ℕ) → 0 < d → mask_contains kept d ≡ true → mask_contains devices d ≡ true) → is_within kept devices ≡ true
unfolding mask_contains is_within
mask_within kept devices each = same_number (bit_and kept devices) kept (same_from_bits (bit_and kept devices) kept (λ i. bit_at_and kept devices i ∙ one_bit i (bit_at-lt kept i) (bit_at-lt devices i) (each_bit i)))
  where
    same_number : (a b : ℕ) → a ≡ b → (a == b) ≡ true
    same_number a b e = grind (arith, nat_tests)

    each_bit : (i : ℕ) → bit_at kept i ≡ 1 → bit_at devices i ≡ 1
    each_bit i h = number (bit_at devices i) (subst (λ n. (bit_at devices n == 1) ≡ true) (place i) (each (suc i) (omega arith) (subst (λ n. (bit_at kept n == 1) ≡ true) (sym (place i)) (same_number (bit_at kept i) 1 h))))
      where
        place : (i : ℕ) → suc i - 1 ≡ i
        place i = omega arith

        number : (a : ℕ) → (a == 1) ≡ true → a ≡ 1
        number a e = grind (arith, nat_tests)

    one_bit : (i : ℕ) → bit_at kept i < 2 → bit_at devices i < 2 → (bit_at kept i ≡ 1 → bit_at devices i ≡ 1) → min (bit_at kept i) (bit_at devices i) ≡ bit_at kept i
    one_bit i a b h = by_number (bit_at kept i) (bit_at devices i) a b h
      where
        by_number : (x y : ℕ) → x < 2 → y < 2 → (x ≡ 1 → y ≡ 1) → min x y ≡ x
        by_number zero y a b h = omega arith
        by_number (suc zero) y a b h = ap (min 1) (h refl)
        by_number (suc (suc x)) y a b h = absurd (omega (arith, a))

pub kept_within : (devices : ℕ) (seats : List Seat) → length seats ≤ 32 → ((k : ℕ) (seat : Seat) → slice_get seats k ≡ Some seat → (seat.is_member && has_kept seat.stage) ≡ true → mask_contains devices (k + 1) ≡ true)
    → is_within (kept_from 0 seats) devices ≡ true
kept_within devices seats long each = mask_within (kept_from 0 seats) devices (kept_among devices 0 seats (omega (arith, long)) (λ k seat there kept. let same : k + 1 ≡ 0 + k + 1 = omega arith in subst (λ n. mask_contains devices n ≡ true) same (each k seat there kept)))

-- ---- the end

over_here : (change : ℕ) (kept mask : DeviceMask) (entry : Entry) → starts change entry ≡ true → devices_of entry ≡ Some mask → is_within kept.0 mask.0 ≡ true → starts_over change kept.0 entry ≡ true
over_here change kept mask (Started other devices timeout) s d n =
    let same : devices ≡ mask = cc in
    ap (λ b. b && is_within kept.0 devices.0) s ∙ ap (λ m. is_within kept.0 m.0) same ∙ n
over_here change kept mask (Decided other decided) s d n = absurd (let f : false ≡ true = s in cc)
over_here change kept mask (Ended other others) s d n = absurd (let f : false ≡ true = s in cc)

over_there : (change : ℕ) (kept mask : DeviceMask) (entries : List Entry) → is_within kept.0 mask.0 ≡ true → devices_in change entries ≡ Some mask → list_any (starts_over change kept.0) entries ≡ true
over_there change kept mask [] n d = absurd (let f : None ≡ Some mask = d in cc)
over_there change kept mask (entry ∷ entries) n d = by_first (starts change entry) refl d (over_there change kept mask entries n)
  where
    or_left : (a b : Bool) → a ≡ true → (a || b) ≡ true
    or_left true b e = refl
    or_left false b e = absurd (let f : false ≡ true = e in cc)

    or_right : (a b : Bool) → b ≡ true → (a || b) ≡ true
    or_right true b e = refl
    or_right false b e = e

    by_first : (b : Bool) → starts change entry ≡ b → option_and_then devices_of (cond b (Some entry) (find (starts change) entries)) ≡ Some mask → (devices_in change entries ≡ Some mask → list_any (starts_over change kept.0) entries ≡ true)
        → list_any (starts_over change kept.0) (entry ∷ entries) ≡ true
    by_first true s d later = or_left (starts_over change kept.0 entry) (list_any (starts_over change kept.0) entries) (over_here change kept mask entry s d n)
    by_first false s d later = or_right (starts_over change kept.0 entry) (list_any (starts_over change kept.0) entries) (later d)

-- what ends a change set may come into the journal
pub end_follows : (change : ℕ) (kept mask : DeviceMask) (entries : List Entry) → is_change change ≡ true → devices_in change entries ≡ Some mask → is_within kept.0 mask.0 ≡ true → is_some (verdict_in change entries) ≡ true
    → is_ended_in change entries ≡ false → (kept.0 == 0 || not (list_any (aborts change) entries)) ≡ true → may_follow entries (Ended change kept) ≡ true
end_follows change kept mask entries c d n v e a =
    five (is_change change) (list_any (starts_over change kept.0) entries) (list_any (decides change) entries) (is_ended_in change entries) (kept.0 == 0 || not (list_any (aborts change) entries))
    c (over_there change kept mask entries n d) (verdict_there change entries v) e a
  where
    five : (a b c d e : Bool) → a ≡ true → b ≡ true → c ≡ true → d ≡ false → e ≡ true → (a && (((b && c) && not d) && e)) ≡ true
    five a b c d e f g h i j = grind arith
