-- One entry more: the longer history follows the plan.
use Rattle.std.proofs.Common.{Option, Some, None, is_some, inl, inr, ◌≡◌, ℕ, zero, suc, ◌+◌, ◌<◌, ◌≤◌, ◌==◌, ◌&&◌, ◌||◌, Bool, true, false, List, [], ◌∷◌, ◌++◌, length, take, drop, refl, sym, ap, ◌∙◌, subst, arith, if◌then◌else◌}
use Rattle.std.specs.List.{All, flat_map}
use Rattle.std.proofs.lemmas.Bool.{cases_eq, cases_lt}
use Rattle.std.proofs.lemmas.Bool.Decides.{nat_tests}
use Rattle.std.proofs.lemmas.Grind.{flat_map-append}
use Rattle.std.proofs.lemmas.List.Folds.{list_any-append}
use Rattle.std.proofs.lemmas.List.{append_assoc, append-nil, length-append, take-append-le, take_all}
use Rattle.std.proofs.lemmas.List.Elements.{All-nil, All-cons, All-weaker}
use Rattle.std.proofs.lemmas.Option.{same_Some}
use Rattle.nm_history.specs.declared.event.DeviceEvent.{DeviceEvent}
use Rattle.nm_history.specs.declared.event.DeviceEvent.TheVariants.{Advanced}
use Rattle.nm_history.specs.declared.event.Noted.{Noted}
use Rattle.nm_proto.specs.declared.fault.PlanEntry.{PlanEntry}
use Rattle.nm_proto.specs.declared.fault.PlanFault.{PlanFault}
use Rattle.nm_proto.specs.declared.fault.PlanFault.TheVariants.{Advance}
use Rattle.nm_proto.specs.Fault.{Ascend, IsPlan}
use Rattle.nm_cells.specs.Faults.{FaultsState, fault_at, due, come, one_more, counted_if, planned, StandsAt}
use Rattle.nm_cells.specs.Follows.{count_along, is_asked_for_manager, is_break, breaks_manager, requests, breaks_in, clock_of_entry, clock_of_fault, clock_of_planned, clock_of_due, clock_if, FollowsPlan, Follows, IsPlaced, is_breaking, plans_breaks}
use Rattle.nm_cells.specs.Kept.{opens, enters_as_manager, opens_for_manager, is_managers}
use Rattle.nm_cells.specs.Serve.{advance_of}
use Rattle.nm_cells.proofs.Cursor.{stands_next, none_before, passed}

-- ---- along a history

-- how much an entry counts
abbrev pub one_if : Bool → ℕ
one_if b = if b then 1 else 0

count_push : (f : List Noted → DeviceEvent → Bool) (before history : List Noted) (entry : Noted)
    → count_along f before (history ++ entry ∷ []) ≡ count_along f before history + one_if (f (before ++ history) entry.event)
count_push f before [] entry =
    let here : one_if (f before entry.event) ≡ one_if (f (before ++ []) entry.event) = ap (λ past. one_if (f past entry.event)) (sym (append-nil before)) in
    omega (arith, here)
count_push f before (first ∷ history) entry =
    let rest = count_push f (before ++ first ∷ []) history entry in
    let past : one_if (f ((before ++ first ∷ []) ++ history) entry.event) ≡ one_if (f (before ++ first ∷ history) entry.event) = ap (λ l. one_if (f l entry.event)) (append_assoc before (first ∷ []) history) in
    omega (arith, rest, past)

clock_push : (history : List Noted) (entry : Noted) → flat_map clock_of_entry (history ++ entry ∷ []) ≡ flat_map clock_of_entry history ++ clock_of_entry entry
clock_push history entry = flat_map-append clock_of_entry history (entry ∷ []) ∙ ap (λ l. flat_map clock_of_entry history ++ l) (append-nil (clock_of_entry entry))

-- ---- along a plan

ascend_after : (above : ℕ) (plan : List PlanEntry) → Ascend above plan → All (λ entry. above < entry.at) plan
ascend_after above [] ascends = All-nil (λ entry. above < entry.at)
ascend_after above (entry ∷ later) ascends =
    let over = ascends.0 in
    All-cons (λ e. above < e.at) entry later over (All-weaker (λ e. entry.at < e.at) (λ e. above < e.at) (λ e more. omega (arith, over, more)) later (ascend_after entry.at later ascends.1))

-- the faults after the place come later, those before it don't
later_after : (reached next : ℕ) (plan : List PlanEntry) → StandsAt reached next plan → All (λ entry. reached < entry.at) (drop next plan)
later_after reached zero plan stands = ascend_after reached plan stands
later_after reached (suc next) [] stands = absurd stands
later_after reached (suc next) (entry ∷ later) stands = later_after reached next later stands.1

sooner_before : (reached next : ℕ) (plan : List PlanEntry) → StandsAt reached next plan → All (λ entry. entry.at ≤ reached) (take next plan)
sooner_before reached zero plan stands = All-nil (λ entry. entry.at ≤ reached)
sooner_before reached (suc next) [] stands = absurd stands
sooner_before reached (suc next) (entry ∷ later) stands = All-cons (λ e. e.at ≤ reached) entry (take next later) stands.0 (sooner_before reached next later stands.1)

-- the fault that comes next stands at the place
clock_here : (n : ℕ) (entry : PlanEntry) (later : List PlanEntry) (fault : PlanFault) (same : Bool) → (entry.at == n + 1) ≡ same → n < entry.at → Ascend entry.at later
    → (if same then Some entry.fault else fault_at later (n + 1)) ≡ Some fault → clock_of_fault entry.fault ++ [] ≡ clock_of_fault fault
clock_here n entry later fault true e over ascends at = append-nil (clock_of_fault entry.fault) ∙ ap clock_of_fault (same_Some entry.fault fault at)
clock_here n entry later fault false e over ascends at =
    let none : fault_at later (n + 1) ≡ None = none_before entry.at (n + 1) later ascends (omega (arith, over)) in
    absurd (let g : None ≡ Some fault = sym none ∙ at in cc)

clock_next : (n next : ℕ) (plan : List PlanEntry) (fault : PlanFault) → StandsAt n next plan → fault_at plan (n + 1) ≡ Some fault
    → flat_map clock_of_planned (take (next + 1) plan) ≡ flat_map clock_of_planned (take next plan) ++ clock_of_fault fault
clock_next n zero [] fault stands at = absurd (let g : None ≡ Some fault = at in cc)
clock_next n zero (entry ∷ later) fault stands at = clock_here n entry later fault (entry.at == n + 1) refl stands.0 stands.1 at
clock_next n (suc next) [] fault stands at = absurd stands
clock_next n (suc next) (entry ∷ later) fault stands at =
    let le = stands.0 in
    let more : take (suc next + 1) (entry ∷ later) ≡ entry ∷ take (next + 1) later = ap (λ k. take k (entry ∷ later)) (let e : suc next + 1 ≡ suc (next + 1) = omega arith in e) in
    ap (flat_map clock_of_planned) more
    ∙ (ap (λ l. clock_of_fault entry.fault ++ l) (clock_next n next later fault stands.1 (sym (passed entry later (n + 1) (λ e. omega (arith, le, e))) ∙ at))
    ∙ sym (append_assoc (clock_of_fault entry.fault) (flat_map clock_of_planned (take next later)) (clock_of_fault fault)))

-- a plan that has a breaking fault
any_breaks : (plan : List PlanEntry) (request : ℕ) (fault : PlanFault) → fault_at plan request ≡ Some fault → is_breaking fault ≡ true → plans_breaks plan ≡ true
any_breaks [] request fault at breaking = absurd (let g : None ≡ Some fault = at in cc)
any_breaks (entry ∷ later) request fault at breaking = by_test (entry.at == request) (λ e. any_breaks later request fault e breaking) at
  where
    first : (a b : Bool) → a ≡ true → (a || b) ≡ true
    first true b e = refl
    first false b e = cc

    other : (a b : Bool) → b ≡ true → (a || b) ≡ true
    other true b e = refl
    other false b e = e

    by_test : (b : Bool) → (fault_at later request ≡ Some fault → plans_breaks later ≡ true) → (if b then Some entry.fault else fault_at later request) ≡ Some fault → plans_breaks (entry ∷ later) ≡ true
    by_test true rest got = first (is_breaking entry.fault) (plans_breaks later) (ap is_breaking (same_Some entry.fault fault got) ∙ breaking)
    by_test false rest got = other (is_breaking entry.fault) (plans_breaks later) (rest got)

due_is : (faults : FaultsState) (fault : PlanFault) → due faults ≡ Some fault → (faults.reached ≡ faults.counted) × (fault_at faults.plan (faults.counted + 1) ≡ Some fault)
due_is faults fault e = by_test (faults.reached == faults.counted) refl e
  where
    by_test : (b : Bool) → (faults.reached == faults.counted) ≡ b → (if b then fault_at faults.plan (faults.counted + 1) else None) ≡ Some fault → (faults.reached ≡ faults.counted) × (fault_at faults.plan (faults.counted + 1) ≡ Some fault)
    by_test true is got = (grind (arith, nat_tests), got)
    by_test false is got = absurd (let g : None ≡ Some fault = got in cc)

pub due_breaks : (faults : FaultsState) (fault : PlanFault) → due faults ≡ Some fault → is_breaking fault ≡ true → plans_breaks faults.plan ≡ true
due_breaks faults fault e breaking = any_breaks faults.plan (faults.counted + 1) fault (due_is faults fault e).1 breaking

-- ---- the place in the plan

placed_come : (faults : FaultsState) → IsPlaced faults → IsPlaced (come faults)
placed_come faults placed = elim (cases_eq faults.reached faults.counted) [
  | inl same ↦
      let next = stands_next faults (due faults) (if is_some (due faults) then 1 else 0) placed.stands same refl refl in record {
        stands = subst (λ n. StandsAt n (come faults).spent faults.plan) (let e : faults.reached + 1 ≡ faults.counted + 1 = omega (arith, same) in e) next;
        low = omega arith;
        high = omega arith;
      }
  | inr apart ↦
      let low = placed.low in
      let high = placed.high in
      let there : faults.reached ≡ faults.counted + 1 = omega (arith, low, high, apart) in
      let test : (faults.reached == faults.counted) ≡ false = grind (arith, nat_tests) in
      let none : due faults ≡ None = ap (λ b. if b then fault_at faults.plan (faults.counted + 1) else None) test in
      let more : faults.spent + 0 ≡ faults.spent = omega arith in
      let spent : (come faults).spent ≡ faults.spent = ap (λ d. faults.spent + one_if (is_some d)) none ∙ more in record {
        stands = subst (λ k. StandsAt (faults.counted + 1) k faults.plan) (sym spent) (subst (λ n. StandsAt n faults.spent faults.plan) there placed.stands);
        low = omega arith;
        high = omega arith;
      }
]

placed_counted : (counts : Bool) (faults : FaultsState) → IsPlaced faults → IsPlaced (counted_if counts faults)
placed_counted true faults placed = let it = placed_come faults placed in record { stands = it.stands; low = omega arith; high = omega arith }
placed_counted false faults placed = placed

-- what came with the next request
spent_clock : (faults : FaultsState) → IsPlaced faults → flat_map clock_of_planned (take (come faults).spent faults.plan) ≡ flat_map clock_of_planned (take faults.spent faults.plan) ++ clock_of_due (due faults)
spent_clock faults placed = by_due (due faults) refl
  where
    by_due : (fault : Option PlanFault) → due faults ≡ fault → flat_map clock_of_planned (take (faults.spent + (if is_some fault then 1 else 0)) faults.plan) ≡ flat_map clock_of_planned (take faults.spent faults.plan) ++ clock_of_due fault
    by_due None e = let same : faults.spent + 0 ≡ faults.spent = omega arith in ap (λ k. flat_map clock_of_planned (take k faults.plan)) same ∙ sym (append-nil (flat_map clock_of_planned (take faults.spent faults.plan)))
    by_due (Some fault) e =
        let it = due_is faults fault e in
        clock_next faults.reached faults.spent faults.plan fault placed.stands (ap (λ n. fault_at faults.plan (n + 1)) it.0 ∙ it.1)

-- ---- following

now_follows : (faults : FaultsState) (history : List Noted) → IsPlaced faults → requests history ≤ faults.counted → faults.counted ≤ requests history + breaks_in history
    → flat_map clock_of_entry history ≡ flat_map clock_of_planned (take faults.spent faults.plan) → FollowsPlan faults.plan history
now_follows faults history placed few many clock =
    let low = placed.low in
    let high = placed.high in record {
      came = faults.spent;
      clock = clock;
      all_came = All-weaker (λ entry. faults.reached < entry.at) (λ entry. requests history < entry.at) (λ entry more. omega (arith, more, few, low)) (drop faults.spent faults.plan) (later_after faults.reached faults.spent faults.plan placed.stands);
      none_early = All-weaker (λ entry. entry.at ≤ faults.reached) (λ entry. entry.at ≤ requests history + breaks_in history + 1) (λ entry less. omega (arith, less, many, high)) (take faults.spent faults.plan) (sooner_before faults.reached faults.spent faults.plan placed.stands);
    }

follows_push : (old new : FaultsState) (history : List Noted) (entry : Noted) → new.plan ≡ old.plan → IsPlaced new → requests history + one_if (is_asked_for_manager history entry.event) ≤ new.counted
    → new.counted ≤ requests history + one_if (is_asked_for_manager history entry.event) + (breaks_in history + one_if (is_break history entry.event))
    → flat_map clock_of_entry history ++ clock_of_entry entry ≡ flat_map clock_of_planned (take new.spent new.plan)
    → (breaks_manager history entry.event ≡ true → plans_breaks old.plan ≡ true) → Follows old history → Follows new (history ++ entry ∷ [])
follows_push old new history entry plan placed few many clock breaks follows =
    let asked = count_push is_asked_for_manager [] history entry in
    let broken = count_push is_break [] history entry in
    let low : requests (history ++ entry ∷ []) ≤ new.counted = omega (arith, asked, few) in
    let high : new.counted ≤ requests (history ++ entry ∷ []) + breaks_in (history ++ entry ∷ []) = omega (arith, asked, broken, many) in
    let same : flat_map clock_of_entry (history ++ entry ∷ []) ≡ flat_map clock_of_planned (take new.spent new.plan) = clock_push history entry ∙ clock in record {
      placed = placed;
      few = low;
      many = high;
      clock = same;
      plans = record {
        parts = λ n le. elim (cases_lt n (length history + 1)) [
          | inl less ↦ subst (FollowsPlan new.plan) (sym (take-append-le n history (entry ∷ []) (omega (arith, less)))) (subst (λ (p : List PlanEntry). FollowsPlan p (take n history)) (sym plan) (follows.plans.parts n (omega (arith, less))))
          | inr past ↦ subst (FollowsPlan new.plan) (sym (take_all n (history ++ entry ∷ []) (let l = length-append history (entry ∷ []) in omega (arith, l, past)))) (now_follows new (history ++ entry ∷ []) placed low high same)
        ];
        breaks = λ some. ap plans_breaks plan ∙ by_test (breaks_manager history entry.event) refl some;
      };
    }
  where
    by_test : (b : Bool) → breaks_manager history entry.event ≡ b → 1 ≤ count_along breaks_manager [] (history ++ entry ∷ []) → plans_breaks old.plan ≡ true
    by_test true is some = breaks is
    by_test false is some =
        let counted = count_push breaks_manager [] history entry in
        let none : one_if (breaks_manager history entry.event) ≡ 0 = ap one_if is in
        follows.plans.breaks (omega (arith, some, counted, none))

-- a request of the manager is counted with what it does
pub follows_counted : (counts : Bool) (faults : FaultsState) (history : List Noted) (entry : Noted) → (is_asked_for_manager history entry.event ≡ true → counts ≡ true) → (counts ≡ true → (is_asked_for_manager history entry.event || is_break history entry.event) ≡ true)
    → clock_of_entry entry ≡ (if counts then clock_of_due (due faults) else []) → (breaks_manager history entry.event ≡ true → plans_breaks faults.plan ≡ true) → Follows faults history
    → Follows (counted_if counts faults) (history ++ entry ∷ [])
follows_counted true faults history entry asked counted clock breaks follows =
    let few = follows.few in
    let many = follows.many in
    let some : (is_asked_for_manager history entry.event || is_break history entry.event) ≡ true = counted refl in
    let one = either (is_asked_for_manager history entry.event) (is_break history entry.event) some in
    let most = at_most (is_asked_for_manager history entry.event) in
    follows_push faults (one_more faults) history entry refl (placed_counted true faults follows.placed) (omega (arith, few, most)) (omega (arith, many, one))
    (ap (λ l. flat_map clock_of_entry history ++ l) clock ∙ (ap (λ l. l ++ clock_of_due (due faults)) follows.clock ∙ sym (spent_clock faults follows.placed))) breaks follows
  where
    either : (a b : Bool) → (a || b) ≡ true → 1 ≤ one_if a + one_if b
    either true b e = omega arith
    either false true e = omega arith
    either false false e = cc

    at_most : (a : Bool) → one_if a ≤ 1
    at_most true = omega arith
    at_most false = omega arith
follows_counted false faults history entry asked counted clock breaks follows =
    let few = follows.few in
    let many = follows.many in
    let none : one_if (is_asked_for_manager history entry.event) ≡ 0 = by_test (is_asked_for_manager history entry.event) asked in
    follows_push faults faults history entry refl follows.placed (omega (arith, few, none)) (omega (arith, many))
    (ap (λ l. flat_map clock_of_entry history ++ l) clock ∙ (append-nil (flat_map clock_of_entry history) ∙ follows.clock)) breaks follows
  where
    by_test : (a : Bool) → (a ≡ true → false ≡ true) → one_if a ≡ 0
    by_test true none = absurd (let e = none refl in cc)
    by_test false none = refl

-- an advance comes before its request
pub follows_come : (faults : FaultsState) (history : List Noted) (entry : Noted) → is_asked_for_manager history entry.event ≡ false → is_break history entry.event ≡ false → breaks_manager history entry.event ≡ false
    → clock_of_entry entry ≡ clock_of_due (due faults) → Follows faults history → Follows (come faults) (history ++ entry ∷ [])
follows_come faults history entry asked broken breaks clock follows =
    let few = follows.few in
    let many = follows.many in
    let none : one_if (is_asked_for_manager history entry.event) ≡ 0 = ap one_if asked in
    follows_push faults (come faults) history entry refl (placed_come faults follows.placed) (omega (arith, few, none)) (omega (arith, many))
    (ap (λ l. flat_map clock_of_entry history ++ l) clock ∙ (ap (λ l. l ++ clock_of_due (due faults)) follows.clock ∙ sym (spent_clock faults follows.placed))) (λ e. absurd (let g = sym e ∙ breaks in cc)) follows

-- nothing has happened yet
pub follows_fresh : (plan : List PlanEntry) → Ascend 0 plan → Follows (planned plan) []
follows_fresh plan ascends =
    let placed : IsPlaced (planned plan) = record { stands = ascends; low = omega arith; high = omega arith } in record {
      placed = placed;
      few = omega arith;
      many = omega arith;
      clock = refl;
      plans = record {
        parts = λ n le. subst (FollowsPlan plan) (sym (take_all n [] (omega arith))) (now_follows (planned plan) [] placed (omega arith) (omega arith) refl);
        breaks = λ some. absurd (omega (arith, some));
      };
    }

-- ---- as the device is kept

-- a request, of the manager or not
pub follows_request : (counts : Bool) (old new : FaultsState) (history after : List Noted) (entry : Noted) → after ≡ history ++ entry ∷ [] → new ≡ counted_if counts old → counts ≡ is_asked_for_manager history entry.event → is_break history entry.event ≡ false
    → breaks_manager history entry.event ≡ false → clock_of_entry entry ≡ [] → clock_if counts (due old) ≡ [] → Follows old history → Follows new after
follows_request counts old new history after entry longer counted asks breaks of_manager clock none follows =
    subst (λ l. Follows new l) (sym longer) (subst (λ (f : FaultsState). Follows f (history ++ entry ∷ [])) (sym counted)
    (follows_counted counts old history entry (λ e. asks ∙ e) (λ e. left (is_asked_for_manager history entry.event) (is_break history entry.event) (sym asks ∙ e)) (clock ∙ sym none) (λ e. absurd (let g = sym e ∙ of_manager in cc)) follows))
  where
    left : (a b : Bool) → a ≡ true → (a || b) ≡ true
    left true b e = refl
    left false b e = cc

-- a loss or a restart
pub follows_break : (counts : Bool) (old new : FaultsState) (history after : List Noted) (entry : Noted) → after ≡ history ++ entry ∷ [] → new ≡ counted_if counts old → is_asked_for_manager history entry.event ≡ false → is_break history entry.event ≡ true
    → (breaks_manager history entry.event ≡ true → plans_breaks old.plan ≡ true) → clock_of_entry entry ≡ clock_if counts (due old) → Follows old history → Follows new after
follows_break counts old new history after entry longer counted asks breaks of_manager clock follows =
    subst (λ l. Follows new l) (sym longer) (subst (λ (f : FaultsState). Follows f (history ++ entry ∷ [])) (sym counted)
    (follows_counted counts old history entry (λ e. absurd (let g = sym e ∙ asks in cc)) (λ e. right (is_asked_for_manager history entry.event) (is_break history entry.event) breaks) clock of_manager follows))
  where
    right : (a b : Bool) → b ≡ true → (a || b) ≡ true
    right true b e = refl
    right false b e = e

-- an advance
pub follows_advance : (old new : FaultsState) (history after : List Noted) (seconds : ℕ) (undone : Bool) → after ≡ history ++ record { event = Advanced seconds; reply = None; undone = undone } ∷ [] → new ≡ come old → due old ≡ Some (Advance seconds)
    → Follows old history → Follows new after
follows_advance old new history after seconds undone longer came now follows =
    let entry : Noted = record { event = Advanced seconds; reply = None; undone = undone } in
    subst (λ l. Follows new l) (sym longer) (subst (λ (f : FaultsState). Follows f (history ++ entry ∷ [])) (sym came) (follows_come old history entry refl refl refl (sym (ap clock_of_due now)) follows))

-- once an advance has come, none is due
pub come_settles : (faults : FaultsState) → advance_of (due (come faults)) ≡ None
come_settles faults =
    let test : (faults.counted + 1 == faults.counted) ≡ false = grind (arith, nat_tests) in
    ap advance_of (ap (λ b. if b then fault_at faults.plan (faults.counted + 1) else None) test)

-- an entry that opens no session for the manager leaves its sessions
pub managers_stay : (session : ℕ) (history : List Noted) (entry : Noted) → enters_as_manager entry.event ≡ false → is_managers session (history ++ entry ∷ []) ≡ is_managers session history
managers_stay session history entry other =
    list_any-append (opens_for_manager session) history (entry ∷ [])
    ∙ (ap (λ b. is_managers session history || ((b && opens session entry.reply) || false)) other ∙ or_false (is_managers session history))
  where
    or_false : (b : Bool) → (b || false) ≡ b
    or_false true = refl
    or_false false = refl

pub follows_new : (faults : FaultsState) (plan : List PlanEntry) (history : List Noted) → faults ≡ planned plan → history ≡ [] → IsPlan plan → Follows faults history
follows_new faults plan history is none it = subst (λ (f : FaultsState). Follows f history) (sym is) (subst (Follows (planned plan)) (sym none) (follows_fresh plan it.ascend))
