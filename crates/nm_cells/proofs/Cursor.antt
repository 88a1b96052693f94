-- The place in a plan stands at the fault that comes next.
use Rattle.std.proofs.Common.{Option, Some, None, is_some, ◌≡◌, ◌≢◌, ℕ, zero, suc, ◌+◌, ◌<◌, ◌≤◌, ◌==◌, Bool, true, false, List, [], ◌∷◌, refl, sym, ap, ◌∙◌, subst, slice_get, slice_index_or, length, arith, if◌then◌else◌}
use Rattle.std.proofs.lemmas.Bool.Decides.{nat_tests}
use Rattle.std.proofs.lemmas.Option.{same_Some, slice_get_read, slice_get_past}
use Rattle.nm_proto.specs.declared.fault.PlanEntry.{PlanEntry}
use Rattle.nm_proto.specs.declared.fault.PlanFault.{PlanFault}
use Rattle.nm_proto.specs.Fault.{Ascend}
use Rattle.nm_cells.specs.Faults.{FaultsState, fault_at, due, StandsAt}

apart : (n m : ℕ) → n ≢ m → (n == m) ≡ false
apart n m other = grind (arith, nat_tests)

is_same : (n m : ℕ) → n ≡ m → (n == m) ≡ true
is_same n m e = grind (arith, nat_tests)

beyond : (counted at_ : ℕ) → counted < at_ → at_ ≢ counted + 1 → counted + 1 < at_
beyond counted at_ over other = omega (arith, over, other)

-- a fault that comes at another request
pub passed : (entry : PlanEntry) (later : List PlanEntry) (request : ℕ) → entry.at ≢ request → fault_at (entry ∷ later) request ≡ fault_at later request
passed entry later request other = ap (λ b. if b then Some entry.fault else fault_at later request) (apart entry.at request other)

-- none comes where all come later
pub none_before : (above request : ℕ) (plan : List PlanEntry) → Ascend above plan → request ≤ above → fault_at plan request ≡ None
none_before above request [] ascends le = refl
none_before above request (entry ∷ later) ascends le =
    let over = ascends.0 in
    passed entry later request (λ e. omega (arith, over, le, e)) ∙ none_before entry.at request later ascends.1 (omega (arith, over, le))

-- ---- the place goes past a fault that comes at the next request

-- the place after a request
abbrev pub moved : ℕ → Option PlanFault → ℕ
moved next fault = next + (if is_some fault then 1 else 0)

first_moves : (n : ℕ) (entry : PlanEntry) (later : List PlanEntry) (same : Bool) → (entry.at == n + 1) ≡ same → n < entry.at → Ascend entry.at later
    → StandsAt (n + 1) (moved 0 (if same then Some entry.fault else fault_at later (n + 1))) (entry ∷ later)
first_moves n entry later true e over ascends =
    let here : entry.at ≡ n + 1 = grind (arith, nat_tests) in
    (omega (arith, here), subst (λ k. Ascend k later) here ascends)
first_moves n entry later false e over ascends =
    let other : entry.at ≢ n + 1 = grind (arith, nat_tests) in
    let more : n + 1 < entry.at = beyond n entry.at over other in
    subst (λ f. StandsAt (n + 1) (moved 0 f) (entry ∷ later)) (sym (none_before entry.at (n + 1) later ascends (omega (arith, more)))) (more, ascends)

pub moves : (n next : ℕ) (plan : List PlanEntry) → StandsAt n next plan → StandsAt (n + 1) (moved next (fault_at plan (n + 1))) plan
moves n zero [] stands = tt
moves n zero (entry ∷ later) stands = first_moves n entry later (entry.at == n + 1) refl stands.0 stands.1
moves n (suc next) [] stands = absurd stands
moves n (suc next) (entry ∷ later) stands =
    let le = stands.0 in
    let apart_ : entry.at ≢ n + 1 = λ e. omega (arith, le, e) in
    let more : suc (moved next (fault_at later (n + 1))) ≡ moved (suc next) (fault_at later (n + 1)) = omega arith in
    subst (λ f. StandsAt (n + 1) (moved (suc next) f) (entry ∷ later)) (sym (passed entry later (n + 1) apart_))
    (subst (λ k. StandsAt (n + 1) k (entry ∷ later)) more (omega (arith, le), moves n next later stands.1))

-- no more faults came than there are
pub few_came : (n next most : ℕ) (plan : List PlanEntry) → StandsAt n next plan → length plan ≤ most → next ≤ most
few_came n zero most plan stands few = omega arith
few_came n (suc next) most [] stands few = absurd stands
few_came n (suc next) zero (entry ∷ later) stands few = absurd (omega (arith, few))
few_came n (suc next) (suc most) (entry ∷ later) stands few =
    let rest = few_came n next most later stands.1 (omega (arith, few)) in omega (arith, rest)

-- ---- the fault at the place

-- the plan is at its end
at_end : (n next : ℕ) (plan : List PlanEntry) → StandsAt n next plan → slice_get plan next ≡ None → fault_at plan (n + 1) ≡ None
at_end n zero [] stands at = refl
at_end n zero (entry ∷ later) stands at = cc
at_end n (suc next) [] stands at = absurd stands
at_end n (suc next) (entry ∷ later) stands at = let le = stands.0 in passed entry later (n + 1) (λ e. omega (arith, le, e)) ∙ at_end n next later stands.1 at

-- the fault at the place comes later
at_later : (n next : ℕ) (plan : List PlanEntry) (it : PlanEntry) → StandsAt n next plan → slice_get plan next ≡ Some it → it.at ≢ n + 1 → fault_at plan (n + 1) ≡ None
at_later n zero [] it stands at other = refl
at_later n zero (entry ∷ later) it stands at other =
    let same : entry ≡ it = same_Some entry it at in
    let apart_ : entry.at ≢ n + 1 = λ e. other (sym (ap (λ (x : PlanEntry). x.at) same) ∙ e) in
    let more : n + 1 < entry.at = beyond n entry.at stands.0 apart_ in
    passed entry later (n + 1) apart_ ∙ none_before entry.at (n + 1) later stands.1 (omega (arith, more))
at_later n (suc next) [] it stands at other = absurd stands
at_later n (suc next) (entry ∷ later) it stands at other =
    let le = stands.0 in passed entry later (n + 1) (λ e. omega (arith, le, e)) ∙ at_later n next later it stands.1 at other

-- it comes now
at_now : (n next : ℕ) (plan : List PlanEntry) (it : PlanEntry) → StandsAt n next plan → slice_get plan next ≡ Some it → it.at ≡ n + 1 → fault_at plan (n + 1) ≡ Some it.fault
at_now n zero [] it stands at now = cc
at_now n zero (entry ∷ later) it stands at now =
    let same : entry ≡ it = same_Some entry it at in
    let here : entry.at ≡ n + 1 = ap (λ (x : PlanEntry). x.at) same ∙ now in
    ap (λ b. if b then Some entry.fault else fault_at later (n + 1)) (is_same entry.at (n + 1) here) ∙ ap (λ (x : PlanEntry). Some x.fault) same
at_now n (suc next) [] it stands at now = absurd stands
at_now n (suc next) (entry ∷ later) it stands at now =
    let le = stands.0 in passed entry later (n + 1) (λ e. omega (arith, le, e)) ∙ at_now n next later it stands.1 at now

-- ---- as the code finds it

pub hit : (n next : ℕ) (plan found : List PlanEntry) (it : PlanEntry) → found ≡ plan → next < length found → it ≡ slice_index_or found next it → StandsAt n next plan → it.at ≡ n + 1 → fault_at plan (n + 1) ≡ Some it.fault
hit n next plan found it same within here stands now =
    at_now n next plan it stands (subst (λ es. slice_get es next ≡ Some it) same (slice_get_read found (length found) next it refl within here)) now

pub miss : (n next : ℕ) (plan found : List PlanEntry) (it : PlanEntry) → found ≡ plan → next < length found → it ≡ slice_index_or found next it → StandsAt n next plan → it.at ≢ n + 1 → fault_at plan (n + 1) ≡ None
miss n next plan found it same within here stands other =
    at_later n next plan it stands (subst (λ es. slice_get es next ≡ Some it) same (slice_get_read found (length found) next it refl within here)) other

pub past : (n next : ℕ) (plan found : List PlanEntry) → found ≡ plan → length found ≤ next → StandsAt n next plan → fault_at plan (n + 1) ≡ None
past n next plan found same out stands = at_end n next plan stands (subst (λ es. slice_get es next ≡ None) same (slice_get_past found next out))

-- the fault that is due, where the one of the last request has come
pub due_now : (reached counted : ℕ) (plan : List PlanEntry) (fault : Option PlanFault) → reached ≡ counted → fault_at plan (reached + 1) ≡ fault
    → (if reached == counted then fault_at plan (counted + 1) else None) ≡ fault
due_now reached counted plan fault same is =
    ap (λ b. if b then fault_at plan (counted + 1) else None) (is_same reached counted same) ∙ (ap (λ n. fault_at plan (n + 1)) (sym same) ∙ is)

-- the place after the next request, whose fault hasn't come
pub stands_next : (f : FaultsState) (fault : Option PlanFault) (more : ℕ) → StandsAt f.reached f.spent f.plan → f.reached ≡ f.counted → fault ≡ due f → more ≡ (if is_some fault then 1 else 0)
    → StandsAt (f.reached + 1) (f.spent + more) f.plan
stands_next f fault more stands same is much =
    let found : fault ≡ fault_at f.plan (f.reached + 1) = is ∙ due_now f.reached f.counted f.plan (fault_at f.plan (f.reached + 1)) same refl in
    subst (λ n. StandsAt (f.reached + 1) (f.spent + n) f.plan) (sym (much ∙ ap (λ g. if is_some g then 1 else 0) found)) (moves f.reached f.spent f.plan stands)
