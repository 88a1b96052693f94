-- What the places that an audit keeps come to, over pairs of entries.
use Rattle.std.proofs.Common.{◌≡◌, ◌≢◌, ◌<◌, ◌≤◌, inl, inr, ℕ, zero, suc, ◌+◌, ◌-◌, Bool, true, false, nat_lt, List, [], ◌∷◌, ◌++◌, length, take, fold, get_or, slice_get, Some, refl, sym, ap, subst, ◌∙◌, arith, if◌then◌else◌}
use Rattle.std.proofs.lemmas.Bool.{cases_eq, ltb-true, ltb-false}
use Rattle.std.proofs.lemmas.List.{get_or-set_same, get_or-set_other, length-set, length-replicate, take_more}
use Rattle.std.proofs.lemmas.List.Sums.{fold-append}
use Rattle.std.proofs.lemmas.Option.{same_Some, none-some, slice_get_within, slice_get-get_or, get_or_from_slice_get}
use Rattle.nm_cells.specs.declared.pass.PassEntry.{PassEntry}
use Rattle.nm_cells.specs.State.{CellView}
use Rattle.nm_audit.specs.declared.slot.SlotRecord.{SlotRecord}
use Rattle.nm_audit.specs.First.{FitTo}
use Rattle.nm_audit.specs.Passes.{IsDevice, no_places, place_on, passed, lasts, raised_by, raised, raised_by_slot, heights, EntryFits, PassFits, SlotFits}
use Rattle.nm_audit.specs.Agree.{Each, Ascends, Precedes}
use Rattle.nm_audit.proofs.First.{each_fits}

-- ---- one more, at the end of a front

front_more : {A : Type 0} (xs : List A) (n : ℕ) (x : A) → slice_get xs n ≡ Some x → take (n + 1) xs ≡ take n xs ++ x ∷ []
front_more xs n x at = take_more xs n x (slice_get_within xs n x at) ∙ ap (λ y. take n xs ++ y ∷ []) (get_or_from_slice_get xs n x x at)

fold_front : {A B : Type 0} (f : B → A → B) (b : B) (xs : List A) (n : ℕ) (x : A) → slice_get xs n ≡ Some x → fold f b (take (suc n) xs) ≡ f (fold f b (take n xs)) x
fold_front f b xs n x at =
    let next : suc n ≡ n + 1 = omega arith in
    ap (λ k. fold f b (take k xs)) next ∙ (ap (fold f b) (front_more xs n x at) ∙ fold-append f b (take n xs) (x ∷ []))

-- ---- a place for each device

pub passed_here : (places : List ℕ) (entry : PassEntry) → length places ≡ 32 → IsDevice entry.device → place_on (passed places entry) entry.device ≡ entry.position
passed_here places entry long is =
    let low = is.low in let high = is.high in get_or-set_same places (entry.device - 1) entry.position 0 (omega (arith, long, low, high))

pub passed_there : (places : List ℕ) (entry : PassEntry) (device : ℕ) → IsDevice entry.device → IsDevice device → device ≢ entry.device → place_on (passed places entry) device ≡ place_on places device
passed_there places entry device is its other =
    let low = is.low in let its_low = its.low in
    get_or-set_other places (entry.device - 1) (device - 1) entry.position 0 (λ e. other (omega (arith, e, low, its_low)))

length_passed : (entries : List PassEntry) (places : List ℕ) → length (fold passed places entries) ≡ length places
length_passed [] places = refl
length_passed (entry ∷ entries) places = length_passed entries (passed places entry) ∙ length-set places (entry.device - 1) entry.position

length_lasts : (entries : List PassEntry) → length (lasts entries) ≡ 32
length_lasts entries = length_passed entries no_places ∙ length-replicate {A = ℕ} 32 0

-- ---- the last places of a pass

-- an entry isn't above the place at its device
abbrev IsBelow : List ℕ → PassEntry → Type 0
IsBelow places entry = entry.position ≤ place_on places entry.device

below_itself : (places : List ℕ) (next one : PassEntry) → length places ≡ 32 → IsDevice next.device → one ≡ next → IsBelow (passed places next) one
below_itself places next one long is same =
    subst (IsBelow (passed places next)) (sym same) (let here = passed_here places next long is in omega (arith, here))

below_passed : (places : List ℕ) (next one : PassEntry) → length places ≡ 32 → IsDevice next.device → IsDevice one.device → place_on places next.device < next.position → IsBelow places one → IsBelow (passed places next) one
below_passed places next one long is its ascends below = elim (cases_eq one.device next.device) [
  | inl same ↦ (
      let here : place_on (passed places next) one.device ≡ next.position = ap (place_on (passed places next)) same ∙ passed_here places next long is in
      let there : place_on places one.device ≡ place_on places next.device = ap (place_on places) same in
      omega (arith, here, there, ascends, below))
  | inr other ↦ (let stays = passed_there places next one.device is its other in omega (arith, stays, below))
]

below_next : (places : List ℕ) (next one : PassEntry) (i n : ℕ) → length places ≡ 32 → IsDevice next.device → IsDevice one.device → place_on places next.device < next.position → i < suc n
    → (i < n → IsBelow places one) → (i ≡ n → one ≡ next) → IsBelow (passed places next) one
below_next places next one i n long is its ascends less before now = elim (cases_eq i n) [
  | inl same ↦ below_itself places next one long is (now same)
  | inr other ↦ below_passed places next one long is its ascends (before (omega (arith, less, other)))
]

module _ {Config Node : Type 0} (cells : List (CellView Config Node)) (highest : List ℕ) (entries : List PassEntry) where
  -- each of the first entries is below the last places after them
  below_lasts : (n : ℕ) → n ≤ length entries → FitTo (EntryFits cells highest entries) entries n → (i : ℕ) (one : PassEntry) → i < n → slice_get entries i ≡ Some one → IsBelow (lasts (take n entries)) one
  below_lasts zero few fits i one less at = absurd (omega (arith, less))
  below_lasts (suc n) few fits i one less at =
      let next : PassEntry = get_or entries n one in
      let there : slice_get entries n ≡ Some next = slice_get-get_or entries n one (omega (arith, few)) in
      let agrees = fits n next (omega arith) there in
      let agrees_one = fits i one less at in
      subst (λ places. IsBelow places one) (sym (fold_front passed no_places entries n next there))
      (below_next (lasts (take n entries)) next one i n (length_lasts (take n entries)) agrees.device_is agrees_one.device_is agrees.ascends less
      (λ lower. below_lasts n (omega (arith, few)) (λ place it before here. fits place it (omega (arith, before)) here) i one lower at)
      (λ same. same_Some one next (sym (subst (λ k. slice_get entries k ≡ Some one) same at) ∙ there)))

  pub pass_ascends : PassFits cells highest entries → Ascends entries
  pass_ascends fits i j one other less at there same =
      let within = slice_get_within entries j other there in
      let agrees = each_fits (EntryFits cells highest entries) entries fits j other there in
      let below = below_lasts j (omega (arith, within)) (λ place it before here. fits place it (omega (arith, before, within)) here) i one less at in
      let here : place_on (lasts (take j entries)) one.device ≡ place_on (lasts (take j entries)) other.device = ap (place_on (lasts (take j entries))) same in
      let ascends = agrees.ascends in
      omega (arith, below, here, ascends)

-- ---- the highest places of passes

abbrev pub AreDevices : List PassEntry → Type 0
AreDevices entries = Each (λ (entry : PassEntry). IsDevice entry.device) entries

pub length_raised_by : (places : List ℕ) (entry : PassEntry) → length (raised_by places entry) ≡ length places
length_raised_by places entry = by_test (nat_lt (place_on places entry.device) entry.position)
  where
    by_test : (b : Bool) → length (if b then passed places entry else places) ≡ length places
    by_test true = length-set places (entry.device - 1) entry.position
    by_test false = refl

pub length_raised : (entries : List PassEntry) (places : List ℕ) → length (raised places entries) ≡ length places
length_raised [] places = refl
length_raised (entry ∷ entries) places = length_raised entries (raised_by places entry) ∙ length_raised_by places entry

length_heights : (slots : List SlotRecord) (places : List ℕ) → length (fold raised_by_slot places slots) ≡ length places
length_heights [] places = refl
length_heights (slot ∷ slots) places = length_heights slots (raised_by_slot places slot) ∙ length_raised slot.pass.entries places

module _ (places : List ℕ) (entry : PassEntry) (long : length places ≡ 32) (is : IsDevice entry.device) where
  -- no place falls
  raised_up : (device : ℕ) → IsDevice device → place_on places device ≤ place_on (raised_by places entry) device
  raised_up device its = by_test (nat_lt (place_on places entry.device) entry.position) refl
    where
      by_test : (b : Bool) → nat_lt (place_on places entry.device) entry.position ≡ b → place_on places device ≤ place_on (if b then passed places entry else places) device
      by_test true e =
          let more : place_on places entry.device < entry.position = ltb-true (place_on places entry.device) entry.position e in
          elim (cases_eq device entry.device) [
            | inl same ↦ (
                let here : place_on (passed places entry) device ≡ entry.position = ap (place_on (passed places entry)) same ∙ passed_here places entry long is in
                let there : place_on places device ≡ place_on places entry.device = ap (place_on places) same in
                omega (arith, here, there, more))
            | inr other ↦ (let stays = passed_there places entry device is its other in omega (arith, stays))
          ]
      by_test false e = omega arith

  -- the entry isn't above
  raised_over : entry.position ≤ place_on (raised_by places entry) entry.device
  raised_over = by_test (nat_lt (place_on places entry.device) entry.position) refl
    where
      by_test : (b : Bool) → nat_lt (place_on places entry.device) entry.position ≡ b → entry.position ≤ place_on (if b then passed places entry else places) entry.device
      by_test true e = let here = passed_here places entry long is in omega (arith, here)
      by_test false e = ltb-false (place_on places entry.device) entry.position e

raised_keeps : (entries : List PassEntry) (places : List ℕ) → length places ≡ 32 → AreDevices entries → (device : ℕ) → IsDevice device → place_on places device ≤ place_on (raised places entries) device
raised_keeps [] places long are device its = omega arith
raised_keeps (entry ∷ entries) places long are device its =
    let one = raised_up places entry long (are 0 entry refl) device its in
    let rest = raised_keeps entries (raised_by places entry) (length_raised_by places entry ∙ long) (λ k it at. are (suc k) it at) device its in
    omega (arith, one, rest)

raised_all : (entries : List PassEntry) (places : List ℕ) → length places ≡ 32 → AreDevices entries → (i : ℕ) (one : PassEntry) → slice_get entries i ≡ Some one → IsBelow (raised places entries) one
raised_all [] places long are i one at = absurd (none-some one at)
raised_all (entry ∷ entries) places long are zero one at =
    let over = raised_over places entry long (are 0 entry refl) in
    let rest = raised_keeps entries (raised_by places entry) (length_raised_by places entry ∙ long) (λ k it there. are (suc k) it there) entry.device (are 0 entry refl) in
    subst (IsBelow (raised places (entry ∷ entries))) (same_Some entry one at) (omega (arith, over, rest))
raised_all (entry ∷ entries) places long are (suc i) one at =
    raised_all entries (raised_by places entry) (length_raised_by places entry ∙ long) (λ k it there. are (suc k) it there) i one at

module _ {Config Node : Type 0} (cells : List (CellView Config Node)) (slots : List SlotRecord) where
  devices_of : (highest : List ℕ) (entries : List PassEntry) → PassFits cells highest entries → AreDevices entries
  devices_of highest entries fits k it at = (each_fits (EntryFits cells highest entries) entries fits k it at).device_is

  length_front : (n : ℕ) → length (heights (take n slots)) ≡ 32
  length_front n = length_heights (take n slots) no_places ∙ length-replicate {A = ℕ} 32 0

  -- the entries of each of the first slots are below the highest places after them
  below_heights : (n : ℕ) → n ≤ length slots → FitTo (SlotFits cells slots) slots n → (i : ℕ) (slot : SlotRecord) → i < n → slice_get slots i ≡ Some slot → (k : ℕ) (one : PassEntry) → slice_get slot.pass.entries k ≡ Some one
      → IsBelow (heights (take n slots)) one
  below_heights zero few fits i slot less at k one there = absurd (omega (arith, less))
  below_heights (suc n) few fits i slot less at k one there =
      let next : SlotRecord = get_or slots n slot in
      let here : slice_get slots n ≡ Some next = slice_get-get_or slots n slot (omega (arith, few)) in
      let are = devices_of (heights (take n slots)) next.pass.entries (fits n next (omega arith) here) in
      let is = devices_of (heights (take i slots)) slot.pass.entries (fits i slot less at) k one there in
      subst (λ places. IsBelow places one) (sym (fold_front raised_by_slot no_places slots n next here))
      (elim (cases_eq i n) [
        | inl same ↦ (
            let it : slot ≡ next = same_Some slot next (sym (subst (λ m. slice_get slots m ≡ Some slot) same at) ∙ here) in
            raised_all next.pass.entries (heights (take n slots)) (length_front n) are k one (subst (λ (s : SlotRecord). slice_get s.pass.entries k ≡ Some one) it there))
        | inr other ↦ (
            let below = below_heights n (omega (arith, few)) (λ place it before stands. fits place it (omega (arith, before)) stands) i slot (omega (arith, less, other)) at k one there in
            let keeps = raised_keeps next.pass.entries (heights (take n slots)) (length_front n) are one.device is in
            omega (arith, below, keeps))
      ])

  pub slots_in_order : FitTo (SlotFits cells slots) slots (length slots) → (i j : ℕ) (lower higher : SlotRecord) → i < j → slice_get slots i ≡ Some lower → slice_get slots j ≡ Some higher → Precedes lower.pass.entries higher.pass.entries
  slots_in_order fits i j lower higher less at there k l one other in_lower in_higher same =
      let within = slice_get_within slots j higher there in
      let agrees = each_fits (EntryFits cells (heights (take j slots)) higher.pass.entries) higher.pass.entries (each_fits (SlotFits cells slots) slots fits j higher there) l other in_higher in
      let below = below_heights j (omega (arith, within)) (λ place it before stands. fits place it (omega (arith, before, within)) stands) i lower less at k one in_lower in
      let here : place_on (heights (take j slots)) one.device ≡ place_on (heights (take j slots)) other.device = ap (place_on (heights (take j slots))) same in
      let behind = agrees.in_order in
      omega (arith, below, here, behind)
