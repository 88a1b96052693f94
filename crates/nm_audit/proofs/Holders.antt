-- The tables of held places tell which entries of histories passes hold.
use Rattle.std.proofs.Common.{◌≡◌, ◌≢◌, ◌<◌, inl, inr, ℕ, ◌+◌, ◌-◌, ◌==◌, ◌&&◌, ◌||◌, not, Bool, true, false, nat_lt, List, [], ◌∷◌, length, replicate, fold, slice_index_or, slice_set, refl, sym, ap, ◌∙◌, arith, if◌then◌else◌}
use Rattle.std.specs.List.{list_any}
use Rattle.std.proofs.lemmas.Bool.{cases_eq}
use Rattle.std.proofs.lemmas.Bool.Decides.{nat_tests}
use Rattle.std.proofs.lemmas.List.{get_or-set_same, get_or-set_other, length-set, length-replicate, get_or-replicate}
use Rattle.nm_cells.specs.declared.pass.PassEntry.{PassEntry}
use Rattle.nm_cells.specs.Pass.{PassState}
use Rattle.nm_audit.specs.declared.slot.SlotRecord.{SlotRecord}
use Rattle.nm_audit.specs.Held.{is_own, is_kept_at, keeps_at, slot_keeps_at, is_kept, with_place, marks, marked_by, marked_by_slot, marked_by_pass, held_places}

or_false : (a : Bool) → (a || false) ≡ a
or_false true = refl
or_false false = refl

or_true : (a : Bool) → (a || true) ≡ true
or_true true = refl
or_true false = refl

or_assoc : (a b c : Bool) → ((a || b) || c) ≡ (a || (b || c))
or_assoc true b c = refl
or_assoc false b c = refl

and_false : (a : Bool) → (a && false) ≡ false
and_false true = refl
and_false false = refl

and_true : (a : Bool) → (a && true) ≡ a
and_true true = refl
and_true false = refl

-- a place is held
abbrev held_at : List Bool → ℕ → Bool
held_at held place = slice_index_or held place false

-- ---- one entry

length_with : (held : List Bool) (at_ : ℕ) → length (with_place held at_) ≡ length held
length_with held at_ = by_test (nat_lt at_ (length held))
  where
    by_test : (b : Bool) → length (if b then slice_set held at_ true else held) ≡ length held
    by_test true = length-set held at_ true
    by_test false = refl

with_at : (held : List Bool) (at_ place : ℕ) → place < length held → held_at (with_place held at_) place ≡ (held_at held place || (at_ == place))
with_at held at_ place within = elim (cases_eq at_ place) [
  | inl same ↦ (
      let inside : nat_lt at_ (length held) ≡ true = grind (arith, nat_tests, same, within) in
      let is : (at_ == place) ≡ true = grind (arith, nat_tests, same) in
      let here : held_at (slice_set held at_ true) place ≡ true = ap (held_at (slice_set held at_ true)) (sym same) ∙ get_or-set_same held at_ true false (omega (arith, same, within)) in
      ap (λ b. held_at (if b then slice_set held at_ true else held) place) inside ∙ (here ∙ (sym (or_true (held_at held place)) ∙ ap (λ b. held_at held place || b) (sym is))))
  | inr other ↦ (
      let isnt : (at_ == place) ≡ false = grind (arith, nat_tests, other) in
      by_test (nat_lt at_ (length held)) other ∙ (sym (or_false (held_at held place)) ∙ ap (λ b. held_at held place || b) (sym isnt)))
]
  where
    by_test : (b : Bool) → at_ ≢ place → held_at (if b then slice_set held at_ true else held) place ≡ held_at held place
    by_test true other = get_or-set_other held at_ place true false (λ e. other (sym e))
    by_test false other = refl

module _ (device : ℕ) (all : List PassEntry) (entry : PassEntry) where
  length_marked_by : (held : List Bool) → length (marked_by device all held entry) ≡ length held
  length_marked_by held = by_test (marks device all entry)
    where
      by_test : (b : Bool) → length (if b then with_place held (entry.position - 1) else held) ≡ length held
      by_test true = length_with held (entry.position - 1)
      by_test false = refl

  module _ (held : List Bool) (place : ℕ) (within : place < length held) where
    abbrev Marked : Bool → Bool → Type 0
    Marked marking keeping = held_at (if marking then with_place held (entry.position - 1) else held) place ≡ (held_at held place || keeping)

    unmarked : (marking keeping : Bool) → marking ≡ false → keeping ≡ false → Marked marking keeping
    unmarked marking keeping out none =
        ap (λ b. held_at (if b then with_place held (entry.position - 1) else held) place) out ∙ (sym (or_false (held_at held place)) ∙ ap (λ b. held_at held place || b) (sym none))

    marked_there : (marking keeping : Bool) → marking ≡ true → keeping ≡ (entry.position - 1 == place) → Marked marking keeping
    marked_there marking keeping inside same =
        ap (λ b. held_at (if b then with_place held (entry.position - 1) else held) place) inside ∙ (with_at held (entry.position - 1) place within ∙ ap (λ b. held_at held place || b) (sym same))

    of_device : (own : Bool) → Marked (not (entry.position == 0) && own) (entry.position == place + 1 && own)
    of_device false = unmarked (not (entry.position == 0) && false) (entry.position == place + 1 && false) (and_false (not (entry.position == 0))) (and_false (entry.position == place + 1))
    of_device true = elim (cases_eq entry.position 0) [
      | inl none ↦ (
          let zero_ : (entry.position == 0) ≡ true = grind (arith, nat_tests, none) in
          let elsewhere : (entry.position == place + 1) ≡ false = grind (arith, nat_tests, none) in
          unmarked (not (entry.position == 0) && true) (entry.position == place + 1 && true) (ap (λ b. not b && true) zero_) (ap (λ b. b && true) elsewhere))
      | inr some ↦ (
          let above : (entry.position == 0) ≡ false = grind (arith, nat_tests, some) in
          marked_there (not (entry.position == 0) && true) (entry.position == place + 1 && true) (ap (λ b. not b && true) above) (and_true (entry.position == place + 1) ∙ same_place some))
    ]
      where
        same_place : entry.position ≢ 0 → (entry.position == place + 1) ≡ (entry.position - 1 == place)
        same_place some = elim (cases_eq entry.position (place + 1)) [
          | inl e ↦ (
              let one : (entry.position == place + 1) ≡ true = grind (arith, nat_tests, e) in
              let other : (entry.position - 1 == place) ≡ true = grind (arith, nat_tests, e) in
              one ∙ sym other)
          | inr e ↦ (
              let one : (entry.position == place + 1) ≡ false = grind (arith, nat_tests, e) in
              let apart : entry.position - 1 ≢ place = λ is. e (omega (arith, is, some)) in
              let other : (entry.position - 1 == place) ≡ false = grind (arith, nat_tests, apart) in
              one ∙ sym other)
        ]

    by_device : (its : Bool) → Marked (its && (not (entry.position == 0) && is_own device all entry.noted.event)) (its && (entry.position == place + 1 && is_own device all entry.noted.event))
    by_device true = of_device (is_own device all entry.noted.event)
    by_device false = unmarked false false refl refl

    marked_one : held_at (marked_by device all held entry) place ≡ (held_at held place || is_kept_at device (place + 1) all entry)
    marked_one = by_device (entry.device == device)

-- ---- passes

module _ (device : ℕ) where
  length_marked : (all entries : List PassEntry) (held : List Bool) → length (fold (marked_by device all) held entries) ≡ length held
  length_marked all [] held = refl
  length_marked all (entry ∷ entries) held = length_marked all entries (marked_by device all held entry) ∙ length_marked_by device all entry held

  length_marked_slots : (slots : List SlotRecord) (held : List Bool) → length (fold (marked_by_slot device) held slots) ≡ length held
  length_marked_slots [] held = refl
  length_marked_slots (slot ∷ slots) held = length_marked_slots slots (marked_by_slot device held slot) ∙ length_marked slot.pass.entries slot.pass.entries held

  module _ (place : ℕ) where
    marked_entries : (all entries : List PassEntry) (held : List Bool) → place < length held → held_at (fold (marked_by device all) held entries) place ≡ (held_at held place || list_any (is_kept_at device (place + 1) all) entries)
    marked_entries all [] held within = sym (or_false (held_at held place))
    marked_entries all (entry ∷ entries) held within =
        let long = length_marked_by device all entry held in
        let keeps = is_kept_at device (place + 1) all in
        marked_entries all entries (marked_by device all held entry) (omega (arith, within, long))
        ∙ (ap (λ b. b || list_any (is_kept_at device (place + 1) all) entries) (marked_one device all entry held place within)
        ∙ or_assoc (held_at held place) (is_kept_at device (place + 1) all entry) (list_any (is_kept_at device (place + 1) all) entries))

    marked_slots : (slots : List SlotRecord) (held : List Bool) → place < length held → held_at (fold (marked_by_slot device) held slots) place ≡ (held_at held place || list_any (slot_keeps_at device (place + 1)) slots)
    marked_slots [] held within = sym (or_false (held_at held place))
    marked_slots (slot ∷ slots) held within =
        let long = length_marked slot.pass.entries slot.pass.entries held in
        marked_slots slots (marked_by_slot device held slot) (omega (arith, within, long))
        ∙ (ap (λ b. b || list_any (slot_keeps_at device (place + 1)) slots) (marked_entries slot.pass.entries slot.pass.entries held within)
        ∙ or_assoc (held_at held place) (slot_keeps_at device (place + 1) slot) (list_any (slot_keeps_at device (place + 1)) slots))

    marked_passes : (passes : List PassState) (held : List Bool) → place < length held → held_at (fold (marked_by_pass device) held passes) place ≡ (held_at held place || list_any (keeps_at device (place + 1)) passes)
    marked_passes [] held within = sym (or_false (held_at held place))
    marked_passes (pass ∷ passes) held within =
        let long = length_marked pass.entries pass.entries held in
        marked_passes passes (marked_by_pass device held pass) (omega (arith, within, long))
        ∙ (ap (λ b. b || list_any (keeps_at device (place + 1)) passes) (marked_entries pass.entries pass.entries held within)
        ∙ or_assoc (held_at held place) (keeps_at device (place + 1) pass) (list_any (keeps_at device (place + 1)) passes))

    pub holders_told : (slots : List SlotRecord) (operators : List PassState) (count : ℕ) → place < count → held_at (held_places slots operators device count) place ≡ is_kept slots operators device (place + 1)
    holders_told slots operators count within =
        let fresh : List Bool = replicate count false in
        let long : length fresh ≡ count = length-replicate count false in
        let longer = length_marked_slots slots fresh in
        marked_passes operators (fold (marked_by_slot device) fresh slots) (omega (arith, within, long, longer))
        ∙ ap (λ b. b || list_any (keeps_at device (place + 1)) operators)
        (marked_slots slots fresh (omega (arith, within, long)) ∙ ap (λ b. b || list_any (slot_keeps_at device (place + 1)) slots) (get_or-replicate count place false false within))
