-- The board before anything happened.
use Rattle.std.proofs.Common.{◌≡◌, ℕ, zero, suc, ◌+◌, ◌-◌, ◌*◌, ◌<◌, ◌≤◌, ◌==◌, Bool, true, false, None, inl, inr, List, [], ◌∷◌, length, map, replicate, refl, sym, ap, ◌∙◌, subst, slice_index_or, arith, if◌then◌else◌}
use Rattle.std.specs.List.{All, sum_by}
use Rattle.std.proofs.lemmas.Bool.{cases_lt}
use Rattle.std.proofs.lemmas.Nat.Bits.{bit_at-zero}
use Rattle.std.proofs.lemmas.List.{get_or-replicate, length-replicate}
use Rattle.std.proofs.lemmas.List.Elements.{All-map}
use Rattle.std.proofs.lemmas.List.Folds.{sum_by-replicate}
use Rattle.std.proofs.lemmas.List.Sums.{sum_by-cons}
use Rattle.nm_base.specs.Mask.{mask_contains}
use Rattle.nm_proto.specs.declared.plan.ChangePlan.{ChangePlan}
use Rattle.nm_chronicle.specs.Line.{LineState, LineHolds, count_to, size, phase_of, phase_weight, line_weight, fresh_line}
use Rattle.nm_chronicle.specs.Board.{BoardState, BoardHolds, devices_of, line_devices, counted, fresh_board}

none_contained : (d : ℕ) → mask_contains 0 d ≡ false
unfolding mask_contains
none_contained d = ap (λ b. b == 1) (bit_at-zero (d - 1))

none_counted : (n : ℕ) → 0 ≡ count_to 0 n
none_counted zero = refl
none_counted (suc n) = none_counted n ∙ ap (λ b. if b then count_to 0 n + 1 else count_to 0 n) (sym (none_contained (suc n)))

none_of_32 : 0 ≡ size 0
unfolding size
none_of_32 = none_counted 32

abbrev zeros : ℕ → List ℕ
zeros n = replicate n 0

no_phase : (n i : ℕ) → slice_index_or (zeros n) i 0 ≡ 0
no_phase zero i = refl
no_phase (suc n) zero = refl
no_phase (suc n) (suc i) = no_phase n i

zero_is_not : (n m : ℕ) → n ≡ 0 → n ≡ suc m → false ≡ true
zero_is_not n m none some = absurd (omega (arith, none, some))

never : (d : ℕ) → mask_contains 0 d ≡ true → ⊥
never d there = let none = none_contained d in cc

fresh_line_holds : (n devices : ℕ) → LineHolds (fresh_line n devices)
fresh_line_holds n devices = record {
  acked = none_of_32;
  applied_first = λ d pos there. absurd (never d there);
  all_acked = λ commit. cc;
  confirmed = λ d pos is. zero_is_not (phase_of (fresh_line n devices) d) 1 (no_phase n (d - 1)) is;
  cancelled = λ d pos is. zero_is_not (phase_of (fresh_line n devices) d) 3 (no_phase n (d - 1)) is;
  in_order = λ d pos less. no_phase n (d - 1);
  its_own = λ d pos out. no_phase n (d - 1);
}

no_weight : (n devices : ℕ) → line_weight (fresh_line n devices) ≡ 0
no_weight n devices = let s = sum_by-replicate phase_weight n 0 in omega (arith, s)

add_none : (a b : ℕ) → a ≡ 0 → 0 ≡ b → 0 ≡ a + b
add_none a b one more = omega (arith, one, more)

no_weights : (n : ℕ) (changes : List ChangePlan) → 0 ≡ sum_by line_weight (map (λ plan. fresh_line n (devices_of plan)) changes)
no_weights n [] = refl
no_weights n (plan ∷ changes) =
    let rest = map (λ plan. fresh_line n (devices_of plan)) changes in
    add_none (line_weight (fresh_line n (devices_of plan))) (sum_by line_weight rest) (no_weight n (devices_of plan)) (no_weights n changes) ∙ sym (sum_by-cons line_weight (fresh_line n (devices_of plan)) rest)

same_devices : (n : ℕ) (changes : List ChangePlan) → map line_devices (map (λ plan. fresh_line n (devices_of plan)) changes) ≡ map devices_of changes
same_devices n [] = refl
same_devices n (plan ∷ changes) = ap (λ ds. devices_of plan ∷ ds) (same_devices n changes)

every : {X : Type 0} (P : X → Type 0) → ((x : X) → P x) → (xs : List X) → All P xs
every P f xs = λ k d within. f (slice_index_or xs k d)

fresh_board_holds : (n : ℕ) (changes : List ChangePlan) → BoardHolds n changes (fresh_board n changes)
fresh_board_holds n changes = record {
  devices_are = refl;
  changes_are = same_devices n changes;
  phases_are = All-map (λ line. length line.phases ≡ n) (λ plan. fresh_line n (devices_of plan)) changes (every (λ plan. length (fresh_line n (devices_of plan)).phases ≡ n) (λ plan. length-replicate n 0) changes);
  lines_hold = All-map LineHolds (λ plan. fresh_line n (devices_of plan)) changes (every (λ plan. LineHolds (fresh_line n (devices_of plan))) (λ plan. fresh_line_holds n (devices_of plan)) changes);
}

-- what is true of every chronicle, at the beginning
pub fresh_holds : (n devices : ℕ) (plans changes : List ChangePlan) (lines : List LineState) → n ≡ devices → plans ≡ changes → lines ≡ map (λ plan. fresh_line n (devices_of plan)) plans
    → BoardHolds devices changes (record { devices = n; lines = lines }) × (0 ≡ counted lines [])
fresh_holds n devices plans changes lines many those are = (
  subst (λ ls. BoardHolds devices changes (record { devices = n; lines = ls })) (sym are) (subst (λ d. BoardHolds d changes (fresh_board n plans)) many (subst (λ cs. BoardHolds n cs (fresh_board n plans)) those (fresh_board_holds n plans))),
  (let zero_ = no_weights n plans in let same : sum_by line_weight lines ≡ sum_by line_weight (map (λ plan. fresh_line n (devices_of plan)) plans) = ap (sum_by line_weight) are in omega (arith, zero_, same)),
)
