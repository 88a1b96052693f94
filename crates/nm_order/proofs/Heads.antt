-- Who heads all queues.
use Rattle.std.proofs.Common.{◌≡◌, inl, inr, ℕ, true, false, List, [], ◌∷◌, ◌++◌, nat_eq, refl, arith}
use Rattle.std.specs.List.{list_any, list_all}
use Rattle.std.proofs.lemmas.Bool.{cases_Bool}
use Rattle.std.proofs.lemmas.Bool.Decides.{nat_tests}
use Rattle.std.proofs.lemmas.List.Folds.{list_any-append}
use Rattle.nm_order.specs.declared.ticket.Ticket.{Ticket}
use Rattle.nm_order.specs.Queue.{is_of, is_done, waits_for, heads_all, ready_behind, shares_with, are_apart}

-- a ticket stands before, so that each that waits for it waits for one before
abbrev IsBefore : ℕ → Ticket → List Ticket → Type 0
IsBefore finished ticket before = (later : Ticket) → waits_for finished later ticket ≡ true → list_any (waits_for finished later) before ≡ true

still_before : (finished : ℕ) (ticket : Ticket) (before : List Ticket) (next : Ticket) → IsBefore finished ticket before → IsBefore finished ticket (before ++ next ∷ [])
still_before finished ticket before next is later waits =
    let old = is later waits in
    let split = list_any-append (waits_for finished later) before (next ∷ []) in
    grind (arith, nat_tests)

now_before : (finished : ℕ) (ticket : Ticket) (before : List Ticket) → IsBefore finished ticket (before ++ ticket ∷ [])
now_before finished ticket before later waits =
    let split = list_any-append (waits_for finished later) before (ticket ∷ []) in
    grind (arith, nat_tests)

-- a ticket that is behind an unfinished one with which it shares a device isn't ready
held_up : (finished : ℕ) (ticket later : Ticket) (before : List Ticket) → is_done finished ticket ≡ false → IsBefore finished ticket before
    → heads_all finished before later ≡ true → shares_with ticket later ≡ false
held_up finished ticket later before unfinished is heads = elim (cases_Bool (shares_with ticket later)) [
  | inl shares ↦ let waits = is later (grind (arith, nat_tests)) in absurd (grind (arith, nat_tests))
  | inr apart ↦ apart
]

none_shares : (finished : ℕ) (ticket : Ticket) (before later : List Ticket) → is_done finished ticket ≡ false → IsBefore finished ticket before
    → list_any (shares_with ticket) (ready_behind finished before later) ≡ false
none_shares finished ticket before [] unfinished is = refl
none_shares finished ticket before (next ∷ later) unfinished is =
    let rest = none_shares finished ticket (before ++ next ∷ []) later unfinished (still_before finished ticket before next is) in
    elim (cases_Bool (heads_all finished before next)) [
      | inl heads ↦ let apart = held_up finished ticket next before unfinished is heads in rw heads (rw apart rest)
      | inr held ↦ rw held rest
    ]

pub ready_apart : (finished : ℕ) (before later : List Ticket) → are_apart (ready_behind finished before later) ≡ true
ready_apart finished before [] = refl
ready_apart finished before (next ∷ later) =
    let rest = ready_apart finished (before ++ next ∷ []) later in
    elim (cases_Bool (heads_all finished before next)) [
      | inl heads ↦
          let unfinished : is_done finished next ≡ false = grind (arith, nat_tests) in
          let none = none_shares finished next (before ++ next ∷ []) later unfinished (now_before finished next before) in
          rw heads (rw none rest)
      | inr held ↦ rw held rest
    ]

none_waits : (finished : ℕ) (ticket : Ticket) (before : List Ticket) → list_all (is_done finished) before ≡ true → list_any (waits_for finished ticket) before ≡ false
none_waits finished ticket [] done = refl
none_waits finished ticket (first ∷ before) done =
    let first_done : is_done finished first ≡ true = grind (arith, nat_tests) in
    let rest_done : list_all (is_done finished) before ≡ true = grind (arith, nat_tests) in
    let rest = none_waits finished ticket before rest_done in
    grind (arith, nat_tests)

all_done_more : (finished : ℕ) (seen : List Ticket) (next : Ticket) → list_all (is_done finished) seen ≡ true → is_done finished next ≡ true → list_all (is_done finished) (seen ++ next ∷ []) ≡ true
all_done_more finished [] next seen_done next_done = rw next_done refl
all_done_more finished (first ∷ seen) next seen_done next_done =
    let first_done : is_done finished first ≡ true = grind (arith, nat_tests) in
    let rest_done : list_all (is_done finished) seen ≡ true = grind (arith, nat_tests) in
    rw first_done (all_done_more finished seen next rest_done next_done)

pub first_ready : (finished : ℕ) (seen before later : List Ticket) (ticket : Ticket) → list_all (is_done finished) seen ≡ true → list_all (is_done finished) before ≡ true → is_done finished ticket ≡ false
    → list_any (is_of ticket.change) (ready_behind finished seen (before ++ ticket ∷ later)) ≡ true
first_ready finished seen [] later ticket seen_done before_done unfinished =
    let none = none_waits finished ticket seen seen_done in
    let heads : heads_all finished seen ticket ≡ true = grind (arith, nat_tests) in
    let same : nat_eq ticket.change ticket.change ≡ true = grind (arith, nat_tests) in
    rw heads (rw same refl)
first_ready finished seen (first ∷ before) later ticket seen_done before_done unfinished =
    let first_done : is_done finished first ≡ true = grind (arith, nat_tests) in
    let rest_done : list_all (is_done finished) before ≡ true = grind (arith, nat_tests) in
    let held : heads_all finished seen first ≡ false = grind (arith, nat_tests) in
    rw held (first_ready finished (seen ++ first ∷ []) before later ticket (all_done_more finished seen first seen_done first_done) rest_done unfinished)
