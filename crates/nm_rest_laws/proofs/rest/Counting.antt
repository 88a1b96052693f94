-- How many change sets aren't ended, and which of them is the first that is ready.
use Rattle.std.proofs.Common.{◌≡◌, ◌∙◌, ℕ, zero, suc, ◌+◌, ◌≤◌, ◌<◌, nat_eq, Bool, true, false, cond, not, ◌&&◌, ◌||◌, List, [], ◌∷◌, ◌++◌, Option, Some, None, refl, sym, ap, append-nil, arith}
use Rattle.std.specs.List.{list_any}
use Rattle.std.proofs.lemmas.List.Folds.{list_any-append}
use Rattle.std.proofs.lemmas.Option.{none-some, same_Some}
use Rattle.nm_order.specs.declared.ticket.Ticket.{Ticket}
use Rattle.nm_order.specs.Queue.{share_device}
use Rattle.nm_proto.specs.declared.journal.Verdict.{Verdict}
use Rattle.nm_proto.specs.declared.journal.Entry.{Entry}
use Rattle.nm_proto.specs.declared.journal.Entry.TheVariants.{Decided, Ended}
use Rattle.nm_journal.specs.Entries.{ends}
use Rattle.nm_recovery.specs.Recovery.{is_ended_in}
use Rattle.nm_manager.specs.Queues.{tickets_in, holds_up, goes_first, ready_among, is_ready_in}
use Rattle.nm_world.specs.Drain.{found_or, first_from, ready_at, first_ready}
use Rattle.nm_world.proofs.Numbered.{found_in}
use Rattle.nm_safety.proofs.Entries.{any_later, nat_itself}
use Rattle.nm_rest_laws.specs.Closing.{sum_from}
use Rattle.nm_rest_laws.proofs.rest.PairSteps.{sum_less}
use Rattle.nm_safety.proofs.Ready.{tickets_next}

-- ---- how many aren't ended

abbrev pub if_open : Bool → ℕ
if_open true = 0
if_open false = 1

abbrev pub open_at : List Entry → ℕ → ℕ
open_at entries change = if_open (is_ended_in change entries)

abbrev pub open_count : ℕ → List Entry → ℕ
open_count changes entries = sum_from (open_at entries) 1 changes

pub ones : (f : ℕ → ℕ) → ((k : ℕ) → f k ≤ 1) → (low count : ℕ) → sum_from f low count ≤ count
unfolding sum_from
ones f each low zero = omega arith
ones f each low (suc count) = let one = each low in let rest = ones f each (low + 1) count in omega (arith, one, rest)

if_most : (b : Bool) → if_open b ≤ 1
if_most true = omega arith
if_most false = omega arith

pub open_within : (changes : ℕ) (entries : List Entry) → open_count changes entries ≤ changes
open_within changes entries = ones (open_at entries) (λ k. if_most (is_ended_in k entries)) 1 changes

if_later : (a b : Bool) → (a ≡ true → b ≡ true) → if_open b ≤ if_open a
if_later true true h = omega arith
if_later true false h = absurd (let f : false ≡ true = h refl in cc)
if_later false b h = if_most b

pub open_falls : (changes change : ℕ) (entries : List Entry) (kept : _) → 1 ≤ change → change ≤ changes → is_ended_in change entries ≡ false → suc (open_count changes (entries ++ Ended change kept ∷ [])) ≤ open_count changes entries
open_falls changes change entries kept from below open_now =
    sum_less (open_at entries) (open_at (entries ++ Ended change kept ∷ []))
    (λ k. if_later (is_ended_in k entries) (is_ended_in k (entries ++ Ended change kept ∷ [])) (any_later (ends k) entries (Ended change kept))) change less 1 changes from (omega (arith, below))
  where
    or_true : (a b : Bool) → b ≡ true → (a || (b || false)) ≡ true
    or_true true b e = refl
    or_true false true e = refl
    or_true false false e = e

    less : suc (open_at (entries ++ Ended change kept ∷ []) change) ≤ open_at entries change
    less =
        let after : open_at (entries ++ Ended change kept ∷ []) change ≡ 0 =
        ap if_open (list_any-append (ends change) entries (Ended change kept ∷ []) ∙ or_true (is_ended_in change entries) (nat_eq change change) (nat_itself change)) in
        let before : open_at entries change ≡ 1 = ap if_open open_now in
        omega (arith, after, before)

-- ---- who is ready

module _ (a b : List Entry) (same : (k : ℕ) → is_ended_in k a ≡ is_ended_in k b) where
  any_same : (f g : Ticket → Bool) → ((x : Ticket) → f x ≡ g x) → (xs : List Ticket) → list_any f xs ≡ list_any g xs
  any_same f g each [] = refl
  any_same f g each (x ∷ xs) = ap (λ one. one || list_any f xs) (each x) ∙ ap (λ rest. g x || rest) (any_same f g each xs)

  holds_same : (ticket earlier : Ticket) → holds_up a ticket earlier ≡ holds_up b ticket earlier
  holds_same ticket earlier = ap (λ e. not e && share_device earlier.devices.0 ticket.devices.0) (same earlier.change)

  goes_same : (before : List Ticket) (ticket : Ticket) → goes_first a before ticket ≡ goes_first b before ticket
  goes_same before ticket =
      ap (λ e. not e && not (list_any (holds_up a ticket) before)) (same ticket.change)
      ∙ ap (λ e. not (is_ended_in ticket.change b) && not e) (any_same (holds_up a ticket) (holds_up b ticket) (holds_same ticket) before)

  among_same : (change : ℕ) (before later : List Ticket) → ready_among a change before later ≡ ready_among b change before later
  among_same change before [] = refl
  among_same change before (ticket ∷ later) =
      ap (λ e. (nat_eq change ticket.change && e) || ready_among a change (before ++ ticket ∷ []) later) (goes_same before ticket)
      ∙ ap (λ e. (nat_eq change ticket.change && goes_first b before ticket) || e) (among_same change (before ++ ticket ∷ []) later)

  ready_same : tickets_in a ≡ tickets_in b → (change : ℕ) → is_ready_in a change ≡ is_ready_in b change
  ready_same tickets change = among_same change [] (tickets_in a) ∙ ap (ready_among b change []) tickets

found_same : {A : Type 0} (f g : ℕ → Option A) → ((k : ℕ) → f k ≡ g k) → (low count : ℕ) → first_from f low count ≡ first_from g low count
unfolding first_from
found_same f g each low zero = refl
found_same f g each low (suc count) = ap (λ o. found_or o (first_from f (low + 1) count)) (each low) ∙ ap (found_or (g low)) (found_same f g each (low + 1) count)

-- a decision makes nobody ready
pub decided_same : (changes change : ℕ) (v : Verdict) (entries : List Entry) → first_ready changes (entries ++ Decided change v ∷ []) ≡ first_ready changes entries
unfolding ready_at
decided_same changes change v entries =
    found_same (ready_at now) (ready_at entries) (λ k. ap (λ b. cond b (Some k) None) (ready_same now entries ended (tickets_next entries (Decided change v) ∙ append-nil (tickets_in entries)) k)) 1 changes
  where
    now : List Entry
    now = entries ++ Decided change v ∷ []

    or_false : (x : Bool) → (x || (false || false)) ≡ x
    or_false true = refl
    or_false false = refl

    ended : (k : ℕ) → is_ended_in k now ≡ is_ended_in k entries
    ended k = list_any-append (ends k) entries (Decided change v ∷ []) ∙ or_false (is_ended_in k entries)

-- nor does it end any
pub decided_open : (changes change : ℕ) (v : Verdict) (entries : List Entry) → open_count changes (entries ++ Decided change v ∷ []) ≡ open_count changes entries
unfolding sum_from
decided_open changes change v entries = sums_same (open_at (entries ++ Decided change v ∷ [])) (open_at entries) (λ k. ap if_open (list_any-append (ends k) entries (Decided change v ∷ []) ∙ or_false (is_ended_in k entries))) 1 changes
  where
    or_false : (x : Bool) → (x || (false || false)) ≡ x
    or_false true = refl
    or_false false = refl

    sums_same : (f g : ℕ → ℕ) → ((k : ℕ) → f k ≡ g k) → (low count : ℕ) → sum_from f low count ≡ sum_from g low count
    sums_same f g each low zero = refl
    sums_same f g each low (suc count) = ap (λ x. x + sum_from f (low + 1) count) (each low) ∙ ap (λ x. g low + x) (sums_same f g each (low + 1) count)

-- the first that is ready
pub record IsFirst (changes : ℕ) (entries : List Entry) (change : ℕ) : Type 0 where
  pub from : 1 ≤ change
  pub below : change ≤ changes
  pub ready : is_ready_in entries change ≡ true

pub is_first : (changes : ℕ) (entries : List Entry) (change : ℕ) → first_ready changes entries ≡ Some change → IsFirst changes entries change
unfolding ready_at
is_first changes entries change e =
    let f = found_in (ready_at entries) 1 changes change e in
    by_ready f.number (is_ready_in entries f.number) refl f.from f.below f.found
  where
    by_ready : (number : ℕ) (b : Bool) → is_ready_in entries number ≡ b → 1 ≤ number → number < 1 + changes → cond b (Some number) None ≡ Some change → IsFirst changes entries change
    by_ready number false r from below found = absurd (none-some change found)
    by_ready number true r from below found =
        let same : number ≡ change = same_Some number change found in
        record { from = omega (arith, from, same); below = omega (arith, below, same); ready = ap (is_ready_in entries) (sym same) ∙ r }
