-- Change sets whose commit may come to a device are ready or ended, and of two with a device in common one is ended.
use Rattle.std.proofs.Common.{◌≡◌, ◌∙◌, ◌⊎◌, inl, inr, ℕ, ◌+◌, ◌-◌, ◌==◌, Bool, true, false, nat_eq, ◌||◌, List, [], ◌∷◌, ◌++◌, Some, slice_get, refl, sym, ap, arith}
use Rattle.std.proofs.lemmas.Bool.Decides.{nat_tests}
use Rattle.std.specs.List.{list_any}
use Rattle.nm_base.specs.Mask.{mask_contains}
use Rattle.nm_order.specs.declared.ticket.Ticket.{Ticket}
use Rattle.nm_proto.specs.declared.journal.Entry.{Entry}
use Rattle.nm_proto.specs.declared.plan.ChangePlan.{ChangePlan}
use Rattle.nm_proto.specs.Plan.{devices_in}
use Rattle.nm_journal.specs.Entries.{ends}
use Rattle.nm_recovery.specs.Recovery.{is_ended_in}
use Rattle.nm_manager.specs.Queues.{is_ready_in, tickets_in}
use Rattle.nm_safety.proofs.Entries.{any_later, nat_same, ready_is_open}
use Rattle.nm_safety.proofs.Lists.{some_is, to_some}
use Rattle.nm_safety.proofs.Tickets.{AreTickets, IsPlanTicket}
use Rattle.nm_safety.proofs.Ready.{HasDevice, one_ready, ready_next}

pub same_nat : (a b : ℕ) → (a == b) ≡ true → a ≡ b
same_nat a b e = grind (arith, nat_tests)

not_itself : (a b : ℕ) → (a == b) ≡ false → a ≡ b → ⊥
not_itself a b e is = grind (arith, nat_tests, e, is)

last_ended : (test : Entry → Bool) (entries : List Entry) (entry : Entry) → test entry ≡ true → list_any test (entries ++ entry ∷ []) ≡ true
last_ended test [] entry e = ap (λ b. b || false) e
last_ended test (first ∷ entries) entry e = or_right (test first) (list_any test (entries ++ entry ∷ [])) (last_ended test entries entry e)
  where
    or_right : (a b : Bool) → b ≡ true → (a || b) ≡ true
    or_right true b e = refl
    or_right false b e = e

-- a change set that is for a device, counted from 0, and is ready or ended
pub record IsKnown (plans : List ChangePlan) (entries : List Entry) (n d : ℕ) : Type 0 where
  pub begun : (is_ready_in entries n ≡ true) ⊎ (is_ended_in n entries ≡ true)
  pub plan : ChangePlan
  pub planned : slice_get plans (n - 1) ≡ Some plan
  pub member : mask_contains (devices_in plan.edits) (d + 1) ≡ true

module _ (plans : List ChangePlan) (entries : List Entry) where
  pub ended_later : (n : ℕ) (entry : Entry) → is_ended_in n entries ≡ true → is_ended_in n (entries ++ entry ∷ []) ≡ true
  ended_later n entry = any_later (ends n) entries entry

  begun_later : (n : ℕ) (entry : Entry) → (is_ready_in entries n ≡ true) ⊎ (is_ended_in n entries ≡ true)
      → (is_ready_in (entries ++ entry ∷ []) n ≡ true) ⊎ (is_ended_in n (entries ++ entry ∷ []) ≡ true)
  begun_later n entry (inr ended) = inr (ended_later n entry ended)
  begun_later n entry (inl ready) = by_end (ends n entry) refl
    where
      by_end : (b : Bool) → ends n entry ≡ b
          → (is_ready_in (entries ++ entry ∷ []) n ≡ true) ⊎ (is_ended_in n (entries ++ entry ∷ []) ≡ true)
      by_end false e = inl (ready_next n entries entry ready (ready_is_open entries n ready) e)
      by_end true e = inr (last_ended (ends n) entries entry e)

  pub known_later : (entry : Entry) (n d : ℕ) → IsKnown plans entries n d → IsKnown plans (entries ++ entry ∷ []) n d
  known_later entry n d k = record { begun = begun_later n entry k.begun; plan = k.plan; planned = k.planned; member = k.member }

  has_device : AreTickets plans entries → (n d : ℕ) → IsKnown plans entries n d → HasDevice entries (d + 1) n (tickets_in entries)
  has_device tickets n d k i =
      to_some (λ ticket. nat_eq n ticket.change ≡ true → mask_contains ticket.devices.0 (d + 1) ≡ true) (slice_get (tickets_in entries) i)
      (λ (ticket : Ticket) found same.
      let fits : IsPlanTicket plans ticket = some_is ticket (IsPlanTicket plans) (slice_get (tickets_in entries) i) found (tickets i) in
      let place : slice_get plans (ticket.change - 1) ≡ Some k.plan =
      ap (λ c. slice_get plans (c - 1)) (sym (nat_same n ticket.change same)) ∙ k.planned in
      let devices : ticket.devices.0 ≡ devices_in k.plan.edits =
      some_is k.plan (λ one. ticket.devices.0 ≡ devices_in one.edits) (slice_get plans (ticket.change - 1)) place fits in
      ap (λ mask. mask_contains mask (d + 1)) devices ∙ k.member)

  -- where one is ready, another for the same device is ended
  pub other_ended : AreTickets plans entries → (c n d : ℕ) → is_ready_in entries c ≡ true → IsKnown plans entries c d
      → IsKnown plans entries n d → (n == c) ≡ false → is_ended_in n entries ≡ true
  other_ended tickets c n d ready kc kn other = by_begun kn.begun
    where
      by_begun : (is_ready_in entries n ≡ true) ⊎ (is_ended_in n entries ≡ true) → is_ended_in n entries ≡ true
      by_begun (inr ended) = ended
      by_begun (inl also) =
          absurd (not_itself n c other
          (one_ready entries (d + 1) n c (has_device tickets n d kn) (has_device tickets c d kc) also ready))
