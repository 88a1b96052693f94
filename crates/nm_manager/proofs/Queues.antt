-- The queues that the entries tell.
use Rattle.std.proofs.Common.{◌≡◌, inl, inr, ℕ, zero, suc, length, take, get_or, append_assoc, ◌<◌, ◌-◌, ◌==◌, Bool, true, false, ◌||◌, ◌&&◌, List, [], ◌∷◌, ◌++◌, nat_eq, Option, refl, sym, ap, ◌∙◌, arith}
use Rattle.std.specs.List.{list_any, All}
use Rattle.std.proofs.lemmas.Bool.{cases_Bool}
use Rattle.std.proofs.lemmas.Bool.Decides.{nat_tests}
use Rattle.std.proofs.lemmas.List.Folds.{list_any-append}
use Rattle.std.proofs.lemmas.List.Elements.{All-nil, All-head, All-tail, All-push, All-weaker}
use Rattle.std.proofs.lemmas.Grind.{flat_map-append}
use Rattle.std.proofs.lemmas.Nat.Bits.{bit_at-zero}
use Rattle.nm_base.specs.Mask.{mask_contains, AddsToMask}
use Rattle.nm_base.specs.declared.mask.DeviceMask.{DeviceMask}
use Rattle.nm_order.specs.declared.ticket.Ticket.{Ticket}
use Rattle.nm_order.specs.Queue.{OrderState, no_tickets, is_of, waits_for, heads_all, ready_behind, is_ready, is_submitted, is_finished}
use Rattle.nm_proto.specs.declared.journal.Entry.{Entry}
use Rattle.nm_proto.specs.declared.journal.Entry.TheVariants.{Started, Decided, Ended}
use Rattle.nm_proto.specs.declared.journal.Verdict.{Verdict}
use Rattle.nm_journal.specs.Entries.{follow_on, starts, ends, starts_over, may_follow}
use Rattle.nm_recovery.specs.Recovery.{is_ended_in}
use Rattle.nm_manager.specs.Queues.{tickets_by, tickets_in, holds_up, goes_first, ready_among, is_ready_in, IsOrderOf}
use Rattle.nm_manager.proofs.Lists.{append_nil}

-- a change set is in the queues where it was started
pub submitted_is : (entries : List Entry) (change : ℕ) → list_any (is_of change) (tickets_in entries) ≡ list_any (starts change) entries
submitted_is [] change = refl
submitted_is (Started other devices timeout ∷ entries) change = ap (λ b. nat_eq change other || b) (submitted_is entries change)
submitted_is (Decided other verdict ∷ entries) change = submitted_is entries change
submitted_is (Ended other kept ∷ entries) change = submitted_is entries change

-- who is started with some devices is started
pub over_is_started : (entries : List Entry) (change kept : ℕ) → list_any (starts_over change kept) entries ≡ true → list_any (starts change) entries ≡ true
over_is_started [] change kept h = h
over_is_started (Started other devices timeout ∷ entries) change kept h = elim (cases_Bool (nat_eq change other)) [
  | inl same ↦ rw same refl
  | inr different ↦ let rest : list_any (starts_over change kept) entries ≡ true = grind (arith, nat_tests) in let e = over_is_started entries change kept rest in grind (arith, nat_tests)
]
over_is_started (Decided other verdict ∷ entries) change kept h = over_is_started entries change kept h
over_is_started (Ended other others ∷ entries) change kept h = over_is_started entries change kept h

-- ---- who is ready

abbrev Agrees : ℕ → List Entry → Ticket → Type 0
Agrees finished entries ticket = mask_contains finished ticket.change ≡ is_ended_in ticket.change entries

waits_same : (finished : ℕ) (entries : List Entry) (ticket : Ticket) (before : List Ticket) → All (Agrees finished entries) before
    → list_any (waits_for finished ticket) before ≡ list_any (holds_up entries ticket) before
waits_same finished entries ticket [] h = refl
waits_same finished entries ticket (first ∷ before) h =
    let e = All-head (Agrees finished entries) first before h in
    let rest = waits_same finished entries ticket before (All-tail (Agrees finished entries) first before h) in
    rw (e, rest) refl

heads_same : (finished : ℕ) (entries : List Entry) (before : List Ticket) (ticket : Ticket) → All (Agrees finished entries) before → Agrees finished entries ticket
    → heads_all finished before ticket ≡ goes_first entries before ticket
heads_same finished entries before ticket h own = let e = waits_same finished entries ticket before h in rw (own, e) refl

ready_same : (finished change : ℕ) (entries : List Entry) (before later : List Ticket) → All (Agrees finished entries) before → All (Agrees finished entries) later
    → list_any (is_of change) (ready_behind finished before later) ≡ ready_among entries change before later
ready_same finished change entries before [] h k = refl
ready_same finished change entries before (ticket ∷ later) h k =
    let own = All-head (Agrees finished entries) ticket later k in
    let heads = heads_same finished entries before ticket h own in
    let rest = ready_same finished change entries (before ++ ticket ∷ []) later (All-push (Agrees finished entries) before ticket h own) (All-tail (Agrees finished entries) ticket later k) in
    elim (cases_Bool (heads_all finished before ticket)) [
      | inl first ↦ let goes : goes_first entries before ticket ≡ true = sym heads ∙ first in rw first (rw (goes, rest) (and_true (nat_eq change ticket.change) (ready_among entries change (before ++ ticket ∷ []) later)))
      | inr held ↦ let waits : goes_first entries before ticket ≡ false = sym heads ∙ held in rw held (rw (waits, rest) (and_false (nat_eq change ticket.change) (ready_among entries change (before ++ ticket ∷ []) later)))
    ]
  where
    and_true : (a b : Bool) → (a || b) ≡ ((a && true) || b)
    and_true true b = refl
    and_true false b = refl

    and_false : (a b : Bool) → b ≡ ((a && false) || b)
    and_false true b = refl
    and_false false b = refl

pub order_ready : (entries : List Entry) (order : OrderState) (change : ℕ) → IsOrderOf entries order → is_ready order change ≡ is_ready_in entries change
order_ready entries order change is =
    let agree : All (Agrees order.finished entries) order.tickets =
    All-weaker (λ ticket. 0 < ticket.change) (Agrees order.finished entries) (λ ticket positive. is.finished ticket.change positive) order.tickets is.numbered in
    ready_same order.finished change entries [] order.tickets (All-nil (Agrees order.finished entries)) agree
    ∙ ap (ready_among entries change []) is.tickets

-- ---- entries come

pub no_order : IsOrderOf [] no_tickets
unfolding mask_contains
no_order = record { tickets = refl; numbered = All-nil (λ ticket. 0 < ticket.change); finished = λ change positive. ap (λ b. b == 1) (bit_at-zero (change - 1)) }

not_ended : (a b : Bool) → a ≡ b → a ≡ (b || (false || false))
not_ended true b h = rw (← h) refl
not_ended false b h = rw (← h) refl

pub order_started : (entries : List Entry) (order : OrderState) (change : ℕ) (devices : DeviceMask) (timeout : Option ℕ) → 0 < change → IsOrderOf entries order
    → IsOrderOf (entries ++ Started change devices timeout ∷ []) (record order { tickets = order.tickets ++ record { change = change; devices = devices } ∷ [] })
order_started entries order change devices timeout positive is =
    let entry = Started change devices timeout in
    let ticket : Ticket = record { change = change; devices = devices } in
    record {
      tickets = ap (λ l. l ++ ticket ∷ []) is.tickets ∙ sym (flat_map-append tickets_by entries (entry ∷ []));
      numbered = All-push (λ (t : Ticket). 0 < t.change) order.tickets ticket is.numbered positive;
      finished = λ other h. not_ended (mask_contains order.finished other) (list_any (ends other) entries) (is.finished other h) ∙ sym (list_any-append (ends other) entries (entry ∷ []));
    }

pub order_decided : (entries : List Entry) (order : OrderState) (change : ℕ) (verdict : Verdict) → IsOrderOf entries order → IsOrderOf (entries ++ Decided change verdict ∷ []) order
order_decided entries order change verdict is =
    let entry = Decided change verdict in
    record {
      tickets = is.tickets ∙ sym (append_nil (tickets_in entries)) ∙ sym (flat_map-append tickets_by entries (entry ∷ []));
      numbered = is.numbered;
      finished = λ other h. not_ended (mask_contains order.finished other) (list_any (ends other) entries) (is.finished other h) ∙ sym (list_any-append (ends other) entries (entry ∷ []));
    }

now_ended : (a b c d : Bool) → d ≡ (a || c) → a ≡ b → d ≡ (b || (c || false))
now_ended true b c d h e = rw (← e) (h ∙ refl)
now_ended false b true d h e = rw (← e) h
now_ended false b false d h e = rw (← e) h

pub order_ended : (entries : List Entry) (order now : OrderState) (change : ℕ) (kept : DeviceMask) → AddsToMask order.finished now.finished change → now ≡ record order { finished = now.finished }
    → IsOrderOf entries order → IsOrderOf (entries ++ Ended change kept ∷ []) now
order_ended entries order now change kept adds others is =
    let entry = Ended change kept in
    let same : now.tickets ≡ order.tickets = ap (λ (o : OrderState). o.tickets) others in
    record {
      tickets = same ∙ is.tickets ∙ sym (append_nil (tickets_in entries)) ∙ sym (flat_map-append tickets_by entries (entry ∷ []));
      numbered = rw same is.numbered;
      finished = λ other h. now_ended (mask_contains order.finished other) (list_any (ends other) entries) (nat_eq other change) (mask_contains now.finished other) (adds other h) (is.finished other h) ∙ sym (list_any-append (ends other) entries (entry ∷ []));
    }

-- ---- an entry may come next

pub starts_once : (entries : List Entry) (change : ℕ) (devices : DeviceMask) (timeout : Option ℕ) → may_follow entries (Started change devices timeout) ≡ true → list_any (starts change) entries ≡ false
starts_once entries change devices timeout h = grind (arith, nat_tests)

pub ends_once : (entries : List Entry) (change : ℕ) (kept : DeviceMask) → may_follow entries (Ended change kept) ≡ true → list_any (ends change) entries ≡ false
ends_once entries change kept h = grind (arith, nat_tests)

pub ended_is_started : (entries : List Entry) (change : ℕ) (kept : DeviceMask) → may_follow entries (Ended change kept) ≡ true → list_any (starts change) entries ≡ true
ended_is_started entries change kept h =
    let over : list_any (starts_over change kept.0) entries ≡ true = grind (arith, nat_tests) in
    over_is_started entries change kept.0 over

pub comes_once : (entries : List Entry) (order : OrderState) (entry : Entry) (change : ℕ) (devices : DeviceMask) (timeout : Option ℕ) → IsOrderOf entries order
    → entry ≡ Started change devices timeout → may_follow entries entry ≡ true → is_submitted order change ≡ false
comes_once entries order entry change devices timeout is same may =
    ap (list_any (is_of change)) is.tickets ∙ submitted_is entries change ∙ starts_once entries change devices timeout (ap (may_follow entries) (sym same) ∙ may)

pub came_before : (entries : List Entry) (order : OrderState) (entry : Entry) (change : ℕ) (kept : DeviceMask) → IsOrderOf entries order
    → entry ≡ Ended change kept → may_follow entries entry ≡ true → is_submitted order change ≡ true
came_before entries order entry change kept is same may =
    ap (list_any (is_of change)) is.tickets ∙ submitted_is entries change ∙ ended_is_started entries change kept (ap (may_follow entries) (sym same) ∙ may)

is_numbered : (entries : List Entry) (change : ℕ) (kept : DeviceMask) → may_follow entries (Ended change kept) ≡ true → 0 < change
is_numbered entries change kept h = grind (arith, nat_tests)

pub goes_once : (entries : List Entry) (order : OrderState) (entry : Entry) (change : ℕ) (kept : DeviceMask) → IsOrderOf entries order
    → entry ≡ Ended change kept → may_follow entries entry ≡ true → is_finished order change ≡ false
goes_once entries order entry change kept is same may =
    is.finished change (is_numbered entries change kept (ap (may_follow entries) (sym same) ∙ may)) ∙ ends_once entries change kept (ap (may_follow entries) (sym same) ∙ may)

-- ---- a whole list

first_true : (a b : Bool) → (a && b) ≡ true → a ≡ true
first_true true b h = refl
first_true false b h = h

second_true : (a b : Bool) → (a && b) ≡ true → b ≡ true
second_true true b h = h
second_true false b h = absurd (let e : false ≡ true = h in cc)

pub follows_at : (before entries : List Entry) (i : ℕ) (d : Entry) → i < length entries → follow_on before entries ≡ true → may_follow (before ++ take i entries) (get_or entries i d) ≡ true
follows_at before [] i d h f = absurd (omega arith)
follows_at before (entry ∷ entries) zero d h f = rw (append_nil before) (first_true (may_follow before entry) (follow_on (before ++ entry ∷ []) entries) f)
follows_at before (entry ∷ entries) (suc i) d h f =
    let rest = follows_at (before ++ entry ∷ []) entries i d (omega arith) (second_true (may_follow before entry) (follow_on (before ++ entry ∷ []) entries) f) in
    ap (λ l. may_follow l (get_or entries i d)) (sym (append_assoc before (entry ∷ []) (take i entries))) ∙ rest

pub order_follows : (before : List Entry) (order : OrderState) (entry : Entry) (change : ℕ) (devices : DeviceMask) (timeout : Option ℕ) → IsOrderOf before order
    → entry ≡ Started change devices timeout → may_follow before entry ≡ true → IsOrderOf (before ++ entry ∷ []) (record order { tickets = order.tickets ++ record { change = change; devices = devices } ∷ [] })
order_follows before order entry change devices timeout is same may =
    let numbered : 0 < change = starts_numbered before change devices timeout (ap (may_follow before) (sym same) ∙ may) in
    rw same (order_started before order change devices timeout numbered is)
  where
    starts_numbered : (entries : List Entry) (change : ℕ) (devices : DeviceMask) (timeout : Option ℕ) → may_follow entries (Started change devices timeout) ≡ true → 0 < change
    starts_numbered entries change devices timeout h = grind (arith, nat_tests)
