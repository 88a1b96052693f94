-- Who is ready stays so as entries come, until it is ended; and of two change sets with a device in common one at most is ready.
use Rattle.std.proofs.Common.{◌≡◌, ◌∙◌, ℕ, suc, ◌-◌, ◌==◌, min, Bool, true, false, not, ◌&&◌, ◌||◌, nat_eq, List, [], ◌∷◌, ◌++◌, IfSome, slice_get, refl, sym, ap, subst, append_assoc, append-nil, arith, bit_and}
use Rattle.std.specs.List.{list_any}
use Rattle.std.specs.Int.{bit_at}
use Rattle.std.proofs.lemmas.Bool.Decides.{nat_tests}
use Rattle.std.proofs.lemmas.List.Folds.{list_any-append}
use Rattle.std.proofs.lemmas.Nat.Bits.{bit_at_and, bit_at-zero}
use Rattle.nm_base.specs.Mask.{mask_contains}
use Rattle.nm_order.specs.declared.ticket.Ticket.{Ticket}
use Rattle.nm_order.specs.Queue.{share_device}
use Rattle.nm_proto.specs.declared.journal.Entry.{Entry}
use Rattle.nm_journal.specs.Entries.{ends}
use Rattle.nm_recovery.specs.Recovery.{is_ended_in}
use Rattle.nm_manager.specs.Queues.{tickets_by, tickets_in, holds_up, goes_first, ready_among, is_ready_in}
use Rattle.nm_safety.proofs.Basics.{either}
use Rattle.nm_safety.proofs.Entries.{any_later, nat_same}
use Rattle.nm_safety.proofs.Tables.{both}

or_left : (a b : Bool) → a ≡ true → (a || b) ≡ true
or_left true b e = refl
or_left false b e = absurd (let f : false ≡ true = e in cc)

or_right : (a b : Bool) → b ≡ true → (a || b) ≡ true
or_right true b e = refl
or_right false b e = e

and_so : (a b : Bool) → a ≡ true → b ≡ true → (a && b) ≡ true
and_so true b e h = h
and_so false b e h = absurd (let f : false ≡ true = e in cc)

not_so : (a b : Bool) → (b ≡ true → a ≡ true) → not a ≡ true → not b ≡ true
not_so true b h e = absurd (let f : false ≡ true = e in cc)
not_so false false h e = refl
not_so false true h e = absurd (let f : false ≡ true = h refl in cc)

not_false : (a : Bool) → a ≡ false → not a ≡ true
not_false false e = refl
not_false true e = absurd (let f : true ≡ false = e in cc)

any_so : (test other : Ticket → Bool) (xs : List Ticket) → ((x : Ticket) → test x ≡ true → other x ≡ true) → list_any test xs ≡ true → list_any other xs ≡ true
any_so test other [] h e = e
any_so test other (x ∷ xs) h e = either (test x) (list_any test xs) (list_any other (x ∷ xs) ≡ true) (λ is. or_left (other x) (list_any other xs) (h x is)) (λ is. or_right (other x) (list_any other xs) (any_so test other xs h is)) e

-- ---- more are ended, but not this one

module _ (entries now : List Entry) (change : ℕ) (more : (k : ℕ) → is_ended_in k entries ≡ true → is_ended_in k now ≡ true) (still : is_ended_in change now ≡ false) where
  holds_so : (ticket earlier : Ticket) → holds_up now ticket earlier ≡ true → holds_up entries ticket earlier ≡ true
  holds_so ticket earlier h =
      let parts = both (not (is_ended_in earlier.change now)) (share_device earlier.devices.0 ticket.devices.0) h in
      and_so (not (is_ended_in earlier.change entries)) (share_device earlier.devices.0 ticket.devices.0)
      (not_so (is_ended_in earlier.change now) (is_ended_in earlier.change entries) (more earlier.change) parts.0) parts.1

  first_so : (before : List Ticket) (ticket : Ticket) → nat_eq change ticket.change ≡ true → goes_first entries before ticket ≡ true → goes_first now before ticket ≡ true
  first_so before ticket same h =
      let parts = both (not (is_ended_in ticket.change entries)) (not (list_any (holds_up entries ticket) before)) h in
      and_so (not (is_ended_in ticket.change now)) (not (list_any (holds_up now ticket) before))
      (not_false (is_ended_in ticket.change now) (subst (λ k. is_ended_in k now ≡ false) (nat_same change ticket.change same) still))
      (not_so (list_any (holds_up entries ticket) before) (list_any (holds_up now ticket) before) (any_so (holds_up now ticket) (holds_up entries ticket) before (holds_so ticket)) parts.1)

  among_so : (before later : List Ticket) → ready_among entries change before later ≡ true → ready_among now change before later ≡ true
  among_so before [] h = h
  among_so before (ticket ∷ later) h =
      either (nat_eq change ticket.change && goes_first entries before ticket) (ready_among entries change (before ++ ticket ∷ []) later) (ready_among now change before (ticket ∷ later) ≡ true)
      (λ is.
      let parts = both (nat_eq change ticket.change) (goes_first entries before ticket) is in
      or_left (nat_eq change ticket.change && goes_first now before ticket) (ready_among now change (before ++ ticket ∷ []) later)
      (and_so (nat_eq change ticket.change) (goes_first now before ticket) parts.0 (first_so before ticket parts.0 parts.1)))
      (λ is. or_right (nat_eq change ticket.change && goes_first now before ticket) (ready_among now change (before ++ ticket ∷ []) later) (among_so (before ++ ticket ∷ []) later is)) h

-- ---- more are submitted

among_more : (entries : List Entry) (change : ℕ) (before later more : List Ticket) → ready_among entries change before later ≡ true → ready_among entries change before (later ++ more) ≡ true
among_more entries change before [] more h = absurd (let f : false ≡ true = h in cc)
among_more entries change before (ticket ∷ later) more h =
    either (nat_eq change ticket.change && goes_first entries before ticket) (ready_among entries change (before ++ ticket ∷ []) later) (ready_among entries change before (ticket ∷ later ++ more) ≡ true)
    (λ is. or_left (nat_eq change ticket.change && goes_first entries before ticket) (ready_among entries change (before ++ ticket ∷ []) (later ++ more)) is)
    (λ is. or_right (nat_eq change ticket.change && goes_first entries before ticket) (ready_among entries change (before ++ ticket ∷ []) (later ++ more)) (among_more entries change (before ++ ticket ∷ []) later more is)) h

pub tickets_next : (entries : List Entry) (entry : Entry) → tickets_in (entries ++ entry ∷ []) ≡ tickets_in entries ++ tickets_by entry
tickets_next [] entry = append-nil (tickets_by entry)
tickets_next (first ∷ entries) entry = ap (λ rest. tickets_by first ++ rest) (tickets_next entries entry) ∙ sym (append_assoc (tickets_by first) (tickets_in entries) (tickets_by entry))

-- who isn't ended by an entry isn't ended after it
not_ended : (change : ℕ) (entries : List Entry) (entry : Entry) → is_ended_in change entries ≡ false → ends change entry ≡ false → is_ended_in change (entries ++ entry ∷ []) ≡ false
not_ended change entries entry e n = list_any-append (ends change) entries (entry ∷ []) ∙ two (list_any (ends change) entries) (ends change entry) e n
  where
    two : (a b : Bool) → a ≡ false → b ≡ false → (a || (b || false)) ≡ false
    two false false e n = refl
    two true b e n = e
    two false true e n = n

pub ready_next : (change : ℕ) (entries : List Entry) (entry : Entry) → is_ready_in entries change ≡ true → is_ended_in change entries ≡ false → ends change entry ≡ false → is_ready_in (entries ++ entry ∷ []) change ≡ true
ready_next change entries entry ready open_now other =
    among_so entries (entries ++ entry ∷ []) change (λ k. any_later (ends k) entries entry) (not_ended change entries entry open_now other) [] (tickets_in (entries ++ entry ∷ []))
    (ap (ready_among entries change []) (tickets_next entries entry) ∙ among_more entries change [] (tickets_in entries) (tickets_by entry) ready)

-- ---- one at most

one_there : (mask x : ℕ) → mask_contains mask x ≡ true → bit_at mask (x - 1) ≡ 1
unfolding mask_contains
one_there mask x h = grind (arith, nat_tests)

shares : (one other x : ℕ) → mask_contains one x ≡ true → mask_contains other x ≡ true → share_device one other ≡ true
unfolding share_device
shares one other x h g = by_zero (bit_and one other == 0) refl
  where
    bits : bit_at (bit_and one other) (x - 1) ≡ 1
    bits = bit_at_and one other (x - 1) ∙ ap (λ a. min a (bit_at other (x - 1))) (one_there one x h) ∙ ap (min 1) (one_there other x g)

    by_zero : (b : Bool) → (bit_and one other == 0) ≡ b → not b ≡ true
    by_zero false e = refl
    by_zero true e =
        let none : bit_and one other ≡ 0 = is_zero (bit_and one other) e in
        let zero_bit : bit_at 0 (x - 1) ≡ 1 = subst (λ n. bit_at n (x - 1) ≡ 1) none bits in
        absurd (no_bit (x - 1) zero_bit)
      where
        is_zero : (n : ℕ) → (n == 0) ≡ true → n ≡ 0
        is_zero n e = grind (arith, nat_tests)

        no_bit : (i : ℕ) → bit_at 0 i ≡ 1 → ⊥
        no_bit i e = absurd (let f : 0 ≡ 1 = sym (bit_at-zero i) ∙ e in cc)

module _ (entries : List Entry) (x : ℕ) where
  -- those of a change set are for this device
  abbrev pub HasDevice : ℕ → List Ticket → Type 0
  HasDevice change tickets = (i : ℕ) → IfSome (slice_get tickets i) (λ ticket. nat_eq change ticket.change ≡ true → mask_contains ticket.devices.0 x ≡ true)

  abbrev Blocks : List Ticket → Type 0
  Blocks before = (ticket : Ticket) → mask_contains ticket.devices.0 x ≡ true → list_any (holds_up entries ticket) before ≡ true

  blocks_more : (before : List Ticket) (next : Ticket) → Blocks before → Blocks (before ++ next ∷ [])
  blocks_more before next blocks ticket h = list_any-append (holds_up entries ticket) before (next ∷ []) ∙ or_left (list_any (holds_up entries ticket) before) (list_any (holds_up entries ticket) (next ∷ [])) (blocks ticket h)

  blocks_now : (before : List Ticket) (next : Ticket) → not (is_ended_in next.change entries) ≡ true → mask_contains next.devices.0 x ≡ true → Blocks (before ++ next ∷ [])
  blocks_now before next open_now here ticket h =
      list_any-append (holds_up entries ticket) before (next ∷ [])
      ∙ or_right (list_any (holds_up entries ticket) before) (list_any (holds_up entries ticket) (next ∷ []))
      (or_left (holds_up entries ticket next) false (and_so (not (is_ended_in next.change entries)) (share_device next.devices.0 ticket.devices.0) open_now (shares next.devices.0 ticket.devices.0 x here h)))

  held_up : (change : ℕ) (before later : List Ticket) → Blocks before → HasDevice change later → ready_among entries change before later ≡ true → ⊥
  held_up change before [] blocks has h = absurd (let f : false ≡ true = h in cc)
  held_up change before (ticket ∷ later) blocks has h =
      either (nat_eq change ticket.change && goes_first entries before ticket) (ready_among entries change (before ++ ticket ∷ []) later) ⊥
      (λ is.
      let parts = both (nat_eq change ticket.change) (goes_first entries before ticket) is in
      let free = (both (not (is_ended_in ticket.change entries)) (not (list_any (holds_up entries ticket) before)) parts.1).1 in
      clash (list_any (holds_up entries ticket) before) (blocks ticket (has 0 parts.0)) free)
      (λ is. held_up change (before ++ ticket ∷ []) later (blocks_more before ticket blocks) (λ i. has (suc i)) is) h
    where
      clash : (b : Bool) → b ≡ true → not b ≡ true → ⊥
      clash true e f = absurd (let g : false ≡ true = f in cc)
      clash false e f = absurd (let g : false ≡ true = e in cc)

  one_among : (c d : ℕ) (before later : List Ticket) → HasDevice c later → HasDevice d later → ready_among entries c before later ≡ true → ready_among entries d before later ≡ true → c ≡ d
  one_among c d before [] hc hd rc rd = absurd (let f : false ≡ true = rc in cc)
  one_among c d before (ticket ∷ later) hc hd rc rd =
      either (nat_eq c ticket.change && goes_first entries before ticket) (ready_among entries c (before ++ ticket ∷ []) later) (c ≡ d)
      (λ is.
      let one = both (nat_eq c ticket.change) (goes_first entries before ticket) is in
      either (nat_eq d ticket.change && goes_first entries before ticket) (ready_among entries d (before ++ ticket ∷ []) later) (c ≡ d)
      (λ other. nat_same c ticket.change one.0 ∙ sym (nat_same d ticket.change (both (nat_eq d ticket.change) (goes_first entries before ticket) other).0))
      (λ other. absurd (held_up d (before ++ ticket ∷ []) later
      (blocks_now before ticket (both (not (is_ended_in ticket.change entries)) (not (list_any (holds_up entries ticket) before)) one.1).0 (hc 0 one.0)) (λ i. hd (suc i)) other)) rd)
      (λ is.
      either (nat_eq d ticket.change && goes_first entries before ticket) (ready_among entries d (before ++ ticket ∷ []) later) (c ≡ d)
      (λ other.
      let two = both (nat_eq d ticket.change) (goes_first entries before ticket) other in
      absurd (held_up c (before ++ ticket ∷ []) later
      (blocks_now before ticket (both (not (is_ended_in ticket.change entries)) (not (list_any (holds_up entries ticket) before)) two.1).0 (hd 0 two.0)) (λ i. hc (suc i)) is))
      (λ other. one_among c d (before ++ ticket ∷ []) later (λ i. hc (suc i)) (λ i. hd (suc i)) is other) rd) rc

  -- of two that are ready and for one device
  pub one_ready : (c d : ℕ) → HasDevice c (tickets_in entries) → HasDevice d (tickets_in entries) → is_ready_in entries c ≡ true → is_ready_in entries d ≡ true → c ≡ d
  one_ready c d hc hd rc rd = one_among c d [] (tickets_in entries) hc hd rc rd
