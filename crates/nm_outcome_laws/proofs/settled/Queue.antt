-- Where no change set is ready, each that was submitted is ended: the first that isn't would be ready.
use Rattle.std.proofs.Common.{◌≡◌, ◌∙◌, ℕ, zero, suc, ◌+◌, ◌≤◌, ◌<◌, Bool, true, false, cond, not, nat_eq, ◌&&◌, ◌||◌, List, [], ◌∷◌, ◌++◌, Option, Some, None, IfSome, slice_get, refl, sym, ap, subst, arith}
use Rattle.std.specs.List.{list_any}
use Rattle.std.proofs.lemmas.Bool.Decides.{nat_tests}
use Rattle.std.proofs.lemmas.Option.{none-some}
use Rattle.nm_order.specs.declared.ticket.Ticket.{Ticket}
use Rattle.nm_order.specs.Queue.{share_device}
use Rattle.nm_proto.specs.declared.journal.Entry.{Entry}
use Rattle.nm_proto.specs.declared.journal.Entry.TheVariants.{Started, Decided, Ended}
use Rattle.nm_recovery.specs.Recovery.{is_ended_in, is_started}
use Rattle.nm_manager.specs.Queues.{goes_first, holds_up, is_ready_in, ready_among, tickets_in}
use Rattle.nm_world.specs.Drain.{first_from, first_ready, found_or, ready_at}
use Rattle.nm_safety.proofs.Basics.{either, never}
use Rattle.nm_safety.proofs.Entries.{nat_itself, nat_same}
use Rattle.nm_safety.proofs.Tickets.{all_more}
use Rattle.nm_outcome_laws.proofs.settled.Numbered.{AreNumbered, IsOneOf}

-- ---- nothing is found of so many numbers

module _ {A : Type 0} (find : ℕ → Option A) where
  none_or : (found rest : Option A) → found_or found rest ≡ None → (found ≡ None) × (rest ≡ None)
  none_or None rest e = (refl, e)
  none_or (Some x) rest e = absurd (none-some x (sym e))

  by_number : (low at count : ℕ) → find low ≡ None → (low + 1 ≤ at → at < low + 1 + count → find at ≡ None) → low ≤ at → at < low + suc count
      → (b : Bool) → nat_eq at low ≡ b → find at ≡ None
  by_number low at count here later from below true e = ap find (nat_same at low e) ∙ here
  by_number low at count here later from below false e = let ne = differs at low e in later (omega (arith, from, ne)) (omega (arith, below))
    where
      differs : (a b : ℕ) → nat_eq a b ≡ false → a ≡ b → ⊥
      differs a b e f = grind (arith, nat_tests)

  pub none_at : (low count at : ℕ) → first_from find low count ≡ None → low ≤ at → at < low + count → find at ≡ None
  unfolding first_from
  none_at low zero at e from below = absurd (omega (arith, from, below))
  none_at low (suc count) at e from below =
      let both = none_or (find low) (first_from find (low + 1) count) e in
      by_number low at count both.0 (none_at (low + 1) count at both.1) from below (nat_eq at low) refl

-- ---- who is ready

pub some_then : {A : Type 0} (P Q : A → Type 0) (found : Option A) → ((x : A) → P x → Q x) → IfSome found P → IfSome found Q
some_then P Q None step h = tt
some_then P Q (Some x) step h = step x h

off_later : (a b : Bool) → (a || b) ≡ false → b ≡ false
off_later true b h = absurd (let f : true ≡ false = h in cc)
off_later false b h = h

not_both : (a b : Bool) → a ≡ true → (a || b) ≡ false → ⊥
not_both true b e h = absurd (let f : true ≡ false = h in cc)
not_both false b e h = never e

module _ (entries : List Entry) where
  -- each of these is ended
  abbrev AreOver : List Ticket → Type 0
  AreOver tickets = (i : ℕ) → IfSome (slice_get tickets i) (λ ticket. is_ended_in ticket.change entries ≡ true)

  -- none of these is ready
  abbrev NoneReady : List Ticket → List Ticket → Type 0
  NoneReady before later = (i : ℕ) → IfSome (slice_get later i) (λ ticket. ready_among entries ticket.change before later ≡ false)

  frees : (ended shares any : Bool) → ended ≡ true → any ≡ false → ((not ended && shares) || any) ≡ false
  frees true shares any e f = f
  frees false shares any e f = never e

  -- who is ended holds nobody up
  free : (ticket : Ticket) (before : List Ticket) → AreOver before → list_any (holds_up entries ticket) before ≡ false
  free ticket [] all = refl
  free ticket (earlier ∷ before) all =
      frees (is_ended_in earlier.change entries) (share_device earlier.devices.0 ticket.devices.0) (list_any (holds_up entries ticket) before) (all 0)
      (free ticket before (λ i. all (suc i)))

  goes : (same ended any : Bool) → same ≡ true → ended ≡ false → any ≡ false → (same && (not ended && not any)) ≡ true
  goes true false false e f g = refl
  goes true false true e f g = absurd (let h : true ≡ false = g in cc)
  goes true true any e f g = absurd (let h : true ≡ false = f in cc)
  goes false ended any e f g = never e

  over_by : (ticket : Ticket) (later : List Ticket) (b : Bool) → is_ended_in ticket.change entries ≡ b
      → (is_ended_in ticket.change entries ≡ true → AreOver later) → (is_ended_in ticket.change entries ≡ false → ⊥)
      → (i : ℕ) → IfSome (slice_get (ticket ∷ later) i) (λ one. is_ended_in one.change entries ≡ true)
  over_by ticket later true e rest open_now zero = e
  over_by ticket later true e rest open_now (suc i) = rest e i
  over_by ticket later false e rest open_now i = absurd (open_now e)

  over : (before later : List Ticket) → AreOver before → NoneReady before later → AreOver later
  over before [] all none = λ i. tt
  over before (ticket ∷ later) all none =
      over_by ticket later (is_ended_in ticket.change entries) refl
      (λ e. over (before ++ ticket ∷ []) later (all_more (λ one. is_ended_in one.change entries ≡ true) before ticket e all)
      (λ i. some_then (λ one. ready_among entries one.change before (ticket ∷ later) ≡ false) (λ one. ready_among entries one.change (before ++ ticket ∷ []) later ≡ false)
      (slice_get later i) (λ one off. off_later (nat_eq one.change ticket.change && goes_first entries before ticket) (ready_among entries one.change (before ++ ticket ∷ []) later) off) (none (suc i))))
      (λ e. not_both (nat_eq ticket.change ticket.change && goes_first entries before ticket) (ready_among entries ticket.change (before ++ ticket ∷ []) later)
      (goes (nat_eq ticket.change ticket.change) (is_ended_in ticket.change entries) (list_any (holds_up entries ticket) before) (nat_itself ticket.change) e (free ticket before all)) (none 0))

-- who was submitted has a ticket
ended_of : (now entries : List Entry) (change : ℕ) → AreOver now (tickets_in entries) → is_started change entries ≡ true → is_ended_in change now ≡ true
ended_of now [] change all h = never h
ended_of now (Started other devices timeout ∷ entries) change all h =
    either (nat_eq change other) (is_started change entries) (is_ended_in change now ≡ true)
    (λ same. subst (λ n. is_ended_in n now ≡ true) (sym (nat_same change other same)) (all 0))
    (λ later. ended_of now entries change (λ i. all (suc i)) later) h
ended_of now (Decided other verdict ∷ entries) change all h = ended_of now entries change all h
ended_of now (Ended other kept ∷ entries) change all h = ended_of now entries change all h

ready_if : (b : Bool) (change : ℕ) → cond b (Some change) None ≡ None → b ≡ false
ready_if true change e = absurd (none-some change (sym e))
ready_if false change e = refl

pub not_ready : (changes : ℕ) (entries : List Entry) (change : ℕ) → first_ready changes entries ≡ None → 1 ≤ change → change ≤ changes → is_ready_in entries change ≡ false
unfolding ready_at
not_ready changes entries change e low high =
    ready_if (is_ready_in entries change) change (none_at (ready_at entries) 1 changes change e low (omega (arith, high)))

pub all_ended : (changes : ℕ) (entries : List Entry) → first_ready changes entries ≡ None → AreNumbered changes entries
    → (change : ℕ) → is_started change entries ≡ true → is_ended_in change entries ≡ true
all_ended changes entries e numbered change =
    ended_of entries entries change
    (over entries [] (tickets_in entries) (λ i. tt)
    (λ i. some_then (IsOneOf changes) (λ ticket. ready_among entries ticket.change [] (tickets_in entries) ≡ false) (slice_get (tickets_in entries) i)
    (λ ticket one. not_ready changes entries ticket.change e one.0 one.1) (numbered i)))
