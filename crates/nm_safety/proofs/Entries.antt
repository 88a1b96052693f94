-- What the entries of a journal tell of a change set, as they come.
use Rattle.std.proofs.Common.{◌≡◌, ◌∙◌, ℕ, Bool, true, false, not, cond, ◌&&◌, ◌||◌, nat_eq, List, [], ◌∷◌, ◌++◌, find, Option, Some, None, is_some, option_and_then, refl, sym, ap, subst, arith}
use Rattle.std.specs.List.{list_any}
use Rattle.std.specs.Option.{option_or}
use Rattle.std.proofs.lemmas.Bool.Decides.{nat_tests}
use Rattle.std.proofs.lemmas.List.Folds.{find-append, list_any-append}
use Rattle.nm_proto.specs.declared.journal.Entry.{Entry}
use Rattle.nm_proto.specs.declared.journal.Entry.TheVariants.{Started, Decided, Ended}
use Rattle.nm_proto.specs.declared.journal.Verdict.{Verdict}
use Rattle.nm_journal.specs.Entries.{starts, decides, ends, starts_with, may_follow, has_record, comes_next}
use Rattle.nm_recovery.specs.Recovery.{is_started, is_ended_in, verdict_in, verdict_of}
use Rattle.nm_order.specs.declared.ticket.Ticket.{Ticket}
use Rattle.nm_manager.specs.Queues.{tickets_in, goes_first, ready_among, is_ready_in}
use Rattle.nm_safety.proofs.Basics.{never, either}
use Rattle.nm_safety.proofs.Tables.{both}
use Rattle.nm_safety.proofs.Places.{verdict_same, verdict_new}
use Rattle.nm_safety.specs.Support.{IsOrdered}

pub nat_same : (k c : ℕ) → nat_eq k c ≡ true → k ≡ c
nat_same k c e = grind (arith, nat_tests)

pub nat_itself : (k : ℕ) → nat_eq k k ≡ true
nat_itself k = grind (arith, nat_tests)

pub not_true : (b : Bool) → not b ≡ true → b ≡ false
not_true false e = refl
not_true true e = never e

pub both_false : (a b : Bool) → (a || b) ≡ false → (a ≡ false) × (b ≡ false)
both_false false b e = (refl, e)
both_false true b e = absurd (let g : true ≡ false = e in cc)

pub false_or : (a b : Bool) → a ≡ false → (a || b) ≡ true → b ≡ true
false_or false b e h = h
false_or true b e h = absurd (let g : true ≡ false = e in cc)

-- ---- with one entry more

any_next : (test : Entry → Bool) (entries : List Entry) (entry : Entry) → list_any test (entries ++ entry ∷ []) ≡ (list_any test entries || (test entry || false))
any_next test entries entry = list_any-append test entries (entry ∷ [])

pub any_before : (test : Entry → Bool) (entries : List Entry) (entry : Entry) → list_any test (entries ++ entry ∷ []) ≡ false → list_any test entries ≡ false
any_before test entries entry e = (both_false (list_any test entries) (test entry || false) (sym (any_next test entries entry) ∙ e)).0

pub any_later : (test : Entry → Bool) (entries : List Entry) (entry : Entry) → list_any test entries ≡ true → list_any test (entries ++ entry ∷ []) ≡ true
any_later test entries entry e = any_next test entries entry ∙ ap (λ b. b || (test entry || false)) e

any_or : (test : Entry → Bool) (entries : List Entry) (entry : Entry) → list_any test (entries ++ entry ∷ []) ≡ true → (P : Type 0) → (list_any test entries ≡ true → P) → (test entry ≡ true → P) → P
any_or test entries entry e P before now =
    either (list_any test entries) (test entry || false) P before (λ h. either (test entry) false P now (λ g. never g) h) (sym (any_next test entries entry) ∙ e)

kept_first : (found later : Option Entry) → is_some (option_and_then verdict_of found) ≡ true → option_and_then verdict_of (option_or found later) ≡ option_and_then verdict_of found
kept_first None later e = never e
kept_first (Some entry) later e = refl

-- a verdict that stands is the first
pub verdict_stays : (change : ℕ) (entries : List Entry) (entry : Entry) → is_some (verdict_in change entries) ≡ true → verdict_in change (entries ++ entry ∷ []) ≡ verdict_in change entries
verdict_stays change entries entry e =
    ap (option_and_then verdict_of) (find-append (decides change) entries (entry ∷ [])) ∙ kept_first (find (decides change) entries) (find (decides change) (entry ∷ [])) e

-- ---- what is decided

verdict_by : (change : ℕ) (entry : Entry) (rest : Option Entry) (b : Bool) → decides change entry ≡ b → (b ≡ false → is_some (option_and_then verdict_of rest) ≡ true)
    → is_some (option_and_then verdict_of (cond b (Some entry) rest)) ≡ true
verdict_by change (Started other devices timeout) rest true d later = absurd (let g : false ≡ true = d in cc)
verdict_by change (Decided other verdict) rest true d later = refl
verdict_by change (Ended other kept) rest true d later = absurd (let g : false ≡ true = d in cc)
verdict_by change entry rest false d later = later refl

pub is_decided : (change : ℕ) (entries : List Entry) → list_any (decides change) entries ≡ true → is_some (verdict_in change entries) ≡ true
is_decided change [] e = never e
is_decided change (entry ∷ entries) e =
    verdict_by change entry (find (decides change) entries) (decides change entry) refl (λ no. is_decided change entries (false_or (decides change entry) (list_any (decides change) entries) no e))

started_with : (change : ℕ) (verdict : Verdict) (entries : List Entry) → list_any (starts_with change verdict) entries ≡ true → is_started change entries ≡ true
started_with change verdict [] e = never e
started_with change verdict (Started other devices timeout ∷ entries) e =
    either (starts_with change verdict (Started other devices timeout)) (list_any (starts_with change verdict) entries) (is_started change (Started other devices timeout ∷ entries) ≡ true)
    (λ h. ap (λ b. b || is_started change entries) (both (nat_eq change other) _ h).0) (λ h. later (nat_eq change other) (is_started change entries) (started_with change verdict entries h)) e
  where
    later : (a b : Bool) → b ≡ true → (a || b) ≡ true
    later true b h = refl
    later false b h = h
started_with change verdict (Decided other decided ∷ entries) e = started_with change verdict entries e
started_with change verdict (Ended other kept ∷ entries) e = started_with change verdict entries e

-- a verdict follows a start
pub decided_started : (change : ℕ) (verdict : Verdict) (entries : List Entry) → may_follow entries (Decided change verdict) ≡ true → (is_started change entries ≡ true) × (list_any (decides change) entries ≡ false)
decided_started change verdict entries e =
    let next = both (has_record (Decided change verdict)) (comes_next entries (Decided change verdict)) e in
    let parts = both (list_any (starts_with change verdict) entries) (not (list_any (decides change) entries)) next.1 in
    (started_with change verdict entries parts.0, not_true (list_any (decides change) entries) parts.1)

ends_decided : (change : ℕ) (kept : _) (entries : List Entry) → may_follow entries (Ended change kept) ≡ true → list_any (decides change) entries ≡ true
ends_decided change kept entries e =
    let next = both (has_record (Ended change kept)) (comes_next entries (Ended change kept)) e in
    (both _ _ (both _ _ (both _ _ next.1).0).0).1

-- ---- the order of entries

module _ (k : ℕ) (entries : List Entry) (before : IsOrdered k entries) where
  plain_next : (entry : Entry) → decides k entry ≡ false → (ends k entry ≡ true → is_some (verdict_in k entries) ≡ true) → IsOrdered k (entries ++ entry ∷ [])
  plain_next entry d ended = record {
    begun = λ e. verdict_same k entries entry d ∙ before.begun (any_before (starts k) entries entry e);
    ended = λ e.
        ap is_some (verdict_same k entries entry d)
        ∙ any_or (ends k) entries entry e (is_some (verdict_in k entries) ≡ true) before.ended ended;
  }

  decided_next : (change : ℕ) (verdict : Verdict) → may_follow entries (Decided change verdict) ≡ true → (b : Bool) → nat_eq k change ≡ b → IsOrdered k (entries ++ Decided change verdict ∷ [])
  decided_next change verdict may false d = plain_next (Decided change verdict) d (λ e. never e)
  decided_next change verdict may true d =
      let same : k ≡ change = nat_same k change d in
      let first : list_any (decides k) entries ≡ false = subst (λ n. list_any (decides n) entries ≡ false) (sym same) (decided_started change verdict entries may).1 in
      let started : is_started k entries ≡ true = subst (λ n. is_started n entries ≡ true) (sym same) (decided_started change verdict entries may).0 in
      let new : verdict_in k (entries ++ Decided change verdict ∷ []) ≡ Some verdict =
      subst (λ n. verdict_in k (entries ++ Decided n verdict ∷ []) ≡ Some verdict) same (verdict_new k entries verdict first) in
      record {
        begun = λ e. absurd (let g : true ≡ false = sym started ∙ any_before (starts k) entries (Decided change verdict) e in cc);
        ended = λ e. ap is_some new;
      }

  pub ordered_next : (entry : Entry) → may_follow entries entry ≡ true → IsOrdered k (entries ++ entry ∷ [])
  ordered_next (Started change devices timeout) may = plain_next (Started change devices timeout) refl (λ e. never e)
  ordered_next (Decided change verdict) may = decided_next change verdict may (nat_eq k change) refl
  ordered_next (Ended change kept) may =
      plain_next (Ended change kept) refl
      (λ e. is_decided k entries (subst (λ n. list_any (decides n) entries ≡ true) (sym (nat_same k change e)) (ends_decided change kept entries may)))

-- ---- who is ready

abbrev is_of : ℕ → Ticket → Bool
is_of change ticket = nat_eq change ticket.change

module _ (entries : List Entry) (change : ℕ) where
  ready_open : (before later : List Ticket) → ready_among entries change before later ≡ true → is_ended_in change entries ≡ false
  ready_open before [] e = never e
  ready_open before (ticket ∷ later) e =
      either (nat_eq change ticket.change && goes_first entries before ticket) (ready_among entries change (before ++ ticket ∷ []) later) (is_ended_in change entries ≡ false)
      (λ h.
      let parts = both (nat_eq change ticket.change) (goes_first entries before ticket) h in
      let open_now = both (not (is_ended_in ticket.change entries)) _ parts.1 in
      subst (λ n. is_ended_in n entries ≡ false) (sym (nat_same change ticket.change parts.0)) (not_true (is_ended_in ticket.change entries) open_now.0))
      (ready_open (before ++ ticket ∷ []) later) e

  ready_has : (before later : List Ticket) → ready_among entries change before later ≡ true → list_any (is_of change) later ≡ true
  ready_has before [] e = never e
  ready_has before (ticket ∷ later) e =
      either (nat_eq change ticket.change && goes_first entries before ticket) (ready_among entries change (before ++ ticket ∷ []) later) (list_any (is_of change) (ticket ∷ later) ≡ true)
      (λ h. ap (λ b. b || list_any (is_of change) later) (both (nat_eq change ticket.change) _ h).0)
      (λ h. or_later (nat_eq change ticket.change) (list_any (is_of change) later) (ready_has (before ++ ticket ∷ []) later h)) e
    where
      or_later : (a b : Bool) → b ≡ true → (a || b) ≡ true
      or_later true b h = refl
      or_later false b h = h

has_started : (change : ℕ) (entries : List Entry) → list_any (is_of change) (tickets_in entries) ≡ true → is_started change entries ≡ true
has_started change [] e = never e
has_started change (Started other devices timeout ∷ entries) e =
    either (nat_eq change other) (list_any (is_of change) (tickets_in entries)) (is_started change (Started other devices timeout ∷ entries) ≡ true)
    (λ h. ap (λ b. b || is_started change entries) h) (λ h. or_later (nat_eq change other) (is_started change entries) (has_started change entries h)) e
  where
    or_later : (a b : Bool) → b ≡ true → (a || b) ≡ true
    or_later true b h = refl
    or_later false b h = h
has_started change (Decided other decided ∷ entries) e = has_started change entries e
has_started change (Ended other kept ∷ entries) e = has_started change entries e

pub ready_is_open : (entries : List Entry) (change : ℕ) → is_ready_in entries change ≡ true → is_ended_in change entries ≡ false
ready_is_open entries change e = ready_open entries change [] (tickets_in entries) e

pub ready_is_started : (entries : List Entry) (change : ℕ) → is_ready_in entries change ≡ true → is_started change entries ≡ true
ready_is_started entries change e = has_started change entries (ready_has entries change [] (tickets_in entries) e)
