-- A journal has at most 192 entries: three for each of 64 change sets.
use Rattle.std.proofs.Common.{◌≡◌, ℕ, ◌+◌, ◌<◌, ◌≤◌, Bool, true, false, ◌||◌, ◌&&◌, List, [], ◌∷◌, ◌++◌, length, nat_eq, refl, sym, ◌∙◌, ap, subst, arith, append_assoc}
use Rattle.std.specs.List.{list_any, IsDistinct}
use Rattle.std.proofs.lemmas.Cmp.{nat_eq_equiv}
use Rattle.std.proofs.lemmas.List.Folds.{list_any-append}
use Rattle.std.proofs.lemmas.Map.Keys.{IsDistinct-push}
use Rattle.std.proofs.lemmas.Map.Steps.{length-le_from_distinct_below}
use Rattle.std.proofs.lemmas.Bool.{false≢true}
use Rattle.std.proofs.lemmas.Bool.Decides.{nat_tests}
use Rattle.std.proofs.lemmas.List.{append-nil}
use Rattle.nm_proto.specs.declared.journal.Entry.{Entry}
use Rattle.nm_proto.specs.declared.journal.Entry.TheVariants.{Started, Decided, Ended}
use Rattle.nm_journal.specs.Record.{is_change}
use Rattle.nm_journal.specs.Entries.{starts, decides, ends, may_follow, follow_on, IsInOrder}

and_left : (a b : Bool) → (a && b) ≡ true → a ≡ true
and_left true b h = refl
and_left false b h = h

and_right : (a b : Bool) → (a && b) ≡ true → b ≡ true
and_right true b h = h
and_right false b h = absurd (false≢true h)

and_both : (a b : Bool) → a ≡ true → b ≡ true → (a && b) ≡ true
and_both true b h k = k
and_both false b h k = absurd (false≢true h)

and_true : (a : Bool) → (a && true) ≡ a
and_true true = refl
and_true false = refl

and_assoc : (a b c : Bool) → (a && (b && c)) ≡ ((a && b) && c)
and_assoc true b c = refl
and_assoc false b c = refl

-- the numbers of the change sets that entries start, decide and end
abbrev started : List Entry → List ℕ
started [] = []
started (Started change devices timeout ∷ entries) = change ∷ started entries
started (Decided change verdict ∷ entries) = started entries
started (Ended change kept ∷ entries) = started entries

abbrev decided : List Entry → List ℕ
decided [] = []
decided (Started change devices timeout ∷ entries) = decided entries
decided (Decided change verdict ∷ entries) = change ∷ decided entries
decided (Ended change kept ∷ entries) = decided entries

abbrev ended : List Entry → List ℕ
ended [] = []
ended (Started change devices timeout ∷ entries) = ended entries
ended (Decided change verdict ∷ entries) = ended entries
ended (Ended change kept ∷ entries) = change ∷ ended entries

-- numbers from 1 to 64, each once
record AreFew (numbers : List ℕ) : Type 0 where
  pub once : IsDistinct nat_eq (0 ∷ numbers)
  pub bounded : (number : ℕ) → list_any (nat_eq number) (0 ∷ numbers) ≡ true → number < 65

few_none : AreFew []
unfolding IsDistinct
few_none = record { once = (tt, tt); bounded = λ number among. grind (arith, nat_tests) }

few_push : (numbers : List ℕ) (change : ℕ) → AreFew numbers → is_change change ≡ true → list_any (nat_eq change) numbers ≡ false → AreFew (numbers ++ change ∷ [])
few_push numbers change old fits new =
    let absent : list_any (nat_eq change) (0 ∷ numbers) ≡ false = grind (arith, nat_tests) in
    record {
      once = IsDistinct-push nat_eq_equiv (0 ∷ numbers) change old.once absent;
      bounded = λ number among.
          let split : (list_any (nat_eq number) (0 ∷ numbers) || list_any (nat_eq number) (change ∷ [])) ≡ true = sym (list_any-append (nat_eq number) (0 ∷ numbers) (change ∷ [])) ∙ among in
          let old_bound = old.bounded number in
          grind (arith, nat_tests);
    }

few_at_most : (numbers : List ℕ) → AreFew numbers → length numbers ≤ 64
few_at_most numbers few = omega (arith, length-le_from_distinct_below (0 ∷ numbers) 65 few.once few.bounded)

starts_is : (entries : List Entry) (change : ℕ) → list_any (nat_eq change) (started entries) ≡ list_any (starts change) entries
starts_is [] change = refl
starts_is (Started other devices timeout ∷ entries) change = ap (λ b. nat_eq change other || b) (starts_is entries change)
starts_is (Decided other verdict ∷ entries) change = starts_is entries change
starts_is (Ended other kept ∷ entries) change = starts_is entries change

decides_is : (entries : List Entry) (change : ℕ) → list_any (nat_eq change) (decided entries) ≡ list_any (decides change) entries
decides_is [] change = refl
decides_is (Started other devices timeout ∷ entries) change = decides_is entries change
decides_is (Decided other verdict ∷ entries) change = ap (λ b. nat_eq change other || b) (decides_is entries change)
decides_is (Ended other kept ∷ entries) change = decides_is entries change

ends_is : (entries : List Entry) (change : ℕ) → list_any (nat_eq change) (ended entries) ≡ list_any (ends change) entries
ends_is [] change = refl
ends_is (Started other devices timeout ∷ entries) change = ends_is entries change
ends_is (Decided other verdict ∷ entries) change = ends_is entries change
ends_is (Ended other kept ∷ entries) change = ap (λ b. nat_eq change other || b) (ends_is entries change)

started-append : (xs ys : List Entry) → started (xs ++ ys) ≡ started xs ++ started ys
started-append [] ys = refl
started-append (Started change devices timeout ∷ xs) ys = ap (λ l. change ∷ l) (started-append xs ys)
started-append (Decided change verdict ∷ xs) ys = started-append xs ys
started-append (Ended change kept ∷ xs) ys = started-append xs ys

decided-append : (xs ys : List Entry) → decided (xs ++ ys) ≡ decided xs ++ decided ys
decided-append [] ys = refl
decided-append (Started change devices timeout ∷ xs) ys = decided-append xs ys
decided-append (Decided change verdict ∷ xs) ys = ap (λ l. change ∷ l) (decided-append xs ys)
decided-append (Ended change kept ∷ xs) ys = decided-append xs ys

ended-append : (xs ys : List Entry) → ended (xs ++ ys) ≡ ended xs ++ ended ys
ended-append [] ys = refl
ended-append (Started change devices timeout ∷ xs) ys = ended-append xs ys
ended-append (Decided change verdict ∷ xs) ys = ended-append xs ys
ended-append (Ended change kept ∷ xs) ys = ap (λ l. change ∷ l) (ended-append xs ys)

record AreFewEntries (entries : List Entry) : Type 0 where
  pub of_started : AreFew (started entries)
  pub of_decided : AreFew (decided entries)
  pub of_ended : AreFew (ended entries)

few_entries_push : (entries : List Entry) (entry : Entry) → AreFewEntries entries → may_follow entries entry ≡ true → AreFewEntries (entries ++ entry ∷ [])
few_entries_push entries (Started change devices timeout) few follows =
    let fits : is_change change ≡ true = grind (arith, nat_tests) in
    let fresh : list_any (starts change) entries ≡ false = grind (arith, nat_tests) in
    record {
      of_started = subst AreFew (sym (started-append entries (Started change devices timeout ∷ []))) (few_push (started entries) change few.of_started fits (starts_is entries change ∙ fresh));
      of_decided = subst AreFew (sym (decided-append entries (Started change devices timeout ∷ []) ∙ append-nil (decided entries))) few.of_decided;
      of_ended = subst AreFew (sym (ended-append entries (Started change devices timeout ∷ []) ∙ append-nil (ended entries))) few.of_ended;
    }
few_entries_push entries (Decided change verdict) few follows =
    let fits : is_change change ≡ true = grind (arith, nat_tests) in
    let fresh : list_any (decides change) entries ≡ false = grind (arith, nat_tests) in
    record {
      of_started = subst AreFew (sym (started-append entries (Decided change verdict ∷ []) ∙ append-nil (started entries))) few.of_started;
      of_decided = subst AreFew (sym (decided-append entries (Decided change verdict ∷ []))) (few_push (decided entries) change few.of_decided fits (decides_is entries change ∙ fresh));
      of_ended = subst AreFew (sym (ended-append entries (Decided change verdict ∷ []) ∙ append-nil (ended entries))) few.of_ended;
    }
few_entries_push entries (Ended change kept) few follows =
    let fits : is_change change ≡ true = grind (arith, nat_tests) in
    let fresh : list_any (ends change) entries ≡ false = grind (arith, nat_tests) in
    record {
      of_started = subst AreFew (sym (started-append entries (Ended change kept ∷ []) ∙ append-nil (started entries))) few.of_started;
      of_decided = subst AreFew (sym (decided-append entries (Ended change kept ∷ []) ∙ append-nil (decided entries))) few.of_decided;
      of_ended = subst AreFew (sym (ended-append entries (Ended change kept ∷ []))) (few_push (ended entries) change few.of_ended fits (ends_is entries change ∙ fresh));
    }

few_on : (before later : List Entry) → AreFewEntries before → follow_on before later ≡ true → AreFewEntries (before ++ later)
few_on before [] few follow = subst AreFewEntries (sym (append-nil before)) few
few_on before (entry ∷ later) few follow =
    let first : may_follow before entry ≡ true = and_left (may_follow before entry) _ follow in
    let rest : follow_on (before ++ entry ∷ []) later ≡ true = and_right (may_follow before entry) _ follow in
    subst AreFewEntries (append_assoc before (entry ∷ []) later) (few_on (before ++ entry ∷ []) later (few_entries_push before entry few first) rest)

three_each : (entries : List Entry) → length entries ≡ length (started entries) + length (decided entries) + length (ended entries)
three_each [] = refl
three_each (Started change devices timeout ∷ entries) = omega (arith, three_each entries)
three_each (Decided change verdict ∷ entries) = omega (arith, three_each entries)
three_each (Ended change kept ∷ entries) = omega (arith, three_each entries)

pub at_most : (entries : List Entry) → IsInOrder entries → length entries ≤ 192
at_most entries order =
    let few = few_on [] entries (record { of_started = few_none; of_decided = few_none; of_ended = few_none }) order in
    omega (arith, three_each entries, few_at_most (started entries) few.of_started, few_at_most (decided entries) few.of_decided, few_at_most (ended entries) few.of_ended)

follow-append : (before later : List Entry) (entry : Entry) → follow_on before (later ++ entry ∷ []) ≡ (follow_on before later && may_follow (before ++ later) entry)
follow-append before [] entry = and_true (may_follow before entry) ∙ ap (λ l. may_follow l entry) (sym (append-nil before))
follow-append before (first ∷ later) entry =
    ap (λ b. may_follow before first && b) (follow-append (before ++ first ∷ []) later entry ∙ ap (λ l. follow_on (before ++ first ∷ []) later && may_follow l entry) (append_assoc before (first ∷ []) later))
    ∙ and_assoc (may_follow before first) (follow_on (before ++ first ∷ []) later) (may_follow (before ++ first ∷ later) entry)

-- one entry more
pub order_push : (entries : List Entry) (entry : Entry) → IsInOrder entries → may_follow entries entry ≡ true → IsInOrder (entries ++ entry ∷ [])
order_push entries entry order follows = follow-append [] entries entry ∙ and_both (follow_on [] entries) (may_follow entries entry) order follows
