-- At most 64 change sets are submitted, each once.
use Rattle.std.proofs.Common.{◌≡◌, ℕ, suc, ◌≤◌, true, false, ◌||◌, List, [], ◌∷◌, ◌++◌, length, map, nat_eq, refl, sym, ◌∙◌, ap, subst, arith}
use Rattle.std.specs.List.{list_any, IsDistinct}
use Rattle.std.proofs.lemmas.Cmp.{nat_eq_equiv}
use Rattle.std.proofs.lemmas.List.Folds.{list_any-append}
use Rattle.std.proofs.lemmas.Map.Keys.{IsDistinct-push}
use Rattle.std.proofs.lemmas.Map.Steps.{length-le_from_distinct_below}
use Rattle.std.proofs.lemmas.Bool.Decides.{nat_tests}
use Rattle.nm_order.specs.declared.ticket.Ticket.{Ticket}
use Rattle.nm_order.specs.Queue.{change_of, is_of, IsOnce}

submitted_is : (tickets : List Ticket) (change : ℕ) → list_any (nat_eq change) (map change_of tickets) ≡ list_any (is_of change) tickets
submitted_is [] change = refl
submitted_is (ticket ∷ tickets) change = ap (λ b. nat_eq change ticket.change || b) (submitted_is tickets change)

pushed : (tickets : List Ticket) (ticket : Ticket) → map change_of (tickets ++ ticket ∷ []) ≡ map change_of tickets ++ ticket.change ∷ []
pushed [] ticket = refl
pushed (first ∷ tickets) ticket = ap (λ l. first.change ∷ l) (pushed tickets ticket)

length_is : (tickets : List Ticket) → length (map change_of tickets) ≡ length tickets
length_is [] = refl
length_is (ticket ∷ tickets) = ap suc (length_is tickets)

pub once_none : IsOnce []
unfolding IsDistinct
once_none = record { once = (tt, tt); bounded = λ number among. grind (arith, nat_tests) }

pub once_push : (tickets : List Ticket) (ticket : Ticket) → IsOnce tickets → 1 ≤ ticket.change → ticket.change ≤ 64 → list_any (is_of ticket.change) tickets ≡ false → IsOnce (tickets ++ ticket ∷ [])
once_push tickets ticket old low high new =
    let numbers = 0 ∷ map change_of tickets in
    let is_new : list_any (nat_eq ticket.change) (map change_of tickets) ≡ false = submitted_is tickets ticket.change ∙ new in
    let absent : list_any (nat_eq ticket.change) numbers ≡ false = grind (arith, nat_tests) in
    let whole : numbers ++ ticket.change ∷ [] ≡ 0 ∷ map change_of (tickets ++ ticket ∷ []) = ap (λ l. 0 ∷ l) (sym (pushed tickets ticket)) in
    record {
      once = subst (IsDistinct nat_eq) whole (IsDistinct-push nat_eq_equiv numbers ticket.change old.once absent);
      bounded = λ number among.
          let split : (list_any (nat_eq number) numbers || list_any (nat_eq number) (ticket.change ∷ [])) ≡ true = sym (list_any-append (nat_eq number) numbers (ticket.change ∷ [])) ∙ ap (list_any (nat_eq number)) whole ∙ among in
          let old_bound = old.bounded number in
          grind (arith, nat_tests);
    }

pub at_most : (tickets : List Ticket) → IsOnce tickets → length tickets ≤ 64
at_most tickets once = omega (arith, length-le_from_distinct_below (0 ∷ map change_of tickets) 65 once.once once.bounded, length_is tickets)
