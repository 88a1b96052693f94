-- What is finished isn't ready.
use Rattle.std.proofs.Common.{◌≡◌, ℕ, List, [], ◌∷◌, ◌++◌, Bool, true, false, not, ◌&&◌, ◌||◌, cond, refl, sym, ap, ◌∙◌, arith}
use Rattle.std.proofs.lemmas.Bool.Decides.{nat_tests}
use Rattle.std.specs.List.{list_any}
use Rattle.nm_base.specs.Mask.{mask_contains}
use Rattle.nm_order.specs.declared.ticket.Ticket.{Ticket}
use Rattle.nm_order.specs.Queue.{is_of, heads_all, waits_for, ready_behind}

module _ (finished change : ℕ) (done : mask_contains finished change ≡ true) where
  -- a ticket that heads its queues is another's
  another : (before : List Ticket) (ticket : Ticket) (b : Bool) → is_of change ticket ≡ b → heads_all finished before ticket ≡ true → b ≡ false
  another before ticket false is heads = refl
  another before ticket true is heads =
      let same : change ≡ ticket.change = grind (arith, nat_tests, is) in
      let bad : false ≡ true = sym (ap (λ n. not (mask_contains finished n) && not (list_any (waits_for finished ticket) before)) (sym same)
      ∙ ap (λ b. not b && not (list_any (waits_for finished ticket) before)) done) ∙ heads in
      absurd (cc bad)

  behind : (before : List Ticket) (ticket : Ticket) (rest : List Ticket) (b : Bool) → heads_all finished before ticket ≡ b → list_any (is_of change) rest ≡ false
      → list_any (is_of change) (cond b (ticket ∷ rest) rest) ≡ false
  behind before ticket rest false heads none = none
  behind before ticket rest true heads none = ap (λ b. b || list_any (is_of change) rest) (another before ticket (is_of change ticket) refl heads) ∙ none

  pub not_ready : (before later : List Ticket) → list_any (is_of change) (ready_behind finished before later) ≡ false
  not_ready before [] = refl
  not_ready before (ticket ∷ later) =
      behind before ticket (ready_behind finished (before ++ ticket ∷ []) later) (heads_all finished before ticket) refl (not_ready (before ++ ticket ∷ []) later)
