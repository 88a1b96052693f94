use Rattle.std.proofs.Common.{rules, ℕ, List}
use Rattle.std.proofs.lemmas.List.Sorted.{IsNonDecreasingBy-from_sort_by_key, answers_always}
use Rattle.nm_schema_derive.proofs.Sorting.{sorted_is}
use Rattle.nm_schema_derive.proofs.ordered.in_order.Goals as goal

pub returns : goal.returns
returns c =
    sorted_is c.args.bits.items c.sort_by_key.new.self.items
    (IsNonDecreasingBy-from_sort_by_key (λ (bit : List ℕ × ℕ). bit.1) _ c.in_ok-sort_by_key.ensures.sorted (λ a r q k. search rules))
    (c.sort_by_key.ensures.stable (λ (bit : List ℕ × ℕ). bit.1) (answers_always _ _ _ (λ f a r g h. search rules)))
