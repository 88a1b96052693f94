use Rattle.std.proofs.Common.{◌≡◌, [], None, refl, rules, arith}
use Rattle.std.proofs.lemmas.Grind.{common_steps}
use Rattle.nm_schema_tree.specs.Levels.{IsIndexed, IsTree, found_top}
use Rattle.nm_schema_tree.proofs.Indexes.{none_indexed, none_tree}
use Rattle.nm_schema_tree.proofs.Nesting.{none_nested}
use Rattle.nm_schema_tree.proofs.schema.Schema.new.Goals as goal

pub invariant_of-result : goal.invariant_of-result
invariant_of-result c =
    rw (c.new.ensures.items, c.new-2.ensures.items, c.new-3.ensures.items, c.new-4.ensures.items) (none_tree, none_indexed c.new-5.result (λ o q. rw c.new-5.ensures.empty refl), none_nested)
