use Rattle.std.proofs.Common.{map, ap, ◌∙◌}
use Rattle.nm_types.specs.Names.{is_once}
use Rattle.nm_schema_derive.specs.Order.{bit_name, in_order}
use Rattle.nm_schema_derive.proofs.Naming.{once_in_order}
use Rattle.nm_schema_derive.proofs.ordered.names_in_order.Goals as goal

pub new-requires : goal.new-requires
new-requires c =
    ap is_once
    (c.in_ok-bit_names.ensures
    ∙ ap (map bit_name) (c.deref.ensures.value ∙ c.in_ok-sorted.ensures ∙ ap in_order c.in_ok-bits_of.ensures))
    ∙ once_in_order c.args.members.now c.requires.once
