use Rattle.std.proofs.Common.{ℤ, is_some, int_cmp, ap, ◌∙◌}
use Rattle.std.specs.Int.{w64}
use Rattle.std.specs.BTreeMap.{get_by}
use Rattle.std.proofs.lemmas.Int.{to_z-of_z}
use Rattle.nm_schema_derive.specs.Members.{has_number}
use Rattle.nm_schema_derive.proofs.taken.Taken.has_number.Goals as goal

pub returns : goal.returns
returns c =
    c.contains_key.ensures
    ∙ ap (λ (z : ℤ). is_some (get_by (int_cmp z) c.self.inside.numbers)) (to_z-of_z w64 c.args.number c.ranges.number)
    ∙ c.self.invariant.1 c.args.number
    ∙ ap (has_number c.args.number) c.self.view_is
