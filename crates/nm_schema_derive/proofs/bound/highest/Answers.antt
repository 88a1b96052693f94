use Rattle.std.proofs.Common.{rules, ap, ◌∙◌, Some, option_map, FitsSigned}
use Rattle.std.specs.Int.{w128}
use Rattle.std.proofs.lemmas.Int.{to_z-of_z}
use Rattle.nm_schema_derive.specs.Bound.{highest, high_end}
use Rattle.nm_schema_derive.proofs.bound.highest.Goals as goal

pub returns-in-Some : goal.returns-in-Some
unfolding highest
returns-in-Some c =
    let fits : FitsSigned w128 c.in-Some.part.now.1 = search rules in
    ap Some (to_z-of_z w128 c.in-Some.part.now.1 fits) ∙ ap (option_map high_end) c.in-Some.ensures.value

pub returns-in-None : goal.returns-in-None
unfolding highest
returns-in-None c = ap (option_map high_end) c.in-None.ensures.value
