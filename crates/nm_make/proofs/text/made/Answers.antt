use Rattle.std.proofs.Common.{◌≤◌, length, ◌∙◌, subst, sym, arith}
use Rattle.nm_make.specs.Drawn.{seeded}
use Rattle.nm_make.proofs.Numbered.{as_many}
use Rattle.nm_make.proofs.text.made.Goals as goal

pub write_scenario-requires : goal.write_scenario-requires
write_scenario-requires c =
    let count = as_many 64 (seeded c.args.number) in
    record { few = subst (λ changes. length changes ≤ 64) (sym (c.as_slice.ensures.value ∙ c.in_ok-changes.ensures)) (omega (arith, count)) }
