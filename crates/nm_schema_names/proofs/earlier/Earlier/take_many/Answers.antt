use Rattle.std.proofs.Common.{◌||◌, ◌∙◌, List, ℕ, ap}
use Rattle.nm_schema_names.specs.Clash.{Parts, parts, has_part, brought_by}
use Rattle.nm_schema_names.proofs.Parts.{wide_more}
use Rattle.nm_schema_names.proofs.earlier.Earlier.take_many.Goals as goal

pub returns-clause-taken : goal.returns-clause-taken
returns-clause-taken c = λ n.
    ap (λ (wide : List ℕ). has_part c.args.known.now (parts c.self.inside.names wide) n) c.in_ok-push.ensures.items
    ∙ wide_more c.args.known.now c.self.inside.names c.self.inside.wide.items c.args.at n
    ∙ ap (λ (p : Parts). brought_by c.args.known.now c.args.at n || has_part c.args.known.now p n) c.self.view_is
