use Rattle.std.proofs.Common.{◌≡◌, ◌∙◌, sym, refl}
use Rattle.std.specs.Ordering.{ordering_then, nat_cmp}
use Rattle.std.specs.Cmp.Lexicographic.{slice_cmp}
use Rattle.nm_types.specs.Path.{PathStep, at_top, choice_cmp, printed_cmp}
use Rattle.nm_types.specs.Chosen.{choice_of}
use Rattle.nm_types.proofs.Paths.{printed_cmp-one_module}
use Rattle.nm_types.proofs.path.Step.order_at_top.Goals as goal

pub returns-then-same : goal.returns-then-same
returns-then-same c =
    let ours : PathStep = record { «module» = c.self.inside.module; name = c.self.inside.name; chosen = choice_of c.self.inside.chosen } in
    let theirs : PathStep = record { «module» = c.other.inside.module; name = c.other.inside.name; chosen = choice_of c.other.inside.chosen } in
    let one = printed_cmp-one_module ours theirs (c.if-same.ensures.0 refl) in
    let views : printed_cmp (at_top ours) (at_top theirs) ≡ printed_cmp (at_top c.args.self.now) (at_top c.args.other.now) = λ i. printed_cmp (at_top (c.self.view_is i)) (at_top (c.other.view_is i)) in
    c.order_in_module.ensures ∙ (λ i. ordering_then (slice_cmp nat_cmp (sym c.self.view_is i).name (sym c.other.view_is i).name) (choice_cmp (sym c.self.view_is i).chosen (sym c.other.view_is i).chosen)) ∙ one ∙ views
