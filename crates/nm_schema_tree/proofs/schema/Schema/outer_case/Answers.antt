use Rattle.std.proofs.Common.{◌≡◌, ◌∙◌, Some, slice_get, sym, ap, subst}
use Rattle.std.proofs.lemmas.Option.{slice_get-get_or}
use Rattle.nm_schema_tree.specs.Nodes.{SchemaTree, choice_at, around_choice, around_case, outer_case, AreNested}
use Rattle.nm_schema_tree.proofs.Nesting.{falls_by}
use Rattle.nm_schema_tree.proofs.schema.Schema.outer_case.Goals as goal

pub returns-clause-outwards : goal.returns-clause-outwards
returns-clause-outwards c =
    let choices = c.self.inside.choices.items in
    let k = c.in_ok-choice.choice in
    let found = c.in_ok-get.field-0.now in
    let of : choice_at c.self.inside.cases.items c.args.case ≡ Some k = ap (λ (t : SchemaTree). choice_at t.cases c.args.case) c.self.view_is ∙ sym c.in_ok-choice.ensures in
    let lookup = c.in_ok-get.ensures.lookup in
    let there : slice_get choices k ≡ Some found = ap (λ l. slice_get l k) (sym c.deref.ensures.value) ∙ slice_get-get_or c.deref.result.now k found lookup.3.0 ∙ ap Some (sym lookup.1) in
    let is : outer_case choices c.self.inside.cases.items c.args.case ≡ found.case_in = ap (around_case choices) of ∙ ap around_choice there in
    falls_by found.case_in c.args.case (λ o e. c.self.invariant.2.outwards c.args.case o (is ∙ e))
