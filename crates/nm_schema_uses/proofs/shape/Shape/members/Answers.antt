use Rattle.std.proofs.Common.{◌≡◌, ◌∙◌, List, ℕ, Option, sym, ap}
use Rattle.std.proofs.lemmas.Result.{IfOk-weaker}
use Rattle.nm_graph.specs.Value.{all_there, values_at}
use Rattle.nm_schema_uses.specs.Holding.{holding}
use Rattle.nm_schema_uses.specs.Members.{gathered, members}
use Rattle.nm_schema_uses.specs.Outline.{Outline}
use Rattle.nm_schema_uses.proofs.Bringing.{all-known, members-gathered}
use Rattle.nm_schema_uses.proofs.shape.Shape.members.Goals as goal

pub gathered-requires : goal.gathered-requires
gathered-requires c =
    let here : c.leads_to-successors.result.now ≡ holding c.self.inside.rows.now c.self.inside.groupings.now c.args.at = c.leads_to-successors.ensures ∙ ap (λ (s : Outline). holding s.rows s.groupings c.args.at) (sym c.self.view_is) in
    rw (here, c.deref.ensures.value) (all-known c.self.inside.rows.now c.self.inside.groupings.now c.self.inside.graph.items c.self.inside.brought.items c.args.at c.self.invariant.leads c.self.invariant.within c.self.invariant.bring)

pub returns : goal.returns
returns c =
    let here : c.leads_to-successors.result.now ≡ holding c.self.inside.rows.now c.self.inside.groupings.now c.args.at = c.leads_to-successors.ensures ∙ ap (λ (s : Outline). holding s.rows s.groupings c.args.at) (sym c.self.view_is) in
    let all : gathered c.len.result (all_there (values_at c.deref.result.now c.leads_to-successors.result.now)) ≡ members c.args.self.now.rows c.args.self.now.groupings c.args.at =
    ap (λ (nodes : List ℕ). gathered c.len.result (all_there (values_at c.deref.result.now nodes))) here
    ∙ ap (λ (known : List (Option (List ℕ))). gathered c.len.result (all_there (values_at known (holding c.self.inside.rows.now c.self.inside.groupings.now c.args.at)))) c.deref.ensures.value
    ∙ ap (λ n. gathered n (all_there (values_at c.self.inside.brought.items (holding c.self.inside.rows.now c.self.inside.groupings.now c.args.at)))) c.len.ensures
    ∙ members-gathered c.self.inside.rows.now c.self.inside.groupings.now c.self.inside.graph.items c.self.inside.brought.items c.args.at c.self.invariant.leads c.self.invariant.within c.self.invariant.bring
    ∙ ap (λ (s : Outline). members s.rows s.groupings c.args.at) c.self.view_is in
    IfOk-weaker c.gathered.result (λ nodes. nodes ≡ gathered c.len.result (all_there (values_at c.deref.result.now c.leads_to-successors.result.now))) (λ nodes. nodes ≡ members c.args.self.now.rows c.args.self.now.groupings c.args.at) (λ nodes e. e ∙ all) c.gathered.ensures
