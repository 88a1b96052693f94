use Rattle.std.proofs.Common.{◌≡◌, ◌∙◌, ℕ, List, Option, filter, length, ap}
use Rattle.std.proofs.lemmas.Result.{IfOk-weaker}
use Rattle.nm_schema_statements.specs.declared.row.Row.{Row}
use Rattle.nm_graph.specs.Value.{values_at}
use Rattle.nm_schema_uses.specs.Config.{is_kept, configuring}
use Rattle.nm_schema_uses.specs.Outline.{Outline}
use Rattle.nm_schema_nodes.specs.Forks.{Forking}
use Rattle.nm_schema_nodes.specs.Choices.{joined_all, forks_of}
use Rattle.nm_schema_nodes.proofs.Leading.{configuring-leading}
use Rattle.nm_schema_nodes.proofs.Forked.{configuring-is, forks-known}
use Rattle.nm_schema_nodes.proofs.choices.Choices.forks_of.Goals as goal

pub gathered-requires : goal.gathered-requires
gathered-requires c =
    let s = c.self.inside.shape.now in
    let here : c.deref-2.result.now ≡ configuring s.rows s.groupings c.args.at =
    c.deref-2.ensures.value ∙ c.in_ok-successors.ensures ∙ ap (λ (rows : List Row). filter (is_kept rows) c.leads_to.result.now) c.rows-rows.ensures ∙ configuring-is s.rows s.groupings c.args.at c.leads_to.result.now c.leads_to.ensures in
    rw (here, c.deref.ensures.value, c.self.invariant.worth.size) (configuring-leading s.rows s.groupings c.laws.ensures c.args.at)

pub returns : goal.returns
returns c =
    let s = c.self.inside.shape.now in
    let here : c.deref-2.result.now ≡ configuring s.rows s.groupings c.args.at =
    c.deref-2.ensures.value ∙ c.in_ok-successors.ensures ∙ ap (λ (rows : List Row). filter (is_kept rows) c.leads_to.result.now) c.rows-rows.ensures ∙ configuring-is s.rows s.groupings c.args.at c.leads_to.result.now c.leads_to.ensures in
    let all : joined_all c.len.result (values_at c.deref.result.now c.deref-2.result.now) ≡ forks_of c.args.self.now.rows c.args.self.now.groupings c.args.at =
    ap (λ (nodes : List ℕ). joined_all c.len.result (values_at c.deref.result.now nodes)) here
    ∙ ap (λ (values : List (Option Forking)). joined_all c.len.result (values_at values (configuring s.rows s.groupings c.args.at))) c.deref.ensures.value
    ∙ ap (λ n. joined_all n (values_at c.self.inside.values.items (configuring s.rows s.groupings c.args.at))) (c.len.ensures ∙ ap (λ (rows : List Row). length rows) c.rows-rows.ensures)
    ∙ forks-known s.rows s.groupings c.self.inside.values.items c.args.at c.laws.ensures c.self.invariant
    ∙ ap (λ (o : Outline). forks_of o.rows o.groupings c.args.at) c.self.view_is in
    IfOk-weaker c.gathered.result (λ forks. forks ≡ joined_all c.len.result (values_at c.deref.result.now c.deref-2.result.now)) (λ forks. forks ≡ forks_of c.args.self.now.rows c.args.self.now.groupings c.args.at) (λ forks e. e ∙ all) c.gathered.ensures
