use Rattle.std.proofs.Common.{◌≡◌, ◌∙◌, List, ℕ, filter, length, sym, ap}
use Rattle.std.proofs.lemmas.Result.{IfOk-weaker}
use Rattle.nm_graph.specs.Value.{all_there, values_at}
use Rattle.nm_schema_uses.specs.Holding.{holding, bringing}
use Rattle.nm_schema_uses.specs.Members.{gathered}
use Rattle.nm_schema_uses.specs.Passing.{is_plain, plain_of}
use Rattle.nm_schema_uses.specs.Passing.{plain_members}
use Rattle.nm_schema_uses.specs.Outline.{Outline}
use Rattle.nm_schema_uses.proofs.Bringing.{picked-known, plain-gathered, gathered-as}
use Rattle.nm_schema_uses.proofs.shape.Shape.plain_members.Goals as goal

pub gathered-requires : goal.gathered-requires
gathered-requires c =
    let here : c.deref-2.result.now ≡ filter (is_plain c.self.inside.rows.now) (holding c.self.inside.rows.now c.self.inside.groupings.now c.args.at) =
    c.deref-2.ensures.value ∙ c.in_ok-successors.ensures ∙ ap (λ (nodes : List ℕ). filter (is_plain c.self.inside.rows.now) nodes) (c.leads_to.ensures ∙ ap (λ (s : Outline). holding s.rows s.groupings c.args.at) (sym c.self.view_is)) in
    rw (here, c.deref.ensures.value) (picked-known c.self.inside.rows.now c.self.inside.groupings.now (is_plain c.self.inside.rows.now) (plain_of (bringing c.self.inside.rows.now c.self.inside.groupings.now) c.self.inside.rows.now)
    c.self.inside.graph.items c.self.inside.plain.items c.args.at c.self.invariant.leads c.self.invariant.within c.self.invariant.bring_plain)

pub returns : goal.returns
returns c =
    let here : c.deref-2.result.now ≡ filter (is_plain c.self.inside.rows.now) (holding c.self.inside.rows.now c.self.inside.groupings.now c.args.at) =
    c.deref-2.ensures.value ∙ c.in_ok-successors.ensures ∙ ap (λ (nodes : List ℕ). filter (is_plain c.self.inside.rows.now) nodes) (c.leads_to.ensures ∙ ap (λ (s : Outline). holding s.rows s.groupings c.args.at) (sym c.self.view_is)) in
    let all : gathered c.len.result (all_there (values_at c.deref.result.now c.deref-2.result.now)) ≡ plain_members c.args.self.now.rows c.args.self.now.groupings c.args.at =
    gathered-as c.len.result (length c.self.inside.rows.now) c.deref.result.now c.self.inside.plain.items c.deref-2.result.now (filter (is_plain c.self.inside.rows.now) (holding c.self.inside.rows.now c.self.inside.groupings.now c.args.at))
    (plain_members c.self.inside.rows.now c.self.inside.groupings.now c.args.at) c.len.ensures c.deref.ensures.value here
    (plain-gathered c.self.inside.rows.now c.self.inside.groupings.now c.self.inside.graph.items c.self.inside.plain.items c.args.at c.self.invariant.leads c.self.invariant.within c.self.invariant.bring_plain)
    ∙ ap (λ (s : Outline). plain_members s.rows s.groupings c.args.at) c.self.view_is in
    IfOk-weaker c.gathered.result (λ nodes. nodes ≡ gathered c.len.result (all_there (values_at c.deref.result.now c.deref-2.result.now))) (λ nodes. nodes ≡ plain_members c.args.self.now.rows c.args.self.now.groupings c.args.at) (λ nodes e. e ∙ all) c.gathered.ensures
