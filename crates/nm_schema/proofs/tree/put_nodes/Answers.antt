use Rattle.std.proofs.Common.{◌≡◌, ◌∙◌, List, length, ap, refl, arith}
use Rattle.nm_schema_nodes.specs.declared.instance.Instance.{Instance}
use Rattle.nm_schema_nodes.specs.Expansion.{Expanded}
use Rattle.nm_schema.proofs.Putting.{none-put, all-known}
use Rattle.nm_schema.proofs.tree.put_nodes.Goals as goal

pub loop-number-init : goal.loop-number-init
loop-number-init c = record {
  put = none-put c.args.grounds.now.rows c.args.grounds.now.facts c.args.schema.now.nodes c.requires.none;
  modules = refl;
  choices = refl;
  cases = refl;
}

pub put_node-requires-clause-known : goal.put_node-requires-clause-known
put_node-requires-clause-known c =
    let all : c.nodes-count.result.now ≡ c.args.grounds.now.facts.nodes = c.nodes-count.ensures ∙ ap (λ (t : Expanded). t.nodes) c.expansion-expansion.ensures in
    c.requires.known c.loop-number.number (omega (arith, ap (λ (l : List Instance). length l) all))

pub returns-clause-nodes : goal.returns-clause-nodes
returns-clause-nodes c =
    let all : c.nodes-count.result.now ≡ c.args.grounds.now.facts.nodes = c.nodes-count.ensures ∙ ap (λ (t : Expanded). t.nodes) c.expansion-expansion.ensures in
    all-known c.args.grounds.now.rows c.args.grounds.now.facts c.loop-number.number c.loop-number.schema.nodes c.loop-number.invariant.put (omega (arith, ap (λ (l : List Instance). length l) all))
