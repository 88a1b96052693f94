use Rattle.std.proofs.Common.{◌≡◌, ◌++◌, map}
use Rattle.nm_edit_json.specs.Whole.{node_at, nodes_in}
use Rattle.nm_edit_json.proofs.nodes.Nodes.to_edit.Given as goal

-- the nodes so far and those of what is left make the whole
abbrev pub invariant-loop-path : goal.invariant-loop-path
invariant-loop-path l = l.nodes.items ++ map node_at l.path-iterator ≡ nodes_in l.self
