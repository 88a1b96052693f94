use Rattle.std.proofs.Common.{◌≡◌, drop}
use Rattle.nm_device.specs.Part.{nodes_named}
use Rattle.nm_device.proofs.Named.{onto}
use Rattle.nm_device.proofs.partials.nodes_named.Given as goal

-- the nodes so far, before those of the texts that are left
abbrev pub invariant-loop-text : goal.invariant-loop-text
invariant-loop-text g l = onto l.nodes.items (nodes_named (g.C.Content.meaning l.content) (drop l.text-index l.texts)) ≡ nodes_named (g.C.Content.meaning l.content) l.texts
